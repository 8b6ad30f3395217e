-- Job files: eight bytes of header, the text of a signature, and event codes.
use Rattle.std.specs.Prelude.{ℕ, ◌+◌, ◌*◌, min, cond, ◌||◌, List, length, take, drop, Ok, Err, Result, ◌==◌, nat_lt, slice_index}
use Rattle.text.specs.declared.refusal.Refusal.{Refusal}
use Rattle.text.specs.declared.refusal.Refusal.TheVariants.{FileSize, FileParts}
use Rattle.job.specs.declared.job_file.Parts.{Parts}

-- the number of four bytes from a place on, low byte first
abbrev pub number_from : List ℕ → ℕ → ℕ
number_from s at = slice_index s at + slice_index s (at + 1) * 256 + slice_index s (at + 2) * 65536 + slice_index s (at + 3) * 16777216

-- the length of the text, and the count of readings
abbrev pub text_length : List ℕ → ℕ
text_length file = number_from file 0

abbrev pub code_count : List ℕ → ℕ
code_count file = number_from file 4

-- the text and the codes: from 8 to 16,384 bytes in all, and as many as the header says
abbrev pub parts_of : List ℕ → Result (List ℕ × List ℕ) Refusal
parts_of file =
    cond (nat_lt (length file) 8 || nat_lt 16384 (length file)) (Err (FileSize (min (length file) 16385)))
    (cond (8 + text_length file + code_count file == length file)
    (Ok (take (text_length file) (drop 8 file), drop (8 + text_length file) file))
    (Err (FileParts (length file))))

-- what the parts hold
abbrev pub held : Result Parts Refusal → Result (List ℕ × List ℕ) Refusal
held (Ok p) = Ok (p.text.now, p.codes.now)
held (Err e) = Err e
