-- What the job program prints for a file.
use Rattle.std.specs.Prelude.{ℕ, List, ◌++◌, length, Ok, Err, Result}
use Rattle.text.specs.declared.refusal.Refusal.{Refusal}
use Rattle.runs.specs.Words.{hits, trace}
use Rattle.signature.specs.Outcomes.{Plan}
use Rattle.events.specs.Searches.{pattern_in, searchable}
use Rattle.job.specs.Files.{parts_of}
use Rattle.job.specs.Printed.{text_of_refusal, hit_lines, last_line}

-- a line for each hit, lowest first, with its trace, and a line with the number of hits and of readings; or the refusal's line
abbrev pub found : List ℕ → Result (Plan ℕ) Refusal → List ℕ
found xs (Ok p) = hit_lines (trace (pattern_in p) xs) (hits (pattern_in p) xs) ++ last_line (length (hits (pattern_in p) xs)) (length xs)
found xs (Err e) = text_of_refusal e

-- the word engine, whose limit is 64, searches the codes with a sheet as long as they are
abbrev pub printed : Result (List ℕ × List ℕ) Refusal → List ℕ
printed (Ok parts) = found parts.1 (searchable 64 parts.0 (length parts.1) (length parts.1))
printed (Err e) = text_of_refusal e

unfoldable pub job_text : List ℕ → List ℕ
job_text file = printed (parts_of file)
