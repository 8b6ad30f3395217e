-- The words of a text: digit words, marks, and the end.
use Rattle.std.specs.Prelude.{ℕ, min, Bool, cond, List, length, take, drop, ◌==◌, nat_le}
use Rattle.std.specs.List.{prefix_len}
use Rattle.std.specs.Char.{is_ascii_digit}
use Rattle.text.specs.declared.lexer.Word.{Word}
use Rattle.text.specs.declared.lexer.Word.TheVariants.{Digits, Mark, End}

abbrev pub is_digit : ℕ → Bool
is_digit b = is_ascii_digit b

-- a place past the text counts as its end
abbrev pub place_in : List ℕ → ℕ → ℕ
place_in s at = min at (length s)

-- the digits from a place on, all that stand there
abbrev pub digits_at : List ℕ → ℕ → List ℕ
digits_at s at = take (prefix_len is_digit (drop at s)) (drop at s)

-- what a word holds: its bytes and its place
pub data Held : Type 0 where
  digits : List ℕ → ℕ → Held
  mark : List ℕ → ℕ → Held
  end : ℕ → Held

abbrev pub seen : Word → Held
seen (Digits t p) = digits t.now p
seen (Mark t p) = mark t.now p
seen (End p) = end p

-- the word that begins at a place
abbrev pub word_at : List ℕ → ℕ → Held
word_at s at =
    cond (nat_le (length s) at) (end (length s))
    (cond (prefix_len is_digit (drop at s) == 0) (mark (take 1 (drop at s)) at) (digits (digits_at s at) at))
