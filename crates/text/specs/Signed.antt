-- How a signed number is read: digits, perhaps behind a `-`, from -2147483648 to 2147483647.
use Rattle.std.specs.Prelude.{ℕ, ◌+◌, cond, List, drop, ℤ, pos, neg_ℤ, Ok, Err, Result, ◌==◌, nat_le}
use Rattle.std.specs.List.{prefix_len}
use Rattle.text.specs.declared.mark.Mark.TheVariants.{Dash}
use Rattle.text.specs.declared.parsed.Parsed.{Parsed}
use Rattle.text.specs.declared.refusal.Refusal.{Refusal}
use Rattle.text.specs.declared.refusal.Refusal.TheVariants.{NoDigit, OutOfRange}
use Rattle.text.specs.Words.{is_digit, digits_at, place_in}
use Rattle.text.specs.Numbers.{value_of}
use Rattle.text.specs.Marks.{is_mark}

-- digits from `from` on, no more than the limit, of a number that begins at `at`
abbrev pub signed_by : (ℕ → ℤ) → ℕ → List ℕ → ℕ → ℕ → Result (Parsed ℤ) Refusal
signed_by sign limit s at from =
    cond (prefix_len is_digit (drop from s) == 0) (Err (NoDigit (place_in s from)))
    (cond (nat_le (value_of (digits_at s from)) limit) (Ok (record { value = sign (value_of (digits_at s from)); end = from + prefix_len is_digit (drop from s) })) (Err (OutOfRange at)))

-- behind a `-` the number is taken from 0
abbrev pub signed_at : List ℕ → ℕ → Result (Parsed ℤ) Refusal
signed_at s at = cond (is_mark Dash s at) (signed_by (λ n. neg_ℤ (pos n)) 2147483648 s at (at + 1)) (signed_by pos 2147483647 s at at)
