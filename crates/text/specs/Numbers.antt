-- What a number's digits are worth, and how a number is read.
use Rattle.std.specs.Prelude.{ℕ, ◌+◌, ◌-◌, ◌*◌, cond, List, [], ◌∷◌, drop, Some, None, Ok, Err, Option, Result, ◌==◌, nat_le}
use Rattle.std.specs.List.{prefix_len}
use Rattle.text.specs.declared.parsed.Parsed.{Parsed}
use Rattle.text.specs.declared.refusal.Refusal.{Refusal}
use Rattle.text.specs.declared.refusal.Refusal.TheVariants.{NoDigit, OutOfRange}
use Rattle.text.specs.Words.{is_digit, digits_at, place_in}

-- the number that digits write behind those of n
abbrev pub value_after : ℕ → List ℕ → ℕ
value_after n [] = n
value_after n (d ∷ ds) = value_after (n * 10 + (d - 48)) ds

abbrev pub value_of : List ℕ → ℕ
value_of ds = value_after 0 ds

abbrev pub within : ℕ → ℕ → Option ℕ
within limit v = cond (nat_le v limit) (Some v) None

-- the number that begins at a place: its digits as far as they go, and no more than the limit
abbrev pub number_at : ℕ → List ℕ → ℕ → Result (Parsed ℕ) Refusal
number_at limit s at =
    cond (prefix_len is_digit (drop at s) == 0) (Err (NoDigit (place_in s at)))
    (cond (nat_le (value_of (digits_at s at)) limit) (Ok (record { value = value_of (digits_at s at); end = at + prefix_len is_digit (drop at s) })) (Err (OutOfRange at)))
