-- Where a number, a signed number and a mark end.
use Rattle.std.proofs.Common.{◌≡◌, ℕ, ◌+◌, ◌<◌, ◌≤◌, true, false, ◌⊎◌, List, ℤ, length, drop, Ok, Err, inl, inr, arith, length-drop}
use Rattle.std.proofs.lemmas.List.{get_or_past}
use Rattle.std.proofs.lemmas.List.Sums.{prefix_len-le-length, prefix_len-drop_all}
use Rattle.std.proofs.lemmas.Bool.{cases_lt}
use Rattle.std.proofs.lemmas.Bool.Decides.{nat_tests}
use Rattle.text.specs.declared.mark.Mark.{Mark}
use Rattle.text.specs.declared.mark.Mark.TheVariants.{Dash}
use Rattle.text.specs.declared.refusal.Layer.{Layer}
use Rattle.text.specs.declared.refusal.Refusal.TheVariants.{NoDigit}
use Rattle.text.specs.declared.parsed.Parsed.{Parsed}
use Rattle.text.specs.Parsed.{Ahead}
use Rattle.text.specs.Words.{is_digit}
use Rattle.text.specs.Numbers.{number_at}
use Rattle.text.specs.Marks.{is_mark, mark_taken}
use Rattle.text.specs.Signed.{signed_at}
use Rattle.text.proofs.Marks.{mark_no_digit}

pub number_within : (limit : ℕ) (s : List ℕ) (at : ℕ) (n : Parsed ℕ) → number_at limit s at ≡ Ok n → Ahead s at n
number_within limit s at n is =
    let front = prefix_len-le-length is_digit (drop at s) in
    let rest = length-drop at s in
    (grind (arith, nat_tests), grind (arith, nat_tests))

pub number_past : (limit : ℕ) (s : List ℕ) (at : ℕ) → length s ≤ at → number_at limit s at ≡ Err (NoDigit (length s))
number_past limit s at l = let none = prefix_len-drop_all is_digit s at l in grind (arith, nat_tests)

-- a mark stands within the text
pub mark_inside : (m : Mark) (s : List ℕ) (at : ℕ) → is_mark m s at ≡ true → at < length s
mark_inside m s at is = go (cases_lt at (length s))
  where
    go : (at < length s) ⊎ (length s ≤ at) → at < length s
    go (inl l) = l
    go (inr l) = absurd ((mark_no_digit m).1 (grind (arith, nat_tests, get_or_past)))

pub mark_past : (m : Mark) (s : List ℕ) (at : ℕ) → length s ≤ at → is_mark m s at ≡ false
mark_past m s at l = let none = (mark_no_digit m).1 in grind (arith, nat_tests, get_or_past)

pub mark_within : (l : Layer) (m : Mark) (s : List ℕ) (at e : ℕ) → mark_taken l m s at ≡ Ok e → (e ≡ at + 1) × (e ≤ length s)
mark_within l m s at e is =
    let t : is_mark m s at ≡ true = grind (arith, nat_tests) in
    let in' = mark_inside m s at t in
    (grind (arith, nat_tests), grind (arith, nat_tests))

pub signed_within : (s : List ℕ) (at : ℕ) (n : Parsed ℤ) → signed_at s at ≡ Ok n → Ahead s at n
signed_within s at n is =
    let front = prefix_len-le-length is_digit (drop at s) in
    let rest = length-drop at s in
    let front' = prefix_len-le-length is_digit (drop (at + 1) s) in
    let rest' = length-drop (at + 1) s in
    (grind (arith, nat_tests), grind (arith, nat_tests))

pub signed_past : (s : List ℕ) (at : ℕ) → length s ≤ at → signed_at s at ≡ Err (NoDigit (length s))
signed_past s at l =
    let none = prefix_len-drop_all is_digit s at l in
    let bare = mark_past Dash s at l in
    grind (arith, nat_tests)
