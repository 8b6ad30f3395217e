-- Marks and numbers are read just where the grammar has them.
use Rattle.std.proofs.Common.{◌≡◌, ℕ, ◌+◌, ◌-◌, ◌<◌, ◌≤◌, Bool, true, false, eqb, ◌⊎◌, List, length, get_or, drop, Ok, Err, sym, refl, ap, ◌∙◌, inl, inr, ⊎_elim, arith, get_or-drop}
use Rattle.std.specs.List.{prefix_len}
use Rattle.std.proofs.lemmas.List.{get_or_past}
use Rattle.std.proofs.lemmas.List.Sums.{prefix_len_passes, prefix_len_stops, prefix_len_is}
use Rattle.std.proofs.lemmas.Bool.{cases_Bool, cases_lt}
use Rattle.std.proofs.lemmas.Bool.Decides.{nat_tests}
use Rattle.text.specs.declared.mark.Mark.{Mark}
use Rattle.text.specs.declared.parsed.Parsed.{Parsed}
use Rattle.text.specs.declared.refusal.Layer.{Layer}
use Rattle.text.specs.declared.refusal.Refusal.{Refusal}
use Rattle.text.specs.declared.refusal.Refusal.TheVariants.{NoDigit, OutOfRange}
use Rattle.text.specs.Words.{is_digit, digits_at, place_in}
use Rattle.text.specs.Numbers.{value_of, number_at}
use Rattle.text.specs.Marks.{code_of, is_mark, mark_taken}
use Rattle.text.specs.Grammar.{MarkText, NumberText}
use Rattle.text.proofs.Marks.{mark_no_digit}

-- what ends the longest front that passes does not pass
leading_stops : (p : ℕ → Bool) (xs : List ℕ) → p 0 ≡ false → p (get_or xs (prefix_len p xs) 0) ≡ false
leading_stops p xs z =
    ⊎_elim
    (λ (l : prefix_len p xs < length xs). prefix_len_stops p xs 0 l)
    (λ (l : length xs ≤ prefix_len p xs). ap p (get_or_past xs (prefix_len p xs) 0 l) ∙ z)
    (cases_lt (prefix_len p xs) (length xs))

-- a front that passes and what does not behind it is the longest
leading_is : (p : ℕ → Bool) (xs : List ℕ) (n : ℕ) → p 0 ≡ false → ((k : ℕ) → k < n → p (get_or xs k 0) ≡ true) → p (get_or xs n 0) ≡ false → prefix_len p xs ≡ n
leading_is p xs n z all stop =
    let past = get_or_past xs (length xs) 0 (omega arith) in
    let all' = all (length xs) in
    prefix_len_is p xs n 0 (grind arith) all (λ l. stop)

module _ (s : List ℕ) (a : ℕ) where
  -- a mark is taken just where it stands
  pub mark_sound : (l : Layer) (m : Mark) (b : ℕ) → mark_taken l m s a ≡ Ok b → MarkText m s a b
  mark_sound l m b is = record { stands = grind (arith, nat_tests); behind = grind (arith, nat_tests) }

  pub mark_complete : (l : Layer) (m : Mark) (b : ℕ) → MarkText m s a b → mark_taken l m s a ≡ Ok b
  mark_complete l m b t = rw t.stands (ap Ok (sym t.behind))

  pub number_sound : (limit : ℕ) (n : Parsed ℕ) → number_at limit s a ≡ Ok n → NumberText s a n.end n.value × (n.value ≤ limit)
  number_sound limit n is =
      let k = prefix_len is_digit (drop a s) in
      let told : (n.end ≡ a + prefix_len is_digit (drop a s)) × (n.value ≡ value_of (digits_at s a)) × (n.value ≤ limit) × (0 < prefix_len is_digit (drop a s)) = grind (arith, nat_tests) in
      let far : n.end - a ≡ prefix_len is_digit (drop a s) = omega arith in (
        record {
          some = omega arith;
          digits = λ j l m.
              let at : a + (j - a) ≡ j = omega arith in
              ap (λ i. is_digit (get_or s i 0)) (sym at) ∙ ap is_digit (sym (get_or-drop a s (j - a) 0)) ∙ prefix_len_passes is_digit (drop a s) (j - a) 0 (omega arith);
          stops = ap (λ i. is_digit (get_or s i 0)) told.0 ∙ ap is_digit (sym (get_or-drop a s k 0)) ∙ leading_stops is_digit (drop a s) refl;
          value = rw far (sym told.1);
        },
        told.2,
      )

  pub number_complete : (limit b v : ℕ) → NumberText s a b v → v ≤ limit → number_at limit s a ≡ Ok (record { value = v; end = b })
  number_complete limit b v t few =
      let some = t.some in
      let on : a + (b - a) ≡ b = omega arith in
      let run : prefix_len is_digit (drop a s) ≡ b - a = leading_is is_digit (drop a s) (b - a) refl
      (λ k l. ap is_digit (get_or-drop a s k 0) ∙ t.digits (a + k) (omega arith) (omega arith))
      (ap is_digit (get_or-drop a s (b - a) 0) ∙ ap (λ i. is_digit (get_or s i 0)) on ∙ t.stops) in
      let value : value_of (digits_at s a) ≡ v = rw run t.value in
      grind (arith, nat_tests)

  -- a number is refused where no digit stands, or where it is too large
  pub number_none : (limit : ℕ) → is_digit (get_or s a 0) ≡ false → number_at limit s a ≡ Err (NoDigit (place_in s a))
  number_none limit stop =
      let here : a + 0 ≡ a = omega arith in
      let run : prefix_len is_digit (drop a s) ≡ 0 = leading_is is_digit (drop a s) 0 refl (λ k l. absurd (omega arith)) (ap is_digit (get_or-drop a s 0 0) ∙ ap (λ i. is_digit (get_or s i 0)) here ∙ stop) in
      rw run refl

  pub number_refused : (limit : ℕ) (x : Refusal) → number_at limit s a ≡ Err x → ((is_digit (get_or s a 0) ≡ false) × (x ≡ NoDigit (place_in s a))) ⊎ (x ≡ OutOfRange a)
  number_refused limit x is =
      ⊎_elim
      (λ (t : is_digit (get_or s a 0) ≡ true). inr (
      let here : a + 0 ≡ a = omega arith in
      let first : is_digit (get_or (drop a s) 0 0) ≡ true = ap is_digit (get_or-drop a s 0 0) ∙ ap (λ i. is_digit (get_or s i 0)) here ∙ t in
      let some : prefix_len is_digit (drop a s) ≡ 0 → ⊥ = λ z. let stop = leading_stops is_digit (drop a s) refl in grind (arith, nat_tests) in
      grind (arith, nat_tests)))
      (λ (f : is_digit (get_or s a 0) ≡ false). inl (f, let is' = number_none limit f in cc))
      (cases_Bool (is_digit (get_or s a 0)))

-- a digit is no mark
pub digit_no_mark : (m : Mark) (s : List ℕ) (a : ℕ) → is_digit (get_or s a 0) ≡ true → is_mark m s a ≡ false
digit_no_mark m s a d = let none = (mark_no_digit m).0 in go (cases_Bool (is_mark m s a))
  where
    go : (is_mark m s a ≡ true) ⊎ (is_mark m s a ≡ false) → is_mark m s a ≡ false
    go (inl t) = absurd (let same : get_or s a 0 ≡ code_of m = grind (arith, nat_tests) in grind (arith, ap is_digit same))
    go (inr f) = f

-- where one mark stands, no other does
pub one_mark : (m n : Mark) (s : List ℕ) (a : ℕ) → eqb (code_of m) (code_of n) ≡ false → is_mark m s a ≡ true → is_mark n s a ≡ false
one_mark m n s a other is = let same : get_or s a 0 ≡ code_of m = grind (arith, nat_tests) in rw same other
