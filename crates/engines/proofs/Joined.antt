-- Steps after steps.
use Rattle.std.proofs.Common.{◌≡◌, ℕ, suc, ◌+◌, ◌-◌, ◌<◌, ◌≤◌, List, ◌++◌, length, get_or, take, drop, sym, ap, ◌∙◌, subst, arith}
use Rattle.std.proofs.lemmas.List.{get_or-drop, get_or-take, get_or_append_left, length-take-le, drop_at}
use Rattle.runs.specs.declared.signature.Signature.{Signature}
use Rattle.engines.specs.Memory.{Memory, Stepped, Moved, Same, Steps}
use Rattle.engines.specs.Memory.Steps.{none, more}
use Rattle.engines.specs.Masked.{masks_say}
use Rattle.engines.proofs.Chains.{moved_to, steps_alike}
use Rattle.engines.proofs.Placed.{put_below, put_in}
use borrow.Rule.Slice.PartMut.{mid_of, put_mid}
use Rattle.engines.specs.Strips.{Stepped64}

module _ (s : Signature) where
  -- to a memory that says the same
  steps_to : (fits words : List ℕ) (says middle after : Memory) (n : ℕ) → Same s middle after → Steps s fits words says n middle → Steps s fits words says n after
  steps_to fits words says middle after _ same (none first) = none (λ j d lj ld. same j d lj ld ∙ first j d lj ld)
  steps_to fits words says middle after _ same (more before stepped moved) = more before stepped (moved_to s _ middle after _ same moved)

  -- from other fits, of which the first n are the same
  steps_fits : (fits others words : List ℕ) (says after : Memory) (n : ℕ) → ((k : ℕ) → k < n → get_or fits k 0 ≡ get_or others k 0) → Steps s fits words says n after → Steps s others words says n after
  steps_fits fits others words says after _ e (none same) = none same
  steps_fits fits others words says after _ e (more {n = n} {middle = middle} before stepped moved) =
      more (steps_fits fits others words says middle n (λ k l. e k (omega arith)) before)
      (subst (λ f. Stepped s middle f (get_or words n 0)) (e n (omega arith)) stepped) moved

  -- m steps from place n on, after n steps
  steps_join : (fits words : List ℕ) (says middle : Memory) (n : ℕ) (after : Memory) (m : ℕ) → Steps s fits words says n middle → Steps s (drop n fits) (drop n words) middle m after → Steps s fits words says (n + m) after
  steps_join fits words says middle n after _ first (none same) =
      let e : n ≡ n + 0 = omega arith in
      subst (λ i. Steps s fits words says i after) e (steps_to fits words says middle after n same first)
  steps_join fits words says middle n after _ first (more {n = m} {middle = next} before stepped moved) =
      let e : suc (n + m) ≡ n + suc m = omega arith in
      let f = get_or-drop n fits m 0 in
      let v = get_or-drop n words m 0 in
      subst (λ i. Steps s fits words says i after) e
      (more (steps_join fits words says middle n next m first before)
      (subst (λ y. Stepped s next y (get_or words (n + m) 0)) f (subst (λ y. Stepped s next (get_or (drop n fits) m 0) y) v stepped))
      (subst (λ y. Moved s next y after) v moved))

  -- one strip more, in place of its fits
  pub steps_strip : (fits words strip : List ℕ) (says : Memory) (masks after : List ℕ) (n k : ℕ) → k ≡ 64 → n + 64 ≤ length words → length strip ≡ 64
      → Steps s fits words says n (masks_say masks) → ((i : ℕ) → n ≤ i → get_or words i 0 ≡ get_or fits i 0) → Stepped64 s (mid_of n k words) strip masks after
      → Steps s fits (put_mid n k words strip) says (n + 64) (masks_say after)
  steps_strip fits words strip says masks after n k e room long first rest stepped =
      let new = put_mid n k words strip in
      let below : n ≤ length words = omega arith in
      let was : (i : ℕ) → i < 64 → get_or (mid_of n k words) i 0 ≡ get_or (drop n fits) i 0 =
      λ i l. get_or-take k (drop n words) i 0 (omega arith) ∙ get_or-drop n words i 0 ∙ rest (n + i) (omega arith) ∙ sym (get_or-drop n fits i 0) in
      let is : (i : ℕ) → i < 64 → get_or strip i 0 ≡ get_or (drop n new) i 0 =
      λ i l. let q : n + i - n ≡ i = omega arith in sym (get_or-drop n new i 0 ∙ put_in n k words strip below (n + i) (omega arith) (omega arith) ∙ ap (λ i. get_or strip i 0) q) in
      steps_join fits new says (masks_say masks) n (masks_say after) 64 (steps_alike s fits words new says (masks_say masks) n (λ i l. sym (put_below n k words strip below i l)) first)
      (steps_alike s (drop n fits) strip (drop n new) (masks_say masks) (masks_say after) 64 is (steps_fits (mid_of n k words) (drop n fits) strip (masks_say masks) (masks_say after) 64 was stepped))

  -- from place n on one step after another
  pub steps_rest : (fits words rest : List ℕ) (says middle after : Memory) (n : ℕ) → n ≤ length words → Steps s fits words says n middle → ((k : ℕ) → n ≤ k → get_or words k 0 ≡ get_or fits k 0)
      → Steps s (drop n words) rest middle (length rest) after → Steps s fits (take n words ++ rest) says (n + length rest) after
  steps_rest fits words rest says middle after n l first same steps =
      let front : length (take n words) ≡ n = length-take-le n words l in
      steps_join fits (take n words ++ rest) says middle n after (length rest)
      (steps_alike s fits words (take n words ++ rest) says middle n
      (λ k h. let lt : k < length (take n words) = omega arith in sym (get_or_append_left (take n words) rest 0 k lt ∙ get_or-take n words k 0 h)) first)
      (subst (λ (ws : List ℕ). Steps s (drop n fits) ws middle (length rest) after) (sym (drop_at (take n words) rest n front))
      (steps_fits (drop n words) (drop n fits) rest middle after (length rest) (λ k h. get_or-drop n words k 0 ∙ same (n + k) (omega arith) ∙ sym (get_or-drop n fits k 0)) steps))
