-- Steps one after another.
use Rattle.std.proofs.Common.{◌≡◌, ℕ, suc, ◌+◌, ◌<◌, ◌≤◌, ◌≢◌, List, [], ◌∷◌, ◌++◌, reverse, length, get_or, take, set, sym, refl, ap, ◌∙◌, subst, ⊎_elim, append_assoc, append-nil, arith, get_or-set_other, get_or-set_same}
use Rattle.std.proofs.lemmas.List.{take_more}
use Rattle.std.proofs.lemmas.Bool.{cases_lt}
use Rattle.runs.specs.declared.signature.Signature.{Signature}
use Rattle.runs.specs.Bits.{bit}
use Rattle.engines.specs.Memory.{Memory, Stepped, Moved, Recalls, Same, Steps}
use Rattle.engines.specs.Memory.Steps.{none, more}
use Rattle.engines.proofs.Recalled.{recalls_push}

module _ (s : Signature) where
  -- no step yet
  pub steps_none : (fits words : List ℕ) (says : Memory) → Steps s fits words says 0 says
  steps_none fits words says = none (λ j d _ _. refl)

  -- other words, of which the first n are the same
  pub steps_alike : (fits words others : List ℕ) (says after : Memory) (n : ℕ) → ((k : ℕ) → k < n → get_or words k 0 ≡ get_or others k 0)
      → Steps s fits words says n after → Steps s fits others says n after
  steps_alike fits words others says after _ e (none same) = none same
  steps_alike fits words others says after _ e (more {n = n} {middle = middle} before stepped moved) =
      let q : get_or words n 0 ≡ get_or others n 0 = e n (omega arith) in
      more (steps_alike fits words others says middle n (λ k l. e k (omega arith)) before)
      (subst (λ w. Stepped s middle (get_or fits n 0) w) q stepped) (subst (λ w. Moved s middle w after) q moved)

  -- one more step, whose word is written in place
  pub steps_set : (fits words : List ℕ) (says middle after : Memory) (n w : ℕ) → n < length words → Steps s fits words says n middle
      → Stepped s middle (get_or fits n 0) w → Moved s middle w after → Steps s fits (set words n w) says (n + 1) after
  steps_set fits words says middle after n w l before stepped moved =
      let e : suc n ≡ n + 1 = omega arith in
      let q = sym (get_or-set_same words n w 0 l) in
      subst (λ i. Steps s fits (set words n w) says i after) e
      (more
      (steps_alike fits words (set words n w) says middle n (λ k h. let ne : k ≢ n = omega arith in sym (get_or-set_other words n k w 0 ne)) before)
      (subst (λ v. Stepped s middle (get_or fits n 0) v) q stepped) (subst (λ v. Moved s middle v after) q moved))

  -- two memories that say the same step alike
  pub stepped_same : (says after : Memory) (f w : ℕ) → Same s says after → Stepped s says f w → Stepped s after f w
  stepped_same says after f w same t = record {
    first = t.first;
    later = λ j l. (
      (λ b. let r = (t.later j l).0 b in let d = r.1 in (r.0, (d.0, d.1, d.2, same j d.0 l d.2 ∙ d.3))),
      (λ h. let d = h.1 in (t.later j l).1 (h.0, (d.0, d.1, d.2, sym (same j d.0 l d.2) ∙ d.3))),
    );
    none = t.none;
  }

  pub moved_from : (says others after : Memory) (w : ℕ) → Same s says others → Moved s says w after → Moved s others w after
  moved_from says others after w same t = record { newest = t.newest; older = λ j d l h. t.older j d l h ∙ sym (same j d l (omega arith)) }

  pub moved_to : (says after others : Memory) (w : ℕ) → Same s after others → Moved s says w after → Moved s says w others
  moved_to says after others w same t = record {
    newest = λ j l. same j 0 l (omega arith) ∙ t.newest j l;
    older = λ j d l h. same j (suc d) l h ∙ t.older j d l h;
  }

  -- after n steps the memory is that of the words before and the n words
  pub steps_recall : (past fits words : List ℕ) (says after : Memory) (n : ℕ) → n ≤ length words → Recalls s past says → Steps s fits words says n after → Recalls s (past ++ take n words) after
  steps_recall past fits words says after _ l have (none same) = λ j d lj ld.
      same j d lj ld ∙ have j d lj ld ∙ sym (ap (λ (ws : List ℕ). bit (get_or (reverse ws) d 0) j) (append-nil past))
  steps_recall past fits words says after _ l have (more {n = n} {middle = middle} before stepped moved) =
      let e : n + 1 ≡ suc n = omega arith in
      let q : (past ++ take n words) ++ (get_or words n 0 ∷ []) ≡ past ++ take (suc n) words
      = append_assoc past (take n words) (get_or words n 0 ∷ []) ∙ ap (λ (ws : List ℕ). past ++ ws) (sym (take_more words n 0 l) ∙ ap (λ i. take i words) e) in
      subst (λ (ws : List ℕ). Recalls s ws after) q
      (recalls_push s (past ++ take n words) middle after (get_or words n 0) (steps_recall past fits words says middle n (omega arith) have before) moved)

  -- each of n words is a step from the memory of the words before it
  pub steps_each : (past fits words : List ℕ) (says after : Memory) (n : ℕ) → n ≤ length words → Recalls s past says → Steps s fits words says n after
      → (k : ℕ) → k < n → (middle : Memory) × Recalls s (past ++ take k words) middle × Stepped s middle (get_or fits k 0) (get_or words k 0)
  steps_each past fits words says after _ l have (none same) k h = let z : ⊥ = omega arith in absurd z
  steps_each past fits words says after _ l have (more {n = n} {middle = middle} before stepped moved) k h = ⊎_elim
      (λ (lt : k < n). steps_each past fits words says middle n (omega arith) have before k lt)
      (λ (le : n ≤ k).
      let e : n ≡ k = omega arith in
      let P : ℕ → Type 0 = λ k. (middle : Memory) × Recalls s (past ++ take k words) middle × Stepped s middle (get_or fits k 0) (get_or words k 0) in
      subst P e (middle, steps_recall past fits words says middle n (omega arith) have before, stepped))
      (cases_lt k n)
