-- A list whose first entries were written.
use Rattle.std.proofs.Common.{◌≡◌, ℕ, ◌+◌, ◌-◌, ◌<◌, ◌≤◌, ◌⊎◌, List, ◌++◌, length, get_or, drop, sym, ap, ◌∙◌, inl, inr, arith, length-append, length-drop}
use Rattle.std.proofs.lemmas.List.{ext_get_or, get_or_append_left, get_or-append_right, get_or-drop}
use Rattle.std.proofs.lemmas.Bool.{cases_lt}

pub filled : (front old new : List ℕ) (m : ℕ) → length front ≡ m → m ≤ length old → length new ≡ length old
    → ((k : ℕ) → k < m → get_or new k 0 ≡ get_or front k 0) → ((k : ℕ) → m ≤ k → get_or new k 0 ≡ get_or old k 0) → new ≡ front ++ drop m old
filled front old new m long room same low high =
    ext_get_or 0 new (front ++ drop m old) (simp (length-append, length-drop) (omega arith)) (λ k l. go k (cases_lt k m))
  where
    go : (k : ℕ) → (k < m) ⊎ (m ≤ k) → get_or new k 0 ≡ get_or (front ++ drop m old) k 0
    go k (inl l) = low k l ∙ sym (get_or_append_left front (drop m old) 0 k (omega arith))
    go k (inr l) =
        let is : m + (k - m) ≡ k = omega arith in
        high k l ∙ sym (get_or-append_right front (drop m old) m k 0 long l ∙ (get_or-drop m old (k - m) 0 ∙ ap (λ (i : ℕ). get_or old i 0) is))
