-- Writing a trace from its end back.
use Rattle.std.proofs.Common.{◌≡◌, ℕ, suc, ◌+◌, ◌-◌, ◌<◌, ◌≤◌, ◌≢◌, List, length, get_or, set, sym, ap, ◌∙◌, subst, arith, get_or-set_other, get_or-set_same}
use Rattle.runs.specs.declared.signature.Signature.{Signature}
use Rattle.runs.specs.Runs.{place}
use Rattle.runs.specs.Signatures.{gaps_of}
use Rattle.runs.specs.Words.{before}
use Rattle.runs.proofs.Places.{trace_long, trace_end, trace_step, trace_below}
use Rattle.runs.proofs.Steps.{at_low}
use Rattle.search.specs.Traces.{sheet_marks, trace_of}

module _ (s : Signature) (sheet : List ℕ) (end : ℕ) (some : 0 < s.slots) where
  -- the places of the slots from this one on are written
  abbrev pub Written : ℕ → List ℕ → Type 0
  Written slot places = (k : ℕ) → slot ≤ k → k < s.slots → get_or places k 0 ≡ place (trace_of s sheet end) k

  pub written_end : (old : List ℕ) → s.slots ≤ length old → Written (s.slots - 1) (set old (s.slots - 1) end)
  written_end old room k a b =
      let is : s.slots - 1 ≡ k = omega arith in
      subst (λ (n : ℕ). get_or (set old (s.slots - 1) end) n 0 ≡ place (trace_of s sheet end) n) is
      (get_or-set_same old (s.slots - 1) end 0 (omega arith) ∙ sym (trace_end (gaps_of s) (sheet_marks sheet) (s.slots - 1) end))

  pub written_more : (slot v : ℕ) (places : List ℕ) → 0 < slot → slot ≤ s.slots - 1 → s.slots ≤ length places → Written slot places
      → v ≡ before (gaps_of s) (sheet_marks sheet) (slot - 1) (get_or places ((slot - 1) + 1) 0) → Written (slot - 1) (set places (slot - 1) v)
  written_more slot v places below few room h is k a b =
      let next : (slot - 1) + 1 ≡ slot = omega arith in
      let next' : suc (slot - 1) ≡ slot = omega arith in
      let T = trace_of s sheet end in
      let later : get_or places ((slot - 1) + 1) 0 ≡ place T (suc (slot - 1)) = ap (λ (n : ℕ). get_or places n 0) next ∙ h slot (omega arith) (omega arith) ∙ ap (place T) (sym next') in
      let here : v ≡ place T (slot - 1) = is ∙ ap (before (gaps_of s) (sheet_marks sheet) (slot - 1)) later ∙ sym (trace_step (gaps_of s) (sheet_marks sheet) (s.slots - 1) end (slot - 1) (omega arith)) in
      at_low (slot - 1) k a (λ n. get_or (set places (slot - 1) v) n 0 ≡ place T n)
      (get_or-set_same places (slot - 1) v 0 (omega arith) ∙ here)
      (λ l. let ne : k ≢ slot - 1 = omega arith in get_or-set_other places (slot - 1) k v 0 ne ∙ h k (omega arith) b)

  pub written_within : (slot : ℕ) (places : List ℕ) → 0 < slot → slot ≤ s.slots - 1 → Written slot places → get_or places ((slot - 1) + 1) 0 ≤ end
  written_within slot places below few h =
      let next : (slot - 1) + 1 ≡ slot = omega arith in
      let is = ap (λ (n : ℕ). get_or places n 0) next ∙ h slot (omega arith) (omega arith) in
      omega (arith, trace_below (gaps_of s) (sheet_marks sheet) (s.slots - 1) end slot (omega arith))

  pub trace_size : length (trace_of s sheet end) ≡ s.slots
  trace_size = omega (arith, trace_long (gaps_of s) (sheet_marks sheet) (s.slots - 1) end)
