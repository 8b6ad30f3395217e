-- A whole shift keeps the promise.
use Rattle.std.proofs.Common.{◌≡◌, ℕ, suc, ◌<◌, List, [], ◌∷◌, ◌++◌, map, length, Some, sym, ap, ◌∙◌, subst, arith, length-append}
use Rattle.std.specs.List.{slice_get}
use Rattle.runs.specs.declared.signature.Signature.{Signature}
use Rattle.records.specs.declared.Record.{Record}
use Rattle.records.specs.declared.Closed.{Closed}
use Rattle.records.specs.States.{closed, Meaning, State, state}
use Rattle.records.specs.Books.{Answer}
use Rattle.records.specs.Opened.{Begun, terms}
use Rattle.shifts.specs.declared.request.Request.{Request}
use Rattle.shifts.specs.Carried.{Carried, made_of}
use Rattle.shifts.specs.Chains.{Chain}
use Rattle.shifts.specs.Replayed.{Replayed, answer_of, closing, shift_of}
use Rattle.shifts.proofs.Chained.{History, history, promised, nth_inside}
use Rattle.shifts.proofs.Going.{Going, going_all, length_mapped}

module _ {G E R : Type 0} (M : Meaning G E R) (limit : ℕ) (gauge : G) (signature : Signature) (readings readings' : List R) (sheet sheet' : List ℕ) (before after : List (Request R))
    (s t : State G E R) (o : Record G E Closed) where
  pub replayed : Begun M limit gauge signature readings sheet s → (i : ℕ) → length before ≡ i → Going M before s after i t → (a : Answer) → Carried M closing t a (state closed o readings' sheet')
      → Replayed M limit gauge signature readings sheet before after o readings' sheet'
  replayed begun i all going a carried =
      let said = map answer_of after ++ a ∷ [] in
      let chain : Chain M (shift_of before) said s (suc i) (state closed o readings' sheet') = going_all M before s after i t (state closed o readings' sheet') closing a all going carried in
      let size : suc i ≡ length (shift_of before) = omega (arith, length-append (map made_of before) (closing ∷ []), length_mapped made_of before) in
      let told : length said ≡ length (shift_of before) = omega (arith, size, length-append (map answer_of after) (a ∷ []), length_mapped answer_of after, going.long) in
      let h = history M (shift_of before) said s (suc i) (state closed o readings' sheet') chain in
      let whole : History M (shift_of before) said s (length (shift_of before)) (state closed o readings' sheet') =
      record { states = h.states; start = h.start; end = subst (λ (n : ℕ). h.states n ≡ state closed o readings' sheet') size h.end; steps = λ k l. h.steps k (omega (arith, size)) } in
      record {
        states = h.states;
        last = a;
        begun = subst (Begun M limit gauge signature readings sheet) (sym h.start) begun;
        ended = ap (λ (n : ℕ). h.states (suc n)) all ∙ h.end;
        promise = promised M (terms gauge signature readings) (shift_of before) said s (state closed o readings' sheet') begun.sound whole told;
        requests = λ k q q' was is. going.done k q q' (inside k was) was is;
      }
    where
      inside : (k : ℕ) {q : Request R} → slice_get before k ≡ Some q → k < i
      inside k {q} was = subst (λ (n : ℕ). k < n) all (nth_inside before k q was)
