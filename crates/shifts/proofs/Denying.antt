-- A call is refused exactly under the conditions of its refusals.
use Rattle.std.proofs.Common.{◌≡◌, ℕ, ◌<◌, ◌≤◌, Bool, true, false, cond, ltb, leb, ◌⊎◌, ◌↔◌, length, Ok, Err, sym, refl, ap, inl, inr, arith}
use Rattle.std.proofs.lemmas.Bool.{ltb-true, ltb-false, leb-true, leb-false, both_ways}
use Rattle.text.specs.declared.refusal.Refusal.{Refusal}
use Rattle.text.specs.declared.refusal.Refusal.TheVariants.{Full, NoPlace, Settled, LineAbove, LineBack, NoHit, ShortList}
use Rattle.runs.specs.Runs.{Pattern, last_slot, slots, Hit}
use Rattle.runs.specs.Words.{mark}
use Rattle.runs.proofs.Listed.{hit_within}
use Rattle.runs.proofs.Marked.{mark_decides}
use Rattle.records.specs.declared.call.Call.{Call}
use Rattle.records.specs.declared.call.Call.TheVariants.{Append, Amend, Settle, Word, NextHit, NextFinalHit, Trace, FinalHits, Close}
use Rattle.records.specs.States.{Meaning, Terms, pattern_by}
use Rattle.records.specs.Refused.{Grant}
use Rattle.records.specs.Books.{Book, grant}
use Rattle.shifts.specs.Promise.{Denies}

-- a grant is no refusal
pub granted : {e : Refusal} (g : Grant) → g ≡ Ok tt → g ≡ Err e → ⊥
granted g a b = let z : ◌≡◌ {A = ℕ} 0 1 = cc in omega arith

-- the grant is the refusal e
abbrev Stops : Grant → Refusal → Type 0
Stops g e = g ≡ Err e

-- one refusal
one : (e f : Refusal) (A : Type 0) → A → Stops (Err f) e ↔ (A × (e ≡ f))
one e f A a = (λ q. (a, cc), λ (_, is). ap Err (sym is))

module _ {G E R : Type 0} (M : Meaning G E R) (T : Terms G) (b : Book R) (within : length b.readings ≤ T.room) where
  abbrev P : Pattern R
  P = pattern_by M T

  abbrev n : ℕ
  n = length b.readings

  pub hit_told : (p : ℕ) → (mark P b.readings (last_slot P) p ≡ true) ↔ Hit P b.readings p
  hit_told p = mark_decides P b.readings (last_slot P) p

  pub denies : (room : ℕ) (call : Call R) (e : Refusal) → (grant (pattern_by M T) T.room b room call ≡ Err e) ↔ Denies M T b room call e
  denies room (Append x) e = go (ltb n T.room) refl
    where
      go : (c : Bool) → ltb n T.room ≡ c → Stops (cond c (Ok tt) (Err (Full n))) e ↔ ((n ≡ T.room) × (e ≡ Full n))
      go true t = (λ q. absurd (granted (Ok tt) refl q), λ (is, _). absurd (omega (arith, ltb-true n T.room t)))
      go false t = one e (Full n) (n ≡ T.room) (omega (arith, ltb-false n T.room t, within))
  denies room (Amend p x) e = go (ltb p n) refl (leb b.line p) refl
    where
      go : (c : Bool) → ltb p n ≡ c → (d : Bool) → leb b.line p ≡ d
          → Stops (cond c (cond d (Ok tt) (Err (Settled p))) (Err (NoPlace p))) e ↔ (((n ≤ p) × (e ≡ NoPlace p)) ⊎ ((p < n) × (p < b.line) × (e ≡ Settled p)))
      go true t true u = (λ q. absurd (granted (Ok tt) refl q), elim [ inl (a, _) ↦ absurd (omega (arith, ltb-true p n t)) | inr (_, a, _) ↦ absurd (omega (arith, leb-true b.line p u)) ])
      go true t false u = (λ q. inr (ltb-true p n t, leb-false b.line p u, cc), elim [ inl (a, _) ↦ absurd (omega (arith, ltb-true p n t)) | inr (_, _, is) ↦ ap Err (sym is) ])
      go false t d u = (λ q. inl (ltb-false p n t, cc), elim [ inl (_, is) ↦ ap Err (sym is) | inr (a, _, _) ↦ absurd (omega (arith, ltb-false p n t)) ])
  denies room (Settle k) e = go (leb k n) refl (leb b.line k) refl
    where
      go : (c : Bool) → leb k n ≡ c → (d : Bool) → leb b.line k ≡ d
          → Stops (cond c (cond d (Ok tt) (Err (LineBack k))) (Err (LineAbove k))) e ↔ (((n < k) × (e ≡ LineAbove k)) ⊎ ((k ≤ n) × (k < b.line) × (e ≡ LineBack k)))
      go true t true u = (λ q. absurd (granted (Ok tt) refl q), elim [ inl (a, _) ↦ absurd (omega (arith, leb-true k n t)) | inr (_, a, _) ↦ absurd (omega (arith, leb-true b.line k u)) ])
      go true t false u = (λ q. inr (leb-true k n t, leb-false b.line k u, cc), elim [ inl (a, _) ↦ absurd (omega (arith, leb-true k n t)) | inr (_, _, is) ↦ ap Err (sym is) ])
      go false t d u = (λ q. inl (leb-false k n t, cc), elim [ inl (_, is) ↦ ap Err (sym is) | inr (a, _, _) ↦ absurd (omega (arith, leb-false k n t)) ])
  denies room (Word p) e = go (ltb p n) refl
    where
      go : (c : Bool) → ltb p n ≡ c → Stops (cond c (Ok tt) (Err (NoPlace p))) e ↔ ((n ≤ p) × (e ≡ NoPlace p))
      go true t = (λ q. absurd (granted (Ok tt) refl q), λ (a, _). absurd (omega (arith, ltb-true p n t)))
      go false t = one e (NoPlace p) (n ≤ p) (ltb-false p n t)
  denies room (NextHit p) e = (λ q. granted (Ok tt) refl q, λ no'. absurd no')
  denies room (NextFinalHit p) e = (λ q. granted (Ok tt) refl q, λ no'. absurd no')
  denies room (Trace p) e = go (ltb p n) refl (mark P b.readings (last_slot P) p) refl (leb (slots P) room) refl
    where
      go : (c : Bool) → ltb p n ≡ c → (d : Bool) → mark P b.readings (last_slot P) p ≡ d → (f : Bool) → leb (slots P) room ≡ f
          → Stops (cond c (cond d (cond f (Ok tt) (Err (ShortList p))) (Err (NoHit p))) (Err (NoPlace p))) e
          ↔ (((n ≤ p) × (e ≡ NoPlace p)) ⊎ (((p < n) × (Hit P b.readings p → ⊥) × (e ≡ NoHit p)) ⊎ (Hit P b.readings p × (room < slots P) × (e ≡ ShortList p))))
      go false t d u f v = (
        λ q. inl (ltb-false p n t, cc),
        elim [
          | inl (_, is) ↦ ap Err (sym is)
          | inr (inl (a, _, _)) ↦ absurd (omega (arith, ltb-false p n t))
          | inr (inr (hit, _, _)) ↦ absurd (omega (arith, ltb-false p n t, hit_within P b.readings p hit))
        ],
      )
      go true t false u f v = (
        λ q. inr (inl (ltb-true p n t, λ hit. both_ways (mark P b.readings (last_slot P) p) u ((hit_told p).1 hit), cc)),
        elim [
          | inl (a, _) ↦ absurd (omega (arith, ltb-true p n t))
          | inr (inl (_, _, is)) ↦ ap Err (sym is)
          | inr (inr (hit, _, _)) ↦ absurd (both_ways (mark P b.readings (last_slot P) p) u ((hit_told p).1 hit))
        ],
      )
      go true t true u true v = (
        λ q. absurd (granted (Ok tt) refl q),
        elim [
          | inl (a, _) ↦ absurd (omega (arith, ltb-true p n t))
          | inr (inl (_, no', _)) ↦ absurd (no' ((hit_told p).0 u))
          | inr (inr (_, a, _)) ↦ absurd (omega (arith, leb-true _ room v))
        ],
      )
      go true t true u false v = (
        λ q. inr (inr ((hit_told p).0 u, leb-false _ room v, cc)),
        elim [
          | inl (a, _) ↦ absurd (omega (arith, ltb-true p n t))
          | inr (inl (_, no', _)) ↦ absurd (no' ((hit_told p).0 u))
          | inr (inr (_, _, is)) ↦ ap Err (sym is)
        ],
      )
  denies room FinalHits e = (λ q. granted (Ok tt) refl q, λ no'. absurd no')
  denies room Close e = (λ q. granted (Ok tt) refl q, λ no'. absurd no')
