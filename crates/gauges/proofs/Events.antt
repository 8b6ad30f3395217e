-- From what a slot lists to the set that it stands for.
use Rattle.std.proofs.Common.{◌≡◌, ℕ, ◌<◌, ◌≤◌, Bool, false, ◌&&◌, ltb, List, get_or, IfOk, Ok, Err, Result, refl, arith}
use Rattle.std.proofs.lemmas.Bool.Decides.{nat_tests}
use Rattle.text.specs.declared.refusal.Refusal.{Refusal}
use Rattle.text.specs.Refusals.{◌then◌}
use Rattle.signature.specs.Slots.{set_of, end_of}
use Rattle.gauges.specs.Codes.{Listed, holds, slot_at, event_at, behind}

abbrev codes_of : Result (Listed × ℕ) Refusal → Result ((ℕ → Bool) × ℕ) Refusal
codes_of r = r then (λ v. Ok ((λ c. ltb c 256 && holds v.0 c), v.1))

end_behind : (r : Result (Listed × ℕ) Refusal) (slot at : ℕ) → slot < 32 → behind r ≡ end_of slot at (codes_of r)
end_behind (Ok v) slot at l = grind (arith, nat_tests)
end_behind (Err e) slot at l = grind (arith, nat_tests)

set_low : (r : Result (Listed × ℕ) Refusal) (e : ℕ) (inside : List Bool) → Ok e ≡ behind r → IfOk r (λ v. (c : ℕ) → c < 256 → get_or inside c false ≡ holds v.0 c)
    → (c : ℕ) → c < 256 → get_or inside c false ≡ set_of (codes_of r) c
set_low (Ok v) e inside is told c l = let t = told c l in grind (arith, nat_tests)
set_low (Err x) e inside is told c l = absurd (let z : ◌≡◌ {A = ℕ} 0 1 = cc in omega arith)

set_high : (r : Result (Listed × ℕ) Refusal) (c : ℕ) → 256 ≤ c → set_of (codes_of r) c ≡ false
set_high (Ok v) c l = grind (arith, nat_tests)
set_high (Err e) c l = refl

set_none : (r : Result (Listed × ℕ) Refusal) (x : Refusal) → Err x ≡ behind r → (c : ℕ) → set_of (codes_of r) c ≡ false
set_none (Ok v) x is c = absurd (let z : ◌≡◌ {A = ℕ} 0 1 = cc in omega arith)
set_none (Err e) x is c = refl

module _ (s : List ℕ) (at : ℕ) where
  pub event_end : (slot : ℕ) → slot < 32 → behind (slot_at s at) ≡ end_of slot at (event_at s at)
  unfolding event_at
  event_end slot l = end_behind (slot_at s at) slot at l

  pub event_low : (e : ℕ) (inside : List Bool) → Ok e ≡ behind (slot_at s at) → IfOk (slot_at s at) (λ v. (c : ℕ) → c < 256 → get_or inside c false ≡ holds v.0 c)
      → (c : ℕ) → c < 256 → get_or inside c false ≡ set_of (event_at s at) c
  unfolding event_at
  event_low e inside is told = set_low (slot_at s at) e inside is told

  pub event_high : (c : ℕ) → 256 ≤ c → set_of (event_at s at) c ≡ false
  unfolding event_at
  event_high = set_high (slot_at s at)

  pub event_none : (x : Refusal) → Err x ≡ behind (slot_at s at) → (c : ℕ) → set_of (event_at s at) c ≡ false
  unfolding event_at
  event_none x is = set_none (slot_at s at) x is
