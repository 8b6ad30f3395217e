-- When a search or a record may begin.
use Rattle.std.specs.Prelude.{ℕ, cond, not, ◌||◌, List, Ok, Err, Result, ◌==◌, nat_lt}
use Rattle.text.specs.declared.refusal.Refusal.{Refusal}
use Rattle.text.specs.declared.refusal.Refusal.TheVariants.{Buffers, NoSlots, FarReach}
use Rattle.runs.specs.declared.gap.Gap.{Gap}
use Rattle.runs.specs.declared.signature.Signature.{Signature}
use Rattle.runs.specs.Gaps.{reach}
use Rattle.runs.specs.Signatures.{gaps_of}

-- Both buffers have one length, from 1 to 1,000,000; there is a slot; and the reach is within the engine's limit.
abbrev pub opening_by : ℕ → ℕ → ℕ → ℕ → List Gap → Result (Unit {0}) Refusal
opening_by limit readings sheet slots gaps =
    cond (not (readings == sheet) || (readings == 0 || nat_lt 1000000 readings)) (Err Buffers)
    (cond (slots == 0) (Err NoSlots)
    (cond (nat_lt limit (reach gaps)) (Err FarReach) (Ok tt)))

abbrev pub opening : ℕ → ℕ → ℕ → Signature → Result (Unit {0}) Refusal
opening limit readings sheet s = opening_by limit readings sheet s.slots (gaps_of s)
