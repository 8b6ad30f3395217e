-- The pattern of a signature has the signature's slots and gaps.
use Rattle.std.proofs.Common.{◌≡◌, ℕ, ◌-◌, ◌≤◌, Bool, length, arith}
use Rattle.std.proofs.lemmas.List.{length-take-le}
use Rattle.runs.specs.declared.signature.Signature.{Signature}
use Rattle.runs.specs.Signatures.{gaps_of, pattern_of}
use Rattle.runs.specs.Runs.{slots}

pub length_gaps_of : (s : Signature) → length (gaps_of s) ≡ s.slots - 1
length_gaps_of s = length-take-le (s.slots - 1) s.gaps (omega (arith, s.few, s.long))

pub slots_of : {R : Type 0} (sets : ℕ → R → Bool) (s : Signature) → 1 ≤ s.slots → slots (pattern_of sets s) ≡ s.slots
slots_of sets s some = omega (arith, length_gaps_of s)
