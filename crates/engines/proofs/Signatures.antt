-- The gaps between the slots of a signature: ordered, narrow, and one fewer than the slots.
use Rattle.std.proofs.Common.{◌≡◌, ℕ, suc, ◌-◌, ◌<◌, ◌≤◌, List, length, get_or, sym, ap, subst, arith}
use Rattle.std.proofs.lemmas.List.{get_or-take, length-take-le}
use Rattle.runs.specs.declared.gap.Gap.{Gap}
use Rattle.runs.specs.declared.signature.Signature.{Signature}
use Rattle.runs.specs.Gaps.{low, high, no_gap}
use Rattle.runs.specs.Signatures.{gaps_of}

module _ (s : Signature) where
  pub gaps_length : length (gaps_of s) ≡ s.slots - 1
  gaps_length = length-take-le (s.slots - 1) s.gaps (omega (arith, s.few, s.long))

  pub same : (j : ℕ) → suc j < s.slots → get_or (gaps_of s) j no_gap ≡ get_or s.gaps j no_gap
  same j l = get_or-take (s.slots - 1) s.gaps j no_gap (omega arith)

  pub gap_ordered : (j : ℕ) → suc j < s.slots → low (gaps_of s) j ≤ high (gaps_of s) j
  gap_ordered j l = omega (arith, ap (λ (g : Gap). g.lo) (same j l), ap (λ (g : Gap). g.hi) (same j l), s.ordered j (omega (arith, s.few)))

  pub gap_narrow : (j : ℕ) → suc j < s.slots → high (gaps_of s) j ≤ 63
  gap_narrow j l = omega (arith, ap (λ (g : Gap). g.hi) (same j l), s.narrow j (omega (arith, s.few)))

-- gap j of a list that is the gaps of some signature
pub record Sound (gs : List Gap) (j : ℕ) : Type 0 where
  pub few : j < 31
  pub ordered : low gs j ≤ high gs j
  pub narrow : high gs j ≤ 63

pub gap_sound : (s : Signature) (gs : List Gap) (j : ℕ) → gs ≡ gaps_of s → j < length gs → Sound gs j
gap_sound s gs j e l =
    let n = gaps_length s in
    let lt : j < length (gaps_of s) = subst (λ (xs : List Gap). j < length xs) e l in
    record {
      few = omega (arith, s.few);
      ordered = subst (λ (xs : List Gap). low xs j ≤ high xs j) (sym e) (gap_ordered s j (omega arith));
      narrow = subst (λ (xs : List Gap). high xs j ≤ 63) (sym e) (gap_narrow s j (omega arith));
    }
