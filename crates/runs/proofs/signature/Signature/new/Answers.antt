use Rattle.std.proofs.Common.{◌≡◌, ◌≤◌, replicate, refl, lit≤, sym, subst, rules}
use Rattle.runs.specs.declared.gap.Gap.{Gap}
use Rattle.runs.specs.Gaps.{low, high, no_gap}
use Rattle.runs.proofs.Gaps.{low_none, high_none, ordered_none, narrow_none}
use Rattle.runs.proofs.signature.Signature.new.Goals as goal

pub invariant_of-result : goal.invariant_of-result
invariant_of-result c = let none : c.default.result ≡ no_gap = search rules in record {
  few = lit≤ tt;
  long = refl;
  ordered = λ j _. subst (λ (g : Gap). low (replicate 31 g) j ≤ high (replicate 31 g) j) (sym none) (ordered_none 31 j);
  narrow = λ j _. subst (λ (g : Gap). high (replicate 31 g) j ≤ 63) (sym none) (narrow_none 31 j);
}

pub returns : goal.returns
returns c = let none : c.default.result ≡ no_gap = search rules in (refl, λ j _. subst (λ (g : Gap). (low (replicate 31 g) j ≡ 0) × (high (replicate 31 g) j ≡ 0)) (sym none) (low_none 31 j, high_none 31 j))
