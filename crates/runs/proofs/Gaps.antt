-- Lists of gaps that are all 0 to 0.
use Rattle.std.proofs.Common.{◌≡◌, ℕ, zero, suc, ◌+◌, ◌*◌, ◌≤◌, max, List, [], ◌∷◌, take, replicate, sum_by, fold, refl, ap, ⊎_elim, ◌∙◌, arith}
use Rattle.std.proofs.lemmas.Bool.{cases_lt}
use Rattle.std.proofs.lemmas.List.{get_or_past}
use Rattle.runs.specs.declared.signature.Signature.{Signature}
use Rattle.runs.specs.declared.gap.Gap.{Gap}
use Rattle.runs.specs.Gaps.{low, high, no_gap, spans, window}

pub low_none : (n j : ℕ) → low (replicate n no_gap) j ≡ 0
low_none zero j = refl
low_none (suc n) zero = refl
low_none (suc n) (suc j) = low_none n j

pub high_none : (n j : ℕ) → high (replicate n no_gap) j ≡ 0
high_none zero j = refl
high_none (suc n) zero = refl
high_none (suc n) (suc j) = high_none n j

pub ordered_none : (n j : ℕ) → low (replicate n no_gap) j ≤ high (replicate n no_gap) j
ordered_none n j = omega (arith, low_none n j)

pub narrow_none : (n j : ℕ) → high (replicate n no_gap) j ≤ 63
narrow_none n j = omega (arith, high_none n j)

-- the sum and the greatest size as a chain over the gaps finds them
spans_from : (n : ℕ) (gs : List Gap) → fold (λ a (g : Gap). a + (g.hi + 1)) n gs ≡ n + spans gs
spans_from n [] = omega arith
spans_from n (g ∷ gs) = omega (arith, spans_from (n + (g.hi + 1)) gs)

pub spans_sum : (gs : List Gap) → sum_by (λ g. g.hi + 1) gs ≡ spans gs
spans_sum gs = spans_from 0 gs ∙ omega arith

pub widest : (n : ℕ) (gs : List Gap) → fold (λ a g. max a (g.hi + 1)) n gs ≡ max n (window gs)
widest n [] = omega arith
widest n (g ∷ gs) = omega (arith, widest (max n (g.hi + 1)) gs)

-- gaps of 63 places at most
pub spans_take : (n : ℕ) (gs : List Gap) → ((j : ℕ) → high gs j ≤ 63) → spans (take n gs) ≤ 64 * n
spans_take zero gs h = omega arith
spans_take (suc n) [] h = omega arith
spans_take (suc n) (g ∷ gs) h = omega (arith, h 0, spans_take n gs (λ j. h (suc j)))

pub narrow_all : (s : Signature) → (j : ℕ) → high s.gaps j ≤ 63
narrow_all s j =
    ⊎_elim
    (s.narrow j)
    (λ (past : 31 ≤ j). omega (arith, ap (λ (g : Gap). g.hi) (get_or_past s.gaps j no_gap (omega (arith, s.long)))))
    (cases_lt j 31)
