-- The gaps of a signature, and how far its runs reach.
use Rattle.std.specs.Prelude.{ℕ, suc, ◌+◌, max, List, [], ◌∷◌, slice_index_or}
use Rattle.runs.specs.declared.gap.Gap.{Gap}

abbrev pub no_gap : Gap
no_gap = record { lo = 0; hi = 0 }

-- the lowest and the highest size of gap j, which lies between slot j and slot j + 1
abbrev pub low : List Gap → ℕ → ℕ
low gs j = (slice_index_or gs j no_gap).lo

abbrev pub high : List Gap → ℕ → ℕ
high gs j = (slice_index_or gs j no_gap).hi

-- the sum of hi + 1 over the gaps
abbrev pub spans : List Gap → ℕ
spans [] = 0
spans (g ∷ gs) = suc g.hi + spans gs

-- the most places that a run takes, from its first to its last
abbrev pub reach : List Gap → ℕ
reach gs = 1 + spans gs

-- the largest hi + 1, or 0 where there is no gap
abbrev pub window : List Gap → ℕ
window [] = 0
window (g ∷ gs) = max (suc g.hi) (window gs)
