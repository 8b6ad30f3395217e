-- What stands between two slots: a `-`, and then perhaps a gap `x(lo,hi)` with a further `-`.
use Rattle.std.specs.Prelude.{ℕ, ◌≤◌, cond, List, Ok, Err, Result, nat_le}
use Rattle.text.specs.declared.mark.Mark.TheVariants.{Dash, Gap as Cross, Open, Comma, Close}
use Rattle.text.specs.declared.refusal.Layer.TheVariants.{Signature}
use Rattle.text.specs.declared.parsed.Parsed.{Parsed}
use Rattle.text.specs.declared.refusal.Refusal.{Refusal}
use Rattle.text.specs.declared.refusal.Refusal.TheVariants.{Backward, StrayGap}
use Rattle.text.specs.Refusals.{◌then◌}
use Rattle.text.specs.Numbers.{number_at}
use Rattle.text.specs.Marks.{is_mark, mark_taken}
use Rattle.runs.specs.declared.gap.Gap.{Gap}
use Rattle.runs.specs.Gaps.{no_gap}

-- a gap that a signature may have: lo at most hi, and hi at most 63
abbrev pub Allowed : Gap → Type 0
Allowed g = (g.lo ≤ g.hi) × (g.hi ≤ 63)

-- `x(lo,hi)`: both at most 63, and lo at most hi
abbrev pub gap_at : List ℕ → ℕ → Result (Parsed Gap) Refusal
gap_at s at =
    mark_taken Signature Cross s at then (λ o.
    mark_taken Signature Open s o then (λ l.
    number_at 63 s l then (λ lo.
    mark_taken Signature Comma s lo.end then (λ h.
    number_at 63 s h then (λ hi.
    cond (nat_le lo.value hi.value)
    (mark_taken Signature Close s hi.end then (λ e. Ok (record { value = record { lo = lo.value; hi = hi.value }; end = e })))
    (Err (Backward Signature l)))))))

-- no gap may begin here
abbrev pub no_gap_at : List ℕ → ℕ → Result ℕ Refusal
no_gap_at s at = cond (is_mark Cross s at) (Err (StrayGap at)) (Ok at)

-- what may stand between a `-` and the next slot: nothing, or a gap and a further `-`
abbrev pub join_at : List ℕ → ℕ → Result (Parsed Gap) Refusal
join_at s at =
    cond (is_mark Cross s at)
    (gap_at s at then (λ g. mark_taken Signature Dash s g.end then (λ e. no_gap_at s e then (λ p. Ok (record { value = g.value; end = p })))))
    (Ok (record { value = no_gap; end = at }))
