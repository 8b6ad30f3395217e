use Rattle.std.proofs.Common.{◌≡◌, ℕ, ◌+◌, ◌-◌, ◌<◌, ◌≤◌, ◌≢◌, List, length, get_or, set, refl, sym, ap, ◌∙◌, subst, arith, length-set, get_or-set_other, get_or-set_same, below_more}
use Rattle.runs.specs.declared.gap.Gap.{Gap}
use Rattle.runs.specs.declared.signature.Signature.{Signature}
use Rattle.runs.specs.Gaps.{low, high}
use Rattle.runs.specs.Signatures.{gaps_of}
use Rattle.engines.specs.Blocks.{block}
use Rattle.engines.specs.Masked.{Allows}
use Rattle.engines.proofs.Signatures.{gaps_length, gap_sound}
use Rattle.engines.proofs.windows.Windows.new.Goals as goal

more : (gs : List Gap) (allowed : List ℕ) (j window : ℕ) → j < 31 → length allowed ≡ 31 → Allows gs j allowed → window ≡ block (low gs j) (high gs j - low gs j + 1) → Allows gs (j + 1) (set allowed j window)
more gs allowed j window l long have e = below_more (λ i. get_or (set allowed j window) i 0 ≡ block (low gs i) (high gs i - low gs i + 1)) j
    (λ i h. let ne : i ≢ j = omega arith in get_or-set_other allowed j i window 0 ne ∙ have i h)
    (get_or-set_same allowed j window 0 (omega arith) ∙ e)

pub overflow_sub-gap : goal.overflow_sub-gap
overflow_sub-gap c = (gap_sound c.args.signature.now _ _ c.used_gaps-gaps.ensures c.loop-j-test.true).ordered

pub ones-requires : goal.ones-requires
ones-requires c = let o = gap_sound c.args.signature.now _ _ c.used_gaps-gaps.ensures c.loop-j-test.true in omega (arith, o.ordered, o.narrow)

pub loop-j-init : goal.loop-j-init
loop-j-init c = (refl, λ j l. let z : ⊥ = omega arith in absurd z)

pub loop-j-preserved : goal.loop-j-preserved
loop-j-preserved c =
    let inv = c.loop-j.invariant in
    let o = gap_sound c.args.signature.now _ _ c.used_gaps-gaps.ensures c.loop-j-test.true in
    (simp length-set inv.0, more _ _ _ _ o.few inv.0 inv.1 (simp (c.from.ensures, c.from-in-loop-j.ensures) at c.ones.ensures))

pub invariant_of-result : goal.invariant_of-result
invariant_of-result c =
    let s = c.args.signature.now in
    let l = c.loop-j in
    let n = gaps_length s in
    let same = ap length c.used_gaps-gaps.ensures in
    let all : s.slots - 1 ≤ l.j = omega (arith, c.loop-j-test.false) in
    let have : Allows (gaps_of s) l.j l.allowed = subst (λ (gs : List Gap). Allows gs l.j l.allowed) c.used_gaps-gaps.ensures l.invariant.1 in
    record { allows = subst (λ (s : Signature). Allows (gaps_of s) (s.slots - 1) l.allowed) (sym c.new.ensures) (λ j h. have j (omega arith)) }
