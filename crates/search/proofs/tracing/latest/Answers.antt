use Rattle.std.proofs.Common.{◌≡◌, ℕ, suc, ◌+◌, ◌-◌, ◌<◌, ◌≤◌, true, false, List, Some, get_or, sym, ap, ◌∙◌, arith, get_or-take}
use Rattle.runs.specs.declared.signature.Signature.{Signature}
use Rattle.runs.specs.Bits.{bit}
use Rattle.runs.specs.Gaps.{no_gap}
use Rattle.runs.specs.Signatures.{gaps_of}
use Rattle.runs.proofs.Steps.{at_top}
use Rattle.search.specs.Traces.{sheet_marks}
use Rattle.search.proofs.Latest.{latest_found, latest_none}
use Rattle.search.proofs.tracing.latest.Goals as goal

used : (s : Signature) (j : ℕ) → suc j < s.slots → get_or (gaps_of s) j no_gap ≡ get_or s.gaps j no_gap
used s j l = get_or-take (s.slots - 1) s.gaps j no_gap (omega arith)

-- no place that is so near bears the mark
none_here : (sheet : List ℕ) (j p d q : ℕ) → d + 1 ≤ p → q ≡ p - (d + 1) → false ≡ bit (get_or sheet q 0) j → sheet_marks sheet j (p - suc d) ≡ false
none_here sheet j p d q l is e = let same : p - suc d ≡ q = omega arith in rw same (sym e)

pub returns-in_err-earlier : goal.returns-in_err-earlier
returns-in_err-earlier c =
    c.from_residual.ensures ∙ latest_none (gaps_of c.args.signature.now) (sheet_marks c.args.sheet.now) c.args.slot c.args.place
    (λ e lo l in'. c.loop-between.invariant e lo (omega (arith, c.in_err-earlier.ensures)) in')

pub returns-then-bears : goal.returns-then-bears
returns-then-bears c =
    let s = c.args.signature.now in
    let j = c.args.slot in
    let p = c.args.place in
    let d = c.loop-between.between in
    let same = used s j c.requires.slot in
    let lo = ap (λ g. g.lo) same in
    let hi = ap (λ g. g.hi) same in
    let (l, is) = c.in_ok-earlier.ensures in
    let here : c.in_ok-earlier.earlier ≡ p - suc d = omega arith in
    let set : sheet_marks c.args.sheet.now j (p - suc d) ≡ true = rw (sym here) (sym c.if-bears.ensures) in
    ap Some here ∙ latest_found (gaps_of s) (sheet_marks c.args.sheet.now) j p d (omega (arith, c.from-between.ensures)) (omega (arith, c.from-between-end.ensures)) (omega arith) set c.loop-between.invariant

pub returns-else-bears : goal.returns-else-bears
returns-else-bears c =
    let s = c.args.signature.now in
    let same = used s c.args.slot c.requires.slot in
    let hi = ap (λ g. g.hi) same in
    let (l, is) = c.in_ok-earlier.ensures in
    let end = c.from-between-end.ensures in
    latest_none (gaps_of s) (sheet_marks c.args.sheet.now) c.args.slot c.args.place
    (λ e lo m in'. at_top c.loop-between.between e (omega arith) (λ x. x < c.args.place → sheet_marks c.args.sheet.now c.args.slot (c.args.place - suc x) ≡ false)
    (λ b. c.loop-between.invariant e lo b) (λ b. none_here c.args.sheet.now c.args.slot c.args.place c.loop-between.between c.in_ok-earlier.earlier l is c.if-bears.ensures) in')
