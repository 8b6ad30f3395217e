use Rattle.std.proofs.Common.{sym, arith}
use Rattle.gauges.proofs.Members.{begin, closed_there, next_there, covers_more}
use Rattle.gauges.proofs.codes.read_members.Goals as goal

pub loop-member-init : goal.loop-member-init
loop-member-init c = begin _ _ _ _ c.new-codes.ensures c.requires

pub returns-then-marked-clause-codes : goal.returns-then-marked-clause-codes
returns-then-marked-clause-codes c =
    let m = c.in_ok-member.member in
    let e = closed_there c.loop-member.invariant m (sym c.in_ok-member.ensures.value) (sym c.if-marked.ensures.value) in
    rw e (λ k. grind (arith, c.put_member.ensures k, c.loop-member.invariant.marks k, covers_more c.loop-member.invariant.ms m.value k))

pub loop-member-preserved : goal.loop-member-preserved
loop-member-preserved c =
    let m = c.in_ok-member.member in
    let b = c.in_ok-member.ensures.bound in
    let n = c.in_ok-place.ensures.bound in
    next_there c.loop-member.invariant m (sym c.in_ok-member.ensures.value) _ (sym c.if-marked.ensures.value) (sym c.in_ok-place.ensures.value) n.1 (omega arith) _ c.put_member.ensures
