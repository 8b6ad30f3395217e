use Rattle.std.proofs.Common.{sym, ◌∙◌}
use Rattle.std.proofs.lemmas.Result.{err_from_is_err_and}
use Rattle.gauges.specs.PairsLemmas.{written, refused_left, refused_mark, end_right, sets_read, put_as}
use Rattle.gauges.proofs.pair.write_parts.Goals as goal

pub returns-in_err-middle-clause-value : goal.returns-in_err-middle-clause-value
returns-in_err-middle-clause-value g c =
    let p = err_from_is_err_and c.from_residual.result c.from_residual.ensures.1 in
    rw (p.1, p.2) (refused_left c.args.mark g.L.WrittenGauge.reads g.R.WrittenGauge.reads c.args.text.now c.args.slot c.args.at _ c.in_err-middle.ensures.value)

pub returns-in_err-next-clause-value : goal.returns-in_err-next-clause-value
returns-in_err-next-clause-value g c =
    let l = g.L.WrittenGauge.reads in
    let s = c.args.text.now in
    let p = err_from_is_err_and c.from_residual-in_err-next.result c.from_residual-in_err-next.ensures.1 in
    let (few, (v, from)) = written c.args.slot c.args.at (l s c.args.at) c.in_ok-middle.middle c.in_ok-middle.ensures.value in
    rw (p.1, p.2) (refused_mark c.args.mark l g.R.WrittenGauge.reads s c.args.slot c.args.at c.in_ok-middle.middle v few from _ (sym c.in_err-next.ensures.value))

pub returns-clause-value : goal.returns-clause-value
returns-clause-value g c =
    let s = c.args.text.now in
    let l = g.L.WrittenGauge.reads in
    let (few, (v, from)) = written c.args.slot c.args.at (l s c.args.at) c.in_ok-middle.middle c.in_ok-middle.ensures.value in
    let marked = sym c.in_ok-next.ensures.value in
    c.write_slot-2.ensures.value ∙ end_right c.args.mark l g.R.WrittenGauge.reads s c.args.slot c.args.at c.in_ok-middle.middle v few from c.in_ok-next.next marked

pub returns-clause-left : goal.returns-clause-left
returns-clause-left g c ok =
    let s = c.args.text.now in
    let l = g.L.WrittenGauge.reads in
    let (few, (v, from)) = written c.args.slot c.args.at (l s c.args.at) c.in_ok-middle.middle c.in_ok-middle.ensures.value in
    let marked = sym c.in_ok-next.ensures.value in
    let both = sets_read c.args.mark l g.R.WrittenGauge.reads s c.args.slot c.args.at c.in_ok-middle.middle v few from c.in_ok-next.next marked _ c.write_slot-2.ensures.value ok in
    put_as c.args.slot _ _ _ _ both.0 c.in_ok-middle.ensures.wrote

pub returns-clause-right : goal.returns-clause-right
returns-clause-right g c ok =
    let s = c.args.text.now in
    let l = g.L.WrittenGauge.reads in
    let (few, (v, from)) = written c.args.slot c.args.at (l s c.args.at) c.in_ok-middle.middle c.in_ok-middle.ensures.value in
    let marked = sym c.in_ok-next.ensures.value in
    let both = sets_read c.args.mark l g.R.WrittenGauge.reads s c.args.slot c.args.at c.in_ok-middle.middle v few from c.in_ok-next.next marked _ c.write_slot-2.ensures.value ok in
    put_as c.args.slot _ _ _ _ both.1 c.write_slot-2.ensures.wrote
