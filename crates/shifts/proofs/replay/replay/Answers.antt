use Rattle.std.proofs.Common.{◌≡◌, ◌<◌, length, get_or, Some, arith}
use Rattle.std.specs.List.{slice_get}
use Rattle.std.proofs.lemmas.Option.{slice_get-get_or}
use Rattle.records.specs.States.{meaning, state, opened}
use Rattle.shifts.specs.Stands.{standing}
use Rattle.shifts.proofs.Going.{going_none, going_more}
use Rattle.shifts.proofs.Whole.{replayed}
use Rattle.shifts.proofs.replay.replay.Goals as goal

pub loop-i-init : goal.loop-i-init
loop-i-init g c = going_none _ _ _

pub loop-i-preserved : goal.loop-i-preserved
loop-i-preserved g c =
    let now = c.loop-i.requests in
    let i = c.loop-i.i in
    let q = get_or now i c.index-requests-i.result in
    let l : i < length now = omega arith in
    let read : slice_get now i ≡ Some q = slice_get-get_or now i c.index-requests-i.result l in
    let M = meaning g.G.Gauge g.E.Engine in
    let s = state opened c.in_ok-open.field-0 c.args.readings.now c.args.sheet.now in
    let t = standing c.loop-i.kept c.loop-i.readings c.loop-i.sheet in
    let u = standing c.carry_out-kept.result c.carry_out-kept.new.readings c.carry_out-kept.new.sheet in
    going_more M c.args.requests.now s now i t u q c.carry_out-kept.new.request l read c.loop-i.invariant c.carry_out-kept.ensures

pub returns : goal.returns
returns g c =
    let M = meaning g.G.Gauge g.E.Engine in
    let rs = c.loop-i.readings in
    let ws = c.loop-i.sheet in
    let ends = c.close.ensures rs ws in
    replayed M g.E.Engine.LIMIT c.args.gauge c.args.signature.now c.args.readings.now rs c.args.sheet.now ws c.args.requests.now c.loop-i.requests
    (state opened c.in_ok-open.field-0 c.args.readings.now c.args.sheet.now) (standing c.loop-i.kept rs ws) c.close.result
    c.in_ok-open.ensures c.loop-i.i (omega arith) c.loop-i.invariant ends.0 ends.1
