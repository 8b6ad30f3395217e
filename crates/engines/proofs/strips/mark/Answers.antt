use Rattle.std.proofs.Common.{◌≡◌, length, subst, rules}
use Rattle.engines.specs.Marks.{Marked}
use Rattle.engines.proofs.Packed.{places, columns_loaded, columns_unloaded, blank_words}
use Rattle.engines.proofs.Chained.{stepped_strip, stepped_blank}
use Rattle.engines.proofs.strips.mark.Goals as goal

pub returns-then-is_blank : goal.returns-then-is_blank
returns-then-is_blank g c =
    let p = places c.requires.width in
    let before = c.args.strip.now in
    stepped_blank g.row.W c.args.signature.now c.args.masks.now before p.some p.most c.requires.few (blank_words g.row.W p before c.load-rows.result c.load-rows.ensures _ (search rules) (c.is_blank.ensures c.if-is_blank.true))

pub returns : goal.returns
returns g c =
    let p = places c.requires.width in
    let before = c.args.strip.now in
    let was = columns_loaded g.row.W p before c.load-rows.result c.turn.new.rows c.load-rows.ensures c.turn.ensures in
    let is = columns_unloaded g.row.W p c.mark_slots.new.columns c.turn-2.new.rows c.unload.new.strip c.turn-2.ensures c.unload.ensures in
    let long : length c.turn.new.rows ≡ g.row.W = search rules in
    let marked = subst (λ n. Marked c.args.signature.now n c.args.masks.now c.turn.new.rows c.mark_slots.new.columns) long c.mark_slots.ensures.marks in
    stepped_strip g.row.W c.args.signature.now c.args.masks.now c.turn.new.rows c.mark_slots.new.columns c.mark_slots.new.masks before c.unload.new.strip p.some p.most c.requires.few was marked is
    c.unload.ensures.high c.mark_slots.ensures.kept
