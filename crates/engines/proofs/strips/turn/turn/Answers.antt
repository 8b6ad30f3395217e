use Rattle.std.proofs.Common.{refl, ◌≤◌, [], ◌∷◌, sym, subst, arith}
use Rattle.engines.proofs.Tables.{ready}
use Rattle.engines.proofs.Turns.{Stages, stage_16, stage_8, stage_4, stage_2, stage_1, turned_wide, turned_narrow}
use Rattle.engines.proofs.Turns.Stages.{none, more}
use Rattle.engines.proofs.strips.turn.turn.Goals as goal
use Rattle.engines.proofs.strips.turn.turn.Goals.{then-this-gt8, else-this-gt8}

pub stage-requires : goal.stage-requires
stage-requires g c = ready g.row.W 16 (stage_16 g.row.W c.requires c.if-this-gt8.true) _ refl

pub stage-requires-then-this-gt8 : goal.stage-requires-then-this-gt8
stage-requires-then-this-gt8 g c = ready g.row.W 8 (stage_8 g.row.W c.requires c.if-this-gt8.true) _ refl

pub stage-requires-2 : goal.stage-requires-2
stage-requires-2 g c = ready g.row.W 4 (stage_4 g.row.W c.requires) _ refl

pub stage-requires-3 : goal.stage-requires-3
stage-requires-3 g c = ready g.row.W 2 (stage_2 g.row.W c.requires) _ refl

pub stage-requires-4 : goal.stage-requires-4
stage-requires-4 g c = ready g.row.W 1 (stage_1 g.row.W c.requires) _ refl

pub returns : goal.returns
returns g c = elim c.if-this-gt8.branch [
  | then-this-gt8 w ↦
      let first = subst (λ rows. Stages g.row.W c.args.rows.now (8 ∷ 16 ∷ []) rows) (sym w.rows-is) (more (more none w.stage.ensures) w.stage-then-this-gt8.ensures) in
      turned_wide g.row.W c.requires w.if-this-gt8.true _ _ (more (more (more first c.stage-2.ensures) c.stage-3.ensures) c.stage-4.ensures)
  | else-this-gt8 w ↦
      let first = subst (λ rows. Stages g.row.W c.args.rows.now [] rows) (sym w.rows-is) none in
      let le : g.row.W ≤ 8 = omega arith in
      turned_narrow g.row.W c.requires le _ _ (more (more (more first c.stage-2.ensures) c.stage-3.ensures) c.stage-4.ensures)
]
