use Rattle.std.proofs.Common.{rules, refl}
use Rattle.records.specs.declared.call.Reply.TheVariants.{Word as Bears, Hit, Named}
use Rattle.shifts.proofs.Asking.{replied_by, asks_by, asks_mapped}
use Rattle.shifts.proofs.carrying.ask.Goals as goal

pub returns-in-Word : goal.returns-in-Word
returns-in-Word g c =
    asks_mapped _ _ _ _ _ _ _ _ Bears c.word.result c.map.result c.in-Word.is refl (replied_by Bears _ _ c.map.ensures.cases (λ x y k. search rules)) (λ stage. c.word.ensures.keeps stage c.args.list.now)

pub returns-in-NextHit : goal.returns-in-NextHit
returns-in-NextHit g c =
    asks_mapped _ _ _ _ _ _ _ _ Hit c.next_hit.result c.map-in-NextHit.result c.in-NextHit.is refl (replied_by Hit _ _ c.map-in-NextHit.ensures.cases (λ x y k. search rules))
    (λ stage. c.next_hit.ensures.keeps stage c.args.list.now)

pub returns-in-Ok : goal.returns-in-Ok
returns-in-Ok g c = asks_by _ _ _ _ _ _ _ _ c.in-NextFinalHit.is refl (λ stage. c.in-Ok.ensures.keeps stage c.args.list.now)

pub returns-in-Err : goal.returns-in-Err
returns-in-Err g c = asks_by _ _ _ _ _ _ _ _ c.in-NextFinalHit.is refl (λ stage. c.in-Err.ensures.keeps stage c.args.list.now)

pub returns-in-FinalHits : goal.returns-in-FinalHits
returns-in-FinalHits g c =
    asks_mapped _ _ _ _ _ _ _ _ Named c.final_hits.result c.map-in-FinalHits.result c.in-FinalHits.is refl (replied_by Named _ _ c.map-in-FinalHits.ensures.cases (λ x y k. search rules)) c.final_hits.ensures.keeps
