use Rattle.std.proofs.Common.{rules}
use Rattle.records.specs.declared.call.Reply.TheVariants.{Reworked, Line}
use Rattle.records.specs.States.{opened}
use Rattle.records.specs.Replies.{placing}
use Rattle.shifts.proofs.Asking.{replied_by, keeps_mapped, question_of}
use Rattle.shifts.proofs.carrying.call_open.Goals as goal

pub returns-in-Append : goal.returns-in-Append
returns-in-Append g c = keeps_mapped _ _ _ _ _ _ placing c.append.result c.map.result c.in-Append.is (replied_by placing _ _ c.map.ensures.cases (λ x y k. search rules)) c.append.ensures.keeps

pub returns-in-Amend : goal.returns-in-Amend
returns-in-Amend g c = keeps_mapped _ _ _ _ _ _ Reworked c.amend.result c.map-in-Amend.result c.in-Amend.is (replied_by Reworked _ _ c.map-in-Amend.ensures.cases (λ x y k. search rules)) c.amend.ensures.keeps

pub returns-in-Settle : goal.returns-in-Settle
returns-in-Settle g c = keeps_mapped _ _ _ _ _ _ Line c.settle.result c.map-in-Settle.result c.in-Settle.is (replied_by Line _ _ c.map-in-Settle.ensures.cases (λ x y k. search rules)) c.settle.ensures.keeps

pub returns-in_default : goal.returns-in_default
returns-in_default g c = c.ask.ensures.asked (question_of c.args.call.now c.requires c.in_default.not-Append c.in_default.not-Amend c.in_default.not-Settle) opened
