use Rattle.std.proofs.Common.{ℕ, ap, ◌∙◌, arith}
use Rattle.std.proofs.lemmas.List.Filters.{length-filter_more}
use Rattle.std.proofs.lemmas.List.{take_all}
use Rattle.std.proofs.lemmas.Bool.Decides.{nat_tests}
use Rattle.runs.specs.Bits.{bit}
use Rattle.search.specs.Sheets.{bearing}
use Rattle.search.proofs.searching.count_marked.Goals as goal
use Rattle.search.proofs.searching.count_marked.Goals.{then-bears, else-bears}

pub loop-word-preserved : goal.loop-word-preserved
loop-word-preserved c =
    let more = length-filter_more (λ (w : ℕ). bit w c.args.slot) c.args.sheet.now c.loop-word.word-index 0 c.loop-word-test.true in
    elim c.if-bears.branch [
      | then-bears w ↦ let new = w.count-is in let t = w.if-bears.ensures in (grind (arith, nat_tests), omega arith)
      | else-bears w ↦ let new = w.count-is in let t = w.if-bears.ensures in (grind (arith, nat_tests), omega arith)
    ]

pub returns : goal.returns
returns c = c.loop-word.invariant.0 ∙ ap (bearing c.args.slot) (take_all c.loop-word.word-index c.args.sheet.now c.loop-word-test.false)
