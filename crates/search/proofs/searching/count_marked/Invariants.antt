use Rattle.std.proofs.Common.{◌≡◌, ◌≤◌, take}
use Rattle.search.specs.Sheets.{bearing}
use Rattle.search.proofs.searching.count_marked.Given as goal

abbrev pub invariant-loop-word : goal.invariant-loop-word
invariant-loop-word l = (l.count ≡ bearing l.slot (take l.word-index l.sheet)) × (l.count ≤ l.word-index)
