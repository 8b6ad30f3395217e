use Rattle.std.proofs.Common.{rules, arith}
use Rattle.std.proofs.lemmas.Grind.{common_steps}
use Rattle.gauges.proofs.Derived.{reads_slot}
use Rattle.gauges.proofs.codes.read_codes.Goals as goal

pub returns-in_err-read-in-Some-eq123-clause-grammar : goal.returns-in_err-read-in-Some-eq123-clause-grammar
returns-in_err-read-in-Some-eq123-clause-grammar c = search (rules, reads_slot)

pub returns-in_err-code-in_default-clause-grammar : goal.returns-in_err-code-in_default-clause-grammar
returns-in_err-code-in_default-clause-grammar c = reads_slot _ _ _ (grind (arith, common_steps)) (grind (arith, common_steps))

pub returns-in-Some-eq91-clause-grammar : goal.returns-in-Some-eq91-clause-grammar
returns-in-Some-eq91-clause-grammar c = search (rules, reads_slot)

pub returns-in_ok-read-in-Some-eq123-clause-grammar : goal.returns-in_ok-read-in-Some-eq123-clause-grammar
returns-in_ok-read-in-Some-eq123-clause-grammar c = search (rules, reads_slot)

pub returns-in_ok-code-in_default-clause-grammar : goal.returns-in_ok-code-in_default-clause-grammar
returns-in_ok-code-in_default-clause-grammar c = reads_slot _ _ _ (grind (arith, common_steps)) (grind (arith, common_steps))
