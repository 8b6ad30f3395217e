use Rattle.std.proofs.Common.{◌≡◌, ◌-◌, eqb, length, ap, ◌∙◌, arith}
use lib.Bits.{bit_or}
use Rattle.std.proofs.lemmas.Nat.{and_mask}
use Rattle.engines.proofs.Masked.{shifted_none, shifted_more, shifted_all}
use Rattle.engines.proofs.Signatures.{gaps_length}
use Rattle.engines.proofs.mask.Masks.push.Goals as goal

pub loop-j-init : goal.loop-j-init
loop-j-init c = shifted_none _ _

pub loop-j-preserved : goal.loop-j-preserved
loop-j-preserved c = shifted_more _ _ _ _ _ _ (omega arith) (ap (λ n. eqb n 1) (and_mask _ 1)) (ap (bit_or _) c.from.ensures) c.loop-j.invariant

pub returns-clause-memory : goal.returns-clause-memory
returns-clause-memory c =
    let s = c.args.self.now.windows.shape.signature in
    let used : length c.used_gaps-used.result.now ≡ s.slots - 1 = ap length c.used_gaps-used.ensures ∙ gaps_length s in
    shifted_all s _ _ _ _ _ _ used (omega (arith, s.few)) c.loop-j-test.false c.loop-j.invariant
