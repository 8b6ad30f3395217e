use Rattle.std.proofs.Common.{rules, of_calls}
use Rattle.engines.specs.Masked.{masks_say}
use Rattle.engines.proofs.mask.Masks.word.Goals as goal

pub returns : goal.returns
returns c = c.word.ensures (masks_say c.args.self.now.masks) (λ j b l p. search (rules, of_calls))
