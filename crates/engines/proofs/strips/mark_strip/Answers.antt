use Rattle.engines.specs.Rows.Width.{narrow, wide}
use Rattle.engines.proofs.strips.mark_strip.Goals as goal

pub mark-requires-clause-width : goal.mark-requires-clause-width
mark-requires-clause-width c = narrow

pub mark-requires-else-signature-le8-clause-width : goal.mark-requires-else-signature-le8-clause-width
mark-requires-else-signature-le8-clause-width c = wide
