-- What a strip of 64 words becomes.
use Rattle.std.specs.Prelude.{ℕ, List}
use Rattle.runs.specs.declared.signature.Signature.{Signature}
use Rattle.engines.specs.Masked.{masks_say}
use Rattle.engines.specs.Memory.{Steps}

-- 64 words come of the fits by one step after another, and the memory goes from the masks to others
abbrev pub Stepped64 : Signature → List ℕ → List ℕ → List ℕ → List ℕ → Type 0
Stepped64 s fits words masks after = Steps s fits words (masks_say masks) 64 (masks_say after)
