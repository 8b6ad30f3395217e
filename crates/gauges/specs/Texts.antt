-- The worked sheets from their texts: what the text of each small signature is read as.
use Rattle.std.specs.Prelude.{◌≡◌, ℕ, ◌<◌, length, Ok, codes, slice_index_or}
use Prim.Native.String.{String}
use Rattle.runs.specs.Runs.{Pattern, slots}
use Rattle.runs.specs.Sheets.{pair, triple, apart, twice, current}
use Rattle.signature.specs.Sets.{nothing}
use Rattle.signature.specs.Slots.{Reads}
use Rattle.signature.specs.Outcomes.{Plan, signature_at}
use Rattle.gauges.specs.Codes.{event_at}
use Rattle.gauges.specs.Currents.{current_at}

-- With a gauge that reads its slots so, the text is read as the pattern: as many slots, the same gaps, and in each slot's set the same readings.
pub record ReadAs {R : Type 0} (reads : Reads R) (text : String) (P : Pattern R) : Type 0 where
  pub plan : Plan R
  pub read : signature_at reads (codes text) ≡ Ok plan
  pub slotted : length plan.sets ≡ slots P
  pub spaced : plan.gaps ≡ P.gaps
  pub same : (j : ℕ) → j < slots P → (x : R) → slice_index_or plan.sets j nothing x ≡ P.sets j x

-- The texts of the worked sheets: four of event codes, and one of currents.
pub record SheetTexts : Type 0 where
  pub pair_text : ReadAs event_at "10-x(0,2)-[20 21]" pair
  pub triple_text : ReadAs event_at "1-2-x(0,3)-3" triple
  pub apart_text : ReadAs event_at "1-x(2,3)-2" apart
  pub twice_text : ReadAs event_at "5-5" twice
  pub current_text : ReadAs current_at "100~5" (current 100 5)
