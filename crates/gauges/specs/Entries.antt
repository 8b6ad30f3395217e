-- What the text of a slot of entries says: an event slot, `@`, a current slot.
use Rattle.std.specs.Prelude.{ℕ, ◌&&◌, ℤ}
use Rattle.text.specs.declared.mark.Mark.TheVariants.{At}
use Rattle.signature.specs.Slots.{Reads}
use Rattle.gauges.specs.declared.entry.Entry.{Entry}
use Rattle.gauges.specs.Pairs.{Joins, pair_at}

-- an entry is in where its code is in the one set and its current in the other
abbrev pub entered : Joins ℕ ℤ Entry
entered codes currents x = codes x.code && currents x.current

abbrev pub entry_at : Reads ℕ → Reads ℤ → Reads Entry
entry_at = pair_at At entered
