-- What the text of a slot of currents says, and which readings it holds.
use Rattle.std.specs.Prelude.{ℕ, ◌+◌, Bool, false, cond, List, ℤ, ◌-ℤ◌, Some, None, Ok, Option, Result, nat_le, slice_index_or, unsigned_abs}
use Rattle.text.specs.declared.mark.Mark.TheVariants.{Tilde}
use Rattle.text.specs.declared.refusal.Refusal.{Refusal}
use Rattle.text.specs.Refusals.{◌then◌}
use Rattle.text.specs.Numbers.{number_at}
use Rattle.text.specs.Signed.{signed_at}
use Rattle.text.specs.Marks.{is_mark}
use Rattle.signature.specs.Slots.{Reads}
use Rattle.text.specs.declared.parsed.Parsed.{Parsed}
use Rattle.gauges.specs.declared.band.Band.{Band}

-- a reading is in where it differs from the target by the tolerance at most, either way
abbrev pub within : ℤ → ℕ → ℤ → Bool
within target tolerance x = nat_le (unsigned_abs (x -ℤ target)) tolerance

-- a target, and behind a `~` a tolerance of at most 65,535; without one the tolerance is 0
abbrev pub band_at : List ℕ → ℕ → Result (Parsed Band) Refusal
band_at s at =
    signed_at s at then (λ t.
    cond (is_mark Tilde s t.end)
    (number_at 65535 s (t.end + 1) then (λ n. Ok (record { value = record { target = t.value; tolerance = n.value }; end = n.end })))
    (Ok (record { value = record { target = t.value; tolerance = 0 }; end = t.end })))

unfoldable pub current_at : Reads ℤ
current_at s at = band_at s at then (λ r. Ok (within r.value.target r.value.tolerance, r.end))

-- the set of a slot, which is empty without a band
abbrev pub held_by : Option Band → ℤ → Bool
held_by None x = false
held_by (Some b) x = within b.target b.tolerance x

-- the sets that a list of bands holds
abbrev pub banded : List (Option Band) → ℕ → ℤ → Bool
banded bands j x = held_by (slice_index_or bands j None) x
