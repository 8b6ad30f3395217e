-- What the text of a slot of event codes says.
use Rattle.std.specs.Prelude.{ℕ, zero, suc, ◌+◌, Bool, true, false, cond, not, ◌&&◌, ◌||◌, List, [], ◌∷◌, length, Ok, Err, Result, nat_le, nat_lt}
use Rattle.text.specs.declared.mark.Mark.{Mark}
use Rattle.text.specs.declared.mark.Mark.TheVariants.{ClassOpen, ClassClose, BarredOpen, BarredClose, Colon, Space}
use Rattle.text.specs.declared.refusal.Layer.TheVariants.{Slot as InSlot}
use Rattle.text.specs.declared.refusal.Refusal.{Refusal}
use Rattle.text.specs.declared.refusal.Refusal.TheVariants.{NoDigit, Backward}
use Rattle.text.specs.Refusals.{◌then◌}
use Rattle.text.specs.Numbers.{number_at}
use Rattle.text.specs.Marks.{is_mark, mark_taken}
use Rattle.text.specs.declared.parsed.Parsed.{Parsed}
use Rattle.gauges.specs.declared.code_set.Member.{Member}
use Rattle.signature.specs.Slots.{Reads}

-- a code, or two codes with `:` between, of which the first is no greater
abbrev pub member_at : List ℕ → ℕ → Result (Parsed Member) Refusal
member_at s at =
    number_at 255 s at then (λ a.
    cond (is_mark Colon s a.end)
    (number_at 255 s (a.end + 1) then (λ b.
    cond (nat_le a.value b.value) (Ok (record { value = record { low = a.value; high = b.value }; end = b.end })) (Err (Backward InSlot at))))
    (Ok (record { value = record { low = a.value; high = a.value }; end = a.end })))

-- both ends of a member count
abbrev pub covers : Member → ℕ → Bool
covers m c = nat_le m.low c && nat_le c m.high

-- a code is listed where some member covers it
abbrev pub covers_any : List Member → ℕ → Bool
covers_any [] c = false
covers_any (m ∷ ms) c = covers m c || covers_any ms c

-- one member or more, a space between two, up to the closing mark and past it; no text has more members than bytes
abbrev pub members_from : ℕ → Mark → List ℕ → ℕ → Result (List Member × ℕ) Refusal
members_from zero shut s at = Err (NoDigit at)
members_from (suc n) shut s at =
    member_at s at then (λ m.
    cond (is_mark shut s m.end) (Ok (m.value ∷ [], m.end + 1))
    (mark_taken InSlot Space s m.end then (λ next.
    members_from n shut s next then (λ rest. Ok (m.value ∷ rest.0, rest.1)))))

unfoldable pub members_at : Mark → List ℕ → ℕ → Result (List Member × ℕ) Refusal
members_at shut s at = members_from (suc (length s)) shut s at

-- the codes that a slot lists, or bars
pub record Listed : Type 0 where
  pub members : List Member
  pub barred : Bool

abbrev pub holds : Listed → ℕ → Bool
holds v c = cond v.barred (not (covers_any v.members c)) (covers_any v.members c)

-- a class in `[ ]`, a barred class in `{ }`, or one code
abbrev pub slot_at : List ℕ → ℕ → Result (Listed × ℕ) Refusal
slot_at s at =
    cond (is_mark ClassOpen s at) (members_at ClassClose s (at + 1) then (λ ms. Ok (record { members = ms.0; barred = false }, ms.1)))
    (cond (is_mark BarredOpen s at) (members_at BarredClose s (at + 1) then (λ ms. Ok (record { members = ms.0; barred = true }, ms.1)))
    (number_at 255 s at then (λ n. Ok (record { members = record { low = n.value; high = n.value } ∷ []; barred = false }, n.end))))

-- codes are the numbers from 0 to 255
unfoldable pub event_at : Reads ℕ
event_at s at = slot_at s at then (λ v. Ok ((λ c. nat_lt c 256 && holds v.0 c), v.1))

-- the place behind what is read
abbrev pub behind : {V : Type 0} → Result (V × ℕ) Refusal → Result ℕ Refusal
behind r = r then (λ v. Ok v.1)

-- the same of what the code hands back: there the place is the `end` of a `Parsed`, not the second of a pair
abbrev pub ended : {V : Type 0} → Result (Parsed V) Refusal → Result ℕ Refusal
ended r = r then (λ v. Ok v.end)
