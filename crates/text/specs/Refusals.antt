-- The number, the layer and the place of each refusal, and how one is written.
use Rattle.std.specs.Prelude.{ℕ, List, ◌++◌, Ok, Err, codes, decimal, Result}
use Rattle.text.specs.declared.refusal.Layer.{Layer}
use Rattle.text.specs.declared.refusal.Layer.TheVariants.{Number, Slot, Signature, Record, File}
use Rattle.text.specs.declared.refusal.Refusal.{Refusal}
use Rattle.text.specs.declared.refusal.Refusal.TheVariants.{LongText, NoDigit, OutOfRange, NoMark, Backward, ExtraSlot, StrayGap, Buffers, NoSlots, FarReach, Full, NoPlace, Settled, LineAbove, LineBack, NoHit, ShortList, OtherBuffers, FileSize, FileParts}

abbrev pub number_of : Refusal → ℕ
number_of LongText = 1
number_of (NoDigit p) = 2
number_of (OutOfRange p) = 3
number_of (NoMark l p) = 4
number_of (Backward l p) = 5
number_of (ExtraSlot l p) = 6
number_of (StrayGap p) = 7
number_of Buffers = 8
number_of NoSlots = 9
number_of FarReach = 10
number_of (Full p) = 11
number_of (NoPlace p) = 12
number_of (Settled p) = 13
number_of (LineAbove p) = 14
number_of (LineBack p) = 15
number_of (NoHit p) = 16
number_of (ShortList p) = 17
number_of (OtherBuffers p) = 18
number_of (FileSize n) = 19
number_of (FileParts n) = 20

abbrev pub layer_of : Refusal → Layer
layer_of LongText = Signature
layer_of (NoDigit p) = Number
layer_of (OutOfRange p) = Number
layer_of (NoMark l p) = l
layer_of (Backward l p) = l
layer_of (ExtraSlot l p) = l
layer_of (StrayGap p) = Signature
layer_of Buffers = Record
layer_of NoSlots = Record
layer_of FarReach = Record
layer_of (Full p) = Record
layer_of (NoPlace p) = Record
layer_of (Settled p) = Record
layer_of (LineAbove p) = Record
layer_of (LineBack p) = Record
layer_of (NoHit p) = Record
layer_of (ShortList p) = Record
layer_of (OtherBuffers p) = Record
layer_of (FileSize n) = File
layer_of (FileParts n) = File

abbrev pub place_of : Refusal → ℕ
place_of LongText = 4096
place_of (NoDigit p) = p
place_of (OutOfRange p) = p
place_of (NoMark l p) = p
place_of (Backward l p) = p
place_of (ExtraSlot l p) = p
place_of (StrayGap p) = p
place_of Buffers = 0
place_of NoSlots = 0
place_of FarReach = 0
place_of (Full p) = p
place_of (NoPlace p) = p
place_of (Settled p) = p
place_of (LineAbove p) = p
place_of (LineBack p) = p
place_of (NoHit p) = p
place_of (ShortList p) = p
place_of (OtherBuffers p) = p
place_of (FileSize n) = n
place_of (FileParts n) = n

abbrev pub layer_name : Layer → List ℕ
layer_name Number = codes "number"
layer_name Slot = codes "slot"
layer_name Signature = codes "signature"
layer_name Record = codes "record"
layer_name File = codes "file"

-- `refused`, the number, the layer and the place, one space between two
abbrev pub refusal_line : Refusal → List ℕ
refusal_line r = codes "refused " ++ (decimal (number_of r) ++ (codes " " ++ (layer_name (layer_of r) ++ (codes " " ++ decimal (place_of r)))))

-- one reading after another: the first that is refused is the answer
infixr 20 ◌then◌
abbrev pub ◌then◌ : {A B : Type 0} → Result A Refusal → (A → Result B Refusal) → Result B Refusal
◌then◌ (Ok a) f = f a
◌then◌ (Err e) f = Err e
