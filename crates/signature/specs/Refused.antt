-- What a refusal says of every text that begins as the refused one does.
use Rattle.std.specs.Prelude.{◌≡◌, ℕ, ◌+◌, ◌≤◌, Bool, false, List, ◌++◌, length, take, Ok, Err, ◌≢◌, slice_index}
use Rattle.text.specs.declared.mark.Mark.TheVariants.{Gap as Cross}
use Rattle.text.specs.declared.refusal.Refusal.{Refusal}
use Rattle.text.specs.declared.refusal.Refusal.TheVariants.{LongText}
use Rattle.text.specs.Refusals.{place_of}
use Rattle.text.specs.Words.{is_digit, place_in}
use Rattle.text.specs.Marks.{is_mark}
use Rattle.text.specs.Places.{AtPlace, Begins}
use Rattle.signature.specs.Slots.{Reads}
use Rattle.signature.specs.Outcomes.{Plan, signature_at}
use Rattle.signature.specs.Grammar.{SlotText, SignatureText}

module _ {R : Type 0} (reads : Reads R) where
  -- the reading of a slot looks at no byte past the one behind the slot, or past the place where it is refused
  pub record Looks : Type 0 where
    pub read : (s t : List ℕ) (a : ℕ) (set : R → Bool) (e : ℕ) → reads s a ≡ Ok (set, e) → take (e + 1) t ≡ take (e + 1) s → reads t a ≡ Ok (set, e)
    pub refused : (s t : List ℕ) (a : ℕ) (x : Refusal) → reads s a ≡ Err x → AtPlace x → take (place_of x + 1) t ≡ take (place_of x + 1) s → reads t a ≡ Err x
    pub onward : (s : List ℕ) (a : ℕ) (x : Refusal) → reads s a ≡ Err x → AtPlace x → place_in s a ≤ place_of x

  -- no text that has the same bytes up to the refusal's place, and at it, is read: each is refused alike
  abbrev pub RefusedAlike : List ℕ → Type 0
  RefusedAlike s = (x : Refusal) (t : List ℕ) → signature_at reads s ≡ Err x → AtPlace x → take (place_of x + 1) t ≡ take (place_of x + 1) s → length t ≤ 4096 → signature_at reads t ≡ Err x

  -- a part of a text that is a slot
  abbrev pub SomeSlot : List ℕ → ℕ → ℕ → Type 0
  SomeSlot s a b = (set : R → Bool) × SlotText reads s a b set

  -- some slot can follow any bytes; a slot is one whatever comes behind it that is no digit; and the bytes before a refusal's place begin some slot
  pub record GoesOn : Type 0 where
    pub some : (w : List ℕ) → (r : List ℕ) × SomeSlot (w ++ r) (length w) (length (w ++ r))
    pub stays : (s t : List ℕ) (a b : ℕ) (set : R → Bool) → SlotText reads s a b set → take b t ≡ take b s → is_digit (slice_index t b) ≡ false → SlotText reads t a b set
    pub begins : (s : List ℕ) (a : ℕ) (x : Refusal) → a ≤ length s → is_mark Cross s a ≡ false → reads s a ≡ Err x → Begins SomeSlot s a x

  -- nothing before a refusal's place is at fault: those bytes begin some text of the grammar, its limits of bytes and slots aside
  abbrev pub BeginsSome : List ℕ → Type 0
  BeginsSome s = (x : Refusal) → signature_at reads s ≡ Err x → (x ≢ LongText) → (r : List ℕ) × (p : Plan R) × SignatureText reads (take (place_of x) s ++ r) p
