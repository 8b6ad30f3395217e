-- Where the text of a slot of currents ends, and what writing one leaves.
use Rattle.std.specs.Prelude.{◌≡◌, ℕ, ◌+◌, ◌<◌, ◌≤◌, Bool, false, cond, ◌⊎◌, List, length, replicate, ℤ, Some, None, Ok, Err, Option, ◌==◌, ◌≢◌, nat_lt, slice_set}
use Rattle.std.proofs.Math.Path.{refl}
use Rattle.std.proofs.Common.{sym, ap, ◌∙◌, inl, inr, arith}
use Rattle.std.proofs.lemmas.List.{get_or-set_same, get_or-set_other}
use Rattle.std.proofs.lemmas.Bool.{cases_eq, eq-eqb, ne_eqb, lt-ltb}
use Rattle.std.proofs.lemmas.Bool.Decides.{nat_tests}
use Rattle.text.specs.declared.mark.Mark.TheVariants.{Tilde}
use Rattle.text.specs.declared.refusal.Refusal.{Refusal}
use Rattle.text.specs.Numbers.{number_at}
use Rattle.text.specs.Signed.{signed_at}
use Rattle.text.specs.Marks.{is_mark}
use Rattle.text.proofs.Bounds.{number_within, signed_within, signed_past}
use Rattle.signature.specs.Sets.{Put}
use Rattle.signature.specs.Slots.{set_of, end_of, Within, Past}
use Rattle.text.specs.declared.parsed.Parsed.{Parsed}
use Rattle.gauges.specs.declared.band.Band.{Band}
use Rattle.gauges.specs.Currents.{band_at, current_at, held_by, banded}
use Rattle.gauges.specs.TablesLemmas.{get_or_replicate_same}
use Rattle.text.proofs.Steps.{both, ok_same, ways}

band_within : (s : List ℕ) (at : ℕ) (b : Parsed Band) → band_at s at ≡ Ok b → (at < b.end) × (b.end ≤ length s)
band_within s at b is =
    let (t, first, rest) = both (signed_at s at) _ b is in
    let n = signed_within s at t first in
    ways (is_mark Tilde s t.end) _ _ _ rest
    (λ m f. let (d, second, out) = both (number_at 65535 s (t.end + 1)) _ b f in let k = number_within 65535 s (t.end + 1) d second in (grind (arith, nat_tests), grind (arith, nat_tests)))
    (λ m f. (grind (arith, nat_tests), grind (arith, nat_tests)))

pub current_within : Within current_at
unfolding current_at
current_within s at v e is =
    let (b, band, out) = both (band_at s at) _ (v, e) is in
    let w = band_within s at b band in
    let same : b.end ≡ e = ap (λ p. p.1) (ok_same _ _ out) in
    (omega arith, omega arith)

pub current_past : Past current_at
unfolding current_at
current_past s at l = rw (signed_past s at l, signed_past s (length s) (omega arith)) refl

pub none_banded : (n j : ℕ) (x : ℤ) → banded (replicate n None) j x ≡ false
none_banded n j x = ap (λ b. held_by b x) (get_or_replicate_same n None j)

-- the slot that is written has the set of its band
pub put_band : (bands : List (Option Band)) (slot : ℕ) (band : Option Band) (holds : ℤ → Bool) → length bands ≡ 32 → ((x : ℤ) → held_by band x ≡ holds x)
    → Put slot holds (banded bands) (banded (slice_set bands slot band))
put_band bands slot band holds long is j l x = go (cases_eq j slot)
  where
    go : (j ≡ slot) ⊎ (j ≢ slot) → banded (slice_set bands slot band) j x ≡ cond (j == slot) (holds x) (banded bands j x)
    go (inl same) = let in' : slot < length bands = omega arith in rw (eq-eqb j slot same, same, get_or-set_same) (is x)
    go (inr other) = rw (ne_eqb j slot other, get_or-set_other) refl

module _ (s : List ℕ) (at slot : ℕ) (few : slot < 32) where
  module _ (b : Parsed Band) (is : Ok b ≡ band_at s at) where
    pub band_end : Ok b.end ≡ end_of slot at (current_at s at)
    unfolding current_at
    band_end = rw (sym is, lt-ltb slot 32 few) refl

    pub band_set : (x : ℤ) → held_by (Some b.value) x ≡ set_of (current_at s at) x
    unfolding current_at
    band_set x = rw (sym is) refl

  module _ (e : Refusal) (is : Err e ≡ band_at s at) where
    pub no_band_end : Err e ≡ end_of slot at (current_at s at)
    unfolding current_at
    no_band_end = rw (sym is, lt-ltb slot 32 few) refl

    pub no_band_set : (x : ℤ) → held_by None x ≡ set_of (current_at s at) x
    unfolding current_at
    no_band_set x = rw (sym is) refl

-- one slot more of a word
pub slot_more : (bands : List (Option Band)) (x : ℤ) (slot j : ℕ) (new old : Bool) → new ≡ banded bands slot x → old ≡ cond (nat_lt j slot) (banded bands j x) false
    → cond (j == slot) new old ≡ cond (nat_lt j (slot + 1)) (banded bands j x) false
slot_more bands x slot j new old is was = go (cases_eq j slot)
  where
    go : (j ≡ slot) ⊎ (j ≢ slot) → cond (j == slot) new old ≡ cond (nat_lt j (slot + 1)) (banded bands j x) false
    go (inl same) = let in' : j < slot + 1 = omega arith in rw (eq-eqb j slot same, lt-ltb j (slot + 1) in') (is ∙ ap (λ i. banded bands i x) (sym same))
    go (inr other) = grind (arith, nat_tests)
