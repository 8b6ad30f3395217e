-- Masks: the test of a window, and a shift by one place.
use Rattle.std.proofs.Common.{◌≡◌, ℕ, suc, ◌+◌, ◌-◌, ◌*◌, ◌%◌, ◌^◌, ◌<◌, ◌≤◌, Bool, true, false, not, eqb, ◌≢◌, List, ◌++◌, length, get_or, take, set, replicate, Decides, sym, refl, ap, ◌∙◌, subst, arith, length-set, get_or-set_other, get_or-set_same, below_more}
use lib.Bits.{bit_and, bit_or}
use mir.Val.{bool_byte}
use Rattle.std.proofs.lemmas.List.{get_or-take, get_or_append_left, length-take-le}
use Rattle.runs.specs.declared.signature.Signature.{Signature}
use Rattle.runs.specs.Gaps.{low, high}
use Rattle.runs.specs.Signatures.{gaps_of}
use Rattle.runs.specs.Bits.{bit}
use Rattle.engines.specs.Blocks.{block}
use Rattle.engines.specs.Masked.{masks_say}
use Rattle.engines.specs.Memory.{Seen, Moved}
use Rattle.engines.proofs.Bits.{bit_zero, bit_high, or_off, or_off_left, double_low, double_suc}
use Rattle.engines.proofs.Blocks.{meets}
use Rattle.engines.proofs.Laid.{all_same}
use Rattle.engines.proofs.Signatures.{gap_narrow}

-- the test of a window tells whether the memory says yes in it
pub mask_tells : (s : Signature) (masks : List ℕ) (window j : ℕ) → low (gaps_of s) j ≤ high (gaps_of s) j
    → window ≡ block (low (gaps_of s) j) (high (gaps_of s) j - low (gaps_of s) j + 1) → Decides (not (eqb (bit_and (get_or masks j 0) window) 0)) (Seen s (masks_say masks) j)
mask_tells s masks window j l e =
    let lo = low (gaps_of s) j in
    let hi = high (gaps_of s) j in
    let t = meets (get_or masks j 0) lo (hi - lo + 1) in
    subst (λ w. Decides (not (eqb (bit_and (get_or masks j 0) w) 0)) (Seen s (masks_say masks) j)) (sym e)
    ((λ b. let r = t.0 b in (r.0, r.1, omega (arith, r.2), r.3)), (λ seen. t.1 (seen.0, seen.1, omega (arith, seen.2), seen.3)))

pub masks_blank : (j d : ℕ) → masks_say (replicate 31 0) j d ≡ false
masks_blank j d = ap (λ n. bit n d) (all_same 31 j 0) ∙ bit_zero d

-- a mask that moves by one place and takes a bit
abbrev taken : ℕ → Bool → ℕ
taken x b = bit_or ((x * 2) % 2 ^ 64) (bool_byte b)

byte_bit : (b : Bool) → bit (bool_byte b) 0 ≡ b
byte_bit true = refl
byte_bit false = refl

byte_small : (b : Bool) → bool_byte b < 2 ^ 1
byte_small true = omega arith
byte_small false = omega arith

taken_newest : (x : ℕ) (b : Bool) → bit (taken x b) 0 ≡ b
taken_newest x b = or_off_left ((x * 2) % 2 ^ 64) (bool_byte b) 0 (double_low 64 x (omega arith)) ∙ byte_bit b

taken_older : (x : ℕ) (b : Bool) (d : ℕ) → d < 63 → bit (taken x b) (suc d) ≡ bit x d
taken_older x b d l = or_off ((x * 2) % 2 ^ 64) (bool_byte b) (suc d) (bit_high (bool_byte b) (suc d) 1 (byte_small b) (omega arith)) ∙ double_suc 64 x d (omega arith)

-- the first j masks have moved
pub record Shifted (from : List ℕ) (word j : ℕ) (masks : List ℕ) : Type 0 where
  pub long : length masks ≡ length from
  pub newest : (i : ℕ) → i < j → masks_say masks i 0 ≡ bit word i
  pub older : (i d : ℕ) → i < j → d < 63 → masks_say masks i (suc d) ≡ masks_say from i d
  pub rest : (i : ℕ) → j ≤ i → get_or masks i 0 ≡ get_or from i 0

pub shifted_none : (from : List ℕ) (word : ℕ) → Shifted from word 0 from
shifted_none from word = record {
  long = refl;
  newest = λ i l. let z : ⊥ = omega arith in absurd z;
  older = λ i d l. let z : ⊥ = omega arith in absurd z;
  rest = λ i _. refl;
}

pub shifted_more : (from masks : List ℕ) (w j : ℕ) (b : Bool) (x : ℕ) → j < length masks → b ≡ bit w j → x ≡ taken (get_or masks j 0) b → Shifted from w j masks → Shifted from w (j + 1) (set masks j x)
shifted_more from masks w j b x l e q have =
    let new = set masks j x in
    let here : get_or new j 0 ≡ taken (get_or masks j 0) b = get_or-set_same masks j x 0 l ∙ q in
    let other : (i : ℕ) → i ≢ j → get_or new i 0 ≡ get_or masks i 0 = λ i ne. get_or-set_other masks j i x 0 ne in
    record {
      long = simp length-set have.long;
      newest = below_more (λ i. masks_say new i 0 ≡ bit w i) j
          (λ i h. let ne : i ≢ j = omega arith in ap (λ n. bit n 0) (other i ne) ∙ have.newest i h)
          (ap (λ n. bit n 0) here ∙ taken_newest (get_or masks j 0) b ∙ e);
      older = λ i d h k. below_more (λ i. masks_say new i (suc d) ≡ masks_say from i d) j
          (λ i h. let ne : i ≢ j = omega arith in ap (λ n. bit n (suc d)) (other i ne) ∙ have.older i d h k)
          (ap (λ n. bit n (suc d)) here ∙ taken_older (get_or masks j 0) b d k ∙ ap (λ n. bit n d) (have.rest j (omega arith)))
          i h;
      rest = λ i h. let ne : i ≢ j = omega arith in other i ne ∙ have.rest i (omega arith);
    }

-- all used masks have moved
pub shifted_all : (s : Signature) (from masks rest : List ℕ) (w n j : ℕ) → n ≡ s.slots - 1 → n ≤ length from → length (take n from) ≤ j → Shifted (take n from) w j masks
    → Moved s (masks_say from) w (masks_say (masks ++ rest))
shifted_all s from masks rest w n j e l all have =
    let long : length (take n from) ≡ n = length-take-le n from l in
    let at : (i : ℕ) → suc i < s.slots → get_or (masks ++ rest) i 0 ≡ get_or masks i 0 = λ i h.
    let lt : i < length masks = omega (arith, have.long) in get_or_append_left masks rest 0 i lt in
    record {
      newest = λ i h. ap (λ n. bit n 0) (at i h) ∙ have.newest i (omega arith);
      older = λ i d h k. ap (λ n. bit n (suc d)) (at i h) ∙ have.older i d (omega arith) (omega (arith, gap_narrow s i h)) ∙ ap (λ n. bit n d) (get_or-take n from i 0 (omega arith));
    }
