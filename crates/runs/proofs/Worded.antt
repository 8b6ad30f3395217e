-- What a word tells.
use Rattle.std.proofs.Common.{◌≡◌, ℕ, zero, suc, ◌+◌, ◌*◌, ◌/◌, ◌%◌, ◌^◌, ◌<◌, ◌≤◌, Bool, true, false, cond, eqb, ◌⊎◌, ◌↔◌, List, length, get_or, None, Decides, sym, refl, ap, ◌∙◌, inl, inr, one-add, arith, lit<, pow_mono, shr-shr}
use native.Mathlib.Nat.{pow-succ', div-eq_of_lt}
use Rattle.std.specs.List.{slice_get}
use Rattle.std.proofs.lemmas.Bool.{cases_lt, cond_both}
use Rattle.std.proofs.lemmas.Option.{slice_get_past}
use Rattle.std.proofs.lemmas.List.{get_or_past}
use Rattle.std.proofs.lemmas.List.FromFn.{length-map-range_with_len, get_or-map-range_with_len}
use Rattle.std.proofs.lemmas.Bool.Decides.{Decides-at, Decides-like, same_from_decides}
use Rattle.runs.specs.Bits.{bit}
use Rattle.runs.specs.Runs.{Pattern, slots, Mark}
use Rattle.runs.specs.Words.{bits, word, words, mark}
use Rattle.runs.specs.Laws.{Alike, Told}
use Rattle.runs.proofs.Marked.{mark_decides}

low : (b : Bool) (x : ℕ) → ((cond b 1 0 + 2 * x) / 2 ≡ x) × ((cond b 1 0 + 2 * x) % 2 ≡ cond b 1 0)
low true x = omega arith
low false x = omega arith

pub halved : (x j : ℕ) → x / 2 ^ suc j ≡ x / 2 / 2 ^ j
halved x j = sym (rw one-add at (shr-shr x 1 j))

bits_at : (f : ℕ → Bool) (n j : ℕ) → j < n → bits f n / 2 ^ j % 2 ≡ cond (f j) 1 0
bits_at f zero j l = absurd (omega arith)
bits_at f (suc n) zero l = omega (arith, low (f 0) (bits (λ j. f (suc j)) n))
bits_at f (suc n) (suc j) l =
    let rest = λ (i : ℕ). f (suc i) in
    rw (halved (bits f (suc n)) j, (low (f 0) (bits rest n)).0) (bits_at rest n j (omega arith))

pub bits_same : (f g : ℕ → Bool) (n : ℕ) → ((j : ℕ) → j < n → f j ≡ g j) → bits f n ≡ bits g n
bits_same f g zero same = refl
bits_same f g (suc n) same = rw (same 0 (omega arith), bits_same (λ j. f (suc j)) (λ j. g (suc j)) n (λ j l. same (suc j) (omega arith)))

one : (b : Bool) → eqb (cond b 1 0) 1 ≡ b
one true = refl
one false = refl

-- bit j of `bits f n` is f j
pub bit_bits : (f : ℕ → Bool) (n j : ℕ) → j < n → bit (bits f n) j ≡ f j
bit_bits f n j l = rw (bits_at f n j l) (one (f j))

pub bits_below : (f : ℕ → Bool) (n : ℕ) → bits f n < 2 ^ n
bits_below f zero = lit< tt
bits_below f (suc n) =
    let rest = λ (i : ℕ). f (suc i) in
    rw (pow-succ' 2 n) (cond_both (f 0) 1 0 (λ b. b + 2 * bits rest n < 2 * 2 ^ n) (λ _. omega (arith, bits_below rest n)) (λ _. omega (arith, bits_below rest n)))

pub bits_none : (f : ℕ → Bool) (n : ℕ) → ((j : ℕ) → j < n → f j ≡ false) → bits f n ≡ 0
bits_none f zero none = refl
bits_none f (suc n) none = rw (none 0 (omega arith), bits_none (λ j. f (suc j)) n (λ j l. none (suc j) (omega arith)))

-- a number below 2 to the power n has no bit from n on
pub bit_above : (w n j : ℕ) → w < 2 ^ n → n ≤ j → bit w j ≡ false
bit_above w n j small l =
    let less : w < 2 ^ j = omega (arith, pow_mono l) in
    rw (div-eq_of_lt less)

module _ {R : Type 0} (P : Pattern R) where
  pub word_bits : (xs : List R) (p : ℕ) → word P xs p ≡ bits (λ j. mark P xs j p) (slots P)
  unfolding word
  word_bits xs p = refl

  pub word_below : (xs : List R) (p : ℕ) → word P xs p < 2 ^ slots P
  unfolding word
  word_below xs p = bits_below (λ j. mark P xs j p) (slots P)

  pub bit_mark : (xs : List R) (j p : ℕ) → j < slots P → bit (word P xs p) j ≡ mark P xs j p
  unfolding word
  bit_mark xs j p b = bit_bits (λ i. mark P xs i p) (slots P) j b

  pub bit_decides : (xs : List R) (j p : ℕ) → j < slots P → Decides (bit (word P xs p) j) (Mark P xs j p)
  bit_decides xs j p b = Decides-at (bit (word P xs p) j) (mark P xs j p) (bit_mark xs j p b) (mark_decides P xs j p)

  -- where there is no reading there is no mark
  pub mark_none : (xs : List R) (j p : ℕ) → slice_get xs p ≡ None → mark P xs j p ≡ false
  unfolding mark
  mark_none xs zero p none = rw none
  mark_none xs (suc j) p none = rw none

  pub word_none : (xs : List R) (p : ℕ) → slice_get xs p ≡ None → word P xs p ≡ 0
  unfolding word
  word_none xs p none = bits_none (λ j. mark P xs j p) (slots P) (λ j _. mark_none xs j p none)

  pub word_past : (xs : List R) (p : ℕ) → length xs ≤ p → word P xs p ≡ 0
  word_past xs p l = word_none xs p (slice_get_past xs p l)

  pub length_words : (xs : List R) → length (words P xs) ≡ length xs
  length_words xs = length-map-range_with_len (word P xs) 0 (length xs)

  pub get_or_words : (xs : List R) (p : ℕ) → get_or (words P xs) p 0 ≡ word P xs p
  get_or_words xs p = go (cases_lt p (length xs))
    where
      go : (p < length xs) ⊎ (length xs ≤ p) → get_or (words P xs) p 0 ≡ word P xs p
      go (inl l) = get_or-map-range_with_len (word P xs) 0 (length xs) p p 0 l (omega arith)
      go (inr l) = get_or_past (words P xs) p 0 (omega (arith, length_words xs)) ∙ sym (word_past xs p l)

  pub told : (xs : List R) (p : ℕ) → Told P xs p
  told xs p = record {
    marks = λ j l. bit_decides xs j p l;
    above = λ j l. bit_above (word P xs p) (slots P) j (word_below xs p) l;
    below = word_below xs p;
    narrow = λ few. let more : 2 ^ slots P ≤ 2 ^ 32 = pow_mono few in omega (arith, word_below xs p);
    listed = get_or_words xs p;
  }

  pub word_alike : (xs ys : List R) (k : ℕ) → (word P xs k ≡ word P ys k) ↔ Alike P xs ys k
  unfolding word
  word_alike xs ys k = (
    λ e j b.
        let a = bit_decides xs j k b in
        let c = Decides-at (bit (word P xs k) j) (bit (word P ys k) j) (ap (λ (w : ℕ). bit w j) e) (bit_decides ys j k b) in
        (λ m. c.0 (a.1 m), λ m. a.0 (c.1 m)),
    λ a. bits_same (λ j. mark P xs j k) (λ j. mark P ys j k) (slots P) (λ j l.
        let b = a j l in
        same_from_decides (mark P xs j k) (mark P ys j k) (mark_decides P xs j k) (Decides-like (mark P ys j k) b.1 b.0 (mark_decides P ys j k))),
  )
