-- The word of a place, from its reading and the words before it.
use Rattle.std.proofs.Common.{◌≡◌, ℕ, zero, suc, ◌+◌, ◌-◌, ◌/◌, ◌%◌, ◌^◌, ◌<◌, ◌≤◌, Bool, true, false, cond, ◌&&◌, eqb, ltb, leb, ◌⊎◌, ◌↔◌, List, reverse, length, get_or, take, Decides, sym, refl, ap, ◌∙◌, inl, inr, div-one, arith, lit<, pow_mono}
use native.Mathlib.Nat.{pow-succ'}
use Rattle.std.proofs.lemmas.Bool.{ltb-true, lt-ltb, le-ltb, cases_lt, eqb-true, eq-eqb, cases_eq, both_ways, cond-true, cond-false}
use Rattle.std.proofs.lemmas.List.{get_or-reverse, get_or_past, get_or-take, length-reverse, length-take-le}
use Rattle.std.proofs.lemmas.Bool.Decides.{Decides-like, Decides-at, same_from_decides}
use Rattle.runs.specs.Gaps.{low, high}
use Rattle.runs.specs.Bits.{bit}
use Rattle.runs.specs.Runs.{Pattern, slots, fits_at, Mark}
use Rattle.runs.specs.Words.{some, bits, mark, word, words}
use Rattle.runs.proofs.Worded.{halved, bits_same, bit_mark, bit_decides, bit_above, word_below, word_bits, length_words, get_or_words}
use Rattle.runs.proofs.Windowed.{back, mark_windowed, windowed}

pub some_same : (f g : ℕ → Bool) (n : ℕ) → ((d : ℕ) → f d ≡ g d) → some f n ≡ some g n
some_same f g zero same = refl
some_same f g (suc n) same = rw (same n, some_same f g n same)

-- the right side of `&&` matters only where the left side holds
and_same : (a x y : Bool) → (a ≡ true → x ≡ y) → (a && x) ≡ (a && y)
and_same true x y h = h refl
and_same false x y h = refl

-- numbers with the same bits are the same
odd_same : (v w : ℕ) → bit v 0 ≡ bit w 0 → v % 2 ≡ w % 2
odd_same v w e = go (cases_eq (v % 2) 1) (cases_eq (w % 2) 1)
  where
    flat : (x : ℕ) → bit x 0 ≡ eqb (x % 2) 1
    flat x = ap (λ (y : ℕ). eqb (y % 2) 1) (div-one x)

    same : eqb (v % 2) 1 ≡ eqb (w % 2) 1
    same = sym (flat v) ∙ e ∙ flat w

    go : (v % 2 ≡ 1) ⊎ (v % 2 ≡ 1 → ⊥) → (w % 2 ≡ 1) ⊎ (w % 2 ≡ 1 → ⊥) → v % 2 ≡ w % 2
    go (inl a) (inl b) = a ∙ sym b
    go (inl a) (inr b) = absurd (b (eqb-true (w % 2) 1 (sym same ∙ eq-eqb (v % 2) 1 a)))
    go (inr a) (inl b) = absurd (a (eqb-true (v % 2) 1 (same ∙ eq-eqb (w % 2) 1 b)))
    go (inr a) (inr b) = omega arith

pub bits_only : (n v w : ℕ) → v < 2 ^ n → w < 2 ^ n → ((j : ℕ) → j < n → bit v j ≡ bit w j) → v ≡ w
bits_only zero v w a b same = omega arith
bits_only (suc n) v w a b same =
    let double = pow-succ' 2 n in
    let low = odd_same v w (same 0 (omega arith)) in
    let high = bits_only n (v / 2) (w / 2) (omega arith) (omega arith)
    (λ j l. let e = same (suc j) (omega arith) in ap (λ (x : ℕ). eqb (x % 2) 1) (sym (halved v j)) ∙ e ∙ ap (λ (x : ℕ). eqb (x % 2) 1) (halved w j)) in
    omega arith

small : (n : ℕ) → n < 2 ^ n
small zero = omega arith
small (suc n) = omega (arith, small n, pow-succ' 2 n)

pub bits_ext : (v w : ℕ) → ((j : ℕ) → bit v j ≡ bit w j) → v ≡ w
bits_ext v w same =
    let more : (x : ℕ) → x ≤ v + w → x < 2 ^ (v + w) =
    λ x l. omega (arith, small x, pow_mono l) in
    bits_only (v + w) v w (more v (omega arith)) (more w (omega arith)) (λ j _. same j)

module _ {R : Type 0} (P : Pattern R) where
  -- mark j of place p, from the words `ws` of the places before p
  abbrev pub next : List R → List ℕ → ℕ → ℕ → Bool
  next xs ws p zero = fits_at P xs 0 p
  next xs ws p (suc j) = fits_at P xs (suc j) p && some (λ d. leb (low P.gaps j) d && (ltb d p && bit (get_or ws (p - suc d) 0) j)) (suc (high P.gaps j))

  next_is : (xs : List R) (ws : List ℕ) (p : ℕ) → ((k : ℕ) → k < p → get_or ws k 0 ≡ word P xs k) → (j : ℕ) → j < slots P → mark P xs j p ≡ next xs ws p j
  unfolding mark
  next_is xs ws p known zero b = refl
  next_is xs ws p known (suc j) b = mark_windowed P xs j p ∙ ap (λ x. fits_at P xs (suc j) p && x) (some_same (back P xs j p) _ (suc (high P.gaps j)) (λ d. ap (λ x. leb (low P.gaps j) d && x)
      (and_same (ltb d p) _ _ (λ t. let l = ltb-true d p t in sym (bit_mark P xs j (p - suc d) (omega arith)) ∙ ap (λ w. bit w j) (sym (known (p - suc d) (omega arith)))))))

  pub word_next : (xs : List R) (ws : List ℕ) (p : ℕ) → ((k : ℕ) → k < p → get_or ws k 0 ≡ word P xs k) → word P xs p ≡ bits (next xs ws p) (slots P)
  word_next xs ws p known = word_bits P xs p ∙ bits_same (λ j. mark P xs j p) (next xs ws p) (slots P) (λ j l. next_is xs ws p known j l)

  -- the word d + 1 places before p, or 0 where there is no such place
  abbrev pub past : List R → ℕ → ℕ → ℕ
  past xs p d = cond (ltb d p) (word P xs (p - suc d)) 0

  pub past_in : (xs : List R) (p d : ℕ) → d < p → past xs p d ≡ word P xs (p - suc d)
  past_in xs p d l = cond-true (ltb d p) (word P xs (p - suc d)) 0 (lt-ltb d p l)

  pub past_out : (xs : List R) (p d : ℕ) → p ≤ d → past xs p d ≡ 0
  past_out xs p d l = cond-false (ltb d p) (word P xs (p - suc d)) 0 (le-ltb d p l)

  pub past_newest : (xs : List R) (p : ℕ) → past xs (suc p) 0 ≡ word P xs p
  past_newest xs p = let is : suc p - suc 0 ≡ p = omega arith in past_in xs (suc p) 0 (omega arith) ∙ ap (word P xs) is

  pub past_older : (xs : List R) (p d : ℕ) → past xs (suc p) (suc d) ≡ past xs p d
  past_older xs p d = go (cases_lt d p)
    where
      go : (d < p) ⊎ (p ≤ d) → past xs (suc p) (suc d) ≡ past xs p d
      go (inl l) = let is : suc p - suc (suc d) ≡ p - suc d = omega arith in past_in xs (suc p) (suc d) (omega arith) ∙ ap (word P xs) is ∙ sym (past_in xs p d l)
      go (inr l) = past_out xs (suc p) (suc d) (omega arith) ∙ sym (past_out xs p d l)

  -- the words before p, the newest last
  pub past_words : (xs : List R) (p d : ℕ) → p ≤ length xs → get_or (reverse (take p (words P xs))) d 0 ≡ past xs p d
  past_words xs p d l = go (cases_lt d p)
    where
      long : length (take p (words P xs)) ≡ p
      long = length-take-le p (words P xs) (omega (arith, length_words P xs))

      go : (d < p) ⊎ (p ≤ d) → get_or (reverse (take p (words P xs))) d 0 ≡ past xs p d
      go (inl b) =
          let is : length (take p (words P xs)) - 1 - d ≡ p - suc d = omega (arith, long) in
          get_or-reverse (take p (words P xs)) d 0 (omega (arith, long)) ∙ ap (λ (k : ℕ). get_or (take p (words P xs)) k 0) is ∙
          get_or-take p (words P xs) (p - suc d) 0 (omega arith) ∙ get_or_words P xs (p - suc d) ∙ sym (past_in xs p d b)
      go (inr b) = get_or_past (reverse (take p (words P xs))) d 0 (omega (arith, long, length-reverse (take p (words P xs)))) ∙ sym (past_out xs p d b)

  -- bit j of the word d + 1 places before p is set where there is such a place, and it bears mark j
  pub past_decides : (xs : List R) (p d j : ℕ) → j < slots P → Decides (bit (past xs p d) j) ((d < p) × Mark P xs j (p - suc d))
  past_decides xs p d j b = go (cases_lt d p)
    where
      go : (d < p) ⊎ (p ≤ d) → Decides (bit (past xs p d) j) ((d < p) × Mark P xs j (p - suc d))
      go (inl l) =
          Decides-at (bit (past xs p d) j) (bit (word P xs (p - suc d)) j) (ap (λ (w : ℕ). bit w j) (past_in xs p d l))
          (Decides-like (bit (word P xs (p - suc d)) j) (λ m. (l, m)) (λ m. m.1) (bit_decides P xs j (p - suc d) b))
      go (inr l) = (
        λ t. absurd (both_ways (bit (past xs p d) j) (ap (λ (w : ℕ). bit w j) (past_out xs p d l) ∙ bit_above 0 0 j (lit< tt) (omega arith)) t),
        λ m. absurd (omega arith),
      )

  -- A word is that of place p where it tells of its reading, and of what a memory of the words before p says.
  module _ (xs : List R) (p : ℕ) (says : ℕ → ℕ → Bool) (recalled : (j d : ℕ) → suc j < slots P → d ≤ high P.gaps j → says j d ≡ bit (past xs p d) j)
      (fits : ℕ) (fit : (j : ℕ) → j < slots P → bit fits j ≡ fits_at P xs j p) where
    -- the memory says yes of slot j, at a distance that gap j allows
    abbrev pub Seen : ℕ → Type 0
    Seen j = (d : ℕ) × (low P.gaps j ≤ d) × (d ≤ high P.gaps j) × (says j d ≡ true)

    pub mark_seen : (j : ℕ) → suc j < slots P → Mark P xs (suc j) p ↔ ((bit fits (suc j) ≡ true) × Seen j)
    mark_seen j b = (
      λ m.
          let (f, (d, l, (lo, (dp, k)))) = (windowed P xs j p).0 m in
          (fit (suc j) b ∙ f, (d, lo, omega arith, recalled j d b (omega arith) ∙ (past_decides xs p d j (omega arith)).1 (dp, k))),
      λ (f, (d, lo, hi, s)).
          let k = (past_decides xs p d j (omega arith)).0 (sym (recalled j d b hi) ∙ s) in
          (windowed P xs j p).1 (sym (fit (suc j) b) ∙ f, (d, omega arith, (lo, (k.0, k.1)))),
    )

    pub word_from : (w : ℕ) → bit w 0 ≡ bit fits 0 → ((j : ℕ) → suc j < slots P → Decides (bit w (suc j)) ((bit fits (suc j) ≡ true) × Seen j)) →
        ((j : ℕ) → slots P ≤ suc j → bit w (suc j) ≡ false) → w ≡ word P xs p
    unfolding mark
    word_from w first later none = bits_ext w (word P xs p) each
      where
        go : (j : ℕ) → (suc j < slots P) ⊎ (slots P ≤ suc j) → bit w (suc j) ≡ bit (word P xs p) (suc j)
        go j (inl b) =
            let m = mark_seen j b in
            same_from_decides (bit w (suc j)) (bit (word P xs p) (suc j)) (Decides-like (bit w (suc j)) m.1 m.0 (later j b)) (bit_decides P xs (suc j) p b)
        go j (inr b) = none j b ∙ sym (bit_above (word P xs p) (slots P) (suc j) (word_below P xs p) b)

        each : (j : ℕ) → bit w j ≡ bit (word P xs p) j
        each zero = first ∙ fit 0 (omega arith) ∙ sym (bit_mark P xs 0 p (omega arith))
        each (suc j) = go j (cases_lt (suc j) (slots P))
