-- A word, slot by slot of those that the reading fits, the lowest first.
use Rattle.std.proofs.Common.{◌≡◌, ℕ, suc, ◌+◌, ◌-◌, ◌*◌, ◌%◌, ◌^◌, ◌<◌, ◌≤◌, true, false, ◌≢◌, Decides, sym, refl, ap, ◌∙◌, subst, ⊎_elim, arith}
use lib.Bits.{bit_and, bit_or, and_le_l, and_le_r}
use lib.Count.{count_trailing_zeros}
use Rattle.std.proofs.lemmas.Bool.{cases_eq, both_ways}
use Rattle.runs.specs.declared.signature.Signature.{Signature}
use Rattle.runs.specs.Bits.{bit}
use Rattle.engines.specs.Blocks.{block}
use Rattle.engines.specs.Memory.{Memory, Seen, Stepped}
use Rattle.engines.proofs.Bits.{bit_zero, bit_high, and_on, and_both, set_same, set_other}
use Rattle.engines.proofs.Blocks.{block_in, block_only}
use Rattle.engines.proofs.LowBit.{Lowest, low_bit, drop_here, drop_other}

-- w is the word of the slots but those of `left`, which are still to be looked at
pub record Looking (s : Signature) (fits left w : ℕ) : Type 0 where
  pub small : left < 2 ^ 32
  pub first : bit w 0 ≡ bit fits 0
  pub ahead : (i : ℕ) → bit left i ≡ true → (0 < i) × (i < s.slots) × (bit fits i ≡ true) × (bit w i ≡ false)
  pub none : (j : ℕ) → s.slots ≤ suc j → bit w (suc j) ≡ false

-- w tells of the later slots but those of `left`
abbrev pub Told : Signature → Memory → ℕ → ℕ → ℕ → Type 0
Told s says fits left w = (j : ℕ) → suc j < s.slots → bit left (suc j) ≡ false → Decides (bit w (suc j)) ((bit fits (suc j) ≡ true) × Seen s says j)

module _ (s : Signature) (fits : ℕ) where
  -- only the first slot is looked at
  module _ (small : fits < 2 ^ 32) (later : ℕ) (e : later ≡ block 1 (s.slots - 1)) where
    none : (i : ℕ) → 1 ≤ i → bit (bit_and fits 1) i ≡ false
    none i l = let low : bit_and fits 1 < 2 ^ 1 = omega (arith, and_le_r fits 1) in bit_high (bit_and fits 1) i 1 low l

    on : (i : ℕ) → 1 ≤ i → i < 1 + (s.slots - 1) → bit later i ≡ true
    on i l h = ap (λ n. bit n i) e ∙ block_in 1 (s.slots - 1) i l h

    pub looking_first : Looking s fits (bit_and fits later) (bit_and fits 1)
    looking_first = record {
      small = omega (arith, and_le_l fits later);
      first = and_on fits 1 0 refl;
      ahead = λ i b.
          let both = and_both fits later i b in
          let o = block_only 1 (s.slots - 1) i (subst (λ n. bit n i ≡ true) e both.1) in
          (o.0, omega (arith, o.1), both.0, none i o.0);
      none = λ j l. none (suc j) (omega arith);
    }

    pub told_first : (says : Memory) → Told s says fits (bit_and fits later) (bit_and fits 1)
    told_first says j l z = (
      (λ b. absurd (both_ways (bit (bit_and fits 1) (suc j)) (none (suc j) (omega arith)) b)),
      (λ h. absurd (both_ways (bit (bit_and fits later) (suc j)) z (and_on fits later (suc j) (on (suc j) (omega arith) (omega arith)) ∙ h.0))),
    )

  -- the lowest slot of those that are left
  module _ (left w t : ℕ) (low : Lowest 32 left t) (have : Looking s fits left w) where
    looking_more : (w' : ℕ) → ((i : ℕ) → i ≢ t → bit w' i ≡ bit w i) → Looking s fits (bit_and left (left - 1)) w'
    looking_more w' same =
        let h = have.ahead t low.here in
        record {
          small = omega (arith, and_le_l left (left - 1), have.small);
          first = let ne : 0 ≢ t = omega (arith, h.0) in same 0 ne ∙ have.first;
          ahead = λ i b.
              let ne : i ≢ t = λ e. both_ways (bit (bit_and left (left - 1)) t) (drop_here 32 left t low) (ap (bit (bit_and left (left - 1))) (sym e) ∙ b) in
              let a = have.ahead i (sym (drop_other 32 left t low i ne) ∙ b) in
              (a.0, a.1, a.2, same i ne ∙ a.3);
          none = λ j l. let ne : suc j ≢ t = omega (arith, h.1) in same (suc j) ne ∙ have.none j l;
        }

    told_more : (says : Memory) (w' : ℕ) → ((i : ℕ) → i ≢ t → bit w' i ≡ bit w i) → Decides (bit w' t) (Seen s says (t - 1)) → Told s says fits left w → Told s says fits (bit_and left (left - 1)) w'
    told_more says w' same tells told j l z =
        let h = have.ahead t low.here in
        ⊎_elim
        (λ (e : suc j ≡ t).
        let q : t - 1 ≡ j = omega arith in (
          (λ b. (ap (bit fits) e ∙ h.2, subst (Seen s says) q (tells.0 (ap (bit w') (sym e) ∙ b)))),
          (λ p. ap (bit w') e ∙ tells.1 (subst (Seen s says) (sym q) p.1)),
        ))
        (λ (e : suc j ≡ t → ⊥).
        let before = told j l (sym (drop_other 32 left t low (suc j) e) ∙ z) in
        ((λ b. before.0 (sym (same (suc j) e) ∙ b)), (λ p. same (suc j) e ∙ before.1 p)))
        (cases_eq (suc j) t)

    -- the slot has no mark
    pub looking_skip : Looking s fits (bit_and left (left - 1)) w
    looking_skip = looking_more w (λ i _. refl)

    pub told_skip : (says : Memory) → (Seen s says (t - 1) → ⊥) → Told s says fits left w → Told s says fits (bit_and left (left - 1)) w
    told_skip says nor = told_more says w (λ i _. refl)
        ((λ b. absurd (both_ways (bit w t) (have.ahead t low.here).3 b)), (λ seen. absurd (nor seen)))

    -- the slot has a mark
    pub looking_set : Looking s fits (bit_and left (left - 1)) (bit_or w ((1 * 2 ^ t) % 2 ^ 32))
    looking_set = looking_more (bit_or w ((1 * 2 ^ t) % 2 ^ 32)) (λ i ne. set_other 32 w t i low.inside ne)

    pub told_set : (says : Memory) → Seen s says (t - 1) → Told s says fits left w → Told s says fits (bit_and left (left - 1)) (bit_or w ((1 * 2 ^ t) % 2 ^ 32))
    told_set says seen = told_more says (bit_or w ((1 * 2 ^ t) % 2 ^ 32)) (λ i ne. set_other 32 w t i low.inside ne) ((λ _. seen), (λ _. set_same 32 w t low.inside))

  -- the slot that is looked at
  pub next_slot : (left w : ℕ) → left ≢ 0 → Looking s fits left w → (0 < count_trailing_zeros 32 left) × (count_trailing_zeros 32 left < s.slots)
  next_slot left w ne o = let a = o.ahead (count_trailing_zeros 32 left) (low_bit 32 left ne o.small).here in (a.0, a.1)

  -- nothing is left
  pub looked : (left w : ℕ) (says : Memory) → left ≡ 0 → Looking s fits left w → Told s says fits left w → Stepped s says fits w
  looked left w says e o told = record { first = o.first; later = λ j l. told j l (ap (λ n. bit n (suc j)) e ∙ bit_zero (suc j)); none = o.none }
