-- Two slots with a mark between them: where the text ends, and what writing it leaves.
use Rattle.std.specs.Prelude.{◌≡◌, ℕ, ◌<◌, ◌≤◌, Bool, true, false, cond, ◌⊎◌, List, length, is_ok, Ok, Err, Result, ◌==◌, ◌≢◌, nat_lt}
use Rattle.std.proofs.Math.Path.{refl, ap}
use Rattle.std.proofs.Common.{sym, ◌∙◌, inl, inr}
use native.Mathlib.Omega.{arith}
use Rattle.std.proofs.lemmas.Bool.{cases_eq, eq-eqb, ne_eqb, lt-ltb}
use Rattle.std.proofs.lemmas.Bool.Decides.{nat_tests}
use Rattle.text.specs.declared.mark.Mark.{Mark}
use Rattle.text.specs.declared.refusal.Layer.TheVariants.{Slot}
use Rattle.text.specs.declared.refusal.Refusal.{Refusal}
use Rattle.text.specs.Refusals.{◌then◌}
use Rattle.text.specs.Marks.{mark_taken}
use Rattle.text.specs.Words.{place_in}
use Rattle.text.proofs.Bounds.{mark_within}
use Rattle.signature.specs.Sets.{Put, nothing}
use Rattle.signature.specs.Slots.{Reads, set_of, end_of, Within, Past}
use Rattle.gauges.specs.Pairs.{Parts, parts_at, left_of, right_of, Joins, pair_at, Kept}
use Rattle.text.proofs.Steps.{both, ok_same}

-- where writing was refused, what would have been read next changes nothing
refused_on : {A B : Type 0} (few : Bool) (a : Result (A × ℕ) Refusal) (f : A × ℕ → Result (B × ℕ) Refusal) (x y : Refusal)
    → Err x ≡ cond few (a then (λ v. Ok v.1)) (Err y) → Err x ≡ cond few ((a then f) then (λ v. Ok v.1)) (Err y)
refused_on true (Ok v) f x y is = absurd (let z : ◌≡◌ {A = ℕ} 0 1 = cc in omega arith)
refused_on true (Err e) f x y is = is
refused_on false a f x y is = is

-- where a slot was written, there is such a slot, and its text was read
pub written : {A : Type 0} (slot at : ℕ) (a : Result (A × ℕ) Refusal) (e : ℕ) → Ok e ≡ end_of slot at a → (slot < 32) × ((v : A) × (a ≡ Ok (v, e)))
written slot at (Ok v) e is = let q : v.1 ≡ e = grind (arith, nat_tests) in (grind (arith, nat_tests), (v.0, ap (λ n. Ok (v.0, n)) q))
written slot at (Err x) e is = absurd (grind (arith, nat_tests))

-- where one of the 32 slots was not written, its text was refused
not_written : {A : Type 0} (slot at : ℕ) (a : Result (A × ℕ) Refusal) (x : Refusal) → Err x ≡ end_of slot at a → slot < 32 → a ≡ Err x
not_written slot at (Ok v) x is few = absurd (grind (arith, nat_tests))
not_written slot at (Err y) x is few = grind (arith, nat_tests)

module _ {L R : Type 0} (mark : Mark) (l : Reads L) (r : Reads R) where
  parts_within : Within l → Within r → (s : List ℕ) (at : ℕ) (p : Parts L R) (e : ℕ) → parts_at mark l r s at ≡ Ok (p, e) → (place_in s at ≤ e) × (e ≤ length s)
  unfolding parts_at
  parts_within first second s at p e is =
      let (v, from, rest) = both (l s at) _ (p, e) is in
      let a = first s at v.0 v.1 from in
      let (next, marked, more) = both (mark_taken Slot mark s v.1) _ (p, e) rest in
      let k = mark_within Slot mark s v.1 next marked in
      let (w, to, out) = both (r s next) _ (p, e) more in
      let b = second s next w.0 w.1 to in
      let same : w.1 ≡ e = ap (λ q. q.1) (ok_same _ _ out) in
      (omega arith, omega arith)

  parts_past : Past l → (s : List ℕ) (at : ℕ) → length s ≤ at → parts_at mark l r s at ≡ parts_at mark l r s (length s)
  unfolding parts_at
  parts_past first s at h = rw (first s at h) refl

  module _ (s : List ℕ) (slot at : ℕ) where
    pub refused_left : (x : Refusal) → Err x ≡ end_of slot at (l s at) → Err x ≡ end_of slot at (parts_at mark l r s at)
    unfolding parts_at
    refused_left x is = refused_on (nat_lt slot 32) (l s at) _ x _ is

    module _ (middle : ℕ) (v : L → Bool) (few : slot < 32) (from : l s at ≡ Ok (v, middle)) where
      pub refused_mark : (x : Refusal) → mark_taken Slot mark s middle ≡ Err x → Err x ≡ end_of slot at (parts_at mark l r s at)
      unfolding parts_at
      refused_mark x is = rw (from, is, lt-ltb slot 32 few) refl

      module _ (next : ℕ) (marked : mark_taken Slot mark s middle ≡ Ok next) where
        -- the left set and what comes of the right slot
        abbrev beside : (R → Bool) × ℕ → Result (Parts L R × ℕ) Refusal
        beside w = Ok (record { left = v; right = w.0 }, w.1)

        last_part : parts_at mark l r s at ≡ (r s next then beside)
        unfolding parts_at
        last_part = rw (from, marked) refl

        same_end : (b : Result ((R → Bool) × ℕ) Refusal) → end_of slot next b ≡ end_of slot at (b then beside)
        same_end (Ok w) = rw (lt-ltb slot 32 few) refl
        same_end (Err x) = rw (lt-ltb slot 32 few) refl

        pub end_right : end_of slot next (r s next) ≡ end_of slot at (parts_at mark l r s at)
        end_right = same_end (r s next) ∙ ap (end_of slot at) (sym last_part)

        sets_as : (w : R → Bool) (e : ℕ) → r s next ≡ Ok (w, e) → (left_of (parts_at mark l r s at) ≡ set_of (l s at)) × (right_of (parts_at mark l r s at) ≡ set_of (r s next))
        sets_as w e to =
            let whole : parts_at mark l r s at ≡ beside (w, e) = last_part ∙ ap (λ b. b then beside) to in
            (ap left_of whole ∙ sym (ap set_of from), ap right_of whole ∙ sym (ap set_of to))

        -- where the right slot was written too, both sets are those that were read
        pub sets_read : (out : Result ℕ Refusal) → out ≡ end_of slot next (r s next) → is_ok out ≡ true
            → (left_of (parts_at mark l r s at) ≡ set_of (l s at)) × (right_of (parts_at mark l r s at) ≡ set_of (r s next))
        sets_read (Ok e) is ok = let (few', (w, to)) = written slot next (r s next) e is in sets_as w e to
        sets_read (Err x) is ok = absurd (grind arith)

-- what left, the mark and right stand for
module _ {L R V : Type 0} (mark : Mark) (join : Joins L R V) (reads : Reads L → Reads R → Reads V) (is : reads ≡ pair_at mark join) (l : Reads L) (r : Reads R) where
  pub pair_within : Within l → Within r → Within (reads l r)
  pair_within first second s at v e told =
      let (p, parts, out) = both (parts_at mark l r s at) _ (v, e) (rw is at told) in
      let b = parts_within mark l r first second s at p.0 p.1 parts in
      let same : p.1 ≡ e = ap (λ q. q.1) (ok_same _ _ out) in
      (omega arith, omega arith)

  pub pair_past : Past l → Past (reads l r)
  pair_past first s at h = rw (is, parts_past mark l r first s at h) refl

module _ {R : Type 0} (slot : ℕ) where
  pub put_as : (set set' : R → Bool) (before after : ℕ → R → Bool) → set ≡ set' → Put slot set' before after → Put slot set before after
  put_as set set' before after is put j l x = put j l x ∙ ap (λ (f : R → Bool). cond (j == slot) (f x) (before j x)) (sym is)

  pub kept_put : (set : R → Bool) (before after : ℕ → R → Bool) → Put slot set before after → Kept slot before after
  kept_put set before after put j l ne x = put j l x ∙ rw (ne_eqb j slot ne) refl

  -- what was written in part and then emptied
  pub emptied : (set : R → Bool) (before middle after : ℕ → R → Bool) → (slot < 32 → (x : R) → set x ≡ false) → Kept slot before middle → Put slot nothing middle after → Put slot set before after
  emptied set before middle after none kept put j l x = go (cases_eq j slot)
    where
      go : (j ≡ slot) ⊎ (j ≢ slot) → after j x ≡ cond (j == slot) (set x) (before j x)
      go (inl same) = put j l x ∙ rw (eq-eqb j slot same) (sym (none (omega arith) x))
      go (inr other) = put j l x ∙ rw (ne_eqb j slot other) (kept j l other x)

module _ {L R : Type 0} (slot at : ℕ) (p : Result (Parts L R × ℕ) Refusal) (x : Refusal) (is : Err x ≡ end_of slot at p) where
  pub left_none : slot < 32 → (y : L) → left_of p y ≡ false
  left_none few y = rw (not_written slot at p x is few) refl

  pub right_none : slot < 32 → (y : R) → right_of p y ≡ false
  right_none few y = rw (not_written slot at p x is few) refl

module _ {L R V : Type 0} (join : Joins L R V) where
  pub end_joined : (slot at : ℕ) (p : Result (Parts L R × ℕ) Refusal) → end_of slot at p ≡ end_of slot at (p then (λ v. Ok (join v.0.left v.0.right, v.1)))
  end_joined slot at (Ok v) = refl
  end_joined slot at (Err x) = refl

  set_joined : ((x : V) → join nothing nothing x ≡ false) → (p : Result (Parts L R × ℕ) Refusal) (x : V) → join (left_of p) (right_of p) x ≡ set_of (p then (λ v. Ok (join v.0.left v.0.right, v.1))) x
  set_joined empty (Ok v) x = refl
  set_joined empty (Err e) x = empty x

  joined : (here : Bool) (a : L → Bool) (b : R → Bool) (set : V → Bool) (l : L → Bool) (r : R → Bool) (x : V) → join a b x ≡ set x
      → join (λ y. cond here (a y) (l y)) (λ y. cond here (b y) (r y)) x ≡ cond here (set x) (join l r x)
  joined true a b set l r x is = is
  joined false a b set l r x is = refl

  module _ (slot : ℕ) (l l' : ℕ → L → Bool) (r r' : ℕ → R → Bool) where
    -- where each part has its set, the whole has what the two make together
    pub put_both : (a : L → Bool) (b : R → Bool) (set : V → Bool) → ((x : V) → join a b x ≡ set x) → Put slot a l l' → Put slot b r r' → Put slot set (λ j. join (l j) (r j)) (λ j. join (l' j) (r' j))
    put_both a b set is p q j few x =
        let f : l' j ≡ (λ y. cond (j == slot) (a y) (l j y)) = λ i y. p j few y i in
        let g : r' j ≡ (λ y. cond (j == slot) (b y) (r j y)) = λ i y. q j few y i in
        ap (λ (h : L → Bool). join h (r' j) x) f ∙ ap (λ (h : R → Bool). join (λ y. cond (j == slot) (a y) (l j y)) h x) g ∙ joined (j == slot) a b set (l j) (r j) x (is x)

    -- the same where both sets are read from a text
    pub put_joined : ((x : V) → join nothing nothing x ≡ false) → (p : Result (Parts L R × ℕ) Refusal)
        → Put slot (left_of p) l l' → Put slot (right_of p) r r' → Put slot (set_of (p then (λ v. Ok (join v.0.left v.0.right, v.1)))) (λ j. join (l j) (r j)) (λ j. join (l' j) (r' j))
    put_joined empty p = put_both (left_of p) (right_of p) (set_of (p then (λ v. Ok (join v.0.left v.0.right, v.1)))) (set_joined empty p)
