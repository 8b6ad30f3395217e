-- A reading looks at no byte past where it ends, or past where it is refused.
use Rattle.std.proofs.Common.{◌≡◌, ℕ, ◌+◌, ◌<◌, ◌≤◌, min, Bool, true, false, cond, eqb, ◌⊎◌, List, length, get_or, take, Ok, Err, Result, sym, refl, ap, ◌∙◌, subst, inl, inr, ⊎_elim, arith, length-take, take_all}
use Rattle.std.proofs.lemmas.Bool.{cases_lt}
use Rattle.text.specs.declared.mark.Mark.{Mark}
use Rattle.text.specs.declared.refusal.Layer.{Layer}
use Rattle.text.specs.declared.refusal.Refusal.{Refusal}
use Rattle.text.specs.declared.refusal.Refusal.TheVariants.{LongText, NoDigit, NoMark, OutOfRange, Backward}
use Rattle.text.specs.Refusals.{◌then◌, place_of}
use Rattle.text.specs.Words.{is_digit, place_in}
use Rattle.text.specs.Numbers.{number_at}
use Rattle.text.specs.Marks.{code_of, is_mark, mark_taken}
use Rattle.text.specs.Grammar.{NumberText}
use Rattle.text.specs.Places.{AtPlace}
use Rattle.text.proofs.Steps.{err_same, both, faults}
use Rattle.text.proofs.Begins.{byte_moved, number_moved}
use Rattle.text.proofs.Derived.{number_sound, number_complete, number_none, number_refused}

-- these look further

pub not_range : (p : ℕ) → AtPlace (OutOfRange p) → ⊥
not_range p h = elim h [ ]

pub not_backward : (l : Layer) (p : ℕ) → AtPlace (Backward l p) → ⊥
not_backward l p h = elim h [ ]

pub not_long : AtPlace LongText → ⊥
not_long h = elim h [ ]

-- two texts that have the same bytes up to place p, and that one
pub record Agree (s t : List ℕ) (p : ℕ) : Type 0 where
  pub left : p < length s
  pub right : p < length t
  pub front : take (p + 1) t ≡ take (p + 1) s

pub agree : (s t : List ℕ) (p : ℕ) → take (p + 1) t ≡ take (p + 1) s → (t ≡ s) ⊎ Agree s t p
agree s t p same = go (cases_lt p (length s))
  where
    long : min (p + 1) (length t) ≡ min (p + 1) (length s)
    long = sym (length-take (p + 1) t) ∙ ap length same ∙ length-take (p + 1) s

    go : (p < length s) ⊎ (length s ≤ p) → (t ≡ s) ⊎ Agree s t p
    go (inl l) = inr (record { left = l; right = omega (arith, long); front = same })
    go (inr l) = inl (sym (take_all (p + 1) t (omega (arith, long))) ∙ same ∙ take_all (p + 1) s (omega arith))

-- of two outcomes from place a on: what the first comes to within place p, the other comes to as well
pub record Local {A : Type 0} (p a : ℕ) (r u : Result A Refusal) (end : A → ℕ) : Type 0 where
  pub ok : (v : A) → r ≡ Ok v → end v ≤ p → (a ≤ p) × (u ≡ Ok v)
  pub err : (x : Refusal) → r ≡ Err x → AtPlace x → place_of x ≤ p → (a ≤ p) × (u ≡ Err x)

module _ {A : Type 0} (p a : ℕ) (end : A → ℕ) where
  pub ok_local : (v : A) → (end v ≤ p → a ≤ p) → Local p a (Ok v) (Ok v) end
  ok_local v on = record {
    ok = λ w is l. (on (subst (λ z. end z ≤ p) (sym cc) l), is);
    err = λ x is. cc;
  }

  pub err_local : (x y : Refusal) → (AtPlace x → place_of x ≤ p → (a ≤ p) × (x ≡ y)) → Local p a (Err x) (Err y) end
  err_local x y on = record {
    ok = λ w is. cc;
    err = λ w is at l.
        let same = err_same x w is in
        let told = on (subst AtPlace (sym same) at) (subst (λ z. place_of z ≤ p) (sym same) l) in
        (told.0, ap Err (sym told.1 ∙ same));
  }

  pub later_local : (b : ℕ) (r u : Result A Refusal) → a ≤ b → Local p b r u end → Local p a r u end
  later_local b r u le h = record {
    ok = λ v is l. let told = h.ok v is l in (omega arith, told.1);
    err = λ x is at l. let told = h.err x is at l in (omega arith, told.1);
  }

  pub cond_local : (c d : Bool) (x y x' y' : Result A Refusal) → (a ≤ p → c ≡ d) → (c ≡ true → Local p a x x' end) → (c ≡ false → Local p a y y' end)
      → Local p a (cond c x y) (cond d x' y') end
  cond_local true d x y x' y' same yes' no' = record {
    ok = λ v is l. let told = (yes' refl).ok v is l in (told.0, rw (sym (same told.0)) told.1);
    err = λ v is at l. let told = (yes' refl).err v is at l in (told.0, rw (sym (same told.0)) told.1);
  }
  cond_local false d x y x' y' same yes' no' = record {
    ok = λ v is l. let told = (no' refl).ok v is l in (told.0, rw (sym (same told.0)) told.1);
    err = λ v is at l. let told = (no' refl).err v is at l in (told.0, rw (sym (same told.0)) told.1);
  }

pub then_local : {A B : Type 0} (p a : ℕ) (end : A → ℕ) (last : B → ℕ) (r u : Result A Refusal) (f g : A → Result B Refusal)
    → Local p a r u end → ((v : A) → r ≡ Ok v → Local p (end v) (f v) (g v) last) → Local p a (r then f) (u then g) last
then_local {A} {B} p a end last r u f g first next = record {
  ok = λ w is l.
      let (v, one, two) = both r f w is in
      let on = (next v one).ok w two l in
      let told = first.ok v one on.0 in
      (told.0, rw told.1 on.1);
  err = λ x is at l.
      faults r f x is
      (λ one. let told = first.err x one at l in (told.0, rw told.1 refl))
      (λ v one two.
      let on = (next v one).err x two at l in
      let told = first.ok v one on.0 in
      (told.0, rw told.1 on.1));
}

module _ (s t : List ℕ) (p : ℕ) (h : Agree s t p) where
  same_byte : (k : ℕ) → k ≤ p → get_or s k 0 ≡ get_or t k 0
  same_byte k l = sym (byte_moved s t (p + 1) h.front k (omega arith))

  pub same_mark : (m : Mark) (a : ℕ) → a ≤ p → is_mark m s a ≡ is_mark m t a
  same_mark m a l = ap (λ b. eqb b (code_of m)) (same_byte a l)

  -- a place within the texts is itself
  pub inside : (a : ℕ) → place_in s a ≤ p → (a ≤ p) × (place_in s a ≡ a) × (place_in t a ≡ a)
  inside a l = let left = h.left in let right = h.right in (omega arith, omega arith, omega arith)

  pub mark_local : (l : Layer) (m : Mark) (a : ℕ) → Local p a (mark_taken l m s a) (mark_taken l m t a) (λ e. e)
  mark_local l m a =
      cond_local p a (λ e. e) (is_mark m s a) (is_mark m t a) _ _ _ _ (same_mark m a)
      (λ _. ok_local p a (λ e. e) (a + 1) (λ l. omega arith))
      (λ _. err_local p a (λ e. e) _ _ (λ at far. let (le, one, two) = inside a far in (le, ap (NoMark l) (one ∙ sym two))))

  same_number : (a b v : ℕ) → b ≤ p → NumberText s a b v → NumberText t a b v
  same_number a b v l n = number_moved s t (p + 1) h.front a b v (omega arith) (ap is_digit (sym (same_byte b l)) ∙ n.stops) n

  pub number_local : (limit a : ℕ) → Local p a (number_at limit s a) (number_at limit t a) (λ n. n.end)
  number_local limit a = record {
    ok = λ n is l.
        let (text, few) = number_sound s a limit n is in
        let some = text.some in
        (omega arith, number_complete t a limit n.end n.value (same_number a n.end n.value l text) few);
    err = λ x is at l. go x is at l;
  }
    where
      go : (x : Refusal) → number_at limit s a ≡ Err x → AtPlace x → place_of x ≤ p → (a ≤ p) × (number_at limit t a ≡ Err x)
      go x is at l =
          ⊎_elim
          (λ (w : (is_digit (get_or s a 0) ≡ false) × (x ≡ NoDigit (place_in s a))).
          let (le, one, two) = inside a (subst (λ z. place_of z ≤ p) w.1 l) in
          let stop : is_digit (get_or t a 0) ≡ false = ap is_digit (sym (same_byte a le)) ∙ w.0 in
          (le, number_none t a limit stop ∙ ap (λ k. Err (NoDigit k)) (two ∙ sym one) ∙ ap Err (sym w.1)))
          (λ (w : x ≡ OutOfRange a). absurd (not_range a (subst AtPlace w at)))
          (number_refused s a limit x is)
