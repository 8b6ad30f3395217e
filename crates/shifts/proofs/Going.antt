-- The calls of a shift, one request after another.
use Rattle.std.proofs.Common.{◌≡◌, ℕ, zero, suc, ◌+◌, ◌<◌, ◌≤◌, ◌≢◌, List, [], ◌∷◌, ◌++◌, map, length, set, Some, vec_items, sym, refl, ap, ◌∙◌, subst, add-one, arith, length-set}
use Rattle.std.specs.List.{slice_get}
use Rattle.runs.proofs.Nth.{nth_set, nth_append}
use Rattle.runs.proofs.Steps.{at_top}
use Rattle.records.specs.States.{Meaning, State}
use Rattle.records.specs.Books.{Answer}
use Rattle.shifts.specs.declared.request.Request.{Request}
use Rattle.shifts.specs.Made.{Made}
use Rattle.shifts.specs.Carried.{Carried, Carries, made_of}
use Rattle.shifts.specs.Chains.{Chain, none, more}
use Rattle.shifts.specs.Replayed.{answer_of, Asked}

-- other lists with the same first calls and answers
pub chain_alike : {G E R : Type 0} (M : Meaning G E R) (ms ms' : List (Made R)) (said said' : List Answer) (s : State G E R) (n : ℕ) (t : State G E R)
    → ((k : ℕ) → k < n → slice_get ms k ≡ slice_get ms' k) → ((k : ℕ) → k < n → slice_get said k ≡ slice_get said' k) → Chain M ms said s n t → Chain M ms' said' s n t
chain_alike M ms ms' said said' s _ t f g none = none
chain_alike M ms ms' said said' s _ u f g (more {n = n} {t = t} chain call answer carried) =
    more (chain_alike M ms ms' said said' s n t (λ k l. f k (omega arith)) (λ k l. g k (omega arith)) chain) (sym (f n (omega arith)) ∙ call) (sym (g n (omega arith)) ∙ answer) carried

nth_map : {X Y : Type 0} (f : X → Y) (xs : List X) (i : ℕ) (x : X) → slice_get xs i ≡ Some x → slice_get (map f xs) i ≡ Some (f x)
nth_map f [] i x e = let z : ◌≡◌ {A = ℕ} 0 1 = cc in absurd (omega arith)
nth_map f (y ∷ xs) zero x e = let is : y ≡ x = cc in ap (λ v. Some (f v)) is
nth_map f (y ∷ xs) (suc i) x e = nth_map f xs i x e

map_set : {X Y : Type 0} (f : X → Y) (xs : List X) (i : ℕ) (x : X) → map f (set xs i x) ≡ set (map f xs) i (f x)
map_set f [] i x = refl
map_set f (y ∷ xs) zero x = refl
map_set f (y ∷ xs) (suc i) x = ap (λ r. f y ∷ r) (map_set f xs i x)

nth_set_same : {X : Type 0} (xs : List X) (i : ℕ) (x : X) → i < length xs → slice_get (set xs i x) i ≡ Some x
nth_set_same [] i x l = absurd (omega arith)
nth_set_same (y ∷ xs) zero x l = refl
nth_set_same (y ∷ xs) (suc i) x l = nth_set_same xs i x (omega arith)

pub length_mapped : {X Y : Type 0} (f : X → Y) (xs : List X) → length (map f xs) ≡ length xs
length_mapped f [] = refl
length_mapped f (x ∷ xs) = ap suc (length_mapped f xs)

nth_last : {X : Type 0} (xs : List X) (x : X) (n : ℕ) → length xs ≡ n → slice_get (xs ++ x ∷ []) n ≡ Some x
nth_last [] x zero e = refl
nth_last [] x (suc n) e = absurd (omega arith)
nth_last (y ∷ xs) x zero e = absurd (omega arith)
nth_last (y ∷ xs) x (suc n) e = nth_last xs x n (omega arith)

module _ {G E R : Type 0} (M : Meaning G E R) (before : List (Request R)) (s : State G E R) where
  -- the first i requests are answered, and the others as they were
  pub record Going (now : List (Request R)) (i : ℕ) (t : State G E R) : Type 0 where
    pub chain : Chain M (map made_of before) (map answer_of now) s i t
    pub long : length now ≡ length before
    pub done : (k : ℕ) (q q' : Request R) → k < i → slice_get before k ≡ Some q → slice_get now k ≡ Some q' → Asked q q'
    pub todo : (k : ℕ) → i ≤ k → slice_get now k ≡ slice_get before k

  pub going_none : Going before 0 s
  going_none = record { chain = none; long = refl; done = λ k q q' l. absurd (omega arith); todo = λ k l. refl }

  pub going_more : (now : List (Request R)) (i : ℕ) (t u : State G E R) (q q' : Request R) → i < length now → slice_get now i ≡ Some q → Going now i t → Carries M q t q' u → Going (set now i q') (i + 1) u
  going_more now i t u q q' l read o (reply, filled, carried) = record {
    chain = subst (λ (n : ℕ). Chain M (map made_of before) (map answer_of (set now i q')) s n u) (sym (add-one i))
        (more (chain_alike M _ _ _ (map answer_of (set now i q')) s i t (λ k b. refl) (λ k b. kept k b) o.chain)
        (nth_map made_of before i q (sym (o.todo i (omega arith)) ∙ read)) answer carried);
    long = length-set now i q' ∙ o.long;
    done = λ k p p' b was is. at_top i k (omega arith) (λ k. (p p' : Request R) → slice_get before k ≡ Some p → slice_get (set now i q') k ≡ Some p' → Asked p p')
        (λ c p p' was is. o.done k p p' c was (nth_set now i q' k (omega arith) ∙ is))
        (λ p p' was is. newest p p' was is) p p' was is;
    todo = λ k b. let ne : k ≢ i = omega arith in sym (nth_set now i q' k ne) ∙ o.todo k (omega arith);
  }
    where
      kept : (k : ℕ) → k < i → slice_get (map answer_of now) k ≡ slice_get (map answer_of (set now i q')) k
      kept k b = let ne : k ≢ i = omega arith in nth_set (map answer_of now) i (answer_of q') k ne ∙ ap (λ (l : List Answer). slice_get l k) (sym (map_set answer_of now i q'))

      given : answer_of q' ≡ record { reply = reply; list = vec_items q'.list }
      given = rw filled.answer refl

      answer : slice_get (map answer_of (set now i q')) i ≡ Some (record { reply = reply; list = vec_items q'.list })
      answer = nth_map answer_of (set now i q') i q' (nth_set_same now i q' l) ∙ ap Some given

      newest : (p p' : Request R) → slice_get before i ≡ Some p → slice_get (set now i q') i ≡ Some p' → Asked p p'
      newest p p' was is =
          let a = sym (o.todo i (omega arith)) ∙ read in
          let b = nth_set_same now i q' l in
          let one : q ≡ p = cc in
          let two : q' ≡ p' = cc in
          subst (λ (x : Request R). Asked x p') one (subst (Asked q) two (reply, filled))

  -- one call more at the end
  pub going_all : (now : List (Request R)) (i : ℕ) (t u : State G E R) (m : Made R) (a : Answer) → length before ≡ i → Going now i t → Carried M m t a u
      → Chain M (map made_of before ++ m ∷ []) (map answer_of now ++ a ∷ []) s (suc i) u
  going_all now i t u m a all o carried =
      more (chain_alike M _ _ _ _ s i t
      (λ k l. nth_append (map made_of before) (m ∷ []) k (omega (arith, length_mapped made_of before)))
      (λ k l. nth_append (map answer_of now) (a ∷ []) k (omega (arith, length_mapped answer_of now, o.long))) o.chain)
      (nth_last (map made_of before) m i (length_mapped made_of before ∙ all)) (nth_last (map answer_of now) a i (length_mapped answer_of now ∙ o.long ∙ all)) carried
