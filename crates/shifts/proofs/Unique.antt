-- Words, first hits and lists of hits are determined by the runs.
use Rattle.std.proofs.Common.{◌≡◌, ℕ, zero, suc, ◌<◌, ◌≤◌, ◌⊎◌, List, [], ◌∷◌, length, get_or, Some, None, Option, sym, refl, ap, ◌∙◌, subst, inl, inr, arith}
use Rattle.std.specs.List.{ContainsAt as Has}
use Rattle.std.proofs.lemmas.Bool.{cases_lt, cases_order}
use Rattle.std.proofs.lemmas.Bool.Decides.{same_from_decides}
use Rattle.runs.specs.Bits.{bit}
use Rattle.runs.specs.Runs.{Pattern, slots}
use Rattle.runs.specs.Words.{word}
use Rattle.runs.proofs.Next.{bits_ext}
use Rattle.shifts.specs.Promise.{Tells, First, Names}
use Rattle.shifts.proofs.Standing.{word_tells}

-- rising lists with the same members are the same
abbrev Rising : List ℕ → Type 0
Rising xs = (i k : ℕ) → i < k → k < length xs → get_or xs i 0 < get_or xs k 0

rising_tail : (x : ℕ) (xs : List ℕ) → Rising (x ∷ xs) → Rising xs
rising_tail x xs r i k l b = r (suc i) (suc k) (omega arith) (omega arith)

above_head : (x : ℕ) (xs : List ℕ) → Rising (x ∷ xs) → (p : ℕ) → Has xs p → x < p
above_head x xs r p (k, l, is) = subst (λ (n : ℕ). x < n) (is 0) (r 0 (suc k) (omega arith) (omega arith))

cons_has : (x : ℕ) (xs : List ℕ) (p : ℕ) → Has (x ∷ xs) p → (p ≡ x) ⊎ Has xs p
cons_has x xs p (zero, l, is) = inl (sym (is 0))
cons_has x xs p (suc k, l, is) = inr (k, omega arith, is)

has_cons : (x : ℕ) (xs : List ℕ) (p : ℕ) → Has xs p → Has (x ∷ xs) p
has_cons x xs p (k, l, is) = (suc k, omega arith, is)

has_head : (x : ℕ) (xs : List ℕ) → Has (x ∷ xs) x
has_head x xs = (0, omega arith, λ d. refl)

none_has : (p : ℕ) → Has [] p → ⊥
none_has p (k, l, is) = omega arith

pub rising_same : (xs ys : List ℕ) → Rising xs → Rising ys → ((p : ℕ) → Has xs p → Has ys p) → ((p : ℕ) → Has ys p → Has xs p) → xs ≡ ys
rising_same [] [] r q f g = refl
rising_same [] (y ∷ ys) r q f g = absurd (none_has y (g y (has_head y ys)))
rising_same (x ∷ xs) [] r q f g = absurd (none_has x (f x (has_head x xs)))
rising_same (x ∷ xs) (y ∷ ys) r q f g =
    let heads : x ≡ y = head (cons_has y ys x (f x (has_head x xs))) (cons_has x xs y (g y (has_head y ys))) in
    let tails : xs ≡ ys = rising_same xs ys (rising_tail x xs r) (rising_tail y ys q)
    (λ p h. rest p (above_head x xs r p h) heads (cons_has y ys p (f p (has_cons x xs p h))))
    (λ p h. back p (above_head y ys q p h) heads (cons_has x xs p (g p (has_cons y ys p h)))) in
    (λ i. heads i ∷ tails i)
  where
    head : (x ≡ y) ⊎ Has ys x → (y ≡ x) ⊎ Has xs y → x ≡ y
    head (inl e) b = e
    head (inr h) (inl e) = sym e
    head (inr h) (inr k) = absurd (omega (arith, above_head y ys q x h, above_head x xs r y k))

    rest : (p : ℕ) → x < p → x ≡ y → (p ≡ y) ⊎ Has ys p → Has ys p
    rest p l e (inl is) = absurd (omega arith)
    rest p l e (inr h) = h

    back : (p : ℕ) → y < p → x ≡ y → (p ≡ x) ⊎ Has xs p → Has xs p
    back p l e (inl is) = absurd (omega arith)
    back p l e (inr h) = h

module _ {R : Type 0} (P : Pattern R) (xs : List R) where
  pub tells_once : (k v w : ℕ) → Tells P xs k v → Tells P xs k w → v ≡ w
  tells_once k v w a b = bits_ext v w (λ j. go j (cases_lt j (slots P)))
    where
      go : (j : ℕ) → (j < slots P) ⊎ (slots P ≤ j) → bit v j ≡ bit w j
      go j (inl l) = same_from_decides (bit v j) (bit w j) (a.marks j l) (b.marks j l)
      go j (inr l) = a.above j l ∙ sym (b.above j l)

  pub tells_word : (k w : ℕ) → Tells P xs k w → w ≡ word P xs k
  tells_word k w t = tells_once k w (word P xs k) t (word_tells P xs k)

  pub first_once : (p end : ℕ) (o o' : Option ℕ) → First P xs p end o → First P xs p end o' → o ≡ o'
  first_once p end None None a b = refl
  first_once p end None (Some q) a b = absurd (a q b.0 b.1 b.2)
  first_once p end (Some q) None a b = absurd (b q a.0 a.1 a.2)
  first_once p end (Some q) (Some q') a b = go (cases_order q q')
    where
      go : (q ≡ q') ⊎ ((q < q') ⊎ (q' < q)) → Some q ≡ Some q'
      go (inl e) = ap Some e
      go (inr (inl l)) = absurd (b.3 q a.0 l a.2)
      go (inr (inr l)) = absurd (a.3 q' b.0 l b.2)

  pub names_once : (line : ℕ) (hs ks : List ℕ) → Names P xs line hs → Names P xs line ks → hs ≡ ks
  names_once line hs ks a b = rising_same hs ks a.rising b.rising (λ p h. (b.all p).1 ((a.all p).0 h)) (λ p h. (a.all p).1 ((b.all p).0 h))
