-- Where one part after another is read and the text is refused, the bytes before the refusal's place begin some such parts.
use Rattle.std.proofs.Common.{◌≡◌, ℕ, ◌+◌, ◌-◌, ◌<◌, ◌≤◌, true, false, eqb, List, [], ◌∷◌, ◌++◌, length, get_or, take, drop, Err, sym, refl, ap, ◌∙◌, subst, ⊎_elim, append_assoc, append-nil, arith, length-append, length-take-le, get_or-take}
use Rattle.std.proofs.lemmas.List.{drop-take, take-take, take-append-le, take_at, drop_at, get_or-append-add, get_or_append_left, get_or-append_right, get_or_past}
use Rattle.std.proofs.lemmas.Bool.{eq-eqb, eqb-true}
use Rattle.text.specs.declared.mark.Mark.{Mark}
use Rattle.text.specs.declared.refusal.Layer.{Layer}
use Rattle.text.specs.declared.refusal.Refusal.{Refusal}
use Rattle.text.specs.Refusals.{place_of}
use Rattle.text.specs.Words.{is_digit, place_in}
use Rattle.text.specs.Numbers.{value_of, number_at}
use Rattle.text.specs.Marks.{code_of, is_mark, mark_taken}
use Rattle.text.specs.Grammar.{MarkText, NumberText}
use Rattle.text.specs.Places.{Begins}
use Rattle.text.proofs.Steps.{ways}
use Rattle.text.proofs.Marks.{mark_no_digit}
use Rattle.text.proofs.Derived.{number_refused}

abbrev pub Part : Type 1
Part = List ℕ → ℕ → ℕ → Type 0

-- any text can go on with the part
abbrev pub Fills : Part → Type 0
Fills T = (w : List ℕ) → (r : List ℕ) × T (w ++ r) (length w) (length (w ++ r))

-- the part begins with no digit
abbrev pub Stops : Part → Type 0
Stops T = (t : List ℕ) (a e : ℕ) → T t a e → is_digit (get_or t a 0) ≡ false

-- a mark, and then a part
abbrev pub MarkThen : Mark → Part → Part
MarkThen m T t a e = (b : ℕ) × MarkText m t a b × T t b e

-- a number that passes, and then a part
abbrev pub NumberThen : (ℕ → Type 0) → (ℕ → Part) → Part
NumberThen K T t a e = (v : ℕ) × (b : ℕ) × NumberText t a b v × K v × T v t b e

-- the end of the text
abbrev pub Ended : Part
Ended t a e = (a ≡ e) × (a ≡ length t)

-- a part of one kind is one of another
pub as_part : (T U : Part) (s : List ℕ) (a : ℕ) (x : Refusal) → ((t : List ℕ) → T t a (length t) → U t a (length t)) → Begins T s a x → Begins U s a x
as_part T U s a x to (on, in', (r, text)) = (on, in', (r, to (take (place_of x) s ++ r) text))

-- what stands in a text stands in one that has the same bytes

module _ (s t : List ℕ) (e : ℕ) (same : take e t ≡ take e s) where
  pub byte_moved : (k : ℕ) → k < e → get_or t k 0 ≡ get_or s k 0
  byte_moved k l = sym (get_or-take e t k 0 l) ∙ ap (λ z. get_or z k 0) same ∙ get_or-take e s k 0 l

  pub mark_moved : (m : Mark) (a b : ℕ) → b ≤ e → MarkText m s a b → MarkText m t a b
  mark_moved m a b l text = let o = text.behind in record { stands = ap (λ z. eqb z (code_of m)) (byte_moved a (omega arith)) ∙ text.stands; behind = o }

  pub number_moved : (a b v : ℕ) → b ≤ e → is_digit (get_or t b 0) ≡ false → NumberText s a b v → NumberText t a b v
  number_moved a b v l stop text =
      let some = text.some in
      let whole : a + (b - a) ≡ b = omega arith in
      let fronts : take b t ≡ take b s = sym (take-take b e t l) ∙ ap (take b) same ∙ take-take b e s l in
      let part : take (b - a) (drop a t) ≡ take (b - a) (drop a s) = sym (drop-take a (b - a) t) ∙ ap (λ n. drop a (take n t)) whole ∙ ap (drop a) fronts ∙ ap (λ n. drop a (take n s)) (sym whole) ∙ drop-take a (b - a) s in
      record { some = some; digits = λ k from to. ap is_digit (byte_moved k (omega arith)) ∙ text.digits k from to; stops = stop; value = ap value_of part ∙ text.value }

-- a mark is no digit
pub mark_stops : (m : Mark) (t : List ℕ) (a : ℕ) → is_mark m t a ≡ true → is_digit (get_or t a 0) ≡ false
mark_stops m t a is = ap is_digit (eqb-true (get_or t a 0) (code_of m) is) ∙ (mark_no_digit m).0

pub mark_then_stops : (m : Mark) (T : Part) → Stops (MarkThen m T)
mark_then_stops m T t a e (b, text, rest) = mark_stops m t a text.stands

pub end_stops : (t : List ℕ) (a : ℕ) → a ≡ length t → is_digit (get_or t a 0) ≡ false
end_stops t a is = ap is_digit (get_or_past t a 0 (omega arith))

pub ended_stops : Stops Ended
ended_stops t a e is = end_stops t a is.1

-- the front of a text, with other bytes behind it
pub front : (s r : List ℕ) (p e : ℕ) → e ≤ p → p ≤ length s → take e (take p s ++ r) ≡ take e s
front s r p e l in' = take-append-le e (take p s) r (omega (arith, length-take-le p s in')) ∙ take-take e p s l

-- what may stand behind a text

pub fill_as : (T U : Part) → ((t : List ℕ) (a : ℕ) → T t a (length t) → U t a (length t)) → Fills T → Fills U
fill_as T U to fills w = let (r, text) = fills w in (r, to (w ++ r) (length w) text)

pub fill_end : Fills Ended
fill_end w = ([], (sym (ap length (append-nil w)), sym (ap length (append-nil w))))

pub fill_mark : (m : Mark) (T : Part) → Fills T → Fills (MarkThen m T)
fill_mark m T fills w =
    let (r, rest) = fills (w ++ code_of m ∷ []) in
    let same : (w ++ code_of m ∷ []) ++ r ≡ w ++ code_of m ∷ r = append_assoc w (code_of m ∷ []) r in
    let z : length w + 0 ≡ length w = omega arith in
    let byte : get_or (w ++ code_of m ∷ r) (length w) 0 ≡ code_of m = ap (λ i. get_or (w ++ code_of m ∷ r) i 0) (sym z) ∙ get_or-append-add w (code_of m ∷ r) 0 0 in
    (code_of m ∷ r, (length (w ++ code_of m ∷ []), record { stands = eq-eqb _ _ byte; behind = length-append w (code_of m ∷ []) }, subst (λ u. T u (length (w ++ code_of m ∷ [])) (length u)) same rest))

pub fill_number : (K : ℕ → Type 0) (T : ℕ → Part) (ds : List ℕ) → 0 < length ds → ((k : ℕ) → k < length ds → is_digit (get_or ds k 0) ≡ true) → K (value_of ds) → Stops (T (value_of ds)) → Fills (T (value_of ds)) → Fills (NumberThen K T)
fill_number K T ds some digits passes stops fills w =
    let (r, rest) = fills (w ++ ds) in
    let same : (w ++ ds) ++ r ≡ w ++ (ds ++ r) = append_assoc w ds r in
    let b = length (w ++ ds) in
    let long : length (w ++ ds) ≡ length w + length ds = length-append w ds in
    let rest' = subst (λ u. T (value_of ds) u (length (w ++ ds)) (length u)) same rest in
    let size : length (w ++ ds) - length w ≡ length ds = omega arith in
    let part : take (b - length w) (drop (length w) (w ++ (ds ++ r))) ≡ ds = ap (λ n. take n (drop (length w) (w ++ (ds ++ r)))) size ∙ ap (take (length ds)) (drop_at w (ds ++ r) (length w) refl) ∙ take_at ds r (length ds) refl in
    let number : NumberText (w ++ (ds ++ r)) (length w) b (value_of ds) = record {
      some = omega arith;
      digits = λ k from to. ap is_digit (get_or-append_right w (ds ++ r) (length w) k 0 refl from ∙ get_or_append_left ds r 0 (k - length w) (omega arith)) ∙ digits (k - length w) (omega arith);
      stops = stops _ _ _ rest';
      value = ap value_of part;
    } in
    (ds ++ r, (value_of ds, b, number, passes, rest'))

-- a refusal at the place itself

pub here : (T : Part) (s : List ℕ) (a : ℕ) (x : Refusal) → a ≤ length s → place_of x ≡ a → Fills T → Begins T s a x
here T s a x in' is fills =
    let (r, text) = fills (take (place_of x) s) in
    let long : length (take (place_of x) s) ≡ a = length-take-le (place_of x) s (omega arith) ∙ is in
    (omega arith, omega arith, (r, subst (λ i. T (take (place_of x) s ++ r) i (length (take (place_of x) s ++ r))) long text))

pub mark_place : (l : Layer) (m : Mark) (s : List ℕ) (a : ℕ) (x : Refusal) → a ≤ length s → mark_taken l m s a ≡ Err x → place_of x ≡ a
mark_place l m s a x in' is =
    ways (is_mark m s a) _ _ (Err x) is
    (λ t f. cc)
    (λ t f. let at : place_of x ≡ place_in s a = cc in omega arith)

pub number_place : (limit : ℕ) (s : List ℕ) (a : ℕ) (x : Refusal) → a ≤ length s → number_at limit s a ≡ Err x → place_of x ≡ a
number_place limit s a x in' is =
    ⊎_elim
    (λ (w : (is_digit (get_or s a 0) ≡ false) × _). ap place_of w.1 ∙ omega arith)
    (λ w. ap place_of w)
    (number_refused s a limit x is)

-- a refusal further on

pub mark_begins : (m : Mark) (T : Part) (s : List ℕ) (a b : ℕ) (x : Refusal) → MarkText m s a b → Begins T s b x → Begins (MarkThen m T) s a x
mark_begins m T s a b x text (on, in', (r, rest)) =
    let o = text.behind in
    (omega arith, in', (r, (b, mark_moved s (take (place_of x) s ++ r) b (front s r (place_of x) b on in') m a b (omega arith) text, rest)))

pub number_begins : (K : ℕ → Type 0) (T : ℕ → Part) (s : List ℕ) (a b v : ℕ) (x : Refusal) → NumberText s a b v → K v → Stops (T v) → Begins (T v) s b x → Begins (NumberThen K T) s a x
number_begins K T s a b v x text passes stops (on, in', (r, rest)) =
    let some = text.some in
    (omega arith, in', (r, (v, b, number_moved s (take (place_of x) s ++ r) b (front s r (place_of x) b on in') a b v (omega arith) (stops _ _ _ rest) text, passes, rest)))
