-- A call on the parts of the buffers that it is lent.
use Rattle.std.proofs.Common.{◌≡◌, ℕ, zero, suc, ◌<◌, min, Bool, true, false, cond, not, ◌||◌, leb, List, [], ◌∷◌, ◌++◌, length, take, drop, is_err, Err, sym, refl, ap, ◌∙◌, subst, append-nil, arith, take-append-drop, length-take}
use Rattle.std.proofs.lemmas.List.{take_all, drop_all}
use Rattle.std.proofs.lemmas.Bool.{cond-true, cond-false, both_ways, leb-true, leb-false}
use Rattle.text.specs.declared.refusal.Refusal.TheVariants.{OtherBuffers}
use Rattle.records.specs.States.{Stage, Meaning, Terms, State, pattern_by}
use Rattle.records.specs.Books.{Book, Answer, takes, lends, answer}
use Rattle.records.specs.Sound.{Sound, Keeps}
use Rattle.shifts.specs.declared.carrying.Kept.{Kept}
use Rattle.shifts.specs.declared.carrying.Kept.TheVariants.{Open, Closed}
use Rattle.shifts.specs.Stands.{standing, Obeys, answered}
use Rattle.shifts.specs.Made.{Made, apt, next, answer_to}
use Rattle.shifts.specs.Carried.{Carried}

-- a state with other buffers
abbrev pub with_buffers : {G E R : Type 0} → State G E R → List R → List ℕ → State G E R
with_buffers s readings sheet = record {
  stage = s.stage;
  gauge = s.gauge;
  engine = s.engine;
  signature = s.signature;
  room = s.room;
  count = s.count;
  line = s.line;
  readings = readings;
  sheet = sheet;
}

-- a list behind two that are alike behind their first entries
drop_behind : {A : Type 0} (c : ℕ) (l k r : List A) → length l ≡ length k → drop c l ≡ drop c k → drop c (l ++ r) ≡ drop c (k ++ r)
drop_behind zero l k r same e = ap (λ (f : List _). f ++ r) e
drop_behind (suc c) [] [] r same e = refl
drop_behind (suc c) [] (y ∷ k) r same e = absurd (omega arith)
drop_behind (suc c) (x ∷ l) [] r same e = absurd (omega arith)
drop_behind (suc c) (x ∷ l) (y ∷ k) r same e = drop_behind c l k r (omega arith) e

module _ {G E R : Type 0} (M : Meaning G E R) (m : Made R) (s t₁ : State G E R) (a : Answer) (n k : ℕ)
    (n-is : n ≡ cond (lends m.call) (min m.lent (length s.readings)) (length s.readings))
    (k-is : k ≡ cond (lends m.call) (min m.lent (length s.sheet)) (length s.sheet))
    (long : length t₁.readings ≡ length (take n s.readings)) (wide : length t₁.sheet ≡ length (take k s.sheet))
    (o : Obeys M m.call m.list (with_buffers s (take n s.readings) (take k s.sheet)) a t₁) where
  abbrev s₁ : State G E R
  s₁ = with_buffers s (take n s.readings) (take k s.sheet)

  abbrev pub t : State G E R
  t = with_buffers t₁ (t₁.readings ++ drop n s.readings) (t₁.sheet ++ drop k s.sheet)

  -- where the call alters nothing, neither do the buffers behind its parts
  same : t₁ ≡ s₁ → t ≡ s
  same e =
      ap (λ (u : State G E R). with_buffers u (u.readings ++ drop n s.readings) (u.sheet ++ drop k s.sheet)) e
      ∙ (λ i. with_buffers s (take-append-drop n s.readings i) (take-append-drop k s.sheet i))

  -- the whole buffers are lent
  module _ (rs : n ≡ length s.readings) (ws : k ≡ length s.sheet) where
    whole : s₁ ≡ s
    whole = λ i. with_buffers s (take_all n s.readings (omega arith) i) (take_all k s.sheet (omega arith) i)

    wholly : t ≡ t₁
    wholly =
        let one : t₁.readings ++ drop n s.readings ≡ t₁.readings = ap (λ (r : List R). t₁.readings ++ r) (drop_all n s.readings (omega arith)) ∙ append-nil t₁.readings in
        let two : t₁.sheet ++ drop k s.sheet ≡ t₁.sheet = ap (λ (r : List ℕ). t₁.sheet ++ r) (drop_all k s.sheet (omega arith)) ∙ append-nil t₁.sheet in
        (λ i. with_buffers t₁ (one i) (two i))

    keeps : Keeps M m.call m.list s a t
    keeps = subst (λ (u : State G E R). Keeps M m.call m.list s a u) (sym wholly) (subst (λ (u : State G E R). Keeps M m.call m.list u a t₁) whole o.keeps)

  lends_n : lends m.call ≡ true → (n ≡ min m.lent (length s.readings)) × (k ≡ min m.lent (length s.sheet))
  lends_n l = (n-is ∙ cond-true (lends m.call) _ _ l, k-is ∙ cond-true (lends m.call) _ _ l)

  -- a sound record: either the whole buffers are lent, or the call is refused or not taken, and nothing is altered
  module _ (T : Terms G) (b : Book R) (h : Sound M T b s) where
    aptly : apt (pattern_by M T) T.room m ≡ true → (n ≡ length s.readings) × (k ≡ length s.sheet)
    aptly e = go (lends m.call) refl
      where
        go : (l : Bool) → lends m.call ≡ l → (n ≡ length s.readings) × (k ≡ length s.sheet)
        go false l = (n-is ∙ cond-false (lends m.call) _ _ l, k-is ∙ cond-false (lends m.call) _ _ l)
        go true l =
            let f : leb T.room m.lent ≡ true = sym (ap (λ (x : Bool). not x || leb T.room m.lent) l) ∙ e in
            let le = leb-true T.room m.lent f in
            let p = lends_n l in
            (omega (arith, p.0, h.long), omega (arith, p.1, h.wide))

    record Unapt : Type 0 where
      lent : lends m.call ≡ true
      less : m.lent < T.room

    unaptly : apt (pattern_by M T) T.room m ≡ false → Unapt
    unaptly e = go (lends m.call) refl
      where
        go : (l : Bool) → lends m.call ≡ l → Unapt
        go false l = absurd (both_ways (apt (pattern_by M T) T.room m) e (ap (λ (x : Bool). not x || leb T.room m.lent) l))
        go true l =
            let f : leb T.room m.lent ≡ false = sym (ap (λ (x : Bool). not x || leb T.room m.lent) l) ∙ e in
            record { lent = l; less = leb-false T.room m.lent f }

    -- what is left and answered where the call is not apt
    stopped : apt (pattern_by M T) T.room m ≡ false → (t ≡ s) × (a ≡ answer_to (pattern_by M T) T.room b m)
    stopped e = go (takes s.stage m.call) refl
      where
        u : Unapt
        u = unaptly e

        short : (length (take n s.readings) ≡ s.room) × (length (take k s.sheet) ≡ s.room) → ⊥
        short (x, _) = omega (arith, x, length-take n s.readings, (lends_n u.lent).0, u.less, h.room, h.long)

        taken : (v : Bool) → takes s.stage m.call ≡ v → takes b.stage m.call ≡ v
        taken v f = ap (λ (st : Stage). takes st m.call) (sym h.stage) ∙ f

        go : (v : Bool) → takes s.stage m.call ≡ v → (t ≡ s) × (a ≡ answer_to (pattern_by M T) T.room b m)
        go true f =
            let reply = o.keeps.other f u.lent short in
            let left = o.keeps.refused (ap is_err reply) in
            let is : a ≡ answered (Err (OtherBuffers (length b.readings))) m.list = (λ i. answered (reply i) (left.1 i)) ∙ ap (λ (c : ℕ). answered (Err (OtherBuffers c)) m.list) h.count in
            (same left.0, is ∙ sym (cond-true (takes b.stage m.call) _ _ (taken true f) ∙ cond-false (apt (pattern_by M T) T.room m) _ _ e))
        go false f =
            let left = o.untaken f in
            (same left.1, left.0 ∙ sym (cond-false (takes b.stage m.call) _ _ (taken false f)))

    sounds : Sound M T (next (pattern_by M T) T.room b m) t
    sounds = go (apt (pattern_by M T) T.room m) refl
      where
        go : (v : Bool) → apt (pattern_by M T) T.room m ≡ v → Sound M T (next (pattern_by M T) T.room b m) t
        go true e = let p = aptly e in subst (λ (d : Book R). Sound M T d t) (sym (cond-true (apt (pattern_by M T) T.room m) _ b e)) ((keeps p.0 p.1).sound T b h)
        go false e = subst (λ (d : Book R). Sound M T d t) (sym (cond-false (apt (pattern_by M T) T.room m) _ b e)) (subst (Sound M T b) (sym (stopped e).0) h)

    rightly : a ≡ answer_to (pattern_by M T) T.room b m
    rightly = go (apt (pattern_by M T) T.room m) refl
      where
        go : (v : Bool) → apt (pattern_by M T) T.room m ≡ v → a ≡ answer_to (pattern_by M T) T.room b m
        go false e = (stopped e).1
        go true e =
            let p = aptly e in
            (keeps p.0 p.1).right T b h ∙ taking (takes b.stage m.call) refl
          where
            taking : (v : Bool) → takes b.stage m.call ≡ v → answer (pattern_by M T) T.room b m.list m.call ≡ answer_to (pattern_by M T) T.room b m
            taking true f = sym (cond-true (takes b.stage m.call) _ _ f ∙ cond-true (apt (pattern_by M T) T.room m) _ _ e)
            taking false f = cond-false (takes b.stage m.call) _ _ f ∙ sym (cond-false (takes b.stage m.call) _ _ f)

  pub carried : Carried M m s a t
  carried = record {
    sound = sounds;
    right = rightly;
    refused = λ e. let left = o.keeps.refused e in (same left.0, left.1);
    untaken = λ e. same (o.untaken e).1;
    asked = λ e. same (o.keeps.asked e);
    behind = (
      drop_behind t₁.count t₁.readings (take n s.readings) (drop n s.readings) long o.keeps.behind.0 ∙ ap (drop t₁.count) (take-append-drop n s.readings),
      drop_behind t₁.count t₁.sheet (take k s.sheet) (drop k s.sheet) wide o.keeps.behind.1 ∙ ap (drop t₁.count) (take-append-drop k s.sheet),
    );
  }

-- the same for a record in either stage
pub carried_kept : {G E R : Type 0} (M : Meaning G E R) (m : Made R) (k k' : Kept G E) (rs rs₁ : List R) (ws ws₁ : List ℕ) (a : Answer) (n j : ℕ)
    → n ≡ cond (lends m.call) (min m.lent (length rs)) (length rs) → j ≡ cond (lends m.call) (min m.lent (length ws)) (length ws)
    → length rs₁ ≡ length (take n rs) → length ws₁ ≡ length (take j ws)
    → Obeys M m.call m.list (standing k (take n rs) (take j ws)) a (standing k' rs₁ ws₁)
    → Carried M m (standing k rs ws) a (standing k' (rs₁ ++ drop n rs) (ws₁ ++ drop j ws))
carried_kept M m (Open o) (Open o') rs rs₁ ws ws₁ a n j = carried M m (standing (Open o) rs ws) (standing (Open o') rs₁ ws₁) a n j
carried_kept M m (Open o) (Closed o') rs rs₁ ws ws₁ a n j = carried M m (standing (Open o) rs ws) (standing (Closed o') rs₁ ws₁) a n j
carried_kept M m (Closed o) (Open o') rs rs₁ ws ws₁ a n j = carried M m (standing (Closed o) rs ws) (standing (Open o') rs₁ ws₁) a n j
carried_kept M m (Closed o) (Closed o') rs rs₁ ws ws₁ a n j = carried M m (standing (Closed o) rs ws) (standing (Closed o') rs₁ ws₁) a n j
