-- A signature's text is read just where the grammar derives it.
use Rattle.std.proofs.Common.{◌≡◌, ℕ, zero, suc, ◌+◌, ◌≤◌, Bool, true, false, leb, List, ◌∷◌, length, Ok, Err, Result, sym, refl, ap, ◌∙◌, subst, arith}
use Rattle.std.proofs.lemmas.Bool.Decides.{nat_tests}
use Rattle.text.specs.declared.mark.Mark.TheVariants.{Dash, Gap as Cross, Open, Comma, Close}
use Rattle.text.specs.declared.parsed.Parsed.{Parsed}
use Rattle.text.specs.declared.refusal.Layer.TheVariants.{Signature}
use Rattle.text.specs.declared.refusal.Refusal.{Refusal}
use Rattle.text.specs.Numbers.{number_at}
use Rattle.text.specs.Marks.{is_mark, mark_taken}
use Rattle.text.specs.Grammar.{MarkText}
use Rattle.text.proofs.Steps.{ok_same, both, ways}
use Rattle.text.proofs.Bounds.{mark_inside}
use Rattle.text.proofs.Derived.{mark_sound, mark_complete, number_sound, number_complete}
use Rattle.runs.specs.declared.gap.Gap.{Gap}
use Rattle.runs.specs.declared.signature.Signature.{Signature as Shape}
use Rattle.signature.specs.Slots.{Reads, Within}
use Rattle.signature.specs.Joins.{gap_at, no_gap_at, join_at}
use Rattle.signature.specs.Outcomes.{Plan, rest_at, slots_at, signature_at, Left, answer}
use Rattle.signature.specs.Grammar.{JoinText, none, gap, RestText, end, more, SignatureText, slots, OnePlan, ReadsExactly, Answers}

pub no_gap_sound : (s : List ℕ) (a b : ℕ) → no_gap_at s a ≡ Ok b → (is_mark Cross s a ≡ false) × (a ≡ b)
no_gap_sound s a b is =
    ways (is_mark Cross s a) _ _ (Ok b) is
    (λ t f. cc)
    (λ t f. (t, ok_same _ _ f))

-- a gap, and the `-` behind it
abbrev GapText : List ℕ → ℕ → Parsed Gap → Type 0
GapText s a j = (h : ℕ) → MarkText Dash s j.end h → JoinText s a h j.value

gap_sound : (s : List ℕ) (a : ℕ) (j : Parsed Gap) → gap_at s a ≡ Ok j → GapText s a j
gap_sound s a j is =
    let (b, cross, is1) = both (mark_taken Signature Cross s a) _ j is in
    let (c, opened, is2) = both (mark_taken Signature Open s b) _ j is1 in
    let (lo, low, is3) = both (number_at 63 s c) _ j is2 in
    let (e, comma, is4) = both (mark_taken Signature Comma s lo.end) _ j is3 in
    let (hi, high, is5) = both (number_at 63 s e) _ j is4 in
    ways (leb lo.value hi.value) _ _ (Ok j) is5
    (λ t is6.
    let (g, close, out) = both (mark_taken Signature Close s hi.end) _ j is6 in
    let high' = number_sound s e 63 hi high in
    let le : lo.value ≤ hi.value = grind (arith, nat_tests) in
    subst (GapText s a) (ok_same _ _ out) (λ h dash.
    gap (mark_sound s a Signature Cross b cross) (mark_sound s b Signature Open c opened) (number_sound s c 63 lo low).0 (mark_sound s lo.end Signature Comma e comma) high'.0
    (mark_sound s hi.end Signature Close g close) dash le high'.1))
    (λ t f. cc)

pub join_sound : (s : List ℕ) (a : ℕ) (j : Parsed Gap) → join_at s a ≡ Ok j → JoinText s a j.end j.value × (is_mark Cross s j.end ≡ false)
join_sound s a j is =
    ways (is_mark Cross s a) _ _ (Ok j) is
    (λ t is1.
    let (g, gap', is2) = both (gap_at s a) _ j is1 in
    let (h, dash, is3) = both (mark_taken Signature Dash s g.end) _ j is2 in
    let (p, clear, out) = both (no_gap_at s h) _ j is3 in
    let (free, same) = no_gap_sound s h p clear in
    let here = subst (λ i. JoinText s a i g.value × (is_mark Cross s i ≡ false)) same (gap_sound s a g gap' h (mark_sound s g.end Signature Dash h dash), free) in
    subst (λ j. JoinText s a j.end j.value × (is_mark Cross s j.end ≡ false)) (ok_same _ _ out) here)
    (λ t out. subst (λ j. JoinText s a j.end j.value × (is_mark Cross s j.end ≡ false)) (ok_same _ _ out) (none, t))

join_complete : (s : List ℕ) (a b : ℕ) (g : Gap) → JoinText s a b g → is_mark Cross s b ≡ false → join_at s a ≡ Ok (record { value = g; end = b })
join_complete s a _ _ none free = rw free refl
join_complete s a h _ (gap {b = b} {c = c} {d = d} {e = e} {f = f} {g = g} {lo = lo} {hi = hi} cross opened low comma high close dash le small) free =
    let t : leb lo hi ≡ true = grind (arith, nat_tests) in
    let second : mark_taken Signature Open s (a + 1) ≡ Ok c = ap (mark_taken Signature Open s) (sym cross.behind) ∙ mark_complete s b Signature Open c opened in
    rw (
      cross.stands,
      second,
      number_complete s c 63 d lo low (omega arith),
      mark_complete s d Signature Comma e comma,
      number_complete s e 63 f hi high small,
      t,
      mark_complete s f Signature Close g close,
      mark_complete s g Signature Dash h dash,
      free,
    ) refl

module _ {R : Type 0} (reads : Reads R) (s : List ℕ) where
  rest_sound : Within reads → (n a : ℕ) (p : Plan R) → a ≤ length s → rest_at reads n s a ≡ Ok p → RestText reads s a p × (length p.sets ≤ n)
  rest_sound within zero a p in' is =
      ways (leb (length s) a) _ _ (Ok p) is
      (λ t out. subst (λ p. RestText reads s a p × (length p.sets ≤ 0)) (ok_same _ _ out) (end (grind (arith, nat_tests)), omega arith))
      (λ t f. let (b, dash, out) = both (mark_taken Signature Dash s a) _ p f in cc)
  rest_sound within (suc n) a p in' is =
      ways (leb (length s) a) _ _ (Ok p) is
      (λ t out. subst (λ p. RestText reads s a p × (length p.sets ≤ suc n)) (ok_same _ _ out) (end (grind (arith, nat_tests)), omega arith))
      (λ t f.
      let (b, dash, is1) = both (mark_taken Signature Dash s a) _ p f in
      let (j, join, is2) = both (join_at s b) _ p is1 in
      let (v, slot, is3) = both (reads s j.end) _ p is2 in
      let (q, rest, out) = both (rest_at reads n s v.1) _ p is3 in
      let (between, free) = join_sound s b j join in
      let (onward, few) = rest_sound within n v.1 q (within s j.end v.0 v.1 slot).1 rest in
      subst (λ p. RestText reads s a p × (length p.sets ≤ suc n)) (ok_same _ _ out)
      (more (mark_sound s a Signature Dash b dash) between (record { begins = free; slot = slot }) onward, omega arith))

  rest_complete : (n a : ℕ) (p : Plan R) → RestText reads s a p → length p.sets ≤ n → rest_at reads n s a ≡ Ok p
  rest_complete zero a _ (end is) few = let t : leb (length s) a ≡ true = grind (arith, nat_tests) in rw t refl
  rest_complete (suc n) a _ (end is) few = let t : leb (length s) a ≡ true = grind (arith, nat_tests) in rw t refl
  rest_complete zero a _ (more dash between slot onward) few = absurd (omega arith)
  rest_complete (suc n) a _ (more {b = b} {c = c} {d = d} {g = g} {set = set} {p = p} dash between slot onward) few =
      let in' = mark_inside Dash s a dash.stands in
      let t : leb (length s) a ≡ false = grind (arith, nat_tests) in
      rw (t, mark_complete s a Signature Dash b dash, join_complete s b c g between slot.begins, slot.slot, rest_complete n d p onward (omega arith)) refl

  slots_sound : Within reads → (p : Plan R) → slots_at reads s ≡ Ok p → (length p.sets ≤ 32) × SignatureText reads s p
  slots_sound within p is =
      let (a, clear, is1) = both (no_gap_at s 0) _ p is in
      let (v, slot, is2) = both (reads s a) _ p is1 in
      let (q, rest, out) = both (rest_at reads 31 s v.1) _ p is2 in
      let (free, same) = no_gap_sound s 0 a clear in
      let (onward, few) = rest_sound within 31 v.1 q (within s a v.0 v.1 slot).1 rest in
      let first : reads s 0 ≡ Ok (v.0, v.1) = ap (reads s) same ∙ slot in
      subst (λ p. (length p.sets ≤ 32) × SignatureText reads s p) (ok_same _ _ out) (omega arith, slots (record { begins = free; slot = first }) onward)

  slots_complete : (p : Plan R) → length p.sets ≤ 32 → SignatureText reads s p → slots_at reads s ≡ Ok p
  slots_complete _ few (slots {a = a} {p = p} slot rest) = rw (slot.begins, slot.slot, rest_complete 31 a p rest (omega arith)) refl

  pub reads_exactly : Within reads → ReadsExactly reads s
  unfolding signature_at
  reads_exactly within p = (
    (λ is.
        ways (leb (length s) 4096) _ _ (Ok p) is
        (λ t f. let (few, text) = slots_sound within p f in (grind (arith, nat_tests), few, text))
        (λ t f. cc)),
    (λ (short, few, text). let t : leb (length s) 4096 ≡ true = grind (arith, nat_tests) in rw t (slots_complete p few text)),
  )

  pub one_plan : OnePlan reads s
  one_plan _ _ (slots {a = a} {set = v} {p = p} first rest) (slots {a = b} {set = w} {p = q} first' rest') =
      let same = ok_same (v, a) (w, b) (sym first.slot ∙ first'.slot) in
      let n = length p.sets + length q.sets in
      let here : rest_at reads n s b ≡ Ok p = ap (rest_at reads n s) (sym (ap (λ z. z.1) same)) ∙ rest_complete n a p rest (omega arith) in
      let rests = ok_same p q (sym here ∙ rest_complete n b q rest' (omega arith)) in
      let sets = ap (λ z. z.0) same in
      λ i. record { sets = sets i ∷ (rests i).sets; gaps = (rests i).gaps }

-- an answer that is no refusal comes of a plan
answered : {R : Type 0} (o : Result (Plan R) Refusal) → answer o ≡ Ok tt → (p : Plan R) × (o ≡ Ok p)
answered (Ok p) is = (p, refl)
answered (Err e) is = cc

pub answers : {R : Type 0} (reads : Reads R) (s : List ℕ) (r : Result (Unit {0}) Refusal) (sets : ℕ → R → Bool) (sig : Shape)
    → Within reads → r ≡ answer (signature_at reads s) → Left (signature_at reads s) sets sig → Answers reads s r sets sig
answers {R} reads s r sets sig within value left =
    let exactly = reads_exactly reads s within in
    record {
      derived = (
        (λ is. let (p, read) = answered (signature_at reads s) (sym value ∙ is) in (p, (exactly p).0 read)),
        (λ (p, text). value ∙ ap answer ((exactly p).1 text)),
      );
      held = λ p text. subst (λ (o : Result (Plan R) Refusal). Left o sets sig) ((exactly p).1 text) left;
    }
