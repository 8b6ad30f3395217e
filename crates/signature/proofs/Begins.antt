-- Where a signature is refused, the bytes before the refusal's place begin some text of the grammar.
use Rattle.std.proofs.Common.{◌≡◌, ℕ, zero, suc, ◌<◌, ◌≤◌, Bool, true, false, leb, ◌⊎◌, List, [], ◌∷◌, ◌++◌, length, get_or, take, Ok, Err, Result, sym, refl, ap, ◌∙◌, subst, inl, inr, ⊎_elim, append-nil, arith}
use Rattle.std.proofs.lemmas.Bool.Decides.{nat_tests}
use Rattle.text.specs.declared.mark.Mark.TheVariants.{Dash, Gap as Cross, Open, Comma, Close}
use Rattle.text.specs.declared.parsed.Parsed.{Parsed}
use Rattle.text.specs.declared.refusal.Layer.TheVariants.{Signature}
use Rattle.text.specs.declared.refusal.Refusal.{Refusal}
use Rattle.text.specs.declared.refusal.Refusal.TheVariants.{LongText, StrayGap, ExtraSlot}
use Rattle.text.specs.Refusals.{◌then◌, place_of}
use Rattle.text.specs.Words.{is_digit}
use Rattle.text.specs.Numbers.{number_at}
use Rattle.text.specs.Marks.{is_mark, mark_taken}
use Rattle.text.specs.Places.{Begins}
use Rattle.text.proofs.Steps.{ok_same, err_same, both, faults, ways}
use Rattle.text.proofs.Bounds.{number_within, mark_within, mark_inside}
use Rattle.text.proofs.Derived.{mark_sound, number_sound}
use Rattle.text.proofs.Begins.{Part, Fills, MarkThen, NumberThen, as_part, mark_moved, number_moved, mark_stops, mark_then_stops, end_stops, front, fill_mark, fill_number, here, mark_place, number_place, mark_begins, number_begins}
use Rattle.runs.specs.declared.gap.Gap.{Gap}
use Rattle.runs.specs.Gaps.{no_gap}
use Rattle.signature.specs.Slots.{Reads, Within}
use Rattle.signature.specs.Joins.{gap_at, no_gap_at, join_at}
use Rattle.signature.specs.Outcomes.{Plan, rest_at, slots_at, signature_at}
use Rattle.signature.specs.Grammar.{JoinText, none, gap, SlotText, RestText, end, more, SignatureText, slots}
use Rattle.signature.specs.Refused.{SomeSlot, GoesOn, BeginsSome}
use Rattle.signature.proofs.Derived.{join_sound, no_gap_sound}

join_moved : (s t : List ℕ) (a b : ℕ) (g : Gap) → take b t ≡ take b s → JoinText s a b g → JoinText t a b g
join_moved s t a _ _ same none = none
join_moved s t a h _ same (gap {b = b} {c = c} {d = d} {e = e} {f = f} {g = g} {lo = lo} {hi = hi} cross opened low comma high close dash le small) =
    let o = opened.behind in
    let i = comma.behind in
    let j = close.behind in
    let k = dash.behind in
    let l = low.some in
    let m = high.some in
    let comma' = mark_moved s t h same Comma d e (omega arith) comma in
    let close' = mark_moved s t h same Close f g (omega arith) close in
    gap (mark_moved s t h same Cross a b (omega arith) cross) (mark_moved s t h same Open b c (omega arith) opened) (number_moved s t h same c d lo (omega arith) (mark_stops Comma t d comma'.stands) low) comma'
    (number_moved s t h same e f hi (omega arith) (mark_stops Close t f close'.stands) high) close' (mark_moved s t h same Dash g h (omega arith) dash) le small

-- a gap and the part behind it, from each of its marks and numbers on
module _ (T : Part) (fills : Fills T) where
  abbrev Tail : Part
  Tail = MarkThen Close (MarkThen Dash T)

  abbrev High : ℕ → Part
  High lo = NumberThen (λ hi. (lo ≤ hi) × (hi ≤ 63)) (λ hi. Tail)

  abbrev Low : Part
  Low = NumberThen (λ lo. lo ≤ 63) (λ lo. MarkThen Comma (High lo))

  abbrev Whole : Part
  Whole = MarkThen Cross (MarkThen Open Low)

  fill_tail : Fills Tail
  fill_tail = fill_mark Close (MarkThen Dash T) (fill_mark Dash T fills)

  fill_high : (lo : ℕ) → lo ≤ 63 → Fills (High lo)
  fill_high lo l = fill_number (λ hi. (lo ≤ hi) × (hi ≤ 63)) (λ hi. Tail) (54 ∷ 51 ∷ []) (omega arith) digits (l, omega arith) (mark_then_stops Close (MarkThen Dash T)) fill_tail
    where
      digits : (k : ℕ) → k < 2 → is_digit (get_or (54 ∷ 51 ∷ []) k 0) ≡ true
      digits zero l = refl
      digits (suc zero) l = refl
      digits (suc (suc k)) l = absurd (omega arith)

  fill_low : Fills Low
  fill_low = fill_number (λ lo. lo ≤ 63) (λ lo. MarkThen Comma (High lo)) (48 ∷ []) (omega arith) digits (omega arith) (mark_then_stops Comma (High 0)) (fill_mark Comma (High 0) (fill_high 0 (omega arith)))
    where
      digits : (k : ℕ) → k < 1 → is_digit (get_or (48 ∷ []) k 0) ≡ true
      digits zero l = refl
      digits (suc k) l = absurd (omega arith)

  fill_open : Fills (MarkThen Open Low)
  fill_open = fill_mark Open Low fill_low

  module _ (s : List ℕ) (x : Refusal) where
    -- the gap is refused
    gap_fault : (a : ℕ) → a ≤ length s → gap_at s a ≡ Err x → Begins Whole s a x
    gap_fault a in' is =
        faults (mark_taken Signature Cross s a) _ x is
        (λ f. here Whole s a x in' (mark_place Signature Cross s a x in' f) (fill_mark Cross (MarkThen Open Low) fill_open))
        (λ b ok1 is1.
        let w1 = (mark_within Signature Cross s a b ok1).1 in
        mark_begins Cross (MarkThen Open Low) s a b x (mark_sound s a Signature Cross b ok1)
        (faults (mark_taken Signature Open s b) _ x is1
        (λ f. here (MarkThen Open Low) s b x w1 (mark_place Signature Open s b x w1 f) fill_open)
        (λ c ok2 is2.
        let w2 = (mark_within Signature Open s b c ok2).1 in
        mark_begins Open Low s b c x (mark_sound s b Signature Open c ok2)
        (faults (number_at 63 s c) _ x is2
        (λ f. here Low s c x w2 (number_place 63 s c x w2 f) fill_low)
        (λ lo ok3 is3.
        let (low, small) = number_sound s c 63 lo ok3 in
        let w3 = (number_within 63 s c lo ok3).1 in
        let P : Part = MarkThen Comma (High lo.value) in
        let on : (place_of x ≡ c) ⊎ Begins P s lo.end x =
        faults (mark_taken Signature Comma s lo.end) _ x is3
        (λ f. inr (here P s lo.end x w3 (mark_place Signature Comma s lo.end x w3 f) (fill_mark Comma (High lo.value) (fill_high lo.value small))))
        (λ e ok4 is4.
        let w4 = (mark_within Signature Comma s lo.end e ok4).1 in
        let comma = mark_sound s lo.end Signature Comma e ok4 in
        faults (number_at 63 s e) _ x is4
        (λ f. inr (mark_begins Comma (High lo.value) s lo.end e x comma (here (High lo.value) s e x w4 (number_place 63 s e x w4 f) (fill_high lo.value small))))
        (λ hi ok5 is5.
        let (high, small') = number_sound s e 63 hi ok5 in
        let w5 = (number_within 63 s e hi ok5).1 in
        ways (leb lo.value hi.value) _ _ (Err x) is5
        (λ t is6.
        let le : lo.value ≤ hi.value = grind (arith, nat_tests) in
        faults (mark_taken Signature Close s hi.end) _ x is6
        (λ f. inr (mark_begins Comma (High lo.value) s lo.end e x comma (number_begins (λ hi. (lo.value ≤ hi) × (hi ≤ 63)) (λ hi. Tail) s e hi.end hi.value x high (le, small') (mark_then_stops Close (MarkThen Dash T)) (here Tail s hi.end x w5 (mark_place Signature Close s hi.end x w5 f) fill_tail))))
        (λ g ok7 f. cc))
        (λ t f. inl (ap place_of (sym (err_same _ x f)))))) in
        ⊎_elim
        (λ (back : place_of x ≡ c). here Low s c x w2 back fill_low)
        (λ (rest : Begins P s lo.end x). number_begins (λ lo. lo ≤ 63) (λ lo. MarkThen Comma (High lo)) s c lo.end lo.value x low small (mark_then_stops Comma (High lo.value)) rest)
        on)))))

    -- the gap stands, and what follows it is refused
    gap_stands : (a : ℕ) (j : Parsed Gap) → gap_at s a ≡ Ok j → (j.end ≤ length s) × (Begins (MarkThen Dash T) s j.end x → Begins Whole s a x)
    gap_stands a j is =
        let (b, cross, is1) = both (mark_taken Signature Cross s a) _ j is in
        let (c, opened, is2) = both (mark_taken Signature Open s b) _ j is1 in
        let (lo, low, is3) = both (number_at 63 s c) _ j is2 in
        let (e, comma, is4) = both (mark_taken Signature Comma s lo.end) _ j is3 in
        let (hi, high, is5) = both (number_at 63 s e) _ j is4 in
        ways (leb lo.value hi.value) _ _ (Ok j) is5
        (λ t is6.
        let (g, close, out) = both (mark_taken Signature Close s hi.end) _ j is6 in
        let low' = number_sound s c 63 lo low in
        let high' = number_sound s e 63 hi high in
        let le : lo.value ≤ hi.value = grind (arith, nat_tests) in
        subst (λ (j : Parsed Gap). (j.end ≤ length s) × (Begins (MarkThen Dash T) s j.end x → Begins Whole s a x)) (ok_same _ _ out) (
          (mark_within Signature Close s hi.end g close).1,
          λ rest.
              mark_begins Cross (MarkThen Open Low) s a b x (mark_sound s a Signature Cross b cross)
              (mark_begins Open Low s b c x (mark_sound s b Signature Open c opened)
              (number_begins (λ lo. lo ≤ 63) (λ lo. MarkThen Comma (High lo)) s c lo.end lo.value x low'.0 low'.1 (mark_then_stops Comma (High lo.value))
              (mark_begins Comma (High lo.value) s lo.end e x (mark_sound s lo.end Signature Comma e comma)
              (number_begins (λ hi. (lo.value ≤ hi) × (hi ≤ 63)) (λ hi. Tail) s e hi.end hi.value x high'.0 (le, high'.1) (mark_then_stops Close (MarkThen Dash T))
              (mark_begins Close (MarkThen Dash T) s hi.end g x (mark_sound s hi.end Signature Close g close) rest))))),
        ))
        (λ t f. cc)

join_inside : (s : List ℕ) (a b : ℕ) (g : Gap) → a ≤ length s → JoinText s a b g → (a ≤ b) × (b ≤ length s)
join_inside s a _ _ in' none = (omega arith, in')
join_inside s a h _ in' (gap {g = g} cross opened low comma high close dash le small) =
    let i = cross.behind in
    let j = opened.behind in
    let k = comma.behind in
    let l = close.behind in
    let m = dash.behind in
    let n = low.some in
    let o = high.some in
    let p = mark_inside Dash s g dash.stands in
    (omega arith, omega arith)

stray_place : (s : List ℕ) (a : ℕ) (x : Refusal) → no_gap_at s a ≡ Err x → place_of x ≡ a
stray_place s a x is =
    ways (is_mark Cross s a) _ _ (Err x) is
    (λ t f. ap place_of (sym (err_same (StrayGap a) x f)))
    (λ t f. cc)

module _ {R : Type 0} (reads : Reads R) (goes : GoesOn reads) (within : Within reads) (s : List ℕ) (x : Refusal) where
  abbrev Slot : Part
  Slot = SomeSlot reads

  -- behind a `-`: a slot, perhaps a gap before it, and the rest
  abbrev After : Part
  After t b e = (c : ℕ) × (d : ℕ) × (g : Gap) × (set : R → Bool) × (q : Plan R) × JoinText t b c g × SlotText reads t c d set × RestText reads t d q

  abbrev Rest : Part
  Rest t a e = (q : Plan R) × RestText reads t a q

  fill_after : Fills After
  fill_after w = let (r, text) = goes.some w in (r, (length w, length (w ++ r), no_gap, text.0, record { sets = []; gaps = [] }, none, text.1, end refl))

  fill_rest : Fills Rest
  fill_rest w = ([], (record { sets = []; gaps = [] }, end (sym (ap length (append-nil w)))))

  after_dash : (t : List ℕ) (a : ℕ) → MarkThen Dash After t a (length t) → Rest t a (length t)
  after_dash t a (b, dash, (c, d, g, set, q, join, slot, rest)) = (record { sets = set ∷ q.sets; gaps = g ∷ q.gaps }, more dash join slot rest)

  after_gap : (t : List ℕ) (a : ℕ) → Whole Slot goes.some t a (length t) → After t a (length t)
  after_gap t a (b, cross, (c, opened, (lo, d, low, few, (e, comma, (hi, f, high, (le, small), (g, close, (h, dash, (set, slot)))))))) =
      (h, length t, record { lo = lo; hi = hi }, set, record { sets = []; gaps = [] }, gap cross opened low comma high close dash le small, slot, end refl)

  join_fault : (a : ℕ) → a ≤ length s → join_at s a ≡ Err x → Begins After s a x
  join_fault a in' is =
      ways (is_mark Cross s a) _ _ (Err x) is
      (λ t is1. as_part (Whole Slot goes.some) After s a x (λ u text. after_gap u a text) (
      faults (gap_at s a) _ x is1
      (λ f. gap_fault Slot goes.some s x a in' f)
      (λ g ok is2.
      let (w, onward) = gap_stands Slot goes.some s x a g ok in
      onward (faults (mark_taken Signature Dash s g.end) _ x is2
      (λ f. here (MarkThen Dash Slot) s g.end x w (mark_place Signature Dash s g.end x w f) (fill_mark Dash Slot goes.some))
      (λ h ok3 is3. mark_begins Dash Slot s g.end h x (mark_sound s g.end Signature Dash h ok3)
      (faults (no_gap_at s h) _ x is3
      (λ f. here Slot s h x (mark_within Signature Dash s g.end h ok3).1 (stray_place s h x f) goes.some)
      (λ p ok4 f. cc)))))))
      (λ t f. cc)

  rest_stops : (t : List ℕ) (a : ℕ) (q : Plan R) → RestText reads t a q → is_digit (get_or t a 0) ≡ false
  rest_stops t a _ (end is) = end_stops t a is
  rest_stops t a _ (more dash join slot rest) = mark_stops Dash t a dash.stands

  -- a join and a slot stand, and what follows them is refused
  slot_stands : (b c d : ℕ) (g : Gap) (set : R → Bool) → b ≤ length s → JoinText s b c g → SlotText reads s c d set → Begins Rest s d x → Begins After s b x
  slot_stands b c d g set in' join slot (on, far, (r, (q, rest))) =
      let i = join_inside s b c g in' join in
      let w = within s c set d slot.slot in
      let t = take (place_of x) s ++ r in
      let front' = λ (e : ℕ) (l : e ≤ place_of x). front s r (place_of x) e l far in
      (omega arith, far, (r, (c, d, g, set, q, join_moved s t b c g (front' c (omega arith)) join, goes.stays s t c d set slot (front' d on) (rest_stops t d q rest), rest)))

  rest_fault : (n a : ℕ) → a ≤ length s → rest_at reads n s a ≡ Err x → Begins Rest s a x
  rest_fault zero a in' is =
      ways (leb (length s) a) _ _ (Err x) is
      (λ t f. cc)
      (λ t is1. faults (mark_taken Signature Dash s a) _ x is1
      (λ f. here Rest s a x in' (mark_place Signature Dash s a x in' f) fill_rest)
      (λ b ok is2.
      as_part (MarkThen Dash After) Rest s a x (λ u text. after_dash u a text)
      (mark_begins Dash After s a b x (mark_sound s a Signature Dash b ok) (here After s b x (mark_within Signature Dash s a b ok).1 (ap place_of (sym (err_same (ExtraSlot Signature b) x is2))) fill_after))))
  rest_fault (suc n) a in' is =
      ways (leb (length s) a) _ _ (Err x) is
      (λ t f. cc)
      (λ t is1. faults (mark_taken Signature Dash s a) _ x is1
      (λ f. here Rest s a x in' (mark_place Signature Dash s a x in' f) fill_rest)
      (λ b ok is2.
      let w = (mark_within Signature Dash s a b ok).1 in
      as_part (MarkThen Dash After) Rest s a x (λ u text. after_dash u a text)
      (mark_begins Dash After s a b x (mark_sound s a Signature Dash b ok)
      (faults (join_at s b) _ x is2
      (λ f. join_fault b w f)
      (λ j ok3 is3.
      let (join, free) = join_sound s b j ok3 in
      let k = join_inside s b j.end j.value w join in
      faults (reads s j.end) _ x is3
      (λ f. slot_refused b j.end j.value w join (goes.begins s j.end x k.1 free f))
      (λ v ok4 is4.
      faults (rest_at reads n s v.1) _ x is4
      (λ f. slot_stands b j.end v.1 j.value v.0 w join (record { begins = free; slot = ok4 }) (rest_fault n v.1 (within s j.end v.0 v.1 ok4).1 f))
      (λ q ok5 f. cc)))))))
    where
      slot_refused : (b c : ℕ) (g : Gap) → b ≤ length s → JoinText s b c g → Begins Slot s c x → Begins After s b x
      slot_refused b c g in' join (on, far, (r, (set, slot))) =
          let i = join_inside s b c g in' join in
          let t = take (place_of x) s ++ r in
          (omega arith, far, (r, (c, length t, g, set, record { sets = []; gaps = [] }, join_moved s t b c g (front s r (place_of x) c on far) join, slot, end refl)))

  abbrev onward : (R → Bool) × ℕ → Result (Plan R) Refusal
  onward v = rest_at reads 31 s v.1 then (λ p. Ok (record { sets = v.0 ∷ p.sets; gaps = p.gaps }))

  slots_fault : slots_at reads s ≡ Err x → (r : List ℕ) × (p : Plan R) × SignatureText reads (take (place_of x) s ++ r) p
  slots_fault is =
      faults (no_gap_at s 0) _ x is
      (λ f. whole (here Slot s 0 x (omega arith) (stray_place s 0 x f) goes.some))
      (λ a ok is1.
      let (free, same) = no_gap_sound s 0 a ok in
      let is' : (reads s 0 then onward) ≡ Err x = ap (λ i. reads s i then onward) same ∙ is1 in
      faults (reads s 0) onward x is'
      (λ f. whole (goes.begins s 0 x (omega arith) free f))
      (λ v ok2 is2.
      faults (rest_at reads 31 s v.1) _ x is2
      (λ f.
      let (on, far, (r, (q, rest))) = rest_fault 31 v.1 (within s 0 v.0 v.1 ok2).1 f in
      let t = take (place_of x) s ++ r in
      (r, record { sets = v.0 ∷ q.sets; gaps = q.gaps }, slots (goes.stays s t 0 v.1 v.0 (record { begins = free; slot = ok2 }) (front s r (place_of x) v.1 on far) (rest_stops t v.1 q rest)) rest))
      (λ q ok3 f. cc)))
    where
      whole : Begins Slot s 0 x → (r : List ℕ) × (p : Plan R) × SignatureText reads (take (place_of x) s ++ r) p
      whole (on, far, (r, (set, slot))) = (r, record { sets = set ∷ []; gaps = [] }, slots slot (end refl))

pub begins_some : {R : Type 0} (reads : Reads R) → GoesOn reads → Within reads → (s : List ℕ) → BeginsSome reads s
unfolding signature_at
begins_some reads goes within s x is other =
    ways (leb (length s) 4096) _ _ (Err x) is
    (λ t f. slots_fault reads goes within s x f)
    (λ t f. absurd (other (sym (err_same LongText x f))))
