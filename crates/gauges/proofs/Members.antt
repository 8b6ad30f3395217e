-- What one turn of `read_members` keeps.
use Rattle.std.proofs.Common.{◌≡◌, ℕ, zero, suc, ◌+◌, ◌<◌, ◌≤◌, Bool, true, false, ◌||◌, List, [], ◌∷◌, ◌++◌, length, get_or, Ok, Err, Result, sym, refl, ap, ◌∙◌, append_assoc, arith}
use Rattle.text.specs.declared.parsed.Parsed.{Parsed}
use Rattle.gauges.specs.declared.code_set.Member.{Member}
use Rattle.text.specs.declared.refusal.Refusal.{Refusal}
use Rattle.text.specs.declared.mark.Mark.{Mark}
use Rattle.text.specs.declared.mark.Mark.TheVariants.{Space}
use Rattle.text.specs.declared.refusal.Layer.TheVariants.{Slot}
use Rattle.text.specs.Marks.{is_mark, mark_taken}
use Rattle.gauges.specs.Codes.{member_at, members_from, members_at, covers, covers_any}
use Rattle.text.specs.Refusals.{◌then◌}

-- the members in hand before those that are read yet
abbrev pub before : List Member → List Member × ℕ → Result (List Member × ℕ) Refusal
before ms rest = Ok (ms ++ rest.0, rest.1)

-- ms are read, and place is where the next begins
pub record Sofar (shut : Mark) (s : List ℕ) (start place : ℕ) (inside : List Bool) : Type 0 where
  pub turns : ℕ
  pub ms : List Member
  pub room : length s ≤ place + turns
  pub within : place ≤ length s
  pub onward : start ≤ place
  pub whole : members_at shut s start ≡ (members_from (suc turns) shut s place then before ms)
  pub marks : (c : ℕ) → get_or inside c false ≡ covers_any ms c

then_before_none : (r : Result (List Member × ℕ) Refusal) → r ≡ (r then before [])
then_before_none (Ok v) = refl
then_before_none (Err e) = refl

then_before_more : (r : Result (List Member × ℕ) Refusal) (ms : List Member) (m : Member) → ((r then (λ rest. Ok (m ∷ rest.0, rest.1))) then before ms) ≡ (r then before (ms ++ m ∷ []))
then_before_more (Ok v) ms m = ap (λ l. Ok (l, v.1)) (sym (append_assoc ms (m ∷ []) v.0))
then_before_more (Err e) ms m = refl

pub covers_more : (ms : List Member) (m : Member) (c : ℕ) → covers_any (ms ++ m ∷ []) c ≡ (covers_any ms c || covers m c)
covers_more [] m c = grind arith
covers_more (x ∷ ms) m c = grind (arith, covers_more ms m c)

pub begin : (shut : Mark) (s : List ℕ) (start : ℕ) (none : List Bool) → ((c : ℕ) → get_or none c false ≡ false) → start ≤ length s → Sofar shut s start start none
unfolding members_at
begin shut s start none empty h = record {
  turns = length s;
  ms = [];
  room = omega arith;
  within = h;
  onward = omega arith;
  whole = then_before_none _;
  marks = empty;
}

module _ {shut : Mark} {s : List ℕ} {start place : ℕ} {inside : List Bool} (h : Sofar shut s start place inside) where
  module _ (m : Parsed Member) (is : member_at s place ≡ Ok m) where
    pub closed_there : is_mark shut s m.end ≡ true → members_at shut s start ≡ Ok (h.ms ++ m.value ∷ [], m.end + 1)
    closed_there t = rw (is, t) at h.whole

    module _ (next : ℕ) (t : is_mark shut s m.end ≡ false) (u : mark_taken Slot Space s m.end ≡ Ok next) (in' : next ≤ length s) (far : place < next) where
      one_more : (n : ℕ) → length s ≤ place + n
          → members_at shut s start ≡ (members_from (suc n) shut s place then before h.ms)
          → (k : ℕ) × (length s ≤ next + k) × (members_at shut s start ≡ (members_from (suc k) shut s next then before (h.ms ++ m.value ∷ [])))
      one_more zero room w = absurd (omega arith)
      one_more (suc k) room w = (k, omega arith, (rw (is, t, u) at w) ∙ then_before_more _ h.ms m.value)

      pub next_there : (after : List Bool) → ((c : ℕ) → get_or after c false ≡ (get_or inside c false || covers m.value c)) → Sofar shut s start next after
      next_there after marks =
          let more = one_more h.turns h.room h.whole in
          record {
            turns = more.0;
            ms = h.ms ++ m.value ∷ [];
            room = more.1;
            within = in';
            onward = omega (arith, h.onward);
            whole = more.2;
            marks = λ c. grind (arith, marks c, h.marks c, covers_more h.ms m.value c);
          }
