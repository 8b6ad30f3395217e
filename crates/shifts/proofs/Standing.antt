-- What a sound record's buffers and memory tell, by runs.
use Rattle.std.proofs.Common.{◌≡◌, ℕ, suc, ◌-◌, ◌<◌, ◌≤◌, List, reverse, length, get_or, take, Decides, sym, ap, ◌∙◌, subst, arith, get_or-take}
use Rattle.std.proofs.lemmas.List.{take_all}
use Rattle.std.proofs.lemmas.Bool.Decides.{Decides-at}
use Rattle.runs.specs.Bits.{bit}
use Rattle.runs.specs.Gaps.{high}
use Rattle.runs.specs.Runs.{Pattern, slots, Mark}
use Rattle.runs.specs.Words.{word, words}
use Rattle.runs.proofs.Next.{past, past_words, past_decides}
use Rattle.runs.proofs.Patterns.{slots_of}
use Rattle.runs.proofs.Worded.{told, length_words, get_or_words}
use Rattle.records.specs.States.{Meaning, Terms, State, pattern_by}
use Rattle.records.specs.Books.{Book}
use Rattle.records.specs.Sound.{Sound}
use Rattle.shifts.specs.Promise.{Tells, Stands}

pub word_tells : {R : Type 0} (P : Pattern R) (xs : List R) (k : ℕ) → Tells P xs k (word P xs k)
word_tells P xs k = let t = told P xs k in record { marks = t.marks; above = t.above }

module _ {G E R : Type 0} (M : Meaning G E R) (T : Terms G) (b : Book R) (s : State G E R) (h : Sound M T b s) where
  abbrev P : Pattern R
  P = pattern_by M T

  abbrev xs : List R
  xs = b.readings

  pub slots_are : slots P ≡ T.signature.slots
  slots_are = slots_of (M.sets T.gauge) T.signature h.slots

  pub sheet_word : (k : ℕ) → k < length xs → get_or s.sheet k 0 ≡ word P xs k
  sheet_word k l = sym (get_or-take (length xs) s.sheet k 0 l) ∙ ap (λ (ws : List ℕ). get_or ws k 0) h.written ∙ get_or_words P xs k

  remembered : (j d : ℕ) → suc j < slots P → d ≤ high P.gaps j → Decides (M.says s.engine j d) ((d < length xs) × Mark P xs j (length xs - suc d))
  remembered j d l le =
      let all : take (length xs) (words P xs) ≡ words P xs = take_all (length xs) (words P xs) (omega (arith, length_words P xs)) in
      let is : M.says s.engine j d ≡ bit (past P xs (length xs) d) j =
      h.recalled j d (omega (arith, slots_are)) le
      ∙ ap (λ (ws : List ℕ). bit (get_or (reverse ws) d 0) j) (sym all)
      ∙ ap (λ (w : ℕ). bit w j) (past_words P xs (length xs) d (omega arith)) in
      Decides-at (M.says s.engine j d) (bit (past P xs (length xs) d) j) is (past_decides P xs (length xs) d j (omega arith))

  pub stands : Stands M T b s
  stands = record {
    stage = h.stage;
    gauge = h.gauge;
    signature = h.signature;
    shape = h.shape;
    count = h.count;
    line = h.line;
    order = (h.below, h.within);
    lengths = (h.long, h.wide);
    held = h.held;
    written = λ k l. subst (Tells P xs k) (sym (sheet_word k l)) (word_tells P xs k);
    recalled = remembered;
  }
