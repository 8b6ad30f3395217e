-- The words that an engine makes of the fits of a list of readings are the readings' mark words.
use Rattle.std.proofs.Common.{◌≡◌, ℕ, zero, suc, ◌-◌, ◌<◌, ◌≤◌, Bool, List, [], ◌∷◌, map, length, get_or, Ok, filter, sym, refl, ap, ◌∙◌, arith}
use Rattle.std.proofs.lemmas.List.{ext_get_or}
use Rattle.std.proofs.lemmas.Bool.Decides.{nat_tests}
use Rattle.runs.specs.declared.signature.Signature.{Signature}
use Rattle.runs.specs.Bits.{bit}
use Rattle.runs.specs.Gaps.{high}
use Rattle.runs.specs.Runs.{Pattern, last_slot, fits_at}
use Rattle.runs.specs.Signatures.{gaps_of, pattern_of}
use Rattle.runs.specs.Words.{mark, word, words, hits}
use Rattle.runs.proofs.Next.{past, past_out, past_newest, past_older, word_from}
use Rattle.runs.proofs.Patterns.{slots_of}
use Rattle.runs.proofs.Steps.{at_top}
use Rattle.runs.proofs.Worded.{bit_mark, length_words, get_or_words}
use Rattle.engines.specs.Memory.{Memory, Recalls, Stepped, Moved, Steps, Chain}
use Rattle.engines.specs.Memory.Steps.{none, more}
use Rattle.search.specs.Openings.{opening}
use Rattle.search.specs.Sheets.{Fitted, bearing}

module _ {R : Type 0} (sets : ℕ → R → Bool) (s : Signature) (some : 1 ≤ s.slots) (xs : List R) where
  abbrev P : Pattern R
  P = pattern_of sets s

  -- what a memory says before place n: the words of the places before it
  abbrev pub Remembers : ℕ → Memory → Type 0
  Remembers n says = (j d : ℕ) → suc j < s.slots → d ≤ high (gaps_of s) j → says j d ≡ bit (past P xs n d) j

  pub remembers_none : (says : Memory) → Recalls s [] says → Remembers 0 says
  remembers_none says blank j d a b = blank j d a b ∙ ap (λ (w : ℕ). bit w j) (sym (past_out P xs 0 d (omega arith)))

  pub remembers_more : (n : ℕ) (says after : Memory) (w : ℕ) → w ≡ word P xs n → Moved s says w after → Remembers n says → Remembers (suc n) after
  remembers_more n says after w is moved h j zero a b = moved.newest j a ∙ ap (λ (v : ℕ). bit v j) (is ∙ sym (past_newest P xs n))
  remembers_more n says after w is moved h j (suc d) a b = moved.older j d a b ∙ h j d a (omega arith) ∙ ap (λ (v : ℕ). bit v j) (sym (past_older P xs n d))

  pub stepped_word : (n : ℕ) (says : Memory) (fits w : ℕ) → n < length xs → Remembers n says → ((j : ℕ) → j < 32 → bit fits j ≡ fits_at P xs j n) → Stepped s says fits w → w ≡ word P xs n
  stepped_word n says fits w l h fit step =
      let m = slots_of sets s some in
      word_from P xs n says (λ j d a b. h j d (omega arith) b) fits (λ j a. fit j (omega (arith, s.few))) w step.first
      (λ j a. step.later j (omega arith)) (λ j a. step.none j (omega arith))

  module _ (fits ws : List ℕ) (says : Memory) (fitted : Fitted sets xs fits) (blank : Recalls s [] says) where
    stepped : (n : ℕ) (after : Memory) → n ≤ length xs → Steps s fits ws says n after → ((k : ℕ) → k < n → get_or ws k 0 ≡ word P xs k) × Remembers n after
    stepped zero after l (none same) = (λ k b. absurd (omega arith), λ j d a b. same j d a b ∙ remembers_none says blank j d a b)
    stepped (suc n) after l (more {middle = middle} steps step moved) =
        let (known, h) = stepped n middle (omega arith) steps in
        let is = stepped_word n middle (get_or fits n 0) (get_or ws n 0) (omega arith) h (fitted n (omega arith)) step in
        (λ k b. at_top n k b (λ q. get_or ws q 0 ≡ word P xs q) (known k) is, remembers_more n middle after (get_or ws n 0) is moved h)

    pub searched : (after : Memory) → length fits ≡ length xs → Chain s says fits ws after → ws ≡ words P xs
    searched after long chain =
        let (known, h) = stepped (length fits) after (omega arith) chain.steps in
        let size = length_words P xs in
        let same = chain.long in
        ext_get_or 0 ws (words P xs) (omega arith) (λ k l. known k (omega arith) ∙ sym (get_or_words P xs k))

-- as many words of the sheet bear the last slot's mark as there are hits
kept_map : (f h : ℕ → Bool) (g : ℕ → ℕ) → ((k : ℕ) → f (g k) ≡ h k) → (ks : List ℕ) → length (filter f (map g ks)) ≡ length (filter h ks)
kept_map f h g same [] = refl
kept_map f h g same (k ∷ ks) = let e = same k in let rest = kept_map f h g same ks in grind (arith, nat_tests)

pub bearing_hits : {R : Type 0} (sets : ℕ → R → Bool) (s : Signature) → 1 ≤ s.slots → (xs : List R) → bearing (s.slots - 1) (words (pattern_of sets s) xs) ≡ length (hits (pattern_of sets s) xs)
bearing_hits sets s some xs =
    let P = pattern_of sets s in
    let m = slots_of sets s some in
    let is : s.slots - 1 ≡ last_slot P = omega arith in
    ap (λ (n : ℕ). bearing n (words P xs)) is ∙ (kept_map (λ w. bit w (last_slot P)) (mark P xs (last_slot P)) (word P xs) (λ k. bit_mark P xs (last_slot P) k (omega arith)) _)

-- where the opening is granted, there is a slot and both buffers have one length
pub granted : (limit readings sheet : ℕ) (s : Signature) → Ok tt ≡ opening limit readings sheet s → (readings ≡ sheet) × (1 ≤ s.slots)
granted limit readings sheet s is = (grind (arith, nat_tests), grind (arith, nat_tests))
