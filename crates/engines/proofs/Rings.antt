-- The ring of the last 64 words.
use Rattle.std.proofs.Common.{◌≡◌, ℕ, zero, suc, ◌+◌, ◌-◌, ◌%◌, ◌<◌, ◌≤◌, Bool, true, false, Decides, ◌≢◌, List, ◌++◌, reverse, length, get_or, drop, set, replicate, sym, refl, ap, ◌∙◌, subst, ⊎_elim, arith, get_or-set_other, get_or-set_same}
use Rattle.std.proofs.lemmas.List.{get_or-reverse, get_or_past, get_or-drop, get_or_append_left, get_or-append_right, length-reverse}
use Rattle.std.proofs.lemmas.Bool.{cases_lt, cases_eq, both_ways, or_cases, or_left, or_right}
use Rattle.std.specs.List.{list_any, range_with_len}
use Rattle.runs.specs.declared.signature.Signature.{Signature}
use Rattle.runs.specs.Bits.{bit}
use Rattle.engines.specs.Memory.{Moved, Recalls}
use Rattle.engines.specs.Rings.{ago, past_says}
use Rattle.engines.proofs.Bits.{bit_zero}
use Rattle.engines.proofs.Laid.{all_same}
use Rattle.engines.proofs.Signatures.{gap_narrow}

ago_newest : (past : List ℕ) (next w : ℕ) → next < 64 → length past ≡ 64 → ago (set past next w) ((next + 1) % 64) 0 ≡ w
ago_newest past next w l n =
    let i : ((next + 1) % 64 + 63 - 0) % 64 ≡ next = omega arith in
    ap (λ i. get_or (set past next w) i 0) i ∙ get_or-set_same past next w 0 (omega arith)

ago_older : (past : List ℕ) (next w d : ℕ) → next < 64 → d < 63 → ago (set past next w) ((next + 1) % 64) (suc d) ≡ ago past next d
ago_older past next w d l n =
    let i : ((next + 1) % 64 + 63 - suc d) % 64 ≡ (next + 63 - d) % 64 = omega arith in
    let ne : (next + 63 - d) % 64 ≢ next = ⊎_elim (λ (h : next + 63 - d < 64). omega arith) (λ (h : 64 ≤ next + 63 - d). omega arith) (cases_lt (next + 63 - d) 64) in
    ap (λ i. get_or (set past next w) i 0) i ∙ get_or-set_other past next ((next + 63 - d) % 64) w 0 ne

-- one word more
pub ring_moved : (s : Signature) (past : List ℕ) (next w : ℕ) → next < 64 → length past ≡ 64 → Moved s (past_says past next) w (past_says (set past next w) ((next + 1) % 64))
ring_moved s past next w l n = record {
  newest = λ j _. ap (λ v. bit v j) (ago_newest past next w l n);
  older = λ j d h k. ap (λ v. bit v j) (ago_older past next w d l (omega (arith, gap_narrow s j h)));
}

pub past_blank : (next j d : ℕ) → past_says (replicate 64 0) next j d ≡ false
past_blank next j d = ap (λ w. bit w j) (all_same 64 ((next + 63 - d) % 64) 0) ∙ bit_zero j

-- whether a number from a on passes a test
pub any_from : (test : ℕ → Bool) (a n : ℕ) → Decides (list_any test (range_with_len a n)) ((d : ℕ) × (a ≤ d) × (d < a + n) × (test d ≡ true))
any_from test a zero = ((λ b. absurd (both_ways false refl b)), (λ h. let z : ⊥ = omega (arith, h.1, h.2) in absurd z))
any_from test a (suc n) =
    let rest = any_from test (a + 1) n in (
      (λ b. ⊎_elim
          (λ (e : test a ≡ true). (a, omega arith, omega arith, e))
          (λ (e : list_any test (range_with_len (a + 1) n) ≡ true). let r = rest.0 e in (r.0, omega (arith, r.1), omega (arith, r.2), r.3))
          (or_cases (test a) (list_any test (range_with_len (a + 1) n)) b)),
      (λ h. ⊎_elim
          (λ (e : h.0 ≡ a). or_left (test a) (list_any test (range_with_len (a + 1) n)) (subst (λ d. test d ≡ true) e h.3))
          (λ (e : h.0 ≡ a → ⊥). or_right (test a) (list_any test (range_with_len (a + 1) n)) (rest.1 (h.0, omega (arith, h.1), omega (arith, h.2), h.3)))
          (cases_eq h.0 a)),
    )

-- the words of a list, and zeros behind them
abbrev padded : List ℕ → List ℕ
padded words = words ++ drop (length words) (replicate 64 0)

padded_in : (words : List ℕ) (k : ℕ) → k < length words → get_or (padded words) k 0 ≡ get_or words k 0
padded_in words k l = get_or_append_left words (drop (length words) (replicate 64 0)) 0 k l

padded_past : (words : List ℕ) (k : ℕ) → length words ≤ k → get_or (padded words) k 0 ≡ 0
padded_past words k l =
    let n = length words in
    let i : n + (k - n) ≡ k = omega arith in
    get_or-append_right words (drop n (replicate 64 0)) n k 0 refl l ∙ get_or-drop n (replicate 64 0) (k - n) 0 ∙ ap (λ i. get_or (replicate 64 0) i 0) i ∙ all_same 64 k 0

padded_ago : (words : List ℕ) (d : ℕ) → length words ≤ 64 → d < 64 → ago (padded words) (length words % 64) d ≡ get_or (reverse words) d 0
padded_ago words d few l =
    let n = length words in
    ⊎_elim
    (λ (h : d < n).
    let i : (n % 64 + 63 - d) % 64 ≡ n - 1 - d = ⊎_elim (λ (k : n < 64). omega arith) (λ (k : 64 ≤ n). omega arith) (cases_lt n 64) in
    ap (λ i. get_or (padded words) i 0) i ∙ padded_in words (n - 1 - d) (omega arith) ∙ sym (get_or-reverse words d 0 h))
    (λ (h : n ≤ d).
    let i : n ≤ (n % 64 + 63 - d) % 64 = omega arith in
    padded_past words ((n % 64 + 63 - d) % 64) i ∙ sym (get_or_past (reverse words) d 0 (omega (arith, length-reverse words))))
    (cases_lt d n)

pub padded_recalls : (s : Signature) (words : List ℕ) → length words ≤ 64 → Recalls s words (past_says (padded words) (length words % 64))
padded_recalls s words few j d l h = ap (λ w. bit w j) (padded_ago words d few (omega (arith, gap_narrow s j l)))
