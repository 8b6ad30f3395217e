-- Words into rows and columns, and back.
use Rattle.std.proofs.Common.{◌≡◌, ℕ, ◌+◌, ◌-◌, ◌*◌, ◌/◌, ◌%◌, ◌^◌, ◌<◌, ◌≤◌, false, ◌≢◌, ◌⊎◌, List, length, get_or, set, sym, refl, ap, ◌∙◌, subst, inl, inr, ⊎_elim, arith, length-set, get_or-set_other, get_or-set_same, pow_pos}
use lib.Bits.{bit_or}
use Rattle.std.proofs.lemmas.Bool.{cases_lt}
use Rattle.std.proofs.lemmas.Nat.{mod_below}
use Rattle.runs.specs.Bits.{bit}
use Rattle.engines.proofs.Bits.{bit_zero, bit_high, bit_mod, bit_shr, or_off, or_off_left}
use Rattle.engines.specs.Turns.{Turned}
use Rattle.engines.specs.Rows.{Width, word_at, Loaded, Spread, Unloaded, Blank, Columns}
use Rattle.engines.specs.Rows.Width.{narrow, wide}
use Rattle.engines.proofs.Shifts.{shl_bit, shl_low}

-- the numbers of places in rows of w columns
pub record Places (w : ℕ) : Type 0 where
  pub some : 1 ≤ w
  pub most : w ≤ 32
  pub low : (1 * 2 ^ w) % 2 ^ 64 ≡ 2 ^ w
  pub row : (c : ℕ) → c < 64 → c % w < w
  pub column : (c j : ℕ) → c < 64 → j < w → c / w * w + j < 64
  pub word : (c j : ℕ) → c < 64 → j < w → (c / w * w + j) / w * w + c % w ≡ c
  pub rest : (c j : ℕ) → c < 64 → j < w → (c / w * w + j) % w ≡ j
  pub inside : (n r : ℕ) → n < 64 / w → r < w → w * n + r < 64
  pub end : w * (64 / w) ≡ 64
  pub next : (n c : ℕ) → w * n ≤ c → c < w * (n + 1) → (c ≡ w * n + c % w) × (c / w * w ≡ w * n)
  pub part : (n r : ℕ) → r < w → ((w * n + r) % w ≡ r) × ((w * n + r) / w * w ≡ w * n)

pub places : {w : ℕ} → Width w → Places w
places narrow = record {
  some = omega arith;
  most = omega arith;
  low = refl;
  row = λ c l. omega arith;
  column = λ c j l h. omega arith;
  word = λ c j l h. omega arith;
  rest = λ c j l h. omega arith;
  inside = λ n r l h. omega arith;
  end = refl;
  next = λ n c l h. (omega arith, omega arith);
  part = λ n r l. (omega arith, omega arith);
}
places wide = record {
  some = omega arith;
  most = omega arith;
  low = refl;
  row = λ c l. omega arith;
  column = λ c j l h. omega arith;
  word = λ c j l h. omega arith;
  rest = λ c j l h. omega arith;
  inside = λ n r l h. omega arith;
  end = refl;
  next = λ n c l h. (omega arith, omega arith);
  part = λ n r l. (omega arith, omega arith);
}

-- the first n words of a row
pub record Pieces (w : ℕ) (strip : List ℕ) (r n x : ℕ) : Type 0 where
  pub done : (c : ℕ) → c < 64 → c < w * n → bit x c ≡ bit (word_at strip (c / w * w + r)) (c % w)
  pub rest : (c : ℕ) → c < 64 → w * n ≤ c → bit x c ≡ false

-- every w-th word has been written, for the first n of them
pub record Spreading (w r x n : ℕ) (before strip : List ℕ) : Type 0 where
  pub row : (c : ℕ) → c < 64 → c < w * n → c % w ≡ r → word_at strip c ≡ x / 2 ^ (c / w * w) % 2 ^ w
  pub others : (c : ℕ) → c < 64 → (w * n ≤ c) ⊎ (c % w ≢ r) → word_at strip c ≡ word_at before c
  pub long : length strip ≡ 64

-- the words of the first n rows
pub record Rows (w : ℕ) (rows : List ℕ) (n : ℕ) (strip : List ℕ) : Type 0 where
  pub each : (c : ℕ) → c < 64 → c % w < n → word_at strip c ≡ get_or rows (c % w) 0 / 2 ^ (c / w * w) % 2 ^ w
  pub long : length strip ≡ 64

module _ (w : ℕ) (p : Places w) where
  pub pieces_more : (strip : List ℕ) (r n x : ℕ) → n < 64 / w → r < w → Pieces w strip r n x
      → Pieces w strip r (n + 1) (bit_or x ((get_or strip (63 - (w * n + r)) 0 % ((1 * 2 ^ w) % 2 ^ 64) * 2 ^ (w * n)) % 2 ^ 64))
  pieces_more strip r n x ln lr have =
      let word = get_or strip (63 - (w * n + r)) 0 in
      let y = word % ((1 * 2 ^ w) % 2 ^ 64) in
      let y-is : y ≡ word % 2 ^ w = ap (λ m. word % m) p.low in
      let z = (y * 2 ^ (w * n)) % 2 ^ 64 in
      record {
        done = λ c lc l. ⊎_elim
            (λ (h : c < w * n). or_off x z c (shl_low 64 y (w * n) c lc h) ∙ have.done c lc h)
            (λ (h : w * n ≤ c).
            let at = p.next n c h l in
            let e : c - w * n ≡ c % w = omega (arith, at.0) in
            let f : w * n + r ≡ c / w * w + r = ap (λ i. i + r) (sym at.1) in
            or_off_left x z c (have.rest c lc h) ∙ shl_bit 64 y (w * n) c lc h ∙ ap (bit y) e ∙ ap (λ v. bit v (c % w)) y-is ∙ bit_mod w word (c % w) (p.row c lc)
            ∙ ap (λ i. bit (get_or strip (63 - i) 0) (c % w)) f)
            (cases_lt c (w * n));
        rest = λ c lc l.
            let up : w * n + w ≡ w * (n + 1) = grind arith in
            let h : w * n ≤ c = omega (arith, up) in
            or_off_left x z c (have.rest c lc h) ∙ shl_bit 64 y (w * n) c lc h ∙ ap (λ v. bit v (c - w * n)) y-is
            ∙ bit_high (word % 2 ^ w) (c - w * n) w (mod_below word (2 ^ w) (pow_pos w)) (omega (arith, up));
      }

  pub spreading_more : (r x n : ℕ) (before strip : List ℕ) → n < 64 / w → r < w → Spreading w r x n before strip
      → Spreading w r x (n + 1) before (set strip (63 - (w * n + r)) (x / 2 ^ (w * n) % ((1 * 2 ^ w) % 2 ^ 64)))
  spreading_more r x n before strip ln lr have =
      let i = w * n + r in
      let v = x / 2 ^ (w * n) % ((1 * 2 ^ w) % 2 ^ 64) in
      let li : i < 64 = p.inside n r ln lr in
      let at = p.part n r lr in
      let new : get_or (set strip (63 - i) v) (63 - i) 0 ≡ v = get_or-set_same strip (63 - i) v 0 (omega (arith, have.long)) in
      let old : (c : ℕ) → c < 64 → c ≢ i → word_at (set strip (63 - i) v) c ≡ word_at strip c =
      λ c lc ne. let ne' : 63 - c ≢ 63 - i = λ e. ne (omega arith) in get_or-set_other strip (63 - i) (63 - c) v 0 ne' in
      record {
        row = λ c lc l e. ⊎_elim
            (λ (h : c < w * n). old c lc (λ q. omega arith) ∙ have.row c lc h e)
            (λ (h : w * n ≤ c).
            let q = p.next n c h l in
            let here : i ≡ c = omega (arith, q.0) in
            subst (λ c. word_at (set strip (63 - i) v) c ≡ x / 2 ^ (c / w * w) % 2 ^ w) here
            (new ∙ ap (λ m. x / 2 ^ (w * n) % m) p.low ∙ ap (λ s. x / 2 ^ s % 2 ^ w) (sym at.1)))
            (cases_lt c (w * n));
        others = λ c lc s. ⊎_elim
            (λ (h : w * (n + 1) ≤ c).
            let up : w * n + w ≡ w * (n + 1) = grind arith in
            old c lc (λ q. omega (arith, up)) ∙ have.others c lc (inl (omega (arith, up))))
            (λ (ne : c % w ≢ r). old c lc (λ q. ne (ap (λ c. c % w) q ∙ at.0)) ∙ have.others c lc (inr ne))
            s;
        long = simp length-set have.long;
      }

  pub spread_all : (r x n : ℕ) (before strip : List ℕ) → 64 / w ≤ n → n ≤ 64 / w → Spreading w r x n before strip → Spread w r x before strip
  spread_all r x n before strip h l have =
      let e : n ≡ 64 / w = omega arith in
      let all : w * n ≡ 64 = ap (λ n. w * n) e ∙ p.end in
      record { row = λ c lc q. have.row c lc (omega (arith, all)) q; others = λ c lc ne. have.others c lc (inr ne) }

  pub unloaded : (rows strip : List ℕ) → Rows w rows w strip → Unloaded w rows strip
  unloaded rows strip have = record {
    all = λ c j lc lj.
        let x = get_or rows (c % w) 0 in
        ap (λ v. bit v j) (have.each c lc (p.row c lc)) ∙ bit_mod w (x / 2 ^ (c / w * w)) j lj ∙ bit_shr x (c / w * w) j;
    high = λ c j lc lj.
        let x = get_or rows (c % w) 0 / 2 ^ (c / w * w) in
        ap (λ v. bit v j) (have.each c lc (p.row c lc)) ∙ bit_high (x % 2 ^ w) j w (mod_below x (2 ^ w) (pow_pos w)) lj;
  }

  -- the bit of a word in its row
  in_row : (strip rows : List ℕ) → Loaded w strip w rows → (j c : ℕ) → j < w → c < 64 → bit (get_or rows (c % w) 0) (c / w * w + j) ≡ bit (word_at strip c) j
  in_row strip rows loaded j c lj lc =
      let d = c / w * w + j in
      loaded (c % w) (p.row c lc) d (p.column c j lc lj) ∙ ap (λ i. bit (word_at strip i) (d % w)) (p.word c j lc lj) ∙ ap (bit (word_at strip c)) (p.rest c j lc lj)

  pub columns_loaded : (strip rows turned : List ℕ) → Loaded w strip w rows → Turned w rows turned → Columns w strip turned
  columns_loaded strip rows turned loaded t j c lj lc = t.all j c lj lc ∙ in_row strip rows loaded j c lj lc

  pub blank_words : (strip rows : List ℕ) → Loaded w strip w rows → (n : ℕ) → w ≤ n → Blank rows n → (j c : ℕ) → j < w → c < 64 → bit (word_at strip c) j ≡ false
  blank_words strip rows loaded n ln blank j c lj lc = sym (in_row strip rows loaded j c lj lc) ∙ ap (λ v. bit v (c / w * w + j)) (blank (c % w) (omega (arith, p.row c lc))) ∙ bit_zero (c / w * w + j)

  pub columns_unloaded : (columns rows strip : List ℕ) → Turned w columns rows → Unloaded w rows strip → Columns w strip columns
  columns_unloaded columns rows strip t u j c lj lc =
      let d = c / w * w + j in
      sym (u.all c j lc lj ∙ t.all (c % w) d (p.row c lc) (p.column c j lc lj) ∙ ap (λ i. bit (get_or columns i 0) (d / w * w + c % w)) (p.rest c j lc lj) ∙ ap (bit (get_or columns j 0)) (p.word c j lc lj))
