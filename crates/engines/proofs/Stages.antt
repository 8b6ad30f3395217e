-- A stage: swaps of one pair of rows after another.
use Rattle.std.proofs.Common.{◌≡◌, ℕ, ◌+◌, ◌-◌, ◌*◌, ◌/◌, ◌%◌, ◌<◌, ◌≤◌, true, false, eqb, ◌≢◌, ◌⊎◌, List, get_or, sym, ap, ◌∙◌, subst, ⊎_elim, arith}
use Rattle.std.proofs.lemmas.Bool.{cases_lt}
use Rattle.runs.specs.Bits.{bit}
use Rattle.engines.specs.Turns.{Swapped, Stage, MaskOf, row_of, column_of, Exchanged}
use Rattle.engines.proofs.Tables as table
use Rattle.engines.proofs.Tables.{pair, pair_of}

-- the first i pairs of n rows have been swapped
pub record Partly (n by i : ℕ) (from to : List ℕ) : Type 0 where
  pub done : (q c : ℕ) → q < n → c < 64 → pair_of by q < i → bit (get_or to q 0) c ≡ bit (get_or from (row_of by q c) 0) (column_of by q c)
  pub rest : (q : ℕ) → q < n → i ≤ pair_of by q → get_or to q 0 ≡ get_or from q 0

pub exchanged : (n by : ℕ) (w : Stage n by) (from to : List ℕ) → Partly n by (n / 2) from to → Exchanged n by from to
exchanged n by w from to p = record { all = λ r c lr lc. p.done r c lr lc (table.of_in n by w r lr) }

row_is : (by r c x y : ℕ) → r / by % 2 ≡ x → c / by % 2 ≡ y → row_of by r c ≡ r - x * by + y * by
row_is by r c x y e f = ap (λ x. r - x * by + c / by % 2 * by) e ∙ ap (λ y. r - x * by + y * by) f

column_is : (by r c x y : ℕ) → r / by % 2 ≡ x → c / by % 2 ≡ y → column_of by r c ≡ c - y * by + x * by
column_is by r c x y e f = row_is by c r y x f e

-- a cell at another row and column
cell : (xs : List ℕ) (r r' c c' : ℕ) → r ≡ r' → c ≡ c' → bit (get_or xs r 0) c ≡ bit (get_or xs r' 0) c'
cell xs r r' c c' e f = ap (λ r. bit (get_or xs r 0) c) e ∙ ap (bit (get_or xs r' 0)) f

module _ (n by mask : ℕ) (w : Stage n by) (m : MaskOf by mask) (i : ℕ) (li : i < n / 2) (from then to : List ℕ) (have : Partly n by i from then) (sw : Swapped (pair by i) (pair by i + by) by mask then to) where
  inside : pair by i + by < n
  inside = table.inside n by w i li

  was_upper : get_or then (pair by i) 0 ≡ get_or from (pair by i) 0
  was_upper = have.rest (pair by i) (omega (arith, inside)) (omega (arith, table.of_upper n by w i li))

  was_lower : get_or then (pair by i + by) 0 ≡ get_or from (pair by i + by) 0
  was_lower = have.rest (pair by i + by) inside (omega (arith, table.of_lower n by w i li))

  at_upper : (c : ℕ) → c < 64 → bit (get_or to (pair by i) 0) c ≡ bit (get_or from (row_of by (pair by i) c) 0) (column_of by (pair by i) c)
  at_upper c lc =
      let k = pair by i in
      let u = table.upper n by w i li in
      ⊎_elim
      (λ (h : (c / by % 2 ≡ 0) × ((c < by) ⊎ ((c - by) / by % 2 ≡ 1))).
      let r : k ≡ row_of by k c = sym (row_is by k c 0 0 u h.0 ∙ omega arith) in
      let s : c ≡ column_of by k c = sym (column_is by k c 0 0 u h.0 ∙ omega arith) in
      let same : bit (get_or to k 0) c ≡ bit (get_or then k 0) c = ⊎_elim
      (λ (lt : c < by). sw.start c lc lt)
      (λ (ge : by ≤ c). ⊎_elim
      (λ (lt : c < by). let z : ⊥ = omega arith in absurd z)
      (λ (o : (c - by) / by % 2 ≡ 1).
      let q : by + (c - by) ≡ c = omega arith in
      let off : bit mask (c - by) ≡ false = m (c - by) (omega arith) ∙ ap (λ n. eqb n 0) o in
      subst (λ c. bit (get_or to k 0) c ≡ bit (get_or then k 0) c) q (sw.above_same (c - by) (omega arith) off))
      h.1)
      (cases_lt c by) in
      same ∙ ap (λ n. bit n c) was_upper ∙ cell from k (row_of by k c) c (column_of by k c) r s)
      (λ (h : (c / by % 2 ≡ 1) × (by ≤ c) × ((c - by) / by % 2 ≡ 0)).
      let ge = h.1 in
      let r : k + by ≡ row_of by k c = sym (row_is by k c 0 1 u h.0 ∙ omega arith) in
      let s : c - by ≡ column_of by k c = sym (column_is by k c 0 1 u h.0 ∙ omega arith) in
      let q : by + (c - by) ≡ c = omega arith in
      let o = h.2 in
      let on : bit mask (c - by) ≡ true = m (c - by) (omega arith) ∙ ap (λ n. eqb n 0) o in
      subst (λ d. bit (get_or to k 0) d ≡ bit (get_or then (k + by) 0) (c - by)) q (sw.above (c - by) (omega arith) on)
      ∙ ap (λ n. bit n (c - by)) was_lower ∙ cell from (k + by) (row_of by k c) (c - by) (column_of by k c) r s)
      (table.column n by w c lc)

  at_lower : (c : ℕ) → c < 64 → bit (get_or to (pair by i + by) 0) c ≡ bit (get_or from (row_of by (pair by i + by) c) 0) (column_of by (pair by i + by) c)
  at_lower c lc =
      let k = pair by i in
      let u = table.lower n by w i li in
      ⊎_elim
      (λ (h : (c / by % 2 ≡ 0) × ((c < by) ⊎ ((c - by) / by % 2 ≡ 1))).
      let e = h.0 in
      let r : k ≡ row_of by (k + by) c = sym (row_is by (k + by) c 1 0 u h.0 ∙ omega arith) in
      let s : by + c ≡ column_of by (k + by) c = sym (column_is by (k + by) c 1 0 u h.0 ∙ omega arith) in
      let on : bit mask c ≡ true = m c lc ∙ ap (λ n. eqb n 0) e in
      sw.below c lc on ∙ ap (λ n. bit n (by + c)) was_upper ∙ cell from k (row_of by (k + by) c) (by + c) (column_of by (k + by) c) r s)
      (λ (h : (c / by % 2 ≡ 1) × (by ≤ c) × ((c - by) / by % 2 ≡ 0)).
      let e = h.0 in
      let ge = h.1 in
      let r : k + by ≡ row_of by (k + by) c = sym (row_is by (k + by) c 1 1 u h.0 ∙ omega arith) in
      let s : c ≡ column_of by (k + by) c = sym (column_is by (k + by) c 1 1 u h.0 ∙ omega arith) in
      let off : bit mask c ≡ false = m c lc ∙ ap (λ n. eqb n 0) e in
      sw.below_same c lc off ∙ ap (λ n. bit n c) was_lower ∙ cell from (k + by) (row_of by (k + by) c) c (column_of by (k + by) c) r s)
      (table.column n by w c lc)

  other : (q : ℕ) → pair_of by q ≢ i → get_or to q 0 ≡ get_or then q 0
  other q ne = sw.rest q (λ e. ne (ap (pair_of by) e ∙ table.of_upper n by w i li)) (λ e. ne (ap (pair_of by) e ∙ table.of_lower n by w i li))

  pub partly_more : Partly n by (i + 1) from to
  partly_more = record {
    done = λ q c lq lc l. ⊎_elim
        (λ (h : pair_of by q < i). let ne : pair_of by q ≢ i = omega arith in ap (λ n. bit n c) (other q ne) ∙ have.done q c lq lc h)
        (λ (h : i ≤ pair_of by q).
        let e : pair_of by q ≡ i = omega arith in
        ⊎_elim
        (λ (e' : q ≡ pair by (pair_of by q)). subst (λ q. bit (get_or to q 0) c ≡ bit (get_or from (row_of by q c) 0) (column_of by q c)) (sym (e' ∙ ap (pair by) e)) (at_upper c lc))
        (λ (e' : q ≡ pair by (pair_of by q) + by). subst (λ q. bit (get_or to q 0) c ≡ bit (get_or from (row_of by q c) 0) (column_of by q c)) (sym (e' ∙ ap (λ i. pair by i + by) e)) (at_lower c lc))
        (table.names n by w q lq))
        (cases_lt (pair_of by q) i);
    rest = λ q lq l. let ne : pair_of by q ≢ i = omega arith in other q ne ∙ have.rest q lq (omega arith);
  }
