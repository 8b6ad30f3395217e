-- One slot of a strip after another.
use Rattle.std.proofs.Common.{◌≡◌, ℕ, suc, ◌+◌, ◌-◌, ◌<◌, ◌≤◌, true, ◌≢◌, List, length, get_or, replicate, set, sym, ap, ◌∙◌, subst, ⊎_elim, arith, length-set, get_or-set_other, get_or-set_same}
use lib.Bits.{bit_and}
use Rattle.std.proofs.lemmas.Bool.{cases_lt}
use Rattle.runs.specs.declared.signature.Signature.{Signature}
use Rattle.runs.specs.Gaps.{low, high}
use Rattle.runs.specs.Signatures.{gaps_of}
use Rattle.runs.specs.Bits.{bit}
use Rattle.engines.proofs.Bits.{and_on, and_both}
use Rattle.engines.proofs.Laid.{all_same}
use Rattle.engines.proofs.Placed.{put_below, put_in}
use borrow.Rule.Slice.PartMut.{put_mid}
use Rattle.engines.specs.Windows.{Reached, Tells}
use Rattle.engines.specs.Marks.{Goes, Marked, Kept}

-- a strip that tells of P, among the places that fit
tells_fits : (P : ℕ → Type 0) (fits r : ℕ) → Tells P r → Tells (λ i. (bit fits i ≡ true) × P i) (bit_and fits r)
tells_fits P fits r t i l = (
  (λ b. let both = and_both fits r i b in (both.0, (t i l).0 both.1)),
  (λ p. and_on fits r i ((t i l).1 p.1) ∙ p.0),
)

-- after the first n gaps
pub record Ongoing (w : ℕ) (s : Signature) (masks fits : List ℕ) (n : ℕ) (marks after : List ℕ) (ended : ℕ) : Type 0 where
  pub first : get_or marks 0 0 ≡ get_or fits 0 0
  pub later : (j : ℕ) → j < n → Tells (Goes s masks fits marks j) (get_or marks (suc j) 0)
  pub rest : (j : ℕ) → n < j → get_or marks j 0 ≡ get_or fits j 0
  pub last : ended ≡ get_or marks n 0
  pub kept : (j : ℕ) → j < n → get_or after j 0 ≡ get_or marks j 0
  pub old : (j : ℕ) → n ≤ j → get_or after j 0 ≡ get_or masks j 0
  pub wide : length marks ≡ w
  pub long : length after ≡ 31

module _ (w : ℕ) (s : Signature) (masks fits : List ℕ) (n : ℕ) (marks after : List ℕ) (ended : ℕ) (in-range : n < 31) (room : n + 1 < w) (have : Ongoing w s masks fits n marks after ended) where
  pub ongoing_more : (lo hi r : ℕ) → lo ≡ low (gaps_of s) n → hi ≡ high (gaps_of s) n → Tells (Reached lo hi (get_or after n 0) ended) r
      → let v = bit_and (get_or marks (n + 1) 0) r in Ongoing w s masks fits (n + 1) (set marks (n + 1) v) (set after n ended) v
  ongoing_more lo hi r elo ehi t =
      let v = bit_and (get_or marks (n + 1) 0) r in
      let new = set marks (n + 1) v in
      let next = set after n ended in
      let same : get_or new (n + 1) 0 ≡ v = get_or-set_same marks (n + 1) v 0 (omega (arith, have.wide)) in
      let other : (i : ℕ) → i ≢ n + 1 → get_or new i 0 ≡ get_or marks i 0 = λ i ne. get_or-set_other marks (n + 1) i v 0 ne in
      let up : n + 1 ≡ suc n = omega arith in
      let apart : n ≢ n + 1 = omega arith in
      let here : ended ≡ get_or new n 0 = have.last ∙ sym (other n apart) in
      let fit : get_or marks (n + 1) 0 ≡ get_or fits (suc n) 0 = ap (λ i. get_or marks i 0) up ∙ have.rest (suc n) (omega arith) in
      let P : ℕ → ℕ → ℕ → ℕ → ℕ → ℕ → Type 0 = λ f a b p h i. (bit f i ≡ true) × Reached a b p h i in
      let goes : Tells (Goes s masks fits new n) v =
      subst (λ f. Tells (P f (low (gaps_of s) n) (high (gaps_of s) n) (get_or masks n 0) (get_or new n 0)) v) fit
      (subst (λ h. Tells (P (get_or marks (n + 1) 0) (low (gaps_of s) n) (high (gaps_of s) n) (get_or masks n 0) h) v) here
      (subst (λ p. Tells (P (get_or marks (n + 1) 0) (low (gaps_of s) n) (high (gaps_of s) n) p ended) v) (have.old n (omega arith))
      (subst (λ b. Tells (P (get_or marks (n + 1) 0) (low (gaps_of s) n) b (get_or after n 0) ended) v) ehi
      (subst (λ a. Tells (P (get_or marks (n + 1) 0) a hi (get_or after n 0) ended) v) elo
      (tells_fits (Reached lo hi (get_or after n 0) ended) (get_or marks (n + 1) 0) r t))))) in
      record {
        first = let ne : 0 ≢ n + 1 = omega arith in other 0 ne ∙ have.first;
        later = λ j l. ⊎_elim
            (λ (h : j < n).
            let ne : suc j ≢ n + 1 = omega arith in
            let ne' : j ≢ n + 1 = omega arith in
            subst (λ x. Tells (Goes s masks fits new j) x) (sym (other (suc j) ne))
            (subst (λ x. Tells (P (get_or fits (suc j) 0) (low (gaps_of s) j) (high (gaps_of s) j) (get_or masks j 0) x) (get_or marks (suc j) 0)) (sym (other j ne')) (have.later j h)))
            (λ (h : n ≤ j).
            let q : n ≡ j = omega arith in
            subst (λ j. Tells (Goes s masks fits new j) (get_or new (suc j) 0)) q
            (subst (λ i. Tells (Goes s masks fits new n) (get_or new i 0)) up (subst (λ x. Tells (Goes s masks fits new n) x) (sym same) goes)))
            (cases_lt j n);
        rest = λ j l. let ne : j ≢ n + 1 = omega arith in other j ne ∙ have.rest j (omega arith);
        last = sym same;
        kept = λ j l. ⊎_elim
            (λ (h : j < n).
            let ne : j ≢ n = omega arith in
            let ne' : j ≢ n + 1 = omega arith in
            get_or-set_other after n j ended 0 ne ∙ have.kept j h ∙ sym (other j ne'))
            (λ (h : n ≤ j). let q : n ≡ j = omega arith in subst (λ j. get_or next j 0 ≡ get_or new j 0) q (get_or-set_same after n ended 0 (omega (arith, have.long)) ∙ here))
            (cases_lt j n);
        old = λ j l. let ne : j ≢ n = omega arith in get_or-set_other after n j ended 0 ne ∙ have.old j (omega arith);
        wide = simp length-set have.wide;
        long = simp length-set have.long;
      }

-- the first n columns stay, and the others have no bits
pub record Cleared (w n : ℕ) (from columns : List ℕ) : Type 0 where
  pub same : (j : ℕ) → j < n → get_or columns j 0 ≡ get_or from j 0
  pub none : (j : ℕ) → n ≤ j → j < w → get_or columns j 0 ≡ 0

pub cleared : (w n m : ℕ) (from ys : List ℕ) → w ≡ length from → n ≤ w → length ys ≡ w - n → ys ≡ replicate m 0 → Cleared w n from (put_mid n (length from - n) from ys)
cleared w n m from ys e l long zeros =
    let fits : n ≤ length from = omega arith in
    record {
      same = λ j lj. put_below n (length from - n) from ys fits j lj;
      none = λ j h lj. put_in n (length from - n) from ys fits j h (omega arith) ∙ ap (λ (zs : List ℕ). get_or zs (j - n) 0) zeros ∙ all_same m (j - n) 0;
    }

-- all gaps, and then nothing past the slots
module _ (w : ℕ) (s : Signature) (masks fits : List ℕ) (n : ℕ) (marks after columns : List ℕ) (ended : ℕ) (all : n ≡ s.slots - 1)
    (have : Ongoing w s masks fits n marks after ended) (clear : Cleared w (n + 1) marks columns) where
  pub marked_all : Marked s w masks fits columns
  marked_all = record {
    first = clear.same 0 (omega arith) ∙ have.first;
    later = λ j l.
        let lt : j < n = omega arith in
        subst (λ x. Tells (Goes s masks fits columns j) x) (sym (clear.same (suc j) (omega arith)))
        (subst (λ x. Tells (λ i. (bit (get_or fits (suc j) 0) i ≡ true) × Reached (low (gaps_of s) j) (high (gaps_of s) j) (get_or masks j 0) x i) (get_or marks (suc j) 0)) (sym (clear.same j (omega arith))) (have.later j lt));
    none = λ j l h. clear.none (suc j) (omega arith) h;
  }

  pub kept_all : Kept s columns after
  kept_all j l = have.kept j (omega arith) ∙ sym (clear.same j (omega arith))
