-- Words, hits and traces of the first readings alone.
use Rattle.std.proofs.Common.{◌≡◌, ℕ, zero, suc, ◌+◌, ◌<◌, ◌≤◌, Bool, cond, List, [], ◌∷◌, ◌++◌, map, length, take, filter, sym, refl, ap, ◌∙◌, arith}
use Rattle.std.specs.List.{slice_get, range_with_len}
use Rattle.std.proofs.lemmas.List.{ext_get_or, length-take-le, get_or-take, length-append, take-append-le, take_all}
use Rattle.std.proofs.lemmas.List.FromFn.{take-map-range_with_len, map-range_with_len_more}
use Rattle.std.proofs.lemmas.Bool.Decides.{Decides-like, same_from_decides}
use Rattle.runs.specs.Bits.{bit}
use Rattle.runs.specs.Runs.{Pattern, last_slot, Hit}
use Rattle.runs.specs.Words.{mark, word, words, hits, trace}
use Rattle.runs.proofs.Marked.{mark_decides}
use Rattle.runs.proofs.Worded.{word_alike, bit_mark, length_words, get_or_words}
use Rattle.runs.proofs.Local.{alike_below}
use Rattle.runs.proofs.Listed.{kept_more}
use Rattle.runs.proofs.Traced.{trace_is, trace_only, final}
use Rattle.runs.proofs.Nth.{nth_take}

pub kept_same : (f g : ℕ → Bool) (a n : ℕ) → ((k : ℕ) → a ≤ k → k < a + n → f k ≡ g k) → filter f (range_with_len a n) ≡ filter g (range_with_len a n)
kept_same f g a zero same = refl
kept_same f g a (suc n) same = rw (same a (omega arith) (omega arith), kept_same f g (a + 1) n (λ k l b. same k (omega arith) (omega arith)))

module _ {R : Type 0} (P : Pattern R) where
  -- where the readings are the same below the line
  module _ (xs ys : List R) (line : ℕ) (same : (k : ℕ) → k < line → slice_get xs k ≡ slice_get ys k) (p : ℕ) (l : p < line) where
    pub mark_same : (j : ℕ) → mark P xs j p ≡ mark P ys j p
    mark_same j =
        let b = alike_below P xs ys line same j p l in
        same_from_decides (mark P xs j p) (mark P ys j p) (mark_decides P xs j p) (Decides-like (mark P ys j p) b.1 b.0 (mark_decides P ys j p))

    pub word_same : word P xs p ≡ word P ys p
    word_same = (word_alike P xs ys p).1 (λ j _. alike_below P xs ys line same j p l)

    pub trace_same : Hit P xs p → trace P xs p ≡ trace P ys p
    trace_same hit =
        let f = final P xs ys line same in
        trace_only P ys p (trace P xs p) (trace P ys p) ((f.traces p l (trace P xs p)).0 (trace_is P xs p hit)) (trace_is P ys p ((f.hits p l).0 hit))

  pub words_take : (n : ℕ) (xs : List R) → n ≤ length xs → words P (take n xs) ≡ take n (words P xs)
  words_take n xs l =
      let long = length_words P xs in
      let short = length-take-le n xs l in
      let cut = length-take-le n (words P xs) (omega arith) in
      let same = length_words P (take n xs) in
      ext_get_or 0 (words P (take n xs)) (take n (words P xs)) (omega arith) (λ k b.
      let kn : k < n = omega arith in
      get_or_words P (take n xs) k ∙ word_same (take n xs) xs n (nth_take n xs) k kn ∙ sym (get_or-take n (words P xs) k 0 kn ∙ get_or_words P xs k))

  pub words_append : (xs ys : List R) → take (length xs) (words P (xs ++ ys)) ≡ words P xs
  words_append xs ys =
      let long = length-append xs ys in
      sym (words_take (length xs) (xs ++ ys) (omega arith)) ∙ ap (words P) (take-append-le (length xs) xs ys (omega arith) ∙ take_all (length xs) xs (omega arith))

  pub words_push : (xs : List R) (x : R) → words P (xs ++ x ∷ []) ≡ words P xs ++ word P (xs ++ x ∷ []) (length xs) ∷ []
  words_push xs x =
      let ws = word P (xs ++ x ∷ []) in
      let more : length (xs ++ x ∷ []) ≡ length xs + 1 = length-append xs (x ∷ []) in
      let front : map ws (range_with_len 0 (length xs)) ≡ words P xs = sym (take-map-range_with_len ws 0 (length (xs ++ x ∷ [])) (length xs) (omega arith)) ∙ words_append xs (x ∷ []) in
      ap (λ n. map ws (range_with_len 0 n)) more ∙ map-range_with_len_more ws 0 (length xs) (length xs) (omega arith) ∙ ap (λ front. front ++ ws (length xs) ∷ []) front

  -- the hits among the first n readings
  pub hits_take : (n : ℕ) (xs : List R) → n ≤ length xs → hits P (take n xs) ≡ filter (mark P xs (last_slot P)) (range_with_len 0 n)
  hits_take n xs l = ap (λ m. filter (mark P (take n xs) (last_slot P)) (range_with_len 0 m)) (length-take-le n xs l)
      ∙ kept_same (mark P (take n xs) (last_slot P)) (mark P xs (last_slot P)) 0 n (λ k _ b. mark_same (take n xs) xs n (nth_take n xs) k (omega arith) (last_slot P))

  pub hits_more : (n : ℕ) (xs : List R) → n < length xs → hits P (take (n + 1) xs) ≡ hits P (take n xs) ++ cond (bit (word P xs n) (last_slot P)) (n ∷ []) []
  hits_more n xs l = hits_take (n + 1) xs (omega arith) ∙ kept_more (mark P xs (last_slot P)) 0 n n (omega arith) ∙ sym (rw (bit_mark P xs (last_slot P) n (omega arith), hits_take n xs (omega arith)))
