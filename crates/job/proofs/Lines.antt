-- The lines of the hits, one hit after another.
use Rattle.std.proofs.Common.{◌≡◌, ℕ, ◌+◌, Bool, true, false, List, [], ◌∷◌, ◌++◌, filter, sym, refl, ap, ◌∙◌, append_assoc, append-nil, arith}
use Rattle.std.specs.List.{range_with_len}
use Rattle.runs.proofs.Listed.{kept_more}
use Rattle.job.specs.Printed.{hit_line, hit_lines}

lines_append : (trace : ℕ → List ℕ) (ps qs : List ℕ) → hit_lines trace (ps ++ qs) ≡ hit_lines trace ps ++ hit_lines trace qs
lines_append trace [] qs = refl
lines_append trace (p ∷ ps) qs = ap (λ (t : List ℕ). hit_line p (trace p) ++ t) (lines_append trace ps qs) ∙ sym (append_assoc (hit_line p (trace p)) (hit_lines trace ps) (hit_lines trace qs))

abbrev up_to : (ℕ → Bool) → ℕ → List ℕ
up_to hit n = filter hit (range_with_len 0 n)

pub lines_hit : (trace : ℕ → List ℕ) (hit : ℕ → Bool) (n : ℕ) → hit n ≡ true → hit_lines trace (up_to hit (n + 1)) ≡ hit_lines trace (up_to hit n) ++ hit_line n (trace n)
lines_hit trace hit n is =
    let more = kept_more hit 0 n n (omega arith) in
    ap (hit_lines trace) (rw is at more) ∙ lines_append trace (up_to hit n) (n ∷ []) ∙ ap (λ (t : List ℕ). hit_lines trace (up_to hit n) ++ t) (append-nil (hit_line n (trace n)))

pub lines_none : (trace : ℕ → List ℕ) (hit : ℕ → Bool) (n : ℕ) → hit n ≡ false → hit_lines trace (up_to hit (n + 1)) ≡ hit_lines trace (up_to hit n)
lines_none trace hit n is =
    let more = kept_more hit 0 n n (omega arith) in
    ap (hit_lines trace) (rw is at more ∙ append-nil (up_to hit n))
