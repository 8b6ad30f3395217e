use Rattle.std.proofs.Common.{◌≡◌, ℕ, ◌<◌, List, [], ◌∷◌, length, get_or, take, drop, refl, arith, rules, drop-cons}
use Rattle.std.proofs.lemmas.Bool.Decides.{nat_tests}
use Rattle.text.specs.Words.{mark, word_at}
use Rattle.text.specs.Marks.{byte_mark}
use Rattle.text.proofs.Marks.{tests_code}
use Rattle.text.proofs.mark.marked.Goals as goal

-- a mark's word is the byte that stands there
at_mark : (s : List ℕ) (at : ℕ) (t : List ℕ) (p : ℕ) → mark t p ≡ word_at s at → t ≡ get_or s at 0 ∷ []
at_mark s at t p is =
    let l : at < length s = grind (arith, nat_tests) in
    let byte : take 1 (drop at s) ≡ get_or s at 0 ∷ [] = rw (drop-cons s at 0) refl in
    grind (arith, nat_tests)

pub returns-in-Mark-clause-value : goal.returns-in-Mark-clause-value
returns-in-Mark-clause-value c =
    let here = at_mark c.args.text.now c.args.at _ _ c.in-Mark.ensures in
    let is : c.read_mark.result ≡ byte_mark (get_or c.args.text.now c.args.at 0) = rw here at c.read_mark.ensures in
    tests_code (get_or c.args.text.now c.args.at 0) c.args.wanted c.eq.result (λ t. search rules) (λ e. search rules)
