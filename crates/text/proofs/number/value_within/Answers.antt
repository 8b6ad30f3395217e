use Rattle.std.proofs.Common.{ℕ, ◌+◌, ◌-◌, ◌*◌, ◌≤◌, List, [], ◌∷◌, arith}
use Rattle.std.proofs.lemmas.List.{at_drop_more}
use Rattle.std.proofs.lemmas.Bool.Decides.{nat_tests}
use Rattle.text.specs.Numbers.{value_after}
use Rattle.text.proofs.number.value_within.Goals as goal

-- more digits make no number smaller
value_ge : (ds : List ℕ) (n : ℕ) → n ≤ value_after n ds
value_ge [] n = omega arith
value_ge (d ∷ ds) n = omega (arith, value_ge ds (n * 10 + (d - 48)))

pub returns-then-value-from : goal.returns-then-value-from
returns-then-value-from c =
    let e = at_drop_more (value_after c.loop-digit.value) c.args.digits.now c.loop-digit.digit-index 0 c.loop-digit-test.true in
    grind (arith, nat_tests, value_ge)
