use Rattle.std.proofs.Common.{◌≡◌, arith, length-take-le, get_or-take}
use Rattle.std.proofs.lemmas.List.Sums.{prefix_len-le-length, prefix_len_passes}
use Rattle.std.proofs.lemmas.Bool.Decides.{nat_tests}
use Rattle.text.specs.Words.{digits_at}
use Rattle.text.proofs.number.read_number.Goals as goal

pub value_within-requires : goal.value_within-requires
value_within-requires c =
    let is = c.in-Digits.ensures in
    let digits : c.in-Digits.digits.now ≡ digits_at c.args.text.now c.args.at = grind (arith, nat_tests) in
    λ k d h. grind (arith, prefix_len-le-length, prefix_len_passes, length-take-le, get_or-take)
