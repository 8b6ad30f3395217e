-- A byte is a mark just where it is that mark's code, and a digit is none.
use Rattle.std.proofs.Common.{◌≡◌, ℕ, Bool, true, false, eqb, Some, refl, arith}
use Rattle.std.proofs.lemmas.Bool.Decides.{nat_tests}
use Rattle.text.specs.declared.mark.Mark.{Mark}
use Rattle.text.specs.declared.mark.Mark.TheVariants.{Dash, Gap, Open, Comma, Close, ClassOpen, ClassClose, BarredOpen, BarredClose, Colon, Space, Tilde, At, And, Bang}
use Rattle.text.specs.Words.{is_digit}
use Rattle.text.specs.Marks.{code_of, byte_mark}

mark_of_code : (m : Mark) → byte_mark (code_of m) ≡ Some m
mark_of_code Dash = refl
mark_of_code Gap = refl
mark_of_code Open = refl
mark_of_code Comma = refl
mark_of_code Close = refl
mark_of_code ClassOpen = refl
mark_of_code ClassClose = refl
mark_of_code BarredOpen = refl
mark_of_code BarredClose = refl
mark_of_code Colon = refl
mark_of_code Space = refl
mark_of_code Tilde = refl
mark_of_code At = refl
mark_of_code And = refl
mark_of_code Bang = refl

code_of_mark : (b : ℕ) (m : Mark) → byte_mark b ≡ Some m → b ≡ code_of m
code_of_mark b m is = grind (arith, nat_tests)

-- a mark is no digit, and not the 0 that stands for no byte
pub mark_no_digit : (m : Mark) → (is_digit (code_of m) ≡ false) × (code_of m ≡ 0 → ⊥)
mark_no_digit Dash = (refl, λ e. omega arith)
mark_no_digit Gap = (refl, λ e. omega arith)
mark_no_digit Open = (refl, λ e. omega arith)
mark_no_digit Comma = (refl, λ e. omega arith)
mark_no_digit Close = (refl, λ e. omega arith)
mark_no_digit ClassOpen = (refl, λ e. omega arith)
mark_no_digit ClassClose = (refl, λ e. omega arith)
mark_no_digit BarredOpen = (refl, λ e. omega arith)
mark_no_digit BarredClose = (refl, λ e. omega arith)
mark_no_digit Colon = (refl, λ e. omega arith)
mark_no_digit Space = (refl, λ e. omega arith)
mark_no_digit Tilde = (refl, λ e. omega arith)
mark_no_digit At = (refl, λ e. omega arith)
mark_no_digit And = (refl, λ e. omega arith)
mark_no_digit Bang = (refl, λ e. omega arith)

-- a test that tells the mark tells its code
pub tests_code : (b : ℕ) (m : Mark) (r : Bool) → (r ≡ true → byte_mark b ≡ Some m) → (byte_mark b ≡ Some m → r ≡ true) → r ≡ eqb b (code_of m)
tests_code b m r to from =
    let back : b ≡ code_of m → byte_mark b ≡ Some m = λ e. rw e (mark_of_code m) in
    grind (arith, nat_tests, code_of_mark b m)
