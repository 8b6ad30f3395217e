-- Taking apart what was read: one reading after another, and one of two ways.
use Rattle.std.proofs.Common.{◌≡◌, Bool, true, false, cond, Ok, Err, Result, refl, ap}
use Rattle.text.specs.declared.refusal.Refusal.{Refusal}
use Rattle.text.specs.Refusals.{◌then◌}

pub ok_same : {A : Type 0} (a b : A) → ◌≡◌ {A = Result A Refusal} (Ok a) (Ok b) → a ≡ b
ok_same a b is = cc

pub err_same : {A : Type 0} (x y : Refusal) → ◌≡◌ {A = Result A Refusal} (Err x) (Err y) → x ≡ y
err_same x y is = cc

pub no_refusal : {A : Type 0} (a : A) (x : Refusal) → ◌≡◌ {A = Result A Refusal} (Ok a) (Err x) → ⊥
no_refusal a x is = cc

-- what came of one reading after another came of each
pub both : {A B : Type 0} (r : Result A Refusal) (f : A → Result B Refusal) (b : B) → (r then f) ≡ Ok b → (a : A) × (r ≡ Ok a) × (f a ≡ Ok b)
both (Ok a) f b is = (a, refl, is)
both (Err e) f b is = cc

-- one reading after another is refused at the first, or behind it
pub faults : {A B P : Type 0} (r : Result A Refusal) (f : A → Result B Refusal) (x : Refusal) → (r then f) ≡ Err x → (r ≡ Err x → P) → ((a : A) → r ≡ Ok a → f a ≡ Err x → P) → P
faults (Ok a) f x is first next = next a refl is
faults (Err y) f x is first next = first (ap Err (err_same y x is))

-- what follows matters only at what was read
pub then_same : {A B : Type 0} (r : Result A Refusal) (f g : A → Result B Refusal) → ((a : A) → r ≡ Ok a → f a ≡ g a) → (r then f) ≡ (r then g)
then_same (Ok a) f g same = same a refl
then_same (Err e) f g same = refl

-- which way a test went
pub ways : {A P : Type 0} (t : Bool) (x y z : A) → cond t x y ≡ z → (t ≡ true → x ≡ z → P) → (t ≡ false → y ≡ z → P) → P
ways true x y z is yes' no' = yes' refl is
ways false x y z is yes' no' = no' refl is
