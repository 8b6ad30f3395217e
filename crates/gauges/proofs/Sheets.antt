-- The texts of the worked sheets are read as the sheets' patterns.
use Rattle.std.proofs.Common.{◌≡◌, ℕ, zero, suc, ◌<◌, Bool, false, ◌&&◌, ◌||◌, eqb, ltb, leb, List, [], ◌∷◌, get_or, pos, refl, arith}
use Rattle.std.proofs.lemmas.Bool.Decides.{nat_tests}
use Rattle.runs.specs.Runs.{Pattern, slots}
use Rattle.runs.specs.Sheets.{gap, pair, triple, apart, twice, current}
use Rattle.signature.specs.Sets.{nothing}
use Rattle.signature.specs.Outcomes.{signature_at}
use Rattle.gauges.specs.Codes.{event_at, members_at}
use Rattle.gauges.specs.Currents.{current_at, within}
use Rattle.gauges.specs.Texts.{ReadAs}

-- the set of a slot that is one code, and of one that lists two
abbrev one : ℕ → ℕ → Bool
one v c = ltb c 256 && ((leb v c && leb c v) || false)

abbrev two : ℕ → ℕ → ℕ → Bool
two v w c = ltb c 256 && ((leb v c && leb c v) || ((leb w c && leb c w) || false))

-- a code below 256 alone, as the sheets have it
is_one : (v c : ℕ) → v < 256 → one v c ≡ eqb c v || false
is_one v c l = grind (arith, nat_tests)

is_two : (v w c : ℕ) → v < 256 → w < 256 → two v w c ≡ eqb c w || (eqb c v || false)
is_two v w c l m = grind (arith, nat_tests)

abbrev Same : {R : Type 0} → List (R → Bool) → Pattern R → Type 0
Same {R} sets P = (j : ℕ) → j < slots P → (x : R) → get_or sets j nothing x ≡ P.sets j x

pair_same : Same (one 10 ∷ two 20 21 ∷ []) pair
pair_same zero l x = is_one 10 x (omega arith)
pair_same (suc zero) l x = is_two 20 21 x (omega arith) (omega arith)
pair_same (suc (suc j)) l x = absurd (omega arith)

triple_same : Same (one 1 ∷ one 2 ∷ one 3 ∷ []) triple
triple_same zero l x = is_one 1 x (omega arith)
triple_same (suc zero) l x = is_one 2 x (omega arith)
triple_same (suc (suc zero)) l x = is_one 3 x (omega arith)
triple_same (suc (suc (suc j))) l x = absurd (omega arith)

apart_same : Same (one 1 ∷ one 2 ∷ []) apart
apart_same zero l x = is_one 1 x (omega arith)
apart_same (suc zero) l x = is_one 2 x (omega arith)
apart_same (suc (suc j)) l x = absurd (omega arith)

twice_same : Same (one 5 ∷ one 5 ∷ []) twice
twice_same zero l x = is_one 5 x (omega arith)
twice_same (suc zero) l x = is_one 5 x (omega arith)
twice_same (suc (suc j)) l x = absurd (omega arith)

current_same : Same (within (pos 100) 5 ∷ []) (current 100 5)
current_same zero l x = refl
current_same (suc j) l x = absurd (omega arith)

pub pair_read : ReadAs event_at "10-x(0,2)-[20 21]" pair
unfolding signature_at event_at members_at
pair_read = record { plan = record { sets = one 10 ∷ two 20 21 ∷ []; gaps = gap 0 2 ∷ [] }; read = refl; slotted = refl; spaced = refl; same = pair_same }

pub triple_read : ReadAs event_at "1-2-x(0,3)-3" triple
unfolding signature_at event_at
triple_read = record { plan = record { sets = one 1 ∷ one 2 ∷ one 3 ∷ []; gaps = gap 0 0 ∷ gap 0 3 ∷ [] }; read = refl; slotted = refl; spaced = refl; same = triple_same }

pub apart_read : ReadAs event_at "1-x(2,3)-2" apart
unfolding signature_at event_at
apart_read = record { plan = record { sets = one 1 ∷ one 2 ∷ []; gaps = gap 2 3 ∷ [] }; read = refl; slotted = refl; spaced = refl; same = apart_same }

pub twice_read : ReadAs event_at "5-5" twice
unfolding signature_at event_at
twice_read = record { plan = record { sets = one 5 ∷ one 5 ∷ []; gaps = gap 0 0 ∷ [] }; read = refl; slotted = refl; spaced = refl; same = twice_same }

pub current_read : ReadAs current_at "100~5" (current 100 5)
unfolding signature_at current_at
current_read = record { plan = record { sets = within (pos 100) 5 ∷ []; gaps = [] }; read = refl; slotted = refl; spaced = refl; same = current_same }
