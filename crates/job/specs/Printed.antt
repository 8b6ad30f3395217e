-- The lines that the job program prints, as bytes.
use Rattle.std.specs.Prelude.{ℕ, List, [], ◌∷◌, ◌++◌, codes, decimal}
use Rattle.text.specs.declared.refusal.Refusal.{Refusal}
use Rattle.text.specs.Refusals.{refusal_line}

-- a refusal's line, ended by a line feed
abbrev pub text_of_refusal : Refusal → List ℕ
text_of_refusal e = refusal_line e ++ codes "\n"

-- each number behind a space
abbrev pub spaced : List ℕ → List ℕ
spaced [] = []
spaced (p ∷ ps) = (codes " " ++ decimal p) ++ spaced ps

-- `hit END at PLACE PLACE ..`
abbrev pub hit_line : ℕ → List ℕ → List ℕ
hit_line end places = (codes "hit " ++ (decimal end ++ codes " at")) ++ (spaced places ++ codes "\n")

-- a line for each hit, by its trace
abbrev pub hit_lines : (ℕ → List ℕ) → List ℕ → List ℕ
hit_lines trace [] = []
hit_lines trace (p ∷ ps) = hit_line p (trace p) ++ hit_lines trace ps

-- `hits H of N`
abbrev pub last_line : ℕ → ℕ → List ℕ
last_line hits readings = codes "hits " ++ (decimal hits ++ (codes " of " ++ (decimal readings ++ codes "\n")))
