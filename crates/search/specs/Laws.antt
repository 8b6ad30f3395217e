-- A sheet of mark words tells the hits and the traces.
use Rattle.std.specs.Prelude.{◌≡◌, ℕ, ◌<◌, ◌≤◌, Bool, true, ◌↔◌, List, length, slice_index}
use Rattle.runs.specs.declared.signature.Signature.{Signature}
use Rattle.runs.specs.Runs.{Hit}
use Rattle.runs.specs.Signatures.{pattern_of}
use Rattle.runs.specs.Words.{word, words, hits, trace}
use Rattle.search.specs.Traces.{sheet_hit, hits_of, trace_of}

-- for a signature with a slot, any sets of its slots, and any readings
pub record SheetTells (R : Type 0) (sets : ℕ → R → Bool) (s : Signature) (xs : List R) : Type 0 where
  -- in a sheet that has the words of the readings up to place p, a hit stands there just where a run of all slots ends
  pub hit : (sheet : List ℕ) (p : ℕ) → p < length sheet → slice_index sheet p ≡ word (pattern_of sets s) xs p → (sheet_hit s sheet p ≡ true) ↔ Hit (pattern_of sets s) xs p
  -- the trace back from there is the hit's trace
  pub traced : (sheet : List ℕ) (p : ℕ) → ((k : ℕ) → k < p → slice_index sheet k ≡ word (pattern_of sets s) xs k) → trace_of s sheet p ≡ trace (pattern_of sets s) xs p
  -- all hits of the readings, lowest first
  pub all : hits_of s (words (pattern_of sets s) xs) ≡ hits (pattern_of sets s) xs

abbrev pub SheetsTell : Type 0 → Type 0
SheetsTell R = (sets : ℕ → R → Bool) (s : Signature) → 1 ≤ s.slots → (xs : List R) → SheetTells R sets s xs
