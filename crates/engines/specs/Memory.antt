-- What an engine remembers, and what a step makes of it.
use Rattle.std.specs.Prelude.{◌≡◌, ℕ, suc, ◌<◌, ◌≤◌, Bool, true, false, List, reverse, length, Decides, slice_index, slice_index_or}
use Rattle.runs.specs.declared.gap.Gap.{Gap}
use Rattle.runs.specs.declared.signature.Signature.{Signature}
use Rattle.runs.specs.Gaps.{low, high, no_gap}
use Rattle.runs.specs.Signatures.{gaps_of}
use Rattle.runs.specs.Bits.{bit}

-- what a memory says: of slot j, at distance d
abbrev pub Memory : Type 0
Memory = ℕ → ℕ → Bool

-- gap j of a signature, 0 to 0 where there is none
abbrev pub nth_gap : Signature → ℕ → Gap
nth_gap s j = slice_index_or (gaps_of s) j no_gap

module _ (s : Signature) where
  -- the memory says yes for slot j at a distance that gap j allows
  abbrev pub Seen : Memory → ℕ → Type 0
  Seen says j = (d : ℕ) × (low (gaps_of s) j ≤ d) × (d ≤ high (gaps_of s) j) × (says j d ≡ true)

  -- the answers at each slot but the last tell whether the memory says yes for it
  abbrev pub Seeing : Memory → (ℕ → Bool → Type 0) → Type 0
  Seeing says answers = (j : ℕ) (b : Bool) → suc j < s.slots → answers j b → Decides b (Seen says j)

  -- w is the word of a place, where `fits` has a bit for each slot that its reading fits
  pub record Stepped (says : Memory) (fits w : ℕ) : Type 0 where
    pub first : bit w 0 ≡ bit fits 0
    pub later : (j : ℕ) → suc j < s.slots → Decides (bit w (suc j)) ((bit fits (suc j) ≡ true) × Seen says j)
    pub none : (j : ℕ) → s.slots ≤ suc j → bit w (suc j) ≡ false

  -- the memory after a place with the word w: what it said is one distance further
  pub record Moved (says : Memory) (w : ℕ) (after : Memory) : Type 0 where
    pub newest : (j : ℕ) → suc j < s.slots → after j 0 ≡ bit w j
    pub older : (j d : ℕ) → suc j < s.slots → suc d ≤ high (gaps_of s) j → after j (suc d) ≡ says j d

  -- the memory that words leave, the newest last: no past the list's beginning
  abbrev pub Recalls : List ℕ → Memory → Type 0
  Recalls words says = (j d : ℕ) → suc j < s.slots → d ≤ high (gaps_of s) j → says j d ≡ bit (slice_index (reverse words) d) j

  -- both memories say the same
  abbrev pub Same : Memory → Memory → Type 0
  Same says after = (j d : ℕ) → suc j < s.slots → d ≤ high (gaps_of s) j → after j d ≡ says j d

  -- the first n words come of the first n fits by one step after another, from the memory `says` to another
  pub data Steps (fits words : List ℕ) (says : Memory) : ℕ → Memory → Type 0 where
    none : {after : Memory} → Same says after → Steps fits words says 0 after
    more : {n : ℕ} {middle after : Memory} → Steps fits words says n middle → Stepped middle (slice_index fits n) (slice_index words n) → Moved middle (slice_index words n) after
        → Steps fits words says (suc n) after

  -- the words of neighbouring places with these fits, by one step after another
  pub record Chain (says : Memory) (fits words : List ℕ) (after : Memory) : Type 0 where
    pub long : length words ≡ length fits
    pub steps : Steps fits words says (length fits) after
