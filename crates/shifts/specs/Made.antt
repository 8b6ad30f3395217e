-- The calls of a shift as they were made, and the book and the answers that they come to.
use Rattle.std.specs.Prelude.{ℕ, Bool, cond, not, ◌||◌, List, [], ◌∷◌, length, take, Ok, Err, nat_le}
use Rattle.text.specs.declared.refusal.Refusal.TheVariants.{OtherBuffers}
use Rattle.runs.specs.Runs.{Pattern}
use Rattle.records.specs.declared.call.Call.{Call}
use Rattle.records.specs.declared.call.Reply.TheVariants.{NotTaken}
use Rattle.records.specs.Books.{Book, Answer, blank, takes, lends, after, answer}
use Rattle.shifts.specs.Stands.{answered}

-- a call, the list that was lent with it, and how many entries of both buffers were, at most
pub record Made (R : Type 0) : Type 0 where
  pub call : Call R
  pub list : List ℕ
  pub lent : ℕ

-- for a signature with the sets of its slots, and buffers with so many entries
module _ {R : Type 0} (P : Pattern R) (space : ℕ) where
  -- the call has the buffers of the opening, or needs none
  abbrev pub apt : Made R → Bool
  apt m = not (lends m.call) || nat_le space m.lent

  -- the book after a call; buffers of another length are refused
  abbrev pub next : Book R → Made R → Book R
  next b m = cond (apt m) (after P space b m.list m.call) b

  -- what the call comes to
  abbrev pub answer_to : Book R → Made R → Answer
  answer_to b m =
      cond (takes b.stage m.call)
      (cond (apt m) (answer P space b m.list m.call) (answered (Err (OtherBuffers (length b.readings))) m.list))
      (answered (Ok NotTaken) m.list)

  -- the book after some calls
  abbrev pub book_from : Book R → List (Made R) → Book R
  book_from b [] = b
  book_from b (m ∷ ms) = book_from (next b m) ms

  -- the book after the first i calls
  abbrev pub book_at : List (Made R) → ℕ → Book R
  book_at ms i = book_from blank (take i ms)
