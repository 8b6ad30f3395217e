-- The grammar of a slot of event codes: what stands in the text from place a up to place b, and the codes that it stands for.
use Rattle.std.specs.Prelude.{◌≡◌, ℕ, ◌<◌, ◌≤◌, Bool, false, not, ◌&&◌, ◌||◌, ◌↔◌, List, Ok, IfOk, Result, nat_le, nat_lt, slice_index_or}
use Rattle.text.specs.declared.mark.Mark.{Mark}
use Rattle.text.specs.declared.mark.Mark.TheVariants.{ClassOpen, ClassClose, BarredOpen, BarredClose, Colon, Space}
use Rattle.text.specs.declared.refusal.Refusal.{Refusal}
use Rattle.text.specs.Grammar.{MarkText, NumberText}
use Rattle.text.specs.declared.parsed.Parsed.{Parsed}
use Rattle.gauges.specs.declared.code_set.Codes.{Codes}
use Rattle.gauges.specs.Codes.{event_at, ended}

-- the codes from v to w, both counted
abbrev pub range : ℕ → ℕ → ℕ → Bool
range v w c = nat_le v c && nat_le c w

pub data MemberText (s : List ℕ) : ℕ → ℕ → (ℕ → Bool) → Type 0 where
  -- `7`
  lone : {a b v : ℕ} → NumberText s a b v → v ≤ 255 → MemberText s a b (range v v)
  -- `7:9`
  pair : {a b c d v w : ℕ} → NumberText s a b v → MarkText Colon s b c → NumberText s c d w → v ≤ w → w ≤ 255 → MemberText s a d (range v w)

-- members, one space between two, and the closing mark
pub data MembersText (shut : Mark) (s : List ℕ) : ℕ → ℕ → (ℕ → Bool) → Type 0 where
  -- `7:9]`
  last : {a b c : ℕ} {f : ℕ → Bool} → MemberText s a b f → MarkText shut s b c → MembersText shut s a c f
  -- `7:9 12]`
  more : {a b c d : ℕ} {f g : ℕ → Bool} → MemberText s a b f → MarkText Space s b c → MembersText shut s c d g → MembersText shut s a d (λ x. f x || g x)

pub data EventText (s : List ℕ) : ℕ → ℕ → (ℕ → Bool) → Type 0 where
  -- `7`
  code : {a b v : ℕ} → NumberText s a b v → v ≤ 255 → EventText s a b (range v v)
  -- `[7:9 12]`
  listed : {a b c : ℕ} {f : ℕ → Bool} → MarkText ClassOpen s a b → MembersText ClassClose s b c f → EventText s a c f
  -- `{7:9 12}`: every code not listed
  barred : {a b c : ℕ} {f : ℕ → Bool} → MarkText BarredOpen s a b → MembersText BarredClose s b c f → EventText s a c (λ x. nat_lt x 256 && not (f x))

-- a slot is read just where the grammar derives it
abbrev pub EventExactly : Type 0
EventExactly = (s : List ℕ) (a b : ℕ) (f : ℕ → Bool) → event_at s a ≡ Ok (f, b) ↔ EventText s a b f

-- a slot is read just where the grammar derives it, and its codes are then in the set
pub record ReadsSlot (s : List ℕ) (a : ℕ) (r : Result (Parsed Codes) Refusal) : Type 0 where
  pub derived : (b : ℕ) → ended r ≡ Ok b ↔ ((f : ℕ → Bool) × EventText s a b f)
  pub held : (b : ℕ) (f : ℕ → Bool) → EventText s a b f → IfOk r (λ v. (c : ℕ) → c < 256 → slice_index_or v.value.has c false ≡ f c)
