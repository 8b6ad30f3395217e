-- The marks, and how one is read.
use Rattle.std.specs.Prelude.{ℕ, ◌+◌, Bool, cond, List, [], ◌∷◌, ◌++◌, Some, None, Ok, Err, Option, Result, ◌==◌, codes, decimal, slice_index}
use Rattle.std.specs.Option.{ok_or}
use Rattle.text.specs.declared.mark.Mark.{Mark}
use Rattle.text.specs.declared.mark.NotMark.{NotMark}
use Rattle.text.specs.declared.mark.Mark.TheVariants.{Dash, Gap, Open, Comma, Close, ClassOpen, ClassClose, BarredOpen, BarredClose, Colon, Space, Tilde, At, And, Bang}
use Rattle.text.specs.declared.refusal.Layer.{Layer}
use Rattle.text.specs.declared.refusal.Refusal.{Refusal}
use Rattle.text.specs.declared.refusal.Refusal.TheVariants.{NoMark}
use Rattle.text.specs.Words.{place_in}

-- the byte of each mark:  -  x  (  ,  )  [  ]  {  }  :  the space  ~  @  &  !
abbrev pub code_of : Mark → ℕ
code_of Dash = 45
code_of Gap = 120
code_of Open = 40
code_of Comma = 44
code_of Close = 41
code_of ClassOpen = 91
code_of ClassClose = 93
code_of BarredOpen = 123
code_of BarredClose = 125
code_of Colon = 58
code_of Space = 32
code_of Tilde = 126
code_of At = 64
code_of And = 38
code_of Bang = 33

-- the mark of a byte
abbrev pub byte_mark : ℕ → Option Mark
byte_mark b =
    cond (b == 45) (Some Dash) (cond (b == 120) (Some Gap) (cond (b == 40) (Some Open) (cond (b == 44) (Some Comma) (cond (b == 41) (Some Close)
    (cond (b == 91) (Some ClassOpen) (cond (b == 93) (Some ClassClose) (cond (b == 123) (Some BarredOpen) (cond (b == 125) (Some BarredClose)
    (cond (b == 58) (Some Colon) (cond (b == 32) (Some Space) (cond (b == 126) (Some Tilde) (cond (b == 64) (Some At)
    (cond (b == 38) (Some And) (cond (b == 33) (Some Bang) None))))))))))))))

-- the same, of a byte that may be none
abbrev pub mark_from : ℕ → Result Mark NotMark
mark_from b = ok_or (byte_mark b) (record { 0 = b })

-- `no mark` and the byte, one space between
abbrev pub not_mark_line : NotMark → List ℕ
not_mark_line n = codes "no mark " ++ decimal n.0

-- the mark that a word of one byte is
abbrev pub mark_in : List ℕ → Option Mark
mark_in [] = None
mark_in (b ∷ []) = byte_mark b
mark_in (b ∷ c ∷ bs) = None

-- the mark stands at a place
abbrev pub is_mark : Mark → List ℕ → ℕ → Bool
is_mark m s at = slice_index s at == code_of m

-- the place behind a mark that must stand at a place
abbrev pub mark_taken : Layer → Mark → List ℕ → ℕ → Result ℕ Refusal
mark_taken l m s at = cond (is_mark m s at) (Ok (at + 1)) (Err (NoMark l (place_in s at)))
