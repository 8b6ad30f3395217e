-- A list with a part of it replaced.
use Rattle.std.proofs.Common.{◌≡◌, ℕ, ◌+◌, ◌-◌, ◌<◌, ◌≤◌, List, length, get_or, take, ◌++◌, sym, ap, ◌∙◌, arith}
use Rattle.std.proofs.lemmas.List.{get_or-take, get_or-drop, length-take-le, get_or-append_right, get_or_append_left}
use Rattle.std.proofs.lemmas.Slice.{drop-put_mid}
use borrow.Rule.Slice.PartMut.{put_mid, post_of}

module _ (a k : ℕ) (xs ys : List ℕ) (la : a ≤ length xs) where
  pub put_below : (i : ℕ) → i < a → get_or (put_mid a k xs ys) i 0 ≡ get_or xs i 0
  put_below i l = get_or_append_left (take a xs) (ys ++ post_of a k xs) 0 i (omega (arith, length-take-le a xs la)) ∙ get_or-take a xs i 0 l

  pub put_in : (i : ℕ) → a ≤ i → i - a < length ys → get_or (put_mid a k xs ys) i 0 ≡ get_or ys (i - a) 0
  put_in i h l = get_or-append_right (take a xs) (ys ++ post_of a k xs) a i 0 (length-take-le a xs la) h ∙ get_or_append_left ys (post_of a k xs) 0 (i - a) l

  pub put_past : (i : ℕ) → a + k ≤ i → length ys ≡ k → get_or (put_mid a k xs ys) i 0 ≡ get_or xs i 0
  put_past i h l =
      let e : i + 0 ≡ i = omega arith in
      ap (λ i. get_or (put_mid a k xs ys) i 0) (sym e) ∙ sym (get_or-drop i (put_mid a k xs ys) 0 0) ∙ ap (λ (zs : List ℕ). get_or zs 0 0) (drop-put_mid a k xs ys i h la l)
      ∙ get_or-drop i xs 0 0 ∙ ap (λ i. get_or xs i 0) e
