-- A list laid over a part of another.
-- Assumes nothing.
use mathlib.Core.Path.{◌≡◌, refl, ◌∙◌, ap}
use mathlib.Core.List.{List, ◌++◌}
use Prim.Native.Nat.{ℕ, ◌+◌, ◌-◌, ◌≤◌, ◌<◌}
use native.Mathlib.Omega.{arith}
use lib.ListN.{length, get_or, take, drop, length-drop, length-append, get_or-append}
use lib.Seq.{length-take-le, take_at, drop_at, get_or-take, get_or-drop, get_or-append-add}
use Rattle.card.specs.Packets.{laid}

-- the length of a part that starts at a
part_length : (a n : ℕ) → a + n - a ≡ n
part_length a n = omega arith

-- what is cut off a list is within it
pub length_part : (a n : ℕ) (l : List ℕ) → a + n ≤ length l → length (take n (drop a l)) ≡ n
length_part a n l h = length-take-le n (drop a l) (rw length-drop (omega arith))

-- a list joined to another, past the first
past : (l m : List ℕ) (n i : ℕ) → length l ≡ n → n ≤ i → get_or (l ++ m) i 0 ≡ get_or m (i - n) 0
past l m n i e h =
    let f : i ≡ length l + (i - n) = omega arith in
    ap (λ (j : ℕ). get_or (l ++ m) j 0) f ∙ get_or-append-add l m (i - n) 0

module _ (a : ℕ) (ys xs : List ℕ) (h : a + length ys ≤ length xs) where
  before : length (take a xs) ≡ a
  before = length-take-le a xs (omega arith)

  pub length_laid : length (laid a ys xs) ≡ length xs
  length_laid = simp (length-append, length-drop) (omega (arith, before))

  pub laid_below : (i : ℕ) → i < a → get_or (laid a ys xs) i 0 ≡ get_or xs i 0
  laid_below i l = get_or-append (take a xs) _ 0 i (omega (arith, before)) ∙ get_or-take a xs i 0 l

  pub laid_within : (i : ℕ) → i < length ys → get_or (laid a ys xs) (a + i) 0 ≡ get_or ys i 0
  laid_within i l =
      past (take a xs) (ys ++ drop (length ys) (drop a xs)) a (a + i) before (omega arith)
      ∙ rw part_length (get_or-append ys (drop (length ys) (drop a xs)) 0 i l)

  pub laid_above : (i : ℕ) → a + length ys ≤ i → get_or (laid a ys xs) i 0 ≡ get_or xs i 0
  laid_above i l =
      let e : a + (length ys + (i - a - length ys)) ≡ i = omega arith in
      past (take a xs) (ys ++ drop (length ys) (drop a xs)) a i before (omega arith)
      ∙ past ys (drop (length ys) (drop a xs)) (length ys) (i - a) refl (omega arith)
      ∙ rw (get_or-drop, get_or-drop, e)

  pub laid_back : take (length ys) (drop a (laid a ys xs)) ≡ ys
  laid_back = rw (drop_at (take a xs) (ys ++ drop (length ys) (drop a xs)) a before) (take_at ys _ (length ys) refl)
