-- How long a row is: what its mark says, and a row that may stand in another's place. What is told of rows elsewhere rests on these laws alone.
-- Assumes nothing.
use mathlib.Core.Path.{◌≡◌, refl, sym, ◌∙◌}
use mathlib.Core.List.{List, ◌++◌}
use Prim.Native.Nat.{ℕ, ◌≤◌, ◌<◌}
use native.Mathlib.Omega.{arith}
use lib.ListN.{length, get_or, set, take, drop, length-set, get_or-append}
use lib.Seq.{take_at, drop_at, get_or-take, length-take-le, get_or-set_other}
use Rattle.card.specs.Row.{register_bytes, row_bytes, row_size, Whole}

-- ---- the registers, which begin with the mark, lie in their row
pub size_least : (r : List ℕ) → register_bytes ≤ row_size r
unfolding row_size
size_least r = omega arith

-- rows with one mark are of one length
pub size_marks : (r s : List ℕ) → get_or s 0 0 ≡ get_or r 0 0 → get_or s 1 0 ≡ get_or r 1 0 → row_size s ≡ row_size r
unfolding row_size
size_marks r s a b = refl

pub whole_registers : (r : List ℕ) → Whole r → register_bytes ≤ length r
whole_registers r w = omega (arith, size_least r)

-- ---- a whole row before other bytes
module _ (r z : List ℕ) (w : Whole r) where
  pub whole_size : row_size (r ++ z) ≡ length r
  whole_size =
      let l = whole_registers r w in
      size_marks r (r ++ z) (get_or-append r z 0 0 (omega arith)) (get_or-append r z 0 1 (omega arith)) ∙ sym w

  pub whole_first : take (row_size (r ++ z)) (r ++ z) ≡ r
  whole_first = take_at r z (row_size (r ++ z)) (sym whole_size)

  pub whole_rest : drop (row_size (r ++ z)) (r ++ z) ≡ z
  whole_rest = drop_at r z (row_size (r ++ z)) (sym whole_size)

-- the row that bytes begin with, where they are enough
pub first_whole : (z : List ℕ) → row_size z ≤ length z → Whole (take (row_size z) z)
first_whole z l =
    let m = size_least z in
    length-take-le (row_size z) z l
    ∙ sym (size_marks z (take (row_size z) z) (get_or-take (row_size z) z 0 0 (omega arith)) (get_or-take (row_size z) z 1 0 (omega arith)))

-- ---- the row s may stand where the row r stood: it is as long, and its mark says the length that r's says
pub record SameSize (r s : List ℕ) : Type 0 where
  pub long : length s ≡ length r
  pub mark : row_size s ≡ row_size r

pub size_same : (r : List ℕ) → SameSize r r
size_same r = record { long = refl; mark = refl }

pub size_then : {r s t : List ℕ} → SameSize r s → SameSize s t → SameSize r t
size_then a b = record { long = b.long ∙ a.long; mark = b.mark ∙ a.mark }

pub size_whole : {r s : List ℕ} → SameSize r s → Whole r → Whole s
size_whole a w = a.long ∙ w ∙ sym a.mark

-- the length and the mark's bytes are kept
pub size_of : (r s : List ℕ) → length s ≡ length r → ((x : ℕ) → x < 2 → get_or s x 0 ≡ get_or r x 0) → SameSize r s
size_of r s l e = record { long = l; mark = size_marks r s (e 0 (omega arith)) (e 1 (omega arith)) }

pub size_set : (r : List ℕ) (i v : ℕ) → 2 ≤ i → SameSize r (set r i v)
size_set r i v l = size_of r (set r i v) (length-set r i v) (λ x b. get_or-set_other r i x v 0 (λ e. omega arith))

-- ---- a card's row
pub whole_long : (r : List ℕ) → Whole r → length r ≡ row_bytes
unfolding row_size
whole_long r w = w
