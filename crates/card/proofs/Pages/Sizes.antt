-- The sizes of a packet's parts by its shape, and that a page of a row ends within the row.
-- Assumes nothing.
use mathlib.Core.Path.{◌≡◌, refl}
use mathlib.Core.Bool.{Bool, true, false, ◌&&◌}
use mathlib.Core.List.{List}
use Prim.Native.Nat.{ℕ, ◌+◌, ◌≤◌, ◌<◌}
use native.Mathlib.Omega.{arith}
use lib.Dec.{eqb, leb}
use lib.ListN.{length, get_or}
use Rattle.card.specs.declared.packets.Shape.{Shape}
use Rattle.card.specs.declared.packets.Shape.TheVariants.{Malformed, Short, Long}
use Rattle.bits.specs.Words.{pick}
use Rattle.card.specs.Row.{Whole}
use Rattle.card.specs.Packets.{shape_of, data_bytes, data_at, head_bytes, page_bytes, page_of, page_at, page_shape, malformed}
use Rattle.card.proofs.Pages.Places.{page_room}

-- the data end where the page does
pub data_end : (s : Shape) → data_at s < 256 → data_at s + data_bytes s ≡ page_bytes s
data_end Malformed h = refl
data_end (Short c) h = omega arith
data_end (Long c) h = omega arith

pub head_most : (s : Shape) → head_bytes s ≤ page_bytes s
head_most Malformed = omega arith
head_most (Short c) = omega arith
head_most (Long c) = omega arith

pub page_most : (s : Shape) → page_bytes s ≤ 512
page_most Malformed = omega arith
page_most (Short c) = omega arith
page_most (Long c) = omega arith

-- a page is of 512 bytes only if it may be long
long_most : (a b : ℕ) (l : Bool) → page_bytes (shape_of a b l) ≤ pick l 512 256
unfolding shape_of
long_most a b l = split (leb 3 a) (eqb a 0) (leb 4 b) l
  where
    split : (t u v l : Bool) → page_bytes (pick t (Short a) (pick (u && l && v) (Long b) Malformed)) ≤ pick l 512 256
    split true u v true = omega arith
    split true u v false = omega arith
    split false false v true = omega arith
    split false false v false = omega arith
    split false true true true = omega arith
    split false true false true = omega arith
    split false true v false = omega arith

-- COUNT is a byte
pub count_byte : (a b : ℕ) (l : Bool) → a < 256 → b < 256 → data_at (shape_of a b l) < 256
unfolding shape_of
count_byte a b l h k = split (leb 3 a) (eqb a 0 && l && leb 4 b)
  where
    split : (t u : Bool) → data_at (pick t (Short a) (pick u (Long b) Malformed)) < 256
    split true u = h
    split false true = k
    split false false = omega arith

module _ (r : List ℕ) (p : ℕ) (w : Whole r) (h : p < 4) (s : Shape) (e : s ≡ page_shape r p) where
  pub page_fits : page_at r p + page_bytes s ≤ length r
  unfolding page_shape
  page_fits = rw e (omega (arith, page_room r p w h, long_most (get_or r (page_at r p + 2) 0) (get_or r (page_at r p + 3) 0) (page_of r p).long))

  module _ (b : (i : ℕ) → get_or r i 0 < 256) where
    pub page_count : data_at s < 256
    unfolding page_shape
    page_count = rw e (count_byte _ _ _ (b (page_at r p + 2)) (b (page_at r p + 3)))

    pub data_fits : page_at r p + (data_at s + data_bytes s) ≤ length r
    data_fits = omega (arith, page_fits, data_end s page_count)

pub head_least : (s : Shape) → malformed s ≡ false → 2 < head_bytes s
head_least Malformed m = absurd (let z : ◌≡◌ {A = ℕ} 0 1 = cc in omega arith)
head_least (Short c) m = omega arith
head_least (Long c) m = omega arith
