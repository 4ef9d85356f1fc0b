-- The walk over the marks, as the code goes: one more row, what the walk comes to, and the part that is lent for a row.
-- Assumes nothing.
use mathlib.Core.Path.{◌≡◌, refl, sym, ◌∙◌, ap}
use mathlib.Core.Bool.{false}
use mathlib.Core.List.{List}
use Prim.Native.Nat.{ℕ, suc, ◌+◌, ◌-◌, ◌≤◌, ◌<◌}
use native.Mathlib.Numerals.{add-one}
use native.Mathlib.Omega.{arith}
use lib.ListN.{length, take, drop, length-drop}
use lib.Seq.{length-take-le, take_all}
use borrow.Author.Tests.{ne_eqb}
use borrow.Rule.Slice.PartMut.{mid_of, put_mid, mid_len}
use Rattle.card.specs.Row.{register_bytes, row_size, Whole}
use Rattle.card.proofs.Rows.Sizes.{SameSize, whole_registers, first_whole}
use Rattle.table.specs.Rows.{row_start, row_at, set_row, rows_end}
use Rattle.table.proofs.Rows.Starts.{start_more, start_mono, frame_within}
use Rattle.table.proofs.Rows.WithRows.{set_row_frame}

-- row k lies whole in the bytes, from a to e
pub record Lies (net : List ℕ) (k a e : ℕ) : Type 0 where
  pub start : a ≡ row_start net k
  pub end : e ≡ row_start net (suc k)
  pub order : a ≤ e
  pub within : e ≤ length net

-- ---- the row that starts at a, as the code asks for its size and lends it
module _ (net : List ℕ) (a : ℕ) where
  pub rest_size : (s : ℕ) → s ≡ row_size (mid_of a (length net - a) net) → s ≡ row_size (drop a net)
  rest_size s e = e ∙ ap row_size (take_all (length net - a) (drop a net) (simp length-drop (omega arith)))

  module _ (e : ℕ) (p : (e ≡ a + row_size (drop a net)) × (e ≤ length net)) where
    pub row_here : mid_of a (e - a) net ≡ take (row_size (drop a net)) (drop a net)
    row_here = let m : e - a ≡ row_size (drop a net) = omega (arith, p.0) in rw m

    pub row_sized : (Whole (mid_of a (e - a) net)) × (register_bytes ≤ length (mid_of a (e - a) net)) × (a + length (mid_of a (e - a) net) ≤ length net)
    row_sized =
        let w : Whole (mid_of a (e - a) net) = rw row_here (first_whole (drop a net) (simp length-drop (omega (arith, p.0, p.1)))) in
        (w, whole_registers _ w, omega (arith, p.0, p.1, mid_len a e net p.1))

-- ---- one more row
module _ (net : List ℕ) (k a : ℕ) (p : a ≡ row_start net k) where
  walk_size : (s : ℕ) → s ≡ row_size (drop a net) → a + s ≡ row_start net (suc k)
  walk_size s d = rw (start_more, d, p)

  pub walk_next : (s : ℕ) → s ≡ row_size (drop a net) → a + s ≡ row_start net (k + 1)
  walk_next s d = rw add-one (walk_size s d)

  pub lies : (e : ℕ) → (e ≡ a + row_size (drop a net)) × (e ≤ length net) → Lies net k a e
  lies e d = record { start = p; end = d.0 ∙ walk_size (row_size (drop a net)) refl; order = omega arith; within = d.1 }

-- ---- a loop that reads the rows one after the other: row k of n, at a
module _ (net : List ℕ) (n : ℕ) (h : row_start net n ≤ length net) (k a : ℕ) (p : a ≡ row_start net k) (l : k < n) where
  pub walk_room : a + row_size (drop a net) ≤ length net
  walk_room = omega (arith, walk_size net k a p (row_size (drop a net)) refl, start_mono net (suc k) n l)

  module _ (r : List ℕ) (e : r ≡ take (row_size (drop a net)) (drop a net)) where
    pub walk_row : r ≡ row_at net k
    unfolding row_at
    walk_row = e ∙ rw p

    pub walk_on : a + length r ≡ row_start net (k + 1)
    walk_on = walk_next net k a p (length r) (ap length e ∙ length-take-le (row_size (drop a net)) (drop a net) (simp length-drop (omega (arith, walk_room))))

-- ---- a row as the code lends it, and the network with what comes back
module _ (net : List ℕ) (k a e : ℕ) (p : Lies net k a e) where
  size_is : e - a ≡ row_size (drop (row_start net k) net)
  size_is = omega (arith, p.start, p.end, start_more net k)

  pub mid_row : mid_of a (e - a) net ≡ row_at net k
  unfolding row_at
  mid_row = rw (size_is, p.start)

  put_row : (r : List ℕ) → put_mid a (e - a) net r ≡ set_row net k r
  unfolding set_row
  put_row r = rw (size_is, p.start)

  module _ (f : List ℕ → List ℕ) (r : List ℕ) (q : r ≡ f (mid_of a (e - a) net)) where
    pub row_done_lem : put_mid a (e - a) net r ≡ set_row net k (f (row_at net k))
    row_done_lem = put_row r ∙ ap (set_row net k) (q ∙ ap f mid_row)

    -- row k is still there, where f keeps the size of rows
    pub row_stays : ((s : List ℕ) → SameSize s (f s)) → row_start (put_mid a (e - a) net r) (suc k) ≤ length (put_mid a (e - a) net r)
    row_stays same =
        let h : row_start net (suc k) ≤ length net = omega (arith, p.end, p.within) in
        rw row_done_lem (frame_within (set_row_frame net (suc k) h k (omega arith) (f (row_at net k)) (same (row_at net k))) h)

-- ---- a row that is named by its number and lies in the bytes
module _ (net : List ℕ) (k a : ℕ) (e : a ≡ row_start net k) (h : row_start net (suc k) ≤ length net) where
  pub walked_room : a + row_size (drop a net) ≤ length net
  walked_room = rw (walk_size net k a e (row_size (drop a net)) refl) h

  pub walked_row : (r : List ℕ) → r ≡ take (row_size (drop a net)) (drop a net) → r ≡ row_at net k
  walked_row r p = walk_row net (suc k) h k a e (omega arith) r p

  pub walked_lies : (d : ℕ) → (d ≡ a + row_size (drop a net)) × (d ≤ length net) → Lies net k a d
  walked_lies = lies net k a e

-- ---- a row that does not: the bytes do not end where the rows end
pub ends_before : (net : List ℕ) (k n : ℕ) → k ≤ n → length net < row_start net k → false ≡ rows_end net n
ends_before net k n l b = sym (ne_eqb (length net) (row_start net n) (λ e. omega (arith, start_mono net k n l)))

-- ---- for the search: a row that is lent
pub ruleset lent = (walked_room, walked_row, row_sized)
