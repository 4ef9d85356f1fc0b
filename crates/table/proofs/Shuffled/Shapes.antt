-- A well-formed network in another order: it is well formed, the same rows are on line, and a row that is found by its ID, and the highest ID, are the same.
-- Assumes nothing.
use mathlib.Core.Path.{◌≡◌, sym, ◌∙◌, ap}
use mathlib.Core.Bool.{true, not}
use mathlib.Core.List.{List}
use Prim.Native.Nat.{ℕ, ◌≤◌, ◌<◌}
use native.Mathlib.Omega.{arith}
use lib.Dec.{eqb}
use lib.ListN.{length}
use borrow.Author.Tests.{eq-eqb, ne_eqb}
use Rattle.bits.proofs.Words.Bools.{and_left}
use Rattle.card.specs.Row.{regs_of, well_formed}
use Rattle.table.specs.Folds.{some}
use Rattle.table.specs.Rows.{row_start}
use Rattle.table.specs.Network.{rows, phase, holder, LOST, regs_at, on_line_at, is_node, node_of, top_id, shape}
use Rattle.table.specs.Shuffle.{Shuffle, shuffled}
use Rattle.table.proofs.Folds.{seek_same, some_same}
use Rattle.table.proofs.Rows.Headers.{header_kept}
use Rattle.table.proofs.Online.Nodes.{other, node_online, node_id}
use Rattle.table.proofs.Online.Highest.{top_above, top_least}
use Rattle.table.proofs.Shaped.Shapes.{shape_ends, shape_header, shape_row, shape_ids, shape_phase, shape_holder, shape_of}
use Rattle.table.proofs.Shuffled.Renaming.{to_within, from_within, to_from}
use Rattle.table.proofs.Shuffled.Searches.{some_shuffled, seek_shuffled}
use Rattle.table.proofs.Shuffled.Rows.{shuffled_ends, shuffled_from, shuffled_header, shuffled_rows, shuffled_phase, shuffled_holder}

-- ---- the rows on line, of a network of n rows and nothing after them
module _ {n : ℕ} (q : Shuffle n) (net : List ℕ) (ends : length net ≡ row_start net n) where
  online_from : (j : ℕ) → on_line_at (shuffled q net) j ≡ on_line_at net (q.from j)
  unfolding on_line_at
  online_from j = rw (shuffled_from q net ends j)

  node_from : (i j : ℕ) → is_node (shuffled q net) i j ≡ is_node net i (q.from j)
  unfolding is_node
  node_from i j = rw (online_from j, shuffled_from q net ends j)

  pub online_shuffled : (k : ℕ) → on_line_at (shuffled q net) (q.to k) ≡ on_line_at net k
  online_shuffled k = online_from (q.to k) ∙ ap (on_line_at net) (q.undone k)

  -- whether an ID is on line
  pub id_shuffled : (i : ℕ) → some (is_node (shuffled q net) i) n ≡ some (is_node net i) n
  id_shuffled i = some_same (is_node (shuffled q net) i) _ n (λ j _. node_from i j) ∙ some_shuffled q (is_node net i)

module _ {n : ℕ} (q : Shuffle n) (net : List ℕ) (s : shape net ≡ true) (c : rows net ≡ n) where
  pub ends_at : length net ≡ row_start net n
  ends_at = rw (← c) (shape_ends net s)

  low : (k : ℕ) → k < n → k < rows net
  low k l = omega (arith, c)

  id_from : (j : ℕ) → (regs_at (shuffled q net) j).id ≡ (regs_at net (q.from j)).id
  id_from j = ap (λ (r : List ℕ). (regs_of r).id) (shuffled_from q net ends_at j)

  -- ---- it is well formed
  pub shape_shuffled : shape (shuffled q net) ≡ true
  shape_shuffled =
      let m : rows (shuffled q net) ≡ rows net = shuffled_rows q net ends_at in
      let p = shuffled_phase q net ends_at in
      let h = shuffled_holder q net ends_at in
      let in-n : (j : ℕ) → j < rows (shuffled q net) → q.from j < rows net = λ j l. low (q.from j) (from_within q j (omega (arith, m, c))) in
      let on = online_from q net ends_at in
      shape_of (shuffled q net)
      (header_kept net (shuffled q net) (shape_header net s) (rw c (shuffled_ends q net ends_at)) (shuffled_header q net ends_at) (omega (arith, p, shape_phase net s)))
      (λ j l. ap well_formed (shuffled_from q net ends_at j) ∙ shape_row net s (q.from j) (in-n j l))
      (λ i j li lj a b e. let z = shape_ids net s (q.from i) (q.from j) (in-n i li) (in-n j lj) (sym (on i) ∙ a) (sym (on j) ∙ b) (sym (id_from i) ∙ e ∙ id_from j) in
      sym (q.redone i) ∙ ap q.to z ∙ q.redone j)
      (λ e. h ∙ rw (eq-eqb (phase net) LOST (sym p ∙ e)))
      (λ e. let d = shape_holder net s (λ z. e (p ∙ z)) in
      let k : holder (shuffled q net) ≡ q.to (holder net) = h ∙ rw (ne_eqb (phase net) LOST (λ z. e (p ∙ z))) in (
        omega (arith, k, to_within q (holder net) (omega (arith, d.0, c)), m, c),
        ap (on_line_at (shuffled q net)) k ∙ online_shuffled q net ends_at (holder net) ∙ d.1,
      ))

  -- ---- the row that a search for an ID finds, and the highest ID
  pub node_shuffled : (i x : ℕ) → node_of (shuffled q net) i (q.to x) n ≡ q.to (node_of net i x n)
  unfolding node_of
  node_shuffled i x =
      seek_same (other (shuffled q net) i (q.to x)) _ n (λ j _. rw (node_from q net ends_at i j, to_from q j x))
      ∙ seek_shuffled q (other net i x) (λ j k lj lk a b.
      let u = and_left (is_node net i j) (not (eqb j x)) a in
      let v = and_left (is_node net i k) (not (eqb k x)) b in
      shape_ids net s j k (low j lj) (low k lk) (node_online net j i u) (node_online net k i v) (node_id net j i u ∙ sym (node_id net k i v)))

  pub top_shuffled : top_id (shuffled q net) n ≡ top_id net n
  top_shuffled =
      let up : top_id net n ≤ top_id (shuffled q net) n = top_least net n (top_id (shuffled q net) n)
      (λ k l o. let e : (regs_at (shuffled q net) (q.to k)).id ≡ (regs_at net k).id = id_from (q.to k) ∙ ap (λ (x : ℕ). (regs_at net x).id) (q.undone k) in
      omega (arith, e, top_above (shuffled q net) n (q.to k) (to_within q k l) (online_shuffled q net ends_at k ∙ o))) in
      let down : top_id (shuffled q net) n ≤ top_id net n = top_least (shuffled q net) n (top_id net n)
      (λ j l o. omega (arith, id_from j, top_above net n (q.from j) (from_within q j l) (sym (online_from q net ends_at j) ∙ o))) in
      omega (arith, up, down)
