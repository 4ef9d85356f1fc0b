-- In LOST, a write that the card of an off-line row does not refuse: the network does not refuse it either, and what it leaves.
-- Assumes nothing.
use mathlib.Core.Path.{◌≡◌, refl, sym, ◌∙◌, ap}
use mathlib.Core.Bool.{true, false}
use mathlib.Core.List.{List}
use mathlib.Core.Logic.{⊎_elim}
use Prim.Native.Nat.{ℕ, ◌≤◌, ◌<◌}
use native.Mathlib.Omega.{arith}
use lib.Dec.{eqb}
use lib.ListN.{length}
use borrow.Author.Tests.{eqb-false, le-ltb}
use Rattle.registers.specs.declared.regs.Regs.{Regs}
use Rattle.told.proofs.Told.Smallest.{refuse_passed}
use Rattle.card.specs.Row.{regs_of}
use Rattle.registers.specs.Fit.{on_line}
use Rattle.registers.specs.Registers.{write_fetches, after_write}
use Rattle.registers.specs.Refusals.{write_number}
use Rattle.card.specs.Access.{row_after_write}
use Rattle.registers.specs.Events.{burst}
use Rattle.std.proofs.lemmas.Bool.{cases_Bool}
use Rattle.std.proofs.Math.Bool.{and-false}
use Rattle.card.proofs.Rows.Sizes.{SameSize, whole_registers}
use Rattle.card.proofs.Rows.Bytes.{regs_put, size_put}
use Rattle.card.proofs.Rows.WellFormed.{size_write}
use Rattle.card.proofs.Rows.Touched.{regs_unfetched}
use Rattle.told.specs.Numbers.{DUPLICATE}
use Rattle.table.specs.Rows.{row_start, row_at, set_row}
use Rattle.table.specs.Network.{rows, phase, LOST, on_regs, regs_at, on_line_at, is_node, node_of, shape}
use Rattle.table.specs.Calls.{settled, duplicate, net_write_number, net_after_write}
use Rattle.table.proofs.Folds.{seek_not}
use Rattle.table.proofs.Rows.Starts.{frame_within}
use Rattle.table.proofs.Rows.WithRows.{row_whole, row_at_set_row, set_row_frame}
use Rattle.table.proofs.Rows.Networks.{row_at_turned}
use Rattle.table.proofs.Online.Nodes.{other, node_same}
use Rattle.table.proofs.Shaped.Shapes.{shape_room, shape_row_whole}
use Rattle.table.proofs.Access.Settled.{write_asked}
use Rattle.table.proofs.Access.ShapeCalls.{shape_write}
use Rattle.table.proofs.Access.Beside.{beside_count, write_beside}

-- ---- a row k that is off line, in LOST: what the network `new` has in its place, and that all else is the same
pub record Written (net new : List ℕ) (k : ℕ) (g : Regs) : Type 0 where
  pub shaped : shape new ≡ true
  pub lost : phase new ≡ LOST
  pub count : rows new ≡ rows net
  pub regs : regs_at new k ≡ g
  pub others : (j : ℕ) → j < rows net → (j ≡ k → ⊥) → row_at new j ≡ row_at net j

pub written_same : (net : List ℕ) → shape net ≡ true → phase net ≡ LOST → (k : ℕ) → Written net net k (regs_at net k)
written_same net s p k = record { shaped = s; lost = p; count = refl; regs = refl; others = λ j l n. refl }

node_of_none : (net : List ℕ) (i x n : ℕ) → ((j : ℕ) → j < n → (j ≡ x → ⊥) → is_node net i j ≡ false) → node_of net i x n ≡ n
unfolding node_of
node_of_none net i x n e = seek_not (other net i x) n each
  where
    each : (j : ℕ) → j < n → other net i x j ≡ false
    each j l =
        ⊎_elim (λ (t : eqb j x ≡ true). rw t (and-false (is_node net i j)))
        (λ (t : eqb j x ≡ false). rw (e j l (eqb-false j x t))) (cases_Bool (eqb j x))

-- `net` is what writes to row k of `old` have left, with the registers g; the next does not fetch
module _ (old net : List ℕ) (k : ℕ) (g : Regs) (w : Written old net k g) (l : k < rows old) (off : on_line g ≡ false) (r v : ℕ)
    (z : write_number g r v ≡ 0) (u : write_fetches r ≡ false) where
  abbrev new : List ℕ
  new = net_after_write net k r v

  abbrev h : Regs
  h = after_write g r v

  low : k < rows net
  low = omega (arith, w.count)

  was : on_line_at net k ≡ false
  unfolding on_line_at
  was = ap on_line w.regs ∙ off

  written : (x : Regs) → regs_at new k ≡ x → Written old new k x
  written x e =
      let b = write_beside net w.shaped k low r v in record {
        shaped = shape_write net w.shaped k r v;
        lost = b.lost w.lost;
        count = beside_count b ∙ w.count;
        regs = e;
        others = λ j lj n. b.others j n (omega (arith, w.count)) ∙ w.others j lj n;
      }

  module _ (d : duplicate net k r v ≡ false) where
    taken : net_write_number net k r v ≡ 0
    taken = sym (write_asked net k w.shaped low r v g (sym w.regs) 0 (sym z) false (sym d) 0 (sym (refuse_passed 0 DUPLICATE false refl)))

    abbrev put : List ℕ
    put = set_row net k (row_after_write (row_at net k) r v)

    after : new ≡ settled put k false
    unfolding net_after_write
    after = rw (taken, was)

    size : SameSize (row_at net k) (row_after_write (row_at net k) r v)
    size = size_write (row_at net k) r v

    inside : row_start net (rows net) ≤ length net
    inside = shape_room net w.shaped

    here : regs_at put k ≡ h
    here =
        ap regs_of (row_at_set_row net (rows net) inside k low (row_after_write (row_at net k) r v) size)
        ∙ regs_unfetched (row_at net k) (shape_row_whole net w.shaped k low) r v u
        ∙ ap (λ (x : Regs). after_write x r v) w.regs

    stays : on_line h ≡ false → regs_at new k ≡ h
    unfolding settled on_line_at
    stays q = rw (after, ap on_line here ∙ q) here

    joins : on_line h ≡ true → regs_at new k ≡ burst h
    unfolding settled on_line_at
    joins q =
        let f : row_start put (rows net) ≤ length put = frame_within (set_row_frame net (rows net) inside k low _ size) inside in
        rw (after, ap on_line here ∙ q, row_at_turned, row_at_set_row put (rows net) f k low (on_regs burst (row_at put k)) (size_put (row_at put k) (burst (regs_at put k))))
        (regs_put (row_at put k) (burst (regs_at put k)) (whole_registers (row_at put k) (row_whole put (rows net) f k low)) ∙ ap burst here)

  -- it stays off line
  pub write_stays : on_line h ≡ false → (net_write_number net k r v ≡ 0) × Written old new k h
  unfolding duplicate
  write_stays q = let d : duplicate net k r v ≡ false = rw (w.regs, q) in (taken d, written h (stays d q))

  -- it comes on line, with an ID that no other on-line row has
  pub write_joins : on_line h ≡ true → ((j : ℕ) → j < rows old → (j ≡ k → ⊥) → is_node old h.id j ≡ false)
      → (net_write_number net k r v ≡ 0) × Written old new k (burst h)
  unfolding duplicate
  write_joins q e =
      let n : node_of net h.id k (rows net) ≡ rows net
      = node_of_none net h.id k (rows net) (λ j lj ne. node_same old net j (w.others j (omega (arith, w.count)) ne) h.id ∙ e j (omega (arith, w.count)) ne) in
      let d : duplicate net k r v ≡ false = rw (w.regs, q, n, le-ltb (rows net) (rows net) (omega arith)) in
      (taken d, written (burst h) (joins d q))
