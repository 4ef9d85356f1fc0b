-- A row that a call leaves is settled, and the network keeps SHAPE: it bursts, it goes off line, or nothing more is done.
-- Assumes nothing.
use mathlib.Core.Path.{◌≡◌, sym, ◌∙◌, ap}
use mathlib.Core.Bool.{true, false, ◌&&◌}
use mathlib.Core.List.{List}
use Prim.Native.Nat.{ℕ, ◌<◌}
use native.Mathlib.Omega.{arith}
use lib.Dec.{lit<}
use lib.ListN.{get_or}
use borrow.Author.Tests.{eq-eqb, ne_eqb}
use Rattle.card.specs.Row.{regs_of, well_formed}
use Rattle.registers.specs.Fit.{on_line}
use Rattle.registers.specs.Events.{burst}
use Rattle.bits.proofs.Words.Bools.{pick_of}
use Rattle.card.proofs.Rows.Sizes.{SameSize}
use Rattle.card.proofs.Rows.Bytes.{size_put}
use Rattle.table.specs.Rows.{header_bytes, row_at, set_row}
use Rattle.table.specs.Network.{rows, phase, holder, LOST, turned, on_regs, on_line_at, is_node, shape}
use Rattle.table.specs.Calls.{is_holder, settled}
use Rattle.table.proofs.Folds.{clash}
use Rattle.table.proofs.Rows.Starts.{start_mono, frame_byte}
use Rattle.table.proofs.Rows.WithRows.{row_at_set_row, set_row_frame}
use Rattle.table.proofs.Rows.Networks.{row_at_turned, phase_turned, rows_turned, turned_set_row}
use Rattle.table.proofs.Shaped.Shapes.{shape_least, shape_room, shape_row, shape_row_whole, shape_holder}
use Rattle.table.proofs.Shaped.Kept.{shape_put, shape_change, turned_lost}
use Rattle.table.proofs.Shaped.KeptRows.{kept_burst}

-- ---- row k bursts, and the line is lost
pub shape_burst : (net : List ℕ) → shape net ≡ true → (k : ℕ) → k < rows net → shape (turned (set_row net k (on_regs burst (row_at net k))) LOST 0) ≡ true
shape_burst net s k l =
    let w = shape_row_whole net s k l in
    turned_lost _ (shape_put net k (on_regs burst (row_at net k)) s l (size_put (row_at net k) _) (kept_burst (row_at net k) w (shape_row net s k l)))

module _ (net : List ℕ) (s : shape net ≡ true) (k : ℕ) where
  -- ---- the row r in the place of row k, settled: no other on-line row has its ID
  module _ (l : k < rows net) (r : List ℕ) (e : SameSize (row_at net k) r) (w : well_formed r ≡ true)
      (d : on_line (regs_of r) ≡ true → (j : ℕ) → j < rows net → (j ≡ k → ⊥) → is_node net (regs_of r).id j ≡ false) where
    abbrev new : List ℕ
    new = set_row net k r

    here : row_at new k ≡ r
    here = row_at_set_row net (rows net) (shape_room net s) k l r e

    headed : (x : ℕ) → x < header_bytes → get_or new x 0 ≡ get_or net x 0
    headed = frame_byte (set_row_frame net (rows net) (shape_room net s) k l r e)

    on_keeps : on_line (regs_of r) ≡ true → shape new ≡ true
    on_keeps t = shape_change net k r s l e w d (λ p h. t)

    off_keeps : on_line (regs_of r) ≡ false → (on_line_at net k && is_holder new k) ≡ false → shape new ≡ true
    off_keeps t u =
        shape_change net k r s l e w (λ o. absurd (clash o t))
        (λ p h. absurd (clash (held p h) u))
      where
        held : (phase net ≡ LOST → ⊥) → holder net ≡ k → (on_line_at net k && is_holder new k) ≡ true
        held p h =
            rw (headed 4 (lit< tt), headed 5 (lit< tt), ne_eqb _ _ p, eq-eqb _ _ h, ap (on_line_at net) (sym h) ∙ (shape_holder net s p).1)

    lost_keeps : on_line (regs_of r) ≡ false → shape (turned new LOST 0) ≡ true
    lost_keeps t =
        let m : rows (turned net LOST 0) ≡ rows net = rows_turned net LOST 0 in
        rw (turned_set_row net k r LOST 0 (omega (arith, shape_room net s, start_mono net k (rows net) (omega arith))))
        (shape_change (turned net LOST 0) k r (turned_lost net s) (omega arith) (rw (row_at_turned net LOST 0 k) e) w (λ o. absurd (clash o t))
        (λ p. absurd (p (phase_turned net LOST 0 (shape_least net s)))))

    pub shape_settled : shape (settled new k (on_line_at net k)) ≡ true
    unfolding settled on_line_at
    shape_settled =
        pick_of (λ (x : List ℕ). shape x ≡ true) (on_line_at new k)
        (λ t. let o : on_line (regs_of r) ≡ true = rw here at t in
        pick_of (λ (x : List ℕ). shape x ≡ true) (on_line_at net k) (λ _. on_keeps o) (λ _. shape_burst new (on_keeps o) k (rw (headed 3 (lit< tt)) l)))
        (λ t. let o : on_line (regs_of r) ≡ false = rw here at t in
        pick_of (λ (x : List ℕ). shape x ≡ true) (on_line_at net k && is_holder new k) (λ _. lost_keeps o) (λ u. off_keeps o u))
