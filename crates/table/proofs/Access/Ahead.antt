-- C-13: what a read of register 4 gives of a network, and the fetched byte of the row after each call to it.
-- Assumes nothing.
use mathlib.Core.Path.{◌≡◌, refl, sym, ◌∙◌}
use mathlib.Core.Bool.{Bool, true, false, ◌&&◌, false≢true}
use mathlib.Core.List.{List}
use Prim.Native.Nat.{ℕ, ◌<◌}
use mathlib.Core.Logic.{⊎_elim}
use lib.Dec.{eqb, ltb}
use lib.ListN.{get_or}
use borrow.Author.Tests.{eq-eqb, ltb-true}
use Rattle.registers.specs.declared.regs.Regs.{Regs}
use Rattle.told.specs.Numbers.{DUPLICATE}
use Rattle.registers.specs.Fit.{on_line}
use Rattle.registers.specs.Layout.{at_fetched}
use Rattle.registers.specs.Registers.{read_fetches, after_write, hardware_reset}
use Rattle.registers.proofs.Values.SameCard.{SameCard, on_line_same, same_write}
use Rattle.registers.proofs.Values.Ahead.{load_taken}
use Rattle.std.proofs.lemmas.Bool.{cases_Bool}
use Rattle.bits.proofs.Words.Bools.{pick_of}
use Rattle.told.proofs.Told.Smallest.{refuse_passed}
use Rattle.card.specs.Row.{Whole, regs_of}
use Rattle.card.specs.Access.{Current, row_after_read, row_after_write, row_after_reset}
use Rattle.card.proofs.Rows.Sizes.{SameSize}
use Rattle.card.proofs.Rows.Bytes.{size_put}
use Rattle.card.proofs.Rows.WellFormed.{size_read, size_write}
use Rattle.card.proofs.Rows.Touched.{on_line_written}
use Rattle.card.proofs.Rows.Ahead.{read_fetched, load_ahead, read_ahead, read_again, reset_zero}
use Rattle.table.specs.Rows.{row_at, set_row}
use Rattle.table.specs.Network.{rows, LOST, regs_at, on_line_at, node_of, shape}
use Rattle.table.specs.Calls.{place_number, net_reading, net_read_number, net_after_read, is_holder, settled, duplicate, net_write_number, net_after_write, net_after_reset}
use Rattle.table.proofs.Rows.WithRows.{row_at_set_row}
use Rattle.table.proofs.Rows.Starts.{set_row_same}
use Rattle.table.proofs.Rows.Networks.{row_at_turned}
use Rattle.table.proofs.Online.Nodes.{node_online, node_id, node_of_found}
use Rattle.table.proofs.Shaped.Shapes.{shape_room, shape_row_whole, shape_ids}
use Rattle.table.proofs.Shaped.KeptRows.{reset_off}
use Rattle.table.proofs.Access.Settled.{write_asked}

-- a row that does not come on line has the bytes that it was given
settled_row : (net : List ℕ) (k : ℕ) (was : Bool) → (on_line_at net k ≡ true → was ≡ true) → row_at (settled net k was) k ≡ row_at net k
unfolding settled
settled_row net k was h =
    let P : List ℕ → Type 0 = λ x. row_at x k ≡ row_at net k in
    pick_of P (on_line_at net k) (λ t. rw (h t)) (λ _. pick_of P (was && is_holder net k) (λ _. row_at_turned net LOST 0 k) (λ _. refl))

module _ (net : List ℕ) (s : shape net ≡ true) (k : ℕ) (l : k < rows net) where
  abbrev row : List ℕ
  row = row_at net k

  whole : Whole row
  whole = shape_row_whole net s k l

  there : (r : List ℕ) → SameSize row r → row_at (set_row net k r) k ≡ r
  there = row_at_set_row net (rows net) (shape_room net s) k l

  -- ---- reading
  pub reading_fetched : (net_reading net k 4).number ≡ 0 → (net_reading net k 4).value ≡ get_or row at_fetched 0
  unfolding net_reading
  reading_fetched z = rw (eq-eqb _ _ z) (read_fetched row)

  pub read_on : (net_reading net k 4).number ≡ 0 → read_fetches (regs_at net k) 4 ≡ true → Current (row_at (net_after_read net k 4) k)
  unfolding net_reading net_after_read
  read_on z t = rw (eq-eqb _ _ z, there (row_after_read row 4) (size_read row 4)) (read_ahead row whole 4 t)

  pub reads_again : read_fetches (regs_at net k) 4 ≡ false → net_after_read net k 4 ≡ net
  unfolding net_after_read
  reads_again n = pick_of (λ (x : List ℕ). x ≡ net) (eqb (net_read_number net k 4) 0) (λ _. rw (read_again row whole n) (set_row_same net k)) (λ _. refl)

  -- ---- a row that is given other bytes and does not come on line
  stands : (r : List ℕ) → SameSize row r → (on_line (regs_of r) ≡ true → on_line_at net k ≡ true) → row_at (settled (set_row net k r) k (on_line_at net k)) k ≡ r
  unfolding on_line_at
  stands r e h = settled_row (set_row net k r) k (on_line (regs_of row)) (λ t. h (rw (there r e) at t)) ∙ there r e

  -- ---- a load: it is not refused, since the row stays on line, or off line, with its ID
  module _ (v : ℕ) where
    abbrev h : Regs
    h = after_write (regs_of row) 3 v

    same : SameCard (regs_of row) h
    same = same_write (regs_of row) 3 v refl refl

    stays : on_line h ≡ on_line_at net k
    unfolding on_line_at
    stays = on_line_same (regs_of row) h same.id same.configuration

    single : duplicate net k 3 v ≡ false
    unfolding duplicate
    single =
        let f = node_of net h.id k (rows net) in
        ⊎_elim (λ (t : on_line h ≡ true). rw t (⊎_elim
        (λ (u : ltb f (rows net) ≡ true). let b = ltb-true f (rows net) u in
        let q = node_of_found net h.id k (rows net) b in
        absurd (q.1 (shape_ids net s f k b l (node_online net f _ q.0) (sym stays ∙ t) (node_id net f _ q.0 ∙ same.id))))
        (λ (u : ltb f (rows net) ≡ false). u) (cases_Bool (ltb f (rows net)))))
        (λ (t : on_line h ≡ false). rw t) (cases_Bool (on_line h))

    pub load_unrefused : net_write_number net k 3 v ≡ 0
    load_unrefused = sym (write_asked net k s l 3 v (regs_at net k) refl 0 (sym (load_taken (regs_at net k) v)) false (sym single) 0 (sym (refuse_passed 0 DUPLICATE false refl)))

    pub loads : Current (row_at (net_after_write net k 3 v) k)
    unfolding net_after_write
    loads =
        rw (eq-eqb _ _ load_unrefused, stands (row_after_write row 3 v) (size_write row 3 v) (λ t. sym stays ∙ sym (on_line_written row whole 3 v) ∙ t)) (load_ahead row whole v)

  pub resets : place_number net k ≡ 0 → get_or (row_at (net_after_reset net k) k) at_fetched 0 ≡ 0
  unfolding net_after_reset
  resets z =
      rw (eq-eqb _ _ z, stands (row_after_reset row) (size_put row hardware_reset) (λ t. absurd (false≢true (sym (reset_off row whole) ∙ t)))) (reset_zero row whole)
