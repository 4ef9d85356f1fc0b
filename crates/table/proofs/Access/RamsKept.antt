-- Every call to a row leaves the rows' RAMs and IDs of bytes.
-- Assumes nothing.
use mathlib.Core.Path.{◌≡◌, ◌∙◌, ap}
use mathlib.Core.Bool.{Bool, true, false, ◌&&◌}
use mathlib.Core.List.{List}
use mathlib.Core.Logic.{⊎_elim}
use Prim.Native.Nat.{ℕ, ◌≤◌, ◌<◌}
use native.Mathlib.Omega.{arith}
use lib.Dec.{eqb}
use lib.ListN.{length}
use borrow.Author.Tests.{eqb-true, eqb-false}
use Rattle.std.proofs.lemmas.Bool.{cases_Bool}
use Rattle.bits.proofs.Words.Bools.{pick_of}
use Rattle.registers.specs.declared.regs.Regs.{Regs}
use Rattle.registers.specs.Registers.{hardware_reset}
use Rattle.registers.specs.Events.{burst}
use Rattle.registers.proofs.Values.SameCard.{same_burst, reset_id, write_id_byte}
use Rattle.card.specs.Row.{regs_of}
use Rattle.card.specs.Access.{row_after_read, row_after_write, row_after_reset}
use Rattle.card.proofs.Rows.Sizes.{SameSize, whole_registers}
use Rattle.card.proofs.Rows.Bytes.{size_put, regs_put}
use Rattle.card.proofs.Rows.WellFormed.{size_read, size_write}
use Rattle.card.proofs.Rows.Rams.{ram_put}
use Rattle.card.proofs.Rows.Touched.{same_row, same_written, ram_read, ram_write}
use Rattle.card.proofs.Pages.Packets.{Ram}
use Rattle.table.specs.Rows.{row_start, row_at, set_row}
use Rattle.table.specs.Network.{rows, LOST, turned, on_regs, regs_at, on_line_at, shape}
use Rattle.table.specs.Calls.{place_number, net_read_number, net_after_read, is_holder, settled, net_write_number, net_after_write, net_after_reset, timer_number, net_after_timer}
use Rattle.table.proofs.Rows.Starts.{frame_rows, frame_within}
use Rattle.table.proofs.Rows.WithRows.{row_whole, row_at_set_row, row_at_set_row_other, set_row_frame}
use Rattle.table.proofs.Rows.Networks.{row_at_turned, rows_turned}
use Rattle.table.proofs.Shaped.Shapes.{shape_room, shape_row_whole}
use Rattle.table.proofs.Shaped.Alike.{Rams}
use Rattle.table.proofs.Access.Placed.{row_there, read_placed, write_placed, timer_placed}

rams_turned : (net : List ℕ) (p h : ℕ) → Rams net → Rams (turned net p h)
rams_turned net p h b k l = rw (row_at_turned net p h k) (b k (omega (arith, rows_turned net p h)))

-- ---- row k of a network, well formed or not
module _ (net : List ℕ) (w : row_start net (rows net) ≤ length net) (b : Rams net) (k : ℕ) (l : k < rows net) where
  rams_set : (r : List ℕ) → SameSize (row_at net k) r → Ram r × ((regs_of r).id < 256) → Rams (set_row net k r)
  rams_set r e h j m =
      let lj : j < rows net = omega (arith, frame_rows (set_row_frame net (rows net) w k l r e)) in
      ⊎_elim (λ (t : eqb j k ≡ true). rw (eqb-true j k t, row_at_set_row net (rows net) w k l r e) h)
      (λ (t : eqb j k ≡ false). rw (row_at_set_row_other net (rows net) w k l r e j lj (eqb-false j k t)) (b j lj)) (cases_Bool (eqb j k))

  rams_burst : Rams (turned (set_row net k (on_regs burst (row_at net k))) LOST 0)
  rams_burst =
      let r = row_at net k in
      let g = burst (regs_at net k) in
      let i = ap (λ (x : Regs). x.id) (regs_put r g (whole_registers r (row_whole net (rows net) w k l))) ∙ (same_burst (regs_at net k)).id in
      rams_turned _ LOST 0 (rams_set (on_regs burst r) (size_put r g) (ram_put r (b k l).0 g, rw i (b k l).1))

  rams_settled : (was : Bool) → Rams (settled net k was)
  unfolding settled
  rams_settled was =
      pick_of Rams (on_line_at net k) (λ _. pick_of Rams was (λ _. b) (λ _. rams_burst))
      (λ _. pick_of Rams (was && is_holder net k) (λ _. rams_turned net LOST 0 b) (λ _. b))

-- ---- the calls
module _ (net : List ℕ) (s : shape net ≡ true) (b : Rams net) (k : ℕ) where
  abbrev r : List ℕ
  r = row_at net k

  there : place_number net k ≡ 0 → k < rows net
  there z = (row_there net k z).1

  settles : place_number net k ≡ 0 → (x : List ℕ) → SameSize r x → Ram x × ((regs_of x).id < 256) → Rams (settled (set_row net k x) k (on_line_at net k))
  settles z x e h =
      let w = shape_room net s in
      let f = set_row_frame net (rows net) w k (there z) x e in
      let n = frame_rows f in
      rams_settled (set_row net k x) (rw n (frame_within f w)) (rams_set net w b k (there z) x e h) k (rw n (there z)) (on_line_at net k)

  pub rams_read : (g : ℕ) → Rams (net_after_read net k g)
  unfolding net_after_read
  rams_read g =
      pick_of Rams (eqb (net_read_number net k g) 0)
      (λ z. let l = there (read_placed net k g (eqb-true _ _ z)) in
      rams_set net (shape_room net s) b k l (row_after_read r g) (size_read r g) (ram_read r (b k l).0 g, rw (same_row r (shape_row_whole net s k l) g).id (b k l).1))
      (λ _. b)

  pub rams_write : (g v : ℕ) → v < 256 → Rams (net_after_write net k g v)
  unfolding net_after_write
  rams_write g v h =
      pick_of Rams (eqb (net_write_number net k g v) 0)
      (λ z. let p = write_placed net k g v (eqb-true _ _ z) in
      let m = b k (there p) in
      settles p (row_after_write r g v) (size_write r g v)
      (ram_write r m.0 g v h, rw (same_written r (shape_row_whole net s k (there p)) g v).id (write_id_byte (regs_of r) g v m.1 h)))
      (λ _. b)

  pub rams_reset : Rams (net_after_reset net k)
  unfolding net_after_reset
  rams_reset =
      pick_of Rams (eqb (place_number net k) 0)
      (λ z. let p = eqb-true (place_number net k) 0 z in
      settles p (row_after_reset r) (size_put r hardware_reset)
      (ram_put r (b k (there p)).0 hardware_reset, rw (regs_put r hardware_reset (whole_registers r (shape_row_whole net s k (there p)))) reset_id))
      (λ _. b)

  pub rams_timer : Rams (net_after_timer net k)
  unfolding net_after_timer
  rams_timer =
      pick_of Rams (eqb (timer_number net k) 0)
      (λ z. rams_burst net (shape_room net s) b k (there (timer_placed net k (eqb-true _ _ z)))) (λ _. b)
