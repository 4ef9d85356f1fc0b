-- A read, a write or a reset that leaves the nodes on line leaves the token: the phase, the holder, and each node's NID.
-- Assumes nothing.
use mathlib.Core.Path.{◌≡◌, refl, ◌∙◌, ap}
use mathlib.Core.Bool.{Bool, true, ◌&&◌}
use mathlib.Core.List.{List}
use Prim.Native.Nat.{ℕ, suc, ◌≤◌, ◌<◌}
use native.Mathlib.Omega.{arith}
use lib.Dec.{eqb}
use lib.ListN.{length}
use borrow.Author.Tests.{eqb-true}
use Rattle.card.specs.Row.{regs_of}
use Rattle.registers.specs.Fit.{on_line}
use Rattle.registers.specs.Registers.{hardware_reset}
use Rattle.card.specs.Access.{row_after_read, row_after_write, row_after_reset}
use Rattle.registers.specs.Events.{burst}
use Rattle.bits.proofs.Words.Bools.{and_left, pick_of}
use Rattle.card.proofs.Rows.Sizes.{SameSize, whole_registers}
use Rattle.card.proofs.Rows.Bytes.{size_put, regs_put}
use Rattle.registers.proofs.Values.SameCard.{on_line_same, same_burst}
use Rattle.card.proofs.Rows.WellFormed.{size_read, size_write}
use Rattle.registers.proofs.Values.SameCard.{write_nid}
use Rattle.card.proofs.Rows.Touched.{same_row, same_written, ram_read}
use Rattle.table.specs.Rows.{row_start, row_at, set_row}
use Rattle.table.specs.Network.{rows, LOST, turned, on_regs, regs_at, on_line_at, shape, SameNodes}
use Rattle.table.specs.Calls.{place_number, net_read_number, net_after_read, is_holder, settled, net_write_number, net_after_write, net_after_reset}
use Rattle.table.proofs.Folds.{clash}
use Rattle.table.proofs.Rows.Starts.{frame_within}
use Rattle.table.proofs.Rows.WithRows.{row_whole, row_at_set_row, set_row_frame}
use Rattle.table.proofs.Rows.Networks.{row_at_turned}
use Rattle.table.proofs.Online.Nodes.{online_same}
use Rattle.table.proofs.Shaped.Shapes.{shape_within, shape_row, shape_row_whole}
use Rattle.table.proofs.Shaped.Kept.{became_put}
use Rattle.table.proofs.Shaped.Became.{still_same}
use Rattle.table.proofs.Shaped.Alike.{Rams}
use Rattle.table.proofs.Access.Placed.{read_placed, write_placed, row_there}
use Rattle.table.proofs.Shaped.KeptRows.{kept_read, reset_off}
use Rattle.table.proofs.Access.ShapeCalls.{shape_write, shape_reset}
use Rattle.table.proofs.Access.RamsKept.{rams_write, rams_reset}
use Rattle.table.proofs.Online.SameNodes.{SameNid, calm_still, calm_rows}
pub use Rattle.table.proofs.Online.SameNodes.{same_nodes_then, alike_nodes, Calm, calm_same}

-- ---- a row that is on line as it was before the call has nothing to settle
module _ (net : List ℕ) (k : ℕ) (h : row_start net (suc k) ≤ length net) where
  bursts_online : on_line_at (turned (set_row net k (on_regs burst (row_at net k))) LOST 0) k ≡ on_line_at net k
  unfolding on_line_at
  bursts_online =
      let w = row_whole net (suc k) h k (omega arith) in
      let g = regs_at net k in
      let r = on_regs burst (row_at net k) in
      ap (λ (x : List ℕ). on_line (regs_of x)) (row_at_turned (set_row net k r) LOST 0 k ∙ row_at_set_row net (suc k) h k (omega arith) r (size_put (row_at net k) _))
      ∙ ap on_line (regs_put (row_at net k) (burst g) (whole_registers (row_at net k) w)) ∙ on_line_same g (burst g) (same_burst g).id (same_burst g).configuration

  settled_none : (was : Bool) → on_line_at (settled net k was) k ≡ was → settled net k was ≡ net
  unfolding settled
  settled_none was =
      let P : List ℕ → Type 0 = λ x. on_line_at x k ≡ was → x ≡ net in
      pick_of P (on_line_at net k) (λ t. pick_of P was (λ _ _. refl) (λ u o. absurd (clash (bursts_online ∙ t) (o ∙ u))))
      (λ t. pick_of P (was && is_holder net k)
      (λ u o. absurd (clash (o ∙ and_left was (is_holder net k) u) (online_same net (turned net LOST 0) k (row_at_turned net LOST 0 k) ∙ t))) (λ _ _. refl))

module _ (net : List ℕ) (s : shape net ≡ true) (b : Rams net) (k : ℕ) where
  module _ (l : k < rows net) (r : List ℕ) (e : SameSize (row_at net k) r) (q : SameNid (row_at net k) r) where
    calm_settled : shape (settled (set_row net k r) k (on_line_at net k)) ≡ true → Rams (settled (set_row net k r) k (on_line_at net k))
        → SameNodes net (settled (set_row net k r) k (on_line_at net k)) → Calm net (settled (set_row net k r) k (on_line_at net k))
    calm_settled f m n =
        let h = shape_within net s k l in
        let same = settled_none (set_row net k r) k (frame_within (set_row_frame net (suc k) h k (omega arith) r e) h) (on_line_at net k) (n.online k l) in
        calm_rows (rw same (became_put net k r s l e q (λ j _ o. refl))) f m n

  -- ---- the calls
  pub calm_read : (g : ℕ) → Calm net (net_after_read net k g)
  unfolding net_after_read
  calm_read g =
      pick_of (Calm net) (eqb (net_read_number net k g) 0)
      (λ z. let l = (row_there net k (read_placed net k g (eqb-true _ _ z))).1 in
      let r = row_at net k in
      let w = shape_row_whole net s k l in
      calm_still net s b (set_row net k (row_after_read r g))
      (became_put net k (row_after_read r g) s l (size_read r g)
      (record { moved = record { kept = kept_read r w g (shape_row net s k l); ram = λ _ m. ram_read r m g }; nid = (same_row r w g).nid })
      (λ j lj. still_same (row_at net j) (shape_row net s j lj))))
      (λ _. calm_same net s b)

  pub calm_write : (g v : ℕ) → v < 256 → SameNodes net (net_after_write net k g v) → Calm net (net_after_write net k g v)
  unfolding net_after_write
  calm_write g v h =
      let r = row_at net k in
      pick_of (λ (x : List ℕ). shape x ≡ true → Rams x → SameNodes net x → Calm net x) (eqb (net_write_number net k g v) 0)
      (λ z. let l = (row_there net k (write_placed net k g v (eqb-true _ _ z))).1 in
      calm_settled l (row_after_write r g v) (size_write r g v)
      (λ _. (same_written r (shape_row_whole net s k l) g v).nid ∙ write_nid (regs_of r) g v))
      (λ _ _ _ _. calm_same net s b)
      (shape_write net s k g v) (rams_write net s b k g v h)

  pub calm_reset : SameNodes net (net_after_reset net k) → Calm net (net_after_reset net k)
  unfolding net_after_reset
  calm_reset =
      let r = row_at net k in
      pick_of (λ (x : List ℕ). shape x ≡ true → Rams x → SameNodes net x → Calm net x) (eqb (place_number net k) 0)
      (λ z. let l = (row_there net k (eqb-true _ _ z)).1 in
      calm_settled l (row_after_reset r) (size_put r hardware_reset) (λ o. absurd (clash o (reset_off r (shape_row_whole net s k l)))))
      (λ _ _ _ _. calm_same net s b)
      (shape_reset net s k) (rams_reset net s b k)
