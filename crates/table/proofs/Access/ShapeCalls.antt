-- Every call to a row keeps SHAPE, and a fresh network has it.
-- Assumes nothing.
use mathlib.Core.Path.{◌≡◌, refl, sym, ◌∙◌}
use mathlib.Core.Bool.{true, false}
use mathlib.Core.List.{List, [], ◌∷◌}
use Prim.Native.Nat.{ℕ, ◌≤◌, ◌<◌}
use native.Mathlib.Omega.{arith}
use lib.Dec.{eqb, ltb, lit<}
use borrow.Author.Tests.{eqb-true, ltb-false}
use Rattle.told.specs.Numbers.{DUPLICATE, ◌when◌}
use Rattle.registers.specs.Fit.{on_line}
use Rattle.registers.specs.Registers.{after_write, hardware_reset}
use Rattle.card.specs.Access.{row_after_read, row_after_write, row_after_reset}
use Rattle.registers.specs.Refusals.{write_refusals, write_number}
use Rattle.bits.proofs.Words.Bools.{pick_of}
use Rattle.told.proofs.Told.Smallest.{told_both, none_refuses}
use Rattle.card.proofs.Rows.Bytes.{size_put}
use Rattle.card.proofs.Rows.WellFormed.{size_read, size_write, well_reset, well_write, well_fresh}
use Rattle.card.proofs.Rows.WellFormed.{fresh_off}
use Rattle.card.proofs.Words.Zeros.{zeros_replicate}
use Rattle.card.proofs.Rows.Touched.{same_written, on_line_written}
use Rattle.table.specs.Rows.{row_at}
use Rattle.table.specs.Network.{row_limit, rows, regs_at, on_line_at, is_node, node_of, shape}
use Rattle.table.specs.Calls.{place_refusals, place_number, net_read_number, net_after_read, duplicate, row_write_refusals, net_write_number, net_after_write, net_after_reset, timer_number, net_after_timer, fresh_net, fresh_number, net_after_fresh}
use Rattle.table.proofs.Folds.{clash, seek_at_most}
use Rattle.table.proofs.Online.Nodes.{other, node_of_fails}
use Rattle.table.proofs.Rows.Headers.{header_of}
use Rattle.table.proofs.Shaped.Shapes.{shape_row, shape_row_whole, shape_of}
use Rattle.table.proofs.Shaped.Kept.{shape_put}
use Rattle.table.proofs.Access.Placed.{read_placed, write_placed, timer_placed, row_there}
use Rattle.table.proofs.Access.Fresh.{length_fresh_net, row_at_fresh, fresh_net_lem, fresh_some, fresh_fits}
use Rattle.table.proofs.Shaped.KeptRows.{kept_read, reset_off}
use Rattle.table.proofs.Access.ShapeSettled.{shape_burst, shape_settled}

module _ (net : List ℕ) (s : shape net ≡ true) (k : ℕ) where
  pub shape_read : (g : ℕ) → shape (net_after_read net k g) ≡ true
  unfolding net_after_read
  shape_read g =
      pick_of (λ (x : List ℕ). shape x ≡ true) (eqb (net_read_number net k g) 0)
      (λ z. let l = (row_there net k (read_placed net k g (eqb-true _ _ z))).1 in
      let w = shape_row_whole net s k l in
      shape_put net k (row_after_read (row_at net k) g) s l (size_read (row_at net k) g) (kept_read (row_at net k) w g (shape_row net s k l)))
      (λ _. s)

  pub shape_timer : shape (net_after_timer net k) ≡ true
  unfolding net_after_timer
  shape_timer =
      pick_of (λ (x : List ℕ). shape x ≡ true) (eqb (timer_number net k) 0)
      (λ z. shape_burst net s k (row_there net k (timer_placed net k (eqb-true _ _ z))).1)
      (λ _. s)

  -- ---- hardware reset, and a write
  pub shape_reset : shape (net_after_reset net k) ≡ true
  unfolding net_after_reset
  shape_reset =
      pick_of (λ (x : List ℕ). shape x ≡ true) (eqb (place_number net k) 0)
      (λ z. let l = (row_there net k (eqb-true _ _ z)).1 in
      let w = shape_row_whole net s k l in
      shape_settled net s k l (row_after_reset (row_at net k)) (size_put (row_at net k) hardware_reset) (well_reset (row_at net k) w (shape_row net s k l))
      (λ o. absurd (clash o (reset_off (row_at net k) w))))
      (λ _. s)

  module _ (g v : ℕ) where
    -- where a write is not refused, the card does not refuse it, and no other on-line row has the ID of the row that it leaves on line
    unrefused : net_write_number net k g v ≡ 0 → (write_number (regs_at net k) g v ≡ 0) × (duplicate net k g v ≡ false)
    unfolding net_write_number
    unrefused z =
        let last = DUPLICATE when duplicate net k g v ∷ [] in
        let b = told_both (write_refusals (regs_at net k) g v) last (told_both (place_refusals net k) (row_write_refusals net k g v) z).1 in
        (b.0, none_refuses last refl b.1 DUPLICATE)

    single : net_write_number net k g v ≡ 0 → on_line (after_write (regs_at net k) g v) ≡ true
        → (j : ℕ) → j < rows net → (j ≡ k → ⊥) → is_node net (after_write (regs_at net k) g v).id j ≡ false
    unfolding node_of duplicate
    single z o =
        let i = (after_write (regs_at net k) g v).id in
        let t : ltb (node_of net i k (rows net)) (rows net) ≡ false
        = rw o at (unrefused z).1 in
        node_of_fails net i k (rows net) (omega (arith, ltb-false (node_of net i k (rows net)) (rows net) t, seek_at_most (other net i k) (rows net)))

    pub shape_write : shape (net_after_write net k g v) ≡ true
    unfolding net_after_write
    shape_write =
        pick_of (λ (x : List ℕ). shape x ≡ true) (eqb (net_write_number net k g v) 0)
        (λ z. let n = eqb-true _ _ z in
        let l = (row_there net k (write_placed net k g v n)).1 in
        let w = shape_row_whole net s k l in
        shape_settled net s k l (row_after_write (row_at net k) g v) (size_write (row_at net k) g v)
        (well_write (row_at net k) w (shape_row net s k l) g v (unrefused n).0)
        (λ o. rw (same_written (row_at net k) w g v).id (single n (sym (on_line_written (row_at net k) w g v) ∙ o))))
        (λ _. s)

-- ---- a fresh network
pub shape_fresh : (n : ℕ) → 0 < n → n ≤ row_limit → shape (fresh_net n) ≡ true
unfolding fresh_net on_line_at
shape_fresh n a b =
    shape_of (fresh_net n)
    (header_of (fresh_net n) (refl, refl, refl) (a, b) (lit< tt) (zeros_replicate 10) (length_fresh_net n))
    (λ k l. rw (row_at_fresh n k l) well_fresh)
    (λ j k lj lk p q i. absurd (clash (rw (row_at_fresh n j lj) at p) fresh_off))
    (λ p. refl) (λ p. absurd (p refl))

pub shape_fresh_call : (net : List ℕ) (n : ℕ) → fresh_number net n ≡ 0 → shape (net_after_fresh net n) ≡ true
shape_fresh_call net n z = rw (fresh_net_lem net n z) (shape_fresh n (fresh_some net n 0 (sym z) refl) (fresh_fits net n 0 (sym z) refl).0)
