-- The calls to a row, of a network and of its rows in another order: the same number and the same answer, and what is left is left in that order.
-- Assumes nothing.
use mathlib.Core.Path.{◌≡◌, refl, ◌∙◌}
use mathlib.Core.Bool.{Bool, true, false, ◌&&◌}
use mathlib.Core.List.{List}
use mathlib.Core.Logic.{⊎_elim}
use Prim.Native.Nat.{ℕ, ◌<◌}
use native.Mathlib.Omega.{arith}
use lib.Dec.{eqb}
use lib.ListN.{length}
use borrow.Author.Tests.{eqb-true}
use Rattle.std.proofs.lemmas.Bool.{cases_Bool}
use Rattle.bits.proofs.Words.Bools.{pick_each}
use Rattle.registers.specs.Registers.{hardware_reset}
use Rattle.registers.specs.Events.{burst}
use Rattle.card.specs.Row.{regs_of}
use Rattle.card.specs.Access.{row_after_read, row_after_write, row_after_reset}
use Rattle.card.proofs.Rows.Sizes.{SameSize}
use Rattle.card.proofs.Rows.Bytes.{size_put}
use Rattle.card.proofs.Rows.WellFormed.{size_read, size_write}
use Rattle.table.specs.Rows.{row_start, row_at, set_row}
use Rattle.table.specs.Network.{rows, phase, holder, LOST, turned, on_regs, on_line_at, shape}
use Rattle.table.specs.Calls.{place_refusals, place_number, net_read_number, net_reading, net_after_read, is_holder, settled, duplicate, net_write_number, net_after_write, net_after_reset, timer_number, net_after_timer, net_interrupt, net_data, net_data_number}
use Rattle.table.specs.Shuffle.{Shuffle, shuffled}
use Rattle.table.proofs.Rows.Starts.{frame_ends}
use Rattle.table.proofs.Rows.WithRows.{set_row_frame}
use Rattle.table.proofs.Access.Placed.{row_there, read_placed, write_placed, timer_placed}
use Rattle.table.proofs.Shuffled.Renaming.{to_same, to_below, to_least}
use Rattle.table.proofs.Shuffled.Rows.{shuffled_at, shuffled_rows, shuffled_phase, shuffled_holder, shuffled_turned, shuffled_set}
use Rattle.table.proofs.Shuffled.Shapes.{online_shuffled, ends_at, shape_shuffled, node_shuffled}

module _ {n : ℕ} (q : Shuffle n) where
  -- y is x in that order
  abbrev Is : List ℕ → List ℕ → Type 0
  Is x y = y ≡ shuffled q x

  -- ---- row k of a network of n rows, well formed or not, and another row in its place
  module _ (net : List ℕ) (ends : length net ≡ row_start net n) (k : ℕ) (l : k < n) where
    set_ends : (r : List ℕ) → SameSize (row_at net k) r → length (set_row net k r) ≡ row_start (set_row net k r) n
    set_ends r e = frame_ends (set_row_frame net n (omega arith) k l r e) ends

    holder_shuffled : is_holder (shuffled q net) (q.to k) ≡ is_holder net k
    holder_shuffled =
        rw (shuffled_phase q net ends, shuffled_holder q net ends)
        (⊎_elim (λ (t : eqb (phase net) LOST ≡ true). rw t) (λ (t : eqb (phase net) LOST ≡ false). rw t (to_same q (holder net) k)) (cases_Bool (eqb (phase net) LOST)))

    burst_shuffled : Is (turned (set_row net k (on_regs burst (row_at net k))) LOST 0) (turned (set_row (shuffled q net) (q.to k) (on_regs burst (row_at net k))) LOST 0)
    burst_shuffled =
        let r = on_regs burst (row_at net k) in
        let e = size_put (row_at net k) (burst (regs_of (row_at net k))) in
        rw (shuffled_set q net ends k l r e) (shuffled_turned q (set_row net k r) (set_ends r e) LOST 0)

    settled_shuffled : (was : Bool) → Is (settled net k was) (settled (shuffled q net) (q.to k) was)
    unfolding settled
    settled_shuffled was =
        rw (online_shuffled q net ends k, holder_shuffled, shuffled_at q net ends k)
        (pick_each Is (on_line_at net k) (λ _. pick_each Is was (λ _. refl) (λ _. burst_shuffled))
        (λ _. pick_each Is (was && is_holder net k) (λ _. shuffled_turned q net ends LOST 0) (λ _. refl)))

  -- ---- the calls to row k
  module _ (net : List ℕ) (s : shape net ≡ true) (c : rows net ≡ n) (k : ℕ) where
    ends : length net ≡ row_start net n
    ends = ends_at q net s c

    row : row_at (shuffled q net) (q.to k) ≡ row_at net k
    row = shuffled_at q net ends k

    online : on_line_at (shuffled q net) (q.to k) ≡ on_line_at net k
    online = online_shuffled q net ends k

    count : rows (shuffled q net) ≡ n
    count = shuffled_rows q net ends ∙ c

    there : place_number net k ≡ 0 → k < n
    there z = omega (arith, (row_there net k z).1, c)

    placed : place_refusals (shuffled q net) (q.to k) ≡ place_refusals net k
    unfolding place_refusals
    placed = rw (shape_shuffled q net s c, s, count, c, to_least q k)

    pub place_number_shuffled : place_number (shuffled q net) (q.to k) ≡ place_number net k
    unfolding place_number
    place_number_shuffled = rw placed

    -- reading
    module _ (g : ℕ) where
      read_number_shuffled : net_read_number (shuffled q net) (q.to k) g ≡ net_read_number net k g
      unfolding net_read_number
      read_number_shuffled = rw (placed, row)

      pub reading_shuffled : net_reading (shuffled q net) (q.to k) g ≡ net_reading net k g
      unfolding net_reading
      reading_shuffled = rw (read_number_shuffled, row)

      pub read_shuffled : Is (net_after_read net k g) (net_after_read (shuffled q net) (q.to k) g)
      unfolding net_after_read
      read_shuffled =
          rw (read_number_shuffled, row)
          (pick_each Is (eqb (net_read_number net k g) 0)
          (λ z. shuffled_set q net ends k (there (read_placed net k g (eqb-true _ _ z))) (row_after_read (row_at net k) g) (size_read (row_at net k) g)) (λ _. refl))

    -- a row given other bytes, and settled
    settles : (r : List ℕ) → SameSize (row_at net k) r → place_number net k ≡ 0
        → Is (settled (set_row net k r) k (on_line_at net k)) (settled (set_row (shuffled q net) (q.to k) r) (q.to k) (on_line_at net k))
    settles r e z =
        let l = there z in
        rw (shuffled_set q net ends k l r e) (settled_shuffled (set_row net k r) (set_ends net ends k l r e) k l (on_line_at net k))

    -- writing
    module _ (g v : ℕ) where
      duplicate_shuffled : duplicate (shuffled q net) (q.to k) g v ≡ duplicate net k g v
      unfolding duplicate
      duplicate_shuffled = rw (row, count, c, node_shuffled q net s c, to_below q)

      pub write_number_shuffled : net_write_number (shuffled q net) (q.to k) g v ≡ net_write_number net k g v
      unfolding net_write_number
      write_number_shuffled = rw (placed, row, duplicate_shuffled)

      pub write_shuffled : Is (net_after_write net k g v) (net_after_write (shuffled q net) (q.to k) g v)
      unfolding net_after_write
      write_shuffled =
          rw (write_number_shuffled, row, online)
          (pick_each Is (eqb (net_write_number net k g v) 0)
          (λ z. settles (row_after_write (row_at net k) g v) (size_write (row_at net k) g v) (write_placed net k g v (eqb-true _ _ z))) (λ _. refl))

    -- hardware reset, timer, interrupt
    pub reset_shuffled : Is (net_after_reset net k) (net_after_reset (shuffled q net) (q.to k))
    unfolding net_after_reset
    reset_shuffled =
        rw (place_number_shuffled, row, online)
        (pick_each Is (eqb (place_number net k) 0)
        (λ z. settles (row_after_reset (row_at net k)) (size_put (row_at net k) hardware_reset) (eqb-true _ _ z)) (λ _. refl))

    pub timer_number_shuffled : timer_number (shuffled q net) (q.to k) ≡ timer_number net k
    unfolding timer_number
    timer_number_shuffled = rw (placed, online)

    pub timer_shuffled : Is (net_after_timer net k) (net_after_timer (shuffled q net) (q.to k))
    unfolding net_after_timer
    timer_shuffled =
        rw (timer_number_shuffled, row)
        (pick_each Is (eqb (timer_number net k) 0) (λ z. burst_shuffled net ends k (there (timer_placed net k (eqb-true _ _ z)))) (λ _. refl))

    pub interrupt_shuffled : net_interrupt (shuffled q net) (q.to k) ≡ net_interrupt net k
    unfolding net_interrupt
    interrupt_shuffled = rw (place_number_shuffled, row)

    -- the page reader
    pub data_shuffled : (p : ℕ) → net_data (shuffled q net) (q.to k) p ≡ net_data net k p
    unfolding net_data
    data_shuffled p = rw (place_number_shuffled, row)

    pub data_number_shuffled : (p : ℕ) → net_data_number (shuffled q net) (q.to k) p ≡ net_data_number net k p
    unfolding net_data_number
    data_number_shuffled p = rw (placed, row)
