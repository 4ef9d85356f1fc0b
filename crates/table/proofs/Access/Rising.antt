-- "The smallest number wins": the list of each call to a row, and of the fresh call, rises.
-- Assumes nothing.
use mathlib.Core.Path.{refl, ◌≡◌}
use mathlib.Core.List.{List, [], ◌∷◌, ◌++◌}
use Prim.Native.Nat.{ℕ}
use Rattle.told.specs.Numbers.{ROW, DUPLICATE, Refusal, ◌when◌, numbers_of, rises_from, rises, Smallest}
use Rattle.registers.specs.Refusals.{write_refusals}
use Rattle.told.proofs.Told.Smallest.{rises_append, smallest}
use Rattle.registers.proofs.Values.Rising.{read_rises, write_rises, write_last}
use Rattle.card.proofs.Pages.Refused.{data_rises}
use Rattle.table.specs.Rows.{row_at}
use Rattle.table.specs.Network.{regs_at}
use Rattle.table.specs.Calls.{place_refusals, place_number, net_read_refusals, net_read_number, net_reading, duplicate, net_write_refusals, net_write_number, timer_refusals, timer_number, net_interrupt, net_data_refusals, net_data_number, fresh_refusals, fresh_number}
use mathlib.Core.Bool.{true}

module _ (net : List ℕ) (k : ℕ) where
  -- whatever rises from ROW on may follow SHAPE and ROW
  pub place_rises : (l : List Refusal) → rises_from ROW (numbers_of l) ≡ true → rises (numbers_of (place_refusals net k ++ l)) ≡ true
  unfolding place_refusals
  place_rises l e = e

  pub place_smallest : Smallest (place_refusals net k) (place_number net k)
  unfolding place_refusals place_number
  place_smallest = smallest (place_refusals net k) refl

  pub read_smallest : (g : ℕ) → Smallest (net_read_refusals net k g) (net_reading net k g).number
  unfolding net_read_number net_reading
  read_smallest g = smallest (net_read_refusals net k g) (place_rises _ (read_rises (regs_at net k) g))

  pub write_smallest : (g v : ℕ) → Smallest (net_write_refusals net k g v) (net_write_number net k g v)
  unfolding net_write_number
  write_smallest g v =
      smallest (net_write_refusals net k g v)
      (place_rises _ (rises_append (write_refusals (regs_at net k) g v) (DUPLICATE when duplicate net k g v ∷ []) ROW (write_rises (regs_at net k) g v) (rw (write_last (regs_at net k) g v))))

  pub timer_smallest : Smallest (timer_refusals net k) (timer_number net k)
  unfolding timer_number
  timer_smallest = smallest (timer_refusals net k) (place_rises _ refl)

  pub interrupt_smallest : Smallest (place_refusals net k) (net_interrupt net k).number
  unfolding net_interrupt
  interrupt_smallest = place_smallest

  pub data_smallest : (p : ℕ) → Smallest (net_data_refusals net k p) (net_data_number net k p)
  unfolding net_data_number
  data_smallest p = smallest (net_data_refusals net k p) (place_rises _ (data_rises (row_at net k) p))

  -- k is the number of rows
  pub fresh_smallest : Smallest (fresh_refusals net k) (fresh_number net k)
  unfolding fresh_refusals fresh_number
  fresh_smallest = smallest (fresh_refusals net k) refl
