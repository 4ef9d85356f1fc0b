-- C-13: the fetched byte of a row, after each access.
-- Assumes nothing.
use mathlib.Core.Path.{◌≡◌, sym, ◌∙◌}
use mathlib.Core.Bool.{true, false}
use mathlib.Core.List.{List}
use Prim.Native.Nat.{ℕ}
use native.Mathlib.Omega.{arith}
use lib.Dec.{lit<}
use lib.ListN.{get_or}
use lib.Seq.{ext_get_or}
use Rattle.registers.specs.declared.regs.Regs.{Regs}
use Rattle.registers.specs.Layout.{at_fetched}
use Rattle.registers.specs.Registers.{read_fetches, after_read, after_write, hardware_reset}
use Rattle.registers.proofs.Values.Ahead.{value_fetched, reset_fetched}
use Rattle.card.specs.Row.{regs_of, Whole}
use Rattle.card.specs.Access.{accessed, Current, value_read, row_after_read, row_after_write, row_after_reset}
use Rattle.card.proofs.Rows.Sizes.{whole_registers}
use Rattle.card.proofs.Rows.Bytes.{put_ram, put_later, regs_put, later_at}
use Rattle.card.proofs.Rows.Moves.{only_read}

module _ (r : List ℕ) where
  pub read_fetched : value_read r 4 ≡ get_or r at_fetched 0
  unfolding value_read
  read_fetched = value_fetched (regs_of r) ∙ later_at r 0 (lit< tt)

  module _ (l : Whole r) where
    -- an access that fetches
    fetches_ahead : (g : Regs) → Current (accessed r true g)
    fetches_ahead g =
        let h = whole_registers r l in
        put_later r _ h 0 (lit< tt) ∙ rw (regs_put r _ h) (sym (put_ram r _ _ (omega arith)))

    pub load_ahead : (v : ℕ) → Current (row_after_write r 3 v)
    unfolding row_after_write
    load_ahead v = fetches_ahead (after_write (regs_of r) 3 v)

    pub read_ahead : (k : ℕ) → read_fetches (regs_of r) k ≡ true → Current (row_after_read r k)
    unfolding row_after_read
    read_ahead k t = rw t (fetches_ahead (after_read (regs_of r) k))

    -- a read without AUTO-INC leaves the row
    pub read_again : read_fetches (regs_of r) 4 ≡ false → row_after_read r 4 ≡ r
    read_again n = let o = only_read r l 4 in ext_get_or 0 (row_after_read r 4) r o.size (λ i _. o.same i (rw n))

    pub reset_zero : get_or (row_after_reset r) at_fetched 0 ≡ 0
    reset_zero = put_later r hardware_reset (whole_registers r l) 0 (lit< tt) ∙ reset_fetched
