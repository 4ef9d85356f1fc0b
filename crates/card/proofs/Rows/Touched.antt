-- What a register access leaves of a row: its registers, a RAM of bytes, and, where it is a read, who it is.
-- Assumes nothing.
use mathlib.Core.Path.{◌≡◌}
use mathlib.Core.Bool.{false}
use mathlib.Core.List.{List}
use Prim.Native.Nat.{ℕ, ◌<◌}
use native.Mathlib.Omega.{arith}
use lib.Dec.{eqb}
use Rattle.card.specs.Row.{regs_of, Whole}
use Rattle.registers.specs.Fit.{on_line}
use Rattle.registers.specs.Registers.{pointer, read_fetches, write_fetches, fetched, after_read, after_write}
use Rattle.card.specs.Access.{pointed, ram_at, row_after_read, ram_written, row_after_write}
use Rattle.bits.proofs.Words.Bools.{pick_of}
use Rattle.card.proofs.Rows.Sizes.{whole_registers}
use Rattle.card.proofs.Rows.Bytes.{regs_put}
use Rattle.card.proofs.Rows.Accesses.{size_ram}
use Rattle.card.proofs.Pages.Packets.{Ram}
use Rattle.card.proofs.Rows.Rams.{ram_put, ram_set}
use Rattle.registers.proofs.Values.SameCard.{SameCard, same_then, on_line_same, same_read, same_fetched}

module _ (r : List ℕ) (l : Whole r) (k : ℕ) where
  regs_read : regs_of (row_after_read r k) ≡ fetched (read_fetches (regs_of r) k) (ram_at r (after_read (regs_of r) k)) (after_read (regs_of r) k)
  unfolding row_after_read
  regs_read = regs_put r _ (whole_registers r l)

  pub same_row : SameCard (regs_of r) (regs_of (row_after_read r k))
  same_row = rw regs_read (same_then (regs_of r) (after_read (regs_of r) k) _ (same_read (regs_of r) k) (same_fetched (after_read (regs_of r) k) _))

  module _ (v : ℕ) where
    pub regs_write : regs_of (row_after_write r k v) ≡ fetched (write_fetches k) (ram_at (ram_written r k (pointed r) v) (after_write (regs_of r) k v)) (after_write (regs_of r) k v)
    unfolding row_after_write
    regs_write = regs_put (ram_written r k (pointed r) v) _ (omega (arith, whole_registers r l, (size_ram r k (pointer (regs_of r)) v).long))

    -- who the card is goes by the registers alone; where nothing is fetched all of them do
    pub same_written : SameCard (after_write (regs_of r) k v) (regs_of (row_after_write r k v))
    same_written = rw regs_write (same_fetched (after_write (regs_of r) k v) _)

    pub on_line_written : on_line (regs_of (row_after_write r k v)) ≡ on_line (after_write (regs_of r) k v)
    on_line_written = on_line_same _ _ same_written.id same_written.configuration

    pub regs_unfetched : write_fetches k ≡ false → regs_of (row_after_write r k v) ≡ after_write (regs_of r) k v
    regs_unfetched n = rw (regs_write, n)

module _ (r : List ℕ) (b : Ram r) (k : ℕ) where
  pub ram_read : Ram (row_after_read r k)
  unfolding row_after_read
  ram_read = ram_put r b _

  pub ram_write : (v : ℕ) → v < 256 → Ram (row_after_write r k v)
  unfolding row_after_write
  ram_write v h =
      ram_put (ram_written r k (pointed r) v) (pick_of Ram (eqb k 4) (λ _. ram_set r b (pointed r) v h) (λ _. b)) _
