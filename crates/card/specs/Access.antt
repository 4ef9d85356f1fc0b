-- Document 01, "Registers": what a register access that is not refused does to a row's bytes.
-- Assumes nothing.
use Rattle.std.specs.Prelude.{◌≡◌, Bool, List, ◌++◌, ℕ, ◌+◌, ◌-◌, eqb, get_or, set, replicate}
use Rattle.bits.specs.Words.{pick}
use Rattle.card.specs.Row.{register_bytes, row_bytes, mark, regs_of, put_regs}
use Rattle.registers.specs.declared.regs.Regs.{Regs}
use Rattle.registers.specs.Layout.{at_fetched}
use Rattle.registers.specs.Registers.{pointer, read_fetches, write_fetches, fetched, read_value, after_read, after_write, hardware_reset}

-- where the RAM byte at the pointer of the registers g stands in a row, and that byte
abbrev pub place_of : Regs → ℕ
place_of g = register_bytes + pointer g

abbrev pub ram_at : List ℕ → Regs → ℕ
ram_at r g = get_or r (place_of g) 0

-- where it stands for the row's own registers
abbrev pub pointed : List ℕ → ℕ
pointed r = place_of (regs_of r)

-- the row that an access leaves with the registers g; C-13: where it fetches, the fetched byte is the RAM byte at their pointer
abbrev pub accessed : List ℕ → Bool → Regs → List ℕ
accessed r fetches g = put_regs r (fetched fetches (ram_at r g) g)

-- the fetched byte of a row is the RAM byte at its pointer
abbrev pub Current : List ℕ → Type 0
Current r = get_or r at_fetched 0 ≡ ram_at r (regs_of r)

-- what a read gives, and the row after it
unfoldable pub value_read : List ℕ → ℕ → ℕ
value_read r k = read_value (regs_of r) k

unfoldable pub row_after_read : List ℕ → ℕ → List ℕ
row_after_read r k = accessed r (read_fetches (regs_of r) k) (after_read (regs_of r) k)

-- "Register 4 .. writes the RAM byte at the pointer"
abbrev pub ram_written : List ℕ → ℕ → ℕ → ℕ → List ℕ
ram_written r k a v = pick (eqb k 4) (set r a v) r

unfoldable pub row_after_write : List ℕ → ℕ → ℕ → List ℕ
row_after_write r k v = accessed (ram_written r k (pointed r) v) (write_fetches k) (after_write (regs_of r) k v)

-- "Hardware reset: .. RAM kept"
abbrev pub row_after_reset : List ℕ → List ℕ
row_after_reset r = put_regs r hardware_reset

-- a new row: its mark, a hardware reset's registers, and zeros
unfoldable pub fresh_row : List ℕ
fresh_row = put_regs (mark ++ replicate (row_bytes - 2) 0) hardware_reset
