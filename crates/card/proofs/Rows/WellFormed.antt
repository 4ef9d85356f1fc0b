-- A well-formed row stays well formed and as long, through every call on its bytes.
-- Assumes nothing.
use mathlib.Core.Path.{◌≡◌, refl, ◌∙◌}
use mathlib.Core.Bool.{true, false}
use mathlib.Core.List.{List, ◌++◌}
use mathlib.Core.Logic.{inl}
use Prim.Native.Nat.{ℕ, ◌+◌, ◌≤◌, ◌<◌, ◌-◌}
use native.Mathlib.Omega.{arith}
use lib.Dec.{eqb, lit≤}
use lib.ListN.{length, set, length-set, replicate}
use lib.Seq.{get_or-set_other}
use Rattle.registers.specs.declared.regs.Regs.{Regs}
use Rattle.card.specs.declared.packets.Packet.{Packet}
use Rattle.card.specs.Row.{register_bytes, row_bytes, regs_of, put_regs, marked, zeros, spare, well_formed, mark, row_size, Whole}
use Rattle.registers.specs.Fit.{on_line}
use Rattle.registers.specs.Registers.{pointer, hardware_reset}
use Rattle.registers.specs.Refusals.{write_number}
use Rattle.card.specs.Access.{pointed, row_after_read, ram_written, row_after_write, row_after_reset, fresh_row}
use Rattle.card.specs.Packets.{data_at, page_bytes, stored, stamped}
use Rattle.bits.proofs.Words.Bools.{pick_of}
use Rattle.card.proofs.Rows.Bytes.{regs_same, size_put, well_fit, well_same, well_put, regs_put}
use Rattle.registers.proofs.Values.Fits.{Fit, fit_rules, rules_fit}
use Rattle.card.proofs.Rows.Sizes.{SameSize, size_then, whole_registers}
use Rattle.card.proofs.Rows.Accesses.{size_ram}
use Rattle.registers.proofs.Values.FitCalls.{fit_read, fit_write, fit_reset}
use Rattle.card.proofs.Pages.Stored.{stored_outside, length_stored}
use Rattle.registers.proofs.Values.SameCard.{reset_off}

pub length_fresh : length fresh_row ≡ row_bytes
unfolding fresh_row put_regs
length_fresh = refl

pub fresh_whole : Whole fresh_row
unfolding row_size
fresh_whole = length_fresh

-- the row before its registers: a mark and zeros
abbrev bare : List ℕ
bare = mark ++ replicate (row_bytes - 2) 0

pub regs_fresh : regs_of fresh_row ≡ hardware_reset
unfolding fresh_row
regs_fresh = regs_put bare hardware_reset (lit≤ tt)

pub well_fresh : well_formed fresh_row ≡ true
unfolding fresh_row put_regs well_formed marked spare zeros
well_fresh = rw (regs_fresh, fit_reset)

pub fresh_off : on_line (regs_of fresh_row) ≡ false
fresh_off = rw regs_fresh reset_off

-- ---- a row that a register access leaves is as long as it was
module _ (r : List ℕ) where
  pub size_read : (k : ℕ) → SameSize r (row_after_read r k)
  unfolding row_after_read
  size_read k = size_put r _

  pub size_write : (k v : ℕ) → SameSize r (row_after_write r k v)
  unfolding row_after_write
  size_write k v =
      size_then (size_ram r k (pointer (regs_of r)) v) (size_put (ram_written r k (pointed r) v) _)

module _ (r : List ℕ) (l : Whole r) where
  registers : register_bytes ≤ length r
  registers = whole_registers r l

  -- a byte of the RAM is written
  well_set : (i v : ℕ) → register_bytes ≤ i → well_formed (set r i v) ≡ well_formed r
  well_set i v h =
      well_same r (set r i v) (length-set r i v) registers (λ j b. get_or-set_other r i j v 0 (λ e. omega arith))

  -- a page that is stamped or stored in leaves the registers
  pub regs_stamped : (a : ℕ) → register_bytes ≤ a → regs_of (stamped r a) ≡ regs_of r
  unfolding stamped
  regs_stamped a h = regs_same r _ (λ j b. get_or-set_other r a j (regs_of r).id 0 (λ e. omega arith))

  pub regs_stored : (a : ℕ) → register_bytes ≤ a → (k : Packet) → a + page_bytes k.shape ≤ length r → 512 ≤ length k.bytes → data_at k.shape < 256
      → regs_of (stored r a k) ≡ regs_of r
  regs_stored a h k f n b = regs_same r (stored r a k) (λ j l. stored_outside r a k f n b j (inl (omega arith)))

  module _ (w : well_formed r ≡ true) where
    fits : Fit (regs_of r)
    fits = fit_rules (regs_of r) (well_fit r w)

    -- the row with other registers that fit, as an event leaves it
    pub well_regs : (g : Regs) → Fit g → well_formed (put_regs r g) ≡ true
    well_regs g f = well_put r g registers w (rules_fit g f)

    pub well_reset : well_formed (row_after_reset r) ≡ true
    well_reset = well_put r hardware_reset registers w fit_reset

    pub well_read : (k : ℕ) → well_formed (row_after_read r k) ≡ true
    unfolding row_after_read
    well_read k = well_regs _ (fit_read (regs_of r) fits k _)

    ram_well : (k v : ℕ) → well_formed (ram_written r k (pointed r) v) ≡ true
    ram_well k v = pick_of (λ (x : List ℕ). well_formed x ≡ true) (eqb k 4) (λ _. well_set (pointed r) v (omega arith) ∙ w) (λ _. w)

    -- a write that is not refused
    pub well_write : (k v : ℕ) → write_number (regs_of r) k v ≡ 0 → well_formed (row_after_write r k v) ≡ true
    unfolding row_after_write
    well_write k v e =
        well_put (ram_written r k (pointed r) v) _ (omega (arith, registers, (size_ram r k (pointer (regs_of r)) v).long)) (ram_well k v)
        (rules_fit _ (fit_write (regs_of r) fits k v e _))

    pub well_stamped : (a : ℕ) → register_bytes ≤ a → well_formed (stamped r a) ≡ true
    unfolding stamped
    well_stamped a h = well_set a (regs_of r).id h ∙ w

    pub well_stored : (a : ℕ) → register_bytes ≤ a → (k : Packet) → a + page_bytes k.shape ≤ length r → 512 ≤ length k.bytes → data_at k.shape < 256
        → well_formed (stored r a k) ≡ true
    well_stored a h k f n b =
        well_same r (stored r a k) (length_stored r a k f n b) registers
        (λ i l. stored_outside r a k f n b i (inl (omega arith))) ∙ w
