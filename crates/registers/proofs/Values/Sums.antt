-- Document 01's sums of a card's registers.
-- Assumes nothing.
use mathlib.Core.Path.{◌≡◌, refl}
use mathlib.Core.Bool.{true}
use Prim.Native.Nat.{ℕ}
use borrow.Author.Tests.{not-true}
use Rattle.registers.specs.declared.regs.Regs.{Regs}
use Rattle.bits.specs.Words.{clear, has}
use Rattle.bits.specs.Flags.{AUTO_INC, RESET, CCHEN}
use Rattle.registers.specs.Fields.{with_configuration}
use Rattle.commands.specs.Commands.{command_of}
use Rattle.commands.proofs.Carried.{command_0e}
use Rattle.registers.specs.Registers.{pointer, stepped, shown, hardware_reset, changes_chaining, configured, commanded}
use Rattle.registers.specs.Events.{risen_nid}
use Rattle.bits.proofs.Words.Bools.{pick_of}

-- NID, pointer and status
pub nid_255 : (g : Regs) → g.nid ≡ 255 → (risen_nid g).nid ≡ 0
unfolding risen_nid
nid_255 g e = rw e

pub pointer_1023 : (g : Regs) → has AUTO_INC g.mode ≡ true → pointer g ≡ 1023 → pointer (stepped g) ≡ 0
unfolding stepped
pointer_1023 g a e = rw (a, e)

pub status_reset : hardware_reset.status ≡ 0x91
unfolding hardware_reset
status_reset = refl

pub status_written : (g : Regs) (v : ℕ) → has RESET v ≡ true → (configured g v).status ≡ 0x91
unfolding configured
status_written g v e = rw (not-true (clear RESET v) e)

-- C-11: the status that a chaining row reads after a reset, and after Clear Flags 0E
module _ (v : ℕ) where
  reset_then : configured hardware_reset v ≡ with_configuration v hardware_reset
  unfolding configured hardware_reset
  reset_then =
      let P : Regs → Type 0 = λ g. with_configuration v g ≡ with_configuration v hardware_reset in
      pick_of P (clear RESET v) (λ _. pick_of P (changes_chaining hardware_reset v) (λ _. refl) (λ _. refl)) (λ _. refl)

  pub shown_reset : has CCHEN v ≡ true → shown (configured hardware_reset v) ≡ 0x70
  unfolding shown hardware_reset
  shown_reset c = rw (reset_then, c)

  pub shown_cleared : has CCHEN v ≡ true → shown (commanded (configured hardware_reset v) (command_of 0x0e)) ≡ 0x60
  unfolding shown hardware_reset commanded
  shown_cleared c = rw (command_0e, reset_then, c)
