-- The card's lists of refusals rise, from the numbers that a call to a row of a network asks before them.
-- Assumes nothing.
use mathlib.Core.Path.{◌≡◌, refl}
use mathlib.Core.Bool.{true}
use Prim.Native.Nat.{ℕ}
use Rattle.registers.specs.declared.regs.Regs.{Regs}
use Rattle.told.specs.Numbers.{ROW, PAGE, numbers_of, rises_from}
use Rattle.told.proofs.Told.Smallest.{last_from}
use Rattle.registers.specs.Refusals.{read_refusals, write_refusals}

module _ (g : Regs) (k : ℕ) where
  pub read_rises : rises_from ROW (numbers_of (read_refusals g k)) ≡ true
  unfolding read_refusals
  read_rises = refl

  module _ (v : ℕ) where
    pub write_rises : rises_from ROW (numbers_of (write_refusals g k v)) ≡ true
    unfolding write_refusals
    write_rises = refl

    pub write_last : last_from ROW (numbers_of (write_refusals g k v)) ≡ PAGE
    unfolding write_refusals
    write_last = refl
