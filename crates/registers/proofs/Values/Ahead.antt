-- C-13: what a read of register 4 gives, that a load is not refused, and which accesses may change the fetched byte.
-- Assumes nothing.
use mathlib.Core.Path.{◌≡◌, refl}
use mathlib.Core.Bool.{Bool, true, false}
use mathlib.Core.List.{List}
use Prim.Native.Nat.{ℕ}
use lib.Dec.{eqb}
use Rattle.registers.specs.declared.regs.Regs.{Regs}
use Rattle.bits.specs.Words.{among}
use Rattle.registers.specs.Sides.{chaining}
use Rattle.registers.specs.Fit.{on_line}
use Rattle.registers.specs.Registers.{sub, read_fetches, write_fetches, read_value, hardware_reset, writes_id}
use Rattle.registers.specs.Refusals.{no_register, bad_value, write_refusals, write_number}
use Rattle.registers.specs.Layout.{at_fetched, queue_bytes, read_changes, write_changes}
use Rattle.std.proofs.Math.Bool.{and-false}
use Rattle.bits.proofs.Words.Bools.{pick_of}
use Rattle.told.proofs.Told.Smallest.{refuse_passed}

module _ (g : Regs) where
  pub value_fetched : read_value g 4 ≡ g.later.fetched
  unfolding read_value
  value_fetched = refl

  pub load_taken : (v : ℕ) → write_number g 3 v ≡ 0
  unfolding write_refusals no_register bad_value writes_id
  load_taken v = let o = and-false (on_line g) in search (o, refuse_passed)

  -- an access that does not fetch
  abbrev Without : List ℕ → Type 0
  Without l = among l at_fetched ≡ false

  pub read_unfetched : (k : ℕ) → read_fetches g k ≡ false → Without (read_changes g k)
  read_unfetched k n = rw n (pick_of Without (eqb k 1) (λ _. refl) (λ _. refl))

  pub write_unfetched : (k : ℕ) → write_fetches k ≡ false → Without (write_changes g k)
  write_unfetched k n =
      pick_of Without (eqb k 0) (λ _. refl)
      (λ _. pick_of Without (eqb k 1) (λ _. queued (chaining g))
      (λ _. pick_of Without (eqb k 2) (λ _. refl)
      (λ _. rw n (pick_of Without (eqb k 4) (λ _. refl)
      (λ _. pick_of Without (eqb k 6) (λ _. queued (chaining g))
      (λ _. pick_of Without (eqb k 7)
      (λ _. pick_of Without (eqb (sub g) 0) (λ _. refl) (λ _. pick_of Without (eqb (sub g) 1) (λ _. refl) (λ _. refl))) (λ _. refl)))))))
    where
      queued : (c : Bool) → Without (queue_bytes c)
      queued true = refl
      queued false = refl

pub reset_fetched : hardware_reset.later.fetched ≡ 0
unfolding hardware_reset
reset_fetched = refl
