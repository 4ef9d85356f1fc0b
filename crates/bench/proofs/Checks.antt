-- SHAPE alone: its number is 0 exactly if the network is well formed. And the lists of the bench's own calls rise: "The smallest number wins".
-- Assumes nothing.
use mathlib.Core.Path.{◌≡◌, refl, sym}
use mathlib.Core.Bool.{true}
use mathlib.Core.List.{List}
use Prim.Native.Nat.{ℕ}
use borrow.Author.Tests.{not-false}
use Rattle.told.specs.Numbers.{DONE, SHAPE, Smallest}
use Rattle.told.proofs.Told.Smallest.{none_refuses, smallest}
use Rattle.table.specs.Network.{shape}
use Rattle.bench.specs.Calls.{shape_refusals, shape_number, wide_refusals, wide_number}
use Rattle.table.proofs.Access.Rising.{place_rises}

module _ (net : List ℕ) where
  pub smallest_shape : Smallest (shape_refusals net) (shape_number net)
  unfolding shape_number
  smallest_shape = smallest (shape_refusals net) refl

  pub smallest_wide : (row register : ℕ) → Smallest (wide_refusals net row register) (wide_number net row register)
  unfolding wide_number
  smallest_wide row register = smallest (wide_refusals net row register) (place_rises net row _ refl)

  -- a network with the number 0 is well formed
  pub well_formed_lem : DONE ≡ shape_number net → shape net ≡ true
  unfolding shape_number
  well_formed_lem z = not-false (shape net) (none_refuses (shape_refusals net) refl (sym z) SHAPE)
