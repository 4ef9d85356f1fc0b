-- The first record that is refused, as the search for it finds it.
-- Assumes nothing.
use mathlib.Core.Path.{◌≡◌}
use mathlib.Core.Bool.{true, false}
use mathlib.Core.List.{List}
use Prim.Native.Nat.{ℕ, ◌<◌}
use Rattle.table.specs.Folds.{seek}
use Rattle.table.proofs.Folds.{seek_here, seek_found, seek_least}
use Rattle.orders.specs.Form.{records}
use Rattle.orders.specs.Check.{refused, first_bad}

module _ (order : List ℕ) where
  -- ---- as the code goes: the search finds none of the first k records
  pub first_here : (k : ℕ) → seek (refused order) k ≡ k → k < records order → refused order k ≡ true → first_bad order ≡ k
  unfolding first_bad
  first_here k s b f = seek_here (refused order) (records order) k s f b

  pub first_none : seek (refused order) (records order) ≡ records order → first_bad order ≡ records order
  unfolding first_bad
  first_none s = s

  -- ---- the record that is found: it is refused where there is one, and none before it is
  pub first_refused : first_bad order < records order → refused order (first_bad order) ≡ true
  unfolding first_bad
  first_refused b = seek_found (refused order) (records order) b

  pub first_below : (j : ℕ) → j < first_bad order → refused order j ≡ false
  unfolding first_bad
  first_below j b = seek_least (refused order) (records order) j b
