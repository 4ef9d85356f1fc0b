-- What a search of the numbers from 0 on finds.
-- Assumes nothing.
use mathlib.Core.Path.{◌≡◌}
use mathlib.Core.Bool.{Bool, true, false}
use Prim.Native.Nat.{ℕ, ◌≤◌, ◌<◌}
use native.Mathlib.Omega.{arith}
use borrow.Author.Tests.{lt-ltb, le-ltb}
use Rattle.std.proofs.Common.{Option, Some, None}
use Rattle.std.specs.Option.{MatchOption}
use Rattle.table.specs.Folds.{seek, below}
use Rattle.table.proofs.Folds.{seek_is, seek_not}

-- the first number below n at which f holds
pub below_found : (f : ℕ → Bool) (n : ℕ) (r : Option ℕ)
    → MatchOption r ((k : ℕ) → 0 ≤ k → k < n → f k ≡ false) (λ i. (0 ≤ i) × (i < n) × (f i ≡ true) × ((k : ℕ) → 0 ≤ k → k < i → f k ≡ false))
    → r ≡ below n (seek f n)
below_found f n None h = rw (seek_not f n (λ j l. h j (omega arith) l), le-ltb n n (omega arith))
below_found f n (Some i) h = rw (seek_is f n i h.1 h.2 (λ j l. h.3 j (omega arith) l), lt-ltb i n h.1)
