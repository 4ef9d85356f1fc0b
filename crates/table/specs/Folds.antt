-- Tests and searches over the numbers below a bound.
-- Assumes nothing.
use Rattle.std.specs.Prelude.{Bool, true, false, ◌&&◌, ◌||◌, Option, Some, None, ℕ, zero, suc, eqb, ltb}
use Rattle.bits.specs.Words.{pick}

-- f holds at every number below n; at some number below n
unfoldable pub every : (ℕ → Bool) → ℕ → Bool
every f zero = true
every f (suc k) = every f k && f k

unfoldable pub some : (ℕ → Bool) → ℕ → Bool
some f zero = false
some f (suc k) = some f k || f k

-- the first number below n at which f holds; n where there is none
unfoldable pub seek : (ℕ → Bool) → ℕ → ℕ
seek f zero = zero
seek f (suc k) = pick (ltb (seek f k) k) (seek f k) (pick (f k) k (suc k))

-- what was found, where a search among the first n gave k: nothing where it gave n
abbrev pub below : ℕ → ℕ → Option ℕ
below n k = pick (ltb k n) (Some k) None

-- a number, where 0 stands for none
abbrev pub not_zero : ℕ → Option ℕ
not_zero x = pick (eqb x 0) None (Some x)
