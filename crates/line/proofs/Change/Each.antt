-- A pass over the rows that makes of each what a function does.
-- Assumes nothing.
use mathlib.Core.Path.{◌≡◌, ◌∙◌}
use mathlib.Core.List.{List}
use Prim.Native.Nat.{ℕ, ◌<◌}
use native.Mathlib.Omega.{arith}
use Rattle.table.specs.Rows.{row_at, each_row}
use Rattle.table.specs.Walk.{EachChanged}
use Rattle.table.proofs.Rows.WithRows.{with_ext}

pub each_is :
    (becomes : ℕ → List ℕ → List ℕ → Type 0) (f : ℕ → List ℕ → List ℕ) (net new : List ℕ) (n m : ℕ) → n ≡ m → EachChanged becomes net new n →
    ((k : ℕ) (r : List ℕ) → k < m → becomes k (row_at net k) r → r ≡ f k (row_at net k)) → new ≡ each_row f net m
unfolding each_row
each_is becomes f net new n m q e h = rw q at e.is ∙ with_ext net m e.row (λ k. f k (row_at net k)) (λ k l. h k (e.row k) l (e.changed k (omega (arith, q, l))))
