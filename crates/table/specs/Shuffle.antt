-- Request C-24: "the rows of a well-formed network are put in another order, each row whole".
-- Assumes nothing.
use Rattle.std.specs.Prelude.{◌≡◌, List, ℕ, ◌≤◌, eqb}
use Rattle.bits.specs.Words.{pick}
use Rattle.table.specs.Rows.{row_at, with_rows}
use Rattle.table.specs.Network.{phase, holder, LOST, turned}

-- another order of n rows: row k goes to the place `to k`, and the place j has the row `from j`. The row numbers below n are renamed, one to one, and no other is
pub record Shuffle (n : ℕ) : Type 0 where
  pub to : ℕ → ℕ
  pub from : ℕ → ℕ
  pub undone : (k : ℕ) → from (to k) ≡ k
  pub redone : (j : ℕ) → to (from j) ≡ j
  pub past : (k : ℕ) → n ≤ k → to k ≡ k

-- the network in that order: each row whole, "and (outside LOST) the holder renamed alike"; in LOST it stays zero
unfoldable pub shuffled : {n : ℕ} → Shuffle n → List ℕ → List ℕ
shuffled {n} q net = turned (with_rows net n (λ j. row_at net (q.from j))) (phase net) (pick (eqb (phase net) LOST) 0 (q.to (holder net)))
