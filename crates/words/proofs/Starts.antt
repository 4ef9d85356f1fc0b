-- A part that has a byte starts within the text, and so does a table's line.
-- Assumes nothing.
use mathlib.Core.Path.{◌≡◌, refl, ap, ◌∙◌}
use mathlib.Core.Bool.{Bool, true, false}
use mathlib.Core.List.{List, [], ◌∷◌}
use Prim.Native.Nat.{ℕ, zero, suc, ◌+◌, ◌≤◌}
use native.Mathlib.Omega.{arith}
use lib.Dec.{eqb}
use lib.ListN.{length}
use Rattle.std.specs.Str.{bytes_eq}
use Rattle.words.specs.Words.{pick, NEWLINE, up_to, past, part, part_from, word, row_of, row, row_of_from, row_from}
use Rattle.words.proofs.Lines.{part_nil}
use Rattle.words.proofs.Tables.{row_nil}

-- where bytes stand past the first stop
module _ (stop : ℕ) where
  stops_cons : (b : ℕ) (s : List ℕ) (t : Bool) → ((past stop s ≡ [] → ⊥) → suc (length (up_to stop s) + length (past stop s)) ≡ length s)
      → (pick t s (past stop s) ≡ [] → ⊥) → suc (length (pick t [] (b ∷ up_to stop s)) + length (pick t s (past stop s))) ≡ suc (length s)
  stops_cons b s true h f = omega arith
  stops_cons b s false h f = omega (arith, h f)

  stops : (s : List ℕ) → (past stop s ≡ [] → ⊥) → suc (length (up_to stop s) + length (past stop s)) ≡ length s
  unfolding up_to past
  stops [] f = absurd (f refl)
  stops (b ∷ s) f = stops_cons b s (eqb b stop) (stops s) f

  pub part_there : (s : List ℕ) (k : ℕ) → (part stop s k ≡ [] → ⊥) → part_from stop s k ≤ length s
  unfolding part part_from
  part_there s zero f = omega arith
  part_there s (suc k) f =
      let g : past stop s ≡ [] → ⊥ = λ e. f (ap (λ (l : List ℕ). part stop l k) e ∙ part_nil stop k) in
      omega (arith, stops s g, part_there (past stop s) k f)

module _ (name : List ℕ) where
  line_there : (n : ℕ) (table : List ℕ) (b : Bool) → ((row_of n (past NEWLINE table) name ≡ [] → ⊥) → row_of_from n (past NEWLINE table) name ≤ length (past NEWLINE table))
      → (pick b (up_to NEWLINE table) (row_of n (past NEWLINE table) name) ≡ [] → ⊥)
      → pick b 0 (suc (length (up_to NEWLINE table)) + row_of_from n (past NEWLINE table) name) ≤ length table
  line_there n table true h f = omega arith
  line_there n table false h f =
      let g : past NEWLINE table ≡ [] → ⊥ = λ e. f (ap (λ (l : List ℕ). row_of n l name) e ∙ row_nil n name) in
      omega (arith, stops NEWLINE table g, h f)

  lines_there : (n : ℕ) (table : List ℕ) → (row_of n table name ≡ [] → ⊥) → row_of_from n table name ≤ length table
  unfolding row_of row_of_from
  lines_there zero table f = absurd (f refl)
  lines_there (suc n) table f = line_there n table (bytes_eq (word (up_to NEWLINE table) 0) name) (lines_there n (past NEWLINE table)) f

  pub row_there : (table : List ℕ) → (row table name ≡ [] → ⊥) → row_from table name ≤ length table
  unfolding row row_from
  row_there table f = lines_there (length table) table f
