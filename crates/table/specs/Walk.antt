-- A walk over the rows of a network, one after the other.
-- Assumes nothing.
use Rattle.std.specs.Prelude.{◌≡◌, Option, List, ℕ, ◌+◌, ◌≤◌, ◌<◌, length, MatchOption}
use Rattle.std.specs.Borrow.{Bor}
use Rattle.places.specs.Places.{onward}
use Rattle.card.specs.Row.{register_bytes, Whole}
use Rattle.table.specs.Rows.{row_start, row_at, with_rows}

-- the first `count` rows of the network at `place` are gone over, and `passed` of them are behind
pub record Walk : Type 0 where
  pub place : ℕ × ℕ
  pub net : List ℕ
  pub passed : ℕ
  pub count : ℕ

-- where it begins
abbrev pub walk : ℕ × ℕ → List ℕ → ℕ → Walk
walk place net n = record { place = place; net = net; passed = 0; count = n }

-- one turn: the row whose number is `passed`, where it stands in the network; or none is left
abbrev pub next_row : Walk → Option (Bor (List ℕ)) → Walk → Type 0
next_row s r t =
    MatchOption r ((s.passed ≡ s.count) × (t ≡ s))
    (λ row. (s.passed < s.count) × (t ≡ record { place = s.place; net = s.net; passed = s.passed + 1; count = s.count }) × (row.now ≡ row_at s.net s.passed)
    × (Whole row.now) × (register_bytes ≤ length row.now) × (row.ref_ptr ≡ onward s.place (row_start s.net s.passed)))

-- each of the first n rows has become another, as `becomes` says of its number, of what it was and of what it is
pub record EachChanged (becomes : ℕ → List ℕ → List ℕ → Type 0) (net new : List ℕ) (n : ℕ) : Type 0 where
  pub row : ℕ → List ℕ
  pub changed : (k : ℕ) → k < n → becomes k (row_at net k) (row k)
  pub is : new ≡ with_rows net n row
