-- Document 01, "The saved network": where the rows stand, a row, and the network with other rows.
-- Assumes nothing.
use Rattle.std.specs.Prelude.{Bool, List, ◌++◌, ℕ, zero, suc, ◌+◌, eqb, length, take, drop}
use Rattle.card.specs.Row.{row_size}

-- "Header, 16 bytes", and then "n rows of 1,088 bytes": each as long as its mark says, and there is one mark
abbrev pub header_bytes : ℕ
header_bytes = 16

-- where row k starts, found by walking over the rows before it; its part; and the network with another row k
unfoldable pub row_start : List ℕ → ℕ → ℕ
row_start net zero = header_bytes
row_start net (suc k) = row_start net k + row_size (drop (row_start net k) net)

unfoldable pub row_at : List ℕ → ℕ → List ℕ
row_at net k = take (row_size (drop (row_start net k) net)) (drop (row_start net k) net)

unfoldable pub set_row : List ℕ → ℕ → List ℕ → List ℕ
set_row net k r = take (row_start net k) net ++ (r ++ drop (row_size (drop (row_start net k) net)) (drop (row_start net k) net))

-- the bytes end where the first n rows end
abbrev pub rows_end : List ℕ → ℕ → Bool
rows_end net n = eqb (length net) (row_start net n)

-- m rows one after the other, g k, g (k + 1), .., and then t
unfoldable pub joined : (ℕ → List ℕ) → ℕ → ℕ → List ℕ → List ℕ
joined g k zero t = t
joined g k (suc m) t = g k ++ joined g (suc k) m t

-- the network with other rows: its first n rows are g 0, g 1, ..
unfoldable pub with_rows : List ℕ → ℕ → (ℕ → List ℕ) → List ℕ
with_rows net n g = take header_bytes net ++ joined g 0 n (drop (row_start net n) net)

-- a function of a row and its number, done to each of the first n rows
unfoldable pub each_row : (ℕ → List ℕ → List ℕ) → List ℕ → ℕ → List ℕ
each_row f net n = with_rows net n (λ k. f k (row_at net k))
