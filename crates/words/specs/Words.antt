-- The words of a line.
-- Assumes nothing.
use Rattle.std.specs.Prelude.{Bool, true, false, not, ◌&&◌, List, [], ◌∷◌, ℕ, zero, suc, ◌+◌, eqb, length, count_by}
use Rattle.std.specs.Str.{bytes_eq}

abbrev pub pick : {A : Type 0} → Bool → A → A → A
pick true a b = a
pick false a b = b

abbrev pub SPACE : ℕ
SPACE = 0x20

abbrev pub NEWLINE : ℕ
NEWLINE = 0x0a

-- the bytes up to the first `stop`, and those after it
unfoldable pub up_to : ℕ → List ℕ → List ℕ
up_to stop [] = []
up_to stop (b ∷ s) = pick (eqb b stop) [] (b ∷ up_to stop s)

unfoldable pub past : ℕ → List ℕ → List ℕ
past stop [] = []
past stop (b ∷ s) = pick (eqb b stop) s (past stop s)

-- part k, from 0, of those that `stop` separates; nothing where there is no such part
unfoldable pub part : ℕ → List ℕ → ℕ → List ℕ
part stop s zero = up_to stop s
part stop s (suc k) = part stop (past stop s) k

-- where part k starts: past the text's end where there is no such part
unfoldable pub part_from : ℕ → List ℕ → ℕ → ℕ
part_from stop s zero = 0
part_from stop s (suc k) = suc (length (up_to stop s)) + part_from stop (past stop s) k

abbrev pub word : List ℕ → ℕ → List ℕ
word = part SPACE

abbrev pub word_from : List ℕ → ℕ → ℕ
word_from = part_from SPACE

-- one word more than there are spaces
unfoldable pub count : List ℕ → ℕ
count s = count_by (λ b. eqb b SPACE) s + 1

-- no word is empty: none of the bytes that follow a gap is a space, and the last follows none. The line starts with a gap (true)
unfoldable pub spaced : Bool → List ℕ → Bool
spaced gap [] = not gap
spaced gap (b ∷ s) = not (gap && eqb b SPACE) && spaced (eqb b SPACE) s

-- the first of the n lines of a table that has the name as its first word; nothing where none has
unfoldable pub row_of : ℕ → List ℕ → List ℕ → List ℕ
row_of zero table name = []
row_of (suc n) table name =
    pick (bytes_eq (word (up_to NEWLINE table) 0) name) (up_to NEWLINE table) (row_of n (past NEWLINE table) name)

-- a table has no more lines than bytes
unfoldable pub row : List ℕ → List ℕ → List ℕ
row table name = row_of (length table) table name

-- where that line starts: past the table's end where there is none
unfoldable pub row_of_from : ℕ → List ℕ → List ℕ → ℕ
row_of_from zero table name = suc (length table)
row_of_from (suc n) table name =
    pick (bytes_eq (word (up_to NEWLINE table) 0) name) 0 (suc (length (up_to NEWLINE table)) + row_of_from n (past NEWLINE table) name)

unfoldable pub row_from : List ℕ → List ℕ → ℕ
row_from table name = row_of_from (length table) table name
