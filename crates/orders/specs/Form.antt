-- Document 01, "Order forms and the lap": the order form.
-- Assumes nothing.
use Rattle.std.specs.Prelude.{Bool, not, ◌&&◌, List, [], ◌∷◌, ℕ, ◌+◌, ◌*◌, ◌/◌, ◌%◌, eqb, leb, ltb, length, get_or, take, drop}
use Rattle.std.specs.List.{list_all}
use Rattle.bits.specs.Words.{pick, all}
use Rattle.table.specs.Folds.{every, some}
use Rattle.table.specs.Network.{row_limit}

-- "1 to 60 records of 16 bytes": record k
abbrev pub record_bytes : ℕ
record_bytes = 16

unfoldable pub records : List ℕ → ℕ
records order = length order / record_bytes

unfoldable pub record_at : List ℕ → ℕ → List ℕ
record_at order k = take record_bytes (drop (record_bytes * k) order)

-- "mark 4F 52, node ID 1-255, flags (bit 0 receive on, bit 1 long), name of 12 bytes"
abbrev pub mark : List ℕ
mark = 0x4f ∷ 0x52 ∷ []

abbrev pub id_of : List ℕ → ℕ
id_of r = get_or r 2 0

abbrev pub flags_of : List ℕ → ℕ
flags_of r = get_or r 3 0

abbrev pub name_of : List ℕ → List ℕ
name_of r = drop 4 r

abbrev pub RECEIVE : ℕ
RECEIVE = 1

abbrev pub LONG : ℕ
LONG = 2

-- "20-7E hex"
abbrev pub printable : ℕ → Bool
printable x = leb 0x20 x && leb x 0x7e

abbrev pub printables : List ℕ → Bool
printables l = list_all printable l

-- ---- an order as it has to be
-- "1 to 60 records of 16 bytes"
unfoldable pub length_fits : List ℕ → Bool
length_fits order = eqb (length order % record_bytes) 0 && ltb 0 (records order) && leb (records order) row_limit

-- "mark 4F 52", "node ID 1-255", "flags (bit 0 receive on, bit 1 long)", "20-7E hex, first not a space"
abbrev pub marked : List ℕ → Bool
marked r = eqb (get_or r 0 0) (get_or mark 0 0) && eqb (get_or r 1 0) (get_or mark 1 0)

abbrev pub id_fits : List ℕ → Bool
id_fits r = leb 1 (id_of r)

abbrev pub flags_fit : List ℕ → Bool
flags_fit r = leb (flags_of r) 3

abbrev pub name_fits : List ℕ → Bool
name_fits r = not (eqb (get_or r 4 0) 0x20) && printables (name_of r)

unfoldable pub record_fits : List ℕ → Bool
record_fits r = all (marked r ∷ id_fits r ∷ flags_fit r ∷ name_fits r ∷ [])

-- "IDs differ": a record whose ID a record before it has repeats it
abbrev pub id_at : List ℕ → ℕ → ℕ
id_at order k = id_of (record_at order k)

unfoldable pub repeats : List ℕ → ℕ → Bool
repeats order k = some (λ j. eqb (id_at order j) (id_at order k)) k

-- each record fits, and none repeats an ID
unfoldable pub order_fits : List ℕ → Bool
order_fits order =
    length_fits order && every (λ k. record_fits (record_at order k)) (records order) && every (λ k. not (repeats order k)) (records order)

-- "name without trailing spaces"
abbrev pub spaces : List ℕ → Bool
spaces l = list_all (λ x. eqb x 0x20) l

unfoldable pub trimmed : List ℕ → List ℕ
trimmed [] = []
trimmed (x ∷ l) = pick (spaces (x ∷ l)) [] (x ∷ trimmed l)

-- "mark 4F 52, node ID 1-255, flags (..), name of 12 bytes": where in the order the name of record k starts
abbrev pub name_from : ℕ → ℕ
name_from k = record_bytes * k + 4

-- the name of record k; nothing where there is no such record
unfoldable pub name_at : List ℕ → ℕ → List ℕ
name_at order k = pick (ltb k (records order)) (trimmed (name_of (record_at order k))) []
