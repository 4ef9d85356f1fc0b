-- Document 01, "The saved network": the header, the rows, and when a network is well formed.
-- Assumes nothing.
use Rattle.std.specs.Prelude.{◌≡◌, Bool, true, not, ◌&&◌, List, [], ◌∷◌, ℕ, zero, suc, ◌<◌, eqb, leb, ltb, length, get_or, set, take, drop}
use Rattle.registers.specs.declared.regs.Regs.{Regs}
use Rattle.bits.specs.Words.{pick, all}
use Rattle.card.specs.Row.{regs_of, put_regs, zeros, well_formed}
use Rattle.registers.specs.Fit.{on_line}
use Rattle.card.specs.Moves.{OnlyAt}
use Rattle.table.specs.Folds.{every, some, seek}
use Rattle.table.specs.Rows.{header_bytes, row_at, rows_end}

-- "Header, 16 bytes: mark 41 4E hex; byte 2 = 1; byte 3 = rows n, 1 to 60; byte 4 = phase (0 LOST, 1 PASS, 2 TAKEN); byte 5 = holder row,
-- 0 in LOST; 6-15 zero."
abbrev pub mark : List ℕ
mark = 0x41 ∷ 0x4e ∷ []

abbrev pub row_limit : ℕ
row_limit = 60

abbrev pub rows : List ℕ → ℕ
rows net = get_or net 3 0

abbrev pub phase : List ℕ → ℕ
phase net = get_or net 4 0

abbrev pub holder : List ℕ → ℕ
holder net = get_or net 5 0

abbrev pub LOST : ℕ
LOST = 0

abbrev pub PASS : ℕ
PASS = 1

abbrev pub TAKEN : ℕ
TAKEN = 2

-- what a lent `[u8]` is by its type: of bytes
abbrev pub Bytes : List ℕ → Type 0
Bytes net = (i : ℕ) → get_or net i 0 < 256

-- the network in another phase, with another holder
unfoldable pub turned : List ℕ → ℕ → ℕ → List ℕ
turned net p h = set (set net 4 p) 5 h

-- a function done to a row's registers
abbrev pub on_regs : (Regs → Regs) → List ℕ → List ℕ
on_regs f r = put_regs r (f (regs_of r))

abbrev pub regs_at : List ℕ → ℕ → Regs
regs_at net k = regs_of (row_at net k)

-- row k is on line; row k is on line with the ID i
unfoldable pub on_line_at : List ℕ → ℕ → Bool
on_line_at net k = on_line (regs_at net k)

unfoldable pub is_node : List ℕ → ℕ → ℕ → Bool
is_node net i k = on_line_at net k && eqb (regs_at net k).id i

-- the on-line row with the ID i, other than row x; n where there is none among the first n
unfoldable pub node_of : List ℕ → ℕ → ℕ → ℕ → ℕ
node_of net i x n = seek (λ k. is_node net i k && not (eqb k x)) n

-- the highest ID on line among the first n rows; 0 where nobody is on line
unfoldable pub top_id : List ℕ → ℕ → ℕ
top_id net zero = 0
top_id net (suc k) = pick (on_line_at net k && ltb (top_id net k) (regs_at net k).id) (regs_at net k).id (top_id net k)

-- ---- when a network is well formed: its header as above and its length that of its rows
unfoldable pub header_fits : List ℕ → Bool
header_fits net =
    all
    (eqb (get_or net 0 0) (get_or mark 0 0) ∷ eqb (get_or net 1 0) (get_or mark 1 0) ∷ eqb (get_or net 2 0) 1 ∷ ltb 0 (rows net) ∷ leb (rows net) row_limit
    ∷ ltb (phase net) 3 ∷ zeros (take 10 (drop 6 net)) ∷ rows_end net (rows net) ∷ [])

-- each row is well formed by itself
unfoldable pub rows_fit : List ℕ → ℕ → Bool
rows_fit net n = every (λ k. well_formed (row_at net k)) n

-- "on-line IDs differ pairwise": no on-line row has the ID of an on-line row before it
unfoldable pub ids_differ : List ℕ → ℕ → Bool
ids_differ net n = every (λ k. not (on_line_at net k && some (is_node net (regs_at net k).id) k)) n

-- "outside LOST the holder is on line"; "holder row, 0 in LOST"
unfoldable pub holder_fits : List ℕ → Bool
holder_fits net = pick (eqb (phase net) LOST) (eqb (holder net) 0) (ltb (holder net) (rows net) && on_line_at net (holder net))

-- a network that SHAPE does not refuse
unfoldable pub shape : List ℕ → Bool
shape net = leb header_bytes (length net) && header_fits net && rows_fit net (rows net) && ids_differ net (rows net) && holder_fits net

-- ---- two networks with the same nodes on line: as many rows, the same rows on line, each with the ID that it had
pub record SameNodes (net new : List ℕ) : Type 0 where
  pub count : rows new ≡ rows net
  pub online : (k : ℕ) → k < rows net → on_line_at new k ≡ on_line_at net k
  pub id : (k : ℕ) → k < rows net → on_line_at net k ≡ true → (regs_at new k).id ≡ (regs_at net k).id

-- ---- two networks of one length, whose headers are the same but for phase and holder
pub record SameFrame (net new : List ℕ) : Type 0 where
  pub size : length new ≡ length net
  pub header : (i : ℕ) → i < header_bytes → (i ≡ 4 → ⊥) → (i ≡ 5 → ⊥) → get_or new i 0 ≡ get_or net i 0

-- and whose rows are the same but for row k, of which only the bytes that `moves` names may differ
pub record OnlyRow (net new : List ℕ) (k : ℕ) (moves : ℕ → Bool) : Type 0 where
  pub frame : SameFrame net new
  pub others : (j : ℕ) → j < rows net → (j ≡ k → ⊥) → row_at new j ≡ row_at net j
  pub row : OnlyAt moves (row_at net k) (row_at new k)
