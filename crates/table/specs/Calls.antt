-- Document 01, "Registers" and "Packets", for a row of a network: each call's answer and the bytes after it.
-- Assumes nothing.
use Rattle.std.specs.Prelude.{Bool, false, not, Result, Ok, Err, ◌&&◌, ◌||◌, List, [], ◌∷◌, ◌++◌, ℕ, ◌+◌, ◌*◌, eqb, leb, ltb, length, replicate}
use Rattle.bits.specs.Words.{pick, among}
use Rattle.told.specs.declared.refusals.Refusal as kinds
use Rattle.told.specs.Refusals.{number_of}
use Rattle.told.specs.Numbers.{DONE, SHAPE, ROW, VALUE, NOTREADY, DUPLICATE, ROOM, Refusal, ◌when◌, told}
use Rattle.registers.specs.Fit.{on_line}
use Rattle.registers.specs.Registers.{interrupt, after_write}
use Rattle.registers.specs.Layout.{at_diagnostic, reset_bytes}
use Rattle.registers.specs.Sides.{chaining}
use Rattle.registers.specs.Refusals.{read_refusals, write_refusals}
use Rattle.card.specs.Row.{row_bytes}
use Rattle.card.specs.Access.{value_read, row_after_read, row_after_write, row_after_reset, fresh_row}
use Rattle.card.specs.Moves.{write_moves}
use Rattle.card.specs.Packets.{data_refusals, data_from, page_data}
use Rattle.registers.specs.Events.{burst}
use Rattle.table.specs.Rows.{header_bytes, row_start, row_at, set_row, joined}
use Rattle.table.specs.Network.{mark, row_limit, rows, phase, holder, LOST, turned, on_regs, regs_at, on_line_at, node_of, shape}

-- "1 SHAPE", "2 ROW: row not below n": the refusals of every call to a row, before its own
unfoldable pub place_refusals : List ℕ → ℕ → List Refusal
place_refusals net k = SHAPE when not (shape net) ∷ ROW when leb (rows net) k ∷ []

unfoldable pub place_number : List ℕ → ℕ → ℕ
place_number net k = told (place_refusals net k)

-- ---- reading
abbrev pub net_read_refusals : List ℕ → ℕ → ℕ → List Refusal
net_read_refusals net k g = place_refusals net k ++ read_refusals (regs_at net k) g

unfoldable pub net_read_number : List ℕ → ℕ → ℕ → ℕ
net_read_number net k g = told (net_read_refusals net k g)

-- what a read tells: its number, and the value
pub record Reading : Type 0 where
  pub number : ℕ
  pub value : ℕ

-- "A refusal returns 0 .. beside its number"
abbrev pub reading : Result ℕ kinds.Refusal → Reading
reading (Ok v) = record { number = DONE; value = v }
reading (Err e) = record { number = number_of e; value = 0 }

unfoldable pub net_reading : List ℕ → ℕ → ℕ → Reading
net_reading net k g = record { number = net_read_number net k g; value = pick (eqb (net_read_number net k g) 0) (value_read (row_at net k) g) 0 }

unfoldable pub net_after_read : List ℕ → ℕ → ℕ → List ℕ
net_after_read net k g = pick (eqb (net_read_number net k g) 0) (set_row net k (row_after_read (row_at net k) g)) net

-- ---- going on line and off line
-- "A holder that goes off line leaves LOST"
abbrev pub is_holder : List ℕ → ℕ → Bool
is_holder net k = not (eqb (phase net) LOST) && eqb (holder net) k

-- "A row that comes on line bursts: its MYRECON is set, the phase becomes LOST": row k, as a call has left it, was on line before it or not
unfoldable pub settled : List ℕ → ℕ → Bool → List ℕ
settled net k was =
    pick (on_line_at net k)
    (pick was net (turned (set_row net k (on_regs burst (row_at net k))) LOST 0))
    (pick (was && is_holder net k) (turned net LOST 0) net)

-- ---- writing
-- "10 DUPLICATE: a write would put a second on-line row on one ID"
unfoldable pub duplicate : List ℕ → ℕ → ℕ → ℕ → Bool
duplicate net k g v =
    on_line (after_write (regs_at net k) g v) && ltb (node_of net (after_write (regs_at net k) g v).id k (rows net)) (rows net)

abbrev pub row_write_refusals : List ℕ → ℕ → ℕ → ℕ → List Refusal
row_write_refusals net k g v = write_refusals (regs_at net k) g v ++ (DUPLICATE when duplicate net k g v ∷ [])

abbrev pub net_write_refusals : List ℕ → ℕ → ℕ → ℕ → List Refusal
net_write_refusals net k g v = place_refusals net k ++ row_write_refusals net k g v

unfoldable pub net_write_number : List ℕ → ℕ → ℕ → ℕ → ℕ
net_write_number net k g v = told (net_write_refusals net k g v)

unfoldable pub net_after_write : List ℕ → ℕ → ℕ → ℕ → List ℕ
net_after_write net k g v =
    pick (eqb (net_write_number net k g v) 0)
    (settled (set_row net k (row_after_write (row_at net k) g v)) k (on_line_at net k)) net

-- the bytes of row k that a write may move: those of the register, and MYRECON's where the row comes on line
abbrev pub net_write_moves : List ℕ → ℕ → ℕ → ℕ → ℕ → Bool
net_write_moves net k g v i =
    write_moves (row_at net k) g i || not (on_line_at net k) && on_line (after_write (regs_at net k) g v) && eqb i at_diagnostic

-- ---- hardware reset, timer, interrupt
unfoldable pub net_after_reset : List ℕ → ℕ → List ℕ
net_after_reset net k = pick (eqb (place_number net k) 0) (settled (set_row net k (row_after_reset (row_at net k))) k (on_line_at net k)) net

-- the bytes of row k that it may move
abbrev pub reset_moves : List ℕ → ℕ → ℕ → Bool
reset_moves net k = among (reset_bytes (chaining (regs_at net k)))

-- "5 NOTREADY: .. timer on a row not on line"
abbrev pub timer_refusals : List ℕ → ℕ → List Refusal
timer_refusals net k = place_refusals net k ++ (NOTREADY when not (on_line_at net k) ∷ [])

unfoldable pub timer_number : List ℕ → ℕ → ℕ
timer_number net k = told (timer_refusals net k)

-- "A row that comes on line bursts .. So does a timer expiry"
unfoldable pub net_after_timer : List ℕ → ℕ → List ℕ
net_after_timer net k = pick (eqb (timer_number net k) 0) (turned (set_row net k (on_regs burst (row_at net k))) LOST 0) net

-- what the interrupt call tells: its number, and whether the interrupt is active; false beside a refusal's number
pub record Interrupting : Type 0 where
  pub number : ℕ
  pub active : Bool

abbrev pub interrupting : Result Bool kinds.Refusal → Interrupting
interrupting (Ok b) = record { number = DONE; active = b }
interrupting (Err e) = record { number = number_of e; active = false }

unfoldable pub net_interrupt : List ℕ → ℕ → Interrupting
net_interrupt net k =
    record { number = place_number net k; active = pick (eqb (place_number net k) 0) (interrupt (regs_at net k)) false }

-- ---- the page reader
-- "A reader asks for the data of a page of a row and gets back that stretch of the network itself": where in the network it starts
abbrev pub net_data_from : List ℕ → ℕ → ℕ → ℕ
net_data_from net k p = row_start net k + data_from (row_at net k) p

-- its bytes; "a refusal gives a stretch of length 0"
unfoldable pub net_data : List ℕ → ℕ → ℕ → List ℕ
net_data net k p = pick (eqb (place_number net k) 0) (page_data (row_at net k) p) []

abbrev pub net_data_refusals : List ℕ → ℕ → ℕ → List Refusal
net_data_refusals net k p = place_refusals net k ++ data_refusals (row_at net k) p

unfoldable pub net_data_number : List ℕ → ℕ → ℕ → ℕ
net_data_number net k p = told (net_data_refusals net k p)

-- ---- "The fresh call fills a lent network of exact length for n rows: hardware reset everywhere, RAM zero, LOST"
unfoldable pub fresh_rows : ℕ → List ℕ
fresh_rows n = joined (λ k. fresh_row) 0 n []

unfoldable pub fresh_net : ℕ → List ℕ
fresh_net n = mark ++ (1 ∷ n ∷ replicate 12 0) ++ fresh_rows n

-- the exact length for n rows
unfoldable pub exact_length : ℕ → ℕ
exact_length n = header_bytes + row_bytes * n

-- "4 VALUE: fresh n not 1-60"; "13 ROOM: fresh .. network not of exact length"
unfoldable pub fresh_refusals : List ℕ → ℕ → List Refusal
fresh_refusals net n = VALUE when (eqb n 0 || ltb row_limit n) ∷ ROOM when not (eqb (length net) (exact_length n)) ∷ []

unfoldable pub fresh_number : List ℕ → ℕ → ℕ
fresh_number net n = told (fresh_refusals net n)

unfoldable pub net_after_fresh : List ℕ → ℕ → List ℕ
net_after_fresh net n = pick (eqb (fresh_number net n) 0) (fresh_net n) net
