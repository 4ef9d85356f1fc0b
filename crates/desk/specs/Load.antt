-- Document 01, "Order forms and the lap": loading.
-- Assumes nothing.
use Rattle.std.specs.Prelude.{not, List, [], ◌∷◌, ℕ, zero, suc, eqb, length}
use Rattle.bits.specs.Words.{pick, has}
use Rattle.told.specs.Numbers.{ROOM, Refusal, ◌when◌, told_after}
use Rattle.table.specs.Calls.{exact_length, net_after_write, net_after_fresh}
use Rattle.orders.specs.Form.{records, record_at, id_at, flags_of, RECEIVE, LONG}
use Rattle.orders.specs.Check.{Checked, tells, checked}

-- "per row in order: configuration 19, node ID, command 0D if long, command 84 if receive on, configuration 38": each is the register write itself
abbrev pub set19 : List ℕ → ℕ → List ℕ
set19 net k = net_after_write net k 6 0x19

abbrev pub set_id : List ℕ → ℕ → ℕ → List ℕ
set_id net k i = net_after_write net k 7 i

abbrev pub set_long : List ℕ → ℕ → ℕ → List ℕ
set_long net k flags = pick (has LONG flags) (net_after_write net k 1 0x0d) net

abbrev pub set_receive : List ℕ → ℕ → ℕ → List ℕ
set_receive net k flags = pick (has RECEIVE flags) (net_after_write net k 1 0x84) net

abbrev pub set38 : List ℕ → ℕ → List ℕ
set38 net k = net_after_write net k 6 0x38

unfoldable pub loaded_row : List ℕ → ℕ → (id flags : ℕ) → List ℕ
loaded_row net k id flags = set38 (set_receive (set_long (set_id (set19 net k) k id) k flags) k flags) k

-- a row for each of the first n records
unfoldable pub loaded_rows : List ℕ → List ℕ → ℕ → List ℕ
loaded_rows order net zero = net
loaded_rows order net (suc k) = loaded_row (loaded_rows order net k) k (id_at order k) (flags_of (record_at order k))

-- "13 ROOM: .. loaded network not of exact length"
abbrev pub room_refusals : List ℕ → List ℕ → List Refusal
room_refusals order net = ROOM when not (eqb (length net) (exact_length (records order))) ∷ []

-- C-12, "all before ROOM": what is told of the order stands, and ROOM names no record. The one call whose smallest number need not win
unfoldable pub loading : List ℕ → List ℕ → Checked
loading order net = tells (told_after (checked order).number (room_refusals order net)) (checked order).bad

abbrev pub load_number : List ℕ → List ℕ → ℕ
load_number order net = (loading order net).number

-- "Loading does so with a row for each record": the fresh call, and then the rows
unfoldable pub net_after_load : List ℕ → List ℕ → List ℕ
net_after_load order net = pick (eqb (load_number order net) 0) (loaded_rows order (net_after_fresh net (records order)) (records order)) net
