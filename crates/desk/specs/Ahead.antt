-- Request C-13, "Register 4 reads ahead": what a driver reads, whatever calls come between, and which of them fetch.
-- Assumes nothing.
use Rattle.std.specs.Prelude.{◌≡◌, Bool, true, false, ◌&&◌, List, [], ◌∷◌, ℕ, ◌<◌, eqb, get_or}
use Rattle.bits.specs.Words.{has}
use Rattle.bits.specs.Flags.{AUTO_INC}
use Rattle.registers.specs.Layout.{at_fetched}
use Rattle.card.specs.Access.{ram_at, Current}
use Rattle.table.specs.Rows.{row_at}
use Rattle.table.specs.Network.{Bytes, rows, regs_at, shape}
use Rattle.table.specs.Calls.{net_reading, net_after_read, net_write_number, net_after_write, net_after_reset}
use Rattle.desk.specs.Host.{Call, At, Read, Write, Reset, Timer, Interrupt, Data, DataNumber, Step, Lap, called, table}

-- "row byte 32" of row k, and the RAM byte at its pointer
abbrev pub fetched_at : List ℕ → ℕ → ℕ
fetched_at net k = get_or (row_at net k) at_fetched 0

abbrev pub pointed_at : List ℕ → ℕ → ℕ
pointed_at net k = ram_at (row_at net k) (regs_at net k)

-- the calls that set it: "Only a pointer load or an incremented read fetches", and "Hardware reset sets it to 0"
abbrev pub sets : ℕ → Call → List ℕ → Bool
sets k (At j (Read g)) net = eqb j k && (eqb g 4 && has AUTO_INC (regs_at net k).mode)
sets k (At j (Write g v _)) net = eqb j k && eqb g 3
sets k (At j Reset) net = eqb j k
sets k (At j Timer) net = false
sets k (At j Interrupt) net = false
sets k (At j (Data p)) net = false
sets k (At j (DataNumber p)) net = false
sets k (Step fault) net = false
sets k (Lap room) net = false

-- none of these calls, each given the network as the last one left it, sets it
unfoldable pub NoneSets : ℕ → List Call → List ℕ → Type 0
NoneSets k [] net = Unit {0}
NoneSets k (c ∷ l) net = (sets k c net ≡ false) × NoneSets k l (called c net)

-- row k of a network
pub record Ahead (net : List ℕ) (k : ℕ) : Type 0 where
  -- "So a read answers the fetched byte"
  pub answers : (net_reading net k 4).number ≡ 0 → (net_reading net k 4).value ≡ fetched_at net k
  -- "the card fetches the byte when the low pointer is loaded", which is never refused, whatever RDDATA is, "and again after an incremented read": the byte at the
  -- pointer as that leaves it
  pub taken : (v : ℕ) → net_write_number net k 3 v ≡ 0
  pub loaded : (v : ℕ) → Current (row_at (net_after_write net k 3 v) k)
  pub read_on : (net_reading net k 4).number ≡ 0 → has AUTO_INC (regs_at net k).mode ≡ true → Current (row_at (net_after_read net k 4) k)
  -- "without AUTO-INC the same byte is read again": no byte has changed
  pub again : has AUTO_INC (regs_at net k).mode ≡ false → net_after_read net k 4 ≡ net
  -- "Hardware reset sets it to 0"; each other call leaves it, a software reset, a write of register 4 and a step that stores a packet over the RAM byte among them
  pub reset : fetched_at (net_after_reset net k) k ≡ 0
  pub kept : (c : Call) → sets k c net ≡ false → fetched_at (called c net) k ≡ fetched_at net k
  -- "even if a packet has since been stored over it": after a load, and any calls of which none sets it, a read answers the RAM byte as the load found it
  pub old_byte : (v : ℕ) → v < 256 → (l : List Call) → NoneSets k l (net_after_write net k 3 v)
      → let new = table l (net_after_write net k 3 v) in (net_reading new k 4).number ≡ 0 → (net_reading new k 4).value ≡ pointed_at (net_after_write net k 3 v) k
  -- document 01's "Register 4 reads .. the RAM byte at the pointer", where that byte is as it was fetched
  pub as_before : Current (row_at net k) → (net_reading net k 4).number ≡ 0 → (net_reading net k 4).value ≡ pointed_at net k

abbrev pub ReadsAhead : Type 0
ReadsAhead = (net : List ℕ) → Bytes net → shape net ≡ true → (k : ℕ) → k < rows net → Ahead net k
