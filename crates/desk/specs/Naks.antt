-- Request C-16, "Who refused": what row bytes 33-34 count, whatever calls come.
-- Assumes nothing.
use Rattle.std.specs.Prelude.{◌≡◌, true, false, ◌&&◌, List, [], ◌∷◌, ℕ, zero, suc, ◌<◌, eqb}
use Rattle.bits.specs.Words.{pick, has}
use Rattle.bits.specs.Flags.{EXCNAK}
use Rattle.registers.specs.Naks.{nak_limit, naks, up_to_limit, drops_naks}
use Rattle.registers.specs.Events.{transmitting}
use Rattle.table.specs.Network.{Bytes, rows, regs_at, shape}
use Rattle.table.specs.Calls.{net_write_number}
use Rattle.line.specs.Step.{step}
use Rattle.line.specs.Outcomes.{step_naks}
use Rattle.desk.specs.Lap.{lap_steps, runs}
use Rattle.desk.specs.Host.{Call, At, Read, Write, Reset, Timer, Interrupt, Data, DataNumber, Step, Lap, called, table}

-- "Row bytes 33-34" of row k
abbrev pub naks_at : List ℕ → ℕ → ℕ
naks_at net k = naks (regs_at net k)

-- ---- the NAK answers to the Enable whose transmit waits in row k, since they were last cleared: m of them before a call, and after it
-- n fault-free steps, as a lap makes them
unfoldable pub naks_through : ℕ → ℕ → List ℕ → ℕ → ℕ
naks_through k zero net m = m
naks_through k (suc n) net m = naks_through k n (step net 0).after (step_naks net k (step net 0).answer m)

-- "Clear Flags with bit 3 or reset clears bit and count": a write that is not refused
abbrev pub naks_after : ℕ → Call → List ℕ → ℕ → ℕ
naks_after k (At j (Read g)) net m = m
naks_after k (At j (Write g v _)) net m = pick (eqb j k && (eqb (net_write_number net k g v) 0 && drops_naks g v)) 0 m
naks_after k (At j Reset) net m = pick (eqb j k) 0 m
naks_after k (At j Timer) net m = m
naks_after k (At j Interrupt) net m = m
naks_after k (At j (Data p)) net m = m
naks_after k (At j (DataNumber p)) net m = m
naks_after k (Step fault) net m = step_naks net k (step net fault).answer m
naks_after k (Lap room) net m = pick (runs net room) (naks_through k (lap_steps net) net m) m

unfoldable pub naks_since : ℕ → List Call → List ℕ → ℕ → ℕ
naks_since k [] net m = m
naks_since k (c ∷ l) net m = naks_since k l (called c net) (naks_after k c net m)

-- row k of a network
pub record Counts (net : List ℕ) (k : ℕ) : Type 0 where
  -- before an Enable, with TA 1, nothing is counted
  pub none : transmitting (regs_at net k) ≡ false → naks_at net k ≡ 0
  -- and then the NAK answers to it, "up to 128", whatever calls come: m of them since the Enable, up to 128, are in bytes 33-34 already
  pub counted : (m : ℕ) → naks_at net k ≡ up_to_limit m → (l : List Call) → naks_at (table l net) k ≡ up_to_limit (naks_since k l net m)
  -- "EXCNAK is set in the sender when NAKs to one Enable reach the number", and clear where they have not
  pub excess : has EXCNAK (regs_at net k).diagnostic ≡ eqb (naks_at net k) nak_limit

abbrev pub CountsNaks : Type 0
CountsNaks = (net : List ℕ) → Bytes net → shape net ≡ true → (k : ℕ) → k < rows net → Counts net k
