-- What a line leaves: the lent bytes, and the current length.
-- Assumes nothing.
use Rattle.std.specs.Prelude.{List, ◌++◌, ℕ, Result, Ok, Err, take, drop}
use Rattle.words.specs.Words.{word}
use Rattle.words.specs.Hex.{unhex}
use Rattle.table.specs.Calls.{net_after_read, net_after_reset, net_after_timer, net_after_fresh}
use Rattle.line.specs.Step.{step}
use Rattle.desk.specs.Load.{net_after_load}
use Rattle.desk.specs.Lap.{net_after_lap}
use Rattle.prompt.specs.declared.answers.Mistake.{Mistake}
use Rattle.bench.specs.declared.requests.Call.{Call}
use Rattle.bench.specs.declared.requests.Call.TheVariants.{Size, Poke, Fresh, Load, Read, Write, Reset, Timer, Step, Lap, Peek, Sum, Check, Interrupt, Data, Show, Help}
use Rattle.bench.specs.Calls.{poked, net_after_value}
use Rattle.bench.specs.Requests.{asked}

-- the bytes, and how many of them are lent
pub record Lending : Type 0 where
  pub bytes : List ℕ
  pub size : ℕ

abbrev pub lending : List ℕ → ℕ → Lending
lending bytes size = record { bytes = bytes; size = size }

-- the lent bytes after a call: the digits of `poke` are its line's third word, and those of `load` its second
abbrev pub net_after_call : Call → List ℕ → List ℕ → List ℕ
net_after_call (Poke at) line net = poked net at (unhex (word line 2))
net_after_call (Fresh rows) line net = net_after_fresh net rows
net_after_call Load line net = net_after_load (unhex (word line 1)) net
net_after_call (Read row register) line net = net_after_read net row register
net_after_call (Write row register value) line net = net_after_value net row register value
net_after_call (Reset row) line net = net_after_reset net row
net_after_call (Timer row) line net = net_after_timer net row
net_after_call (Step fault) line net = (step net fault).after
net_after_call (Lap room) line net = net_after_lap net room
net_after_call (Size n) line net = net
net_after_call (Peek at count) line net = net
net_after_call Sum line net = net
net_after_call Check line net = net
net_after_call (Interrupt row) line net = net
net_after_call (Data row page) line net = net
net_after_call Show line net = net
net_after_call Help line net = net

-- the current length after a call
abbrev pub size_after_call : Call → ℕ → ℕ
size_after_call (Size n) size = n
size_after_call _ size = size

-- a mistake leaves all as it was; bytes beyond the current length keep their values
unfoldable pub net_after : Result Call Mistake → List ℕ → ℕ → List ℕ → List ℕ
net_after (Err m) line size net = net
net_after (Ok q) line size net = net_after_call q line (take size net) ++ drop size net

abbrev pub size_after : Result Call Mistake → ℕ → ℕ
size_after (Err m) size = size
size_after (Ok q) size = size_after_call q size

unfoldable pub net_after_line : List ℕ → ℕ → List ℕ → List ℕ
net_after_line line size net = net_after (asked line) line size net

unfoldable pub size_after_line : List ℕ → ℕ → ℕ
size_after_line line size = size_after (asked line) size
