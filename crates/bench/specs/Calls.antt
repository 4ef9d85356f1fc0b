-- The calls that the line and the desk do not have as they are.
-- Assumes nothing.
use Rattle.std.specs.Prelude.{Bool, true, not, List, [], ◌∷◌, ◌++◌, ℕ, ◌+◌, leb, length, take, drop}
use Rattle.bits.specs.Words.{pick}
use Rattle.told.specs.Numbers.{SHAPE, REGISTER, VALUE, Refusal, ◌when◌, told}
use Rattle.registers.specs.declared.regs.Regs.{Regs}
use Rattle.registers.specs.Refusals.{no_register}
use Rattle.table.specs.Network.{regs_at, shape}
use Rattle.table.specs.Calls.{place_refusals, net_write_number, net_after_write}

-- "1 SHAPE", or DONE
abbrev pub shape_refusals : List ℕ → List Refusal
shape_refusals net = SHAPE when not (shape net) ∷ []

unfoldable pub shape_number : List ℕ → ℕ
shape_number net = told (shape_refusals net)

-- "stores bytes at AT, all inside the length"
abbrev pub inside : List ℕ → ℕ → ℕ → Bool
inside net at n = leb (at + n) (length net)

unfoldable pub poked : List ℕ → ℕ → List ℕ → List ℕ
poked net at s = pick (inside net at (length s)) (take at net ++ (s ++ drop (at + length s) net)) net

-- a value above 255 is VALUE, unless SHAPE, ROW or REGISTER is the smaller number
abbrev pub value_refusals : Regs → ℕ → List Refusal
value_refusals g register = REGISTER when no_register g register ∷ VALUE when true ∷ []

abbrev pub wide_refusals : List ℕ → ℕ → ℕ → List Refusal
wide_refusals net row register = place_refusals net row ++ value_refusals (regs_at net row) register

unfoldable pub wide_number : List ℕ → ℕ → ℕ → ℕ
wide_number net row register = told (wide_refusals net row register)

-- a write of any number
unfoldable pub value_number : List ℕ → ℕ → ℕ → ℕ → ℕ
value_number net row register value = pick (leb value 255) (net_write_number net row register value) (wide_number net row register)

unfoldable pub net_after_value : List ℕ → ℕ → ℕ → ℕ → List ℕ
net_after_value net row register value = pick (leb value 255) (net_after_write net row register value) net
