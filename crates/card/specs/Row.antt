-- Document 01, "The saved network": a row, its register bytes, and when it is well formed.
-- Assumes nothing.
use Rattle.std.specs.Prelude.{◌≡◌, Bool, ◌&&◌, List, [], ◌∷◌, ℕ, ◌+◌, ◌-◌, eqb, length, get_or, take, drop}
use Rattle.std.specs.List.{list_all}
use Rattle.std.proofs.lemmas.List.Edits.{sets}
use Rattle.registers.specs.declared.regs.Regs.{Regs}
use Rattle.registers.specs.Registers.{ram_bytes}
use Rattle.registers.specs.Layout.{at_id, at_status, at_diagnostic, at_mask, at_configuration, at_setup, at_tentative, at_nid, at_high, at_low, at_mode, at_transmit, at_receive, at_long, at_second_transmit, at_second_receive, at_sent, at_received, at_fetched, at_nak_low, at_nak_high, bytes_of, later_of}
use Rattle.registers.specs.Fit.{fit}

-- "n rows of 1,088 bytes: 64 of registers, then 1,024 of RAM"
abbrev pub register_bytes : ℕ
register_bytes = 64

abbrev pub row_bytes : ℕ
row_bytes = register_bytes + ram_bytes

-- "Register bytes of a row: 0-1 mark 4E 44"
abbrev pub mark : List ℕ
mark = 0x4e ∷ 0x44 ∷ []

-- the length of the row that these bytes begin with, as its mark says. There is one kind of row: bytes with another mark, which no well-formed row
-- has, are taken for a row of that kind
unfoldable pub row_size : List ℕ → ℕ
row_size r = row_bytes

-- a row that is as long as its mark says
abbrev pub Whole : List ℕ → Type 0
Whole r = length r ≡ row_size r

-- the registers at their bytes
unfoldable pub regs_of : List ℕ → Regs
regs_of r = record {
  id = get_or r at_id 0;
  status = get_or r at_status 0;
  diagnostic = get_or r at_diagnostic 0;
  mask = get_or r at_mask 0;
  configuration = get_or r at_configuration 0;
  setup = get_or r at_setup 0;
  tentative = get_or r at_tentative 0;
  nid = get_or r at_nid 0;
  high = get_or r at_high 0;
  low = get_or r at_low 0;
  mode = get_or r at_mode 0;
  transmit = record { oldest = get_or r at_transmit 0; second = get_or r at_second_transmit 0; done = get_or r at_sent 0 };
  receive = record { oldest = get_or r at_receive 0; second = get_or r at_second_receive 0; done = get_or r at_received 0 };
  long = get_or r at_long 0;
  later = record { fetched = get_or r at_fetched 0; naklow = get_or r at_nak_low 0; nakhigh = get_or r at_nak_high 0 };
}

-- the row with the registers g at those bytes
unfoldable pub put_regs : List ℕ → Regs → List ℕ
put_regs r g = sets (sets r at_id (bytes_of g)) at_fetched (later_of g)

-- "16-63 zero", but where registers are
unfoldable pub zeros : List ℕ → Bool
zeros = list_all (λ x. eqb x 0)

abbrev pub stretch : ℕ → ℕ → List ℕ → List ℕ
stretch a b r = take (b - a) (drop a r)

unfoldable pub spare : List ℕ → Bool
spare r = zeros (stretch (1 + at_received) at_fetched r) && zeros (stretch (1 + at_nak_high) register_bytes r)

unfoldable pub marked : List ℕ → Bool
marked r = eqb (get_or r 0 0) (get_or mark 0 0) && eqb (get_or r 1 0) (get_or mark 1 0)

-- a row's own well-formedness
unfoldable pub well_formed : List ℕ → Bool
well_formed r = marked r && fit (regs_of r) && spare r
