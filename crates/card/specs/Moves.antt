-- "No other byte moves", for one card's row; and a page that holds what another card sent.
-- Assumes nothing.
use Rattle.std.specs.Prelude.{◌≡◌, Bool, false, ◌&&◌, ◌||◌, List, ℕ, ◌+◌, eqb, leb, ltb, length, get_or}
use Rattle.card.specs.declared.packets.Shape.{Shape}
use Rattle.bits.specs.Words.{among}
use Rattle.registers.specs.Layout.{write_changes}
use Rattle.card.specs.Row.{regs_of}
use Rattle.card.specs.Access.{pointed}
use Rattle.card.specs.Packets.{data_at, head_bytes, page_bytes, page_at, destination, data_number, page_data}

-- a row before and after: as long, and the same at every place where `moves` does not hold
pub record OnlyAt (moves : ℕ → Bool) (r s : List ℕ) : Type 0 where
  pub size : length s ≡ length r
  pub same : (i : ℕ) → moves i ≡ false → get_or s i 0 ≡ get_or r i 0

-- what a write of register k may move: the register bytes, and "4 .. writes the RAM byte at the pointer"
abbrev pub write_moves : List ℕ → ℕ → ℕ → Bool
write_moves r k i = among (write_changes (regs_of r) k) i || eqb k 4 && eqb i (pointed r)

-- "SID, DID, COUNT byte or bytes and data go to the same offsets of the receive page, the gap is untouched": the places of a packet of that shape in the
-- page that starts at a
abbrev pub in_packet : ℕ → Shape → ℕ → Bool
in_packet a s i = leb a i && ltb i (a + head_bytes s) || leb (a + data_at s) i && ltb i (a + page_bytes s)

-- page q of the row s holds what the row r sends from page p: it is read back byte for byte, with the sender's ID at byte 0 and the DID behind it
pub record Holds (r : List ℕ) (p : ℕ) (s : List ℕ) (q : ℕ) : Type 0 where
  pub readable : data_number s q ≡ 0
  pub bytes : page_data s q ≡ page_data r p
  pub sid : get_or s (page_at s q) 0 ≡ (regs_of r).id
  pub did : destination s q ≡ destination r p
