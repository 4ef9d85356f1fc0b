-- Document 01, "Packets" (001, 000): the shape of a page, the reader, and storing a packet in another page.
-- Assumes nothing.
use Rattle.std.specs.Prelude.{Bool, true, false, ◌&&◌, ◌||◌, List, [], ◌∷◌, ◌++◌, ◌⊎◌, ℕ, ◌+◌, ◌-◌, ◌*◌, ◌≤◌, eqb, leb, ltb, length, get_or, take, drop, replicate, set}
use Rattle.card.specs.declared.packets.Shape.{Shape}
use Rattle.card.specs.declared.packets.Shape.TheVariants.{Malformed, Short, Long}
use Rattle.card.specs.declared.packets.Page.{Page}
use Rattle.card.specs.declared.packets.Packet.{Packet}
use Rattle.bits.specs.Words.{pick, clear}
use Rattle.told.specs.Numbers.{VALUE, Refusal, ◌when◌, told}
use Rattle.card.specs.Row.{register_bytes, regs_of}
use Rattle.registers.specs.declared.regs.Regs.{Regs}

-- "COUNT 3-255: .. COUNT 0, with long packets 1 and an even page: byte 3 is COUNT, 4-255 .. All else is malformed": of the byte
-- at offset 2, the one after it, and whether the page may be long
unfoldable pub shape_of : ℕ → ℕ → Bool → Shape
shape_of count next long = pick (leb 3 count) (Short count) (pick (eqb count 0 && long && leb 4 next) (Long next) Malformed)

-- "N = 256 - COUNT", "N = 512 - COUNT"
abbrev pub data_bytes : Shape → ℕ
data_bytes Malformed = 0
data_bytes (Short c) = 256 - c
data_bytes (Long c) = 512 - c

-- "So N is 1-253 or 257-508; 254, 255 and 256 cannot be sent"
abbrev pub CanBeSent : ℕ → Type 0
CanBeSent n = ((1 ≤ n) × (n ≤ 253)) ⊎ ((257 ≤ n) × (n ≤ 508))

-- the data stand "at page offsets COUNT to 255", or "at COUNT to 511"
abbrev pub data_at : Shape → ℕ
data_at Malformed = 0
data_at (Short c) = c
data_at (Long c) = c

-- "SID, DID, COUNT byte or bytes"
abbrev pub head_bytes : Shape → ℕ
head_bytes Malformed = 0
head_bytes (Short c) = 3
head_bytes (Long c) = 4

abbrev pub page_bytes : Shape → ℕ
page_bytes Malformed = 0
page_bytes (Short c) = 256
page_bytes (Long c) = 512

-- "page = 2n + f, at RAM address 256 x page"; "with long packets 1 and an even page": where in the row page p starts, and whether it may be long. What follows
-- knows a page by these two alone
unfoldable pub page_of : List ℕ → ℕ → Page
page_of r p = record { at = register_bytes + 256 * p; long = eqb (regs_of r).long 1 && clear 1 p }

abbrev pub page_at : List ℕ → ℕ → ℕ
page_at r p = (page_of r p).at

unfoldable pub page_shape : List ℕ → ℕ → Shape
page_shape r p = shape_of (get_or r (page_at r p + 2) 0) (get_or r (page_at r p + 3) 0) (page_of r p).long

-- "Byte 0 SID, 1 DID"
unfoldable pub destination : List ℕ → ℕ → ℕ
destination r p = get_or r (page_at r p + 1) 0

abbrev pub malformed : Shape → Bool
malformed Malformed = true
malformed (Short c) = false
malformed (Long c) = false

-- "4 VALUE: .. reader: page above 3 or malformed"
unfoldable pub data_refusals : List ℕ → ℕ → List Refusal
data_refusals r p = VALUE when (ltb 3 p || malformed (page_shape r p)) ∷ []

abbrev pub data_number : List ℕ → ℕ → ℕ
data_number r p = told (data_refusals r p)

-- "A reader asks for the data of a page of a row and gets back that stretch of the network itself": where in the row it starts
abbrev pub data_from : List ℕ → ℕ → ℕ
data_from r p = page_at r p + data_at (page_shape r p)

-- its bytes; "a refusal gives a stretch of length 0"
unfoldable pub page_data : List ℕ → ℕ → List ℕ
page_data r p =
    pick (ltb 3 p) [] (take (data_bytes (page_shape r p)) (drop (data_from r p) r))

-- the packet of a page, read out: its shape and the page's bytes, with zeros up to 512
unfoldable pub packet_at : List ℕ → ℕ → Packet
packet_at r p = record {
  shape = page_shape r p;
  bytes = take (page_bytes (page_shape r p)) (drop (page_at r p) r) ++ replicate (512 - page_bytes (page_shape r p)) 0;
}

-- the list xs with ys in the place of as many from the a-th on
abbrev pub laid : ℕ → List ℕ → List ℕ → List ℕ
laid a ys xs = take a xs ++ (ys ++ drop (length ys) (drop a xs))

abbrev pub head_of : Packet → List ℕ
head_of k = take (head_bytes k.shape) k.bytes

abbrev pub data_of : Packet → List ℕ
data_of k = take (data_bytes k.shape) (drop (data_at k.shape) k.bytes)

-- "Storing: SID, DID, COUNT byte or bytes and data go to the same offsets of the receive page, the gap is untouched": in the page that starts at a
unfoldable pub stored : List ℕ → ℕ → Packet → List ℕ
stored r a k = laid (a + data_at k.shape) (data_of k) (laid a (head_of k) r)

-- "own ID is first written at byte 0 of the transmit page", which starts at a
unfoldable pub stamped : List ℕ → ℕ → List ℕ
stamped r a = set r a (regs_of r).id

-- "A long packet at a row with long packets 0 .. stores nothing there"
unfoldable pub storable : Regs → Shape → Bool
storable g Malformed = false
storable g (Short c) = true
storable g (Long c) = eqb g.long 1
