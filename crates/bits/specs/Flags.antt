-- Document 01, "Registers" (000, tables 2 and 3): the bits by their names, and the named bits of each register byte.
-- Assumes nothing.
use Rattle.std.specs.Prelude.{Bool, ℕ, ◌+◌, ◌-◌, ◌^◌}
use Rattle.bits.specs.declared.way.Way.{Way}
use Rattle.bits.specs.declared.way.Way.TheVariants.{Transmit, Receive}
use Rattle.bits.specs.Words.{clear}

-- "Status: RI 7, POR 4, TEST 3 (always 0), RECON 2, TMA 1, TA 0"
abbrev pub RI : ℕ
RI = 2 ^ 7

abbrev pub POR : ℕ
POR = 2 ^ 4

abbrev pub RECON : ℕ
RECON = 2 ^ 2

abbrev pub TMA : ℕ
TMA = 2 ^ 1

abbrev pub TA : ℕ
TA = 2 ^ 0

-- C-11 (000, figure 8), as a chaining row shows them: "TRI 7, RI 6, TA 5, POR 4, RECON 2, TMA 1, TTA 0"
abbrev pub TRI : ℕ
TRI = 2 ^ 7

abbrev pub shown_ri : ℕ
shown_ri = 2 ^ 6

abbrev pub shown_ta : ℕ
shown_ta = 2 ^ 5

abbrev pub TTA : ℕ
TTA = 2 ^ 0

-- "Diagnostic: MYRECON 7, DUPID 6, RCVACT 5, TOKEN 4, EXCNAK 3 .., TENTID 2"
abbrev pub MYRECON : ℕ
MYRECON = 2 ^ 7

abbrev pub DUPID : ℕ
DUPID = 2 ^ 6

abbrev pub RCVACT : ℕ
RCVACT = 2 ^ 5

abbrev pub TOKEN : ℕ
TOKEN = 2 ^ 4

abbrev pub EXCNAK : ℕ
EXCNAK = 2 ^ 3

abbrev pub TENTID : ℕ
TENTID = 2 ^ 2

-- "Configuration: RESET 7, CCHEN 6, TXEN 5, ET1 4, ET2 3, BACKPLANE 2, sub-address 1-0"
abbrev pub RESET : ℕ
RESET = 2 ^ 7

abbrev pub CCHEN : ℕ
CCHEN = 2 ^ 6

abbrev pub TXEN : ℕ
TXEN = 2 ^ 5

-- "mode (bit 7 RDDATA, bit 6 AUTO-INC, bits 1-0 staged A9-A8)"
abbrev pub RDDATA : ℕ
RDDATA = 2 ^ 7

abbrev pub AUTO_INC : ℕ
AUTO_INC = 2 ^ 6

-- "transmit (bit 7 cancel asked, bits 1-0 page)", "receive (bit 7 cancel asked, bit 6 broadcasts wanted, bits 1-0 page)"
abbrev pub CANCEL : ℕ
CANCEL = 2 ^ 7

abbrev pub BROADCASTS : ℕ
BROADCASTS = 2 ^ 6

-- the bits 1-0, which hold a page or A9-A8
abbrev pub LOW2 : ℕ
LOW2 = 3

-- "Unnamed bits are zero": the byte x has no bits but those of f
abbrev pub only : ℕ → ℕ → Bool
only f x = clear (255 - f) x

abbrev pub status_bits : ℕ
status_bits = RI + POR + RECON + TMA + TA

abbrev pub diagnostic_bits : ℕ
diagnostic_bits = MYRECON + DUPID + RCVACT + TOKEN + EXCNAK + TENTID

-- "Mask write: bits 7, 3, 2, 0"
abbrev pub mask_bits : ℕ
mask_bits = RI + EXCNAK + RECON + TA

-- "10 setup (bits 2-0)"
abbrev pub setup_bits : ℕ
setup_bits = 7

abbrev pub mode_bits : ℕ
mode_bits = RDDATA + AUTO_INC + LOW2

abbrev pub transmit_bits : ℕ
transmit_bits = CANCEL + LOW2

abbrev pub receive_bits : ℕ
receive_bits = CANCEL + BROADCASTS + LOW2

-- of the oldest that waits on a side, byte 13 or 14
abbrev pub oldest_bits : Way → ℕ
oldest_bits Transmit = transmit_bits
oldest_bits Receive = receive_bits
