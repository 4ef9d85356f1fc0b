-- Document 01, "Registers": what reading and writing give, the resets, the commands' effects and the interrupt.
-- Assumes nothing.
use Rattle.std.specs.Prelude.{Option, Some, None, Bool, not, ◌&&◌, ◌||◌, ℕ, ◌+◌, ◌*◌, ◌/◌, ◌%◌, eqb}
use Rattle.std.specs.Int.Bits.{bit_and, bit_or}
use Rattle.registers.specs.declared.regs.Regs.{Regs}
use Rattle.commands.specs.declared.commands.Command.{Command}
use Rattle.commands.specs.declared.commands.Command.TheVariants.{Disable, Enable, LongPackets, ClearFlags, Clear}
use Rattle.bits.specs.Words.{pick, clear, has, raise_if, lower}
use Rattle.bits.specs.Flags.{RI, POR, RECON, TMA, TA, TRI, shown_ri, shown_ta, TTA, EXCNAK, RESET, CCHEN, RDDATA, AUTO_INC}
use Rattle.registers.specs.Fields.{with_id, with_status, with_diagnostic, with_mask, with_configuration, with_setup, with_tentative, with_high, with_low, with_mode, with_transmit, with_receive, with_long, with_fetched, with_naks}
use Rattle.registers.specs.Naks.{naks_dropped}
use Rattle.queues.specs.Queues.{none, cleared, enabled, disabled}
use Rattle.registers.specs.Sides.{chaining, side_of, with_side, tta, tri}
use Rattle.commands.specs.Commands.{command_of}

-- ".. then 1,024 of RAM"
abbrev pub ram_bytes : ℕ
ram_bytes = 1024

-- "sub-address 1-0"
abbrev pub sub : Regs → ℕ
sub g = g.configuration % 4

-- "pointer high (0-3)", "pointer low": A9-A8 and A7-A0
abbrev pub pointer : Regs → ℕ
pointer g = 256 * (g.high % 4) + g.low

-- "With AUTO-INC the pointer then rises by one; 1,023 goes to 0"
abbrev pub risen : Regs → ℕ
risen g = (pointer g + 1) % ram_bytes

unfoldable pub stepped : Regs → Regs
stepped g = pick (has AUTO_INC g.mode) (with_high (risen g / 256) (with_low (risen g % 256) g)) g

-- C-13: "Only a pointer load or an incremented read fetches": a write of 3, whatever RDDATA is; a read of 4 with AUTO-INC
abbrev pub write_fetches : ℕ → Bool
write_fetches k = eqb k 3

abbrev pub read_fetches : Regs → ℕ → Bool
read_fetches g k = eqb k 4 && has AUTO_INC g.mode

-- "the card fetches the byte": m, where it fetches
abbrev pub fetched : Bool → ℕ → Regs → Regs
fetched fetches m g = with_fetched (pick fetches m g.later.fetched) g

-- "Register 7 by sub-address: 00 tentative ID, 01 node ID, 10 setup"
abbrev pub seventh : Regs → ℕ
seventh g = pick (eqb (sub g) 0) g.tentative (pick (eqb (sub g) 1) g.id g.setup)

-- "Reading 0 gives status"; C-11 (000, figure 8): in a chaining row TRI 7, RI 6, TA 5, POR 4, RECON 2, TMA 1, TTA 0
unfoldable pub shown : Regs → ℕ
shown g =
    pick (chaining g)
    (raise_if (tri g) TRI (raise_if (has RI g.status) shown_ri (raise_if (has TA g.status) shown_ta (raise_if (tta g) TTA (bit_and g.status (POR + RECON + TMA))))))
    g.status

-- "1 gives diagnostic status ..; 2 gives RDDATA, AUTO-INC and the pointer's A9-A8; 3 its low byte; 6 configuration";
-- C-13: of 4, "a read answers the fetched byte"
unfoldable pub read_value : Regs → ℕ → ℕ
read_value g k =
    pick (eqb k 0) (shown g)
    (pick (eqb k 1) g.diagnostic
    (pick (eqb k 2) (bit_or (bit_and g.mode (RDDATA + AUTO_INC)) (g.high % 4))
    (pick (eqb k 3) g.low
    (pick (eqb k 4) g.later.fetched
    (pick (eqb k 6) g.configuration
    (pick (eqb k 7) (seventh g) 0))))))

-- "1 .. and then zeroes it", but EXCNAK (C-16); 4 moves the pointer
unfoldable pub after_read : Regs → ℕ → Regs
after_read g k = pick (eqb k 1) (with_diagnostic (bit_and g.diagnostic EXCNAK) g) (pick (eqb k 4) (stepped g) g)

-- "Hardware reset: ID, tentative ID, NID, mask, setup, pointer, mode and diagnostic 0, configuration 18 hex, status 91 hex, bytes 13-15 zero"; C-11: 16-31 too;
-- C-13: "sets it to 0"; C-16: it "clears bit and count"
unfoldable pub hardware_reset : Regs
hardware_reset = record {
  id = 0;
  status = 0x91;
  diagnostic = 0;
  mask = 0;
  configuration = 0x18;
  setup = 0;
  tentative = 0;
  nid = 0;
  high = 0;
  low = 0;
  mode = 0;
  transmit = none;
  receive = none;
  long = 0;
  later = record { fetched = 0; naklow = 0; nakhigh = 0 };
}

-- "Writing RESET = 1: status 91, diagnostic and mask 0, bytes 13-15 zero", 16-31 too. "The new configuration is stored"; C-13: it "keeps" the
-- fetched byte; C-16: it "clears bit and count"
abbrev pub software_reset : Regs → Regs
software_reset g = with_status 0x91 (with_diagnostic 0 (with_mask 0 (with_transmit none (with_receive none (with_long 0 (with_naks 0 0 g))))))

-- C-11: a change of CCHEN, which finds nothing waiting, drops the ends that are not cleared
abbrev pub changes_chaining : Regs → ℕ → Bool
changes_chaining g v = not (eqb (bit_and v CCHEN) (bit_and g.configuration CCHEN))

abbrev pub rechained : Regs → ℕ → Regs
rechained g v = pick (changes_chaining g v) (with_transmit none (with_receive none g)) g

unfoldable pub configured : Regs → ℕ → Regs
configured g v = with_configuration v (pick (clear RESET v) (rechained g v) (software_reset g))

-- "The interrupt is active exactly when POR is set, or RI, RECON or TA is set with its mask bit"; C-11: "The mask bits then act on TTA and TRI";
-- C-16: it "includes EXCNAK with mask bit 3"
unfoldable pub interrupt : Regs → Bool
interrupt g =
    has POR g.status || pick (chaining g) (tri g) (has RI g.status) && has RI g.mask || has RECON g.status && has RECON g.mask
    || pick (chaining g) (tta g) (has TA g.status) && has TA g.mask || has EXCNAK g.diagnostic && has EXCNAK g.mask

-- "01 Disable Transmitter and 02 Disable Receiver: ask a cancel .. Enable Transmit: .. byte 13 to the page. .. Enable Receive: .. the top bit wants broadcasts.
-- .. 05, 0D long packets 0, 1. .. Clear Flags: bit 3 clears POR, bit 4 RECON"; C-11: "Clear Transmit Interrupt (00) or Clear Receive Interrupt (08)";
-- C-16: "Clear Flags with bit 3 .. clears bit and count"
unfoldable pub commanded : Regs → Option Command → Regs
commanded g None = g
commanded g (Some (Disable w)) = with_side w (disabled w (side_of w g)) g
commanded g (Some (Enable w entry)) = with_side w (enabled w (chaining g) entry (side_of w g)) g
commanded g (Some (LongPackets l)) = with_long l g
commanded g (Some (ClearFlags p r)) = with_status (lower (pick p POR 0) (lower (pick r RECON 0) g.status)) (naks_dropped p g)
commanded g (Some (Clear w)) = with_side w (cleared w (side_of w g)) g

-- a write of the node ID
unfoldable pub writes_id : Regs → ℕ → Bool
writes_id g k = eqb k 7 && eqb (sub g) 1

-- "7 by sub-address"
unfoldable pub seventh_written : Regs → ℕ → Regs
seventh_written g v = pick (eqb (sub g) 0) (with_tentative v g) (pick (eqb (sub g) 1) (with_id v g) (with_setup v g))

-- "Writing 0 sets the mask; 1 is a command; 2 sets byte 12 at once; 3 loads the pointer from the staged bits and the value"; 4 moves the
-- pointer; 6 configuration; 7 by sub-address
unfoldable pub after_write : Regs → ℕ → ℕ → Regs
after_write g k v =
    pick (eqb k 0) (with_mask v g)
    (pick (eqb k 1) (commanded g (command_of v))
    (pick (eqb k 2) (with_mode v g)
    (pick (eqb k 3) (with_high (g.mode % 4) (with_low v g))
    (pick (eqb k 4) (stepped g)
    (pick (eqb k 6) (configured g v)
    (pick (eqb k 7) (seventh_written g v) g))))))
