-- C-11: "Statements about rows with CCHEN 0 read as before": the definitions of document 01, with C-16, and that those in use are these for such a row.
-- Assumes nothing.
use Rattle.std.specs.Prelude.{Option, Some, None, ◌≡◌, Bool, true, false, not, ◌&&◌, ◌||◌, List, [], ◌∷◌, ℕ, ◌+◌, ◌%◌, ◌<◌, eqb}
use Rattle.registers.specs.declared.regs.Regs.{Regs}
use Rattle.bits.specs.declared.way.Way.TheVariants.{Transmit, Receive}
use Rattle.commands.specs.declared.commands.Command.{Command}
use Rattle.commands.specs.declared.commands.Command.TheVariants.{Disable, Enable, LongPackets, ClearFlags, Clear}
use Rattle.bits.specs.Words.{pick, all, among, clear, has, raise, lower}
use Rattle.bits.specs.Flags.{RI, POR, RECON, TMA, TA, EXCNAK, RESET, CCHEN, RDDATA, CANCEL, BROADCASTS, only, mask_bits, setup_bits, mode_bits, transmit_bits, receive_bits}
use Rattle.told.specs.Numbers.{REGISTER, VALUE, NOTREADY, DIRECTION, BUSY, ONLINE, PAGE, Refusal, ◌when◌}
use Rattle.registers.specs.Fields.{with_status, with_diagnostic, with_mask, with_configuration, with_transmit, with_receive, with_long, with_naks}
use Rattle.registers.specs.Sides.{chaining}
use Rattle.registers.specs.Naks.{naks_dropped, nak_rules}
use Rattle.registers.specs.Fit.{awake, on_line, named, fit}
use Rattle.commands.specs.Commands.{legal_bytes, command_of, illegal}
use Rattle.registers.specs.Registers.{sub, shown, interrupt, configured, commanded, writes_id}
use Rattle.registers.specs.Refusals.{no_register, busy, odd_page, write_refusals}
use Rattle.registers.specs.Events.{received, cancelled, sent, receiving, takes_broadcasts, transmit_page, receive_page}

-- byte 13, and byte 14, set to another value
abbrev pub with_oldest_transmit : ℕ → Regs → Regs
with_oldest_transmit v g = with_transmit (record { oldest = v; second = g.transmit.second; done = g.transmit.done }) g

abbrev pub with_oldest_receive : ℕ → Regs → Regs
with_oldest_receive v g = with_receive (record { oldest = v; second = g.receive.second; done = g.receive.done }) g

-- "The interrupt is active exactly when POR is set, or RI, RECON or TA is set with its mask bit"; C-16: or EXCNAK
abbrev pub plain_interrupt : Regs → Bool
plain_interrupt g =
    has POR g.status || has RI g.status && has RI g.mask || has RECON g.status && has RECON g.mask
    || has TA g.status && has TA g.mask || has EXCNAK g.diagnostic && has EXCNAK g.mask

-- "Writing RESET = 1: status 91, diagnostic and mask 0, bytes 13-15 zero. The new configuration is stored"; C-16: the count 0
abbrev pub plain_reset : Regs → Regs
plain_reset g = with_status 0x91 (with_diagnostic 0 (with_mask 0 (with_oldest_transmit 0 (with_oldest_receive 0 (with_long 0 (with_naks 0 0 g))))))

abbrev pub plain_configured : Regs → ℕ → Regs
plain_configured g v = with_configuration v (pick (clear RESET v) g (plain_reset g))

-- "01 Disable Transmitter and 02 Disable Receiver: ask a cancel (no effect if TA, or RI, is 1). .. Enable Transmit: TA and TMA to 0, byte 13
-- to the page. .. Enable Receive: RI to 0; the top bit wants broadcasts. .. 05, 0D long packets 0, 1. .. Clear Flags: bit 3 clears POR, bit 4 RECON";
-- C-16: bit 3 also the count and EXCNAK. 00 and 08 are no commands
abbrev pub plain_commanded : Regs → Option Command → Regs
plain_commanded g None = g
plain_commanded g (Some (Disable Transmit)) = with_oldest_transmit (pick (has TA g.status) g.transmit.oldest (raise CANCEL g.transmit.oldest)) g
plain_commanded g (Some (Disable Receive)) = with_oldest_receive (pick (has RI g.status) g.receive.oldest (raise CANCEL g.receive.oldest)) g
plain_commanded g (Some (Enable Transmit p)) = with_status (lower (TA + TMA) g.status) (with_oldest_transmit p g)
plain_commanded g (Some (Enable Receive p)) = with_status (lower RI g.status) (with_oldest_receive p g)
plain_commanded g (Some (LongPackets l)) = with_long l g
plain_commanded g (Some (ClearFlags p r)) = with_status (lower (pick p POR 0) (lower (pick r RECON 0) g.status)) (naks_dropped p g)
plain_commanded g (Some (Clear w)) = g

-- "RI = 1, byte 14 zero"
abbrev pub plain_received : Regs → Regs
plain_received g = with_status (raise RI g.status) (with_oldest_receive 0 g)

-- "cancels asked in the holder's row take effect first (transmit: TA = 1; receive: RI = 1, byte 14 zero)"; "wherever TA becomes 1, byte 13
-- becomes zero"; C-16: the count and EXCNAK too
abbrev pub plain_transmit_cancelled : Regs → Regs
plain_transmit_cancelled g = pick (clear CANCEL g.transmit.oldest) g (naks_dropped true (with_status (raise TA g.status) (with_oldest_transmit 0 g)))

abbrev pub plain_receive_cancelled : Regs → Regs
plain_receive_cancelled g = pick (clear CANCEL g.receive.oldest) g (plain_received g)

-- a transmit ends: "TA = 1 and TMA = 1", or "TA = 1, TMA = 0"; byte 13 zero; C-16: the count and EXCNAK 0
abbrev pub plain_sent : Regs → Bool → Regs
plain_sent g acknowledged =
    naks_dropped true (with_status (raise TA (pick acknowledged (raise TMA g.status) (lower TMA g.status))) (with_oldest_transmit 0 g))

-- "4 VALUE: unnamed bit, CCHEN, illegal command": one that is not of the twenty
abbrev pub plain_bad_value : Regs → ℕ → ℕ → Bool
plain_bad_value g k v =
    eqb k 0 && not (only mask_bits v) || eqb k 1 && not (among legal_bytes v) || eqb k 2 && not (only mode_bits v)
    || eqb k 6 && has CCHEN v
    || eqb k 7 && eqb (sub g) 2 && not (only setup_bits v)

-- "7 BUSY: Enable with TA (RI) 0; 05 or 0D with TA or RI 0"
abbrev pub plain_busy : Regs → Option Command → Bool
plain_busy g None = false
plain_busy g (Some (Disable w)) = false
plain_busy g (Some (Enable Transmit p)) = clear TA g.status
plain_busy g (Some (Enable Receive p)) = clear RI g.status
plain_busy g (Some (LongPackets l)) = clear TA g.status || clear RI g.status
plain_busy g (Some (ClearFlags p r)) = false
plain_busy g (Some (Clear w)) = false

abbrev pub plain_write_refusals : Regs → ℕ → ℕ → List Refusal
plain_write_refusals g k v =
    REGISTER when no_register g k
    ∷ VALUE when plain_bad_value g k v
    ∷ NOTREADY when (eqb k 1 && not (awake g))
    ∷ DIRECTION when (eqb k 4 && has RDDATA g.mode)
    ∷ BUSY when (eqb k 1 && plain_busy g (command_of v))
    ∷ ONLINE when (on_line g && writes_id g k)
    ∷ PAGE when (eqb k 1 && odd_page g (command_of v)) ∷ []

-- "CCHEN = 0"; of bytes 13 and 14 too unnamed bits are zero; "TA = 1 only with byte 13 zero; RI = 1 only with byte 14 zero; TMA = 1 only with TA = 1; ..
-- with long packets 1, an enabled page (TA = 0, RI = 0) is even"; and of "16-63 zero" the bytes of the queues
abbrev pub plain_agree : Regs → List Bool
plain_agree g =
    clear CCHEN g.configuration ∷ only transmit_bits g.transmit.oldest ∷ only receive_bits g.receive.oldest
    ∷ (clear TA g.status || eqb g.transmit.oldest 0) ∷ (clear RI g.status || eqb g.receive.oldest 0)
    ∷ (clear TMA g.status || has TA g.status)
    ∷ (not (eqb g.long 1) || has TA g.status || clear 1 g.transmit.oldest)
    ∷ (not (eqb g.long 1) || has RI g.status || clear 1 g.receive.oldest)
    ∷ eqb g.transmit.second 0 ∷ eqb g.receive.second 0 ∷ eqb g.transmit.done 0 ∷ eqb g.receive.done 0 ∷ []

abbrev pub plain_fit : Regs → Bool
plain_fit g = all (named g) && all (nak_rules g) && all (plain_agree g)

-- what is in use, for the row g: of the commands, 00 and 08 are illegal. A write of CCHEN = 1, which document 01 refuses, makes g a chaining row
pub record Plain (g : Regs) : Type 0 where
  -- "Reading 0 gives status"
  pub shown : shown g ≡ g.status
  pub interrupt : interrupt g ≡ plain_interrupt g
  pub received : received g ≡ plain_received g
  pub sent : (acknowledged : Bool) → sent g acknowledged ≡ plain_sent g acknowledged
  pub cancelled : cancelled g ≡ plain_receive_cancelled (plain_transmit_cancelled g)
  pub commanded : (c : Option Command) → commanded g c ≡ plain_commanded g c
  pub legal : (v : ℕ) → v < 256 → illegal (chaining g) (command_of v) ≡ not (among legal_bytes v)
  pub busy : (c : Option Command) → busy g c ≡ plain_busy g c
  pub refusals : (k v : ℕ) → v < 256 → (eqb k 6 && has CCHEN v) ≡ false → write_refusals g k v ≡ plain_write_refusals g k v
  pub configured : (v : ℕ) → clear CCHEN v ≡ true → configured g v ≡ plain_configured g v
  pub fit : fit g ≡ plain_fit g
  pub transmit_page : transmit_page g ≡ g.transmit.oldest % 4
  pub receive_page : receive_page g ≡ g.receive.oldest % 4
  pub takes_broadcasts : takes_broadcasts g ≡ (awake g && receiving g && has BROADCASTS g.receive.oldest)
