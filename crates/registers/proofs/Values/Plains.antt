-- C-11: "Statements about rows with CCHEN 0 read as before". Of such a row each definition is that of document 01 alone.
-- Assumes nothing.
use mathlib.Core.Path.{◌≡◌, refl, sym}
use mathlib.Core.Bool.{Bool, true, false, not, ◌&&◌, ◌||◌}
use Prim.Native.Nat.{ℕ, ◌<◌}
use borrow.Author.Tests.{eqb-true, not-false}
use lib.Bits.{bit_and}
use lib.Dec.{eqb, lit<}
use Rattle.bits.specs.declared.way.Way.TheVariants.{Transmit, Receive}
use Rattle.registers.specs.declared.regs.Regs.{Regs}
use Rattle.std.proofs.Common.{Option, Some, None}
use Rattle.commands.specs.declared.commands.Command.{Command}
use Rattle.commands.specs.declared.commands.Command.TheVariants.{Disable, Enable, LongPackets, ClearFlags, Clear}
use Rattle.bits.specs.Words.{all, among, clear, has}
use Rattle.bits.specs.Flags.{TMA, TA, CCHEN, only, mask_bits, mode_bits}
use Rattle.queues.specs.Queues as queues
use Rattle.registers.specs.Sides.{chaining, side_of, tta}
use Rattle.registers.specs.Naks.{nak_rules}
use Rattle.registers.specs.Fit.{named, fit}
use Rattle.commands.specs.Commands.{command_of, legal_bytes}
use Rattle.registers.specs.Registers.{shown, interrupt, changes_chaining, configured}
use Rattle.registers.specs.Refusals.{bad_value, busy, chain_busy, write_refusals}
use Rattle.registers.specs.Events.{takes_broadcasts, transmit_page, receive_page}
use Rattle.registers.specs.Plain.{plain_configured, plain_bad_value, plain_busy, plain_write_refusals, plain_agree, plain_fit, Plain}
use Rattle.std.proofs.Math.Bool.{or-false}
use Rattle.bits.proofs.Words.Bools.{and_left, and_right, or_first, holds}
use Rattle.queues.proofs.Plain.{Alone, plain_fit_lem}
use Rattle.registers.proofs.Values.Fits.{fit_rules}
use Rattle.registers.proofs.Values.Unqueued.{Unqueued, unqueued_fit, received_plain, sent_plain, commanded_plain, cancelled_plain}
use Rattle.commands.proofs.Legal.{plain_legal}

module _ (g : Regs) (c : chaining g ≡ false) where
  -- ---- the refusals of a write
  busy_plain : (k : Option Command) → busy g k ≡ plain_busy g k
  busy_plain None = refl
  busy_plain (Some (Disable w)) = refl
  busy_plain (Some (Enable Transmit p)) = rw c
  busy_plain (Some (Enable Receive p)) = rw c
  busy_plain (Some (LongPackets l)) = refl
  busy_plain (Some (ClearFlags p r)) = refl
  busy_plain (Some (Clear w)) = refl

  plain_configuration : clear CCHEN g.configuration ≡ true
  plain_configuration = not-false (clear CCHEN g.configuration) c

  unchanged : (v : ℕ) → clear CCHEN v ≡ true → changes_chaining g v ≡ false
  unchanged v e = rw (eqb-true (bit_and v CCHEN) 0 e, eqb-true (bit_and g.configuration CCHEN) 0 plain_configuration)

  module _ (k v : ℕ) (h : v < 256) (n : (eqb k 6 && has CCHEN v) ≡ false) where
    value_plain : bad_value g k v ≡ plain_bad_value g k v
    unfolding bad_value
    value_plain = rw (c, plain_legal v h, n, or-false (eqb k 0 && not (only mask_bits v) || eqb k 1 && not (among legal_bytes v) || eqb k 2 && not (only mode_bits v)))

    waiting_plain : (eqb k 1 && busy g (command_of v) || eqb k 6 && chain_busy g v) ≡ (eqb k 1 && plain_busy g (command_of v))
    waiting_plain = rw (split (eqb k 6) n, busy_plain (command_of v)) (or-false (eqb k 1 && plain_busy g (command_of v)))
      where
        split : (b : Bool) → (b && has CCHEN v) ≡ false → (b && chain_busy g v) ≡ false
        split true e = rw (unchanged v (not-false _ e))
        split false e = refl

    refusals_plain : write_refusals g k v ≡ plain_write_refusals g k v
    unfolding write_refusals
    refusals_plain = rw (value_plain, waiting_plain)

  -- ---- the rules
  pub fit_plain : fit g ≡ plain_fit g
  unfolding fit
  fit_plain =
      let n = all (named g) && all (nak_rules g) in
      let l = plain_agree g in
      let x = queues.fit Transmit (chaining g) g.long (side_of Transmit g) in
      let y = queues.fit Receive (chaining g) g.long (side_of Receive g) in
      both (fit g) (plain_fit g)
      (λ h. let f = fit_rules g h in
      let t = f.transmit.agrees in
      let r = f.receive.agrees in
      let u = unqueued_fit g c h in
      let tma : (clear TMA g.status || has TA g.status) ≡ true = or_first _ (tta g) f.transmit.tma (rw u.transmit.done) in
      rw (and_left n x (and_left (n && x) y h), plain_configuration, t.oldest, r.oldest, t.idle, r.idle, tma, t.even_oldest, r.even_oldest, u.transmit.second, u.receive.second, u.transmit.done, u.receive.done))
      (λ h. let at = holds l (and_right n (all l) h) in
      let t : Alone g.transmit = record { second = eqb-true _ _ (at 8 (lit< tt)); done = eqb-true _ _ (at 10 (lit< tt)) } in
      let r : Alone g.receive = record { second = eqb-true _ _ (at 9 (lit< tt)); done = eqb-true _ _ (at 11 (lit< tt)) } in
      rw (and_left n (all l) h, plain_fit_lem Transmit (side_of Transmit g) t (chaining g) g.long (at 1 (lit< tt)) (at 3 (lit< tt)) (at 6 (lit< tt)) (rw (at 5 (lit< tt))), plain_fit_lem Receive (side_of Receive g) r (chaining g) g.long (at 2 (lit< tt)) (at 4 (lit< tt)) (at 7 (lit< tt)) refl))
    where
      both : (a b : Bool) → (a ≡ true → b ≡ true) → (b ≡ true → a ≡ true) → a ≡ b
      both true b f k = sym (f refl)
      both false true f k = k refl
      both false false f k = refl

  module _ (u : Unqueued g) where
    configured_plain : (v : ℕ) → clear CCHEN v ≡ true → configured g v ≡ plain_configured g v
    unfolding configured
    configured_plain v e = rw (unchanged v e, u.transmit.second, u.transmit.done, u.receive.second, u.receive.done)

    -- a row whose bytes 16 to 19 are zero
    pub plain_row : Plain g
    unfolding shown interrupt transmit_page receive_page takes_broadcasts
    plain_row = record {
      shown = rw c;
      interrupt = rw c;
      received = received_plain g c u;
      sent = sent_plain g c u;
      cancelled = cancelled_plain g u;
      commanded = commanded_plain g c u;
      legal = λ v h. rw c (plain_legal v h);
      busy = busy_plain;
      refusals = refusals_plain;
      configured = configured_plain;
      fit = fit_plain;
      transmit_page = refl;
      receive_page = refl;
      takes_broadcasts = refl;
    }

-- every row with CCHEN 0 that fits
pub plain : (g : Regs) → fit g ≡ true → chaining g ≡ false → Plain g
plain g f c = plain_row g c (unqueued_fit g c f)
