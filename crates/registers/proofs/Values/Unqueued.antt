-- A row with CCHEN 0: each change is that of document 01 alone, and nothing is in its bytes 16 to 19, before it and after.
-- Assumes nothing.
use mathlib.Core.Path.{◌≡◌, refl, ◌∙◌, ap}
use mathlib.Core.Bool.{Bool, true, false, not, ◌&&◌}
use Prim.Native.Nat.{ℕ}
use lib.Dec.{eqb}
use Rattle.bits.specs.declared.way.Way.TheVariants.{Transmit, Receive}
use Rattle.queues.specs.declared.queues.Side.{Side}
use Rattle.registers.specs.declared.regs.Regs.{Regs}
use Rattle.std.proofs.Common.{Option, Some, None}
use Rattle.commands.specs.declared.commands.Command.{Command}
use Rattle.commands.specs.declared.commands.Command.TheVariants.{Disable, Enable, LongPackets, ClearFlags, Clear}
use Rattle.bits.specs.Words.{pick, clear, has, all}
use Rattle.bits.specs.Flags.{RESET, AUTO_INC, CANCEL}
use Rattle.queues.specs.Queues as queues
use Rattle.registers.specs.Sides.{chaining, side_of, with_side}
use Rattle.registers.specs.Fields.{with_configuration}
use Rattle.registers.specs.Naks.{naks_dropped, nak_rules}
use Rattle.registers.specs.Fit.{named, fit}
use Rattle.commands.specs.Commands.{command_of}
use Rattle.registers.specs.Registers.{sub, stepped, changes_chaining, configured, commanded, seventh_written, after_write}
use Rattle.registers.specs.Events.{received, transmit_cancelled, receive_cancelled, cancelled, sent}
use Rattle.registers.specs.Plain.{plain_commanded, plain_received, plain_transmit_cancelled, plain_receive_cancelled, plain_sent}
use Rattle.bits.proofs.Words.Bools.{and_left, and_right, pick_of, pick_both}
use Rattle.queues.proofs.Plain.{Alone, alone_fit, emptied, plain_ended, plain_cleared, plain_enabled, plain_disabled, plain_cancelled}

pub record Unqueued (g : Regs) : Type 0 where
  pub transmit : Alone g.transmit
  pub receive : Alone g.receive

-- ---- which rows those are, and what leaves them so
module _ (g : Regs) (c : chaining g ≡ false) where
  pub unqueued_fit : fit g ≡ true → Unqueued g
  unfolding fit
  unqueued_fit f =
      let n = all (named g) && all (nak_rules g) in
      let t = queues.fit Transmit (chaining g) g.long (side_of Transmit g) in
      let r = queues.fit Receive (chaining g) g.long (side_of Receive g) in
      record {
        transmit = alone_fit Transmit g.long (side_of Transmit g) (rw c at (and_right n t (and_left (n && t) r f)));
        receive = alone_fit Receive g.long (side_of Receive g) (rw c at (and_right (n && t) r f));
      }

  module _ (u : Unqueued g) where
    pub received_plain : received g ≡ plain_received g
    unfolding received
    received_plain = rw (c, plain_ended Receive (side_of Receive g) u.receive false)

    pub sent_plain : (a : Bool) → sent g a ≡ plain_sent g a
    unfolding sent
    sent_plain a = rw (c, plain_ended Transmit (side_of Transmit g) u.transmit a)

    pub commanded_plain : (k : Option Command) → commanded g k ≡ plain_commanded g k
    unfolding commanded
    commanded_plain None = refl
    commanded_plain (Some (Disable Transmit)) = rw (plain_disabled Transmit (side_of Transmit g) u.transmit)
    commanded_plain (Some (Disable Receive)) = rw (plain_disabled Receive (side_of Receive g) u.receive)
    commanded_plain (Some (Enable Transmit p)) = rw (c, plain_enabled Transmit (side_of Transmit g) u.transmit p)
    commanded_plain (Some (Enable Receive p)) = rw (c, plain_enabled Receive (side_of Receive g) u.receive p)
    commanded_plain (Some (LongPackets l)) = refl
    commanded_plain (Some (ClearFlags p r)) = refl
    commanded_plain (Some (Clear Transmit)) = rw (plain_cleared Transmit (side_of Transmit g) u.transmit)
    commanded_plain (Some (Clear Receive)) = rw (plain_cleared Receive (side_of Receive g) u.receive)

    pub unqueued_received : Unqueued (received g)
    unqueued_received = rw received_plain (search u)

    unqueued_commanded : (k : Option Command) → Unqueued (commanded g k)
    unqueued_commanded k = rw (commanded_plain k) (stays k)
      where
        stays : (k : Option Command) → Unqueued (plain_commanded g k)
        stays None = u
        stays (Some (Disable Transmit)) = search u
        stays (Some (Disable Receive)) = search u
        stays (Some (Enable Transmit p)) = search u
        stays (Some (Enable Receive p)) = search u
        stays (Some (LongPackets l)) = search u
        stays (Some (ClearFlags p r)) = search u
        stays (Some (Clear w)) = u

    pub unqueued_write : (k v : ℕ) → Unqueued (after_write g k v)
    unfolding after_write configured stepped seventh_written
    unqueued_write k v =
        pick_of Unqueued (eqb k 0) (λ _. search u)
        (λ _. pick_of Unqueued (eqb k 1) (λ _. unqueued_commanded (command_of v))
        (λ _. pick_of Unqueued (eqb k 2) (λ _. search u)
        (λ _. pick_of Unqueued (eqb k 3) (λ _. search u)
        (λ _. pick_of Unqueued (eqb k 4) (λ _. pick_of Unqueued (has AUTO_INC g.mode) (λ _. search u) (λ _. u))
        (λ _. pick_of Unqueued (eqb k 6)
        (λ _. let P : Regs → Type 0 = λ h. Unqueued (with_configuration v h) in
        pick_of P (clear RESET v) (λ _. pick_of P (changes_chaining g v) (λ _. search) (λ _. search u)) (λ _. search))
        (λ _. pick_of Unqueued (eqb k 7)
        (λ _. pick_of Unqueued (eqb (sub g) 0) (λ _. search u) (λ _. pick_of Unqueued (eqb (sub g) 1) (λ _. search u) (λ _. search u)))
        (λ _. u)))))))

-- ---- the cancels of each side
transmit_plain : (g : Regs) → Alone g.transmit → transmit_cancelled g ≡ plain_transmit_cancelled g
transmit_plain g a =
    rw (plain_cancelled Transmit (side_of Transmit g) a) (split (clear CANCEL g.transmit.oldest))
  where
    s : Side
    s = side_of Transmit g

    split : (b : Bool) → naks_dropped (not b) (with_side Transmit (pick b s (emptied Transmit s)) g) ≡ pick b g (naks_dropped true (with_side Transmit (emptied Transmit s) g))
    split true = refl
    split false = refl

receive_plain : (g : Regs) → Alone g.receive → receive_cancelled g ≡ plain_receive_cancelled g
receive_plain g a =
    rw (plain_cancelled Receive (side_of Receive g) a)
    (pick_both (λ (s : Side) (h : Regs). with_side Receive s g ≡ h) (clear CANCEL g.receive.oldest) refl refl)

pub cancelled_plain : (g : Regs) → Unqueued g → cancelled g ≡ plain_receive_cancelled (plain_transmit_cancelled g)
unfolding cancelled
cancelled_plain g u = receive_plain (transmit_cancelled g) u.receive ∙ ap plain_receive_cancelled (transmit_plain g u.transmit)

pub unqueued_cancelled : (g : Regs) → Unqueued g → Unqueued (cancelled g)
unqueued_cancelled g u =
    let h = plain_transmit_cancelled g in
    let v : Unqueued h = pick_of Unqueued (clear CANCEL g.transmit.oldest) (λ _. u) (λ _. search u) in
    rw (cancelled_plain g u) (pick_of Unqueued (clear CANCEL h.receive.oldest) (λ _. v) (λ _. search v))
