-- What an end and the cancels leave of a card: TA, TMA and TTA, RI, and what waits; and the pages.
-- Assumes nothing.
use mathlib.Core.Path.{◌≡◌, refl, sym, ◌∙◌, ap}
use mathlib.Core.Bool.{Bool, true, false, not, ◌&&◌, ◌||◌}
use Prim.Native.Nat.{◌<◌, ◌%◌}
use native.Mathlib.Omega.{arith}
use borrow.Author.Tests.{eqb-true}
use lib.Bits.{and_mask}
use lib.Dec.{eqb}
use Rattle.bits.specs.declared.way.Way.TheVariants.{Transmit, Receive}
use Rattle.registers.specs.declared.regs.Regs.{Regs}
use Rattle.bits.specs.Words.{pick, clear, has}
use Rattle.bits.specs.Flags.{TMA, TA}
use Rattle.queues.specs.Queues.{two, moved_up}
use Rattle.registers.specs.Sides.{chaining, side_of, tta}
use Rattle.registers.specs.Naks.{nak_counted}
use Rattle.registers.specs.Events.{heard, received, transmit_cancelled, cancelled, sent, transmitting, transmit_page, receiving, enquired, receive_page}
use Rattle.bits.proofs.Words.Bools.{or_first}
use Rattle.queues.proofs.Apart.{cancelled_apart}
use Rattle.queues.proofs.Leaves as leaves
use Rattle.registers.proofs.Values.Fits.{Fit}

-- ---- a transmit that ended: "TA = 1 and TMA = 1", or "TA = 1, TMA = 0"; byte 13 zero. In a chaining row a second that waits moves up, and TA stays 0; an end that
-- is not cleared keeps its TMA; and TTA is set
pub record Ended (g h : Regs) (acknowledged : Bool) : Type 0 where
  pub ta : has TA h.status ≡ not (two Transmit g.transmit)
  pub tma : has TMA h.status ≡ pick (tta g) (has TMA g.status) acknowledged
  pub page : h.transmit.oldest ≡ moved_up Transmit g.transmit
  pub told : tta h ≡ (tta g || chaining g)

module _ (g : Regs) (f : Fit g) where
  -- an end that is not cleared is a chaining row's
  chains : (chaining g && tta g) ≡ tta g
  chains = split (chaining g) refl
    where
      split : (b : Bool) → chaining g ≡ b → (b && tta g) ≡ tta g
      split true e = refl
      split false e = rw (leaves.unchained Transmit (side_of Transmit g) f.transmit.agrees e).1

  pub is_sent : (a : Bool) → Ended g (sent g a) a
  unfolding sent
  is_sent a =
      let d = leaves.is_ended Transmit (chaining g) a (side_of Transmit g) f.transmit.agrees in
      record {
        ta = ap not d.free;
        tma = leaves.ended_tma (chaining g) a (side_of Transmit g) ∙ rw chains;
        page = d.oldest;
        told = d.told ∙ or_both (chaining g) (tta g);
      }
    where
      or_both : (x y : Bool) → (x || y) ≡ (y || x)
      or_both true true = refl
      or_both true false = refl
      or_both false true = refl
      or_both false false = refl

  -- ---- a transmit that waits: TA = 0 and so TMA = 0, but for an end that is not cleared; none waits: TA = 1 and so byte 13 zero, and none behind it
  pub waits : transmitting g ≡ true → (has TA g.status ≡ false) × (tta g ≡ false → has TMA g.status ≡ false)
  unfolding transmitting
  waits e = (
    ap not e,
    λ n. ap not (or_first (clear TMA g.status) (has TA g.status) (or_first (clear TMA g.status || has TA g.status) (tta g) f.transmit.tma n) (ap not e)),
  )

  pub idle : transmitting g ≡ false → (has TA g.status ≡ true) × ((g.transmit.oldest ≡ 0) × (two Transmit g.transmit ≡ false))
  unfolding transmitting
  idle e = (
    ap not e,
    (eqb-true g.transmit.oldest 0 (rw e at f.transmit.agrees.idle), leaves.none_behind Transmit (side_of Transmit g) f.transmit.agrees e),
  )

  pub nothing_up : two Transmit g.transmit ≡ false → 0 ≡ moved_up Transmit g.transmit
  nothing_up = leaves.none_up Transmit (side_of Transmit g) f.transmit.agrees

  -- ---- a receive that ended: RI = 1 where none waits behind it
  pub received_ends : receiving (received g) ≡ two Receive g.receive
  unfolding receiving received
  received_ends = (leaves.is_ended Receive (chaining g) false (side_of Receive g) f.receive.agrees).free

  pub received_page : (received g).receive.oldest ≡ moved_up Receive g.receive
  unfolding received
  received_page = (leaves.is_ended Receive (chaining g) false (side_of Receive g) f.receive.agrees).oldest

  -- the receive page, which is even where long packets are 1
  pub receive_page_even : receiving g ≡ true → eqb g.long 1 ≡ true → receive_page g % 2 ≡ 0
  unfolding receiving receive_page
  receive_page_even r t =
      let e : clear 1 g.receive.oldest ≡ true = rw (t, r) at f.receive.agrees.even_oldest in
      let even : g.receive.oldest % 2 ≡ 0 = sym (and_mask g.receive.oldest 1) ∙ eqb-true _ _ e in
      omega arith

module _ (g : Regs) where
  -- ---- the cancels leave TMA and TTA
  pub cancelled_tma : has TMA (cancelled g).status ≡ has TMA g.status
  unfolding cancelled
  cancelled_tma =
      ap not (cancelled_apart Receive TMA (refl, refl) (side_of Receive (transmit_cancelled g)) ∙ leaves.cancelled_tma (side_of Transmit g))

  pub cancelled_tta : tta (cancelled g) ≡ tta g
  unfolding cancelled
  cancelled_tta = rw (leaves.cancelled_done Transmit (side_of Transmit g))

  -- ---- a message that is heard leaves the status and the queues
  module _ (token : Bool) where
    pub heard_status : (heard g token).status ≡ g.status
    unfolding heard
    heard_status = refl

    pub heard_transmit : (heard g token).transmit ≡ g.transmit
    unfolding heard
    heard_transmit = refl

    pub heard_chaining : chaining (heard g token) ≡ chaining g
    unfolding heard
    heard_chaining = refl

  -- an enquiry that no packet followed is heard of by its answer, or ends the transmit
  pub enquired_nak : enquired g true ≡ heard (nak_counted g) false
  unfolding enquired
  enquired_nak = refl

  pub enquired_unanswered : enquired g false ≡ sent g false
  unfolding enquired
  enquired_unanswered = refl

  -- ---- the pages
  pub received_long : (received g).long ≡ g.long
  unfolding received
  received_long = refl

  pub transmit_page_small : transmit_page g < 4
  unfolding transmit_page
  transmit_page_small = omega arith

  pub receive_page_small : receive_page g < 4
  unfolding receive_page
  receive_page_small = omega arith
