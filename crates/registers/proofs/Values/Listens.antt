-- A card that a message or a recovery reaches is awake as it was, and stores a packet where it did; its RI stays.
-- Assumes nothing.
use mathlib.Core.Path.{◌≡◌, refl, ◌∙◌}
use mathlib.Core.Bool.{Bool, true, false, ◌&&◌}
use Prim.Native.Nat.{ℕ}
use Rattle.bits.specs.declared.way.Way.TheVariants.{Receive}
use Rattle.registers.specs.declared.regs.Regs.{Regs}
use Rattle.bits.specs.Words.{clear, has}
use Rattle.bits.specs.Flags.{RI, RECON, BROADCASTS}
use Rattle.registers.specs.Fields.{with_status, with_diagnostic, with_nid}
use Rattle.registers.specs.Sides.{chaining, side_of}
use Rattle.registers.specs.Fit.{awake}
use Rattle.registers.specs.Events.{recovered, heard, answered, risen_nid, received, receiving, takes_broadcasts, receive_page}
use Rattle.bits.proofs.Words.Bools.{and_left, and_right, pick_of}
use Rattle.queues.proofs.Leaves.{ended_alike}
use Rattle.bits.proofs.Words.Masks.{raise_other}
use Rattle.registers.proofs.Values.SameCard.{awake_same}

-- what says whether a card is awake, and where it stores a packet
pub record Wakes (g h : Regs) : Type 0 where
  pub id : h.id ≡ g.id
  pub configuration : h.configuration ≡ g.configuration
  pub receive : h.receive ≡ g.receive
  pub long : h.long ≡ g.long

wakes_with : (g : Regs) (status diagnostic nid : ℕ) → Wakes g (with_status status (with_diagnostic diagnostic (with_nid nid g)))
wakes_with g status diagnostic nid = record { id = refl; configuration = refl; receive = refl; long = refl }

pub wakes_same : (g : Regs) → Wakes g g
wakes_same g = wakes_with g g.status g.diagnostic g.nid

pub wakes_then : (g h k : Regs) → Wakes g h → Wakes h k → Wakes g k
wakes_then g h k a b = record {
  id = b.id ∙ a.id;
  configuration = b.configuration ∙ a.configuration;
  receive = b.receive ∙ a.receive;
  long = b.long ∙ a.long;
}

-- what reaches a card leaves its RI too
pub record Listens (g h : Regs) : Type 0 where
  pub wakes : Wakes g h
  pub receives : receiving h ≡ receiving g

pub listens_same : (g : Regs) → Listens g g
listens_same g = record { wakes = wakes_same g; receives = refl }

module _ (g : Regs) where
  pub listens_recovered : Listens g (recovered g)
  unfolding recovered receiving
  listens_recovered = record {
    wakes = wakes_with g _ _ _;
    receives = pick_of (λ (x : ℕ). clear RI x ≡ clear RI g.status) (awake g) (λ _. raise_other RI RECON g.status refl) (λ _. refl);
  }

  pub listens_heard : (token : Bool) → Listens g (heard g token)
  unfolding heard receiving
  listens_heard token = record { wakes = wakes_with g _ _ _; receives = refl }

  pub listens_answered : (n : ℕ) (taker : Bool) → Listens g (answered g n taker)
  unfolding answered receiving
  listens_answered n taker = record { wakes = wakes_with g _ _ _; receives = refl }

  pub reached_risen : Listens g (risen_nid g)
  unfolding risen_nid receiving
  reached_risen = record { wakes = wakes_with g _ _ _; receives = refl }

-- and so whether it takes a broadcast, and what it can store
module _ (g h : Regs) (b : Wakes g h) where
  pub takes_same : receiving h ≡ receiving g → takes_broadcasts h ≡ takes_broadcasts g
  unfolding takes_broadcasts
  takes_same e = rw (awake_same g h b.id b.configuration, e, b.receive)

  -- and what an end of its receive makes of it
  pub received_same : receiving h ≡ receiving g → ((received h).receive ≡ (received g).receive) × (receiving (received h) ≡ receiving (received g))
  unfolding received receiving
  received_same e =
      let a = ended_alike Receive (side_of Receive g) (side_of Receive h) (record { queue = b.receive; waits = e }) (chaining g) false in
      rw b.configuration (a.queue, a.waits)

  pub receive_page_same : receive_page h ≡ receive_page g
  unfolding receive_page
  receive_page_same = rw b.receive

-- a card that takes a broadcast has its receiver on
pub takes_receives : (g : Regs) → takes_broadcasts g ≡ true → receiving g ≡ true
unfolding takes_broadcasts
takes_receives g e = and_right (awake g) (receiving g) (and_left (awake g && receiving g) (has BROADCASTS g.receive.oldest) e)
