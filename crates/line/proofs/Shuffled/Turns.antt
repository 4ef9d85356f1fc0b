-- TAKEN, of a network and of its rows in another order: the same outcome, and what is left is left in that order.
-- Assumes nothing.
use mathlib.Core.Path.{◌≡◌, refl, sym, ◌∙◌, ap}
use mathlib.Core.Bool.{Bool, true, false}
use mathlib.Core.List.{List}
use Prim.Native.Nat.{ℕ, ◌<◌}
use native.Mathlib.Omega.{arith}
use lib.Dec.{eqb, ltb}
use Rattle.bits.proofs.Words.Bools.{pick_both, pick_each}
use Rattle.registers.specs.Events.{cancelled, transmitting, receiving, transmit_page}
use Rattle.registers.proofs.Values.Ends.{transmit_page_small}
use Rattle.card.specs.Packets.{malformed, page_shape, destination, packet_at}
use Rattle.table.specs.Rows.{row_at}
use Rattle.table.specs.Network.{rows, regs_at, node_of}
use Rattle.table.specs.Shuffle.{Shuffle, shuffled}
use Rattle.table.proofs.Shaped.Alike.{Good, good_alike}
use Rattle.table.proofs.Shuffled.Renaming.{to_below}
use Rattle.table.proofs.Shuffled.Rows.{shuffled_at}
use Rattle.table.proofs.Shuffled.Shapes.{node_shuffled}
use Rattle.line.specs.declared.passes.Event.TheVariants.{Message}
use Rattle.line.specs.declared.traffic.Outcome.{Outcome}
use Rattle.line.specs.Traffic.{Turn, on_row, happened, damaged, stamped_net, went_out, broadcast_turn, acknowledged, packet_turn, asked, enquiry_turn, try_turn, taken_turn}
use Rattle.line.specs.Step.{outcome_to}
use Rattle.line.proofs.Change.Changes.{Own, Cancels, Enquires, Ends, does, Reaches, Does, Stamps, Carries}
use Rattle.line.proofs.Turn.Sends.{whole_packet, out_alike}
use Rattle.line.proofs.Shuffled.Changes.{good_done, good_ends, good_rows, done_shuffled}

module _ {n : ℕ} (q : Shuffle n) where
  -- what a turn answers, with its rows renamed, and what it leaves in that order
  abbrev pub turn_to : {A : Type 0} → (A → A) → Turn A → Turn A
  turn_to f t = record { answer = f t.answer; after = shuffled q t.after }

  -- the turn u is t so
  abbrev Same : Turn Outcome → Turn Outcome → Type 0
  Same t u = u ≡ turn_to (outcome_to q.to) t

  module _ (h : ℕ) (l : h < n) where
    own : (net : List ℕ) → Good n net → (o : Own) → on_row (shuffled q net) (q.to h) (does o) ≡ shuffled q (on_row net h (does o))
    own net g o = done_shuffled q net g h l (Does o) tt

    heard : (net : List ℕ) → Good n net → happened (shuffled q net) (Message (q.to h) false) ≡ shuffled q (happened net (Message h false))
    heard net g = done_shuffled q net g h l (Reaches (Message h false)) tt

    module _ (net : List ℕ) (g : Good n net) where
      row : (k : ℕ) → row_at (shuffled q net) (q.to k) ≡ row_at net k
      row = shuffled_at q net (good_ends q net g h l)

      asked_shuffled : (nak : Bool) → asked (shuffled q net) (q.to h) nak ≡ shuffled q (asked net h nak)
      unfolding asked
      asked_shuffled nak = rw (heard net g) (own (happened net (Message h false)) (good_done net g h l (Reaches (Message h false)) tt tt) (Enquires nak))

      module _ (p fault : ℕ) (small : p < 4) where
        -- a packet goes
        went_shuffled : (to : ℕ) (broadcast : Bool) → went_out (shuffled q net) (q.to h) p fault (q.to to) broadcast ≡ shuffled q (went_out net h p fault to broadcast)
        unfolding went_out
        went_shuffled to broadcast =
            let x = stamped_net net h p in
            let gx = good_done net g h l (Stamps p) tt tt in
            let y = happened x (Message h false) in
            let gy = good_done x gx h l (Reaches (Message h false)) tt tt in
            let k = packet_at (row_at x h) p in
            rw (done_shuffled q net g h l (Stamps p) tt, heard x gx, shuffled_at q x (good_ends q x gx h l) h)
            (pick_each (λ (a b : List ℕ). b ≡ shuffled q a) (damaged fault) (λ _. refl)
            (λ _. done_shuffled q y gy h l (Carries to broadcast k) (whole_packet x gx.fits gx.rams h (omega (arith, gx.count)) p small)))

        good_went : (to : ℕ) (broadcast : Bool) → Good n (went_out net h p fault to broadcast)
        good_went to broadcast = good_alike g (out_alike net g.fits h p (omega (arith, g.count)) g.rams small fault to broadcast)

        broadcast_shuffled : Same (broadcast_turn net h p fault) (broadcast_turn (shuffled q net) (q.to h) p fault)
        unfolding broadcast_turn
        broadcast_shuffled =
            let e : rows (shuffled q net) ≡ q.to (rows net) = good_rows q net g h l ∙ sym (ap q.to g.count ∙ q.past n (omega arith)) in
            rw (row h, e, went_shuffled (rows net) true, own _ (good_went (rows net) true) (Ends false false))

        packet_shuffled : (t : ℕ) → Same (packet_turn net h p fault t) (packet_turn (shuffled q net) (q.to h) p fault (q.to t))
        unfolding packet_turn
        packet_shuffled t =
            let told : Outcome → Turn Outcome
            = λ o. record { answer = o; after = shuffled q (on_row (went_out net h p fault t false) h (does (Ends true (acknowledged net h p fault t)))) } in
            rw (row h, row t, went_shuffled t false, own _ (good_went t false) (Ends true (acknowledged net h p fault t)))
            (pick_both (λ (o u : Outcome). told o ≡ told (outcome_to q.to u)) (acknowledged net h p fault t) refl refl)

        enquiry_shuffled : (t : ℕ) → Same (enquiry_turn net h p fault t) (enquiry_turn (shuffled q net) (q.to h) p fault (q.to t))
        unfolding enquiry_turn
        enquiry_shuffled t =
            rw (good_rows q net g h l, g.count, to_below q t, row t, packet_shuffled t, asked_shuffled true, asked_shuffled false)
            (pick_each Same (ltb t n) (λ _. pick_each Same (receiving (regs_at net t)) (λ _. refl) (λ _. refl)) (λ _. refl))

        try_shuffled : Same (try_turn net h p fault) (try_turn (shuffled q net) (q.to h) p fault)
        unfolding try_turn
        try_shuffled =
            let d = destination (row_at net h) p in
            rw (row h, good_rows q net g h l, g.count, node_shuffled q net g.fits g.count d h, own net g (Ends false false), broadcast_shuffled, enquiry_shuffled (node_of net d h n))
            (pick_each Same (malformed (page_shape (row_at net h) p)) (λ _. refl) (λ _. pick_each Same (eqb d 0) (λ _. refl) (λ _. refl)))

    pub taken_shuffled : (net : List ℕ) → Good n net → (fault : ℕ) → Same (taken_turn net h fault) (taken_turn (shuffled q net) (q.to h) fault)
    unfolding taken_turn
    taken_shuffled net g fault =
        let m = on_row net h cancelled in
        let gm = good_done net g h l (Does Cancels) tt tt in
        rw (own net g Cancels, row m gm h)
        (pick_each Same (transmitting (regs_at m h)) (λ _. try_shuffled m gm (transmit_page (regs_at m h)) fault (transmit_page_small (regs_at m h))) (λ _. refl))
