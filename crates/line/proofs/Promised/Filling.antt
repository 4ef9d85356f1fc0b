-- A packet that reaches a row which does not hold: whether the row stores it, that it then holds it, and which of its bytes move.
-- Assumes nothing.
use mathlib.Core.Path.{◌≡◌, refl}
use mathlib.Core.Bool.{Bool, true, false, ◌&&◌, ◌||◌}
use mathlib.Core.List.{List}
use Prim.Native.Nat.{ℕ, ◌+◌, ◌≤◌, ◌<◌}
use native.Mathlib.Omega.{arith}
use lib.Dec.{eqb}
use lib.ListN.{length}
use borrow.Author.Tests.{ne_eqb}
use Rattle.card.specs.declared.packets.Packet.{Packet}
use Rattle.bits.specs.Words.{among}
use Rattle.registers.specs.Layout.{at_diagnostic}
use Rattle.registers.specs.Sides.{chaining}
use Rattle.registers.specs.Events.{cancelled, received, receiving, receive_page}
use Rattle.card.specs.Row.{register_bytes, Whole, regs_of, well_formed}
use Rattle.card.specs.Packets.{page_bytes, page_at, stored, storable}
use Rattle.card.specs.Moves.{OnlyAt, in_packet}
use Rattle.bits.proofs.Words.Bools.{and_left, and_right, or_left, or_right}
use Rattle.registers.proofs.Values.Fits.{Fit, fit_rules}
use Rattle.registers.proofs.Values.Keeps.{Keeps, keeps_received}
use Rattle.registers.proofs.Values.Unqueued.{unqueued_fit, unqueued_received}
use Rattle.registers.proofs.Values.Chained.{keeps_chained}
use Rattle.registers.proofs.Values.Ends.{transmit_page_small}
use Rattle.registers.proofs.Values.Listens.{takes_same, receive_page_same}
use Rattle.card.proofs.Rows.Sizes.{whole_registers}
use Rattle.card.proofs.Rows.Bytes.{well_fit}
use Rattle.card.proofs.Rows.WellFormed.{regs_stored}
use Rattle.card.proofs.Rows.Moves.{only_then, only_wider, only_put, only_stored}
use Rattle.card.proofs.Rows.Bystanders.{storable_same, Bystander, Storing, stores_after, room, stores_stored}
use Rattle.card.proofs.Pages.Places.{page_behind, place_same}
use Rattle.card.proofs.Pages.Stored.{length_stored}
use Rattle.card.proofs.Pages.Sent.{SentFrom}
use Rattle.table.specs.Rows.{row_at}
use Rattle.table.specs.Network.{phase, holder, TAKEN, regs_at, shape}
use Rattle.line.specs.Traffic.{stored_row, takes}
use Rattle.line.specs.Outcomes.{sender, sent_page, sent_shape, storing_bytes, row_moves}
use Rattle.table.proofs.Shaped.Shapes.{shape_row_whole}
use Rattle.line.proofs.Change.Changes.{Carries, WholePacket, Tries, stores_it}
use Rattle.line.proofs.Steps.Stepped.{held_row}

abbrev Receives : List ℕ → Bool
Receives r = receiving (regs_of r)

module _ (net : List ℕ) (s : shape net ≡ true) (j : ℕ) (aside : phase net ≡ TAKEN → j ≡ holder net → ⊥) where
  abbrev h : ℕ
  h = holder net

  abbrev Moves : Bool → List ℕ → List ℕ → Type 0
  Moves x = OnlyAt (row_moves net x j)

  -- ---- a packet reaches the row t, which was r: who stores it goes by the registers that it had
  module _ (to : ℕ) (broadcast : Bool) (k : Packet) (a : WholePacket k) (z : Tries net) (sent : SentFrom (sender net) (sent_page net) k) (r t : List ℕ) (er : r ≡ row_at net j)
      (l : Whole t) (w : well_formed t ≡ true) (y : Bystander r t) (i : Receives t ≡ Receives r) where
    abbrev Asks : List ℕ → Bool
    Asks x = stores_it h (Carries to broadcast k) j (regs_of x)

    pub asks_same : Asks t ≡ Asks r
    asks_same = rw (takes_same (regs_of r) (regs_of t) y.registers i, storable_same (regs_of r) (regs_of t) y.registers k.shape, i)

    module _ (e : Asks t ≡ true) where
      abbrev asked_for : Bool
      asked_for = takes h to broadcast j (regs_of t)

      on : Receives t ≡ true
      on = and_right asked_for (Receives t) (and_left (asked_for && Receives t) (storable (regs_of t) k.shape) e)

      can : storable (regs_of t) k.shape ≡ true
      can = and_right (asked_for && Receives t) (storable (regs_of t) k.shape) e

      fits : Fit (regs_of t)
      fits = fit_rules (regs_of t) (well_fit t w)

      page_small : sent_page net < 4
      page_small = transmit_page_small (cancelled (regs_at net h))

      sender_size : Whole (sender net)
      sender_size = shape_row_whole net s h (held_row net s)

      pub watched : Storing (sender net) (sent_page net) r (stored_row t k)
      watched =
          stores_after (sender net) (sent_page net) r t _ y i (stores_stored (sender net) (sent_page net) sender_size page_small k sent a.full a.count t l fits on can)

      abbrev q : ℕ
      q = page_at t (receive_page (regs_of t))

      low : register_bytes ≤ q
      low = page_behind t (receive_page (regs_of t))

      space : q + page_bytes k.shape ≤ length t
      space = room (sender net) (sent_page net) sender_size page_small k sent a.full a.count t l fits on can

      -- its registers, of the bytes that it may move
      chains_same : chaining (regs_of (stored t q k)) ≡ chaining (regs_of r)
      chains_same = rw (regs_stored t l q low k space a.full a.count, y.registers.configuration)

      keeps_storing : Keeps (storing_bytes (chaining (regs_of (stored t q k)))) (regs_of (stored t q k)) (received (regs_of (stored t q k)))
      keeps_storing =
          rw (regs_stored t l q low k space a.full a.count)
          (keeps_chained (chaining (regs_of t)) storing_bytes refl (regs_of t) _
          (λ c. let u = unqueued_fit (regs_of t) c (well_fit t w) in (u, unqueued_received (regs_of t) c u)) (keeps_received (storing_bytes true) (regs_of t) refl))

      pub moved : Moves true t (stored_row t k)
      moved =
          let x = stored t q k in
          let n = ne_eqb j h (aside z.taken) in
          let b = storing_bytes (chaining (regs_of r)) in
          let split : (v : ℕ) → row_moves net true j v ≡ false → (among b v ≡ false) × (in_packet (page_at r (receive_page (regs_of r))) (sent_shape net) v ≡ false)
          = λ v u. let f : (eqb v at_diagnostic || (among b v || in_packet (page_at r (receive_page (regs_of r))) (sent_shape net) v)) ≡ false
          = rw (z.taken, n, ← er) at u in
          let g = or_right (eqb v at_diagnostic) _ f in (or_left (among b v) _ g, or_right (among b v) _ g) in
          only_then t x _
          (only_wider t x (λ v u. rw (receive_page_same (regs_of r) (regs_of t) y.registers, place_same r t y.size (receive_page (regs_of r)), sent.form) (split v u).1) (only_stored t q k space a.full a.count))
          (only_wider x _ (λ v u. (split v u).0)
          (only_put b x _ (omega (arith, whole_registers t l, length_stored t q k space a.full a.count)) (rw (← chains_same) keeps_storing)))
