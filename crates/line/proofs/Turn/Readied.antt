-- The holder's row when its cancels have taken effect, and the packet that it then tries.
-- Assumes nothing.
use mathlib.Core.Path.{◌≡◌, refl, ap}
use mathlib.Core.Bool.{true, false}
use mathlib.Core.List.{List, ◌∷◌, ◌++◌}
use Prim.Native.Nat.{ℕ, ◌≤◌, ◌<◌}
use native.Mathlib.Omega.{arith}
use lib.ListN.{get_or}
use Rattle.registers.specs.Layout.{at_status, queue_bytes, nak_bytes}
use Rattle.registers.specs.Events.{cancelled, transmit_page}
use Rattle.card.specs.Row.{register_bytes, regs_of, put_regs}
use Rattle.card.specs.Packets.{malformed, page_shape, destination, packet_at, stamped, page_at}
use Rattle.registers.proofs.Values.SameCard.{same_cancelled}
use Rattle.registers.proofs.Values.Keeps.{keeps_cancelled}
use Rattle.registers.proofs.Values.Ends.{transmit_page_small}
use Rattle.card.proofs.Rows.Bytes.{size_put, put_ram}
use Rattle.card.proofs.Pages.Stored.{size_stamped}
use Rattle.card.proofs.Pages.Same.{shape_same, did_same}
use Rattle.card.proofs.Pages.Sent.{SentFrom, sent_from}
use Rattle.card.proofs.Rows.Sizes.{SameSize}
use Rattle.card.proofs.Pages.Places.{page_behind}
use Rattle.table.specs.Rows.{row_at}
use Rattle.table.specs.Network.{rows, holder, regs_at, shape}
use Rattle.table.proofs.Rows.WithRows.{row_at_set_row}
use Rattle.table.proofs.Shaped.Shapes.{shape_room, shape_row_whole}
use Rattle.table.proofs.Shaped.Alike.{Alike}
use Rattle.line.specs.Traffic.{on_row, stamped_net}
use Rattle.line.specs.Outcomes.{sender, sent_page, sent_shape, sent_to}
use Rattle.line.proofs.Steps.Stepped.{held_row}
use Rattle.line.proofs.Change.Changes.{Cancels}
use Rattle.line.proofs.Change.Made.{own_row, own_here}

module _ (net : List ℕ) (s : shape net ≡ true) where
  abbrev h : ℕ
  h = holder net

  abbrev m : List ℕ
  m = on_row net h cancelled

  abbrev row : List ℕ
  row = row_at net h

  abbrev page : ℕ
  page = transmit_page (regs_at m h)

  low : h < rows net
  low = held_row net s

  there : row_at m h ≡ put_regs row (cancelled (regs_of row))
  there = own_row net h s low Cancels

  here : regs_at m h ≡ cancelled (regs_at net h)
  here = own_here net h s low Cancels

  -- but for registers other than the ID and long packets the row is as it was
  size : SameSize row (row_at m h)
  size = rw there (size_put row _)

  ram : (i : ℕ) → register_bytes ≤ i → get_or (row_at m h) i 0 ≡ get_or row i 0
  ram = rw there (put_ram row (cancelled (regs_of row)))

  long : (regs_of (row_at m h)).long ≡ (regs_of row).long
  long = rw here ((keeps_cancelled (at_status ∷ nak_bytes ++ queue_bytes true) (regs_of row) refl refl).kept 13 refl)

  pub same_page : page ≡ sent_page net
  same_page = ap transmit_page here

  pub same_form : page_shape (row_at m h) page ≡ sent_shape net
  same_form = rw same_page (shape_same row (row_at m h) size long ram (sent_page net))

  pub same_did : destination (row_at m h) page ≡ sent_to net
  same_did = rw same_page (did_same row (row_at m h) size long ram (sent_page net))

  -- the packet that goes
  pub sent : Alike net m → malformed (sent_shape net) ≡ false → SentFrom (sender net) (sent_page net) (packet_at (row_at (stamped_net m h page) h) page)
  sent now f =
      let lm : h < rows m = omega (arith, now.count, low) in
      let e : row_at (stamped_net m h page) h ≡ stamped (row_at m h) (page_at (row_at m h) page)
      = row_at_set_row m (rows m) (shape_room m now.fits) h lm _ (size_stamped (row_at m h) (page_at (row_at m h) page) (page_behind (row_at m h) page)) in
      rw (e, same_page)
      (sent_from row (row_at m h) (sent_page net) (transmit_page_small (cancelled (regs_at net h))) size (shape_row_whole net s h low) (rw here (same_cancelled (regs_at net h)).id) long ram f)
