-- A row that a packet is carried to is as long as it was and well formed, with its ID, its NID and a RAM of bytes, and on line as it was.
-- Assumes nothing.
use mathlib.Core.Path.{◌≡◌}
use mathlib.Core.Bool.{Bool, true, ◌&&◌}
use mathlib.Core.List.{List}
use Prim.Native.Nat.{ℕ, ◌≤◌, ◌<◌}
use lib.ListN.{length}
use Rattle.card.specs.declared.packets.Packet.{Packet}
use Rattle.card.specs.Row.{Whole, regs_of, well_formed}
use Rattle.card.specs.Packets.{data_at, page_at, stored}
use Rattle.registers.specs.Events.{received, receiving, receive_page}
use Rattle.card.specs.Packets.{storable}
use Rattle.bits.proofs.Words.Bools.{and_left, and_right, pick_of}
use Rattle.card.proofs.Rows.Sizes.{SameSize, size_same, size_then, size_whole}
use Rattle.card.proofs.Rows.Bytes.{size_put, well_fit}
use Rattle.registers.proofs.Values.Fits.{fit_rules}
use Rattle.card.proofs.Pages.Places.{page_behind}
use Rattle.card.proofs.Pages.Waiting.{receive_room}
use Rattle.card.proofs.Pages.Stored.{size_stored}
use Rattle.card.proofs.Rows.WellFormed.{well_stored, regs_stored}
use Rattle.card.proofs.Rows.Rams.{Small, ram_stored}
use Rattle.line.specs.Traffic.{stored_row, takes, carried_row}
use Rattle.table.proofs.Shaped.Became.{Still, still_same, still_regs, still_after}
use Rattle.line.proofs.Change.Registers.{row_still, still_received}

module _ (k : Packet) (full : 512 ≤ length k.bytes) (count : data_at k.shape < 256) (small : Small k.bytes) where
  stored_still : (r : List ℕ) → Whole r → well_formed r ≡ true → receiving (regs_of r) ≡ true → storable (regs_of r) k.shape ≡ true
      → SameSize r (stored_row r k) × Still r (stored_row r k)
  stored_still r l w a b =
      let fits = fit_rules (regs_of r) (well_fit r w) in
      let q = page_at r (receive_page (regs_of r)) in
      let low = page_behind r (receive_page (regs_of r)) in
      let room = receive_room r l fits a k.shape b in
      let m = stored r q k in
      let lm = size_stored r q k room full count low in
      let wm = well_stored r l w q low k room full count in
      let em = regs_stored r l q low k room full count in (
        size_then lm (size_put m _),
        still_after (still_regs r m wm em (λ _ x. ram_stored r x q low k room full count small))
            (row_still m (size_whole lm l) wm (received (regs_of m)) (still_received (regs_of m) (fit_rules (regs_of m) (well_fit m wm)))),
      )

  pub carried_still : (h to : ℕ) (broadcast : Bool) (j : ℕ) (r : List ℕ) → Whole r → well_formed r ≡ true
      → SameSize r (carried_row h to broadcast k j r) × Still r (carried_row h to broadcast k j r)
  carried_still h to broadcast j r l w =
      let t = takes h to broadcast j (regs_of r) in
      let a = receiving (regs_of r) in
      let b = storable (regs_of r) k.shape in
      pick_of (λ (x : List ℕ). SameSize r x × Still r x) (t && a && b)
      (λ e. stored_still r l w (and_right t a (and_left (t && a) b e)) (and_right (t && a) b e)) (λ _. (size_same r, still_same r w))
