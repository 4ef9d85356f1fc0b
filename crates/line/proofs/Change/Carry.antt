-- There is room for a packet at a row that can store it.
-- Assumes nothing.
use mathlib.Core.Path.{◌≡◌}
use mathlib.Core.Bool.{true}
use mathlib.Core.List.{List}
use Prim.Native.Nat.{ℕ, ◌+◌, ◌≤◌}
use lib.ListN.{length}
use Rattle.card.specs.declared.packets.Shape.{Shape}
use Rattle.card.specs.Row.{Whole, regs_of, well_formed}
use Rattle.card.specs.Packets.{page_at, page_bytes, storable}
use Rattle.registers.specs.Events.{receiving, receive_page}
use Rattle.card.proofs.Rows.Bytes.{well_fit}
use Rattle.registers.proofs.Values.Fits.{fit_rules}
use Rattle.card.proofs.Pages.Waiting.{receive_room}

module _ (r : List ℕ) (l : Whole r) (w : well_formed r ≡ true) (s : Shape) where
  pub room : receiving (regs_of r) ≡ true → storable (regs_of r) s ≡ true → page_at r (receive_page (regs_of r)) + page_bytes s ≤ length r
  room a b = receive_room r l (fit_rules (regs_of r) (well_fit r w)) a s b
