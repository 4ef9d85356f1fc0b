-- A packet that can be stored has room in the receive page.
-- Assumes nothing.
use mathlib.Core.Path.{◌≡◌}
use mathlib.Core.Bool.{true}
use mathlib.Core.List.{List}
use Prim.Native.Nat.{ℕ, ◌+◌, ◌≤◌}
use native.Mathlib.Omega.{arith}
use lib.ListN.{length}
use Rattle.card.specs.declared.packets.Shape.{Shape}
use Rattle.card.specs.declared.packets.Shape.TheVariants.{Malformed, Short, Long}
use Rattle.registers.specs.Events.{receiving, receive_page}
use Rattle.card.specs.Row.{Whole, regs_of}
use Rattle.card.specs.Packets.{page_bytes, page_at, storable}
use Rattle.registers.proofs.Values.Fits.{Fit}
use Rattle.registers.proofs.Values.Ends.{receive_page_small}
use Rattle.card.proofs.Pages.Places.{page_room, page_short, receive_long}

pub receive_room : (r : List ℕ) → Whole r → Fit (regs_of r) → receiving (regs_of r) ≡ true → (s : Shape) → storable (regs_of r) s ≡ true
    → page_at r (receive_page (regs_of r)) + page_bytes s ≤ length r
unfolding storable
receive_room r w f i s t = fits s t
  where
    short : page_at r (receive_page (regs_of r)) + 256 ≤ length r
    short = page_short r (receive_page (regs_of r)) w (receive_page_small (regs_of r))

    fits : (s : Shape) → storable (regs_of r) s ≡ true → page_at r (receive_page (regs_of r)) + page_bytes s ≤ length r
    fits Malformed t = omega (arith, short)
    fits (Short c) t = short
    fits (Long c) t = rw (receive_long r f i t) at (page_room r (receive_page (regs_of r)) w (receive_page_small (regs_of r)))
