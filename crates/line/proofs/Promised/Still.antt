-- A register byte that no list of a step names is where it was.
-- Assumes nothing.
use mathlib.Core.Path.{◌≡◌}
use mathlib.Core.Bool.{Bool, true, false, ◌||◌}
use mathlib.Core.List.{List, [], ◌∷◌}
use Prim.Native.Nat.{ℕ, ◌+◌, ◌≤◌, ◌<◌}
use native.Mathlib.Omega.{arith}
use lib.Dec.{eqb}
use borrow.Author.Tests.{ne_eqb, lt-leb}
use Rattle.bits.specs.Words.{among}
use Rattle.registers.specs.Layout.{at_status, at_diagnostic, at_nid}
use Rattle.registers.specs.Sides.{chaining}
use Rattle.registers.specs.Events.{receive_page}
use Rattle.card.specs.declared.packets.Shape.{Shape}
use Rattle.card.specs.Row.{register_bytes}
use Rattle.card.specs.Packets.{data_at, page_at}
use Rattle.card.specs.Moves.{in_packet}
use Rattle.std.proofs.Math.Bool.{and-false}
use Rattle.bits.proofs.Words.Bools.{or_left, or_right, pick_of}
use Rattle.card.proofs.Pages.Places.{page_behind}
use Rattle.table.specs.Rows.{row_at}
use Rattle.table.specs.Network.{phase, holder, LOST, PASS, regs_at}
use Rattle.line.specs.Outcomes.{sent_page, sent_shape, holder_bytes, storing_bytes, row_moves}

module _ (i : ℕ) (low : i < register_bytes) where
  -- it is no byte of the RAM
  no_ram : (a : ℕ) → register_bytes ≤ a → eqb i a ≡ false
  no_ram a h = ne_eqb i a (λ e. omega (arith, h, e))

  no_packet : (a : ℕ) (s : Shape) → register_bytes ≤ a → in_packet a s i ≡ false
  no_packet a s h = rw (lt-leb a i (omega (arith, h)), lt-leb (a + data_at s) i (omega (arith, h)))

  -- what reaches every row moves others; so does a packet that is stored, and what the holder does
  module _ (apart : among (at_status ∷ at_diagnostic ∷ at_nid ∷ []) i ≡ false) (stored : (c : Bool) → among (storing_bytes c) i ≡ false) where
    abbrev No : Bool → Type 0
    No x = x ≡ false

    flags : (eqb i at_status ≡ false) × (eqb i at_diagnostic ≡ false) × (eqb i at_nid ≡ false)
    flags =
        let s = eqb i at_status in
        let d = eqb i at_diagnostic in
        let rest = or_right s (d || (eqb i at_nid || false)) apart in
        (or_left s (d || (eqb i at_nid || false)) apart, or_left d (eqb i at_nid || false) rest, or_left (eqb i at_nid) false (or_right d (eqb i at_nid || false) rest))

    pub unmoved : (net : List ℕ) (storing : Bool) (k : ℕ)
        → (eqb (phase net) LOST ≡ false → eqb (phase net) PASS ≡ false → eqb k (holder net) ≡ true → among (holder_bytes (chaining (regs_at net k))) i ≡ false)
        → row_moves net storing k i ≡ false
    unmoved net storing k held =
        let r = row_at net k in
        let f = flags in
        pick_of No (eqb (phase net) LOST) (λ _. rw (f.0, f.2))
        (λ l. pick_of No (eqb (phase net) PASS) (λ _. rw (f.1, f.2) (and-false (eqb k (holder net))))
        (λ p. pick_of No (eqb k (holder net)) (λ h. rw (held l p h, no_ram (page_at r (sent_page net)) (page_behind r (sent_page net))))
        (λ _. rw (f.1, stored (chaining (regs_at net k)), no_packet (page_at r (receive_page (regs_at net k))) (sent_shape net) (page_behind r (receive_page (regs_at net k)))) (and-false storing))))
