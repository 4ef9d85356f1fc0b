-- Where the pages of a row stand. What is told of packets elsewhere rests on these laws alone.
-- Assumes nothing.
use mathlib.Core.Path.{◌≡◌, refl}
use mathlib.Core.Bool.{Bool, true, false, ◌&&◌}
use mathlib.Core.List.{List}
use Prim.Native.Nat.{ℕ, ◌+◌, ◌*◌, ◌≤◌, ◌<◌}
use native.Mathlib.Omega.{arith}
use borrow.Author.Tests.{leb-true}
use lib.Bits.{and_mask}
use lib.Dec.{eqb, leb}
use lib.ListN.{length}
use Rattle.bits.specs.Words.{pick, clear}
use Rattle.registers.specs.Events.{receiving, receive_page}
use Rattle.card.specs.Row.{register_bytes, row_bytes, Whole, regs_of}
use Rattle.card.specs.Packets.{page_of, page_at}
use Rattle.bits.proofs.Words.Table.{by_table}
use Rattle.registers.proofs.Values.Fits.{Fit}
use Rattle.registers.proofs.Values.Ends.{receive_page_even}
use Rattle.card.proofs.Rows.Sizes.{SameSize, whole_long}

-- a page that may be long is even, and so it ends within the row
even_fits : (p : ℕ) → p < 4 → register_bytes + 256 * p + pick (clear 1 p) 512 256 ≤ row_bytes
even_fits p h = leb-true _ _ (by_table false (λ p. leb (register_bytes + 256 * p + pick (clear 1 p) 512 256) row_bytes) (λ p. true) 4 refl p h)

either : (x y : Bool) → pick (x && y) 512 256 ≤ pick y 512 256
either true y = omega arith
either false true = omega arith
either false false = omega arith

module _ (r : List ℕ) where
  -- a page stands behind the registers, and within its row
  pub page_behind : (p : ℕ) → register_bytes ≤ page_at r p
  unfolding page_of
  page_behind p = omega arith

  pub page_room : (p : ℕ) → Whole r → p < 4 → page_at r p + pick (page_of r p).long 512 256 ≤ length r
  unfolding page_of
  page_room p w h = omega (arith, even_fits p h, either (eqb (regs_of r).long 1) (clear 1 p), whole_long r w)

  pub page_short : (p : ℕ) → Whole r → p < 4 → page_at r p + 256 ≤ length r
  page_short p w h = omega (arith, page_room p w h, least (page_of r p).long)
    where
      least : (b : Bool) → 256 ≤ pick b 512 256
      least true = omega arith
      least false = omega arith

  -- the page in which a row with long packets waits for a packet may be long
  pub receive_long : Fit (regs_of r) → receiving (regs_of r) ≡ true → eqb (regs_of r).long 1 ≡ true → (page_of r (receive_page (regs_of r))).long ≡ true
  unfolding page_of
  receive_long f w t = rw (t, and_mask (receive_page (regs_of r)) 1, receive_page_even (regs_of r) f w t)

-- rows of one size have their pages at the same places; those may be long in both where long packets are the same
module _ (r s : List ℕ) (e : SameSize r s) (p : ℕ) where
  pub place_same : page_at s p ≡ page_at r p
  unfolding page_of
  place_same = refl

  pub page_same : (regs_of s).long ≡ (regs_of r).long → page_of s p ≡ page_of r p
  unfolding page_of
  page_same l = rw l
