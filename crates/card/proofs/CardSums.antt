-- Document 01's sums of one card.
-- Assumes nothing.
use mathlib.Core.Path.{◌≡◌, refl}
use mathlib.Core.Bool.{Bool, true, false, ◌&&◌, true≢false}
use mathlib.Core.Logic.{inl, inr}
use Prim.Native.Nat.{ℕ, ◌<◌}
use native.Mathlib.Omega.{arith}
use lib.Dec.{eqb, leb}
use borrow.Author.Tests.{leb-true}
use Rattle.card.specs.declared.packets.Shape.{Shape}
use Rattle.card.specs.declared.packets.Shape.TheVariants.{Malformed}
use Rattle.card.specs.Packets.{shape_of, data_bytes, CanBeSent, malformed}
use Rattle.bits.proofs.Words.Bools.{and_right, pick_of}

-- COUNT of a short packet, whatever byte 3 is and whatever the page; of a long one
module _ (next : ℕ) (long : Bool) where
  pub count_2 : shape_of 2 next long ≡ Malformed
  unfolding shape_of
  count_2 = refl

  pub count_3 : data_bytes (shape_of 3 next long) ≡ 253
  unfolding shape_of
  count_3 = refl

  pub count_255 : data_bytes (shape_of 255 next long) ≡ 1
  unfolding shape_of
  count_255 = refl

pub long_3 : shape_of 0 3 true ≡ Malformed
unfolding shape_of
long_3 = refl

pub long_4 : data_bytes (shape_of 0 4 true) ≡ 508
unfolding shape_of
long_4 = refl

pub long_255 : data_bytes (shape_of 0 255 true) ≡ 257
unfolding shape_of
long_255 = refl

-- the sizes of a packet whose COUNT bytes are bytes
pub data_sizes : (count next : ℕ) (long : Bool) → count < 256 → next < 256 → malformed (shape_of count next long) ≡ false
    → CanBeSent (data_bytes (shape_of count next long))
unfolding shape_of
data_sizes count next long c n =
    let P : Shape → Type 0 = λ s. malformed s ≡ false → CanBeSent (data_bytes s) in
    pick_of P (leb 3 count) (λ t _. let b = leb-true 3 count t in inl (omega arith, omega arith))
    (λ _. pick_of P (eqb count 0 && long && leb 4 next)
    (λ t _. let b = leb-true 4 next (and_right (eqb count 0 && long) (leb 4 next) t) in inr (omega arith, omega arith)) (λ _ e. absurd (true≢false e)))
