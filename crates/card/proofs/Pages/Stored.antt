-- The laws of a page that is stored, stamped and read.
-- Assumes nothing.
use mathlib.Core.Path.{◌≡◌, sym, ◌∙◌, ap}
use mathlib.Core.Bool.{Bool, true, false, ◌&&◌}
use mathlib.Core.Logic.{◌⊎◌, ⊎_elim}
use mathlib.Core.List.{List}
use Prim.Native.Nat.{ℕ, ◌+◌, ◌-◌, ◌≤◌, ◌<◌}
use native.Mathlib.Omega.{arith}
use borrow.Author.Tests.{ltb-true, ltb-false, le-ltb}
use lib.Dec.{eqb, leb, ltb}
use lib.ListN.{length, get_or, take, drop}
use lib.Seq.{length-take-le, get_or-take, get_or-drop}
use Rattle.card.specs.declared.packets.Shape.{Shape}
use Rattle.card.specs.declared.packets.Shape.TheVariants.{Malformed, Short, Long}
use Rattle.card.specs.declared.packets.Packet.{Packet}
use Rattle.bits.specs.Words.{pick}
use Rattle.card.specs.Row.{register_bytes, regs_of}
use Rattle.card.specs.Packets.{shape_of, data_bytes, data_at, head_bytes, page_bytes, page_of, page_at, page_shape, page_data, malformed, laid, head_of, data_of, stored, stamped}
use Rattle.std.proofs.lemmas.Bool.{cases_Bool}
use Rattle.card.proofs.Words.Laid.{length_part, length_laid, laid_below, laid_within, laid_above, laid_back}
use Rattle.card.proofs.Rows.Sizes.{SameSize, size_of, size_set}
use Rattle.card.proofs.Pages.Places.{page_behind, place_same, page_same}
use Rattle.card.proofs.Pages.Sizes.{data_end, head_most, head_least, page_most}

-- a shape that is not malformed is given by COUNT's bytes alone: the byte at offset 3 only where the head has it
again : (t v w : Bool) (a b b' : ℕ) (s : Shape) → s ≡ pick t (Short a) (pick v (Long b) Malformed) → malformed s ≡ false
    → (3 < head_bytes s → (b' ≡ b) × (w ≡ v)) → pick t (Short a) (pick w (Long b') Malformed) ≡ s
again t v w a b b' Malformed e m f = cc
again true v w a b b' (Short c) e m f = sym e
again false true w a b b' (Short c) e m f = cc
again false false w a b b' (Short c) e m f = cc
again t v w a b b' (Long c) e m f = let g : (b' ≡ b) × (w ≡ v) = f (omega arith) in rw (g.0, g.1) (sym e)

shape_again : (a b a' b' : ℕ) (l : Bool) (s : Shape) → s ≡ shape_of a b l → malformed s ≡ false → a' ≡ a → (3 < head_bytes s → b' ≡ b)
    → shape_of a' b' l ≡ s
unfolding shape_of
shape_again a b a' b' l s e m p f =
    rw p
    (again (leb 3 a) (eqb a 0 && l && leb 4 b) (eqb a 0 && l && leb 4 b') a b b' s e m (λ h. (f h, ap (λ (x : ℕ). eqb a 0 && l && leb 4 x) (f h))))

-- the laws of a packet that is stored in the page that starts at a
module _ (r : List ℕ) (a : ℕ) (k : Packet) (f : a + page_bytes k.shape ≤ length r) (l : 512 ≤ length k.bytes) (b : data_at k.shape < 256) where
  head_length : length (head_of k) ≡ head_bytes k.shape
  head_length = length-take-le (head_bytes k.shape) k.bytes (omega (arith, head_most k.shape, page_most k.shape))

  data-length : length (data_of k) ≡ data_bytes k.shape
  data-length = length_part (data_at k.shape) (data_bytes k.shape) k.bytes (omega (arith, data_end k.shape b, page_most k.shape))

  abbrev headed : List ℕ
  headed = laid (a) (head_of k) r

  head_room : a + length (head_of k) ≤ length r
  head_room = omega (arith, head_length, head_most k.shape)

  data-room : a + data_at k.shape + length (data_of k) ≤ length headed
  data-room = omega (arith, length_laid (a) (head_of k) r head_room, data-length, data_end k.shape b)

  pub length_stored : length (stored r a k) ≡ length r
  unfolding stored
  length_stored = length_laid _ (data_of k) headed data-room ∙ length_laid _ (head_of k) r head_room

  below : (i : ℕ) → i < a → get_or (stored r a k) i 0 ≡ get_or r i 0
  unfolding stored
  below i h = laid_below _ (data_of k) headed data-room i (omega arith) ∙ laid_below _ (head_of k) r head_room i h

  above : (i : ℕ) → a + page_bytes k.shape ≤ i → get_or (stored r a k) i 0 ≡ get_or r i 0
  unfolding stored
  above i h =
      laid_above _ (data_of k) headed data-room i (omega (arith, data-length, data_end k.shape b))
      ∙ laid_above _ (head_of k) r head_room i (omega (arith, head_length, head_most k.shape))

  -- no byte outside the page changes
  pub stored_outside : (i : ℕ) → (i < a) ⊎ (a + page_bytes k.shape ≤ i) → get_or (stored r a k) i 0 ≡ get_or r i 0
  stored_outside i h = ⊎_elim (below i) (above i) h

  -- the gap between head and data is untouched
  pub stored_gap : (i : ℕ) → a + head_bytes k.shape ≤ i → i < a + data_at k.shape → get_or (stored r a k) i 0 ≡ get_or r i 0
  unfolding stored
  stored_gap i g h =
      laid_below _ (data_of k) headed data-room i h
      ∙ laid_above _ (head_of k) r head_room i (omega (arith, head_length))

  -- data and head stand at their offsets of the packet
  data-at : (j : ℕ) → j < data_bytes k.shape → get_or (stored r a k) (a + data_at k.shape + j) 0 ≡ get_or k.bytes (data_at k.shape + j) 0
  unfolding stored
  data-at j h = laid_within _ (data_of k) headed data-room j (omega (arith, data-length)) ∙ rw (get_or-take, get_or-drop)

  pub stored_data : (i : ℕ) → data_at k.shape ≤ i → i < page_bytes k.shape → get_or (stored r a k) (a + i) 0 ≡ get_or k.bytes i 0
  stored_data i g h =
      let e : a + data_at k.shape + (i - data_at k.shape) ≡ a + i = omega arith in
      let f : data_at k.shape + (i - data_at k.shape) ≡ i = omega arith in
      rw (e, f) at (data-at (i - data_at k.shape) (omega (arith, data_end k.shape b)))

  pub stored_head : (i : ℕ) → i < head_bytes k.shape → get_or (stored r a k) (a + i) 0 ≡ get_or k.bytes i 0
  unfolding stored
  stored_head i h =
      ⊎_elim (λ t. front (ltb-true i _ t))
      (λ t. stored_data i (ltb-false i _ t) (omega (arith, head_most k.shape)))
      (cases_Bool (ltb i (data_at k.shape)))
    where
      front : i < data_at k.shape → get_or (stored r a k) (a + i) 0 ≡ get_or k.bytes i 0
      front q =
          laid_below _ (data_of k) headed data-room (a + i) (omega arith)
          ∙ laid_within _ (head_of k) r head_room i (omega (arith, head_length))
          ∙ rw get_or-take

  stands : take (length (data_of k)) (drop (a + data_at k.shape) (stored r a k)) ≡ data_of k
  unfolding stored
  stands = laid_back _ (data_of k) headed data-room

  -- behind the registers, a row that is as long
  pub size_stored : register_bytes ≤ a → SameSize r (stored r a k)
  size_stored h = size_of r (stored r a k) length_stored (λ x c. below x (omega arith))

  -- what was stored is what is read: of a packet whose shape is what its own bytes say in this row and page
  module _ (p : ℕ) (at : a ≡ page_at r p) (m : malformed k.shape ≡ false)
      (e : k.shape ≡ shape_of (get_or k.bytes 2 0) (get_or k.bytes 3 0) (page_of r p).long) where
    long : SameSize r (stored r a k)
    long = size_stored (omega (arith, page_behind r p))

    place : page_at (stored r a k) p ≡ a
    place = place_same r (stored r a k) long p ∙ sym at

    shape_back : page_shape (stored r a k) p ≡ k.shape
    unfolding page_shape regs_of
    shape_back =
        rw (page_same r (stored r a k) long p (below 15 (omega (arith, page_behind r p))), place)
        (shape_again _ _ _ _ _ k.shape e m (stored_head 2 (head_least k.shape m)) (stored_head 3))

    pub reads_back : p < 4 → (page_shape (stored r a k) p ≡ k.shape) × (page_data (stored r a k) p ≡ data_of k)
    unfolding page_data
    reads_back h = (shape_back, rw (le-ltb 3 p (omega arith), shape_back, place) (rw data-length at stands))

-- writing the row's ID into a page
pub size_stamped : (r : List ℕ) (a : ℕ) → register_bytes ≤ a → SameSize r (stamped r a)
unfolding stamped
size_stamped r a h = size_set r a (regs_of r).id (omega arith)
