-- A packet that a card's page sends: the page's own, with the card's ID at byte 0.
-- Assumes nothing.
use mathlib.Core.Path.{◌≡◌, refl, ◌∙◌, ap}
use mathlib.Core.Bool.{false, true≢false}
use mathlib.Core.List.{List}
use Prim.Native.Nat.{ℕ, ◌+◌, ◌≤◌, ◌<◌}
use native.Mathlib.Nat.{add-zero}
use native.Mathlib.Omega.{arith}
use lib.ListN.{length, get_or, take, drop, get_or-append}
use lib.Seq.{get_or-take, get_or-drop, get_or-set_same, get_or-set_other}
use Rattle.card.specs.declared.packets.Shape.{Shape}
use Rattle.card.specs.declared.packets.Shape.TheVariants.{Malformed, Short, Long}
use Rattle.card.specs.declared.packets.Packet.{Packet}
use Rattle.registers.specs.declared.regs.Regs.{Regs}
use Rattle.card.specs.Row.{register_bytes, regs_of, Whole}
use Rattle.card.specs.Packets.{page_bytes, page_at, malformed, page_shape, packet_at, stamped}
use Rattle.card.proofs.Rows.Sizes.{SameSize, size_whole}
use Rattle.card.proofs.Words.Laid.{length_part}
use Rattle.card.proofs.Pages.Places.{page_behind, place_same, page_same}
use Rattle.card.proofs.Pages.Sizes.{page_fits}
use Rattle.card.proofs.Pages.Same.{shape_same}
use Rattle.card.proofs.Pages.Stored.{size_stamped}
use Rattle.card.proofs.Rows.WellFormed.{regs_stamped}

-- ---- a page that is stamped
stamped_other : (r : List ℕ) (a i : ℕ) → (i ≡ a → ⊥) → get_or (stamped r a) i 0 ≡ get_or r i 0
unfolding stamped
stamped_other r a i n = get_or-set_other r a i (regs_of r).id 0 (λ e. n e)

-- the row with its ID in page p
abbrev with_own_id : List ℕ → ℕ → List ℕ
with_own_id r p = stamped r (page_at r p)

module _ (r : List ℕ) (l : Whole r) (p : ℕ) where
  stamped_size : SameSize r (with_own_id r p)
  stamped_size = size_stamped r (page_at r p) (page_behind r p)

  stamped_place : page_at (with_own_id r p) p ≡ page_at r p
  stamped_place = place_same r (with_own_id r p) stamped_size p

  -- its packet has the shape that the page had: COUNT stands past the byte that is written
  stamped_shape : (packet_at (with_own_id r p) p).shape ≡ page_shape r p
  unfolding packet_at page_shape
  stamped_shape =
      rw (
        page_same r (with_own_id r p) stamped_size p (ap (λ (g : Regs). g.long) (regs_stamped r l (page_at r p) (page_behind r p))),
        stamped_place,
        stamped_other r (page_at r p) (page_at r p + 2) (λ e. omega arith),
        stamped_other r (page_at r p) (page_at r p + 3) (λ e. omega arith),
      )

-- ---- a packet that is read out of a page
module _ (r : List ℕ) (p : ℕ) (l : Whole r) (h : p < 4) where
  packet_at_lem : (i : ℕ) → i < page_bytes (page_shape r p) → get_or (packet_at r p).bytes i 0 ≡ get_or r (page_at r p + i) 0
  unfolding packet_at
  packet_at_lem i b =
      let n = page_bytes (page_shape r p) in
      let k : length (take n (drop (page_at r p) r)) ≡ n = length_part (page_at r p) n r (page_fits r p l h (page_shape r p) refl) in
      get_or-append (take n (drop (page_at r p) r)) _ 0 i (omega (arith, k)) ∙ get_or-take n (drop (page_at r p) r) i 0 b ∙ get_or-drop (page_at r p) r i 0

-- the packet k is that of page p of the row r, with the row's own ID at byte 0
pub record SentFrom (r : List ℕ) (p : ℕ) (k : Packet) : Type 0 where
  pub form : k.shape ≡ page_shape r p
  pub sound : malformed k.shape ≡ false
  pub own : get_or k.bytes 0 0 ≡ (regs_of r).id
  pub rest : (i : ℕ) → 1 ≤ i → i < page_bytes k.shape → get_or k.bytes i 0 ≡ get_or r (page_at r p + i) 0

-- a page that is sound has 256 bytes or more
pub page_least : (s : Shape) → malformed s ≡ false → 256 ≤ page_bytes s
page_least Malformed m = absurd (true≢false m)
page_least (Short c) m = omega arith
page_least (Long c) m = omega arith

packet_shape : (x : List ℕ) (p : ℕ) → page_shape x p ≡ (packet_at x p).shape
unfolding packet_at
packet_shape x p = refl

stamped_here : (x : List ℕ) (a : ℕ) → a < length x → get_or (stamped x a) a 0 ≡ (regs_of x).id
unfolding stamped
stamped_here x a b = get_or-set_same x a (regs_of x).id 0 b

-- the row s, which is r but for registers other than its ID and its long packets, is stamped and its packet read out
module _ (r s : List ℕ) (p : ℕ) (h : p < 4) (size : SameSize r s) (l : Whole r) (id : (regs_of s).id ≡ (regs_of r).id)
    (long : (regs_of s).long ≡ (regs_of r).long) (ram : (i : ℕ) → register_bytes ≤ i → get_or s i 0 ≡ get_or r i 0) (m : malformed (page_shape r p) ≡ false) where
  pub sent_from : SentFrom r p (packet_at (with_own_id s p) p)
  sent_from =
      let ls : Whole s = size_whole size l in
      let k = packet_at (with_own_id s p) p in
      let e : k.shape ≡ page_shape r p = stamped_shape s ls p ∙ shape_same r s size long ram p in
      let c : page_shape (with_own_id s p) p ≡ k.shape = packet_shape (with_own_id s p) p in
      let place : page_at s p ≡ page_at r p = place_same r s size p in
      let n : malformed k.shape ≡ false = rw e m in
      let least = page_least k.shape n in
      let fits : page_at s p + page_bytes k.shape ≤ length s = page_fits s p ls h k.shape (stamped_shape s ls p) in
      let at : (i : ℕ) → i < page_bytes k.shape → get_or k.bytes i 0 ≡ get_or (with_own_id s p) (page_at s p + i) 0
      = λ i b. rw (stamped_place s ls p) at (packet_at_lem (with_own_id s p) p (size_whole (stamped_size s ls p) ls) h i (rw c b)) in
      record {
        form = e;
        sound = n;
        own = at 0 (omega arith) ∙ rw (add-zero (page_at s p)) (stamped_here s (page_at s p) (omega arith)) ∙ id;
        rest = λ i a b. at i b ∙ stamped_other s (page_at s p) (page_at s p + i) (λ x. omega (arith, x)) ∙ rw place (ram (page_at r p + i) (omega (arith, page_behind r p)));
      }
