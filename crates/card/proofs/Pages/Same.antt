-- A page of two rows that have the same RAM and the same long packets.
-- Assumes nothing.
use mathlib.Core.Path.{◌≡◌, sym, ◌∙◌}
use mathlib.Core.List.{List}
use Prim.Native.Nat.{ℕ, ◌+◌, ◌≤◌}
use native.Mathlib.Omega.{arith}
use lib.ListN.{get_or, drop, length-drop}
use lib.Seq.{ext_get_or, get_or-drop}
use Rattle.card.specs.Row.{register_bytes, regs_of}
use Rattle.card.specs.Packets.{data_at, page_at, page_shape, destination, data_refusals, data_number, page_data}
use Rattle.card.specs.Moves.{Holds}
use Rattle.card.proofs.Rows.Sizes.{SameSize}
use Rattle.card.proofs.Pages.Places.{page_behind, place_same, page_same}

module _ (r s : List ℕ) (size : SameSize r s) (long : (regs_of s).long ≡ (regs_of r).long) (ram : (i : ℕ) → register_bytes ≤ i → get_or s i 0 ≡ get_or r i 0) (p : ℕ) where
  -- a byte of the page
  in-page : (i : ℕ) → get_or s (page_at r p + i) 0 ≡ get_or r (page_at r p + i) 0
  in-page i = ram (page_at r p + i) (omega (arith, page_behind r p))

  pub shape_same : page_shape s p ≡ page_shape r p
  unfolding page_shape
  shape_same = rw (page_same r s size p long, place_same r s size p, in-page 2, in-page 3)

  from_same : (a : ℕ) → register_bytes ≤ a → drop a s ≡ drop a r
  from_same a h =
      ext_get_or 0 (drop a s) (drop a r) (rw (length-drop a s, length-drop a r, size.long)) (λ i _. get_or-drop a s i 0 ∙ ram (a + i) (omega arith) ∙ sym (get_or-drop a r i 0))

  data-same : page_data s p ≡ page_data r p
  unfolding page_data
  data-same = rw (shape_same, place_same r s size p, from_same (page_at r p + data_at (page_shape r p)) (omega (arith, page_behind r p)))

  number_same : data_number s p ≡ data_number r p
  unfolding data_refusals
  number_same = rw shape_same

  pub did_same : destination s p ≡ destination r p
  unfolding destination
  did_same = rw (place_same r s size p) (in-page 1)

-- a page that holds what was sent does so while its row's RAM and its long packets stay
pub holds_same : (r : List ℕ) (p : ℕ) (s t : List ℕ) (q : ℕ) → SameSize s t → (regs_of t).long ≡ (regs_of s).long → ((i : ℕ) → register_bytes ≤ i → get_or t i 0 ≡ get_or s i 0)
    → Holds r p s q → Holds r p t q
holds_same r p s t q size long ram h = record {
  readable = number_same s t size long ram q ∙ h.readable;
  bytes = data-same s t size long ram q ∙ h.bytes;
  sid = rw (place_same s t size q) (ram (page_at s q) (page_behind s q)) ∙ h.sid;
  did = did_same s t size long ram q ∙ h.did;
}
