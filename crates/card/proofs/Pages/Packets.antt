-- What a packet that is read out of a page is like: its 512 bytes, and its COUNT.
-- Assumes nothing.
use mathlib.Core.Path.{◌≡◌, refl}
use mathlib.Core.List.{List}
use Prim.Native.Nat.{ℕ, ◌+◌, ◌≤◌, ◌<◌}
use native.Mathlib.Omega.{arith}
use lib.ListN.{length, get_or, length-append, length-replicate}
use Rattle.card.specs.Row.{register_bytes, Whole}
use Rattle.card.specs.Packets.{data_at, page_bytes, page_at, page_shape, packet_at}
use Rattle.card.proofs.Words.Laid.{length_part}
use Rattle.card.proofs.Pages.Places.{page_behind}
use Rattle.card.proofs.Pages.Sizes.{page_most, page_fits, count_byte}

-- the bytes of a row's RAM are bytes
abbrev pub Ram : List ℕ → Type 0
Ram r = (i : ℕ) → register_bytes ≤ i → get_or r i 0 < 256

module _ (r : List ℕ) (p : ℕ) where
  pub packet_full : Whole r → p < 4 → length (packet_at r p).bytes ≡ 512
  unfolding packet_at
  packet_full l h =
      let n : ℕ = page_bytes (page_shape r p) in
      simp (length-append, length-replicate, length_part (page_at r p) n r (page_fits r p l h (page_shape r p) refl))
      (omega (arith, page_most (page_shape r p)))

  pub packet_count : Ram r → data_at (packet_at r p).shape < 256
  unfolding packet_at page_shape
  packet_count b = count_byte _ _ _ (b (page_at r p + 2) (omega (arith, page_behind r p))) (b (page_at r p + 3) (omega (arith, page_behind r p)))
