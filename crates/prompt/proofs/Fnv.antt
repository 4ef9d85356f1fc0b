-- FNV's sum, byte by byte.
-- Assumes nothing.
use Rattle.std.proofs.Common.{◌≡◌, ℕ, ◌+◌, ◌*◌, ◌%◌, ◌<◌, ◌≤◌, List, length, get_or, drop, add-one, drop_of_length-le, drop-cons}
use lib.Bits.{bit_xor}
use Rattle.prompt.specs.Sums.{PRIME, sum_after}

abbrev W : ℕ
W = 18446744073709551616

pub sum_end : (s : List ℕ) (i h : ℕ) → length s ≤ i → sum_after h (drop i s) ≡ h
unfolding sum_after
sum_end s i h l = rw (drop_of_length-le s l)

pub sum_more : (s : List ℕ) (i h : ℕ) → i < length s → sum_after h (drop i s) ≡ sum_after (bit_xor h (get_or s i 0) * PRIME % W) (drop (i + 1) s)
unfolding sum_after
sum_more s i h l = rw (drop-cons s i 0 l, add-one)
