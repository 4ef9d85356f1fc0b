-- FNV-1a, 64 bits.
-- Assumes nothing.
use Rattle.std.specs.Prelude.{ℕ, ◌*◌, ◌%◌, List, [], ◌∷◌, bit_xor}

abbrev pub BASIS : ℕ
BASIS = 0xcbf29ce484222325

abbrev pub PRIME : ℕ
PRIME = 0x100000001b3

-- the sum of the bytes s after bytes of the sum h
unfoldable pub sum_after : ℕ → List ℕ → ℕ
sum_after h [] = h
sum_after h (b ∷ s) = sum_after (bit_xor h b * PRIME % 18446744073709551616) s
