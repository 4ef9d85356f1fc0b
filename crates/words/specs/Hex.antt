-- Bytes as pairs of hex digits.
-- Assumes nothing.
use Rattle.std.specs.Prelude.{Bool, true, false, is_some, ◌&&◌, Option, Some, None, List, [], ◌∷◌, ℕ, ◌+◌, ◌*◌, ◌-◌, leb}
use Rattle.std.specs.Option.{unwrap_or}
use Rattle.words.specs.Words.{pick}

-- the value of 0-9, A-F and a-f; nothing for any other byte
unfoldable pub nibble : ℕ → Option ℕ
nibble b =
    pick (leb 48 b && leb b 57) (Some (b - 48))
    (pick (leb 65 b && leb b 70) (Some (b - 55))
    (pick (leb 97 b && leb b 102) (Some (b - 87)) None))

-- any other byte counts as 0
unfoldable pub pair : ℕ → ℕ → ℕ
pair high low = 16 * unwrap_or (nibble high) 0 + unwrap_or (nibble low) 0

-- pairs of hex digits, and nothing else
unfoldable pub hex_fits : List ℕ → Bool
hex_fits [] = true
hex_fits (h ∷ []) = false
hex_fits (h ∷ l ∷ s) = is_some (nibble h) && (is_some (nibble l) && hex_fits s)

-- the bytes that the pairs spell
unfoldable pub unhex : List ℕ → List ℕ
unhex [] = []
unhex (h ∷ []) = []
unhex (h ∷ l ∷ s) = pair h l ∷ unhex s
