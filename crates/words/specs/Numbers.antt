-- The number that a word spells.
-- Assumes nothing.
use Rattle.std.specs.Prelude.{Bool, true, not, ◌&&◌, Option, Some, None, List, [], ◌∷◌, ℕ, ◌+◌, ◌*◌, ◌-◌, eqb, leb, length}
use Rattle.words.specs.Words.{pick}

abbrev pub digit : ℕ → Bool
digit b = leb 48 b && leb b 57

unfoldable pub digits : List ℕ → Bool
digits [] = true
digits (b ∷ s) = digit b && digits s

-- the value of the digits s after digits of the value v
unfoldable pub value_after : ℕ → List ℕ → ℕ
value_after v [] = v
value_after v (b ∷ s) = value_after (10 * v + (b - 48)) s

abbrev pub MOST : ℕ
MOST = 4294967295

-- digits, one or more, of a value that is at most MOST
unfoldable pub is_number : List ℕ → Bool
is_number s = not (eqb (length s) 0) && digits s && leb (value_after 0 s) MOST

unfoldable pub number_of : List ℕ → Option ℕ
number_of s = pick (is_number s) (Some (value_after 0 s)) None
