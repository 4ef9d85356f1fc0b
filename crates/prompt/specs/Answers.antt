-- The answer lines.
-- Assumes nothing.
use Rattle.std.specs.Prelude.{ℕ, List, [], ◌∷◌}

-- the text DONE
abbrev pub DONE : List ℕ
DONE = 68 ∷ 79 ∷ 78 ∷ 69 ∷ []
