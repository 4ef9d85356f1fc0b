-- Where a stretch of lent bytes stands.
-- Assumes nothing.
use Rattle.std.specs.Prelude.{ℕ, ◌+◌}

-- the place n bytes on from a place: a block of memory, and an offset in it
unfoldable pub onward : ℕ × ℕ → ℕ → ℕ × ℕ
onward p n = (p.0, p.1 + n)
