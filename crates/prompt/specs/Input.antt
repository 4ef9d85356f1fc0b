-- Standard input, line by line: how many bytes the buffer has, and which of them are a line's.
-- Assumes nothing.
use Rattle.std.specs.Prelude.{ℕ, ◌-◌, List, take, drop}

abbrev pub LINE : ℕ
LINE = 8192

-- the bytes of a line that stands from .. end in a buffer
abbrev pub text_of : (held : List ℕ) (from end : ℕ) → List ℕ
text_of held from end = take (end - from) (drop from held)
