-- The words that the definitions are written in: a choice, a list of tests, and the bits of a byte.
-- Assumes nothing.
use Rattle.std.specs.Prelude.{Bool, true, false, not, ◌&&◌, ◌||◌, List, [], ◌∷◌, ℕ, ◌-◌, eqb}
use Rattle.std.specs.Int.Bits.{bit_and, bit_or}

abbrev pub pick : {A : Type 0} → Bool → A → A → A
pick true a b = a
pick false a b = b

-- every test of the list holds
abbrev pub all_after : Bool → List Bool → Bool
all_after b [] = b
all_after b (c ∷ l) = all_after (b && c) l

abbrev pub all : List Bool → Bool
all l = all_after true l

-- the number i is one of the list
abbrev pub among : List ℕ → ℕ → Bool
among [] i = false
among (a ∷ l) i = eqb i a || among l i

-- none of the bits f is set in the byte x; some bit of f is
abbrev pub clear : ℕ → ℕ → Bool
clear f x = eqb (bit_and x f) 0

abbrev pub has : ℕ → ℕ → Bool
has f x = not (clear f x)

-- the byte x with the bits f set to 1; so where b holds; with the bits f set to 0; with them set to 1 where b holds, and to 0 where not
abbrev pub raise : ℕ → ℕ → ℕ
raise f x = bit_or x f

abbrev pub raise_if : Bool → ℕ → ℕ → ℕ
raise_if b f x = pick b (raise f x) x

abbrev pub lower : ℕ → ℕ → ℕ
lower f x = bit_and x (255 - f)

abbrev pub set_to : Bool → ℕ → ℕ → ℕ
set_to b f x = pick b (raise f x) (lower f x)
