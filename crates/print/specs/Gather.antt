-- Text gathered in a buffer: what each byte does to the buffer and to the count of its bytes, and the text of numbers and bytes.
-- Assumes nothing.
use Rattle.std.specs.Fmt.{decimal}
use Rattle.std.specs.Prelude.{◌≡◌, ◌⊎◌, Bool, true, false, cond, List, [], ◌∷◌, ◌++◌, ℕ, ◌+◌, ◌/◌, ◌%◌, ◌≤◌, ltb, get_or, set, Result, MatchResult}

abbrev pub ROOM : ℕ
ROOM = 4096

abbrev pub NEWLINE : ℕ
NEWLINE = 10

abbrev pub SPACE : ℕ
SPACE = 32

-- the buffer, and how many of its bytes are gathered
pub record Gathered : Type 0 where
  pub held : List ℕ
  pub count : ℕ

abbrev pub got : List ℕ → ℕ → Gathered
got out n = record { held = out; count = n }

-- a byte goes behind those that are gathered; where there is no room for it they are written, and it is the first
unfoldable pub put : Gathered → ℕ → Gathered
put g b = cond (ltb g.count ROOM) (got (set g.held g.count b) (g.count + 1)) (got (set g.held 0 b) 1)

unfoldable pub gather : Gathered → List ℕ → Gathered
gather g [] = g
gather g (b ∷ s) = gather (put g b) s

-- a write failed while the text s was gathered: a front of it is gathered, which fills the buffer
unfoldable pub Stopped : Gathered → List ℕ → Gathered → Type 0
Stopped g s h = (front rest : List ℕ) × (s ≡ front ++ rest) × (ROOM ≤ (gather g front).count) × (h ≡ gather g front)

-- the text s is gathered, or a write failed
abbrev pub Gathers : {E : Type 0} → Result Unit E → Gathered → List ℕ → Gathered → Type 0
Gathers r g s h = MatchResult r (λ u. h ≡ gather g s) (λ e. Stopped g s h)

-- a write failed while the text s was gathered, or after that
abbrev pub Unwritten : Gathered → List ℕ → Gathered → Type 0
Unwritten g s h = Stopped g s h ⊎ (h ≡ gather g s)

-- what is left when the text s has ended a line: nothing is gathered
unfoldable pub line_of : Gathered → List ℕ → Gathered
line_of g s = got (put (gather g s) NEWLINE).held 0

-- the text s has ended a line, or a write failed
abbrev pub Ends : {E : Type 0} → Result Unit E → Gathered → List ℕ → Gathered → Type 0
Ends r g s h = MatchResult r (λ u. h ≡ line_of g s) (λ e. Unwritten g (s ++ (NEWLINE ∷ [])) h)

-- bytes as pairs of digits in hex, 0 to 9 and A to F
abbrev pub digit : ℕ → ℕ
digit d = get_or (48 ∷ 49 ∷ 50 ∷ 51 ∷ 52 ∷ 53 ∷ 54 ∷ 55 ∷ 56 ∷ 57 ∷ 65 ∷ 66 ∷ 67 ∷ 68 ∷ 69 ∷ 70 ∷ []) d 0

unfoldable pub hex : List ℕ → List ℕ
hex [] = []
hex (b ∷ s) = digit (b / 16) ∷ digit (b % 16) ∷ hex s

-- bytes after a space; nothing where there are none
unfoldable pub spaced : List ℕ → List ℕ
spaced [] = []
spaced (b ∷ s) = SPACE ∷ hex (b ∷ s)

-- a space, where one is wanted; a number at the right of a column of four
unfoldable pub pad : Bool → List ℕ
pad true = SPACE ∷ []
pad false = []

unfoldable pub column : ℕ → List ℕ
column n = pad (ltb n 1000) ++ (pad (ltb n 100) ++ (pad (ltb n 10) ++ decimal n))
