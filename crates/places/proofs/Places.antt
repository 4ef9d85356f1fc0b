-- A part of lent bytes starts onward from the whole, and a part of a part by both.
-- Assumes nothing.
use mathlib.Core.Path.{◌≡◌, ap, ◌∙◌}
use Prim.Native.Nat.{ℕ, ◌+◌}
use native.Mathlib.Omega.{arith}
use Rattle.places.specs.Places.{onward}

-- `&s[a..e]`, as the borrow checker gives its place
pub onward_part : (p : ℕ × ℕ) (a : ℕ) → (p.0, a + p.1) ≡ onward p a
unfolding onward
onward_part p a = ap (λ (n : ℕ). (p.0, n)) (omega arith)

-- a stretch at r, of a stretch at q, of the bytes at p
pub onward_onward : (p q r : ℕ × ℕ) (a b : ℕ) → q ≡ onward p a → r ≡ onward q b → r ≡ onward p (a + b)
unfolding onward
onward_onward p q r a b d e = e ∙ ap (λ (x : ℕ × ℕ). onward x b) d ∙ ap (λ (n : ℕ). (p.0, n)) (omega arith)
