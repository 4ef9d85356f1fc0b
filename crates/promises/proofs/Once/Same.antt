-- Two outcomes of one contract are the same, by the form of its `ensures`.
-- Assumes nothing.
use mathlib.Core.Path.{◌≡◌, refl, sym, ◌∙◌}
use mathlib.Core.List.{List, []}
use Prim.Native.Nat.{ℕ, zero, suc}
use native.Mathlib.Omega.{arith}
use denote.Ref.{Bor}
use Rattle.promises.specs.Once.{SamePart}

-- an answer by an equation, and nothing lent that can change
pub told : {A Z : Type 0} {x x' u : A} {w w' : Z} → w ≡ w' → x ≡ u → x' ≡ u → (x ≡ x') × (w ≡ w')
told e p q = (p ∙ sym q, e)

-- an answer by what it tells, of which there is one answer: with nothing lent that can change, or the bytes of the first parameter or of the second
module _ {A B : Type 0} {f : A → B} (one : (x y : A) → f x ≡ f y → x ≡ y) {Z : Type 0} {x x' : A} {u : B} where
  pub told_by : {w w' : Z} → w ≡ w' → f x ≡ u → f x' ≡ u → (x ≡ x') × (w ≡ w')
  told_by e p q = (one x x' (p ∙ sym q), e)

  module _ {V : Type 0} {v : V} where
    pub both_by : {w w' : V × Z} → w.1 ≡ w'.1 → (f x ≡ u) × (w.0 ≡ v) → (f x' ≡ u) × (w'.0 ≡ v) → (x ≡ x') × (w ≡ w')
    both_by e p q = (one x x' (p.0 ∙ sym q.0), λ i. ((p.1 ∙ sym q.1) i, e i))

    pub both_right_by : {w w' : Unit {0} × (V × Z)} → w.1.1 ≡ w'.1.1 → (f x ≡ u) × (w.1.0 ≡ v) → (f x' ≡ u) × (w'.1.0 ≡ v) → (x ≡ x') × (w ≡ w')
    both_right_by e p q = (one x x' (p.0 ∙ sym q.0), λ i. (tt, ((p.1 ∙ sym q.1) i, e i)))

-- no answer, and the bytes of the first parameter by an equation, or of the second
module _ {B Z : Type 0} {x x' : Unit {0}} {v : B} where
  pub left : {w w' : B × Z} → w.1 ≡ w'.1 → w.0 ≡ v → w'.0 ≡ v → (x ≡ x') × (w ≡ w')
  left e p q = (refl, λ i. ((p ∙ sym q) i, e i))

  pub right : {w w' : Unit {0} × (B × Z)} → w.1.1 ≡ w'.1.1 → w.1.0 ≡ v → w'.1.0 ≡ v → (x ≡ x') × (w ≡ w')
  right e p q = (refl, λ i. (tt, ((p ∙ sym q) i, e i)))

-- an answer, and the bytes of the first parameter
module _ {A B Z : Type 0} {x x' u : A} {v : B} where
  pub both : {w w' : B × Z} → w.1 ≡ w'.1 → (x ≡ u) × (w.0 ≡ v) → (x' ≡ u) × (w'.0 ≡ v) → (x ≡ x') × (w ≡ w')
  both e p q = (p.0 ∙ sym q.0, (left {x = tt} {x' = tt} e p.1 q.1).1)

-- a stretch, by its bytes v and, under C, its place y: C holds where there are bytes
pub part : {Z C : Type 0} {v : List ℕ} {y : ℕ × ℕ} {w w' : Z} (x x' : Bor (List ℕ)) → w ≡ w' → ((v ≡ [] → ⊥) → C) → (x.now ≡ v) × (C → x.ref_ptr ≡ y)
    → (x'.now ≡ v) × (C → x'.ref_ptr ≡ y) → SamePart x x' × (w ≡ w')
part x x' e c p q = ((p.0 ∙ sym q.0, λ n. let h = c (λ z. n (p.0 ∙ z)) in p.1 h ∙ sym (q.1 h)), e)

-- a stretch that is refused has no bytes
pub unrefused : (n : ℕ) {v : List ℕ} → ((n ≡ 0 → ⊥) → v ≡ []) → (v ≡ [] → ⊥) → n ≡ 0
unrefused zero h f = refl
unrefused (suc n) h f = absurd (f (h (λ e. omega (arith, e))))
