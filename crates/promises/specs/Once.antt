-- What it is that a contract leaves one outcome: over the contract itself, so that a weaker contract breaks it.
-- Assumes nothing.
use Rattle.std.specs.Prelude.{◌≡◌, Option, Some, None, List, [], ℕ}
use contract.Lifetimes.{Lfts}
use Rattle.std.specs.Borrow.{Bor}
use denote.Triple.Clauses.{Ended, Lasts, AtExit, at_exit}
use denote.Triple.Entry.{Args, Res}

-- T is a function's signature with what it lends; κs are its lifetimes, a its arguments, x its answer, and w the last values of all that was lent
module _ (T : Ended) where
  abbrev K : Type 0
  K = Lfts T.signature.lifetimes

  abbrev A : K → Type 0
  A = Args T.signature

  abbrev R : K → Type 0
  R = Res T.signature

  -- what a caller must show, and what it learns: the `requires` and the `ensures` of a contract, as the prover reads them
  abbrev Asks : Type 1
  Asks = (κs : K) → A κs → Type 0

  abbrev Tells : Type 1
  Tells = (κs : K) → A κs → R κs → AtExit T κs → Type 0

  -- of the same arguments, two outcomes that meet the `ensures` are the same: the last values equal, and the answers by Same
  abbrev pub FixedBy : ((κs : K) → R κs → R κs → Type 0) → Tells → Type 0
  FixedBy Same Learnt =
      (κs : K) (a : A κs) (x x' : R κs) (w w' : Lasts T κs a) → Learnt κs a x (at_exit T κs a w) → Learnt κs a x' (at_exit T κs a w') → Same κs x x' × (w ≡ w')

  abbrev pub Fixed : Tells → Type 0
  Fixed = FixedBy (λ κs x x'. x ≡ x')

  -- the same of those arguments that If holds of
  abbrev pub FixedIf : ((κs : K) → A κs → Type 0) → Tells → Type 0
  FixedIf If Learnt =
      (κs : K) (a : A κs) → If κs a → (x x' : R κs) (w w' : Lasts T κs a) → Learnt κs a x (at_exit T κs a w) → Learnt κs a x' (at_exit T κs a w') → (x ≡ x') × (w ≡ w')

  -- the same of a function that any arguments may be passed to: it has no `requires`
  abbrev pub OnceBy : ((κs : K) → R κs → R κs → Type 0) → Asks → Tells → Type 0
  OnceBy Same Asked Learnt = ((κs : K) (a : A κs) → Asked κs a) × FixedBy Same Learnt

  abbrev pub Once : Asks → Tells → Type 0
  Once = OnceBy (λ κs x x'. x ≡ x')

  -- what is said of every outcome that meets the `ensures`
  abbrev pub Says : ((κs : K) (a : A κs) → R κs → Lasts T κs a → Type 0) → Tells → Type 0
  Says That Learnt = (κs : K) (a : A κs) (x : R κs) (w : Lasts T κs a) → Learnt κs a x (at_exit T κs a w) → That κs a x w

-- a stretch of lent bytes that is handed back: the same bytes and, where there are any, at the same place
abbrev pub SamePart : Bor (List ℕ) → Bor (List ℕ) → Type 0
SamePart x x' = (x.now ≡ x'.now) × ((x.now ≡ [] → ⊥) → x.ref_ptr ≡ x'.ref_ptr)

-- the same of a stretch that there may not be
abbrev pub SamePartIf : Option (Bor (List ℕ)) → Option (Bor (List ℕ)) → Type 0
SamePartIf (Some x) (Some x') = SamePart x x'
SamePartIf None None = Unit {0}
SamePartIf _ _ = ⊥
