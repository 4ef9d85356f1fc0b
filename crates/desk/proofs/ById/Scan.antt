-- The walk of the invitations over the IDs: each ID is invited by whoever holds, and an on-line ID, once it has the token, invites itself.
-- Assumes nothing.
use mathlib.Core.Path.{◌≡◌, refl, sym, ◌∙◌}
use mathlib.Core.Logic.{◌≢◌}
use mathlib.Core.Bool.{Bool, true, false}
use mathlib.Core.List.{List, [], ◌∷◌, ◌++◌}
use Prim.Native.Nat.{ℕ, zero, suc, ◌+◌, ◌%◌, ◌<◌, ◌≤◌}
use native.Mathlib.Nat.{add-zero}
use native.Mathlib.Omega.{arith}
use borrow.Author.Tests.{eq-eqb, ne_eqb}
use Rattle.std.proofs.Math.Bool.{and-false}
use Rattle.desk.proofs.ById.Ring.{Took, Missed, next, upd, heeds, turn, Runs, stop, go, calls, script}

-- the last of g and the list
abbrev pub last : ℕ → List ℕ → ℕ
last g [] = g
last g (x ∷ xs) = last x xs

-- from g through the list, each ID's NID is the ID after it
abbrev pub Linked : (ℕ → ℕ) → ℕ → List ℕ → Type 0
Linked f g [] = Unit {0}
Linked f g (x ∷ xs) = (f g ≡ x) × Linked f x xs

pub upd_same : (f : ℕ → ℕ) (g v : ℕ) → upd f g v g ≡ v
upd_same f g v = rw (eq-eqb g g refl)

pub upd_other : (f : ℕ → ℕ) (g v y : ℕ) → y ≢ g → upd f g v y ≡ f y
upd_other f g v y h = rw (ne_eqb y g h)

-- y is none of the k IDs from a on
abbrev pub Off : ℕ → ℕ → ℕ → Type 0
Off y a k = (j : ℕ) → j < k → y ≢ (a + j) % 256

pub off_later : (y a k : ℕ) → Off y a (suc k) → Off y (suc a) k
off_later y a k o j h = λ e. o (suc j) (omega arith) (omega arith)

pub off_first : (a k : ℕ) → k ≤ 255 → Off (a % 256) (suc a) k
off_first a k r j h = omega arith

pub off_here : (y a k : ℕ) → Off y a (suc k) → y ≢ a % 256
off_here y a k o = λ e. o 0 (omega arith) (omega arith)

module _ (on : ℕ → Bool) where
  pub hear : (g x : ℕ) (f : ℕ → ℕ) → f g ≡ x → on x ≡ true → x ≢ g
      → turn on (record { taken = false; holder = g; nid = f }) ≡ (Took x, record { taken = true; holder = x; nid = f })
  hear g x f e o h = rw (e, o, ne_eqb x g h)

  pub miss : (g x : ℕ) (f : ℕ → ℕ) → f g ≡ x → heeds on g x ≡ false
      → turn on (record { taken = false; holder = g; nid = f }) ≡ (Missed x, record { taken = false; holder = g; nid = upd f g (next x) })
  miss g x f e o = rw (e, o)

  pub own : (x : ℕ) → heeds on x x ≡ false
  own x = rw (eq-eqb x x refl) (and-false (on x))

  -- the NID of each on-line ID that is still to come is its own
  abbrev pub Fresh : ℕ → ℕ → (ℕ → ℕ) → Type 0
  Fresh a k f = (j : ℕ) → j < k → on ((a + j) % 256) ≡ true → f ((a + j) % 256) ≡ (a + j) % 256

  shift : (a j : ℕ) → (suc a + j) % 256 ≡ (a + suc j) % 256
  shift a j = omega arith

  next_mod : (a : ℕ) → next (a % 256) ≡ suc a % 256
  next_mod a = omega arith

  fresh_later : (a k g v : ℕ) (f : ℕ → ℕ) → Off g (suc a) k → Fresh a (suc k) f → Fresh (suc a) k (upd f g v)
  fresh_later a k g v f o w j h on' = upd_other f g v _ (λ e. o j h (sym e)) ∙ rw shift (w (suc j) (omega arith) (rw shift at on'))

  fresh_here : (a k : ℕ) (f : ℕ → ℕ) → Fresh a (suc k) f → on (a % 256) ≡ true → f (a % 256) ≡ a % 256
  fresh_here a k f w o = rw add-zero at (w 0 (omega arith) (rw add-zero o))

  -- g holds and invites a next
  pub record Scanning (a k g : ℕ) (f : ℕ → ℕ) : Type 0 where
    pub room : k ≤ 255
    pub here : f g ≡ a % 256
    pub away : Off g a k
    pub fresh : Fresh a k f

  -- the k IDs from a on were invited: each that took the token has the next one's ID for its NID, and the others have the NIDs that they had
  pub record Scanned (a k g : ℕ) (f : ℕ → ℕ) : Type 0 where
    pub nid : ℕ → ℕ
    pub runs : Runs on (record { taken = false; holder = g; nid = f }) (script on a k) (record { taken = false; holder = last g (calls on a k); nid = nid })
    pub linked : Linked nid g (calls on a k ++ ((a + k) % 256 ∷ []))
    pub frame : (y : ℕ) → y ≢ g → Off y a k → nid y ≡ f y

  module _ (k a g : ℕ) (f : ℕ → ℕ) (r : Scanning a (suc k) g f) where
    scanning_off : Scanning (suc a) k g (upd f g (next (a % 256)))
    scanning_off =
        let away : Off g (suc a) k = off_later g a k r.away in
        record { room = omega (arith, r.room); here = upd_same f g _ ∙ next_mod a; away = away; fresh = fresh_later a k g _ f away r.fresh }

    scan_off : on (a % 256) ≡ false → Scanned (suc a) k g (upd f g (next (a % 256))) → Scanned a (suc k) g f
    unfolding calls script
    scan_off o s = record {
      nid = s.nid;
      runs = rw o (go (miss g (a % 256) f r.here (rw o)) s.runs);
      linked = rw (o, ← (shift a k)) s.linked;
      frame = λ y n w. s.frame y n (off_later y a k w) ∙ upd_other f g _ y n;
    }

    scanning_on : Scanning (suc a) k (a % 256) (upd f (a % 256) (next (a % 256)))
    scanning_on =
        let away : Off (a % 256) (suc a) k = off_first a k (omega (arith, r.room)) in
        record { room = omega (arith, r.room); here = upd_same f (a % 256) _ ∙ next_mod a; away = away; fresh = fresh_later a k _ _ f away r.fresh }

    scan_on : on (a % 256) ≡ true → Scanned (suc a) k (a % 256) (upd f (a % 256) (next (a % 256))) → Scanned a (suc k) g f
    unfolding calls script
    scan_on o s =
        let x = a % 256 in
        let frame : (y : ℕ) → Off y a (suc k) → s.nid y ≡ f y
        = λ y w. s.frame y (off_here y a k w) (off_later y a k w) ∙ upd_other f x _ y (off_here y a k w) in
        record {
          nid = s.nid;
          runs = rw o
              (go (hear g x f r.here o (λ e. off_here g a k r.away (sym e)))
              (go refl (go (miss x x f (fresh_here a k f r.fresh o) (own x)) s.runs)));
          linked = rw (o, ← (shift a k)) (frame g r.away ∙ r.here, s.linked);
          frame = λ y n w. frame y w;
        }

  pub scan : (k a g : ℕ) (f : ℕ → ℕ) → Scanning a k g f → Scanned a k g f
  unfolding calls script
  scan zero a g f r = record { nid = f; runs = stop; linked = (omega (arith, r.here), tt); frame = λ y h o. refl }
  scan (suc k) a g f r = case (on (a % 256)) refl (scan k (suc a) g _ (scanning_off k a g f r)) (scan k (suc a) _ _ (scanning_on k a g f r))
    where
      case : (b : Bool) → on (a % 256) ≡ b → Scanned (suc a) k g (upd f g (next (a % 256)))
          → Scanned (suc a) k (a % 256) (upd f (a % 256) (next (a % 256))) → Scanned a (suc k) g f
      case false o s t = scan_off k a g f r o s
      case true o s t = scan_on k a g f r o t
