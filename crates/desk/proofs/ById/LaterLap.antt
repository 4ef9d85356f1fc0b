-- A later lap, seen by IDs: each NID is the ID of the node that is to take the token next.
-- Assumes nothing.
use mathlib.Core.Path.{◌≡◌, refl, sym, ap}
use mathlib.Core.Logic.{◌≢◌}
use mathlib.Core.Bool.{Bool, true, false}
use mathlib.Core.List.{List, [], ◌∷◌, ◌++◌}
use Prim.Native.Nat.{ℕ, zero, suc, ◌*◌, ◌%◌, ◌<◌, ◌≤◌}
use native.Mathlib.Omega.{arith}
use lib.ListN.{length}
use borrow.Author.Tests.{ne_eqb}
use Rattle.desk.proofs.ById.Ring.{Telling, Took, Spoke, Ring, Runs, stop, go, calls, roster}
use Rattle.desk.proofs.ById.Scan.{last, Linked, Off, off_first, off_later, off_here, hear}
use Rattle.desk.proofs.ById.Roster.{takes, invites, roster_is}
use Rattle.desk.proofs.ById.FirstLap.{Closes, closes_now, closes_more, lap, back, begin}

-- what is told: each in turn has its turn, and passes the token to the next
abbrev pub settled : List ℕ → List Telling
settled [] = []
settled (x ∷ xs) = Spoke ∷ Took x ∷ settled xs

pub settled_counts : (xs : List ℕ) → (invites (settled xs) ≡ length xs) × (length (settled xs) ≡ 2 * length xs)
settled_counts [] = omega arith
settled_counts (x ∷ xs) = omega (arith, settled_counts xs)

pub settled_takes : (xs : List ℕ) → takes (settled xs) ≡ xs
settled_takes [] = refl
settled_takes (x ∷ xs) = ap (x ∷◌) (settled_takes xs)

last_snoc : (xs : List ℕ) (g h : ℕ) → last g (xs ++ (h ∷ [])) ≡ h
last_snoc [] g h = refl
last_snoc (x ∷ xs) g h = last_snoc xs x h

module _ (on : ℕ → Bool) where
  -- each of the list is on line, and none follows itself
  abbrev Walk : ℕ → List ℕ → Type 0
  Walk g [] = Unit {0}
  Walk g (x ∷ xs) = (on x ≡ true) × (x ≢ g) × Walk x xs

  around : (xs : List ℕ) (g : ℕ) (f : ℕ → ℕ) → Walk g xs → Linked f g xs
      → Runs on (record { taken = true; holder = g; nid = f }) (settled xs) (record { taken = true; holder = last g xs; nid = f })
  around [] g f w l = stop
  around (x ∷ xs) g f w l = go refl (go (hear on g x f l.0 w.0 w.1) (around xs x f w.2 l.1))

  walk : (k a g h : ℕ) → k ≤ 255 → on h ≡ true → Off g a k → last g (calls on a k) ≢ h → Walk g (calls on a k ++ (h ∷ []))
  unfolding calls
  walk zero a g h r o w n = (o, λ e. n (sym e), tt)
  walk (suc k) a g h r o w n =
      case (on (a % 256)) refl (walk k (suc a) g h (omega arith) o (off_later g a k w)) (walk k (suc a) (a % 256) h (omega arith) o (off_first a k (omega arith))) n
    where
      case : (t : Bool) → on (a % 256) ≡ t → (last g (calls on (suc a) k) ≢ h → Walk g (calls on (suc a) k ++ (h ∷ [])))
          → (last (a % 256) (calls on (suc a) k) ≢ h → Walk (a % 256) (calls on (suc a) k ++ (h ∷ [])))
          → last g (calls on a (suc k)) ≢ h → Walk g (calls on a (suc k) ++ (h ∷ []))
      case true e i j = rw e (λ n. (e, λ q. off_here g a k w (sym q), j n))
      case false e i j = rw e i

  -- the token is back with h at the end, and not before
  closes_around : (h k a : ℕ) → Off h a k → Closes h (settled (calls on a k ++ (h ∷ [])))
  unfolding calls
  closes_around h zero a o = closes_more h Spoke _ refl (closes_now h)
  closes_around h (suc k) a o = case (on (a % 256)) refl (closes_around h k (suc a) (off_later h a k o))
    where
      case : (b : Bool) → on (a % 256) ≡ b → Closes h (settled (calls on (suc a) k ++ (h ∷ []))) → Closes h (settled (calls on a (suc k) ++ (h ∷ [])))
      case true e c = rw e (closes_more h Spoke _ refl (closes_more h (Took (a % 256)) _ (ne_eqb (a % 256) h (λ z. off_here h a k o (sym z))) c))
      case false e c = rw e c

  module _ (h : ℕ) (small : h < 256) (live : on h ≡ true) (top : (y : ℕ) → h < y → y < 256 → on y ≡ false) (two : 2 ≤ length (roster on))
      (f : ℕ → ℕ) (fresh : (y : ℕ) → on y ≡ true → f y ≡ y) where
    abbrev pub settled_ring : Ring
    settled_ring = record { taken = true; holder = h; nid = (lap on h small live top two f fresh).nid }

    -- after the first lap every lap is the same: it ends as it began
    pub later : Runs on settled_ring (settled (roster on)) settled_ring
    later =
        rw (roster_is on h small live top)
        (rw last_snoc at (around (calls on (suc h) 255 ++ (h ∷ [])) h _
        (walk 255 (suc h) h h (omega arith) live (begin on h small live top two f fresh).away (back on h small live top two f fresh))
        (lap on h small live top two f fresh).linked))

    pub settled_closes : Closes h (settled (roster on))
    settled_closes = rw (roster_is on h small live top) (closes_around h 255 (suc h) (begin on h small live top two f fresh).away)
