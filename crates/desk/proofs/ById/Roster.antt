-- The list of on-line IDs, and what a walk over it tells and counts.
-- Assumes nothing.
use mathlib.Core.Path.{◌≡◌, refl, ap}
use mathlib.Core.Bool.{Bool, true, false}
use mathlib.Core.List.{List, [], ◌∷◌, ◌++◌}
use Prim.Native.Nat.{ℕ, zero, suc, ◌+◌, ◌*◌, ◌-◌, ◌%◌, ◌<◌, ◌≤◌}
use native.Mathlib.Nat.{add-zero, zero-add, add-suc, suc-add}
use native.Mathlib.Omega.{arith}
use lib.ListN.{length}
use Rattle.desk.proofs.ById.Ring.{Telling, Took, Missed, Spoke, calls, roster, script}
use Rattle.desk.proofs.ById.Scan.{last}

-- who takes the token, in the order of taking; the invitations
abbrev pub takes : List Telling → List ℕ
takes [] = []
takes (Took x ∷ l) = x ∷ takes l
takes (Missed x ∷ l) = takes l
takes (Spoke ∷ l) = takes l

abbrev pub invites : List Telling → ℕ
invites [] = 0
invites (Took x ∷ l) = suc (invites l)
invites (Missed x ∷ l) = suc (invites l)
invites (Spoke ∷ l) = invites l

pub takes_append : (l m : List Telling) → takes (l ++ m) ≡ takes l ++ takes m
takes_append [] m = refl
takes_append (Took x ∷ l) m = ap (x ∷◌) (takes_append l m)
takes_append (Missed x ∷ l) m = takes_append l m
takes_append (Spoke ∷ l) m = takes_append l m

pub invites_append : (l m : List Telling) → invites (l ++ m) ≡ invites l + invites m
invites_append [] m = omega arith
invites_append (Took x ∷ l) m = rw (invites_append l m) (omega arith)
invites_append (Missed x ∷ l) m = rw (invites_append l m) (omega arith)
invites_append (Spoke ∷ l) m = invites_append l m

module _ (on : ℕ → Bool) where
  pub script_takes : (k a : ℕ) → takes (script on a k) ≡ calls on a k
  unfolding calls script
  script_takes zero a = refl
  script_takes (suc k) a = case (on (a % 256)) refl (script_takes k (suc a))
    where
      case : (b : Bool) → on (a % 256) ≡ b → takes (script on (suc a) k) ≡ calls on (suc a) k → takes (script on a (suc k)) ≡ calls on a (suc k)
      case true e ih = rw e (ap (a % 256 ∷◌) ih)
      case false e ih = rw e ih

  -- an absent ID costs one invitation, a present one two, and a turn
  abbrev Counts : ℕ → ℕ → Type 0
  Counts k a = (invites (script on a k) ≡ k + length (calls on a k)) × (length (script on a k) ≡ k + 2 * length (calls on a k))

  pub script_counts : (k a : ℕ) → Counts k a
  unfolding calls script
  script_counts zero a = omega arith
  script_counts (suc k) a = case (on (a % 256)) refl (script_counts k (suc a))
    where
      case : (b : Bool) → on (a % 256) ≡ b → Counts k (suc a) → Counts (suc k) a
      case true e ih = rw e (omega arith)
      case false e ih = rw e (omega arith)

  calls_split : (j k a : ℕ) → calls on a (j + k) ≡ calls on a j ++ calls on (a + j) k
  unfolding calls
  calls_split zero k a = rw (zero-add, add-zero)
  calls_split (suc j) k a = rw suc-add (case (on (a % 256)) refl (calls_split j k (suc a)))
    where
      case : (b : Bool) → on (a % 256) ≡ b → calls on (suc a) (j + k) ≡ calls on (suc a) j ++ calls on (suc a + j) k
          → calls on a (suc (j + k)) ≡ calls on a (suc j) ++ calls on (a + suc j) k
      case true e ih = rw (e, ih, suc-add, add-suc)
      case false e ih = rw (e, ih, suc-add, add-suc)

  pub calls_none : (k a : ℕ) → ((j : ℕ) → j < k → on ((a + j) % 256) ≡ false) → calls on a k ≡ []
  unfolding calls
  calls_none zero a h = refl
  calls_none (suc k) a h =
      rw (rw add-zero at (h 0 (omega arith))) (calls_none k (suc a) (λ j l. rw (suc-add, ← add-suc) (h (suc j) (omega arith))))

  calls_wrap : (k a : ℕ) → calls on (a + 256) k ≡ calls on a k
  unfolding calls
  calls_wrap zero a = refl
  calls_wrap (suc k) a =
      let e : (a + 256) % 256 ≡ a % 256 = omega arith in
      rw (e, ← suc-add, calls_wrap k (suc a))

  -- the IDs from h + 1 on round to h - 1, and the roster, where h is the highest
  module _ (h : ℕ) (small : h < 256) (live : on h ≡ true) (top : (y : ℕ) → h < y → y < 256 → on y ≡ false) where
    quiet : calls on (suc h) (255 - h) ≡ []
    quiet = calls_none (255 - h) (suc h) (λ j l. top _ (omega arith) (omega arith))

    round : (k : ℕ) → k ≡ 255 - h + h → calls on (suc h) k ≡ calls on 0 h
    round k e =
        let e' : suc h + (255 - h) ≡ 0 + 256 = omega arith in
        rw (e, calls_split (255 - h) h (suc h), quiet, e', calls_wrap h 0)

    whole : (k : ℕ) → k ≡ h + suc (255 - h) → calls on 0 k ≡ calls on 0 h ++ (h ∷ [])
    unfolding calls
    whole k e =
        let e' : h % 256 ≡ h = omega arith in
        rw (e, calls_split h (suc (255 - h)) 0, zero-add, e', live, quiet)

    pub rotate : calls on (suc h) 255 ≡ calls on 0 h
    rotate = round 255 (omega arith)

    pub roster_is : roster on ≡ calls on (suc h) 255 ++ (h ∷ [])
    unfolding roster
    roster_is = rw rotate (whole 256 (omega arith))

  last_below : (k a g b : ℕ) → g < b → a + k ≤ b → b ≤ 256 → last g (calls on a k) < b
  unfolding calls
  last_below zero a g b p q r = p
  last_below (suc k) a g b p q r =
      case (on (a % 256)) refl (last_below k (suc a) g b p (omega arith) r) (last_below k (suc a) (a % 256) b (omega arith) (omega arith) r)
    where
      case : (t : Bool) → on (a % 256) ≡ t → last g (calls on (suc a) k) < b → last (a % 256) (calls on (suc a) k) < b → last g (calls on a (suc k)) < b
      case true e i j = rw e j
      case false e i j = rw e i

  -- where any of the IDs is on line, the last to take the token is one of them
  pub last_any : (k a g b : ℕ) → a + k ≤ b → b ≤ 256 → 0 < length (calls on a k) → last g (calls on a k) < b
  unfolding calls
  last_any zero a g b q r n = omega arith
  last_any (suc k) a g b q r n =
      case (on (a % 256)) refl (last_any k (suc a) g b (omega arith) r) (last_below k (suc a) (a % 256) b (omega arith) (omega arith) r) n
    where
      case : (t : Bool) → on (a % 256) ≡ t → (0 < length (calls on (suc a) k) → last g (calls on (suc a) k) < b)
          → last (a % 256) (calls on (suc a) k) < b → 0 < length (calls on a (suc k)) → last g (calls on a (suc k)) < b
      case true e i j = rw e (λ _. j)
      case false e i j = rw e i
