-- What `&&`, `||` and a list of tests say of their parts.
-- Assumes nothing.
use mathlib.Core.Path.{◌≡◌, refl}
use mathlib.Core.Bool.{Bool, true, false, ◌&&◌, ◌||◌}
use mathlib.Core.List.{List, [], ◌∷◌}
use Prim.Native.Nat.{ℕ, zero, suc, ◌<◌}
use native.Mathlib.Omega.{arith}
use lib.ListN.{length, get_or}
use Rattle.bits.specs.Words.{pick, all, all_after}

pub and_left : (a b : Bool) → (a && b) ≡ true → a ≡ true
and_left true b h = refl
and_left false b h = h

pub and_right : (a b : Bool) → (a && b) ≡ true → b ≡ true
and_right true b h = h
and_right false b h = cc

pub and_assoc : (a b c : Bool) → (a && (b && c)) ≡ (a && b && c)
and_assoc true b c = refl
and_assoc false b c = refl

pub and_five : (a b c d e : Bool) → (a && b && c && d && e) ≡ true → (a ≡ true) × (b ≡ true) × (c ≡ true) × (d ≡ true) × (e ≡ true)
and_five a b c d e h =
    let p = and_left (a && b && c && d) e h in
    let q = and_left (a && b && c) d p in
    let r = and_left (a && b) c q in
    (and_left a b r, and_right a b r, and_right (a && b) c q, and_right (a && b && c) d p, and_right (a && b && c && d) e h)

pub or_left : (a b : Bool) → (a || b) ≡ false → a ≡ false
or_left true b h = h
or_left false b h = refl

pub or_right : (a b : Bool) → (a || b) ≡ false → b ≡ false
or_right true b h = cc
or_right false b h = h

pub or_first : (a b : Bool) → (a || b) ≡ true → b ≡ false → a ≡ true
or_first true b h e = refl
or_first false b h e = cc

pub or_between : (a b c : Bool) → (a || c) ≡ true → (a || b || c) ≡ true
or_between true b c h = refl
or_between false true c h = refl
or_between false false c h = h

pub or_four : (a b c d : Bool) → (a || b || c || d) ≡ false → (a ≡ false) × (b ≡ false) × (c ≡ false) × (d ≡ false)
or_four a b c d h =
    let p = or_left (a || b || c) d h in
    let q = or_left (a || b) c p in
    (or_left a b q, or_right a b q, or_right (a || b) c p, or_right (a || b || c) d h)

-- every test of a list that holds whole
abbrev Each : List Bool → Type 0
Each l = (i : ℕ) → i < length l → get_or l i true ≡ true

each_more : (c : Bool) (l : List Bool) → c ≡ true → Each l → Each (c ∷ l)
each_more c l e h zero p = e
each_more c l e h (suc i) p = h i (omega arith)

holds_after : (l : List Bool) (b : Bool) → all_after b l ≡ true → (b ≡ true) × Each l
holds_after [] b h = (h, λ i p. refl)
holds_after (c ∷ l) b h =
    let t = holds_after l (b && c) h in
    (and_left b c t.0, each_more c l (and_right b c t.0) t.1)

pub holds : (l : List Bool) → all l ≡ true → (i : ℕ) → i < length l → get_or l i true ≡ true
holds l h = (holds_after l true h).1

-- what holds of both choices holds of the choice
pub pick_of : {A : Type 0} (P : A → Type 0) {x y : A} (b : Bool) → (b ≡ true → P x) → (b ≡ false → P y) → P (pick b x y)
pick_of P true p q = p refl
pick_of P false p q = q refl

-- and of both pairs of choices, of the pair that is chosen
pub pick_both : {A B : Type 0} (P : A → B → Type 0) {x y : A} {u v : B} (b : Bool) → P x u → P y v → P (pick b x y) (pick b u v)
pick_both P true p q = p
pick_both P false p q = q

-- and where which choice it was matters
pub pick_each : {A B : Type 0} (P : A → B → Type 0) {x y : A} {u v : B} (b : Bool) → (b ≡ true → P x u) → (b ≡ false → P y v) → P (pick b x y) (pick b u v)
pick_each P true p q = p refl
pick_each P false p q = q refl
