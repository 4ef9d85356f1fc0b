-- The token seen by node IDs alone: which IDs are on line, who holds, and the NID of each ID. A run of steps of this ring.
-- Assumes nothing.
use mathlib.Core.Bool.{Bool, true, false, not, cond, ◌&&◌}
use mathlib.Core.List.{List, [], ◌∷◌}
use mathlib.Core.Path.{◌≡◌}
use Prim.Native.Nat.{ℕ, zero, suc, ◌+◌, ◌%◌}
use lib.Dec.{eqb}

-- what a step tells: the ID x took the token, nobody took it at the ID x, or the holder had its turn
pub data Telling : Type 0 where
  Took : ℕ → Telling
  Missed : ℕ → Telling
  Spoke : Telling

pub record Ring : Type 0 where
  pub taken : Bool
  pub holder : ℕ
  pub nid : ℕ → ℕ

-- the ID after x: 255 goes to 0
abbrev pub next : ℕ → ℕ
next x = (x + 1) % 256

abbrev pub upd : (ℕ → ℕ) → ℕ → ℕ → ℕ → ℕ
upd f g v y = cond (eqb y g) v (f y)

module _ (on : ℕ → Bool) where
  -- x takes an invitation of g: no node answers its own
  abbrev pub heeds : ℕ → ℕ → Bool
  heeds g x = on x && not (eqb x g)

  abbrev pub invite : ℕ → ℕ → (ℕ → ℕ) → Telling × Ring
  invite g x f =
      cond (heeds g x)
      (Took x, record { taken = true; holder = x; nid = f })
      (Missed x, record { taken = false; holder = g; nid = upd f g (next x) })

  abbrev pub turn : Ring → Telling × Ring
  turn r = cond r.taken (Spoke, record { taken = false; holder = r.holder; nid = r.nid }) (invite r.holder (r.nid r.holder) r.nid)

  -- from r the turns tell l and end in t
  pub data Runs : Ring → List Telling → Ring → Type 0 where
    stop : {r : Ring} → Runs r [] r
    go : {r s t : Ring} {a : Telling} {l : List Telling} → turn r ≡ (a, s) → Runs s l t → Runs r (a ∷ l) t

  -- the on-line IDs among the k IDs from a on, past 255 from 0 again; all of them, lowest first
  unfoldable pub calls : ℕ → ℕ → List ℕ
  calls a zero = []
  calls a (suc k) = let r = calls (suc a) k in cond (on (a % 256)) (a % 256 ∷ r) r

  unfoldable pub roster : List ℕ
  roster = calls 0 256

  -- what is told as the k IDs from a on are invited, where each that takes the token invites itself first
  unfoldable pub script : ℕ → ℕ → List Telling
  script a zero = []
  script a (suc k) = let r = script (suc a) k in let x = a % 256 in cond (on x) (Took x ∷ Spoke ∷ Missed x ∷ r) (Missed x ∷ r)
