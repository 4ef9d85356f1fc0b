-- The first lap, seen by IDs: the highest on-line ID h holds, and every on-line ID's NID is its own.
-- Assumes nothing.
use mathlib.Core.Path.{◌≡◌, refl, sym, ◌∙◌}
use mathlib.Core.Logic.{◌≢◌}
use mathlib.Core.Bool.{Bool, true, false}
use mathlib.Core.List.{List, [], ◌∷◌, ◌++◌}
use Prim.Native.Nat.{ℕ, zero, suc, ◌+◌, ◌*◌, ◌%◌, ◌<◌, ◌≤◌}
use native.Mathlib.Omega.{arith}
use lib.Dec.{eqb}
use lib.ListN.{length, length-append}
use borrow.Author.Tests.{eq-eqb, ne_eqb}
use Rattle.desk.proofs.ById.Ring.{Telling, Took, Missed, Spoke, Ring, next, upd, turn, Runs, go, calls, roster, script}
use Rattle.desk.proofs.ById.Scan.{last, Linked, Off, off_later, off_here, own, hear, miss, scan, Scanned, Scanning, upd_same, upd_other}
use Rattle.desk.proofs.ById.Roster.{takes, invites, takes_append, invites_append, script_takes, script_counts, rotate, roster_is, last_any}

-- the call is not that h took the token
abbrev pub other : ℕ → Telling → Bool
other h (Took x) = eqb x h
other h (Missed x) = false
other h Spoke = false

abbrev pub Never : ℕ → List Telling → Type 0
Never h [] = Unit {0}
Never h (a ∷ l) = (other h a ≡ false) × Never h l

-- the last call is that h took the token, and none before it is
unfoldable pub Closes : ℕ → List Telling → Type 0
Closes h [] = ⊥
Closes h (a ∷ []) = other h a ≡ true
Closes h (a ∷ b ∷ l) = (other h a ≡ false) × Closes h (b ∷ l)

pub closes_now : (h : ℕ) → Closes h (Took h ∷ [])
unfolding Closes
closes_now h = eq-eqb h h refl

pub closes_more : (h : ℕ) (a : Telling) (l : List Telling) → other h a ≡ false → Closes h l → Closes h (a ∷ l)
unfolding Closes
closes_more h a [] n c = absurd c
closes_more h a (b ∷ l) n c = (n, c)

closes : (h : ℕ) (l : List Telling) → Never h l → Closes h (l ++ (Took h ∷ []))
closes h [] n = closes_now h
closes h (a ∷ l) n = closes_more h a _ n.0 (closes h l n.1)

linked_last : (xs : List ℕ) (g v : ℕ) (f : ℕ → ℕ) → Linked f g (xs ++ (v ∷ [])) → f (last g xs) ≡ v
linked_last [] g v f l = l.0
linked_last (x ∷ xs) g v f l = linked_last xs x v f l.1

module _ (on : ℕ → Bool) where
  never : (h k a : ℕ) → Off h a k → Never h (script on a k)
  unfolding script
  never h zero a o = tt
  never h (suc k) a o = case (on (a % 256)) refl (never h k (suc a) (off_later h a k o))
    where
      case : (b : Bool) → on (a % 256) ≡ b → Never h (script on (suc a) k) → Never h (script on a (suc k))
      case true e ih = rw e (ne_eqb _ _ (λ z. off_here h a k o (sym z)), (refl, (refl, ih)))
      case false e ih = rw e (refl, ih)

  module _ (h : ℕ) (small : h < 256) (live : on h ≡ true) (top : (y : ℕ) → h < y → y < 256 → on y ≡ false) (two : 2 ≤ length (roster on))
      (f : ℕ → ℕ) (fresh : (y : ℕ) → on y ≡ true → f y ≡ y) where
    -- before h takes the token again: h invites itself, then the others are met
    abbrev pub before : List Telling
    before = Missed h ∷ script on (suc h) 255

    many : length (roster on) ≡ suc (length (calls on (suc h) 255))
    many = rw (roster_is on h small live top, length-append) (omega arith)

    pub back : last h (calls on (suc h) 255) ≢ h
    back =
        let n : 0 < length (calls on 0 h) = rw (rotate on h small live top) at (others many) in
        let l : last h (calls on 0 h) < h = last_any on h 0 h h (omega arith) (omega arith) n in
        rw (rotate on h small live top) (omega arith)
      where
        others : length (roster on) ≡ suc (length (calls on (suc h) 255)) → 0 < length (calls on (suc h) 255)
        others m = omega arith

    pub begin : Scanning on (suc h) 255 h (upd f h (next h))
    begin = record {
      room = omega arith;
      here = upd_same f h _ ∙ omega arith;
      away = λ j l. omega arith;
      fresh = λ j l o. upd_other f h _ _ (omega arith) ∙ fresh _ o;
    }

    pub record Lap : Type 0 where
      pub last_but_one : Ring
      pub nid : ℕ → ℕ
      pub runs : Runs on (record { taken = false; holder = h; nid = f }) before last_but_one
      pub ends : turn on last_but_one ≡ (Took h, record { taken = true; holder = h; nid = nid })
      pub linked : Linked nid h (calls on (suc h) 255 ++ (h ∷ []))

    close : Scanned on (suc h) 255 h (upd f h (next h)) → Lap
    close s =
        let e : (suc h + 255) % 256 ≡ h = omega arith in
        let l : Linked s.nid h (calls on (suc h) 255 ++ (h ∷ [])) = rw e at s.linked in
        record {
          last_but_one = record { taken = false; holder = last h (calls on (suc h) 255); nid = s.nid };
          nid = s.nid;
          runs = go (miss on h h f (fresh h live) (own on h)) s.runs;
          ends = hear on _ h s.nid (linked_last (calls on (suc h) 255) h h s.nid l) live (λ q. back (sym q));
          linked = l;
        }

    pub lap : Lap
    lap = close (scan on 255 (suc h) h _ begin)

    pub never_before : Never h before
    never_before = (refl, never h 255 (suc h) begin.away)

    pub lap_closes : Closes h (before ++ (Took h ∷ []))
    lap_closes = closes h before never_before

    -- each on-line ID takes the token once, lowest first
    pub lap_takes : takes (before ++ (Took h ∷ [])) ≡ roster on
    lap_takes = rw (takes_append, script_takes, roster_is on h small live top)

    pub lap_counts : (invites (before ++ (Took h ∷ [])) ≡ 256 + length (roster on)) × (suc (suc (length before)) ≡ 256 + 2 * length (roster on))
    lap_counts = rw (invites_append, many) (omega (arith, script_counts on 255 (suc h)))
