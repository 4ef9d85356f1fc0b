-- What each hop of the first lap costs: from the ID g to the next on-line ID x, one invitation more than the way from g up to x, 255 to 0.
-- Assumes nothing.
use mathlib.Core.Path.{◌≡◌, refl, ap, ◌∙◌}
use mathlib.Core.Bool.{Bool, true, false}
use mathlib.Core.List.{List, [], ◌∷◌, ◌++◌, map}
use Prim.Native.Nat.{ℕ, zero, suc, ◌+◌, ◌-◌, ◌%◌, ◌<◌, ◌≤◌}
use native.Mathlib.Omega.{arith}
use lib.ListN.{length}
use lib.Dec.{ltb}
use borrow.Author.Tests.{ltb-true, ltb-false}
use Rattle.line.specs.Answers.{Answer}
use Rattle.line.specs.Answers.{Refused, Quiet, Recovered, Passed, Unanswered, TokenLost, Held}
use Rattle.table.specs.Network.{regs_at}
use Rattle.desk.specs.declared.laps.Taker.{Taker}
use Rattle.desk.specs.Lap.{takers}
use Rattle.desk.proofs.ById.Ring.{Telling, Took, Missed, Spoke, calls, script}
use Rattle.desk.proofs.Runs.Steps.{seen}

-- each ID that takes the token, with the invitations since the holder before, c of them sent already
abbrev pub hops : ℕ → List Telling → List (ℕ × ℕ)
hops c [] = []
hops c (Took x ∷ l) = (x, suc c) ∷ hops 0 l
hops c (Missed x ∷ l) = hops (suc c) l
hops c (Spoke ∷ l) = hops c l

abbrev pub gaps : ℕ → List ℕ → List (ℕ × ℕ)
gaps g [] = []
gaps g (x ∷ xs) = (x, suc ((x + 256 - g) % 256)) ∷ gaps x xs

-- the entries have these counts
pub takers_hops : (net : List ℕ) (l : List Answer) (c : ℕ) → map (λ (t : Taker). (t.id, t.invitations)) (takers net c l) ≡ hops c (map (seen net) l)
unfolding takers
takers_hops net [] c = refl
takers_hops net (Refused n ∷ l) c = takers_hops net l c
takers_hops net (Quiet ∷ l) c = takers_hops net l c
takers_hops net (Recovered r ∷ l) c = takers_hops net l c
takers_hops net (Passed r ∷ l) c = ap (((regs_at net r).id, suc c) ∷◌) (takers_hops net l 0)
takers_hops net (Unanswered i ∷ l) c = takers_hops net l (suc c)
takers_hops net (TokenLost ∷ l) c = takers_hops net l c
takers_hops net (Held o ∷ l) c = takers_hops net l c

-- ---- the way from g up to x
past_255 : (g c : ℕ) → g < 256 → c < 256 → 256 ≤ g + c → (g + c) % 256 + 256 - g ≡ c
past_255 g c h k r = omega arith

within : (g c : ℕ) → g + c < 256 → (g + c) % 256 + 256 - g ≡ c + 256
within g c r = omega arith

distance : (g c x : ℕ) → g < 256 → c < 256 → (g + c) % 256 ≡ x → c ≡ (x + 256 - g) % 256
distance g c x h k e = rw (← e) (by (ltb (g + c) 256) refl)
  where
    by : (b : Bool) → ltb (g + c) 256 ≡ b → c ≡ ((g + c) % 256 + 256 - g) % 256
    by true t = rw (within g c (ltb-true (g + c) 256 t)) (omega arith)
    by false t = rw (past_255 g c h k (ltb-false (g + c) 256 t)) (omega arith)

module _ (on : ℕ → Bool) where
  -- the walk over the k IDs from a on, where g holds and has sent c invitations, costs what the gaps say
  abbrev Costs : ℕ → ℕ → ℕ → ℕ → ℕ → Type 0
  Costs k a g c b = hops c (script on a k ++ (Took b ∷ [])) ≡ gaps g (calls on a k ++ (b ∷ []))

  hops_script : (k a g c b : ℕ) → g < 256 → c + k ≤ 255 → (g + c) % 256 ≡ a % 256 → (a + k) % 256 ≡ b → Costs k a g c b
  unfolding script calls
  hops_script zero a g c b h r e z = ap (λ (n : ℕ). (b, suc n) ∷ []) (distance g c b h (omega arith) (e ∙ omega arith))
  hops_script (suc k) a g c b h r e z =
      by (on (a % 256)) refl (hops_script k (suc a) g (suc c) b h (omega arith) (omega arith) (omega arith))
      (hops_script k (suc a) (a % 256) 1 b (omega arith) (omega arith) (omega arith) (omega arith))
    where
      by : (t : Bool) → on (a % 256) ≡ t → Costs k (suc a) g (suc c) b → Costs k (suc a) (a % 256) 1 b → Costs (suc k) a g c b
      by true o i j =
          let n : c ≡ (a % 256 + 256 - g) % 256 = distance g c (a % 256) h (omega arith) e in
          rw (o, ← n) (ap ((a % 256, suc c) ∷◌) j)
      by false o i j = rw o i

  -- the first hop may go all the way round, but there is a node on the way
  pub hops_first : (k a g c b : ℕ) → g < 256 → 1 ≤ c → c + k ≤ 256 → (g + c) % 256 ≡ a % 256 → (a + k) % 256 ≡ b → 0 < length (calls on a k)
      → Costs k a g c b
  unfolding script calls
  hops_first zero a g c b h u r e z n = absurd (omega arith)
  hops_first (suc k) a g c b h u r e z n =
      by (on (a % 256)) refl (hops_first k (suc a) g (suc c) b h (omega arith) (omega arith) (omega arith) (omega arith))
      (hops_script k (suc a) (a % 256) 1 b (omega arith) (omega arith) (omega arith) (omega arith)) n
    where
      by : (t : Bool) → on (a % 256) ≡ t → (0 < length (calls on (suc a) k) → Costs k (suc a) g (suc c) b)
          → Costs k (suc a) (a % 256) 1 b → 0 < length (calls on a (suc k)) → Costs (suc k) a g c b
      by true o i j =
          let m : c ≡ (a % 256 + 256 - g) % 256 = distance g c (a % 256) h (omega arith) e in
          rw (o, ← m) (λ _. ap ((a % 256, suc c) ∷◌) j)
      by false o i j = rw o i
