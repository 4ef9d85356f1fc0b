-- A run of fault-free steps, one step more at its end: the network, the answers, and what is counted of them.
-- Assumes nothing.
use mathlib.Core.Path.{◌≡◌, refl, ap, ◌∙◌}
use mathlib.Core.Bool.{Bool, true, false}
use mathlib.Core.List.{List, [], ◌∷◌, ◌++◌, map}
use Prim.Native.Nat.{ℕ, zero, suc}
use Rattle.bits.specs.Words.{pick}
use Rattle.bits.proofs.Words.Bools.{pick_of}
use Rattle.line.specs.Answers.{Answer}
use Rattle.line.specs.Answers.{Refused, Quiet, Recovered, Passed, Unanswered, TokenLost, Held}
use Rattle.table.specs.Network.{regs_at}
use Rattle.line.specs.Step.{step, answer_value}
use Rattle.desk.specs.declared.laps.Taker.{Taker}
use Rattle.desk.specs.Lap.{after, answers, invitation, passed, invitations, entry, takers}
use Rattle.desk.proofs.ById.Ring.{Telling, Took, Missed, Spoke}
use Rattle.desk.proofs.ById.Roster.{takes, invites}

-- ---- one step more
pub after_none : (net : List ℕ) → after 0 net ≡ net
unfolding after
after_none net = refl

pub after_first : (k : ℕ) (net : List ℕ) → after (suc k) net ≡ after k (step net 0).after
unfolding after
after_first k net = refl

pub after_more : (k : ℕ) (net : List ℕ) → after (suc k) net ≡ (step (after k net) 0).after
unfolding after
after_more zero net = refl
after_more (suc k) net = after_more k (step net 0).after

pub answers_none : (net : List ℕ) → answers 0 net ≡ []
unfolding answers
answers_none net = refl

pub answers_first : (k : ℕ) (net : List ℕ) → answers (suc k) net ≡ (step net 0).answer ∷ answers k (step net 0).after
unfolding answers
answers_first k net = refl

pub answers_more : (k : ℕ) (net : List ℕ) → answers (suc k) net ≡ answers k net ++ ((step (after k net) 0).answer ∷ [])
unfolding answers after
answers_more zero net = refl
answers_more (suc k) net = ap ((step net 0).answer ∷◌) (answers_more k (step net 0).after)

-- ---- what is counted, one answer more
-- the invitations since the holder before, of which c were sent before these answers
unfoldable pub since : ℕ → List Answer → ℕ
since c [] = c
since c (a ∷ l) = since (pick (passed a) 0 (pick (invitation a) (suc c) c)) l

pub since_none : (c : ℕ) → since c [] ≡ c
unfolding since
since_none c = refl

pub since_more : (l : List Answer) (c : ℕ) (a : Answer)
    → since c (l ++ (a ∷ [])) ≡ pick (passed a) 0 (pick (invitation a) (suc (since c l)) (since c l))
unfolding since
since_more [] c a = refl
since_more (x ∷ l) c a = since_more l (pick (passed x) 0 (pick (invitation x) (suc c) c)) a

pub invitations_none : invitations [] ≡ 0
unfolding invitations
invitations_none = refl

pub invitations_more : (l : List Answer) (a : Answer) → invitations (l ++ (a ∷ [])) ≡ pick (invitation a) (suc (invitations l)) (invitations l)
unfolding invitations
invitations_more [] a = refl
invitations_more (x ∷ l) a =
    ap (λ (n : ℕ). pick (invitation x) (suc n) n) (invitations_more l a) ∙ swap (invitation x) (invitation a) (invitations l)
  where
    swap : (b c : Bool) (n : ℕ) → pick b (suc (pick c (suc n) n)) (pick c (suc n) n) ≡ pick c (suc (pick b (suc n) n)) (pick b (suc n) n)
    swap true true n = refl
    swap true false n = refl
    swap false true n = refl
    swap false false n = refl

module _ (net : List ℕ) where
  pub takers_none : (c : ℕ) → takers net c [] ≡ []
  unfolding takers
  takers_none c = refl

  pub takers_more : (l : List Answer) (c : ℕ) (a : Answer)
      → takers net c (l ++ (a ∷ [])) ≡ takers net c l ++ pick (passed a) (entry net (answer_value a) (since c l) ∷ []) []
  unfolding takers since
  takers_more [] c a = pick_of (λ (x : List Taker). x ≡ pick (passed a) (entry net (answer_value a) c ∷ []) []) (passed a) (λ t. rw t) (λ t. rw t)
  takers_more (x ∷ l) c a = by (passed x) refl (takers_more l 0 a) (takers_more l (pick (invitation x) (suc c) c) a)
    where
      by : (b : Bool) → passed x ≡ b
          → takers net 0 (l ++ (a ∷ [])) ≡ takers net 0 l ++ pick (passed a) (entry net (answer_value a) (since 0 l) ∷ []) []
          → takers net (pick (invitation x) (suc c) c) (l ++ (a ∷ []))
          ≡ takers net (pick (invitation x) (suc c) c) l ++ pick (passed a) (entry net (answer_value a) (since (pick (invitation x) (suc c) c) l) ∷ []) []
          → takers net c ((x ∷ l) ++ (a ∷ [])) ≡ takers net c (x ∷ l) ++ pick (passed a) (entry net (answer_value a) (since c (x ∷ l)) ∷ []) []
      by true t p q = rw t (ap (entry net (answer_value x) c ∷◌) p)
      by false t p q = rw t q

-- ---- the answers as the ring tells them
module _ (net : List ℕ) where
  abbrev pub seen : Answer → Telling
  seen (Refused n) = Spoke
  seen Quiet = Spoke
  seen (Recovered r) = Spoke
  seen (Passed r) = Took (regs_at net r).id
  seen (Unanswered i) = Missed i
  seen TokenLost = Spoke
  seen (Held o) = Spoke

  pub invitations_seen : (l : List Answer) → invitations l ≡ invites (map seen l)
  unfolding invitations
  invitations_seen [] = refl
  invitations_seen (Refused n ∷ l) = invitations_seen l
  invitations_seen (Quiet ∷ l) = invitations_seen l
  invitations_seen (Recovered r ∷ l) = invitations_seen l
  invitations_seen (Passed r ∷ l) = ap suc (invitations_seen l)
  invitations_seen (Unanswered i ∷ l) = ap suc (invitations_seen l)
  invitations_seen (TokenLost ∷ l) = invitations_seen l
  invitations_seen (Held o ∷ l) = invitations_seen l

  -- the IDs of the entries are those that take the token
  pub takers_seen : (l : List Answer) (c : ℕ) → map (λ (t : Taker). t.id) (takers net c l) ≡ takes (map seen l)
  unfolding takers
  takers_seen [] c = refl
  takers_seen (Refused n ∷ l) c = takers_seen l c
  takers_seen (Quiet ∷ l) c = takers_seen l c
  takers_seen (Recovered r ∷ l) c = takers_seen l c
  takers_seen (Passed r ∷ l) c = ap ((regs_at net r).id ∷◌) (takers_seen l 0)
  takers_seen (Unanswered i ∷ l) c = takers_seen l (suc c)
  takers_seen (TokenLost ∷ l) c = takers_seen l c
  takers_seen (Held o ∷ l) c = takers_seen l c
