-- A lap on its way: the network, the invitations and the entries after k steps.
-- Assumes nothing.
use mathlib.Core.Path.{◌≡◌, sym, ap, ◌∙◌}
use mathlib.Core.Bool.{true}
use mathlib.Core.List.{List}
use Prim.Native.Nat.{ℕ, zero, suc, ◌+◌, ◌*◌, ◌-◌, ◌<◌, ◌≤◌}
use native.Mathlib.Nat.{add-zero, add-suc}
use native.Mathlib.Omega.{arith}
use lib.ListN.{length, length-append}
use Rattle.bits.specs.Words.{pick}
use Rattle.bits.proofs.Words.Bools.{and_left, pick_of}
use Rattle.table.specs.Network.{phase, LOST, shape}
use Rattle.line.specs.Step.{step}
use Rattle.desk.specs.declared.laps.Taker.{Taker}
use Rattle.desk.specs.Lap.{nodes, after, answers, invitation, passed, invitations, takers, back, lap_steps, runs, net_after_lap}
use Rattle.line.proofs.Steps.View.{Rams, Alike, alike_same, alike_then, any_step}
use Rattle.desk.proofs.Runs.Steps.{after_none, after_more, answers_none, answers_more, since, since_none, since_more, invitations_none, invitations_more, takers_more}
use Rattle.desk.proofs.Runs.Back.{is_back, lap_steps_lem}
use Rattle.desk.proofs.Runs.LapCounts.{lap_entries}

-- the network is well formed, with the same nodes on line
pub alikes : (net : List ℕ) → shape net ≡ true → Rams net → (k : ℕ) → Alike net (after k net)
alikes net s b zero = rw after_none (alike_same net s b)
alikes net s b (suc k) =
    let a = alikes net s b k in
    rw after_more (alike_then a (any_step (after k net) a.fits a.rams))

pub shape_lap : (net : List ℕ) → shape net ≡ true → Rams net → (room : ℕ) → shape (net_after_lap net room) ≡ true
unfolding net_after_lap
shape_lap net s b room = pick_of (λ (x : List ℕ). shape x ≡ true) (runs net room) (λ _. (alikes net s b (lap_steps net)).fits) (λ _. s)

pub after_add : (j k : ℕ) (net : List ℕ) → after j (after k net) ≡ after (k + j) net
after_add zero k net = rw (after_none, add-zero)
after_add (suc j) k net = rw (add-suc, after_more j (after k net), after_more (k + j) net) (ap (λ (x : List ℕ). (step x 0).after) (after_add j k net))

-- no more invitations than steps, and none since the holder before that is not counted
pub invitations_most : (k : ℕ) (net : List ℕ) → invitations (answers k net) ≤ k
invitations_most zero net = rw (answers_none, invitations_none) (omega arith)
invitations_most (suc k) net =
    let m = invitations_most k net in
    rw (answers_more, invitations_more)
    (pick_of (λ (x : ℕ). x ≤ suc k) (invitation (step (after k net) 0).answer) (λ _. omega (arith, m)) (λ _. omega (arith, m)))

pub since_most : (k : ℕ) (net : List ℕ) → since 0 (answers k net) ≤ k
since_most zero net = rw (answers_none, since_none) (omega arith)
since_most (suc k) net =
    let m = since_most k net in
    let a = (step (after k net) 0).answer in
    rw (answers_more, since_more)
    (pick_of (λ (x : ℕ). x ≤ suc k) (passed a) (λ _. omega arith)
    (λ _. pick_of (λ (x : ℕ). x ≤ suc k) (invitation a) (λ _. omega (arith, m)) (λ _. omega (arith, m))))

-- ---- the entries after k steps
abbrev pub entries : List ℕ → ℕ → ℕ
entries net k = length (takers net 0 (answers k net))

entries_next : (net : List ℕ) (k : ℕ) → entries net (suc k) ≡ pick (passed (step (after k net) 0).answer) (entries net k + 1) (entries net k)
entries_next net k =
    let a = (step (after k net) 0).answer in
    rw (answers_more, takers_more, length-append)
    (pick_of (λ (x : List Taker). entries net k + length x ≡ pick (passed a) (entries net k + 1) (entries net k)) (passed a)
    (λ t. rw t) (λ t. rw t (omega arith)))

grow : (net : List ℕ) (k d : ℕ) → entries net k ≤ entries net (k + d)
grow net k zero = rw add-zero (omega arith)
grow net k (suc d) =
    let m = grow net k d in
    let e = entries_next net (k + d) in
    rw (add-suc, e)
    (pick_of (λ (x : ℕ). entries net k ≤ x) (passed (step (after (k + d) net) 0).answer) (λ _. omega (arith, m)) (λ _. m))

module _ (net : List ℕ) (s : shape net ≡ true) (b : Rams net) (lost : phase net ≡ LOST) (two : 2 ≤ nodes net) where
  -- the last step of the lap makes the last entry
  last_entry : entries net (255 + 2 * nodes net) + 1 ≡ nodes net
  unfolding back
  last_entry =
      let t = and_left (passed (step (after (255 + 2 * nodes net) net) 0).answer) _ (is_back net s b lost two) in
      let e : lap_steps net ≡ suc (255 + 2 * nodes net) = lap_steps_lem net s b lost two ∙ omega arith in
      sym (entries_next net (255 + 2 * nodes net) ∙ rw t) ∙ sym (ap (entries net) e) ∙ lap_entries net s b lost two

  pub few : (k : ℕ) → k < 256 + 2 * nodes net → entries net k < nodes net
  few k l =
      let g = grow net k (255 + 2 * nodes net - k) in
      let e : k + (255 + 2 * nodes net - k) ≡ 255 + 2 * nodes net = omega arith in
      omega (arith, last_entry, rw e at g)
