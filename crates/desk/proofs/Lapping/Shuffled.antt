-- A lap of a network and of its rows in another order: the same total, the same takers with rows renamed, and what is left is left in that order.
-- Assumes nothing.
use mathlib.Core.Path.{◌≡◌, refl, sym, ◌∙◌, ap, fun_ext}
use mathlib.Core.Bool.{Bool}
use mathlib.Core.List.{List, [], ◌∷◌, map}
use Prim.Native.Nat.{ℕ, zero, suc, ◌+◌, ◌*◌}
use native.Mathlib.Omega.{arith}
use lib.ListN.{length}
use borrow.Author.Tests.{eqb-true}
use Rattle.bits.specs.Words.{pick}
use Rattle.bits.proofs.Words.Bools.{pick_of, pick_each}
use Rattle.table.specs.Rows.{row_start}
use Rattle.table.specs.Network.{rows}
use Rattle.table.specs.Shuffle.{Shuffle, shuffled}
use Rattle.table.proofs.Shaped.Shapes.{shape_ids}
use Rattle.table.proofs.Shaped.Alike.{Good, good_alike}
use Rattle.table.proofs.Shuffled.Renaming.{from_within}
use Rattle.table.proofs.Shuffled.Rows.{shuffled_at, shuffled_from, shuffled_rows, shuffled_phase}
use Rattle.table.proofs.Shuffled.Shapes.{ends_at, shape_shuffled, id_shuffled}
use Rattle.line.specs.Answers.{Answer}
use Rattle.line.specs.Answers.{Refused, Quiet, Recovered, Passed, Unanswered, TokenLost, Held}
use Rattle.line.specs.Step.{step, renamed}
use Rattle.line.proofs.Steps.StepBy.{sound_step}
use Rattle.line.proofs.Shuffled.Steps.{step_shuffled}
use Rattle.desk.specs.declared.laps.Taker.{Taker}
use Rattle.desk.specs.Lap.{nodes, after, answers, invitations, entry, takers, lap_steps, lap_refusals, lap_number, runs, lapped, net_after_lap, lap_takers}
use Rattle.desk.specs.Shuffle.{taker_to}
use Rattle.desk.proofs.ById.Ring.{roster}
use Rattle.desk.proofs.Runs.Count.{on_first, Ids, roster_online}
use Rattle.desk.proofs.Runs.Back.{lap_steps_lem}
use Rattle.desk.proofs.Lapping.Walking.{alikes}
use Rattle.desk.proofs.Lapping.LapNumber.{lap_lost, lap_two}

-- the number of nodes on line is that of the IDs on line
ids : {n : ℕ} (net : List ℕ) → Good n net → Ids net n
ids net g = record {
  byte = λ k l. (g.rams k (omega (arith, g.count))).1;
  differ = λ j k lj lk. shape_ids net g.fits j k (omega (arith, g.count)) (omega (arith, g.count));
}

pub good_step : {n : ℕ} (net : List ℕ) → Good n net → (fault : ℕ) → Good n (step net fault).after
good_step net g fault = good_alike g (sound_step net g.fits g.rams fault)

pub good_lap : {n : ℕ} (net : List ℕ) → Good n net → (room : ℕ) → Good n (net_after_lap net room)
unfolding net_after_lap
good_lap {n} net g room = pick_of (Good n) (runs net room) (λ _. good_alike g (alikes net g.fits g.rams (lap_steps net))) (λ _. g)

-- ---- answers with rows renamed
invitations_renamed : (to : ℕ → ℕ) (l : List Answer) → invitations (map (renamed to) l) ≡ invitations l
unfolding invitations
invitations_renamed to [] = refl
invitations_renamed to (Refused n ∷ l) = invitations_renamed to l
invitations_renamed to (Quiet ∷ l) = invitations_renamed to l
invitations_renamed to (Recovered r ∷ l) = invitations_renamed to l
invitations_renamed to (Passed r ∷ l) = ap suc (invitations_renamed to l)
invitations_renamed to (Unanswered i ∷ l) = ap suc (invitations_renamed to l)
invitations_renamed to (TokenLost ∷ l) = invitations_renamed to l
invitations_renamed to (Held o ∷ l) = invitations_renamed to l

module _ {n : ℕ} (q : Shuffle n) where
  module _ (net : List ℕ) (ends : length net ≡ row_start net n) where
    entry_shuffled : (r c : ℕ) → entry (shuffled q net) (q.to r) c ≡ taker_to q.to (entry net r c)
    entry_shuffled r c = rw (shuffled_at q net ends r)

    takers_shuffled : (l : List Answer) (c : ℕ) → takers (shuffled q net) c (map (renamed q.to) l) ≡ map (taker_to q.to) (takers net c l)
    unfolding takers
    takers_shuffled [] c = refl
    takers_shuffled (Refused n ∷ l) c = takers_shuffled l c
    takers_shuffled (Quiet ∷ l) c = takers_shuffled l c
    takers_shuffled (Recovered r ∷ l) c = takers_shuffled l c
    takers_shuffled (Passed r ∷ l) c = rw (entry_shuffled r c, takers_shuffled l 0)
    takers_shuffled (Unanswered i ∷ l) c = takers_shuffled l (suc c)
    takers_shuffled (TokenLost ∷ l) c = takers_shuffled l c
    takers_shuffled (Held o ∷ l) c = takers_shuffled l c

  -- ---- k steps
  after_shuffled : (k : ℕ) (net : List ℕ) → Good n net → after k (shuffled q net) ≡ shuffled q (after k net)
  unfolding after
  after_shuffled zero net g = refl
  after_shuffled (suc k) net g = rw (step_shuffled q net g 0) (after_shuffled k (step net 0).after (good_step net g 0))

  answers_shuffled : (k : ℕ) (net : List ℕ) → Good n net → answers k (shuffled q net) ≡ map (renamed q.to) (answers k net)
  unfolding answers
  answers_shuffled zero net g = refl
  answers_shuffled (suc k) net g = rw (step_shuffled q net g 0) (ap (renamed q.to (step net 0).answer ∷◌) (answers_shuffled k (step net 0).after (good_step net g 0)))

  -- ---- the lap
  module _ (net : List ℕ) (g : Good n net) where
    ends : length net ≡ row_start net n
    ends = ends_at q net g.fits g.count

    count : rows (shuffled q net) ≡ n
    count = shuffled_rows q net ends ∙ g.count

    good_shuffled : Good n (shuffled q net)
    good_shuffled = record {
      fits = shape_shuffled q net g.fits g.count;
      rams = λ j l. rw (shuffled_from q net ends j) (g.rams (q.from j) (omega (arith, from_within q j (omega (arith, count)), g.count)));
      count = count;
    }

    nodes_shuffled : nodes (shuffled q net) ≡ nodes net
    nodes_shuffled =
        let same : on_first (shuffled q net) n ≡ on_first net n = fun_ext (λ i. id_shuffled q net ends i) in
        rw (count, g.count)
        (sym (roster_online (shuffled q net) n (ids (shuffled q net) good_shuffled)) ∙ ap (λ (on : ℕ → Bool). length (roster on)) same ∙ roster_online net n (ids net g))

    module _ (room : ℕ) where
      number_shuffled : lap_number (shuffled q net) room ≡ lap_number net room
      unfolding lap_number lap_refusals
      number_shuffled = rw (good_shuffled.fits, g.fits, shuffled_phase q net ends, nodes_shuffled)

      steps_shuffled : lap_number net room ≡ 0 → lap_steps (shuffled q net) ≡ lap_steps net
      steps_shuffled z =
          let y = number_shuffled ∙ z in
          lap_steps_lem (shuffled q net) good_shuffled.fits good_shuffled.rams (lap_lost (shuffled q net) room y) (lap_two (shuffled q net) room y)
          ∙ ap (λ (m : ℕ). 256 + 2 * m) nodes_shuffled ∙ sym (lap_steps_lem net g.fits g.rams (lap_lost net room z) (lap_two net room z))

      answered : lap_number net room ≡ 0 → answers (lap_steps (shuffled q net)) (shuffled q net) ≡ map (renamed q.to) (answers (lap_steps net) net)
      answered z = rw (steps_shuffled z) (answers_shuffled (lap_steps net) net g)

      total_shuffled : pick (runs net room) (invitations (answers (lap_steps (shuffled q net)) (shuffled q net))) 0 ≡ pick (runs net room) (invitations (answers (lap_steps net) net)) 0
      total_shuffled =
          pick_each (λ (x y : ℕ). y ≡ x) (runs net room) (λ z. rw (answered (eqb-true _ _ z)) (invitations_renamed q.to (answers (lap_steps net) net))) (λ _. refl)

      pub lapped_shuffled : lapped (shuffled q net) room ≡ lapped net room
      unfolding lapped
      lapped_shuffled = rw (number_shuffled, total_shuffled)

      pub lap_shuffled : net_after_lap (shuffled q net) room ≡ shuffled q (net_after_lap net room)
      unfolding net_after_lap
      lap_shuffled =
          rw number_shuffled
          (pick_each (λ (x y : List ℕ). y ≡ shuffled q x) (runs net room) (λ z. rw (steps_shuffled (eqb-true _ _ z)) (after_shuffled (lap_steps net) net g)) (λ _. refl))

      pub entries_shuffled : lap_takers (shuffled q net) room ≡ map (taker_to q.to) (lap_takers net room)
      unfolding lap_takers
      entries_shuffled =
          rw number_shuffled
          (pick_each (λ (x y : List Taker). y ≡ map (taker_to q.to) x) (runs net room)
          (λ z. rw (answered (eqb-true _ _ z)) (takers_shuffled net ends (answers (lap_steps net) net) 0)) (λ _. refl))
