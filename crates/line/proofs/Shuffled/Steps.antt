-- A line step of a network and of its rows in another order: the same answer with its row renamed, and what is left is left in that order.
-- Assumes nothing.
use mathlib.Core.Path.{◌≡◌, refl, sym, ◌∙◌, ap}
use mathlib.Core.Bool.{Bool, true, false}
use mathlib.Core.List.{List}
use Prim.Native.Nat.{ℕ, ◌<◌}
use native.Mathlib.Omega.{arith}
use lib.Dec.{eqb, ltb}
use lib.ListN.{length}
use borrow.Author.Tests.{eqb-false, ne_eqb}
use Rattle.bits.proofs.Words.Bools.{pick_each}
use Rattle.card.specs.Row.{regs_of}
use Rattle.table.specs.Rows.{row_start}
use Rattle.table.specs.Network.{rows, phase, holder, LOST, PASS, TAKEN, turned, regs_at, node_of, top_id}
use Rattle.table.specs.Shuffle.{Shuffle, shuffled}
use Rattle.table.proofs.Shaped.Shapes.{shape_phase}
use Rattle.table.proofs.Shaped.Alike.{Good, good_alike}
use Rattle.table.proofs.Shuffled.Renaming.{to_below}
use Rattle.table.proofs.Shuffled.Rows.{shuffled_at, shuffled_phase, shuffled_holder, shuffled_turned}
use Rattle.table.proofs.Shuffled.Shapes.{ends_at, shape_shuffled, node_shuffled, top_shuffled}
use Rattle.line.specs.declared.passes.Event.TheVariants.{Recovery, Message, Taken}
use Rattle.line.specs.Answers.{Answer}
use Rattle.line.specs.Traffic.{Turn, happened, taken_turn}
use Rattle.line.specs.Step.{destroyed, highest, lost_turn, invited, taker, pass_turn, held, step_turn, step_refusals, step_number, step, renamed}
use Rattle.line.proofs.Change.Changes.{Rises, Change, Reaches, Does}
use Rattle.line.proofs.Change.Paths.{sound}
use Rattle.line.proofs.Turn.TakenBy.{taken_by}
use Rattle.line.proofs.Steps.Stepped.{held_row}
use Rattle.line.proofs.Shuffled.Changes.{good_done, good_rows, done_shuffled}
use Rattle.line.proofs.Shuffled.Turns.{turn_to, taken_shuffled}

module _ {n : ℕ} (q : Shuffle n) where
  abbrev Same : Turn Answer → Turn Answer → Type 0
  Same t u = u ≡ turn_to q (renamed q.to) t

  -- another phase, with a holder
  held_by : (net : List ℕ) → Good n net → (p h : ℕ) → eqb p LOST ≡ false → turned (shuffled q net) p (q.to h) ≡ shuffled q (turned net p h)
  held_by net g p h e = rw e at (shuffled_turned q net (ends_at q net g.fits g.count) p h)

  module _ (net : List ℕ) (g : Good n net) where
    low : holder net < n
    low = omega (arith, held_row net g.fits, g.count)

    ends : length net ≡ row_start net n
    ends = ends_at q net g.fits g.count

    count : rows (shuffled q net) ≡ n
    count = good_rows q net g (holder net) low

    -- ---- LOST
    highest_shuffled : highest (shuffled q net) ≡ q.to (highest net)
    highest_shuffled =
        let past : n ≡ q.to n = sym (q.past n (omega arith)) in
        rw (count, g.count, top_shuffled q net g.fits g.count)
        (ap (λ (x : ℕ). node_of (shuffled q net) (top_id net n) x n) past ∙ node_shuffled q net g.fits g.count (top_id net n) n)

    lost_shuffled : Same (lost_turn net) (lost_turn (shuffled q net))
    unfolding lost_turn
    lost_shuffled =
        let m = happened net Recovery in
        let e : happened (shuffled q net) Recovery ≡ shuffled q m = done_shuffled q net g (holder net) low (Reaches Recovery) tt in
        let u = held_by m (good_done net g (holder net) low (Reaches Recovery) tt tt) PASS (highest net) refl in
        rw (highest_shuffled, e, u, count, g.count, top_shuffled q net g.fits g.count)
        (pick_each Same (eqb (top_id net n) 0) (λ _. refl) (λ _. refl))

    -- ---- PASS
    module _ (p : phase net ≡ LOST → ⊥) where
      holds : holder (shuffled q net) ≡ q.to (holder net)
      holds = shuffled_holder q net ends ∙ rw (ne_eqb (phase net) LOST p)

      invited_shuffled : invited (shuffled q net) ≡ invited net
      invited_shuffled = ap (λ (k : ℕ). (regs_at (shuffled q net) k).nid) holds ∙ ap (λ (r : List ℕ). (regs_of r).nid) (shuffled_at q net ends (holder net))

      taker_shuffled : taker (shuffled q net) ≡ q.to (taker net)
      taker_shuffled =
          ap (λ (i : ℕ). node_of (shuffled q net) i (holder (shuffled q net)) (rows (shuffled q net))) invited_shuffled
          ∙ rw (holds, count, g.count) (node_shuffled q net g.fits g.count (invited net) (holder net))

      found_shuffled : ltb (taker (shuffled q net)) (rows (shuffled q net)) ≡ ltb (taker net) (rows net)
      found_shuffled = ap (λ (t : ℕ). ltb t (rows (shuffled q net))) taker_shuffled ∙ ap (ltb (q.to (taker net))) count ∙ to_below q (taker net) ∙ ap (ltb (taker net)) (sym g.count)

      heard : (token : Bool) → happened (shuffled q net) (Message (q.to (holder net)) token) ≡ shuffled q (happened net (Message (holder net) token))
      heard token = done_shuffled q net g (holder net) low (Reaches (Message (holder net) token)) tt

      good : (token : Bool) → Good n (happened net (Message (holder net) token))
      good token = good_done net g (holder net) low (Reaches (Message (holder net) token)) tt tt

      pass_shuffled : (fault : ℕ) → Same (pass_turn net fault) (pass_turn (shuffled q net) fault)
      unfolding pass_turn
      pass_shuffled fault =
          let x = happened net (Message (holder net) false) in
          let y = happened net (Message (holder net) true) in
          let c : Change = Reaches (Taken (invited net) (taker net)) in
          rw (found_shuffled, taker_shuffled, invited_shuffled, holds, heard false, heard true)
          (pick_each Same (destroyed fault)
          (λ _. rw (shuffled_turned q x (ends_at q x (good false).fits (good false).count) LOST 0))
          (λ _. pick_each Same (ltb (taker net) (rows net))
          (λ _. rw (done_shuffled q y (good true) (holder net) low c tt, held_by _ (good_done y (good true) (holder net) low c tt tt) TAKEN (taker net) refl))
          (λ _. rw (done_shuffled q y (good true) (holder net) low (Does Rises) tt))))

      -- ---- TAKEN
      held_shuffled : (fault : ℕ) → eqb (step_number net fault) 0 ≡ true → phase net ≡ TAKEN
          → Same (held (taken_turn net (holder net) fault) (holder net)) (held (taken_turn (shuffled q net) (holder (shuffled q net)) fault) (holder (shuffled q net)))
      held_shuffled fault z e =
          let a = sound net g.fits g.rams (taken_by net g.fits g.rams fault z e).path in
          rw (holds, taken_shuffled q (holder net) low net g fault, held_by _ (good_alike g a) PASS (holder net) refl)

    -- ---- the step
    turn_shuffled : (fault : ℕ) → eqb (step_number net fault) 0 ≡ true → Same (step_turn net fault) (step_turn (shuffled q net) fault)
    unfolding step_turn
    turn_shuffled fault z =
        rw (shuffled_phase q net ends)
        (pick_each Same (eqb (phase net) LOST) (λ _. lost_shuffled)
        (λ t. let p = eqb-false (phase net) LOST t in
        pick_each Same (eqb (phase net) PASS) (λ _. pass_shuffled p fault)
        (λ u. held_shuffled p fault z (omega (arith, shape_phase net g.fits, p, eqb-false (phase net) PASS u)))))

    number_shuffled : (fault : ℕ) → step_number (shuffled q net) fault ≡ step_number net fault
    unfolding step_number step_refusals
    number_shuffled fault = rw (shape_shuffled q net g.fits g.count, g.fits)

    pub step_shuffled : (fault : ℕ) → Same (step net fault) (step (shuffled q net) fault)
    unfolding step
    step_shuffled fault = rw (number_shuffled fault) (pick_each Same (eqb (step_number net fault) 0) (turn_shuffled fault) (λ _. refl))
