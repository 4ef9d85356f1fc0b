-- The loop of the lap call, in the words of its code: how it starts, a turn of it, and what is left when it ends.
-- Assumes nothing.
use mathlib.Core.Path.{◌≡◌, refl, sym, ap, ◌∙◌}
use mathlib.Core.Bool.{Bool, true, false, true≢false}
use mathlib.Core.List.{List}
use Prim.Native.Nat.{ℕ, suc, ◌+◌, ◌*◌, ◌-◌, ◌<◌, ◌≤◌}
use native.Mathlib.Omega.{arith}
use lib.Dec.{eqb}
use borrow.Author.Tests.{eq-eqb, ne_eqb}
use lib.ListN.{length, take, drop, set}
use Rattle.registers.specs.declared.regs.Regs.{Regs}
use Rattle.bits.specs.Words.{pick}
use Rattle.std.specs.Int.{from_bool}
use Rattle.line.specs.declared.step.Answer as code
use Rattle.line.specs.declared.step.Answer.TheVariants as by
use Rattle.line.specs.Answers.{Answer, said}
use Rattle.table.specs.Rows.{row_start}
use Rattle.table.specs.Network.{rows, phase, LOST, regs_at, shape, row_limit}
use Rattle.line.specs.Step.{step_turn, step, answer_value}
use Rattle.line.specs.Traffic.{Turn}
use Rattle.line.proofs.Steps.StepIs.{step_is}
use Rattle.table.proofs.Shaped.Shapes.{shape_within, shape_rows}
use Rattle.line.proofs.Steps.View.{Rams, any_step}
use Rattle.desk.specs.declared.laps.Taker.{Taker}
use Rattle.desk.specs.Lap.{nodes, after, answers, invitation, passed, invitations, nobody, takers, lap_steps}
use Rattle.desk.proofs.Runs.Steps.{after_more}
use Rattle.desk.proofs.Runs.Back.{start, first_holder_lem}
use Rattle.desk.proofs.Runs.LapCounts.{lap_entries}
use Rattle.desk.proofs.Lapping.Walking.{alikes}
use Rattle.desk.proofs.Lapping.Course.{left, left_is, course, lap_after, lap_invitations, lap_takers_lem}
use Rattle.desk.proofs.Lapping.Going.{Going, passed_invites, begin, step_other, other_next, space, small, below, step_passed, passed_next}

-- what the code's step leaves is the step's
abbrev pub Stepped : List ℕ → Answer → List ℕ → Type 0
Stepped net a new = (a ≡ (step_turn net 0).answer) × (new ≡ (step_turn net 0).after)

module _ (net : List ℕ) (s : shape net ≡ true) (a : Answer) (new : List ℕ) (e : Stepped net a new) where
  told : a ≡ (step net 0).answer
  told = e.0 ∙ sym (ap (λ (t : Turn Answer). t.answer) (step_is net s))

  came : new ≡ (step net 0).after
  came = e.1 ∙ sym (ap (λ (t : Turn Answer). t.after) (step_is net s))

-- ---- the recovery
module _ (net : List ℕ) (s : shape net ≡ true) (b : Rams net) (lost : phase net ≡ LOST) (two : 2 ≤ nodes net) (a : Answer) (new : List ℕ) (e : Stepped net a new)
    (first : ℕ) (ef : first ≡ answer_value a) where
  pub starts : (list : List Taker) → list ≡ nobody → Going new first new list 0 0 0 false
  starts list l =
      let f = ef ∙ ap answer_value (told net s a new e ∙ (start net s b lost two).answer) ∙ sym (first_holder_lem net s b lost two) in
      begin new first (rw (came net s a new e) (course net s b lost two first f)) list l

  -- the loop has ended
  pub record Ended (now : List ℕ) (list : List Taker) (n total : ℕ) : Type 0 where
    pub answer : total ≡ invitations (answers (lap_steps net) net)
    pub count : n ≡ nodes net
    pub listed : take n list ≡ takers net 0 (answers (lap_steps net) net)
    pub bytes : now ≡ after (lap_steps net) net
    pub rest : drop n list ≡ drop n nobody

  pub ends : (now : List ℕ) (list : List Taker) (n recent total : ℕ) → Going new first now list n recent total true → Ended now list n total
  ends now list n recent total v =
      let r : new ≡ (step net 0).after = came net s a new e in
      let k : v.k ≡ 255 + 2 * nodes (step net 0).after = v.back_home refl ∙ ap (λ (x : List ℕ). 255 + 2 * nodes x) r in
      record {
        answer = rw (k, r) at v.total_is ∙ sym (lap_invitations net s b lost two);
        count = rw (k, r) at v.many ∙ sym (ap length (lap_takers_lem net s b lost two)) ∙ lap_entries net s b lost two;
        listed = rw (k, r) at v.listed ∙ sym (lap_takers_lem net s b lost two);
        bytes = rw (k, r) at v.now_is ∙ sym (lap_after net s b lost two);
        rest = v.unused;
      }

one_most : (b : Bool) → from_bool b ≤ 1
one_most true = omega arith
one_most false = omega arith

counts : (x : ℕ) (b : Bool) (sent : ℕ) → sent ≡ from_bool b → x + sent ≡ pick b (x + 1) x
counts x true sent e = rw e
counts x false sent e = omega (arith, e)

-- ---- the answer as the code matches it: of a row that took the token, and any other
pub matched : (a : code.Answer) (row : ℕ) → a ≡ by.Passed row → (passed (said a) ≡ true) × (row ≡ answer_value (said a))
matched a row e = rw e (refl, refl)

pub unmatched : (a : code.Answer) → ((row : ℕ) → a ≡ by.Passed row → ⊥) → passed (said a) ≡ false
unmatched by.Quiet u = refl
unmatched (by.Recovered r) u = refl
unmatched (by.Passed r) u = absurd (u r refl)
unmatched (by.Unanswered i) u = refl
unmatched by.TokenLost u = refl
unmatched (by.Held o) u = refl

-- ---- a turn of the loop, while the token is away: the variables after it, and that fewer steps are left
pub record Turned (net : List ℕ) (first : ℕ) (now new : List ℕ) (list : List Taker) (n recent total : ℕ) : Type 0 where
  pub going : Going net first new list n recent total false
  pub less : left first (nodes net) new < left first (nodes net) now

module _ (net : List ℕ) (first : ℕ) (now : List ℕ) (list : List Taker) (n recent total : ℕ) (v : Going net first now list n recent total false) where
  turned : (new : List ℕ) (list' : List Taker) (n' recent' total' : ℕ) (home : Bool) → home ≡ false → (w : Going net first new list' n' recent' total' home)
      → w.k ≡ suc v.k → Turned net first now new list' n' recent' total'
  turned new list' n' recent' total' true h w e = absurd (true≢false h)
  turned new list' n' recent' total' false h w e =
      let a : left first (nodes net) new ≡ 254 + 2 * nodes net - w.k = rw w.now_is (left_is net first w.course w.k (w.away refl)) in
      let b : left first (nodes net) now ≡ 254 + 2 * nodes net - v.k = rw v.now_is (left_is net first v.course v.k (v.away refl)) in
      record { going = w; less = omega (arith, a, b, e, w.away refl, v.away refl) }

  pub going_shape : shape now ≡ true
  going_shape = rw v.now_is (alikes net v.course.fits v.course.rams v.k).fits

  pub going_room : n < row_limit
  going_room = space net first now list n recent total v _ refl _ refl

  -- an invitation is counted
  module _ (a : Answer) (new : List ℕ) (e : Stepped now a new) (sent : ℕ) (q : sent ≡ from_bool (invitation a)) where
    -- the counts are small
    pub turn_small : (recent + sent ≤ 257 + 2 * row_limit) × (total + sent ≤ 257 + 2 * row_limit)
    turn_small =
        let k = small net first now list n recent total v _ refl _ refl in
        let o = one_most (invitation a) in (omega (arith, q, k.0, o), omega (arith, q, k.1, o))

    told_now : a ≡ (step now 0).answer
    told_now = told now going_shape a new e

    came_now : new ≡ (step now 0).after
    came_now = came now going_shape a new e

    pub turn_other : passed a ≡ false → Turned net first now new list n (recent + sent) (total + sent)
    turn_other f =
        rw (counts recent (invitation a) sent q, counts total (invitation a) sent q)
        (turned new list n _ _ false refl (step_other net first now list n recent total v a told_now new came_now f) (other_next net first now list n recent total v a told_now new came_now f))

    -- a row took the token
    module _ (p : passed a ≡ true) (row : ℕ) (ew : row ≡ answer_value a) where
      turn_below : row < rows new
      turn_below =
          let l = below net first now list n recent total v a told_now new came_now p row ew (regs_at new row) refl in
          let z : new ≡ after (suc v.k) net = came_now ∙ ap (λ (x : List ℕ). (step x 0).after) v.now_is ∙ sym (after_more v.k net) in
          rw z (omega (arith, l, (alikes net v.course.fits v.course.rams (suc v.k)).count))

      -- its part lies in the network, and its number is a byte
      pub turn_part : (row_start new (suc row) ≤ length new) × (row < 256)
      turn_part =
          let z = any_step now going_shape (rw v.now_is (alikes net v.course.fits v.course.rams v.k).rams) in
          let w : shape new ≡ true = rw came_now z.fits in
          (shape_within new w row turn_below, omega (arith, turn_below, (shape_rows new w).1))

      module _ (g : Regs) (eg : g ≡ regs_at new row) where
        abbrev entered : List Taker
        entered = set list n (record { id = g.id; row = row; invitations = recent + sent })

        one : sent ≡ 1
        one = q ∙ ap from_bool (passed_invites a p)

        -- the first holder has it again, or it goes on
        pub turn_home : row ≡ first → Going net first new entered (n + 1) 0 (total + sent) true
        turn_home h = rw one (rw (eq-eqb row first h) at (step_passed net first now list n recent total v a told_now new came_now p row ew g eg))

        pub turn_away : (row ≡ first → ⊥) → Turned net first now new entered (n + 1) 0 (total + sent)
        turn_away u =
            rw one
            (turned new _ _ _ _ (eqb row first) (ne_eqb row first u) (step_passed net first now list n recent total v a told_now new came_now p row ew g eg)
            (passed_next net first now list n recent total v a told_now new came_now p row ew g eg))
