-- The lap from the recovery on: the loop of the lap call starts with a network that has recovered, and what holds of it is said of that network alone.
-- Assumes nothing.
use mathlib.Core.Path.{◌≡◌, refl, sym, ap, ◌∙◌}
use mathlib.Core.Bool.{Bool, true, false, ◌&&◌, false≢true}
use mathlib.Core.List.{List, [], ◌∷◌, ◌++◌}
use Prim.Native.Nat.{ℕ, zero, suc, ◌+◌, ◌*◌, ◌-◌, ◌<◌, ◌≤◌}
use native.Mathlib.Omega.{arith}
use lib.Dec.{eqb}
use lib.ListN.{length}
use Rattle.bits.specs.Words.{pick}
use Rattle.bits.proofs.Words.Bools.{pick_of}
use Rattle.line.specs.Answers.{Answer}
use Rattle.line.specs.Answers.{Refused, Quiet, Recovered, Passed, Unanswered, TokenLost, Held}
use Rattle.table.specs.Folds.{seek}
use Rattle.table.specs.Network.{row_limit, rows, phase, LOST, on_line_at, shape}
use Rattle.line.specs.Step.{step, answer_value}
use Rattle.table.proofs.Folds.{seek_is}
use Rattle.table.proofs.Shaped.Shapes.{shape_rows}
use Rattle.line.proofs.Steps.View.{Rams, Alike, AfterLost, passed_row}
use Rattle.desk.specs.declared.laps.Taker.{Taker}
use Rattle.desk.specs.Lap.{online, nodes, after, answers, invitation, passed, invitations, entry, takers, first_holder, back, lap_steps}
use Rattle.desk.proofs.Runs.Steps.{after_first, answers_none, answers_first, answers_more, since, takers_none, takers_more}
use Rattle.desk.proofs.Runs.Count.{online_most}
use Rattle.desk.proofs.Runs.Back.{start, not_back, is_back, lap_steps_lem}
use Rattle.desk.proofs.Lapping.Walking.{alikes, after_add, entries, few}

-- step k from this network passes the token to the row q
abbrev pub back_to : ℕ → List ℕ → ℕ → Bool
back_to q net k = passed (step (after k net) 0).answer && eqb (answer_value (step (after k net) 0).answer) q

-- ---- the same nodes on line: as many, and the same entries
same_online : (net new : List ℕ) (n : ℕ) → ((k : ℕ) → k < n → on_line_at new k ≡ on_line_at net k) → online new n ≡ online net n
unfolding online
same_online net new zero e = refl
same_online net new (suc n) e = rw (e n (omega arith), same_online net new n (λ k l. e k (omega arith)))

same_nodes : {net new : List ℕ} → Alike net new → nodes new ≡ nodes net
same_nodes {net} {new} a = ap (online new) a.count ∙ same_online net new (rows net) a.online

same_length : (net new : List ℕ) (l : List Answer) (c : ℕ) → length (takers new c l) ≡ length (takers net c l)
unfolding takers
same_length net new [] c = refl
same_length net new (a ∷ l) c =
    by (passed a) (same_length net new l 0) (same_length net new l (pick (invitation a) (suc c) c))
  where
    by : (b : Bool) → length (takers new 0 l) ≡ length (takers net 0 l)
        → length (takers new (pick (invitation a) (suc c) c) l) ≡ length (takers net (pick (invitation a) (suc c) c) l)
        → length (pick b (entry new (answer_value a) c ∷ takers new 0 l) (takers new (pick (invitation a) (suc c) c) l))
        ≡ length (pick b (entry net (answer_value a) c ∷ takers net 0 l) (takers net (pick (invitation a) (suc c) c) l))
    by true p q = ap suc p
    by false p q = q

pub passed_below : (net : List ℕ) → shape net ≡ true → Rams net → (a : Answer) → a ≡ (step net 0).answer → passed a ≡ true → answer_value a < rows net
passed_below net s b (Refused n) e p = absurd (false≢true p)
passed_below net s b Quiet e p = absurd (false≢true p)
passed_below net s b (Recovered r) e p = absurd (false≢true p)
passed_below net s b (Passed r) e p = passed_row net s b r (sym e)
passed_below net s b (Unanswered i) e p = absurd (false≢true p)
passed_below net s b TokenLost e p = absurd (false≢true p)
passed_below net s b (Held o) e p = absurd (false≢true p)

-- each taker is a row of both
same_entry : (net now : List ℕ) → Alike net now → (r c : ℕ) → r < rows net → entry net r c ≡ entry now r c
same_entry net now a r c l = rw (a.id r l)

same_takers : (net now : List ℕ) → Alike net now → (k : ℕ) → takers net 0 (answers k now) ≡ takers now 0 (answers k now)
same_takers net now a zero = rw answers_none (takers_none net 0 ∙ sym (takers_none now 0))
same_takers net now a (suc k) =
    let w = alikes now a.fits a.rams k in
    let x = (step (after k now) 0).answer in
    let c = since 0 (answers k now) in
    let ids : passed x ≡ true → entry net (answer_value x) c ≡ entry now (answer_value x) c
    = λ p. let l = passed_below (after k now) w.fits w.rams x refl p in
    same_entry net now a (answer_value x) c (omega (arith, w.count, a.count)) in
    rw (answers_more, takers_more net (answers k now) 0 x, takers_more now (answers k now) 0 x, same_takers net now a k)
    (pick_of (λ (t : List Taker). takers now 0 (answers k now) ++ pick (passed x) (entry net (answer_value x) c ∷ []) [] ≡ takers now 0 (answers k now) ++ t) (passed x)
    (λ p. rw p (ap (λ (t : Taker). takers now 0 (answers k now) ++ (t ∷ [])) (ids p))) (λ p. rw p))

-- ---- a network that has recovered
pub record Course (net : List ℕ) (first : ℕ) : Type 0 where
  pub fits : shape net ≡ true
  pub rams : Rams net
  pub not_yet : (k : ℕ) → k < 254 + 2 * nodes net → back_to first net k ≡ false
  pub again : back_to first net (254 + 2 * nodes net) ≡ true
  pub few : (k : ℕ) → k < 255 + 2 * nodes net → entries net k < nodes net

-- the steps that are left until the row `first` has the token again
unfoldable pub left : ℕ → ℕ → List ℕ → ℕ
left first n now = seek (back_to first now) (255 + 2 * n)

pub left_is : (net : List ℕ) (first : ℕ) → Course net first → (k : ℕ) → k < 255 + 2 * nodes net → left first (nodes net) (after k net) ≡ 254 + 2 * nodes net - k
unfolding left
left_is net first c k l =
    seek_is _ (255 + 2 * nodes net) (254 + 2 * nodes net - k) (omega arith)
    (let e : k + (254 + 2 * nodes net - k) ≡ 254 + 2 * nodes net = omega arith in rw (after_add, e) c.again)
    (λ j m. rw after_add (c.not_yet (k + j) (omega arith)))

pub nodes_most : (net : List ℕ) (first : ℕ) → Course net first → nodes net ≤ row_limit
nodes_most net first c = omega (arith, online_most net (rows net), (shape_rows net c.fits).1)

module _ (net : List ℕ) (s : shape net ≡ true) (b : Rams net) (lost : phase net ≡ LOST) (two : 2 ≤ nodes net) where
  abbrev recovered : List ℕ
  recovered = (step net 0).after

  abbrev begun : AfterLost net s b
  begun = start net s b lost two

  same_count : nodes recovered ≡ nodes net
  same_count = same_nodes begun.alike

  -- the recovery is no invitation, and makes no entry
  first_entries : (k : ℕ) → takers net 0 (answers (suc k) net) ≡ takers net 0 (answers k recovered)
  unfolding takers
  first_entries k = rw (answers_first, begun.answer)

  entries_same : (k : ℕ) → entries recovered k ≡ entries net (suc k)
  entries_same k = same_length net recovered (answers k recovered) 0 ∙ sym (ap length (first_entries k))

  pub course : (first : ℕ) → first ≡ first_holder net → Course recovered first
  unfolding back
  course first e = record {
    fits = begun.alike.fits;
    rams = begun.alike.rams;
    not_yet = λ k l. rw e (rw (after_first k net) at (not_back net s b lost two (suc k) (omega (arith, same_count))));
    again =
        let m : 255 + 2 * nodes net ≡ suc (254 + 2 * nodes recovered) = omega (arith, same_count) in
        rw e (rw (m, after_first (254 + 2 * nodes recovered) net) at (is_back net s b lost two));
    few = λ k l. omega (arith, same_count, entries_same k, few net s b lost two (suc k) (omega (arith, same_count)));
  }

  -- ---- the lap is the recovery, and 255 + 2n steps after it
  steps : lap_steps net ≡ suc (255 + 2 * nodes recovered)
  steps = lap_steps_lem net s b lost two ∙ omega (arith, same_count)

  pub lap_after : after (lap_steps net) net ≡ after (255 + 2 * nodes recovered) recovered
  lap_after = rw (steps, after_first)

  pub lap_invitations : invitations (answers (lap_steps net) net) ≡ invitations (answers (255 + 2 * nodes recovered) recovered)
  unfolding invitations
  lap_invitations = rw (steps, answers_first, begun.answer)

  pub lap_takers_lem : takers net 0 (answers (lap_steps net) net) ≡ takers recovered 0 (answers (255 + 2 * nodes recovered) recovered)
  lap_takers_lem = ap (λ (k : ℕ). takers net 0 (answers k net)) steps ∙ first_entries _ ∙ same_takers net recovered begun.alike _
