-- The loop of the lap call: what its variables hold after k steps, kept by one step more.
-- Assumes nothing.
use mathlib.Core.Path.{◌≡◌, refl, sym, ap, ◌∙◌}
use mathlib.Core.Logic.{⊎_elim}
use mathlib.Core.Bool.{Bool, true, false, ◌&&◌}
use mathlib.Core.List.{List, [], ◌∷◌, ◌++◌, append-nil}
use Prim.Native.Nat.{ℕ, zero, suc, ◌+◌, ◌*◌, ◌<◌, ◌≤◌}
use native.Mathlib.Numerals.{add-one}
use native.Mathlib.Omega.{arith}
use lib.Dec.{eqb, ltb}
use lib.ListN.{length, take, drop, set, length-set, length-append}
use lib.Seq.{take-suc-set}
use borrow.Author.Tests.{eqb-true, eqb-false, ltb-true, ltb-false}
use Rattle.registers.specs.declared.regs.Regs.{Regs}
use Rattle.bits.specs.Words.{pick}
use Rattle.std.proofs.lemmas.Bool.{cases_Bool}
use Rattle.line.specs.Answers.{Answer}
use Rattle.line.specs.Answers.{Refused, Quiet, Recovered, Passed, Unanswered, TokenLost, Held}
use Rattle.table.specs.Network.{row_limit, rows, regs_at}
use Rattle.line.specs.Step.{step, answer_value}
use Rattle.table.proofs.Folds.{clash}
use Rattle.desk.specs.declared.laps.Taker.{Taker}
use Rattle.desk.specs.Lap.{nodes, after, answers, invitation, passed, invitations, entry, nobody, takers}
use Rattle.desk.proofs.Runs.Steps.{after_none, after_more, answers_none, answers_more, since, since_none, since_more, invitations_none, invitations_more, takers_none, takers_more}
use Rattle.desk.proofs.Lapping.Walking.{alikes, invitations_most, since_most, entries}
use Rattle.desk.proofs.Lapping.Course.{back_to, passed_below, Course, nodes_most}

pub passed_invites : (a : Answer) → passed a ≡ true → invitation a ≡ true
passed_invites (Refused n) e = e
passed_invites Quiet e = e
passed_invites (Recovered r) e = e
passed_invites (Passed r) e = refl
passed_invites (Unanswered i) e = refl
passed_invites TokenLost e = e
passed_invites (Held o) e = e

-- ---- the entries past n, and past one more
past_one : {A : Type 0} (n : ℕ) (l : List A) → drop (suc n) l ≡ drop 1 (drop n l)
past_one zero l = refl
past_one (suc n) [] = refl
past_one (suc n) (x ∷ l) = past_one n l

past : {A : Type 0} (n : ℕ) (l m : List A) → drop n l ≡ drop n m → drop (suc n) l ≡ drop (suc n) m
past n l m e = past_one n l ∙ ap (drop 1) e ∙ sym (past_one n m)

past_set : {A : Type 0} (n : ℕ) (l : List A) (x : A) → drop (suc n) (set l n x) ≡ drop (suc n) l
past_set n [] x = refl
past_set zero (y ∷ l) x = refl
past_set (suc n) (y ∷ l) x = past_set n l x

-- after k steps of the lap from net on, which has recovered: the variables of the loop
pub record Going (net : List ℕ) (first : ℕ) (now : List ℕ) (list : List Taker) (n recent total : ℕ) (home : Bool) : Type 0 where
  pub course : Course net first
  pub k : ℕ
  pub now_is : now ≡ after k net
  pub room : length list ≡ row_limit
  pub unused : drop n list ≡ drop n nobody
  pub listed : take n list ≡ takers net 0 (answers k net)
  pub many : n ≡ entries net k
  pub recent_is : recent ≡ since 0 (answers k net)
  pub total_is : total ≡ invitations (answers k net)
  pub away : home ≡ false → k < 255 + 2 * nodes net
  pub back_home : home ≡ true → k ≡ 255 + 2 * nodes net

pub begin : (net : List ℕ) (first : ℕ) → Course net first → (list : List Taker) → list ≡ nobody → Going net first net list 0 0 0 false
begin net first c list l = record {
  course = c;
  k = 0;
  now_is = sym (after_none net);
  room = rw l;
  unused = l;
  listed = sym (rw answers_none (takers_none net 0));
  many = sym (rw answers_none (ap length (takers_none net 0)));
  recent_is = sym (rw answers_none (since_none 0));
  total_is = sym (rw answers_none invitations_none);
  away = λ _. omega arith;
  back_home = λ e. absurd (clash e refl);
}

-- one step more, while the token is away
module _ (net : List ℕ) (first : ℕ) (now : List ℕ) (list : List Taker) (n recent total : ℕ) (v : Going net first now list n recent total false)
    (a : Answer) (ea : a ≡ (step now 0).answer) (new : List ℕ) (en : new ≡ (step now 0).after) where
  here : (step (after v.k net) 0).answer ≡ a
  here = sym (ea ∙ ap (λ (x : List ℕ). (step x 0).answer) v.now_is)

  answered : answers (suc v.k) net ≡ answers v.k net ++ (a ∷ [])
  answered = answers_more v.k net ∙ ap (λ (x : Answer). answers v.k net ++ (x ∷ [])) here

  there : new ≡ after (suc v.k) net
  there = en ∙ ap (λ (x : List ℕ). (step x 0).after) v.now_is ∙ sym (after_more v.k net)

  total_next : pick (invitation a) (total + 1) total ≡ invitations (answers (suc v.k) net)
  total_next = rw (answered, invitations_more, ← v.total_is, add-one)

  -- the token is back exactly at the last step of the lap
  back_is : back_to first net v.k ≡ (passed a && eqb (answer_value a) first)
  back_is = rw here

  abbrev end : ℕ
  end = 254 + 2 * nodes net

  last : back_to first net v.k ≡ true → suc v.k ≡ 255 + 2 * nodes net
  last t =
      ⊎_elim (λ (l : ltb v.k end ≡ true). absurd (clash t (v.course.not_yet v.k (ltb-true v.k end l))))
      (λ (l : ltb v.k end ≡ false). omega (arith, ltb-false v.k end l, v.away refl)) (cases_Bool (ltb v.k end))

  not_last : back_to first net v.k ≡ false → suc v.k < 255 + 2 * nodes net
  not_last f =
      ⊎_elim
      (λ (e : eqb v.k end ≡ true). let t : back_to first net v.k ≡ true = rw (eqb-true v.k end e) v.course.again in absurd (clash t f))
      (λ (e : eqb v.k end ≡ false). far (eqb-false v.k end e)) (cases_Bool (eqb v.k end))
    where
      far : (v.k ≡ end → ⊥) → suc v.k < 255 + 2 * nodes net
      far d = omega (arith, v.away refl, d)

  same : passed a ≡ false → takers net 0 (answers v.k net) ≡ takers net 0 (answers (suc v.k) net)
  same f = sym (rw (answered, takers_more, f) (append-nil (takers net 0 (answers v.k net))))

  pub step_other : passed a ≡ false → Going net first new list n (pick (invitation a) (recent + 1) recent) (pick (invitation a) (total + 1) total) false
  step_other f = record {
    course = v.course;
    k = suc v.k;
    now_is = there;
    room = v.room;
    unused = v.unused;
    listed = v.listed ∙ same f;
    many = v.many ∙ ap length (same f);
    recent_is = rw (answered, since_more, f, ← v.recent_is, add-one);
    total_is = total_next;
    away = λ _. not_last (back_is ∙ rw f);
    back_home = λ e. absurd (clash e refl);
  }

  pub other_next : (f : passed a ≡ false) → (step_other f).k ≡ suc v.k
  unfolding step_other
  other_next f = refl

  -- there is room for an entry more, and the counts are small
  pub space : n < row_limit
  space = omega (arith, v.many, v.course.few v.k (v.away refl), nodes_most net first v.course)

  pub small : (recent ≤ 256 + 2 * row_limit) × (total ≤ 256 + 2 * row_limit)
  small =
      let k : v.k ≤ 256 + 2 * row_limit = omega (arith, v.away refl, nodes_most net first v.course) in
      (omega (arith, v.recent_is, since_most v.k net), omega (arith, v.total_is, invitations_most v.k net))

  -- the token is taken: one entry more
  module _ (p : passed a ≡ true) (row : ℕ) (er : row ≡ answer_value a) (g : Regs) (eg : g ≡ regs_at new row) where
    pub below : row < rows net
    below =
        let w = alikes net v.course.fits v.course.rams v.k in
        omega (arith, er, w.count, passed_below (after v.k net) w.fits w.rams a (sym here) p)

    abbrev taker : Taker
    taker = record { id = g.id; row = row; invitations = recent + 1 }

    taker_is : taker ≡ entry net (answer_value a) (since 0 (answers v.k net))
    taker_is =
        let i : g.id ≡ (regs_at net row).id
        = ap (λ (x : Regs). x.id) eg ∙ ap (λ (x : List ℕ). (regs_at x row).id) there ∙ (alikes net v.course.fits v.course.rams (suc v.k)).id row below in
        rw (i, ← v.recent_is, add-one, er)

    more : takers net 0 (answers (suc v.k) net) ≡ takers net 0 (answers v.k net) ++ (taker ∷ [])
    more = rw (answered, takers_more, p, taker_is)

    pub step_passed : Going net first new (set list n taker) (n + 1) 0 (total + 1) (eqb row first)
    step_passed = record {
      course = v.course;
      k = suc v.k;
      now_is = there;
      room = length-set list n taker ∙ v.room;
      unused = rw (add-one n) (past_set n list taker ∙ past n list nobody v.unused);
      listed = rw (add-one n, take-suc-set list n taker (omega (arith, v.room, space)), v.listed, more);
      many = rw (more, length-append, ← v.many);
      recent_is = rw (answered, since_more, p);
      total_is = rw (passed_invites a p) at total_next;
      away = λ e. not_last (back_is ∙ rw (p, ← er) e);
      back_home = λ e. last (back_is ∙ rw (p, ← er) e);
    }

    pub passed_next : step_passed.k ≡ suc v.k
    unfolding step_passed
    passed_next = refl
