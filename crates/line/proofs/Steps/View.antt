-- One fault-free line step of a well formed network, as it is seen from outside: its answer, the phase and the holder after it, every NID.
-- Assumes nothing.
use mathlib.Core.Path.{◌≡◌, refl, ◌∙◌, ap}
use mathlib.Core.Bool.{true}
use mathlib.Core.List.{List, [], ◌∷◌}
use Prim.Native.Nat.{ℕ, ◌+◌, ◌%◌, ◌≤◌, ◌<◌}
use native.Mathlib.Omega.{arith}
use lib.Dec.{lit<}
use lib.ListN.{length}
use Rattle.registers.specs.declared.regs.Regs.{Regs}
use Rattle.line.specs.declared.passes.Event.TheVariants.{Recovery, Message, Taken}
use Rattle.line.specs.declared.traffic.Outcome.{Outcome}
use Rattle.line.specs.Answers.{Answer}
use Rattle.line.specs.Answers.{Recovered, Passed, Unanswered, Held}
use Rattle.registers.specs.Fit.{on_line}
use Rattle.registers.proofs.Values.SameCard.{is_recovered, is_risen}
use Rattle.table.specs.Rows.{header_bytes}
use Rattle.table.specs.Network.{rows, phase, holder, LOST, PASS, TAKEN, turned, regs_at, on_line_at, top_id, shape}
use Rattle.line.specs.Traffic.{Turn, happened, taken_turn}
use Rattle.line.specs.Step.{highest, invited, taker, step}
use Rattle.table.proofs.Rows.Networks.{length_turned, row_at_turned, phase_turned, holder_turned}
use Rattle.table.proofs.Online.Nodes.{online_is}
use Rattle.table.proofs.Shaped.Bounds.{bounds}
use Rattle.table.proofs.Rows.Starts.{frame_byte}
use Rattle.line.proofs.Steps.Stepped.{held_row}
use Rattle.line.proofs.Change.Changes.{Rises, Reaches, Does, Path, begin, more}
use Rattle.line.proofs.Change.Made.{made, own_here, own_there, shape_happened, happened_here}
use Rattle.line.proofs.Change.Paths.{sound, same_nids, keep_taken}
use Rattle.line.proofs.Steps.StepBy.{step_by, sound_step}
use Rattle.line.proofs.Steps.StepIs.{lost_is, held_is, invitation, taker_is, none_is, passed_is}
pub use Rattle.table.proofs.Shaped.Alike.{Rams, Alike, alike_same, alike_then}

module _ (net : List ℕ) (s : shape net ≡ true) (b : Rams net) where
  -- every step
  pub any_step : Alike net (step net 0).after
  any_step = sound_step net s b 0

  -- ---- "LOST"
  pub record AfterLost : Type 0 where
    pub answer : (step net 0).answer ≡ Recovered (highest net)
    pub alike : Alike net (step net 0).after
    pub phase : phase (step net 0).after ≡ PASS
    pub holder : holder (step net 0).after ≡ highest net
    pub nid : (k : ℕ) → k < rows net → on_line_at net k ≡ true → (regs_at (step net 0).after k).nid ≡ (regs_at net k).id

  pub lost_step : phase net ≡ LOST → (top_id net (rows net) ≡ 0 → ⊥) → AfterLost
  lost_step p ne =
      let e = lost_is net s p ne in
      let m = happened net Recovery in
      let l = (bounds m (shape_happened net Recovery s)).header in
      record {
        answer = ap (λ (t : Turn Answer). t.answer) e;
        alike = any_step;
        phase = rw e (phase_turned m PASS (highest net) l);
        holder = rw e (holder_turned m PASS (highest net) l);
        nid = λ k lk o. let on : on_line (regs_at net k) ≡ true = online_is net k (regs_at net k) _ refl refl ∙ o in
            rw (e, row_at_turned m PASS (highest net) k) (ap (λ (g : Regs). g.nid) (happened_here net Recovery s k lk) ∙ (is_recovered (regs_at net k)).nid ∙ rw on);
      }

  -- ---- "PASS": every other row hears the invitation
  invites : phase net ≡ PASS → Path net (Reaches (Message (holder net) true) ∷ []) (invitation net)
  invites p = more begin (Reaches (Message (holder net) true)) (refl, λ e. omega (arith, p, e)) tt

  pub record AfterTaker : Type 0 where
    pub answer : (step net 0).answer ≡ Passed (taker net)
    pub alike : Alike net (step net 0).after
    pub phase : phase (step net 0).after ≡ TAKEN
    pub holder : holder (step net 0).after ≡ taker net
    pub nid : (k : ℕ) → k < rows net → (regs_at (step net 0).after k).nid ≡ (regs_at net k).nid

  pub taker_step : phase net ≡ PASS → taker net < rows net → AfterTaker
  taker_step p lt =
      let e = taker_is net s p lt in
      let t = taker net in
      let m = happened (invitation net) (Taken (invited net) t) in
      let q = more (invites p) (Reaches (Taken (invited net) t)) p tt in
      let l = (bounds m (sound net s b q).fits).header in
      record {
        answer = ap (λ (t : Turn Answer). t.answer) e;
        alike = any_step;
        phase = rw e (phase_turned m TAKEN t l);
        holder = rw e (holder_turned m TAKEN t l);
        nid = λ k lk. rw (e, row_at_turned m TAKEN t k) (same_nids net s b q refl k lk);
      }

  pub record AfterNone : Type 0 where
    pub answer : (step net 0).answer ≡ Unanswered (invited net)
    pub alike : Alike net (step net 0).after
    pub here : (regs_at (step net 0).after (holder net)).nid ≡ (invited net + 1) % 256
    pub there : (k : ℕ) → k < rows net → (k ≡ holder net → ⊥) → (regs_at (step net 0).after k).nid ≡ (regs_at net k).nid
    pub phase : phase (step net 0).after ≡ PASS
    pub holder : holder (step net 0).after ≡ holder net

  pub none_step : phase net ≡ PASS → rows net ≤ taker net → AfterNone
  none_step p lt =
      let e = none_is net s p lt in
      let h = holder net in
      let m = invitation net in
      let a = sound net s b (invites p) in
      let l = held_row net s in
      let lm : h < rows m = omega (arith, a.count) in
      let heard = made net h s l (Reaches (Message h true)) tt in
      let rises = made m h a.fits lm (Does Rises) tt in
      let nids = same_nids net s b (invites p) refl in
      record {
        answer = ap (λ (t : Turn Answer). t.answer) e;
        alike = any_step;
        here = rw e (ap (λ (g : Regs). g.nid) (own_here m h a.fits lm Rises) ∙ (is_risen (regs_at m h)).nid ∙ ap (λ (n : ℕ). (n + 1) % 256) (nids h l));
        there = λ k lk ne. rw (e, own_there m h a.fits lm Rises k (omega (arith, a.count)) ne) (nids k lk);
        phase = rw e (frame_byte rises.frame 4 (lit< tt) ∙ frame_byte heard.frame 4 (lit< tt) ∙ p);
        holder = rw e (frame_byte rises.frame 5 (lit< tt) ∙ frame_byte heard.frame 5 (lit< tt));
      }

  -- ---- "TAKEN"
  pub record AfterHeld : Type 0 where
    pub outcome : Outcome
    pub answer : (step net 0).answer ≡ Held outcome
    pub alike : Alike net (step net 0).after
    pub phase : phase (step net 0).after ≡ PASS
    pub holder : holder (step net 0).after ≡ holder net
    pub nid : (k : ℕ) → k < rows net → (regs_at (step net 0).after k).nid ≡ (regs_at net k).nid

  pub held_step : phase net ≡ TAKEN → AfterHeld
  held_step p =
      let e = held_is net s p in
      let h = holder net in
      let m = (taken_turn net h 0).after in
      let l : header_bytes ≤ length m = omega (arith, length_turned m PASS h, (bounds (turned m PASS h) (rw e at any_step.fits)).header) in
      record {
        outcome = (taken_turn net h 0).answer;
        answer = ap (λ (t : Turn Answer). t.answer) e;
        alike = any_step;
        phase = rw e (phase_turned m PASS h l);
        holder = rw e (holder_turned m PASS h l);
        nid = let q = (step_by net s b 0).path in same_nids net s b q (keep_taken net s b p q);
      }

  -- the row that an answer names as the taker is a row
  pub passed_row : (r : ℕ) → (step net 0).answer ≡ Passed r → r < rows net
  passed_row r a = passed_is net s r a
