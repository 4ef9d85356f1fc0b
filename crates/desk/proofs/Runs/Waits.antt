-- Before the recovery: the line waits in LOST whatever calls come, and the first step recovers.
-- Assumes nothing.
use mathlib.Core.Path.{◌≡◌, sym, ap, ◌∙◌}
use mathlib.Core.Bool.{true, false, false≢true}
use mathlib.Core.List.{List, [], ◌∷◌}
use Prim.Native.Nat.{ℕ, suc, ◌≤◌, ◌<◌}
use native.Mathlib.Nat.{suc_inj}
use native.Mathlib.Omega.{arith}
use lib.ListN.{length}
use Rattle.table.specs.Network.{rows, phase, LOST, regs_at, on_line_at, top_id, shape, SameNodes}
use Rattle.line.specs.Answers.{Recovered}
use Rattle.line.specs.Step.{step, highest}
use Rattle.table.proofs.Shaped.Shapes.{shape_ids}
use Rattle.table.proofs.Online.Nodes.{node_id, node_of_found}
use Rattle.line.proofs.Steps.Holders.{highest_held}
use Rattle.line.proofs.Steps.View.{Rams, alike_same, lost_step}
use Rattle.desk.specs.Lap.{nodes, passed}
use Rattle.desk.specs.Host.{Call, called}
use Rattle.desk.specs.Demand.{answers_of, steps, Throughout, From}
use Rattle.table.proofs.Access.Calm.{Calm, alike_nodes, same_nodes_then}
use Rattle.desk.proofs.ById.Ring as ring
use Rattle.desk.proofs.ById.Ring.{Spoke, Ring, Runs}
use Rattle.table.proofs.Online.Highest.{top_above}
use Rattle.line.proofs.Steps.StepIs.{step_done}
use Rattle.desk.proofs.Runs.Steps.{seen}
use Rattle.desk.proofs.Runs.Shows.{on, Shows}
use Rattle.desk.proofs.Runs.Back as back
use Rattle.desk.proofs.Runs.Between.{MayCome, stepping, calmly, comes}
use Rattle.desk.proofs.Runs.History.{nodes_between, Went, went_calmly, went_step, count_step, went}

module _ (start : List ℕ) (s : shape start ≡ true) (b : Rams start) (lost : phase start ≡ LOST) (two : 2 ≤ nodes start) where
  pub record Waits (now : List ℕ) : Type 0 where
    pub fits : shape now ≡ true
    pub rams : Rams now
    pub nodes_same : SameNodes start now
    pub lost_still : phase now ≡ LOST

  still_waits : (now new : List ℕ) → Waits now → Calm now new → Waits new
  still_waits now new w c = record {
    fits = c.fits;
    rams = c.rams;
    nodes_same = same_nodes_then w.nodes_same c.nodes;
    lost_still = c.phase_same ∙ w.lost_still;
  }

  abbrev pub highest_id : ℕ
  highest_id = back.h start s b lost two

  -- the highest ID on line is the same
  module _ (now : List ℕ) (w : Waits now) where
    n : rows now ≡ rows start
    n = w.nodes_same.count

    abbrev q : ℕ
    q = highest start

    q_low : q < rows start
    q_low = (back.held start s b lost two).0

    q_on : on_line_at start q ≡ true
    q_on = (back.held start s b lost two).1

    at_least : highest_id ≤ top_id now (rows now)
    at_least =
        let o : on_line_at now q ≡ true = w.nodes_same.online q q_low ∙ q_on in
        omega (arith, back.held_id start s b lost two, w.nodes_same.id q q_low q_on, top_above now (rows now) q (omega (arith, n, q_low)) o)

    some_top : top_id now (rows now) ≡ 0 → ⊥
    some_top e = back.top_not_0 start s b lost two (omega (arith, at_least))

    abbrev p : ℕ
    p = highest now

    p_held : (p < rows now) × (on_line_at now p ≡ true)
    p_held = highest_held now some_top

    p_low : p < rows start
    p_low = omega (arith, n, p_held.0)

    p_on : on_line_at start p ≡ true
    p_on = sym (w.nodes_same.online p p_low) ∙ p_held.1

    p_id : (regs_at start p).id ≡ highest_id
    p_id =
        let i : (regs_at now p).id ≡ top_id now (rows now) = node_id now p _ (node_of_found now _ (rows now) (rows now) p_held.0).0 in
        omega (arith, i, w.nodes_same.id p p_low p_on, at_least, top_above start (rows start) p p_low p_on)

    begins : Shows start s (step now 0).after (record { taken = false; holder = highest_id; nid = λ y. y })
    begins =
        let a = lost_step now w.fits w.rams w.lost_still some_top in record {
          fits = a.alike.fits;
          rams = a.alike.rams;
          nodes = same_nodes_then w.nodes_same (alike_nodes a.alike);
          phase_is = a.phase;
          row = rw a.holder p_low;
          row_on = rw a.holder p_on;
          row_id = rw a.holder p_id;
          nids = λ k l o. a.nid k (omega (arith, n)) (w.nodes_same.online k l ∙ o) ∙ w.nodes_same.id k l o;
        }

    -- the recovery passes the token to nobody
    untold : {A : Type 0} → passed (step now 0).answer ≡ true → A
    untold = let a = lost_step now w.fits w.rams w.lost_still some_top in rw a.answer (λ t. absurd (false≢true t))

    recovers : seen start (step now 0).answer ≡ Spoke
    recovers = let a = lost_step now w.fits w.rams w.lost_still some_top in rw a.answer

    -- it gives the token to the row of the highest ID
    recovered : (step now 0).answer ≡ Recovered q
    recovered =
        (lost_step now w.fits w.rams w.lost_still some_top).answer
        ∙ ap Recovered (shape_ids start s p q p_low q_low p_on q_on (p_id ∙ sym (back.held_id start s b lost two)))

  -- ---- a history from LOST on
  abbrev pub beginning : Ring
  beginning = record { taken = false; holder = highest_id; nid = λ y. y }

  -- one call more
  module _ (l : List Call) {t : Ring} {m : List ring.Telling} (r : Runs (on start s) beginning m t) where
    abbrev pub Lapped : List Call → List ℕ → Type 0
    Lapped l now = Went start s now l (Spoke ∷ m) t × From (Recovered (highest start)) (answers_of l now)

    onward : (now : List ℕ) {c : Call} → MayCome now c → steps (c ∷ l) now ≡ suc (length m) → Waits now → Throughout start l (called c now)
        → (steps l (called c now) ≡ suc (length m) → Waits (called c now) → Lapped l (called c now)) → Lapped (c ∷ l) now
    unfolding answers_of
    onward now stepping e w h rest =
        let f = w.fits in (
          went_step start s now f l Spoke (recovers now w) (untold now w) (went start s l r (step now 0).after (suc_inj (sym (count_step start s now f l) ∙ e)) (begins now w) h),
          rw (step_done now f) (recovered now w),
        )
    onward now (calmly k silent) e w h rest =
        let v = rest (ap length (sym (silent _)) ∙ e) (still_waits now _ w k) in
        (went_calmly start s now _ l silent v.0, rw silent v.1)

  pub waits_went : (l : List Call) {t : Ring} {m : List ring.Telling} → Runs (on start s) beginning m t → (now : List ℕ) → steps l now ≡ suc (length m) → Waits now
      → Throughout start l now → Went start s now l (Spoke ∷ m) t × From (Recovered (highest start)) (answers_of l now)
  unfolding answers_of Throughout
  waits_went [] r now e w h = absurd (omega arith)
  waits_went (c ∷ l) r now e w h =
      onward l r now (comes now w.fits w.rams c h.0 (nodes_between start now _ w.nodes_same h.1.0)) e w h.1.1
      (λ e' w'. waits_went l r (called c now) e' w' h.1.1)

  pub waits : Waits start
  waits = record { fits = s; rams = b; nodes_same = alike_nodes (alike_same start s b); lost_still = lost }
