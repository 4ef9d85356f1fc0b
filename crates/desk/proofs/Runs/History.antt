-- A history of calls: what is between the steps leaves the token where it is, and so the steps follow the ring.
-- Assumes nothing.
use mathlib.Core.Path.{◌≡◌, refl, sym, ap, ◌∙◌}
use mathlib.Core.Bool.{true}
use mathlib.Core.List.{List, [], ◌∷◌, map}
use Prim.Native.Nat.{ℕ, suc, ◌<◌}
use native.Mathlib.Nat.{suc_inj}
use native.Mathlib.Omega.{arith}
use lib.ListN.{length}
use Rattle.table.specs.Network.{rows, on_line_at, shape, SameNodes}
use Rattle.line.specs.Answers.{Answer}
use Rattle.line.specs.Step.{step, answer_value}
use Rattle.line.proofs.Steps.StepIs.{step_done}
use Rattle.desk.specs.Lap.{passed}
use Rattle.desk.specs.Host.{Call, Step, replied, called, table}
use Rattle.desk.specs.Demand.{with_step, answers_of, steps, Throughout}
use Rattle.table.proofs.Access.Calm.{Calm, same_nodes_then}
use Rattle.desk.proofs.ById.Ring as ring
use Rattle.desk.proofs.ById.Ring.{Ring, Runs, stop, go}
use Rattle.desk.proofs.Runs.Steps.{seen}
use Rattle.desk.proofs.Runs.Shows.{on, Shows}
use Rattle.desk.proofs.Runs.Follow.{follow}
use Rattle.desk.proofs.Runs.InRows.{ToNodes}
use Rattle.desk.proofs.Runs.Between.{MayCome, stepping, calmly, comes}

-- the nodes of two networks are those of a third
pub nodes_between : (start net new : List ℕ) → SameNodes start net → SameNodes start new → SameNodes net new
nodes_between start net new a b =
    let low : (k : ℕ) → k < rows net → k < rows start = λ k l. omega (arith, a.count) in
    let on : (k : ℕ) (l : k < rows net) → on_line_at net k ≡ true → on_line_at start k ≡ true = λ k l o. sym (a.online k (low k l)) ∙ o in record {
      count = b.count ∙ sym a.count;
      online = λ k l. b.online k (low k l) ∙ sym (a.online k (low k l));
      id = λ k l o. b.id k (low k l) (on k l o) ∙ sym (a.id k (low k l) (on k l o));
    }

module _ (start : List ℕ) (s : shape start ≡ true) where
  -- a call that is calm leaves what is shown
  still_shows : (now new : List ℕ) (r : Ring) → Shows start s now r → Calm now new → Shows start s new r
  still_shows now new r w c =
      let n = w.nodes.count in record {
        fits = c.fits;
        rams = c.rams;
        nodes = same_nodes_then w.nodes c.nodes;
        phase_is = c.phase_same ∙ w.phase_is;
        row = rw c.holder_same w.row;
        row_on = rw c.holder_same w.row_on;
        row_id = rw c.holder_same w.row_id;
        nids = λ k l o. c.nid k (omega (arith, n)) (w.nodes.online k l ∙ o) ∙ w.nids k l o;
      }

  -- ---- a history with as many steps as the run has turns
  pub record Went (now : List ℕ) (l : List Call) (m : List ring.Telling) (r : Ring) : Type 0 where
    pub told : map (seen start) (answers_of l now) ≡ m
    pub to_nodes : ToNodes start (answers_of l now)
    pub shows : Shows start s (table l now) r

  -- a call before them that no step answers
  pub went_calmly : (now : List ℕ) (c : Call) (l : List Call) → ((a : List Answer) → with_step (replied c now) a ≡ a) → {m : List ring.Telling} {r : Ring}
      → Went (called c now) l m r → Went now (c ∷ l) m r
  unfolding table answers_of
  went_calmly now c l silent v = record { told = rw silent v.told; to_nodes = rw silent v.to_nodes; shows = v.shows }

  -- a step before them: a is what it tells
  pub went_step : (now : List ℕ) → shape now ≡ true → (l : List Call) {m : List ring.Telling} {r : Ring} (a : ring.Telling) → seen start (step now 0).answer ≡ a
      → (passed (step now 0).answer ≡ true → (answer_value (step now 0).answer < rows start) × (on_line_at start (answer_value (step now 0).answer) ≡ true))
      → Went (step now 0).after l m r → Went now (Step 0 ∷ l) (a ∷ m) r
  unfolding table answers_of
  went_step now f l a e n v = record {
    told = rw (step_done now f, e) (ap (a ∷◌) v.told);
    to_nodes = rw (step_done now f) (n, v.to_nodes);
    shows = v.shows;
  }

  pub count_step : (now : List ℕ) → shape now ≡ true → (l : List Call) → steps (Step 0 ∷ l) now ≡ suc (steps l (step now 0).after)
  unfolding answers_of
  count_step now f l = rw (step_done now f)

  -- one call more
  onward : (now : List ℕ) {c : Call} → MayCome now c → (l : List Call) (t : Ring)
      → ((r : Ring) (m : List ring.Telling) → Runs (on start s) r m t → steps l (called c now) ≡ length m → Shows start s (called c now) r → Went (called c now) l m t)
      → {r : Ring} {m : List ring.Telling} → Runs (on start s) r m t → steps (c ∷ l) now ≡ length m → Shows start s now r → Went now (c ∷ l) m t
  unfolding answers_of
  onward now stepping l t rest stop e w = absurd (omega (arith, count_step now w.fits l, e))
  onward now stepping l t rest (go {r = r} {a = a} x p) e w =
      let d = rw x at (follow start s now r.holder r.nid r.taken w) in
      went_step now w.fits l a d.told (λ p. rw (d.passed_to p) (d.shows.row, d.shows.row_on))
      (rest _ _ p (suc_inj (sym (count_step now w.fits l) ∙ e)) d.shows)
  onward now (calmly k silent) l t rest p e w = went_calmly now _ l silent (rest _ _ p (ap length (sym (silent _)) ∙ e) (still_shows now _ _ w k))

  pub went : (l : List Call) {r t : Ring} {m : List ring.Telling} → Runs (on start s) r m t → (now : List ℕ) → steps l now ≡ length m → Shows start s now r
      → Throughout start l now → Went now l m t
  unfolding table answers_of Throughout
  went [] stop now e w h = record { told = refl; to_nodes = tt; shows = w }
  went [] (go x p) now e w h = absurd (omega arith)
  went (c ∷ l) {t = t} p now e w h =
      onward now (comes now w.fits w.rams c h.0 (nodes_between start now _ w.nodes h.1.0)) l t
      (λ r m p' e' w'. went l {r = r} {m = m} p' (called c now) e' w' h.1.1) p e w
