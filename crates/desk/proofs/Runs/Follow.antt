-- A fault-free step of the network is a turn of the ring, with rows for IDs; and so for a run of steps.
-- Assumes nothing.
use mathlib.Core.Path.{◌≡◌, refl, sym, ap, ◌∙◌}
use mathlib.Core.Logic.{◌≢◌, ⊎_elim}
use mathlib.Core.Bool.{Bool, true, false, false≢true}
use mathlib.Core.List.{List, ◌∷◌, map}
use Prim.Native.Nat.{ℕ, ◌<◌}
use native.Mathlib.Omega.{arith}
use lib.Dec.{eqb, ltb}
use lib.ListN.{length}
use borrow.Author.Tests.{eqb-true, eqb-false, ltb-true, ltb-false}
use Rattle.std.proofs.lemmas.Bool.{cases_Bool}
use Rattle.table.specs.Network.{rows, phase, holder, regs_at, on_line_at, shape}
use Rattle.line.specs.Step.{step, invited, taker, answer_value}
use Rattle.table.proofs.Shaped.Shapes.{shape_ids}
use Rattle.desk.specs.Lap.{after, answers, passed}
use Rattle.line.proofs.Steps.View.{Alike, taker_step, AfterNone, none_step, held_step}
use Rattle.desk.proofs.ById.Ring.{Telling, Took, Missed, Spoke, Ring, next, upd, turn, Runs, stop, go}
use Rattle.desk.proofs.ById.Scan.{upd_same, upd_other}
use Rattle.desk.proofs.Runs.Steps.{after_none, after_first, answers_none, answers_first, seen}
use Rattle.table.proofs.Access.Calm.{alike_nodes, same_nodes_then}
use Rattle.desk.proofs.Runs.Shows.{on, phase_of, Shows, invites, took_row, took_on, took_id, took_heeds, missed}

module _ (net : List ℕ) (s : shape net ≡ true) where
  -- ---- one step: what it tells, and what the network after it shows
  pub record Followed (now : List ℕ) (c : Telling × Ring) : Type 0 where
    pub told : seen net (step now 0).answer ≡ c.0
    pub shows : Shows net s (step now 0).after c.1
    pub passed_to : passed (step now 0).answer ≡ true → answer_value (step now 0).answer ≡ holder (step now 0).after

  module _ (now : List ℕ) (g : ℕ) (f : ℕ → ℕ) where
    abbrev Holds : Bool → Type 0
    Holds t = Shows net s now (record { taken = t; holder = g; nid = f })

    -- the row h holds in the network that a step leaves, and the NIDs are the ring's
    shown : {t u : Bool} → Holds t → {new : List ℕ} → Alike now new → phase new ≡ phase_of u → (h : ℕ) → holder new ≡ h → h < rows net → on_line_at net h ≡ true
        → {i : ℕ} → (regs_at net h).id ≡ i → {n : ℕ → ℕ}
        → ((k : ℕ) → k < rows net → on_line_at net k ≡ true → (regs_at new k).nid ≡ n (regs_at net k).id) → Shows net s new (record { taken = u; holder = i; nid = n })
    shown w a p h e l o d n = record {
      fits = a.fits;
      rams = a.rams;
      nodes = same_nodes_then w.nodes (alike_nodes a);
      phase_is = p;
      row = rw e l;
      row_on = rw e o;
      row_id = rw e d;
      nids = n;
    }

    held : Holds true → Followed now (Spoke, record { taken = false; holder = g; nid = f })
    held w =
        let a = held_step now w.fits w.rams w.phase_is in record {
          told = rw a.answer;
          passed_to = rw a.answer (λ t. absurd (false≢true t));
          shows = shown w a.alike a.phase (holder now) a.holder w.row w.row_on w.row_id
              (λ k l o. a.nid k (omega (arith, w.nodes.count)) ∙ w.nids k l o);
        }

    -- nobody took the token: the holder's NID rises, and no other
    risen : (w : Holds false) → AfterNone now w.fits w.rams → invited now ≡ f g
        → (k : ℕ) → k < rows net → on_line_at net k ≡ true → (regs_at (step now 0).after k).nid ≡ upd f g (next (f g)) (regs_at net k).id
    risen w a i k l o =
        ⊎_elim
        (λ t. let e : k ≡ holder now = eqb-true k (holder now) t in
        rw e (a.here ∙ ap next i ∙ sym (ap (upd f g (next (f g))) w.row_id ∙ upd_same f g (next (f g)))))
        (λ t. let n : k ≢ holder now = eqb-false k (holder now) t in
        a.there k (omega (arith, w.nodes.count)) n ∙ w.nids k l o
        ∙ sym (upd_other f g (next (f g)) _ (λ e. n (shape_ids net s k (holder now) l w.row o w.row_on (e ∙ sym w.row_id)))))
        (cases_Bool (eqb k (holder now)))

    passes : Holds false → Followed now (turn (on net s) (record { taken = false; holder = g; nid = f }))
    passes w = by (ltb (taker now) (rows now)) refl
      where
        by : (b : Bool) → ltb (taker now) (rows now) ≡ b → Followed now (turn (on net s) (record { taken = false; holder = g; nid = f }))
        by true t =
            let q = ltb-true (taker now) (rows now) t in
            let a = taker_step now w.fits w.rams w.phase_is q in
            rw (took_heeds net s now g f false w q) (record {
              told = rw a.answer (ap Took (took_id net s now g f false w q));
              passed_to = rw a.answer (λ t. sym a.holder);
              shows = shown w a.alike a.phase (taker now) a.holder (took_row net s now g f false w q) (took_on net s now g f false w q)
                  (took_id net s now g f false w q) (λ k l o. a.nid k (omega (arith, w.nodes.count)) ∙ w.nids k l o);
            })
        by false t =
            let q = ltb-false (taker now) (rows now) t in
            let a = none_step now w.fits w.rams w.phase_is q in
            let i = invites net s now g f false w in
            rw (missed net s now g f false w q) (record {
              told = rw a.answer (ap Missed i);
              passed_to = rw a.answer (λ t. absurd (false≢true t));
              shows = shown w a.alike a.phase (holder now) a.holder w.row w.row_on w.row_id (risen w a i);
            })

  pub follow : (now : List ℕ) (g : ℕ) (f : ℕ → ℕ) (t : Bool) → Shows net s now (record { taken = t; holder = g; nid = f })
      → Followed now (turn (on net s) (record { taken = t; holder = g; nid = f }))
  follow now g f true w = held now g f w
  follow now g f false w = passes now g f w

  -- ---- a run
  pub record Run (now : List ℕ) (l : List Telling) (r : Ring) : Type 0 where
    pub told : map (seen net) (answers (length l) now) ≡ l
    pub shows : Shows net s (after (length l) now) r

  pub runs : {r t : Ring} {l : List Telling} → Runs (on net s) r l t → (now : List ℕ) → Shows net s now r → Run now l t
  runs stop now w = record { told = rw answers_none; shows = rw after_none w }
  runs (go {r = r} {a = a} {l = l} e p) now w =
      let d = rw e at (follow now r.holder r.nid r.taken w) in
      let m = runs p (step now 0).after d.shows in record {
        told = rw answers_first (rw d.told (ap (a ∷◌) m.told));
        shows = rw after_first m.shows;
      }
