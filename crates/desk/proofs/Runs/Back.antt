-- When the token comes back: after the recovery, the 255 + 2n-th step is the first that passes it to the first holder.
-- Assumes nothing.
use mathlib.Core.Path.{◌≡◌, refl, sym, ap, ◌∙◌}
use mathlib.Core.Logic.{⊎_elim}
use mathlib.Core.Bool.{true, false}
use mathlib.Core.List.{List, [], ◌∷◌, ◌++◌, map, map-append}
use Prim.Native.Nat.{ℕ, zero, suc, ◌+◌, ◌*◌, ◌<◌, ◌≤◌}
use native.Mathlib.Omega.{arith}
use lib.ListN.{length}
use borrow.Author.Tests.{eq-eqb}
use Rattle.std.proofs.lemmas.Bool.{cases_Bool}
use Rattle.table.specs.Network.{rows, phase, holder, LOST, TAKEN, regs_at, is_node, top_id, shape}
use Rattle.line.specs.Step.{step, highest, answer_value}
use Rattle.table.proofs.Folds.{seek_is, some_not}
use Rattle.table.proofs.Shaped.Shapes.{OnLineRow as IsHeld, shape_ids}
use Rattle.table.proofs.Online.Highest.{top_above}
use Rattle.table.proofs.Online.Nodes.{node_online, node_id, node_of_found, online_id}
use Rattle.line.proofs.Steps.Holders.{highest_held}
use Rattle.desk.specs.Lap.{nodes, after, answers, passed, first_holder, back, lap_steps}
use Rattle.line.proofs.Steps.View.{Rams, AfterLost, lost_step}
use Rattle.desk.proofs.ById.Ring.{Telling, Took, Spoke, roster}
use Rattle.desk.proofs.Runs.Count.{Ids, some_online, roster_online}
use Rattle.desk.proofs.ById.FirstLap.{other, before, Lap, lap, never_before, lap_counts}
use Rattle.desk.proofs.Runs.Steps.{after_none, after_first, after_more, answers_first, answers_more, seen}
use Rattle.desk.proofs.Runs.Told.{never_at, not_to, took_passed}
use Rattle.table.proofs.Access.Calm.{alike_nodes}
use Rattle.desk.proofs.Runs.Shows.{on, row_on, Shows}
use Rattle.desk.proofs.Runs.Follow.{Followed, follow, Run, runs}

module _ (net : List ℕ) (s : shape net ≡ true) (b : Rams net) (lost : phase net ≡ LOST) (two : 2 ≤ nodes net) where
  pub ids : Ids net (rows net)
  ids = record { byte = λ k l. (b k l).1; differ = shape_ids net s }

  pub roster_nodes : length (roster (on net s)) ≡ nodes net
  roster_nodes = roster_online net (rows net) ids

  -- ---- the highest ID, and its row
  abbrev pub h : ℕ
  h = top_id net (rows net)

  pub top_not_0 : h ≡ 0 → ⊥
  top_not_0 e =
      let r = some_online net (rows net) (omega arith) in
      online_id net r.0 r.2 (omega (arith, top_above net (rows net) r.0 r.1 r.2))

  pub held : IsHeld net (highest net)
  held = highest_held net top_not_0

  pub held_id : (regs_at net (highest net)).id ≡ h
  held_id = node_id net (highest net) h (node_of_found net h (rows net) (rows net) held.0).0

  pub small : h < 256
  small = omega (arith, held_id, (b (highest net) held.0).1)

  pub live : on net s h ≡ true
  live = rw held_id at (row_on net s (highest net) held.0 held.1)

  pub top : (y : ℕ) → h < y → y < 256 → on net s y ≡ false
  top y a _ =
      some_not (is_node net y) (rows net)
      (λ j l. ⊎_elim
      (λ t. absurd (let i = node_id net j y t in omega (arith, i, top_above net (rows net) j l (node_online net j y t))))
      (λ f. f) (cases_Bool (is_node net y j)))

  pub many : 2 ≤ length (roster (on net s))
  many = omega (arith, roster_nodes)

  -- ---- the recovery
  pub start : AfterLost net s b
  start = lost_step net s b lost top_not_0

  begin : Shows net s (step net 0).after (record { taken = false; holder = h; nid = λ y. y })
  begin = record {
    fits = start.alike.fits;
    rams = start.alike.rams;
    nodes = alike_nodes start.alike;
    phase_is = start.phase;
    row = rw start.holder held.0;
    row_on = rw start.holder held.1;
    row_id = rw start.holder held_id;
    nids = start.nid;
  }

  -- ---- the lap
  abbrev first : List ℕ
  first = (step net 0).after

  abbrev pub way : List Telling
  way = before (on net s) h small live top many (λ y. y) (λ y o. refl)

  abbrev pub ring : Lap (on net s) h small live top many (λ y. y) (λ y o. refl)
  ring = lap (on net s) h small live top many (λ y. y) (λ y o. refl)

  run : Run net s first way ring.last_but_one
  run = runs net s ring.runs first begin

  abbrev near : List ℕ
  near = after (length way) first

  end : Followed net s near (Took h, record { taken = true; holder = h; nid = ring.nid })
  end =
      let r = ring.last_but_one in
      rw ring.ends at (follow net s near r.holder r.nid r.taken run.shows)

  -- the steps of a lap: the recovery, those on the way, and the last
  pub size : suc (suc (length way)) ≡ 256 + 2 * nodes net
  size = (lap_counts (on net s) h small live top many (λ y. y) (λ y o. refl)).1 ∙ rw roster_nodes

  -- ---- when the token is back
  pub first_holder_lem : first_holder net ≡ highest net
  first_holder_lem = ap holder (after_first 0 net ∙ after_none first) ∙ start.holder

  not_yet : (k : ℕ) → k < suc (length way) → back net k ≡ false
  unfolding back
  not_yet zero l = rw (after_none, start.answer)
  not_yet (suc k) l =
      rw (after_first k net, first_holder_lem)
      (not_to net h (highest net) held_id (step (after k first) 0).answer
      (never_at net h way first (never_before (on net s) h small live top many (λ y. y) (λ y o. refl)) run.told k (omega arith)))

  again : back net (suc (length way)) ≡ true
  unfolding back
  again =
      let a = (step near 0).answer in
      let p : passed a ≡ true = took_passed net h a (ap (other h) end.told ∙ eq-eqb h h refl) in
      let w = end.shows in
      let q : answer_value a ≡ highest net
      = end.passed_to p ∙ shape_ids net s _ _ w.row held.0 w.row_on held.1 (w.row_id ∙ sym held_id) in
      rw (after_first (length way) net, p, first_holder_lem, q) (eq-eqb (highest net) (highest net) refl)

  pub not_back : (k : ℕ) → k < 255 + 2 * nodes net → back net k ≡ false
  not_back k l = not_yet k (omega (arith, size))

  pub is_back : back net (255 + 2 * nodes net) ≡ true
  is_back =
      let e : 255 + 2 * nodes net ≡ suc (length way) = omega (arith, size) in
      rw e again

  -- "It makes 256 + 2n line steps"
  pub lap_steps_lem : lap_steps net ≡ 256 + 2 * nodes net
  unfolding lap_steps
  lap_steps_lem = ap suc (seek_is (back net) (256 + 2 * nodes net) (suc (length way)) (omega (arith, size)) again not_yet) ∙ size

  stops_at : after (lap_steps net) net ≡ (step near 0).after
  stops_at = rw (lap_steps_lem, ← size, after_more (suc (length way)) net, after_first (length way) net)

  -- it stops with the first holder in TAKEN
  pub lap_phase : phase (after (lap_steps net) net) ≡ TAKEN
  lap_phase = rw (stops_at) end.shows.phase_is

  pub lap_holder : holder (after (lap_steps net) net) ≡ highest net
  lap_holder =
      let w = end.shows in
      rw (stops_at) (shape_ids net s _ _ w.row held.0 w.row_on held.1 (w.row_id ∙ sym held_id))

  -- ---- what is counted of the lap
  told : map (seen net) (answers (suc (suc (length way))) net) ≡ Spoke ∷ (way ++ (Took h ∷ []))
  told =
      rw (answers_first, answers_more, map-append (seen net), start.answer, run.told, end.told)

  pub whole : map (seen net) (answers (lap_steps net) net) ≡ Spoke ∷ (way ++ (Took h ∷ []))
  whole = rw (lap_steps_lem, ← size) told
