-- Demand 3: the lap, whatever other calls come between its steps.
-- Assumes nothing.
use mathlib.Core.Path.{◌≡◌, refl, sym, ap, ◌∙◌}
use mathlib.Core.Bool.{Bool, true, false, cond}
use mathlib.Core.List.{List, [], ◌∷◌, ◌++◌, map}
use Prim.Native.Nat.{ℕ, zero, suc, ◌+◌, ◌*◌, ◌%◌, ◌≤◌}
use native.Mathlib.Omega.{arith}
use lib.ListN.{length, length-append, length-map}
use Rattle.bits.specs.Words.{pick}
use Rattle.table.specs.Network.{rows, phase, holder, LOST, TAKEN, shape}
use Rattle.line.specs.Step.{highest}
use Rattle.table.proofs.Shaped.Shapes.{shape_ids}
use Rattle.table.proofs.Shaped.Alike.{bytes_rams}
use Rattle.line.proofs.Steps.View.{Rams}
use Rattle.desk.specs.declared.laps.Taker.{Taker}
use Rattle.desk.specs.Lap.{nodes, takers}
use Rattle.desk.specs.Host.{Call, table}
use Rattle.desk.specs.Demand.{steps, answers_of, Throughout, ids_from, ids_on_line, LapOf, FirstLapOf, Demand3}
use Rattle.desk.proofs.ById.Ring as ring
use Rattle.desk.proofs.ById.Ring.{Took, Spoke, Ring, Runs, stop, go, calls, roster}
use Rattle.desk.proofs.ById.Roster.{takes, invites}
use Rattle.desk.proofs.Runs.Count.{on_first}
use Rattle.desk.proofs.ById.FirstLap.{Closes, closes_more, lap_closes, lap_takes, lap_counts}
use Rattle.desk.proofs.ById.LaterLap.{settled, settled_ring, settled_counts, settled_takes, settled_closes, later}
use Rattle.desk.proofs.Runs.Steps.{invitations_seen, takers_seen}
use Rattle.desk.proofs.Runs.Shows.{on, Shows}
use Rattle.desk.proofs.Runs.Back as back
use Rattle.desk.proofs.Runs.InRows.{by_nodes}
use Rattle.desk.proofs.Runs.Ended.{until}
use Rattle.desk.proofs.Runs.History.{Went, went}
use Rattle.desk.proofs.Runs.Waits.{highest_id, beginning, waits_went, waits}

-- the IDs on line are the roster
ids_calls : (net : List ℕ) (k a : ℕ) → a + k ≤ 256 → ids_from net a k ≡ calls (on_first net (rows net)) a k
unfolding ids_from calls
ids_calls net zero a l = refl
ids_calls net (suc k) a l =
    let e : a % 256 ≡ a = omega arith in
    rw (e, ids_calls net k (suc a) (omega arith)) (same (on_first net (rows net) a) _ _)
  where
    same : (b : Bool) (x y : List ℕ) → pick b x y ≡ cond b x y
    same true x y = refl
    same false x y = refl

pub ids_roster : (net : List ℕ) → ids_on_line net ≡ roster (on_first net (rows net))
unfolding roster
ids_roster net = ids_calls net 256 0 (omega arith)

-- ---- runs of the ring, end to end
join : {o : ℕ → Bool} {r s t : Ring} {l m : List ring.Telling} → Runs o r l s → Runs o s m t → Runs o r (l ++ m) t
join stop q = q
join (go e p) q = go e (join p q)

times : ℕ → List ring.Telling → List ring.Telling
times zero l = []
times (suc m) l = l ++ times m l

round : {o : ℕ → Bool} {r : Ring} {l : List ring.Telling} → Runs o r l r → (m : ℕ) → Runs o r (times m l) r
unfolding times
round p zero = stop
round p (suc m) = join p (round p m)

module _ (start : List ℕ) (s : shape start ≡ true) (b : Rams start) (lost : phase start ≡ LOST) (two : 2 ≤ nodes start) where
  -- ---- laps of the ring
  abbrev ids : List ℕ
  ids = roster (on start s)

  abbrev home : Ring
  home =
      settled_ring (on start s) (highest_id start s b lost two) (back.small start s b lost two) (back.live start s b lost two) (back.top start s b lost two) (back.many start s b lost two) (λ y. y)
      (λ y o. refl)

  abbrev first_way : List ring.Telling
  first_way = back.way start s b lost two ++ (Took (highest_id start s b lost two) ∷ [])

  first : Runs (on start s) (beginning start s b lost two) first_way home
  first = let r = back.ring start s b lost two in join r.runs (go r.ends stop)

  next : Runs (on start s) home (settled ids) home
  next =
      later (on start s) (highest_id start s b lost two) (back.small start s b lost two) (back.live start s b lost two) (back.top start s b lost two) (back.many start s b lost two) (λ y. y)
      (λ y o. refl)

  long : (m : ℕ) → length (times m (settled ids)) ≡ m * (2 * nodes start)
  unfolding times
  long zero = omega arith
  long (suc m) = rw (length-append) (omega (arith, long m, (settled_counts ids).1, back.roster_nodes start s b lost two))

  -- the holder of a network that shows the ring at home
  home_phase : (now : List ℕ) → Shows start s now home → (phase now ≡ TAKEN) × (holder now ≡ highest start)
  home_phase now w =
      let h = back.held start s b lost two in
      (w.phase_is, shape_ids start s _ _ w.row h.0 w.row_on h.1 (w.row_id ∙ sym (back.held_id start s b lost two)))

  -- what a run of the ring makes a lap
  lap_of : (now : List ℕ) (l : List Call) (m : List ring.Telling) → Went start s now l m home → takes m ≡ ids → Closes (highest_id start s b lost two) m
      → (i : ℕ) → invites m ≡ i → LapOf start (answers_of l now) i (table l now)
  lap_of now l m w t c i e =
      let a = answers_of l now in
      let h = home_phase (table l now) w.shows in
      let q = back.held start s b lost two in
      let taken : map (λ (t : Taker). t.id) (takers start 0 a) ≡ ids = takers_seen start a 0 ∙ ap takes w.told ∙ t in
      record {
        invited = invitations_seen start a ∙ ap invites w.told ∙ e;
        taken = taken ∙ sym (ids_roster start);
        count = sym (length-map (takers start 0 a) (λ (t : Taker). t.id)) ∙ ap length taken ∙ back.roster_nodes start s b lost two;
        in_rows = by_nodes start a 0 w.to_nodes;
        until = until start s _ (highest start) q.0 q.1 (back.held_id start s b lost two) a w.to_nodes (rw w.told c);
        back = h.0;
        with = h.1;
      }

  -- after the first lap and m more
  settles : (m : ℕ) (l : List Call) → steps l start ≡ 256 + 2 * nodes start + m * (2 * nodes start) → Throughout start l start
      → Went start s start l (Spoke ∷ (first_way ++ times m (settled ids))) home
  settles m l e h =
      (waits_went start s b lost two l (join first (round next m)) start
      (e ∙ rw (length-append, length-append) (omega (arith, long m, back.size start s b lost two))) (waits start s b lost two) h).0

  first_lap : (l : List Call) → steps l start ≡ 256 + 2 * nodes start → Throughout start l start → FirstLapOf start (answers_of l start) (256 + nodes start) (table l start)
  first_lap l e h =
      let sm = back.small start s b lost two in
      let li = back.live start s b lost two in
      let to = back.top start s b lost two in
      let ma = back.many start s b lost two in
      let v = waits_went start s b lost two l first start (e ∙ rw length-append (omega (arith, back.size start s b lost two))) (waits start s b lost two) h in
      record {
        from = v.1;
        lap = lap_of start l (Spoke ∷ first_way) v.0 (lap_takes (on start s) (highest_id start s b lost two) sm li to ma (λ y. y) (λ y o. refl))
            (closes_more _ Spoke _ refl (lap_closes (on start s) (highest_id start s b lost two) sm li to ma (λ y. y) (λ y o. refl))) (256 + nodes start)
            ((lap_counts (on start s) (highest_id start s b lost two) sm li to ma (λ y. y) (λ y o. refl)).0 ∙ rw (back.roster_nodes start s b lost two));
      }

  later_lap : (l : List Call) → Throughout start l start → (m : ℕ) → steps l start ≡ 256 + 2 * nodes start + m * (2 * nodes start)
      → (l' : List Call) → Throughout start l' (table l start) → steps l' (table l start) ≡ 2 * nodes start → LapOf start (answers_of l' (table l start)) (nodes start) (table l' (table l start))
  later_lap l h m e l' h' e' =
      let c = settled_counts ids in
      let n = back.roster_nodes start s b lost two in
      let v = went start s l' next (table l start) (e' ∙ omega (arith, c.1, n)) (settles m l e h).shows h' in
      let k =
      settled_closes (on start s) (highest_id start s b lost two) (back.small start s b lost two) (back.live start s b lost two) (back.top start s b lost two) (back.many start s b lost two) (λ y. y)
      (λ y o. refl) in
      lap_of (table l start) l' (settled ids) v (settled_takes ids) k (nodes start) (c.0 ∙ n)

pub demand3 : Demand3
demand3 net r l h =
    let b = bytes_rams net r.fits r.bytes in
    (λ e. first_lap net r.fits b r.lost r.two l e h, λ m e l' h' e'. later_lap net r.fits b r.lost r.two l h m e l' h' e')
