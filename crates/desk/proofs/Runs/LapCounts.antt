-- What is counted of the lap: its entries, in the order of their IDs, its invitations, and what each hop costs.
-- Assumes nothing.
use mathlib.Core.Path.{◌≡◌, refl, sym, ap, ◌∙◌}
use mathlib.Core.Bool.{true}
use mathlib.Core.List.{List, [], ◌∷◌, map}
use Prim.Native.Nat.{ℕ, suc, ◌+◌, ◌<◌, ◌≤◌}
use native.Mathlib.Omega.{arith}
use lib.ListN.{length, length-map, length-append}
use Rattle.table.specs.Network.{phase, LOST, shape}
use Rattle.desk.specs.declared.laps.Taker.{Taker}
use Rattle.desk.specs.Lap.{nodes, answers, invitations, takers, lap_steps}
use Rattle.line.proofs.Steps.View.{Rams}
use Rattle.desk.proofs.ById.Ring.{calls, roster}
use Rattle.desk.proofs.ById.Roster.{takes, invites, roster_is}
use Rattle.desk.proofs.ById.FirstLap.{lap_takes, lap_counts}
use Rattle.desk.proofs.Runs.Steps.{invitations_seen, takers_seen}
use Rattle.desk.proofs.Runs.Hops.{hops, gaps, takers_hops, hops_first}
use Rattle.desk.proofs.Runs.Shows.{on}
use Rattle.desk.proofs.Runs.Back as back

module _ (net : List ℕ) (s : shape net ≡ true) (b : Rams net) (lost : phase net ≡ LOST) (two : 2 ≤ nodes net) where
  -- each node on line has an entry, lowest ID first
  lap_ids : map (λ (t : Taker). t.id) (takers net 0 (answers (lap_steps net) net)) ≡ roster (on net s)
  lap_ids = takers_seen net _ 0 ∙ ap takes (back.whole net s b lost two) ∙ lap_takes (on net s) (back.h net s b lost two) (back.small net s b lost two) (back.live net s b lost two) (back.top net s b lost two) (back.many net s b lost two) (λ y. y) (λ y o. refl)

  pub lap_total : invitations (answers (lap_steps net) net) ≡ 256 + nodes net
  lap_total =
      invitations_seen net _ ∙ ap invites (back.whole net s b lost two) ∙ (lap_counts (on net s) (back.h net s b lost two) (back.small net s b lost two) (back.live net s b lost two) (back.top net s b lost two) (back.many net s b lost two) (λ y. y) (λ y o. refl)).0 ∙ rw (back.roster_nodes net s b lost two)

  pub lap_entries : length (takers net 0 (answers (lap_steps net) net)) ≡ nodes net
  lap_entries = sym (length-map (takers net 0 (answers (lap_steps net) net)) (λ (t : Taker). t.id)) ∙ ap length lap_ids ∙ back.roster_nodes net s b lost two

  -- each hop costs one more than the way from the ID before
  pub lap_hops : map (λ (t : Taker). (t.id, t.invitations)) (takers net 0 (answers (lap_steps net) net)) ≡ gaps (back.h net s b lost two) (roster (on net s))
  lap_hops =
      let m : 0 < length (calls (on net s) (suc (back.h net s b lost two)) 255) = omega (arith, (back.many net s b lost two), ap length (roster_is (on net s) (back.h net s b lost two) (back.small net s b lost two) (back.live net s b lost two) (back.top net s b lost two)), length-append (calls (on net s) (suc (back.h net s b lost two)) 255) ((back.h net s b lost two) ∷ [])) in
      takers_hops net _ 0 ∙ ap (hops 0) (back.whole net s b lost two)
      ∙ hops_first (on net s) 255 (suc (back.h net s b lost two)) (back.h net s b lost two) 1 (back.h net s b lost two) (back.small net s b lost two) (omega arith) (omega arith) (omega arith) (omega (arith, (back.small net s b lost two))) m
      ∙ ap (gaps (back.h net s b lost two)) (sym (roster_is (on net s) (back.h net s b lost two) (back.small net s b lost two) (back.live net s b lost two) (back.top net s b lost two)))
