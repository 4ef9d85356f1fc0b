-- The lap call, refused or run, put together from its parts.
-- Assumes nothing.
use mathlib.Core.Path.{◌≡◌, refl, ap, ◌∙◌}
use mathlib.Core.List.{List}
use Prim.Native.Nat.{ℕ, ◌+◌, ◌≤◌}
use native.Mathlib.Omega.{arith}
use lib.ListN.{take, drop}
use borrow.Author.Tests.{eq-eqb, ne_eqb, eqb-false}
use Rattle.std.proofs.Common.{true, Result, Ok, Err}
use Rattle.std.specs.Result.{IsErrAnd}
use Rattle.told.specs.declared.refusals.Refusal.{Refusal}
use Rattle.told.specs.Numbers.{DONE}
use Rattle.told.specs.Refusals.{number_of, number}
use Rattle.told.proofs.Told.Results.{not_done, is_done}
use Rattle.table.specs.Network.{Bytes, rows, phase, LOST, shape}
use Rattle.table.proofs.Shaped.Shapes.{shape_rows}
use Rattle.table.proofs.Shaped.Alike.{bytes_rams}
use Rattle.desk.specs.declared.laps.Walked.{Walked}
use Rattle.desk.specs.Lap.{lapping, walked_count, walked_list, walked_total, nodes, after, answers, invitations, takers, lap_steps, lap_number, lapped, net_after_lap, lap_takers, nobody, Walks}
use Rattle.desk.proofs.Runs.Count.{online_most}
use Rattle.desk.proofs.Runs.LapCounts.{lap_total}
use Rattle.desk.proofs.Lapping.LapNumber.{lap_shape, lap_lost, lap_two, lap_room}

module _ (net : List ℕ) (room : ℕ) where
  pub refused : (r : Result Walked Refusal) (e : Refusal) → IsErrAnd r (λ y. y ≡ e) → number_of e ≡ lap_number net room
      → Walks net room (walked_count r) (walked_list r) (lapping (walked_total r)) net
  unfolding lap_takers lapped net_after_lap
  refused (Ok w) e h p = absurd h
  refused (Err y) e h p =
      let q : number_of y ≡ lap_number net room = ap number_of h ∙ p in
      let f = ne_eqb (lap_number net room) 0 (λ z. eqb-false (number_of e) DONE (not_done e) (p ∙ z)) in
      (omega arith, omega arith, rw f, refl, rw (f, q), rw f)

  -- behind its refusals
  module _ {A : Type 0} (r : Result A Refusal) (v : A) (d : r ≡ Ok v) (h : number r ≡ lap_number net room) where
    zero : lap_number net room ≡ 0
    zero = is_done r v (lap_number net room) d h

    pub shape_behind : shape net ≡ true
    shape_behind = lap_shape net room zero

    pub lost_behind : phase net ≡ LOST
    lost_behind = lap_lost net room zero

    pub two_behind : 2 ≤ nodes net
    two_behind = lap_two net room zero

    pub run : (w : Walked) (new : List ℕ) → w.total ≡ invitations (answers (lap_steps net) net) → w.n ≡ nodes net
        → take w.n w.list ≡ takers net 0 (answers (lap_steps net) net) → drop w.n w.list ≡ drop w.n nobody → new ≡ after (lap_steps net) net
        → Walks net room w.n w.list (record { number = 0; total = w.total }) new
    unfolding lap_takers lapped net_after_lap
    run w new t n l o e =
        let f = eq-eqb (lap_number net room) 0 zero in
        (omega (arith, n, online_most net (rows net), (shape_rows net shape_behind).1), omega (arith, n, lap_room net room zero), rw f l, o, rw (f, zero, t), rw f e)

    -- "256 + n", of a lent network
    pub total : Bytes net → (t : ℕ) → t ≡ invitations (answers (lap_steps net) net) → t ≡ 256 + nodes net
    total bytes t e = e ∙ lap_total net shape_behind (bytes_rams net shape_behind bytes) lost_behind two_behind
