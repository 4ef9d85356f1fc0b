-- What a lap call leaves, refused or run, and that it leaves one outcome.
-- Assumes nothing.
use mathlib.Core.Path.{◌≡◌, sym, ap, ◌∙◌}
use mathlib.Core.List.{List, [], ◌++◌}
use Prim.Native.Nat.{ℕ, ◌≤◌}
use native.Mathlib.Omega.{arith}
use lib.ListN.{length, take, drop, take-append-drop}
use lib.Seq.{length-take-le}
use borrow.Author.Tests.{eq-eqb, ne_eqb, eqb-false}
use Rattle.std.proofs.Common.{Result, Err}
use Rattle.std.specs.Result.{IsErrAnd}
use Rattle.told.specs.declared.refusals.Refusal.{Refusal}
use Rattle.told.specs.Numbers.{DONE}
use Rattle.told.specs.Refusals.{number_of}
use Rattle.told.proofs.Told.Results.{not_done, handed_on}
use Rattle.table.specs.Network.{row_limit}
use Rattle.desk.specs.declared.laps.Taker.{Taker}
use Rattle.desk.specs.Lap.{Lapped}
use Rattle.desk.specs.Lap.{after, answers, invitations, takers, lap_steps, lap_number, lapping, lapped, net_after_lap, lap_takers, list_after_lap, nobody, Walks}

-- ---- what a refused call leaves, and what one that is run leaves
module _ (net : List ℕ) (room : ℕ) where
  pub walk_refused : (lap_number net room ≡ 0 → ⊥) → ((lapped net room).total ≡ 0) × ((net_after_lap net room ≡ net) × (lap_takers net room ≡ []))
  unfolding lapped net_after_lap lap_takers
  walk_refused n = let f = ne_eqb (lap_number net room) 0 n in (rw f, (rw f, rw f))

  module _ (z : lap_number net room ≡ 0) where
    pub done_total : (lapped net room).total ≡ invitations (answers (lap_steps net) net)
    unfolding lapped
    done_total = rw (eq-eqb (lap_number net room) 0 z)

    pub done_leaves : net_after_lap net room ≡ after (lap_steps net) net
    unfolding net_after_lap
    done_leaves = rw (eq-eqb (lap_number net room) 0 z)

    pub done_entries : lap_takers net room ≡ takers net 0 (answers (lap_steps net) net)
    unfolding lap_takers
    done_entries = rw (eq-eqb (lap_number net room) 0 z)

pub lap_refused : (net : List ℕ) (list : List Taker) → (lap_number net (length list) ≡ 0 → ⊥) → list_after_lap net list ≡ list
unfolding list_after_lap
lap_refused net list n = rw (walk_refused net (length list) n).1.1

-- as the call hands it on
pub leaves_refused : (net : List ℕ) (list : List Taker) (new : List ℕ) (r : Result ℕ Refusal) (e : Refusal) → IsErrAnd r (λ y. y ≡ e)
    → lapping (Err e) ≡ lapped net (length list) → new ≡ net_after_lap net (length list)
    → (lapping r ≡ lapped net (length list)) × (new ≡ net_after_lap net (length list)) × (list ≡ list_after_lap net list)
unfolding lapped
leaves_refused net list new r e h p q =
    let u : lap_number net (length list) ≡ 0 → ⊥ = λ z. eqb-false (number_of e) DONE (not_done e) (ap (λ (l : Lapped). l.number) p ∙ z) in
    (ap lapping (handed_on r e h) ∙ p, q, sym (lap_refused net list u))

pub stored : (net : List ℕ) (list ts ws : List Taker) (n : ℕ) → length list ≡ row_limit → n ≤ row_limit → take n list ≡ lap_takers net (length ts)
    → ws ≡ take n list → ws ++ drop n ts ≡ list_after_lap net ts
unfolding list_after_lap
stored net list ts ws n l few e w =
    ap (λ (k : List Taker). k ++ drop n ts) (w ∙ e)
    ∙ ap (λ (k : ℕ). lap_takers net (length ts) ++ drop k ts) (sym (length-take-le n list (omega arith)) ∙ ap length e)

-- ---- `Walks` leaves one outcome: the takers fill the front of the list, and nobody has the rest
pub only_walk : (net : List ℕ) (room n n' : ℕ) (list list' : List Taker) (done done' : Lapped) (new new' : List ℕ) → length list ≡ row_limit → length list' ≡ row_limit
    → Walks net room n list done new → Walks net room n' list' done' new' → (n ≡ n') × ((list ≡ list') × ((done ≡ done') × (new ≡ new')))
only_walk net room n n' list list' done done' new new' l l' a b =
    let size : (k : ℕ) (x : List Taker) → length x ≡ row_limit → k ≤ row_limit → take k x ≡ lap_takers net room → k ≡ length (lap_takers net room)
    = λ k x e h t. sym (length-take-le k x (omega (arith, e))) ∙ ap length t in
    let whole : (k : ℕ) (x : List Taker) → take k x ≡ lap_takers net room → drop k x ≡ drop k nobody → x ≡ lap_takers net room ++ drop k nobody
    = λ k x t d. sym (take-append-drop k x) ∙ rw (t, d) in
    let e : n ≡ n' = size n list l a.0 a.2 ∙ sym (size n' list' l' b.0 b.2) in (
      e,
      (
        whole n list a.2 a.3 ∙ rw e (sym (whole n' list' b.2 b.3)),
        (a.4 ∙ sym b.4, a.5 ∙ sym b.5),
      ),
    )
