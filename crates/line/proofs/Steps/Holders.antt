-- The rows that come to hold: the on-line row of the highest ID, and the row that takes the invitation.
-- Assumes nothing.
use mathlib.Core.Path.{◌≡◌, refl}
use mathlib.Core.Bool.{true, false}
use mathlib.Core.List.{List}
use mathlib.Core.Logic.{⊎_elim}
use Prim.Native.Nat.{ℕ, ◌<◌}
use native.Mathlib.Omega.{arith}
use lib.Dec.{ltb}
use borrow.Author.Tests.{ltb-true, ltb-false}
use Rattle.std.proofs.lemmas.Bool.{cases_Bool}
use Rattle.std.proofs.Common.{Option, Some}
use Rattle.std.specs.Option.{IsSome}
use Rattle.table.specs.Folds.{below, not_zero}
use Rattle.table.specs.Network.{rows, holder, top_id, node_of}
use Rattle.line.specs.Step.{highest, invited, taker}
use Rattle.table.proofs.Online.Nodes.{node_online, node_of_found, node_of_most, node_of_fails, top_id_nobody}
use Rattle.table.proofs.Shaped.Shapes.{OnLineRow}

-- the highest ID is an on-line row's
pub highest_held : (net : List ℕ) → (top_id net (rows net) ≡ 0 → ⊥) → OnLineRow net (highest net)
highest_held net ne =
    let n = rows net in
    let top = top_id net n in
    ⊎_elim
    (λ (t : ltb (highest net) n ≡ true). let b = ltb-true (highest net) n t in
    (b, node_online net (highest net) top (node_of_found net top n n b).0))
    (λ (t : ltb (highest net) n ≡ false). absurd (ne (top_id_nobody net n top refl
    (λ j l. node_of_fails net top n n (omega (arith, ltb-false (highest net) n t, node_of_most net top n n)) j l (λ e. omega arith)))))
    (cases_Bool (ltb (highest net) n))

-- so that a search for it finds a row
pub highest_found : (net : List ℕ) (n : ℕ) → n ≡ rows net → (top : ℕ) → Some top ≡ not_zero (top_id net n) → (r : Option ℕ) → r ≡ below n (node_of net top n n) → IsSome r
highest_found net n en top p r e =
    let z : (top_id net (rows net) ≡ 0) → ⊥ = λ z. grind arith in
    let h = (highest_held net z).0 in
    grind arith

-- the row that takes the invitation is on line
pub taker_held : (net : List ℕ) → taker net < rows net → OnLineRow net (taker net)
taker_held net l = (l, node_online net (taker net) (invited net) (node_of_found net (invited net) (holder net) (rows net) l).0)
