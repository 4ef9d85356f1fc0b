-- A network shows a ring of IDs: who is on line, who holds, and each NID; whom the holder's invitation reaches.
-- Assumes nothing.
use mathlib.Core.Path.{◌≡◌, refl, sym, ap, ◌∙◌}
use mathlib.Core.Logic.{◌≢◌, ⊎_elim}
use mathlib.Core.Bool.{Bool, true, false}
use mathlib.Core.List.{List}
use Prim.Native.Nat.{ℕ, ◌<◌, ◌≤◌}
use native.Mathlib.Omega.{arith}
use lib.Dec.{eqb}
use borrow.Author.Tests.{ne_eqb, eqb-false}
use Rattle.std.proofs.lemmas.Bool.{cases_Bool}
use Rattle.std.proofs.Math.Bool.{and-false}
use Rattle.table.specs.Network.{rows, phase, holder, PASS, TAKEN, regs_at, on_line_at, is_node, shape}
use Rattle.line.specs.Step.{invited, taker}
use Rattle.table.proofs.Folds.{clash, some_at, some_not}
use Rattle.table.proofs.Shaped.Shapes.{shape_ids}
use Rattle.table.proofs.Online.Nodes.{node_of_lem, node_online, node_id, node_of_most, node_of_found, node_of_fails}
use Rattle.line.proofs.Steps.View.{Rams}
use Rattle.table.specs.Network.{SameNodes}
use Rattle.desk.proofs.ById.Ring.{Ring, heeds}
use Rattle.desk.proofs.Runs.Count.{on_first}

abbrev pub phase_of : Bool → ℕ
phase_of true = TAKEN
phase_of false = PASS

-- the network that a lap begins with: its IDs and who is on line stay
module _ (net : List ℕ) (s : shape net ≡ true) where
  abbrev pub on : ℕ → Bool
  on x = on_first net (rows net) x

  pub row_on : (k : ℕ) → k < rows net → on_line_at net k ≡ true → on (regs_at net k).id ≡ true
  row_on k l o = some_at (is_node net (regs_at net k).id) (rows net) k (node_of_lem net k _ o refl) l

  -- a later network shows the ring
  pub record Shows (now : List ℕ) (r : Ring) : Type 0 where
    pub fits : shape now ≡ true
    pub rams : Rams now
    pub nodes : SameNodes net now
    pub phase_is : phase now ≡ phase_of r.taken
    pub row : holder now < rows net
    pub row_on : on_line_at net (holder now) ≡ true
    pub row_id : (regs_at net (holder now)).id ≡ r.holder
    pub nids : (k : ℕ) → k < rows net → on_line_at net k ≡ true → (regs_at now k).nid ≡ r.nid (regs_at net k).id

  module _ (now : List ℕ) (g : ℕ) (f : ℕ → ℕ) (t : Bool) (w : Shows now (record { taken = t; holder = g; nid = f })) where
    -- the holder invites the ring's next
    pub invites : invited now ≡ f g
    invites = w.nids (holder now) w.row w.row_on ∙ ap f w.row_id

    count : rows now ≡ rows net
    count = w.nodes.count

    -- a node of the network now was one before, with the same ID, and back
    was_on : (k : ℕ) → k < rows net → on_line_at now k ≡ true → on_line_at net k ≡ true
    was_on k l o = sym (w.nodes.online k l) ∙ o

    is_node_lem : (k : ℕ) → k < rows net → on_line_at net k ≡ true → is_node now (regs_at net k).id k ≡ true
    is_node_lem k l o = node_of_lem now k _ (w.nodes.online k l ∙ o) (w.nodes.id k l o)

    module _ (q : taker now < rows now) where
      found : (is_node now (invited now) (taker now) ≡ true) × (taker now ≡ holder now → ⊥)
      found = node_of_found now (invited now) (holder now) (rows now) q

      pub took_row : taker now < rows net
      took_row = omega (arith, count)

      pub took_on : on_line_at net (taker now) ≡ true
      took_on = was_on (taker now) took_row (node_online now (taker now) (invited now) found.0)

      pub took_id : (regs_at net (taker now)).id ≡ f g
      took_id = sym (w.nodes.id (taker now) took_row took_on) ∙ node_id now (taker now) (invited now) found.0 ∙ invites

      pub took_heeds : heeds on g (f g) ≡ true
      took_heeds =
          let a : on (f g) ≡ true = rw took_id at (row_on (taker now) took_row took_on) in
          let b : f g ≢ g = λ e. found.1 (shape_ids net s (taker now) (holder now) took_row w.row took_on w.row_on (took_id ∙ e ∙ sym w.row_id)) in
          rw (a, ne_eqb (f g) g b)

    module _ (q : rows now ≤ taker now) where
      pub missed : heeds on g (f g) ≡ false
      missed =
          ⊎_elim (λ e. rw e (and-false (on (f g))))
          (λ (e : eqb (f g) g ≡ false). rw (some_not (is_node net (f g)) (rows net) (λ j l. nobody j l (eqb-false (f g) g e))))
          (cases_Bool (eqb (f g) g))
        where
          nobody : (j : ℕ) → j < rows net → f g ≢ g → is_node net (f g) j ≡ false
          nobody j l n =
              ⊎_elim
              (λ t. let i = node_id net j (f g) t in
              let o : is_node now (invited now) j ≡ true = rw (invites, ← i) (is_node_lem j l (node_online net j (f g) t)) in
              absurd (clash o (node_of_fails now (invited now) (holder now) (rows now) (omega (arith, q, node_of_most now (invited now) (holder now) (rows now))) j
              (omega (arith, count)) (λ z. n (sym i ∙ ap (λ (k : ℕ). (regs_at net k).id) z ∙ w.row_id)))))
              (λ t. t) (cases_Bool (is_node net (f g) j))
