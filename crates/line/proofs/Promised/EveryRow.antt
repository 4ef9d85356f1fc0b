-- Which bytes a step may move, of every row; and that it is in TAKEN that a step answers Held.
-- Assumes nothing.
use mathlib.Core.Path.{◌≡◌, refl, sym, ◌∙◌, ap}
use mathlib.Core.Bool.{Bool, true, false, not, ◌&&◌, false≢true}
use mathlib.Core.List.{List}
use mathlib.Core.Logic.{⊎_elim}
use Prim.Native.Nat.{ℕ, ◌<◌}
use native.Mathlib.Omega.{arith}
use lib.Dec.{eqb, ltb}
use borrow.Author.Tests.{eqb-true, eqb-false, eq-eqb, ne_eqb}
use Rattle.line.specs.declared.traffic.Outcome.{Outcome}
use Rattle.line.specs.Answers.{Answer}
use Rattle.line.specs.Answers.{Refused, Quiet, Recovered, Passed, Unanswered, TokenLost, Held}
use Rattle.registers.specs.Events.{cancelled, transmitting}
use Rattle.card.specs.Packets.{malformed}
use Rattle.card.specs.Moves.{OnlyAt}
use Rattle.std.proofs.lemmas.Bool.{cases_Bool}
use Rattle.std.proofs.Math.Bool.{and-false}
use Rattle.bits.proofs.Words.Bools.{pick_of}
use Rattle.table.specs.Rows.{row_at}
use Rattle.table.specs.Network.{rows, phase, holder, LOST, PASS, TAKEN, regs_at, top_id, shape}
use Rattle.table.proofs.Online.Nodes.{node_of_found}
use Rattle.table.proofs.Shaped.Shapes.{shape_phase}
use Rattle.table.proofs.Shaped.Alike.{Rams}
use Rattle.line.specs.Traffic.{Turn, damaged, takes}
use Rattle.line.specs.Step.{destroyed, taker, lost_turn, pass_turn, step_turn, step_number, step}
use Rattle.line.specs.Outcomes.{sent_shape, sent_to, addressee, stores, row_moves}
use Rattle.line.proofs.Steps.Stepped.{held_row}
use Rattle.line.proofs.Promised.Bystanding.{moves_aside}
use Rattle.line.proofs.Promised.TheHolder.{moves_holder}

module _ (net : List ℕ) (s : shape net ≡ true) (b : Rams net) (fault j : ℕ) (l : j < rows net) where
  abbrev Moves : Type 0
  Moves = OnlyAt (row_moves net (stores net fault j) j) (row_at net j) (row_at (step net fault).after j)

  pub step_moves : Moves
  step_moves =
      ⊎_elim (λ (p : eqb (phase net) TAKEN ≡ true). ⊎_elim (λ (e : eqb j (holder net) ≡ true). holding (eqb-true (phase net) TAKEN p) (eqb-true j (holder net) e))
      (λ (e : eqb j (holder net) ≡ false). aside (λ _. eqb-false j (holder net) e)) (cases_Bool (eqb j (holder net))))
      (λ (p : eqb (phase net) TAKEN ≡ false). aside (λ t. absurd (eqb-false (phase net) TAKEN p t))) (cases_Bool (eqb (phase net) TAKEN))
    where
      holding : phase net ≡ TAKEN → j ≡ holder net → Moves
      holding p e = rw e (moves_holder net p s b fault)

      aside : (phase net ≡ TAKEN → j ≡ holder net → ⊥) → Moves
      aside n = moves_aside net s b fault j l n

-- ---- the holder stores no packet of its own
module _ (net : List ℕ) (s : shape net ≡ true) where
  not_self : addressee net ≡ holder net → ⊥
  not_self =
      pick_of (λ (x : ℕ). x ≡ holder net → ⊥) (eqb (sent_to net) 0) (λ _ e. omega (arith, e, held_row net s))
      (λ _ e. (node_of_found net (sent_to net) (holder net) (rows net) (rw e (held_row net s))).1 e)

  pub not_own_packet : (fault j : ℕ) → j ≡ holder net → stores net fault j ≡ true → ⊥
  unfolding stores
  not_own_packet fault j e t =
      let h = holder net in
      let w : takes h (addressee net) (eqb (sent_to net) 0) j (regs_at net j) ≡ false
      = rw (e, ne_eqb h (addressee net) (λ x. not_self (sym x)), eq-eqb h h refl, and-false (eqb (sent_to net) 0)) in
      let f : stores net fault j ≡ false
      = rw w (none (eqb (step_number net fault) 0) (eqb (phase net) TAKEN) (transmitting (cancelled (regs_at net h))) (not (malformed (sent_shape net))) (not (damaged fault))) in
      false≢true (sym f ∙ t)
    where
      none : (a b c d e : Bool) → (a && (b && (c && (d && (e && false))))) ≡ false
      none false b c d e = refl
      none true false c d e = refl
      none true true false d e = refl
      none true true true false e = refl
      none true true true true e = and-false e

-- ---- Held is answered in TAKEN alone
abbrev pub held : Answer → Bool
held (Refused n) = false
held Quiet = false
held (Recovered r) = false
held (Passed r) = false
held (Unanswered i) = false
held TokenLost = false
held (Held o) = true

pub held_taken : (net : List ℕ) → shape net ≡ true → (fault : ℕ) (o : Outcome) → (step net fault).answer ≡ Held o → phase net ≡ TAKEN
unfolding step step_turn lost_turn pass_turn
held_taken net s fault o e =
    let P : Turn Answer → Type 0 = λ t. held t.answer ≡ true → phase net ≡ TAKEN in
    pick_of P (eqb (step_number net fault) 0)
    (λ _. pick_of P (eqb (phase net) LOST) (λ _. pick_of P (eqb (top_id net (rows net)) 0) (λ _ f. absurd (false≢true f)) (λ _ f. absurd (false≢true f)))
    (λ l. pick_of P (eqb (phase net) PASS)
    (λ _. pick_of P (destroyed fault) (λ _ f. absurd (false≢true f)) (λ _. pick_of P (ltb (taker net) (rows net)) (λ _ f. absurd (false≢true f)) (λ _ f. absurd (false≢true f))))
    (λ q _. omega (arith, shape_phase net s, eqb-false (phase net) LOST l, eqb-false (phase net) PASS q))))
    (λ _ f. absurd (false≢true f)) (ap held e)

-- and in TAKEN what is not Held is a refusal
pub unheld_taken : (net : List ℕ) (fault : ℕ) → phase net ≡ TAKEN → held (step net fault).answer ≡ false → (step net fault).after ≡ net
unfolding step step_turn
unheld_taken net fault p =
    pick_of (λ (t : Turn Answer). held t.answer ≡ false → t.after ≡ net) (eqb (step_number net fault) 0) (λ _. rw p (λ n. absurd (false≢true (sym n)))) (λ _ _. refl)
