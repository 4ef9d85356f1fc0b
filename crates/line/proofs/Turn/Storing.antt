-- Who stores the packet that the holder tries.
-- Assumes nothing.
use mathlib.Core.Path.{◌≡◌, refl, sym, ◌∙◌, ap}
use mathlib.Core.Bool.{Bool, true, false, not, ◌&&◌}
use mathlib.Core.List.{List}
use mathlib.Core.Logic.{⊎_elim}
use Prim.Native.Nat.{ℕ, ◌<◌}
use native.Mathlib.Omega.{arith}
use lib.Dec.{eqb}
use borrow.Author.Tests.{eqb-true, eqb-false, eq-eqb, ne_eqb}
use Rattle.line.specs.declared.traffic.Outcome.{Outcome}
use Rattle.line.specs.declared.traffic.Outcome.TheVariants.{Nothing, Malformed, Broadcast, NoAnswer, Nak, Delivered, Unacknowledged}
use Rattle.registers.specs.Events.{cancelled, transmitting, receiving, takes_broadcasts}
use Rattle.card.specs.Packets.{malformed, storable}
use Rattle.std.proofs.lemmas.Bool.{cases_Bool}
use Rattle.std.proofs.Math.Bool.{and-false, or-false}
use Rattle.registers.proofs.Values.Listens.{takes_receives}
use Rattle.table.specs.Network.{rows, phase, holder, TAKEN, regs_at}
use Rattle.line.specs.Traffic.{damaged}
use Rattle.line.specs.Step.{step_number}
use Rattle.line.specs.Outcomes.{sent_shape, sent_to, addressee, stores}

-- row r is the one that the enquiry found
pub record Found (net : List ℕ) (r : ℕ) : Type 0 where
  pub asked : sent_to net ≡ 0 → ⊥
  pub is : addressee net ≡ r
  pub there : r < rows net

-- whom an outcome names, and who stores the packet: of Delivered, the row that the enquiry found and no other; of a broadcast, the rows that take it
abbrev pub Reached : List ℕ → ℕ → Outcome → Type 0
Reached net fault Nothing = Unit {0}
Reached net fault Malformed = Unit {0}
Reached net fault (Broadcast s) =
    (s ≡ sent_shape net)
    × ((j : ℕ) → j < rows net → stores net fault j ≡ (not (damaged fault) && (not (eqb j (holder net)) && takes_broadcasts (regs_at net j) && storable (regs_at net j) (sent_shape net))))
Reached net fault NoAnswer = Unit {0}
Reached net fault (Nak r) = Found net r × (receiving (regs_at net r) ≡ false)
Reached net fault (Delivered r s) = Found net r × ((s ≡ sent_shape net) × ((j : ℕ) → stores net fault j ≡ eqb j r))
Reached net fault (Unacknowledged r s stored) = Found net r × ((s ≡ sent_shape net) × (stores net fault r ≡ stored))

-- a row that takes a broadcast has its receiver on
hears : (away takes on can : Bool) → (takes ≡ true → on ≡ true) → (away && takes && (on && can)) ≡ (away && takes && can)
hears false takes on can r = refl
hears true false on can r = refl
hears true true on can r = rw (r refl)

-- a step that is not refused, in TAKEN, with a packet that is tried after the cancels and is sound
module _ (net : List ℕ) (fault : ℕ) (z : eqb (step_number net fault) 0 ≡ true) (p : phase net ≡ TAKEN) (w : transmitting (cancelled (regs_at net (holder net))) ≡ true)
    (f : malformed (sent_shape net) ≡ false) where
  -- a broadcast: the rows that take it
  pub cast : eqb (sent_to net) 0 ≡ true → (j : ℕ) → j < rows net
      → stores net fault j ≡ (not (damaged fault) && (not (eqb j (holder net)) && takes_broadcasts (regs_at net j) && storable (regs_at net j) (sent_shape net)))
  unfolding stores
  cast d j l =
      let g = regs_at net j in
      rw (z, p, w, f, d, ne_eqb j (rows net) (λ e. omega (arith, e)))
      (ap (not (damaged fault) &&◌) (hears (not (eqb j (holder net))) (takes_broadcasts g) (receiving g) (storable g (sent_shape net)) (takes_receives g)))

  module _ (d : eqb (sent_to net) 0 ≡ false) (to : ℕ) (i : addressee net ≡ to) where
    pub found_at : to < rows net → Found net to
    found_at l = record { asked = eqb-false (sent_to net) 0 d; is = i; there = l }

    -- the row that was found stores it where it can, and no other row does
    pub stored_there : receiving (regs_at net to) ≡ true → stores net fault to ≡ (not (damaged fault) && storable (regs_at net to) (sent_shape net))
    unfolding stores
    stored_there r = rw (i, z, p, w, f, d, eq-eqb to to refl, r)

    pub stored_alone : (j : ℕ) → (j ≡ to → ⊥) → stores net fault j ≡ false
    unfolding stores
    stored_alone j n = rw (i, z, p, w, f, d, ne_eqb j to n) (and-false (not (damaged fault)))

    pub one : receiving (regs_at net to) ≡ true → (not (damaged fault) && storable (regs_at net to) (sent_shape net)) ≡ true → (j : ℕ) → stores net fault j ≡ eqb j to
    one r a j =
        ⊎_elim (λ (e : eqb j to ≡ true). rw (eqb-true j to e, eq-eqb to to refl) (stored_there r ∙ a)) (λ (e : eqb j to ≡ false). rw e (stored_alone j (eqb-false j to e)))
        (cases_Bool (eqb j to))

    -- nobody, where that row's receiver is not on
    pub unheard : ((j : ℕ) → j < rows net → j ≡ to → receiving (regs_at net j) ≡ false) → (j : ℕ) → j < rows net → false ≡ stores net fault j
    unfolding stores
    unheard deaf j l =
        rw (i, z, p, w, f, d, or-false (eqb j to))
        (⊎_elim (λ (e : eqb j to ≡ true). rw (e, deaf j l (eqb-true j to e)) (sym (and-false (not (damaged fault)))))
        (λ (e : eqb j to ≡ false). rw e (sym (and-false (not (damaged fault))))) (cases_Bool (eqb j to)))
