-- A line step, refused or not, as the changes that it is made of, and what its answer says of them: one law, which whatever is said of a step cites.
-- Assumes nothing.
use mathlib.Core.Path.{◌≡◌, refl}
use mathlib.Core.Bool.{true, false}
use mathlib.Core.List.{List}
use Prim.Native.Nat.{ℕ, ◌<◌}
use native.Mathlib.Omega.{arith}
use lib.Dec.{eqb, ltb}
use borrow.Author.Tests.{eqb-true, eqb-false, ne_eqb, ltb-true}
use Rattle.registers.specs.declared.regs.Regs.{Regs}
use Rattle.line.specs.declared.passes.Event.TheVariants.{Recovery, Message, Taken}
use Rattle.line.specs.Answers.{Answer}
use Rattle.line.specs.Answers.{Refused, Quiet, Recovered, Passed, Unanswered, TokenLost, Held}
use Rattle.registers.specs.Events.{risen_nid}
use Rattle.bits.proofs.Words.Bools.{pick_of}
use Rattle.table.specs.Network.{rows, phase, holder, LOST, PASS, TAKEN, top_id, shape, SameFrame}
use Rattle.line.specs.Traffic.{Turn}
use Rattle.line.specs.Step.{destroyed, highest, lost_turn, invited, taker, pass_turn, step_turn, step_number, step}
use Rattle.line.specs.Outcomes.{stores}
use Rattle.table.proofs.Shaped.Shapes as shapes
use Rattle.table.proofs.Shaped.Shapes.{shape_phase, shape_holder}
use Rattle.table.proofs.Shaped.Alike.{Rams, Alike}
use Rattle.line.proofs.Steps.Holders.{highest_held, taker_held}
use Rattle.line.proofs.Change.Changes.{Rises, Reaches, Does, Turns, begin, more, turn}
use Rattle.line.proofs.Change.Paths.{sound, frame}
use Rattle.line.proofs.Turn.Says.{By, SaysHeld}
use Rattle.line.proofs.Turn.TakenBy.{taken_by}

-- what an answer says of what the step did to the holder's own registers
abbrev pub Says : List ℕ → ℕ → (Regs → Regs) → Answer → Type 0
Says net fault f (Refused n) = (g : Regs) → f g ≡ g
Says net fault f Quiet = (g : Regs) → f g ≡ g
Says net fault f (Recovered r) = (g : Regs) → f g ≡ g
Says net fault f (Passed r) = (g : Regs) → f g ≡ g
Says net fault f (Unanswered i) = (g : Regs) → f g ≡ risen_nid g
Says net fault f TokenLost = (g : Regs) → f g ≡ g
Says net fault f (Held o) = SaysHeld net fault f o

-- nobody holds, or a row on line does
lost : (net : List ℕ) → Turns net LOST 0
lost net = record { small = omega arith; nobody = λ _. refl; somebody = λ n. absurd (n refl) }

holds : (net : List ℕ) (p t : ℕ) → 0 < p → p < 3 → shapes.OnLineRow net t → Turns net p t
holds net p t low small d = record { small = small; nobody = λ e. absurd (omega (arith, e)); somebody = λ _. d }

module _ (net : List ℕ) (s : shape net ≡ true) (b : Rams net) (fault : ℕ) where
  abbrev Steps : Turn Answer → Type 0
  Steps = By (Says net fault) net fault

  module _ (z : eqb (step_number net fault) 0 ≡ true) where
    -- outside TAKEN nothing is stored
    unstored : (phase net ≡ TAKEN → ⊥) → (j : ℕ) → j < rows net → false ≡ stores net fault j
    unfolding stores
    unstored n j _ = rw (z, ne_eqb (phase net) TAKEN n)

    lost_by : phase net ≡ LOST → Steps (lost_turn net)
    unfolding lost_turn
    lost_by p =
        let n = unstored (λ e. omega (arith, p, e)) in
        pick_of Steps (eqb (top_id net (rows net)) 0) (λ _. record { changes = _; path = begin; says = λ g. refl; stored = n })
        (λ t. record {
          changes = _;
          path = turn (more begin (Reaches Recovery) p tt) PASS _ (holds net PASS (highest net) (omega arith) (omega arith) (highest_held net (eqb-false _ _ t)));
          says = λ g. refl;
          stored = n;
        })

    pass_by : phase net ≡ PASS → Steps (pass_turn net fault)
    unfolding pass_turn
    pass_by p =
        let h = holder net in
        let n = unstored (λ e. omega (arith, p, e)) in
        let sent : phase net ≡ LOST → ⊥ = λ e. omega (arith, p, e) in
        let c = more begin (Reaches (Message h true)) (refl, sent) tt in
        pick_of Steps (destroyed fault)
        (λ _. record { changes = _; path = turn (more begin (Reaches (Message h false)) (refl, sent) tt) LOST 0 (lost net); says = λ g. refl; stored = n })
        (λ _. pick_of Steps (ltb (taker net) (rows net))
        (λ t. record {
          changes = _;
          path = turn (more c (Reaches (Taken (invited net) (taker net))) p tt) TAKEN _
              (holds net TAKEN (taker net) (omega arith) (omega arith) (taker_held net (ltb-true (taker net) (rows net) t)));
          says = λ g. refl;
          stored = n;
        })
        (λ _. record { changes = _; path = more c (Does Rises) p tt; says = λ g. refl; stored = n }))

    turn_by : Steps (step_turn net fault)
    unfolding step_turn
    turn_by =
        pick_of Steps (eqb (phase net) LOST) (λ t. lost_by (eqb-true (phase net) LOST t))
        (λ t. pick_of Steps (eqb (phase net) PASS) (λ u. pass_by (eqb-true (phase net) PASS u))
        (λ u. let q = taken_by net s b fault z (omega (arith, shape_phase net s, eqb-false (phase net) LOST t, eqb-false (phase net) PASS u)) in record {
          changes = q.changes;
          path = turn q.path PASS _ (holds net PASS (holder net) (omega arith) (omega arith) (shape_holder net s (eqb-false (phase net) LOST t)));
          says = q.says;
          stored = q.stored;
        }))

  refused : eqb (step_number net fault) 0 ≡ false → (j : ℕ) → j < rows net → false ≡ stores net fault j
  unfolding stores
  refused z j _ = rw z

  -- every step is a path of changes, each allowed from where the step began
  pub step_by : By (Says net fault) net fault (step net fault)
  unfolding step
  step_by = pick_of Steps (eqb (step_number net fault) 0) turn_by (λ z. record { changes = _; path = begin; says = λ g. refl; stored = refused z })

  -- so it keeps SHAPE, the number of rows and their IDs, who is on line, and the RAMs; and the length, and the header but for phase and holder
  pub sound_step : Alike net (step net fault).after
  sound_step = sound net s b step_by.path

  pub frame_step : SameFrame net (step net fault).after
  frame_step = frame net s b step_by.path
