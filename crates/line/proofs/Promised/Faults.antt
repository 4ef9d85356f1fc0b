-- A fault that meets no message of its kind does nothing.
-- Assumes nothing.
use mathlib.Core.Path.{◌≡◌, refl, ap}
use mathlib.Core.Bool.{true, false, ◌&&◌, true≢false}
use mathlib.Core.List.{List}
use mathlib.Core.Logic.{⊎_elim}
use Prim.Native.Nat.{ℕ, ◌≤◌}
use native.Mathlib.Omega.{arith}
use lib.Dec.{eqb, ltb}
use borrow.Author.Tests.{eqb-true, eqb-false, le-ltb}
use Rattle.line.specs.declared.traffic.Outcome.{Outcome}
use Rattle.line.specs.Answers.{Answer}
use Rattle.line.specs.Answers.{Held}
use Rattle.card.specs.Packets.{malformed, page_shape, destination}
use Rattle.registers.specs.Events.{cancelled, transmitting, receiving, transmit_page}
use Rattle.card.specs.Packets.{storable}
use Rattle.std.proofs.lemmas.Bool.{cases_Bool}
use Rattle.bits.proofs.Words.Bools.{pick_of, pick_both}
use Rattle.table.specs.Rows.{row_at}
use Rattle.table.specs.Network.{rows, phase, holder, LOST, PASS, regs_at, node_of}
use Rattle.line.specs.Traffic.{Turn, on_row, went_out, broadcast_turn, packet_turn, enquiry_turn, try_turn, taken_turn}
use Rattle.line.specs.Step.{taker, pass_turn, held, step_turn, step_refusals, step_number, step}
use Rattle.line.specs.Outcomes.{meets}

-- a turn with the fault is the turn without, where the fault meets nothing in it
abbrev Same : ℕ → Turn Outcome → Turn Outcome → Type 0
Same fault x y = meets fault (Held y.answer) ≡ false → x ≡ y

module _ (net : List ℕ) (h p : ℕ) where
  -- ---- fault 1: no packet goes
  enquiry_1 : (t : ℕ) → Same 1 (enquiry_turn net h p 1 t) (enquiry_turn net h p 0 t)
  unfolding enquiry_turn packet_turn
  enquiry_1 t =
      pick_both (Same 1) (ltb t (rows net))
      (pick_both (Same 1) (receiving (regs_at net t))
      (pick_of (λ (o : Outcome). meets 1 (Held o) ≡ false → packet_turn net h p 1 t ≡ packet_turn net h p 0 t) (storable (regs_at net t) (page_shape (row_at net h) p) && true)
      (λ _ e. absurd (true≢false e)) (λ _ e. absurd (true≢false e)))
      (λ _. refl)) (λ _. refl)

  try_1 : Same 1 (try_turn net h p 1) (try_turn net h p 0)
  unfolding try_turn broadcast_turn
  try_1 =
      pick_both (Same 1) (malformed (page_shape (row_at net h) p)) (λ _. refl)
      (pick_both (Same 1) (eqb (destination (row_at net h) p) 0) (λ e. absurd (true≢false e)) (enquiry_1 (node_of net (destination (row_at net h) p) h (rows net))))

  -- ---- fault 2: no final ACK comes
  enquiry_2 : (t : ℕ) → Same 2 (enquiry_turn net h p 2 t) (enquiry_turn net h p 0 t)
  unfolding enquiry_turn packet_turn went_out
  enquiry_2 t =
      pick_both (Same 2) (ltb t (rows net))
      (pick_both (Same 2) (receiving (regs_at net t))
      (⊎_elim (λ b. rw b (λ e. absurd (true≢false e))) (λ b. rw b (λ _. refl)) (cases_Bool (storable (regs_at net t) (page_shape (row_at net h) p)))) (λ _. refl)) (λ _. refl)

  try_2 : Same 2 (try_turn net h p 2) (try_turn net h p 0)
  unfolding try_turn broadcast_turn went_out
  try_2 =
      pick_both (Same 2) (malformed (page_shape (row_at net h) p)) (λ _. refl)
      (pick_both (Same 2) (eqb (destination (row_at net h) p) 0) (λ _. refl) (enquiry_2 (node_of net (destination (row_at net h) p) h (rows net))))

  -- ---- fault 3: no invitation goes
  try_3 : try_turn net h p 3 ≡ try_turn net h p 0
  unfolding try_turn broadcast_turn enquiry_turn packet_turn went_out
  try_3 = refl

-- ---- the step
module _ (net : List ℕ) where
  -- the turn with the fault, and the one without
  abbrev Idle : ℕ → Turn Answer → Turn Answer → Type 0
  Idle fault x y = meets fault y.answer ≡ false → x ≡ y

  tried : (fault : ℕ) → ((m : List ℕ) (h p : ℕ) → Same fault (try_turn m h p fault) (try_turn m h p 0)) → (h : ℕ)
      → Idle fault (held (taken_turn net h fault) h) (held (taken_turn net h 0) h)
  unfolding taken_turn
  tried fault q h =
      pick_both (λ (x y : Turn Outcome). Idle fault (held x h) (held y h)) (transmitting (regs_at (on_row net h cancelled) h))
      (λ e. ap (λ (x : Turn Outcome). held x h) (q (on_row net h cancelled) h (transmit_page (regs_at (on_row net h cancelled) h)) e)) (λ _. refl)

  turns : (fault : ℕ) → Idle fault (pass_turn net fault) (pass_turn net 0) → Idle fault (held (taken_turn net (holder net) fault) (holder net)) (held (taken_turn net (holder net) 0) (holder net))
      → Idle fault (step_turn net fault) (step_turn net 0)
  unfolding step_turn
  turns fault p t = pick_both (Idle fault) (eqb (phase net) LOST) (λ _. refl) (pick_both (Idle fault) (eqb (phase net) PASS) p t)

  pass_1 : Idle 1 (pass_turn net 1) (pass_turn net 0)
  unfolding pass_turn
  pass_1 e = refl

  pass_2 : Idle 2 (pass_turn net 2) (pass_turn net 0)
  unfolding pass_turn
  pass_2 e = refl

  -- fault 3 meets the invitation, taken or not
  pass_3 : Idle 3 (pass_turn net 3) (pass_turn net 0)
  unfolding pass_turn
  pass_3 =
      pick_of (λ (y : Turn Answer). meets 3 y.answer ≡ false → pass_turn net 3 ≡ y) (ltb (taker net) (rows net)) (λ _ e. absurd (true≢false e)) (λ _ e. absurd (true≢false e))

  turn_idle : (fault : ℕ) → fault ≤ 3 → Idle fault (step_turn net fault) (step_turn net 0)
  turn_idle fault l =
      ⊎_elim (λ a. rw (eqb-true fault 1 a) (turns 1 pass_1 (tried 1 try_1 (holder net))))
      (λ a. ⊎_elim (λ b. rw (eqb-true fault 2 b) (turns 2 pass_2 (tried 2 try_2 (holder net))))
      (λ b. ⊎_elim (λ c. rw (eqb-true fault 3 c) (turns 3 pass_3 (tried 3 (λ m h p _. try_3 m h p) (holder net))))
      (λ c. let z : fault ≡ 0 = omega (arith, eqb-false fault 1 a, eqb-false fault 2 b, eqb-false fault 3 c) in rw z (λ _. refl))
      (cases_Bool (eqb fault 3))) (cases_Bool (eqb fault 2))) (cases_Bool (eqb fault 1))

  pub idle_fault : (fault : ℕ) → fault ≤ 3 → meets fault (step net 0).answer ≡ false → step net fault ≡ step net 0
  unfolding step step_number step_refusals
  idle_fault fault l =
      rw (le-ltb 3 fault l)
      (pick_both (Idle fault) (eqb (step_number net 0) 0) (turn_idle fault l) (λ _. refl))
