-- C-16: the NAKs that are counted after each event and each write; and what they say of TA and EXCNAK.
-- Assumes nothing.
use mathlib.Core.Path.{◌≡◌, refl, ◌∙◌, ap}
use mathlib.Core.Bool.{Bool, true, false, not, ◌||◌}
use mathlib.Core.Logic.{⊎_elim}
use Prim.Native.Nat.{ℕ, ◌+◌, ◌≤◌}
use native.Mathlib.Omega.{arith}
use borrow.Author.Tests.{eqb-true, leb-true, ltb-false, le-ltb}
use lib.Dec.{eqb, ltb}
use Rattle.bits.specs.declared.way.Way.TheVariants.{Transmit, Receive}
use Rattle.registers.specs.declared.regs.Regs.{Regs}
use Rattle.std.proofs.Common.{Option, Some, None}
use Rattle.commands.specs.declared.commands.Command.{Command}
use Rattle.commands.specs.declared.commands.Command.TheVariants.{Disable, Enable, LongPackets, ClearFlags, Clear}
use Rattle.bits.specs.Words.{pick, clear, has}
use Rattle.bits.specs.Flags.{TA, EXCNAK, AUTO_INC, CANCEL, RESET}
use Rattle.commands.specs.Commands.{command_of}
use Rattle.registers.specs.Fields.{with_configuration}
use Rattle.registers.specs.Naks.{nak_limit, naks, up_to_limit, naks_dropped, drops_command, drops_naks}
use Rattle.registers.specs.Registers.{sub, stepped, hardware_reset, changes_chaining, configured, commanded, seventh_written, after_write}
use Rattle.registers.specs.Events.{heard, cancelled, sent, enquired, transmitting}
use Rattle.std.proofs.lemmas.Bool.{cases_Bool}
use Rattle.bits.proofs.Words.Bools.{or_first, pick_of}
use Rattle.registers.proofs.Values.Fits.{Fit}
use Rattle.registers.proofs.Values.FitNaks.{counted_naks}

module _ (g : Regs) where
  naks_dropped_lem : (b : Bool) → naks (naks_dropped b g) ≡ pick b 0 (naks g)
  naks_dropped_lem true = refl
  naks_dropped_lem false = refl

  -- ---- what the line does
  pub naks_cancelled : naks (cancelled g) ≡ pick (has CANCEL g.transmit.oldest) 0 (naks g)
  unfolding cancelled
  naks_cancelled = naks_dropped_lem (has CANCEL g.transmit.oldest)

  pub naks_sent : (a : Bool) → naks (sent g a) ≡ 0
  unfolding sent
  naks_sent a = refl

  pub naks_refused : naks (enquired g true) ≡ up_to_limit (naks g + 1)
  unfolding enquired heard
  naks_refused = counted_naks g

  pub naks_unanswered : naks (enquired g false) ≡ 0
  unfolding enquired sent
  naks_unanswered = refl

  -- ---- a write, and a hardware reset
  naks_commanded : (c : Option Command) → naks (commanded g c) ≡ pick (drops_command c) 0 (naks g)
  unfolding commanded
  naks_commanded None = refl
  naks_commanded (Some (Disable Transmit)) = refl
  naks_commanded (Some (Disable Receive)) = refl
  naks_commanded (Some (Enable Transmit p)) = refl
  naks_commanded (Some (Enable Receive p)) = refl
  naks_commanded (Some (LongPackets l)) = refl
  naks_commanded (Some (ClearFlags p r)) = naks_dropped_lem p
  naks_commanded (Some (Clear Transmit)) = refl
  naks_commanded (Some (Clear Receive)) = refl

  naks_configured : (v : ℕ) → naks (configured g v) ≡ pick (has RESET v) 0 (naks g)
  unfolding configured
  naks_configured v =
      pick_of (λ (h : Regs). naks (with_configuration v h) ≡ pick (has RESET v) 0 (naks g)) (clear RESET v)
      (λ c. pick_of (λ (h : Regs). naks (with_configuration v h) ≡ pick (has RESET v) 0 (naks g)) (changes_chaining g v) (λ _. rw c) (λ _. rw c)) (λ c. rw c)

  pub naks_written : (k v : ℕ) → naks (after_write g k v) ≡ pick (drops_naks k v) 0 (naks g)
  unfolding after_write stepped seventh_written
  naks_written k v =
      let P : Regs → Type 0 = λ h. naks h ≡ pick (drops_naks k v) 0 (naks g) in
      pick_of P (eqb k 0) (λ i. rw (eqb-true k 0 i))
      (λ _. pick_of P (eqb k 1) (λ i. rw (eqb-true k 1 i) (naks_commanded (command_of v) ∙ sym_or (drops_command (command_of v))))
      (λ n1. pick_of P (eqb k 2) (λ i. rw (eqb-true k 2 i))
      (λ _. pick_of P (eqb k 3) (λ i. rw (eqb-true k 3 i))
      (λ _. pick_of P (eqb k 4) (λ i. rw (eqb-true k 4 i) (pick_of (λ (h : Regs). naks h ≡ naks g) (has AUTO_INC g.mode) (λ _. refl) (λ _. refl)))
      (λ _. pick_of P (eqb k 6) (λ i. rw (eqb-true k 6 i) (naks_configured v))
      (λ n6. rw (n1, n6) (pick_of (λ (h : Regs). naks h ≡ naks g) (eqb k 7)
      (λ _. pick_of (λ (h : Regs). naks h ≡ naks g) (eqb (sub g) 0) (λ _. refl) (λ _. pick_of (λ (h : Regs). naks h ≡ naks g) (eqb (sub g) 1) (λ _. refl) (λ _. refl)))
      (λ _. refl))))))))
    where
      sym_or : (b : Bool) → pick b 0 (naks g) ≡ pick (b || false) 0 (naks g)
      sym_or true = refl
      sym_or false = refl

pub reset_naks : naks hardware_reset ≡ 0
unfolding hardware_reset
reset_naks = refl

pub up_same : (n : ℕ) → n ≤ nak_limit → up_to_limit n ≡ n
up_same n h = pick_of (λ (x : ℕ). x ≡ n) (ltb n nak_limit) (λ _. refl) (λ l. let g = ltb-false n nak_limit l in omega arith)

-- a count that has stayed at the limit stays there
pub up_again : (n : ℕ) → up_to_limit (up_to_limit n + 1) ≡ up_to_limit (n + 1)
up_again n =
    pick_of (λ (x : ℕ). up_to_limit (x + 1) ≡ up_to_limit (n + 1)) (ltb n nak_limit) (λ _. refl)
    (λ l. let g = ltb-false n nak_limit l in rw (le-ltb (n + 1) nak_limit (omega arith)))

-- ---- of registers that fit
module _ (g : Regs) (f : Fit g) where
  pub few_naks : naks g ≤ nak_limit
  few_naks = leb-true (naks g) nak_limit f.most

  -- TA is 1
  pub idle_naks : transmitting g ≡ false → naks g ≡ 0
  unfolding transmitting
  idle_naks t = eqb-true (naks g) 0 (or_first (eqb (naks g) 0) (clear TA g.status) f.counts t)

  pub excess_is : has EXCNAK g.diagnostic ≡ eqb (naks g) nak_limit
  excess_is =
      ⊎_elim (λ (t : eqb (naks g) nak_limit ≡ true). rw t (rw t at f.excess))
      (λ (t : eqb (naks g) nak_limit ≡ false). rw t (ap not (rw t at f.excess))) (cases_Bool (eqb (naks g) nak_limit))
