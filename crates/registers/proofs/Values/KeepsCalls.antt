-- Which register bytes each register access may change: all others are kept.
-- Assumes nothing.
use mathlib.Core.Path.{◌≡◌, refl}
use mathlib.Core.Bool.{Bool, true, false, ◌&&◌}
use mathlib.Core.List.{List, [], ◌∷◌, ◌++◌}
use Prim.Native.Nat.{ℕ}
use borrow.Author.Tests.{eqb-true}
use lib.Dec.{eqb}
use Rattle.bits.specs.declared.way.Way.TheVariants.{Transmit, Receive}
use Rattle.registers.specs.declared.regs.Regs.{Regs}
use Rattle.std.proofs.Common.{Option, Some, None}
use Rattle.commands.specs.declared.commands.Command.{Command}
use Rattle.commands.specs.declared.commands.Command.TheVariants.{Disable, Enable, LongPackets, ClearFlags, Clear}
use Rattle.bits.specs.Words.{pick, among, clear, has}
use Rattle.bits.specs.Flags.{RESET, AUTO_INC}
use Rattle.registers.specs.Fields.{with_diagnostic, with_naks}
use Rattle.registers.specs.Naks.{naks_dropped}
use Rattle.commands.specs.Commands.{command_of}
use Rattle.registers.specs.Registers.{sub, stepped, read_fetches, write_fetches, fetched, after_read, software_reset, changes_chaining, rechained, configured, commanded, seventh_written, after_write}
use Rattle.registers.specs.Layout.{at_id, at_status, at_diagnostic, at_mask, at_configuration, at_setup, at_tentative, at_high, at_low, at_mode, at_transmit, at_receive, at_long, at_second_transmit, at_second_receive, at_sent, at_received, at_fetched, queue_bytes, nak_bytes, read_changes, write_bytes}
use Rattle.bits.proofs.Words.Bools.{pick_of, pick_both, and_left, and_right}
use Rattle.registers.proofs.Values.Keeps.{Keeps, keeps_same, keeps_then, keeps_puts, keeps_fetched, keeps_naks, keeps_side}

module _ (g : Regs) where
  abbrev By : List ℕ → Regs → Type 0
  By l h = Keeps l g h

  keeps_stepped : By (at_high ∷ at_low ∷ []) (stepped g)
  unfolding stepped
  keeps_stepped =
      pick_of (By (at_high ∷ at_low ∷ [])) (has AUTO_INC g.mode) (λ _. keeps_puts _ g _ ((at_high, _) ∷ (at_low, _) ∷ []) refl refl refl) (λ _. keeps_same _ g)

  -- an access that may fetch, and does so only where the byte is of its list
  keeps_ahead : (l : List ℕ) (h : Regs) → By l h → (fetches : Bool) → (fetches ≡ true → among l at_fetched ≡ true) → (m : ℕ) → By l (fetched fetches m h)
  keeps_ahead l h q true u m = keeps_then g h _ q (keeps_fetched l (u refl) h m)
  keeps_ahead l h q false u m = q

  -- a read of register 4 moves the pointer where it fetches, and nothing else
  read_bytes : (k : ℕ) → By (read_changes g k) (after_read g k)
  unfolding after_read stepped
  read_bytes k = pick_both By (eqb k 1) (keeps_puts _ g _ ((at_diagnostic, _) ∷ []) refl refl refl) (fourth (eqb k 4) (has AUTO_INC g.mode) (keeps_puts _ g _ ((at_high, _) ∷ (at_low, _) ∷ []) refl refl refl))
    where
      fourth : (four auto : Bool) {l : List ℕ} {h : Regs} → By l h → By (pick (four && auto) l []) (pick four (pick auto h g) g)
      fourth true true q = q
      fourth true false q = keeps_same _ g
      fourth false auto q = keeps_same _ g

  pub keeps_read : (k m : ℕ) → By (read_changes g k) (fetched (read_fetches g k) m (after_read g k))
  keeps_read k =
      let four = eqb k 4 in
      let auto = has AUTO_INC g.mode in
      keeps_ahead (read_changes g k) (after_read g k) (read_bytes k) (read_fetches g k) (λ t. rw (eqb-true k 4 (and_left four auto t), and_right four auto t))

  keeps_commanded : (c : Option Command) → By (at_status ∷ at_long ∷ nak_bytes ++ queue_bytes true) (commanded g c)
  unfolding commanded
  keeps_commanded None = keeps_same _ g
  keeps_commanded (Some (Disable Transmit)) = keeps_side _ g Transmit refl _
  keeps_commanded (Some (Disable Receive)) = keeps_side _ g Receive refl _
  keeps_commanded (Some (Enable Transmit p)) = keeps_side _ g Transmit refl _
  keeps_commanded (Some (Enable Receive p)) = keeps_side _ g Receive refl _
  keeps_commanded (Some (LongPackets x)) = keeps_puts _ g _ ((at_long, x) ∷ []) refl refl refl
  keeps_commanded (Some (ClearFlags p r)) = let h = naks_dropped p g in keeps_then g h _ (keeps_naks _ refl g _ _ _) (keeps_puts _ h _ ((at_status, _) ∷ []) refl refl refl)
  keeps_commanded (Some (Clear Transmit)) = keeps_side _ g Transmit refl _
  keeps_commanded (Some (Clear Receive)) = keeps_side _ g Receive refl _

  abbrev reset : List ℕ
  reset = at_configuration ∷ at_status ∷ at_mask ∷ at_long ∷ nak_bytes ++ queue_bytes true

  -- both queues are emptied
  abbrev emptied : List (ℕ × ℕ)
  emptied = (at_transmit, 0) ∷ (at_second_transmit, 0) ∷ (at_sent, 0) ∷ (at_receive, 0) ∷ (at_second_receive, 0) ∷ (at_received, 0) ∷ []

  keeps_configured : (v : ℕ) → By reset (configured g v)
  unfolding configured
  keeps_configured v =
      let h = pick (clear RESET v) (rechained g v) (software_reset g) in
      keeps_then g h _
      (pick_of (By reset) (clear RESET v)
      (λ _. pick_of (By reset) (changes_chaining g v) (λ _. keeps_puts reset g _ emptied refl refl refl) (λ _. keeps_same reset g))
      (λ _. let i = with_diagnostic 0 (with_naks 0 0 g) in
      keeps_then g i _ (keeps_naks reset refl g 0 0 0) (keeps_puts reset i _ ((at_status, _) ∷ (at_mask, 0) ∷ (at_long, 0) ∷ emptied) refl refl refl)))
      (keeps_puts reset h _ ((at_configuration, v) ∷ []) refl refl refl)

  write_bytes_lem : (k v : ℕ) → By (write_bytes true g k) (after_write g k v)
  unfolding after_write seventh_written
  write_bytes_lem k v =
      pick_both By (eqb k 0) (keeps_puts _ g _ ((at_mask, v) ∷ []) refl refl refl)
      (pick_both By (eqb k 1) (keeps_commanded (command_of v))
      (pick_both By (eqb k 2) (keeps_puts _ g _ ((at_mode, v) ∷ []) refl refl refl)
      (pick_both By (eqb k 3) (keeps_puts _ g _ ((at_high, _) ∷ (at_low, v) ∷ []) refl refl refl)
      (pick_both By (eqb k 4) keeps_stepped
      (pick_both By (eqb k 6) (keeps_configured v)
      (pick_both By (eqb k 7)
      (pick_both By (eqb (sub g) 0) (keeps_puts _ g _ ((at_tentative, v) ∷ []) refl refl refl)
      (pick_both By (eqb (sub g) 1) (keeps_puts _ g _ ((at_id, v) ∷ []) refl refl refl) (keeps_puts _ g _ ((at_setup, v) ∷ []) refl refl refl)))
      (keeps_same _ g)))))))

  pub keeps_write : (k v m : ℕ) → By (write_bytes true g k) (fetched (write_fetches k) m (after_write g k v))
  keeps_write k v = keeps_ahead (write_bytes true g k) (after_write g k v) (write_bytes_lem k v) (write_fetches k) (λ t. rw (eqb-true k 3 t))
