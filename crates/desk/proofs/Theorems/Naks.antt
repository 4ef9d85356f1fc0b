-- C-16: row bytes 33-34 are the number of NAK answers to the Enable whose transmit waits, up to the limit, whatever calls come.
-- Assumes nothing.
use mathlib.Core.Path.{◌≡◌, refl, sym, ◌∙◌, ap}
use mathlib.Core.Bool.{Bool, true, false, ◌&&◌, true≢false}
use mathlib.Core.List.{List, [], ◌∷◌}
use mathlib.Core.Logic.{⊎_elim}
use Prim.Native.Nat.{ℕ, zero, suc, ◌<◌}
use native.Mathlib.Omega.{arith}
use lib.Dec.{eqb}
use borrow.Author.Tests.{eqb-true, eqb-false}
use Rattle.bits.specs.Words.{pick, among}
use Rattle.registers.specs.declared.regs.Regs.{Regs}
use Rattle.registers.specs.Layout.{at_nak_low, at_nak_high, read_changes}
use Rattle.registers.specs.Registers.{read_fetches}
use Rattle.registers.specs.Naks.{naks, up_to_limit, drops_naks}
use Rattle.std.proofs.lemmas.Bool.{cases_Bool}
use Rattle.bits.proofs.Words.Bools.{pick_of, pick_both}
use Rattle.registers.proofs.Values.Counts.{idle_naks, excess_is}
use Rattle.card.specs.Row.{regs_of}
use Rattle.card.proofs.Rows.Counts.{naks_kept}
use Rattle.table.specs.Rows.{row_at}
use Rattle.table.specs.Network.{rows, regs_at, OnlyRow}
use Rattle.table.specs.Calls.{net_write_number, net_after_write}
use Rattle.table.proofs.Shaped.Alike.{Good, bytes_rams}
use Rattle.table.proofs.Access.Placed.{row_placed}
use Rattle.table.proofs.Access.Others.{read_only, write_only, reset_only, timer_only}
use Rattle.table.proofs.Access.Refused.{write_refused}
use Rattle.table.proofs.Access.Counts.{write_naks, reset_naks}
use Rattle.line.specs.Step.{step}
use Rattle.line.proofs.Change.Made.{row_fits}
use Rattle.line.proofs.Promised.Counts.{step_naks_lem}
use Rattle.desk.specs.Lap.{after, lap_steps, runs, net_after_lap}
use Rattle.desk.specs.Host.{Call, At, Read, Write, Reset, Timer, Interrupt, Data, DataNumber, Step, Lap, called, table}
use Rattle.desk.specs.Naks.{naks_at, naks_through, naks_after, naks_since, CountsNaks}
use Rattle.desk.proofs.Lapping.Shuffled.{good_step}
use Rattle.desk.proofs.Theorems.Shuffling.{good_called}

-- a read moves no byte of the count
read_uncounted : (g : Regs) (r : ℕ) → (among (read_changes g r) at_nak_low ≡ false) × (among (read_changes g r) at_nak_high ≡ false)
read_uncounted g r =
    pick_of (λ (l : List ℕ). (among l at_nak_low ≡ false) × (among l at_nak_high ≡ false)) (eqb r 1) (λ _. (refl, refl))
    (λ _. pick_of (λ (l : List ℕ). (among l at_nak_low ≡ false) × (among l at_nak_high ≡ false)) (read_fetches g r) (λ _. (refl, refl)) (λ _. (refl, refl)))

module _ {n : ℕ} (k : ℕ) (l : k < n) where
  -- bytes 33-34 of row k are m, up to the limit
  abbrev Has : ℕ → List ℕ → Type 0
  Has m net = naks_at net k ≡ up_to_limit m

  through : (i m : ℕ) (net : List ℕ) → Good n net → Has m net → Has (naks_through k i net m) (after i net)
  unfolding after naks_through
  through zero m net g e = e
  through (suc i) m net g e = through i _ (step net 0).after (good_step net g 0) (step_naks_lem net g.fits g.rams 0 k (omega (arith, g.count)) m e)

  row_kept : {net new : List ℕ} {j : ℕ} {moves : ℕ → Bool} → OnlyRow net new j moves → k < rows net
      → (eqb j k ≡ true → (moves at_nak_low ≡ false) × (moves at_nak_high ≡ false)) → naks_at new k ≡ naks_at net k
  row_kept {net} {new} {j} o h m =
      ⊎_elim (λ (t : eqb j k ≡ true). rw (eqb-true j k t) at (naks_kept (row_at net j) (row_at new j) o.row (m t).0 (m t).1))
      (λ (t : eqb j k ≡ false). ap (λ (r : List ℕ). naks (regs_of r)) (o.others k h (λ e. eqb-false j k t (sym e)))) (cases_Bool (eqb j k))

  module _ (net : List ℕ) (g : Good n net) (m : ℕ) (e : Has m net) where
    here : k < rows net
    here = omega (arith, g.count)

    own_write : (r v : ℕ) → Has (pick (eqb (net_write_number net k r v) 0 && drops_naks r v) 0 m) (net_after_write net k r v)
    own_write r v =
        ⊎_elim (λ (z : eqb (net_write_number net k r v) 0 ≡ true). rw z (write_naks net g.fits k here r v (eqb-true _ _ z) ∙ pick_both (λ (x y : ℕ). x ≡ up_to_limit y) (drops_naks r v) refl e))
        (λ (z : eqb (net_write_number net k r v) 0 ≡ false). rw z (ap (λ (x : List ℕ). naks_at x k) (write_refused net k r v (eqb-false _ _ z)) ∙ e))
        (cases_Bool (eqb (net_write_number net k r v) 0))

    other : {new : List ℕ} {j : ℕ} {moves : ℕ → Bool} → OnlyRow net new j moves → eqb j k ≡ false → Has m new
    other o t = row_kept o here (λ u. absurd (true≢false (sym u ∙ t))) ∙ e

    call_counted : (c : Call) → Has (naks_after k c net m) (called c net)
    unfolding net_after_lap
    call_counted (At j (Read r)) = row_kept (read_only net j r) here (λ t. read_uncounted (regs_at net j) r) ∙ e
    call_counted (At j (Write r v b)) =
        ⊎_elim (λ (t : eqb j k ≡ true). rw (t, eqb-true j k t) (own_write r v)) (λ (t : eqb j k ≡ false). rw t (other (write_only net j r v) t)) (cases_Bool (eqb j k))
    call_counted (At j Reset) =
        ⊎_elim (λ (t : eqb j k ≡ true). rw (t, eqb-true j k t) (reset_naks net g.fits k here (row_placed net k g.fits here)))
        (λ (t : eqb j k ≡ false). rw t (other (reset_only net j) t)) (cases_Bool (eqb j k))
    call_counted (At j Timer) = row_kept (timer_only net j) here (λ t. (refl, refl)) ∙ e
    call_counted (At j Interrupt) = e
    call_counted (At j (Data p)) = e
    call_counted (At j (DataNumber p)) = e
    call_counted (Step fault) = step_naks_lem net g.fits g.rams fault k here m e
    call_counted (Lap room) = pick_both (λ (x : List ℕ) (y : ℕ). naks_at x k ≡ up_to_limit y) (runs net room) (through (lap_steps net) m net g e) e

  calls_counted : (c : List Call) (net : List ℕ) → Good n net → (m : ℕ) → Has m net → Has (naks_since k c net m) (table c net)
  unfolding table naks_since
  calls_counted [] net g m e = e
  calls_counted (x ∷ c) net g m e = calls_counted c (called x net) (good_called net g x) (naks_after k x net m) (call_counted net g m e x)

pub counts_naks : CountsNaks
counts_naks net b s k l =
    let f = row_fits net k s l in
    record {
      none = idle_naks (regs_at net k) f;
      counted = λ m e c. calls_counted k l c net (record { fits = s; rams = bytes_rams net s b; count = refl }) m e;
      excess = excess_is (regs_at net k) f;
    }
