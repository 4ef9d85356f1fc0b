-- C-13: a read of register 4 answers the fetched byte, which a load, an incremented read and a hardware reset of the row set, and no other call.
-- Assumes nothing.
use mathlib.Core.Path.{◌≡◌, refl, sym, ◌∙◌, ap}
use mathlib.Core.Bool.{Bool, true, false, not, ◌&&◌, true≢false}
use mathlib.Core.List.{List, [], ◌∷◌}
use mathlib.Core.Logic.{⊎_elim}
use Prim.Native.Nat.{ℕ, zero, suc, ◌<◌}
use native.Mathlib.Omega.{arith}
use lib.Dec.{eqb, lit<}
use lib.ListN.{get_or}
use borrow.Author.Tests.{eqb-true, eqb-false, ne_eqb}
use Rattle.bits.specs.Words.{among}
use Rattle.registers.specs.Layout.{at_fetched}
use Rattle.registers.specs.Fit.{on_line}
use Rattle.registers.specs.Registers.{write_fetches, after_write}
use Rattle.registers.specs.Sides.{chaining}
use Rattle.std.proofs.lemmas.Bool.{cases_Bool}
use Rattle.std.proofs.Math.Bool.{and-false}
use Rattle.bits.proofs.Words.Bools.{pick_of}
use Rattle.registers.proofs.Values.Ahead.{read_unfetched, write_unfetched}
use Rattle.card.specs.Access.{pointed}
use Rattle.table.specs.Rows.{row_at}
use Rattle.table.specs.Network.{rows, regs_at, on_line_at, OnlyRow}
use Rattle.table.specs.Calls.{net_write_moves, net_after_write}
use Rattle.table.proofs.Shaped.Alike.{Good, bytes_rams}
use Rattle.table.proofs.Access.Placed.{row_placed}
use Rattle.table.proofs.Access.Others.{read_only, write_only, reset_only, timer_only}
use Rattle.table.proofs.Access.Ahead.{reading_fetched, read_on, reads_again, load_unrefused, loads, resets}
use Rattle.line.specs.Step.{step}
use Rattle.line.specs.Outcomes.{stores, holder_bytes, storing_bytes, row_moves}
use Rattle.line.proofs.Promised.EveryRow.{step_moves}
use Rattle.line.proofs.Promised.Still.{unmoved}
use Rattle.desk.specs.Lap.{after, lap_steps, runs, net_after_lap}
use Rattle.desk.specs.Host.{Call, At, Read, Write, Reset, Timer, Interrupt, Data, DataNumber, Step, Lap, called, table}
use Rattle.desk.specs.Ahead.{fetched_at, sets, NoneSets, ReadsAhead}
use Rattle.desk.proofs.Lapping.Shuffled.{good_step}
use Rattle.desk.proofs.Theorems.Shuffling.{good_called}

-- ---- the fetched byte is no byte that a step may move
step_unfetched : (net : List ℕ) (storing : Bool) (k : ℕ) → row_moves net storing k at_fetched ≡ false
step_unfetched net storing k = unmoved at_fetched (lit< tt) refl aside net storing k (λ _ _ _. held (chaining (regs_at net k)))
  where
    held : (c : Bool) → among (holder_bytes c) at_fetched ≡ false
    held true = refl
    held false = refl

    aside : (c : Bool) → among (storing_bytes c) at_fetched ≡ false
    aside true = refl
    aside false = refl

-- ---- a step, the steps of a lap, and every call that does not set it
module _ {n : ℕ} (k : ℕ) (l : k < n) where
  step_kept : (net : List ℕ) → Good n net → (fault : ℕ) → fetched_at (step net fault).after k ≡ fetched_at net k
  step_kept net g fault = (step_moves net g.fits g.rams fault k (omega (arith, g.count))).same at_fetched (step_unfetched net (stores net fault k) k)

  after_kept : (m : ℕ) (net : List ℕ) → Good n net → fetched_at (after m net) k ≡ fetched_at net k
  unfolding after
  after_kept zero net g = refl
  after_kept (suc m) net g = after_kept m (step net 0).after (good_step net g 0) ∙ step_kept net g 0

  row_kept : {net new : List ℕ} {j : ℕ} {moves : ℕ → Bool} → OnlyRow net new j moves → k < rows net → (eqb j k ≡ true → moves at_fetched ≡ false)
      → fetched_at new k ≡ fetched_at net k
  row_kept {net} {new} {j} o h m =
      ⊎_elim (λ (t : eqb j k ≡ true). rw (eqb-true j k t) at (o.row.same at_fetched (m t)))
      (λ (t : eqb j k ≡ false). ap (λ (r : List ℕ). get_or r at_fetched 0) (o.others k h (λ e. eqb-false j k t (sym e)))) (cases_Bool (eqb j k))

  module _ (net : List ℕ) (g : Good n net) where
    here : k < rows net
    here = omega (arith, g.count)

    write_kept : (r v : ℕ) → write_fetches r ≡ false → net_write_moves net k r v at_fetched ≡ false
    write_kept r v e =
        rw (write_unfetched (regs_at net k) r e, ne_eqb at_fetched (pointed (row_at net k)) (λ i. omega (arith, i)), and-false (eqb r 4))
        (and-false (not (on_line_at net k) && on_line (after_write (regs_at net k) r v)))

    call_kept : (c : Call) → sets k c net ≡ false → fetched_at (called c net) k ≡ fetched_at net k
    unfolding net_after_lap
    call_kept (At j (Read r)) e = row_kept (read_only net j r) here (λ t. rw (eqb-true j k t) (read_unfetched (regs_at net k) r (rw t at e)))
    call_kept (At j (Write r v b)) e = row_kept (write_only net j r v) here (λ t. rw (eqb-true j k t) (write_kept r v (rw t at e)))
    call_kept (At j Reset) e = row_kept (reset_only net j) here (λ t. absurd (true≢false (sym t ∙ e)))
    call_kept (At j Timer) e = row_kept (timer_only net j) here (λ t. refl)
    call_kept (At j Interrupt) e = refl
    call_kept (At j (Data p)) e = refl
    call_kept (At j (DataNumber p)) e = refl
    call_kept (Step fault) e = step_kept net g fault
    call_kept (Lap room) e = pick_of (λ (x : List ℕ). fetched_at x k ≡ fetched_at net k) (runs net room) (λ _. after_kept (lap_steps net) net g) (λ _. refl)

  calls_kept : (c : List Call) (net : List ℕ) → Good n net → NoneSets k c net → Good n (table c net) × (fetched_at (table c net) k ≡ fetched_at net k)
  unfolding table NoneSets
  calls_kept [] net g e = (g, refl)
  calls_kept (x ∷ c) net g e =
      let rest = calls_kept c (called x net) (good_called net g x) e.1 in
      (rest.0, rest.1 ∙ call_kept net g x e.0)

pub reads_ahead : ReadsAhead
reads_ahead net b s k l =
    let g : Good (rows net) net = record { fits = s; rams = bytes_rams net s b; count = refl } in
    record {
      answers = reading_fetched net s k l;
      taken = load_unrefused net s k l;
      loaded = loads net s k l;
      read_on = read_on net s k l;
      again = reads_again net s k l;
      reset = resets net s k l (row_placed net k s l);
      kept = call_kept k l net g;
      old_byte = λ v h c e. let new = net_after_write net k 3 v in
          let t = calls_kept k l c new (good_called net g (At k (Write 3 v h))) e in
          λ y. reading_fetched (table c new) t.0.fits k (omega (arith, t.0.count)) y ∙ t.1 ∙ loads net s k l v;
      as_before = λ c y. reading_fetched net s k l y ∙ c;
    }
