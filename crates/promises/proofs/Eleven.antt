-- C-20: a line step never answers 11, because SHAPE comes first, nor does any other call.
-- Assumes nothing.
use mathlib.Core.Path.{◌≡◌, sym, ◌∙◌, ap}
use mathlib.Core.Bool.{true, false, false≢true}
use mathlib.Core.List.{List}
use mathlib.Core.Logic.{⊎_elim}
use Prim.Native.Nat.{ℕ}
use native.Mathlib.Omega.{arith}
use lib.Dec.{eqb}
use borrow.Author.Tests.{eqb-false}
use Rattle.bits.specs.Words.{among}
use Rattle.std.proofs.lemmas.Bool.{cases_Bool}
use Rattle.told.specs.Refusals.{number_of}
use Rattle.told.proofs.Told.Smallest.{numbers_rise, never_11}
use Rattle.told.proofs.Told.One.{refusal_of, refusal_back}
use Rattle.table.specs.Network.{phase, LOST, shape}
use Rattle.table.proofs.Shaped.Shapes.{shape_holder}
use Rattle.line.proofs.Steps.Refused.{step_shadowed}
use Rattle.orders.specs.Form.{order_fits}
use Rattle.orders.proofs.Checks.Fit.{order_numbers, order_number}
use Rattle.desk.specs.Load.{load_number}
use Rattle.desk.proofs.Loads.Loaded.{number}
use Rattle.promises.specs.Promises.{holder_off_line, NumberEleven}
use Rattle.promises.proofs.Rising.{smallest_wins}

-- "outside LOST the holder is on line"
holder_on_line : (net : List ℕ) → shape net ≡ true → holder_off_line net ≡ false
holder_on_line net s =
    ⊎_elim (λ (t : eqb (phase net) LOST ≡ true). rw t)
    (λ (t : eqb (phase net) LOST ≡ false). rw (t, (shape_holder net s (eqb-false (phase net) LOST t)).1)) (cases_Bool (eqb (phase net) LOST))

shape_first : (net : List ℕ) → holder_off_line net ≡ true → shape net ≡ false
shape_first net h = ⊎_elim (λ s. absurd (false≢true (sym (holder_on_line net s) ∙ h))) (λ s. s) (cases_Bool (shape net))

load_never : (order net : List ℕ) → load_number order net ≡ 11 → ⊥
load_never order net e =
    ⊎_elim (λ o. never_11 _ _ (smallest_wins.load_room order net o) e)
    (λ o. false≢true (ap (among order_numbers) (sym e ∙ ap number (smallest_wins.load_order order net o)) ∙ order_number order o)) (cases_Bool (order_fits order))

pub number_eleven : NumberEleven
number_eleven = record {
  shape_first = shape_first;
  asked_too = λ net fault. step_shadowed net fault 11 (holder_off_line net) (holder_on_line net);
  step_of = λ net fault. never_11 _ _ (smallest_wins.step_of net fault);
  lap = λ net room. never_11 _ _ (smallest_wins.lap net room);
  load = load_never;
  any_call = never_11;
  once = numbers_rise;
  no_refusal = λ e h. omega (arith, sym h ∙ ap number_of (sym (refusal_back e) ∙ ap refusal_of h));
}
