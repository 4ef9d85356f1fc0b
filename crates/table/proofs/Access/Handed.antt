-- What a call knows of the network behind a `?`.
-- Assumes nothing.
use mathlib.Core.Path.{◌≡◌, refl, sym, ◌∙◌}
use mathlib.Core.Bool.{Bool, true, not, ◌||◌}
use mathlib.Core.List.{List}
use Prim.Native.Nat.{ℕ, suc, ◌≤◌, ◌<◌}
use native.Mathlib.Omega.{arith}
use lib.Dec.{eqb, ltb}
use lib.ListN.{length}
use borrow.Author.Tests.{not-false}
use Rattle.std.proofs.Common.{Result, Ok}
use Rattle.told.specs.declared.refusals.Refusal.{Refusal}
use Rattle.told.specs.Numbers.{DONE, SHAPE, VALUE, refuse}
use Rattle.told.specs.declared.refusals.Refusal.TheVariants.{Shape, Value}
use Rattle.told.specs.Refusals.{number}
use Rattle.told.proofs.Told.Results.{is_done, passed_not}
use Rattle.table.specs.Rows.{header_bytes, row_start}
use Rattle.table.specs.Network.{row_limit, rows, shape}
use Rattle.table.specs.Calls.{place_number, net_read_number, timer_number, exact_length, fresh_number}
use Rattle.table.proofs.Rows.Starts.{start_header}
use Rattle.table.proofs.Shaped.Shapes.{shape_least}
use Rattle.table.proofs.Access.Placed.{at_shape, at_row, at_part, read_part, timer_part}
use Rattle.table.proofs.Access.Fresh.{fresh_small, fresh_fits, exact_least}

module _ {A : Type 0} (r : Result A Refusal) (v : A) (w : r ≡ Ok v) where
  module _ (net : List ℕ) where
    -- SHAPE is passed
    pub least_behind : (s : Bool) → number r ≡ refuse DONE SHAPE (not s) → s ≡ shape net → header_bytes ≤ length net
    least_behind s h e = shape_least net (sym e ∙ not-false s (passed_not r v Shape (not s) w h))

    -- the place is given
    module _ (k : ℕ) (h : number r ≡ place_number net k) where
      pub shape_behind : shape net ≡ true
      shape_behind = at_shape net k (place_number net k) refl (is_done r v _ w h)

      pub row_behind : k < rows net
      row_behind = at_row net k (place_number net k) refl (is_done r v _ w h)

      pub room_behind : row_start net (suc k) ≤ length net
      room_behind = (at_part net k (place_number net k) refl (is_done r v _ w h)).1

    pub read_behind : (k g : ℕ) → number r ≡ net_read_number net k g → row_start net (suc k) ≤ length net
    read_behind k g h = (read_part net k g (is_done r v _ w h)).1

    pub timer_behind : (k : ℕ) → number r ≡ timer_number net k → row_start net (suc k) ≤ length net
    timer_behind k h = (timer_part net k (is_done r v _ w h)).1

    pub timer_least : (k : ℕ) → number r ≡ timer_number net k → (now : List ℕ) → length now ≡ length net → header_bytes ≤ length now
    timer_least k h now e = omega (arith, e, start_header net (suc k) (timer_behind k h))

    -- a fresh network fills the bytes
    module _ (n : ℕ) (h : number r ≡ fresh_number net n) where
      fits : (n ≤ row_limit) × (length net ≡ exact_length n)
      fits = fresh_fits net n (fresh_number net n) refl (is_done r v _ w h)

      pub fresh_few : n < 256
      fresh_few = omega (arith, fits.0)

      pub fresh_exact : length net ≡ exact_length n
      fresh_exact = fits.1

      pub fresh_least : header_bytes ≤ length net
      fresh_least = omega (arith, fresh_exact, exact_least n)

  -- the fresh call's VALUE is passed
  pub few_behind : (n : ℕ) → number r ≡ refuse DONE VALUE (eqb n 0 || ltb row_limit n) → n < 256
  few_behind n h = let l = fresh_small n (passed_not r v Value (eqb n 0 || ltb row_limit n) w h) in omega (arith, l)

pub ruleset behind = (least_behind, shape_behind, row_behind, room_behind, read_behind, timer_behind, timer_least, few_behind, fresh_few, fresh_exact, fresh_least)
