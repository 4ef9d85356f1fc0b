-- A page whose reader is refused gives nothing, and a page above 3 is; its list of refusals rises.
-- Assumes nothing.
use mathlib.Core.Path.{◌≡◌, refl}
use mathlib.Core.Bool.{true, false, false≢true, ◌||◌}
use mathlib.Core.List.{List, []}
use mathlib.Core.Logic.{⊎_elim}
use Prim.Native.Nat.{ℕ}
use native.Mathlib.Omega.{arith}
use lib.Dec.{ltb}
use lib.ListN.{take}
use Rattle.card.specs.declared.packets.Shape.{Shape}
use Rattle.card.specs.declared.packets.Shape.TheVariants.{Malformed, Short, Long}
use Rattle.told.specs.Numbers.{DONE, ROW, VALUE, numbers_of, rises_from}
use Rattle.card.specs.Packets.{malformed, data_bytes, page_shape, data_refusals, data_number, page_data}
use Rattle.std.proofs.lemmas.Bool.{cases_Bool}
use Rattle.told.proofs.Told.Smallest.{refuse_held, refuse_passed}

no_data : (s : Shape) (l : List ℕ) → malformed s ≡ true → take (data_bytes s) l ≡ []
no_data Malformed l e = refl
no_data (Short c) l e = absurd (false≢true e)
no_data (Long c) l e = absurd (false≢true e)

pub data_refused : (r : List ℕ) (k : ℕ) → (data_number r k ≡ 0 → ⊥) → page_data r k ≡ []
unfolding page_data data_refusals
data_refused r k n =
    ⊎_elim (λ (t : ltb 3 k ≡ true). rw t)
    (λ (t : ltb 3 k ≡ false). rw t
    (⊎_elim (λ (m : malformed (page_shape r k) ≡ true). no_data (page_shape r k) _ m)
    (λ (m : malformed (page_shape r k) ≡ false). absurd (n (refuse_passed DONE VALUE (ltb 3 k || malformed (page_shape r k)) (rw (t, m)))))
    (cases_Bool (malformed (page_shape r k)))))
    (cases_Bool (ltb 3 k))

pub page_refused : (r : List ℕ) (k : ℕ) → ltb 3 k ≡ true → data_number r k ≡ 0 → ⊥
unfolding data_refusals
page_refused r k t e = let f = refuse_held VALUE (ltb 3 k || malformed (page_shape r k)) (rw t) in omega (arith, f, e)

pub data_rises : (r : List ℕ) (p : ℕ) → rises_from ROW (numbers_of (data_refusals r p)) ≡ true
unfolding data_refusals
data_rises r p = refl
