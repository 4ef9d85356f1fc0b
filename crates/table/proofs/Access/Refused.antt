-- A refused call leaves the network as it was, and gives nothing beside its number.
-- Assumes nothing.
use mathlib.Core.Path.{◌≡◌, refl, sym}
use mathlib.Core.Bool.{true, false}
use mathlib.Core.List.{List, []}
use mathlib.Core.Logic.{⊎_elim}
use Prim.Native.Nat.{ℕ}
use lib.Dec.{eqb}
use borrow.Author.Tests.{ne_eqb, eqb-true}
use Rattle.card.specs.Packets.{data_refusals, data_number}
use Rattle.std.proofs.lemmas.Bool.{cases_Bool}
use Rattle.card.proofs.Pages.Refused as card
use Rattle.table.specs.Rows.{row_at}
use Rattle.table.specs.Calls.{place_number, net_reading, net_after_read, net_write_number, net_after_write, net_after_reset, timer_number, net_after_timer, net_interrupt, net_data, net_data_number, fresh_number, net_after_fresh}
use Rattle.table.proofs.Access.Placed.{placed_asked}

module _ (net : List ℕ) (k : ℕ) where
  pub read_refused : (g : ℕ) → ((net_reading net k g).number ≡ 0 → ⊥) → (net_after_read net k g ≡ net) × ((net_reading net k g).value ≡ 0)
  unfolding net_reading net_after_read
  read_refused g n = (rw (ne_eqb _ _ n), rw (ne_eqb _ _ n))

  pub write_refused : (g v : ℕ) → (net_write_number net k g v ≡ 0 → ⊥) → net_after_write net k g v ≡ net
  unfolding net_after_write
  write_refused g v n = rw (ne_eqb _ _ n)

  pub reset_refused : (place_number net k ≡ 0 → ⊥) → net_after_reset net k ≡ net
  unfolding net_after_reset
  reset_refused n = rw (ne_eqb _ _ n)

  pub timer_refused : (timer_number net k ≡ 0 → ⊥) → net_after_timer net k ≡ net
  unfolding net_after_timer
  timer_refused n = rw (ne_eqb _ _ n)

  pub interrupt_refused : ((net_interrupt net k).number ≡ 0 → ⊥) → (net_interrupt net k).active ≡ false
  unfolding net_interrupt
  interrupt_refused n = rw (ne_eqb _ _ n)

  -- the place and the card refuse nothing
  data_done : (p : ℕ) → place_number net k ≡ 0 → data_number (row_at net k) p ≡ 0 → net_data_number net k p ≡ 0
  unfolding net_data_number
  data_done p t z = sym (placed_asked net k 0 (sym t) (data_refusals (row_at net k) p) refl 0 (sym z))

  pub data_refused : (p : ℕ) → (net_data_number net k p ≡ 0 → ⊥) → net_data net k p ≡ []
  unfolding net_data net_data_number
  data_refused p n =
      ⊎_elim (λ (t : eqb (place_number net k) 0 ≡ true). rw t (card.data_refused (row_at net k) p (λ z. n (data_done p (eqb-true _ _ t) z))))
      (λ (t : eqb (place_number net k) 0 ≡ false). rw t) (cases_Bool (eqb (place_number net k) 0))

  pub fresh_refused : (fresh_number net k ≡ 0 → ⊥) → net_after_fresh net k ≡ net
  unfolding net_after_fresh
  fresh_refused n = rw (ne_eqb _ _ n)
