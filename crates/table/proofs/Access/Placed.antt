-- A call to a row of a network: what SHAPE and ROW say, and each call that does not settle a row, put together from what its parts ensure.
-- Assumes nothing.
use mathlib.Core.Path.{◌≡◌, refl, sym, ◌∙◌, ap}
use mathlib.Core.Bool.{true, false, not}
use mathlib.Core.List.{List, ◌++◌}
use Prim.Native.Nat.{ℕ, suc, ◌+◌, ◌-◌, ◌≤◌, ◌<◌}
use lib.Dec.{leb}
use lib.ListN.{length}
use borrow.Author.Tests.{eq-eqb, leb-false, lt-leb, not-false}
use borrow.Rule.Slice.PartMut.{mid_of, put_mid}
use Rattle.told.specs.Numbers.{DONE, SHAPE, ROW, Refusal, told, refuses}
use Rattle.card.specs.Access.{value_read, row_after_read}
use Rattle.places.specs.Places.{onward}
use Rattle.places.proofs.Places.{onward_onward}
use Rattle.card.specs.Packets.{data_refusals, data_number, data_from, page_data}
use Rattle.told.proofs.Told.Smallest.{refuse_passed, told_second, told_both, none_refuses}
use Rattle.table.specs.Calls.{Reading}
use Rattle.table.specs.Rows.{header_bytes, row_start, row_at}
use Rattle.table.specs.Network.{rows, shape}
use Rattle.table.specs.Calls.{place_refusals, place_number, net_read_number, net_reading, net_after_read, net_write_number, timer_number, net_data_from, net_data, net_data_number}
use Rattle.table.proofs.Rows.Walks.{Lies, mid_row, row_done_lem}
use Rattle.table.proofs.Shaped.Shapes.{shape_least, shape_within}

-- row k is there: the header and its part lie in the network, and the place has the number 0
module _ (net : List ℕ) (k : ℕ) (s : shape net ≡ true) (l : k < rows net) where
  row_part : (header_bytes ≤ length net) × (row_start net (suc k) ≤ length net)
  row_part = (shape_least net s, shape_within net s k l)

  pub row_placed : place_number net k ≡ 0
  unfolding place_number place_refusals
  row_placed = rw (refuse_passed DONE SHAPE (not (shape net)) (ap not s), refuse_passed DONE ROW (leb (rows net) k) (lt-leb _ _ l))

  -- the page reader then is the card's
  pub data_there : (g : ℕ) → net_data net k g ≡ page_data (row_at net k) g
  unfolding net_data
  data_there g = rw row_placed

  pub number_there : (g : ℕ) → net_data_number net k g ≡ data_number (row_at net k) g
  unfolding net_data_number place_number
  number_there g = told_second (place_refusals net k) (data_refusals (row_at net k) g) row_placed

-- the number n is that of the place: 0 where the row is there
module _ (net : List ℕ) (k n : ℕ) (p : n ≡ place_number net k) where
  module _ (z : n ≡ 0) where
    none : (m : ℕ) → refuses (place_refusals net k) m ≡ false
    unfolding place_number place_refusals
    none = none_refuses (place_refusals net k) refl (sym p ∙ z)

    pub at_shape : shape net ≡ true
    unfolding place_refusals
    at_shape = not-false _ (none SHAPE)

    pub at_row : k < rows net
    unfolding place_refusals
    at_row = leb-false _ _ (none ROW)

    pub at_part : (header_bytes ≤ length net) × (row_start net (suc k) ≤ length net)
    at_part = row_part net k at_shape at_row

  -- and the call goes on with its own refusals l
  module _ (l : List Refusal) where
    pub placed_asked : n ≡ 0 → (m : ℕ) → m ≡ told l → m ≡ told (place_refusals net k ++ l)
    unfolding place_number
    placed_asked z m e = e ∙ sym (told_second (place_refusals net k) l (sym p ∙ z))

-- ---- the page reader, where the place is given: the page's data stand at y, in the row at x, in the network at w
pub data_stands : (net : List ℕ) (k g : ℕ) → place_number net k ≡ 0 → (r : List ℕ) → r ≡ row_at net k → (w x y : ℕ × ℕ) → x ≡ onward w (row_start net k)
    → (data_number r g ≡ 0 → y ≡ onward x (data_from r g))
    → net_data_number net k g ≡ 0
    → y ≡ onward w (net_data_from net k g)
unfolding net_data_number
data_stands net k g z r e w x y a h q =
    let d = placed_asked net k (place_number net k) refl _ z (data_number r g) (ap (λ (l : List ℕ). data_number l g) e) ∙ q in
    onward_onward w x y _ _ a (h d) ∙ ap (λ (l : List ℕ). onward w (row_start net k + data_from l g)) e

-- ---- a call with the number 0, whose refusals are those of the place and its own: its row is there
module _ (net : List ℕ) (k : ℕ) where
  placed : (l : List Refusal) → told (place_refusals net k ++ l) ≡ 0 → place_number net k ≡ 0
  unfolding place_number
  placed l z = (told_both (place_refusals net k) l z).0

  pub read_placed : (g : ℕ) → net_read_number net k g ≡ 0 → place_number net k ≡ 0
  unfolding net_read_number
  read_placed g = placed _

  pub write_placed : (g v : ℕ) → net_write_number net k g v ≡ 0 → place_number net k ≡ 0
  unfolding net_write_number
  write_placed g v = placed _

  pub data_placed : (g : ℕ) → net_data_number net k g ≡ 0 → place_number net k ≡ 0
  unfolding net_data_number
  data_placed g = placed _

  pub timer_placed : timer_number net k ≡ 0 → place_number net k ≡ 0
  unfolding timer_number
  timer_placed = placed _

  pub row_there : place_number net k ≡ 0 → (shape net ≡ true) × (k < rows net)
  row_there z = (at_shape net k (place_number net k) refl z, at_row net k (place_number net k) refl z)

-- ---- reading
module _ (net : List ℕ) (k g : ℕ) (z : net_read_number net k g ≡ 0) where
  pub read_part : (header_bytes ≤ length net) × (row_start net (suc k) ≤ length net)
  read_part = at_part net k (place_number net k) refl (read_placed net k g z)

  -- the row is lent from a to e
  pub read_done : (a e : ℕ) → Lies net k a e → (v : ℕ) (s : List ℕ) → v ≡ value_read (mid_of a (e - a) net) g → s ≡ row_after_read (mid_of a (e - a) net) g
      → (◌≡◌ {A = Reading} (record { number = 0; value = v }) (net_reading net k g)) × (put_mid a (e - a) net s ≡ net_after_read net k g)
  unfolding net_reading net_after_read
  read_done a e q v s c d = (rw (z, c, mid_row net k a e q), row_done_lem net k a e q (λ r. row_after_read r g) s d ∙ rw (eq-eqb _ _ z))

-- ---- the lost-token timer
pub timer_part : (net : List ℕ) (k : ℕ) → timer_number net k ≡ 0 → (header_bytes ≤ length net) × (row_start net (suc k) ≤ length net)
timer_part net k z = at_part net k (place_number net k) refl (timer_placed net k z)
