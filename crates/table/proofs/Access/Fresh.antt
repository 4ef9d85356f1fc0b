-- The fresh call: its refusals, and the header and the rows that it writes.
-- Assumes nothing.
use mathlib.Core.Path.{◌≡◌, refl, sym, ◌∙◌, ap}
use mathlib.Core.Bool.{Bool, true, false, not, ◌||◌}
use mathlib.Core.List.{List, [], ◌∷◌, ◌++◌}
use Prim.Native.Nat.{ℕ, ◌+◌, ◌-◌, ◌≤◌, ◌<◌, ◌*◌}
use native.Mathlib.Nat.{add-zero}
use native.Mathlib.Omega.{arith}
use lib.Dec.{eqb, ltb}
use lib.ListN.{length, take, drop, replicate, length-append, length-drop, drop_of_length-le}
use borrow.Author.Tests.{eq-eqb, ne_eqb, eqb-true, ltb-false, le-ltb, not-false, eqb-false}
use borrow.Rule.Slice.PartMut.{put_mid}
use Rattle.told.specs.Numbers.{DONE, VALUE, ROOM, refuse, refuses}
use Rattle.card.specs.Row.{row_bytes}
use Rattle.card.specs.Access.{fresh_row}
use Rattle.bits.proofs.Words.Bools.{or_right, or_left}
use Rattle.told.proofs.Told.Smallest.{refuse_held, refuse_stays, refuse_passed, none_refuses}
use Rattle.card.proofs.Rows.WellFormed.{length_fresh, fresh_whole}
use Rattle.table.specs.Rows.{header_bytes, row_start, row_at, joined}
use Rattle.table.specs.Network.{mark, row_limit, rows, phase, LOST}
use Rattle.table.specs.Calls.{fresh_rows, fresh_net, exact_length, fresh_refusals, fresh_number, net_after_fresh}
use Rattle.table.proofs.Rows.View.{view_at, view_end}
use Rattle.table.proofs.Rows.Passes.{Laying, lay_length, lay_next, lay_end}

-- ---- the refusals
abbrev bad : ℕ → Bool
bad n = eqb n 0 || ltb row_limit n

pub fresh_small : (n : ℕ) → bad n ≡ false → n ≤ row_limit
fresh_small n b = ltb-false _ _ (or_right (eqb n 0) (ltb row_limit n) b)

module _ (net : List ℕ) (n : ℕ) where
  pub fresh_value : bad n ≡ true → VALUE ≡ fresh_number net n
  unfolding fresh_number fresh_refusals
  fresh_value b = rw (refuse_held VALUE (bad n) b, refuse_stays VALUE ROOM (not (eqb (length net) (exact_length n))) (λ z. omega arith))

  pub fresh_asked : bad n ≡ false → (r : ℕ) → r ≡ refuse DONE ROOM (not (eqb (length net) (exact_length n))) → r ≡ fresh_number net n
  unfolding fresh_number fresh_refusals
  fresh_asked b r e = rw (refuse_passed DONE VALUE (bad n) b) e

-- ---- the length
pub exact_least : (n : ℕ) → header_bytes ≤ exact_length n
unfolding exact_length
exact_least n = omega arith

pub exact_mono : (n m : ℕ) → n ≤ m → exact_length n ≤ exact_length m
unfolding exact_length
exact_mono n m l = omega arith

-- that of the longest network, as the code has it
pub exact_most : exact_length row_limit ≡ header_bytes + row_bytes * row_limit
unfolding exact_length
exact_most = refl

pub exact_none : header_bytes ≡ exact_length 0
unfolding exact_length
exact_none = refl

-- ---- a turn of the loop that lays the rows: k of n are laid, and a is where the next begins
module _ (net now : List ℕ) (n k a : ℕ) (h : exact_length n ≤ length net) (p : a ≡ exact_length k) (q : Laying (λ j. fresh_row) net now k a) where
  pub fresh_length : k ≤ n → length now ≡ length net
  unfolding exact_length
  fresh_length l = lay_length _ net now k a q (omega arith)

  pub fresh_part : k < n → a + row_bytes ≤ length now
  unfolding exact_length
  fresh_part l = omega (arith, fresh_length (omega arith))

  pub fresh_next : k < n → (r : List ℕ) → r ≡ fresh_row
      → (a + row_bytes ≡ exact_length (k + 1)) × Laying (λ j. fresh_row) net (put_mid a (a + row_bytes - a) now r) (k + 1) (a + row_bytes)
  unfolding exact_length
  fresh_next l r e = (omega arith, lay_next _ net now k a q (a + row_bytes) (omega arith) r e (ap length e ∙ omega (arith, length_fresh)))

  pub fresh_laid : k ≡ n → now ≡ take header_bytes net ++ joined (λ j. fresh_row) 0 n (drop (exact_length n) net)
  fresh_laid e = lay_end _ net now k a q n e (exact_length n) (p ∙ ap exact_length e)

-- ---- the header over zeros
abbrev header : ℕ → List ℕ
header n = mark ++ (1 ∷ n ∷ replicate 12 0)

-- ---- the call, whose number is r
module _ (net : List ℕ) (n r : ℕ) (p : r ≡ fresh_number net n) where
  module _ (z : r ≡ 0) where
    none : (m : ℕ) → refuses (fresh_refusals net n) m ≡ false
    unfolding fresh_number fresh_refusals
    none = none_refuses (fresh_refusals net n) refl (sym p ∙ z)

    pub fresh_fits : (n ≤ row_limit) × (length net ≡ exact_length n)
    unfolding fresh_refusals
    fresh_fits = (fresh_small n (none VALUE), eqb-true _ _ (not-false _ (none ROOM)))

    pub fresh_some : 0 < n
    unfolding fresh_refusals
    fresh_some = let e = eqb-false n 0 (or_left (eqb n 0) (ltb row_limit n) (none VALUE)) in omega arith

    pub fresh_done : (x : List ℕ) → x ≡ header n ++ drop header_bytes net
        → (m : List ℕ) → m ≡ take header_bytes x ++ joined (λ k. fresh_row) 0 n (drop (exact_length n) x)
        → m ≡ net_after_fresh net n
    unfolding net_after_fresh fresh_net fresh_rows
    fresh_done x e m a =
        let w = ap length e ∙ length-append (header n) (drop header_bytes net) in
        let l : length x ≤ exact_length n = omega (arith, length-drop header_bytes net, fresh_fits.1, exact_least n) in
        a ∙ rw (drop_of_length-le x l, e, ← p, eq-eqb _ _ z)

-- ---- the call for 1 to row_limit rows: ROOM, or the network is made
module _ (net : List ℕ) (n : ℕ) where
  pub fresh_room : 0 < n → n ≤ row_limit → fresh_number net n ≡ refuse DONE ROOM (not (eqb (length net) (exact_length n)))
  fresh_room a b = sym (fresh_asked net n (rw (ne_eqb n 0 (λ e. omega arith)) (le-ltb row_limit n b)) _ refl)

  pub fresh_net_lem : fresh_number net n ≡ 0 → net_after_fresh net n ≡ fresh_net n
  unfolding net_after_fresh
  fresh_net_lem z = rw z

-- ---- the header and the rows of a fresh network
pub header_fresh : (n : ℕ) → (rows (fresh_net n) ≡ n) × (phase (fresh_net n) ≡ LOST)
unfolding fresh_net
header_fresh n = (refl, refl)

pub length_fresh_net : (n : ℕ) → length (fresh_net n) ≡ row_start (fresh_net n) n
unfolding fresh_net fresh_rows
length_fresh_net n = sym (view_end (header n) refl (λ k. fresh_row) n (λ k l. fresh_whole) []) ∙ add-zero _

pub row_at_fresh : (n k : ℕ) → k < n → row_at (fresh_net n) k ≡ fresh_row
unfolding fresh_net fresh_rows
row_at_fresh n k l = view_at (header n) refl (λ k. fresh_row) n (λ k l. fresh_whole) [] k l
