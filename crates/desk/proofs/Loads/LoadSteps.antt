-- Loading as the code goes: each write keeps SHAPE and the number of rows, whatever the rows were, and the calls put together give the network.
-- Assumes nothing.
use mathlib.Core.Path.{◌≡◌, refl, sym, ◌∙◌, ap}
use mathlib.Core.Bool.{Bool, true, false}
use mathlib.Core.List.{List}
use Prim.Native.Nat.{ℕ, zero, suc, ◌+◌, ◌≤◌, ◌<◌}
use native.Mathlib.Numerals.{add-one}
use native.Mathlib.Omega.{arith}
use borrow.Author.Tests.{eq-eqb, ne_eqb, eqb-false}
use lib.ListN.{length}
use Rattle.std.proofs.Common.{Result, Ok, Err}
use Rattle.std.specs.Result.{IsErrAnd}
use Rattle.told.specs.declared.refusals.Refusal.{Refusal}
use Rattle.told.specs.Refusals.{number_of}
use Rattle.told.proofs.Told.Results.{not_done}
use Rattle.orders.specs.declared.bad.Bad.{Bad}
use Rattle.bits.specs.Words.{pick, has}
use Rattle.table.specs.Network.{rows, shape}
use Rattle.table.specs.Calls.{net_after_write, fresh_number, net_after_fresh, fresh_net}
use Rattle.table.proofs.Access.Fresh.{fresh_room, fresh_net_lem, header_fresh}
use Rattle.table.proofs.Access.ShapeCalls.{shape_write, shape_fresh}
use Rattle.table.proofs.Access.Beside.{beside_count, write_beside}
use Rattle.told.specs.Numbers.{DONE}
use Rattle.orders.specs.Check.{Checked}
use Rattle.orders.specs.Form.{records, record_at, id_at, flags_of, RECEIVE, LONG, order_fits}
use Rattle.orders.specs.Check.{verdict, tells, checked}
use Rattle.orders.proofs.Checks.Fit.{fits_told, told_fits, order_records}
use Rattle.desk.specs.Load.{set19, set_id, set_long, set_receive, loaded_row, loaded_rows, loading, load_number, net_after_load}
use Rattle.desk.proofs.Loads.Unfit.{load_order}
use Rattle.desk.proofs.Loads.Loaded.{number, load_room, load_refused}

fresh_kept : (net : List ℕ) (n : ℕ) → (fresh_number net n ≡ 0 → ⊥) → net_after_fresh net n ≡ net
unfolding net_after_fresh
fresh_kept net n u = rw (ne_eqb (fresh_number net n) 0 u)

-- `new` may be written where `net` may
pub record Writable (net new : List ℕ) : Type 0 where
  pub shaped : shape new ≡ true
  pub count : rows new ≡ rows net
  pub long : length new ≡ length net

pub at_place : (net : List ℕ) (k : ℕ) → k < rows net → (x y : List ℕ) → x ≡ y → Writable net y → (shape x ≡ true) × (k < rows x)
at_place net k l x y e h = rw e (h.shaped, omega (arith, h.count))

-- ---- a row
pub rows_write : (net : List ℕ) (s : shape net ≡ true) (k : ℕ) → k < rows net → (r v : ℕ) → rows (net_after_write net k r v) ≡ rows net
rows_write net s k l r v = beside_count (write_beside net s k l r v)

module _ (net : List ℕ) (k : ℕ) (p : (shape net ≡ true) × (k < rows net)) where
  writable_write : (a : List ℕ) → Writable net a → (r v : ℕ) → Writable net (net_after_write a k r v)
  writable_write a h r v =
      let b = write_beside a h.shaped k (omega (arith, h.count, p.1)) r v in
      record { shaped = shape_write a h.shaped k r v; count = beside_count b ∙ h.count; long = b.long ∙ h.long }

  writable_pick : (b : Bool) (a : List ℕ) → Writable net a → (r v : ℕ) → Writable net (pick b (net_after_write a k r v) a)
  writable_pick true a h r v = writable_write a h r v
  writable_pick false a h r v = h

  pub writable_19 : Writable net (set19 net k)
  writable_19 = writable_write net (record { shaped = p.0; count = refl; long = refl }) 6 0x19

  module _ (i flags : ℕ) where
    pub writable_id : Writable net (set_id (set19 net k) k i)
    writable_id = writable_write _ writable_19 7 i

    pub writable_long : Writable net (set_long (set_id (set19 net k) k i) k flags)
    writable_long = writable_pick (has LONG flags) _ writable_id 1 0x0d

    pub writable_receive : Writable net (set_receive (set_long (set_id (set19 net k) k i) k flags) k flags)
    writable_receive = writable_pick (has RECEIVE flags) _ writable_long 1 0x84

    pub writable_row : Writable net (loaded_row net k i flags)
    unfolding loaded_row
    writable_row = writable_write _ writable_receive 6 0x38

-- ---- the rows, one after another
module _ (order net : List ℕ) where
  pub rows_none : loaded_rows order net 0 ≡ net
  unfolding loaded_rows
  rows_none = refl

  pub rows_more : (k : ℕ) (x : List ℕ) → x ≡ loaded_rows order net k → (i : ℕ) → i ≡ id_at order k → (flags : ℕ) → flags ≡ flags_of (record_at order k)
      → (y : List ℕ) → y ≡ loaded_row x k i flags → y ≡ loaded_rows order net (k + 1)
  unfolding loaded_rows
  rows_more k x e i p flags q y a = a ∙ rw (e, p, q, add-one)

  writable_rows : shape net ≡ true → (k : ℕ) → k ≤ rows net → Writable net (loaded_rows order net k)
  unfolding loaded_rows
  writable_rows s zero l = record { shaped = s; count = refl; long = refl }
  writable_rows s (suc k) l =
      let h = writable_rows s k (omega arith) in
      let r = writable_row (loaded_rows order net k) k (h.shaped, omega (arith, h.count)) (id_at order k) (flags_of (record_at order k)) in
      record { shaped = r.shaped; count = r.count ∙ h.count; long = r.long ∙ h.long }

-- ---- what `?` hands on, and that a refusal is not DONE
pub handed : (r : Result Unit Bad) (b : Bad) → IsErrAnd r (λ y. y ≡ b) → verdict r ≡ verdict (Err b)
handed (Ok u) b h = absurd h
handed (Err y) b h = ap (λ (x : Bad). verdict (Err x)) h

pub number_not_told : (e : Refusal) → number_of e ≡ DONE → ⊥
number_not_told e = eqb-false (number_of e) DONE (not_done e)

pub not_told : (b : Bad) → number_of b.refusal ≡ DONE → ⊥
not_told b = number_not_told b.refusal

-- ---- the call
module _ (order net : List ℕ) (c : Checked) (e : c ≡ checked order) where
  pub is_unfit : (c.number ≡ DONE → ⊥) → (c ≡ loading order net) × (net ≡ net_after_load order net)
  is_unfit u =
      let l = e ∙ sym (load_order order net (λ z. u (ap number e ∙ z))) in
      (l, sym (load_refused order net (λ z. u (ap number l ∙ z))))

  module _ (h : c.number ≡ DONE) (n : ℕ) (q : n ≡ records order) (m : ℕ) (p : m ≡ fresh_number net n) (x : List ℕ) (r : x ≡ net_after_fresh net n) where
    fits : order_fits order ≡ true
    fits = told_fits order (sym (ap number e) ∙ h)

    told_is : tells m 0 ≡ loading order net
    told_is =
        let b = order_records order fits in
        ap (λ (i : ℕ). tells i 0) (p ∙ ap (fresh_number net) q ∙ fresh_room net (records order) b.0 b.1) ∙ sym (load_room order net fits)

    number_is : m ≡ load_number order net
    number_is = ap number told_is

    pub is_refused : (m ≡ 0 → ⊥) → (tells m 0 ≡ loading order net) × (x ≡ net_after_load order net)
    unfolding net_after_load
    is_refused u = (told_is, r ∙ fresh_kept net n (λ z. u (p ∙ z)) ∙ rw (← number_is, ne_eqb m 0 u))

    module _ (z : m ≡ 0) where
      made : x ≡ fresh_net n
      made = r ∙ fresh_net_lem net n (sym p ∙ z)

      pub at_row : (k : ℕ) → k < n → (y : List ℕ) → y ≡ loaded_rows order x k → (shape y ≡ true) × (k < rows y)
      at_row k l y a =
          let b = order_records order fits in
          let w : rows x ≡ n = rw made (header_fresh n).0 in
          at_place x k (omega arith) y (loaded_rows order x k) a
          (writable_rows order x (rw made (shape_fresh n (omega arith) (omega arith))) k (omega arith))

      pub is_loaded : (k : ℕ) → k ≡ n → (y : List ℕ) → y ≡ loaded_rows order x k → (c ≡ loading order net) × (y ≡ net_after_load order net)
      unfolding net_after_load
      is_loaded k l y a = (
        e ∙ fits_told order fits ∙ ap (λ (i : ℕ). tells i 0) (sym z) ∙ told_is,
        a ∙ rw (← number_is, eq-eqb m 0 z, r, l, q),
      )
