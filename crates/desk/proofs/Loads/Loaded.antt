-- Loading an order that fits: no write is refused, and the network has a row on line for each record, with its ID, in LOST.
-- Assumes nothing.
use mathlib.Core.Path.{◌≡◌, sym, ◌∙◌, ap}
use mathlib.Core.Bool.{true, false}
use mathlib.Core.List.{List}
use mathlib.Core.Logic.{⊎_elim}
use Prim.Native.Nat.{ℕ, zero, suc, ◌*◌, ◌≤◌, ◌<◌}
use native.Mathlib.Nat.{not-suc-le-zero, le_of_suc-le-suc, eq-or-lt_of_le}
use native.Mathlib.Omega.{arith}
use lib.Dec.{eqb, ltb}
use lib.ListN.{length}
use borrow.Author.Tests.{ne_eqb, eqb-true, eqb-false, ltb-true, ltb-false}
use Rattle.card.specs.Row.{regs_of}
use Rattle.registers.specs.Registers.{hardware_reset}
use Rattle.told.specs.Numbers.{DONE, told}
use Rattle.card.specs.Access.{fresh_row}
use Rattle.std.proofs.lemmas.Bool.{cases_Bool}
use Rattle.card.proofs.Rows.WellFormed.{fresh_off}
use Rattle.card.proofs.Rows.WellFormed.{regs_fresh}
use Rattle.table.specs.Rows.{row_at}
use Rattle.table.specs.Network.{rows, phase, LOST, regs_at, on_line_at, is_node, shape}
use Rattle.table.specs.Calls.{net_after_fresh, fresh_net}
use Rattle.table.proofs.Folds.{clash}
use Rattle.table.proofs.Online.Nodes.{online_is, node_online, node_id, online_same}
use Rattle.table.proofs.Access.Fresh.{fresh_room, fresh_net_lem, header_fresh, row_at_fresh}
use Rattle.table.proofs.Access.ShapeCalls.{shape_fresh}
use Rattle.orders.specs.Check.{Checked}
use Rattle.orders.specs.Form.{record_bytes, records, record_at, id_at, flags_of, order_fits}
use Rattle.orders.specs.Check.{tells, checked}
use Rattle.orders.proofs.Forms.Records.{records_within}
use Rattle.orders.proofs.Checks.Fit.{fits_told, told_fits, order_records, order_id, order_differ, bad_within}
use Rattle.desk.specs.Load.{loaded_row, loaded_rows, room_refusals, loading, load_number, net_after_load}
use Rattle.desk.proofs.Loads.Unfit.{load_order}
use Rattle.desk.proofs.Loads.LoadRow.{Unrefused, row_unrefused, row_loaded, row_on}

abbrev pub number : Checked → ℕ
number c = c.number

abbrev OnLine : List ℕ → ℕ → ℕ → Type 0
OnLine net k i = (on_line_at net k ≡ true) × ((regs_at net k).id ≡ i)

-- the first k records are loaded, and the other rows are fresh
record Loaded (order net : List ℕ) (k : ℕ) : Type 0 where
  shaped : shape net ≡ true
  lost : phase net ≡ LOST
  count : rows net ≡ records order
  done : (j : ℕ) → j < k → OnLine net j (id_at order j)
  rest : (j : ℕ) → k ≤ j → j < records order → row_at net j ≡ fresh_row

fresh_row_off : (net : List ℕ) (j : ℕ) → row_at net j ≡ fresh_row → on_line_at net j ≡ false
fresh_row_off net j e = sym (online_is net j (regs_of fresh_row) false (sym (ap regs_of e)) (sym fresh_off))

module _ (order : List ℕ) (o : order_fits order ≡ true) where
  loaded_none : Loaded order (fresh_net (records order)) 0
  loaded_none =
      let n = records order in
      let h = header_fresh n in
      let r = order_records order o in record {
        shaped = shape_fresh n r.0 r.1;
        lost = h.1;
        count = h.0;
        done = λ j l. absurd (not-suc-le-zero l);
        rest = λ j _ l. row_at_fresh n j l;
      }

  module _ (net : List ℕ) (k : ℕ) (w : Loaded order net k) (l : k < records order) where
    abbrev i : ℕ
    i = id_at order k

    abbrev flags : ℕ
    flags = flags_of (record_at order k)

    low : k < rows net
    low = omega (arith, w.count)

    -- no other row is a node with the record's ID
    alone : (j : ℕ) → j < rows net → (j ≡ k → ⊥) → is_node net i j ≡ false
    alone j lj ne =
        ⊎_elim
        (λ t. ⊎_elim
        (λ b. absurd (ne (order_differ order o j k (omega (arith, w.count)) l (sym (w.done j (ltb-true j k b)).1 ∙ node_id net j i t))))
        (λ b. absurd (clash (node_online net j i t) (fresh_row_off net j (w.rest j (ltb-false j k b) (omega (arith, w.count))))))
        (cases_Bool (ltb j k)))
        (λ t. t) (cases_Bool (is_node net i j))

    reset : regs_at net k ≡ hardware_reset
    reset = ap regs_of (w.rest k (omega arith) l) ∙ regs_fresh

    named : eqb i 0 ≡ false
    named = ne_eqb i 0 (λ e. omega (arith, order_id order o k l))

    loaded_unrefused : Unrefused net k i flags
    loaded_unrefused = row_unrefused net w.shaped w.lost k low reset i flags named alone

    loaded_more : Loaded order (loaded_row net k i flags) (suc k)
    loaded_more =
        let x = row_loaded net w.shaped w.lost k low reset i flags named alone in record {
          shaped = x.shaped;
          lost = x.lost;
          count = x.count ∙ w.count;
          done = λ j b. ⊎_elim
              (λ e. rw e (row_on net w.shaped w.lost k low reset i flags named alone))
              (λ b. let same = x.others j (omega arith) (λ e. omega arith) in
              (online_same net (loaded_row net k i flags) j same ∙ (w.done j b).0, ap (λ r. (regs_of r).id) same ∙ (w.done j b).1))
              (eq-or-lt_of_le (le_of_suc-le-suc b));
          rest = λ j b lj. x.others j (omega (arith, w.count)) (λ e. omega arith) ∙ w.rest j (omega arith) lj;
        }

  loaded_first : (k : ℕ) → k ≤ records order → Loaded order (loaded_rows order (fresh_net (records order)) k) k
  unfolding loaded_rows
  loaded_first zero l = loaded_none
  loaded_first (suc k) l = loaded_more (loaded_rows order (fresh_net (records order)) k) k (loaded_first k (omega arith)) l

-- ---- what is told: of the order, and then ROOM, as the fresh call tells it
module _ (order net : List ℕ) where
  pub order_first : order_fits order ≡ false → loading order net ≡ checked order
  order_first o = load_order order net (λ z. clash (told_fits order z) o)

  pub load_room : order_fits order ≡ true → loading order net ≡ tells (told (room_refusals order net)) 0
  unfolding loading
  load_room o = rw (fits_told order o)

  -- the record that is named is one of the order's
  pub load_within : (c : Checked) → c ≡ loading order net → record_bytes * c.bad ≤ length order
  unfolding loading
  load_within c e = rw e (omega (arith, bad_within order, records_within order))

  pub load_refused : (load_number order net ≡ 0 → ⊥) → net_after_load order net ≡ net
  unfolding net_after_load
  load_refused n = rw (ne_eqb _ _ n)

-- ---- an order that is loaded
module _ (order net : List ℕ) (z : load_number order net ≡ 0) where
  pub loaded_fits : order_fits order ≡ true
  loaded_fits =
      ⊎_elim (λ t. told_fits order (eqb-true _ _ t))
      (λ t. let u = eqb-false (checked order).number DONE t in absurd (u (sym (ap number (load_order order net u)) ∙ z)))
      (cases_Bool (eqb (checked order).number DONE))

  made : net_after_fresh net (records order) ≡ fresh_net (records order)
  made =
      let r = order_records order loaded_fits in
      fresh_net_lem net (records order) (fresh_room net (records order) r.0 r.1 ∙ sym (ap number (load_room order net loaded_fits)) ∙ z)

  pub never_refused : (k : ℕ) → k < records order
      → Unrefused (loaded_rows order (net_after_fresh net (records order)) k) k (id_at order k) (flags_of (record_at order k))
  never_refused k l =
      rw made (loaded_unrefused order loaded_fits (loaded_rows order (fresh_net (records order)) k) k (loaded_first order loaded_fits k (omega arith)) l)

  whole : Loaded order (net_after_load order net) (records order)
  unfolding net_after_load
  whole = rw (z, made) (loaded_first order loaded_fits (records order) (omega arith))

  pub loaded_shape : shape (net_after_load order net) ≡ true
  loaded_shape = whole.shaped

  pub loaded_lost : phase (net_after_load order net) ≡ LOST
  loaded_lost = whole.lost

  pub loaded_rows_lem : rows (net_after_load order net) ≡ records order
  loaded_rows_lem = whole.count

  pub loaded_row_lem : (k : ℕ) → k < records order → (on_line_at (net_after_load order net) k ≡ true) × ((regs_at (net_after_load order net) k).id ≡ id_at order k)
  loaded_row_lem = whole.done
