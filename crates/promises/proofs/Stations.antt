-- The right station: who stores a packet holds it, and nobody else's RAM moves; from the loaded order, it is the record that has the ID.
-- Assumes nothing.
use mathlib.Core.Path.{◌≡◌, refl, sym, ◌∙◌, ap}
use mathlib.Core.Bool.{Bool, true, false, ◌&&◌}
use mathlib.Core.List.{List, [], ◌∷◌}
use Prim.Native.Nat.{ℕ, ◌≤◌, ◌<◌}
use native.Mathlib.Omega.{arith}
use lib.Dec.{eqb, ltb}
use borrow.Author.Tests.{eqb-true, eq-eqb, ne_eqb, ltb-true}
use Rattle.bits.specs.Words.{among}
use Rattle.registers.specs.Layout.{at_status, at_diagnostic, at_nid}
use Rattle.registers.specs.Sides.{chaining}
use Rattle.bits.proofs.Words.Bools.{and_left, and_right, pick_of}
use Rattle.queues.specs.declared.queues.Queue.{Queue}
use Rattle.registers.proofs.Values.Fits.{rules_fit}
use Rattle.registers.proofs.Values.Ends.{received_ends, received_page}
use Rattle.registers.proofs.Values.Unqueued.{unqueued_fit}
use Rattle.line.proofs.Change.Made.{row_fits}
use Rattle.card.specs.Row.{register_bytes}
use Rattle.card.specs.Packets.{page_at}
use Rattle.table.specs.Network.{Bytes, rows, phase, holder, LOST, PASS, regs_at, on_line_at, shape}
use Rattle.table.proofs.Folds.{seek_is}
use Rattle.table.proofs.Online.Nodes.{node_of_lem, node_online, node_id}
use Rattle.table.proofs.Shaped.Shapes.{shape_ids}
use Rattle.table.proofs.Shaped.Alike.{bytes_rams}
use Rattle.table.proofs.Access.Placed.{data_there, number_there}
use Rattle.table.specs.Rows.{row_at}
use Rattle.line.specs.declared.traffic.Outcome.TheVariants.{Broadcast, Delivered}
use Rattle.line.specs.Step.{step}
use Rattle.line.specs.Outcomes.{sent_page, sent_to, stores, holder_bytes, row_moves}
use Rattle.line.proofs.Steps.Stepped.{held_row}
use Rattle.line.proofs.Steps.StepBy.{sound_step}
use Rattle.line.proofs.Promised.Bystanding.{fills}
use Rattle.line.proofs.Promised.TheHolder.{packet_reached}
use Rattle.line.proofs.Promised.EveryRow.{step_moves, held_taken, not_own_packet}
use Rattle.line.proofs.Promised.Who.{found_answers}
use Rattle.orders.specs.Form.{records, id_at, name_at}
use Rattle.desk.proofs.Loads.Loaded.{loaded_rows_lem, loaded_row_lem}
use Rattle.promises.specs.Station.{Stored, RamKept, StoredOrKept, Deliveries, Broadcasts, FromTheOrder}

-- ---- no place of the RAM is among the register bytes
beyond : (i a : ℕ) → register_bytes ≤ i → a < register_bytes → eqb i a ≡ false
beyond i a h l = ne_eqb i a (λ e. omega (arith, e))

abbrev in_registers : List ℕ → Bool
in_registers [] = true
in_registers (a ∷ l) = ltb a register_bytes && in_registers l

none_of : (i : ℕ) → register_bytes ≤ i → (l : List ℕ) → in_registers l ≡ true → among l i ≡ false
none_of i h [] e = refl
none_of i h (a ∷ l) e =
    rw (beyond i a h (ltb-true a register_bytes (and_left (ltb a register_bytes) (in_registers l) e)), none_of i h l (and_right (ltb a register_bytes) (in_registers l) e))

module _ (net : List ℕ) (j i : ℕ) (h : register_bytes ≤ i) (own : j ≡ holder net → i ≡ page_at (row_at net j) (sent_page net) → ⊥) where
  still : row_moves net false j i ≡ false
  still =
      pick_of (λ (x : Bool). x ≡ false) (eqb (phase net) LOST) (λ _. rw (beyond i at_status h (omega arith), beyond i at_nid h (omega arith)))
      (λ _. pick_of (λ (x : Bool). x ≡ false) (eqb (phase net) PASS) (λ _. rw (beyond i at_diagnostic h (omega arith), beyond i at_nid h (omega arith)) (none (eqb j (holder net))))
      (λ _. pick_of (λ (x : Bool). x ≡ false) (eqb j (holder net))
      (λ e. rw (none_of i h (holder_bytes (chaining (regs_at net j))) (low (chaining (regs_at net j)))) (ne_eqb i (page_at (row_at net j) (sent_page net)) (own (eqb-true j (holder net) e))))
      (λ _. rw (beyond i at_diagnostic h (omega arith)))))
    where
      low : (c : Bool) → in_registers (holder_bytes c) ≡ true
      low true = refl
      low false = refl

      none : (b : Bool) → (b && false) ≡ false
      none true = refl
      none false = refl

module _ (net : List ℕ) (bytes : Bytes net) (s : shape net ≡ true) (fault : ℕ) where
  abbrev new : List ℕ
  new = (step net fault).after

  kept : (j : ℕ) → j < rows net → stores net fault j ≡ false → RamKept net new j
  kept j l e i h own = (step_moves net s (bytes_rams net s bytes) fault j l).same i (rw e (still net j i h own))

  stored : (j : ℕ) → j < rows net → stores net fault j ≡ true → Stored net new j
  stored j l e =
      let b = bytes_rams net s bytes in
      let a = sound_step net s b fault in
      let f = fills net s b fault j l (λ p h. not_own_packet net s fault j h e) e in
      let lj : j < rows new = omega (arith, a.count) in
      record {
        waited = f.waited;
        filled = f.filled;
        ended = f.ended;
        plain = λ c. let g = regs_at net j in
            let fit = row_fits net j s l in
            let u = unqueued_fit g c (rules_fit g fit) in
            (f.filled ∙ received_ends g fit ∙ rw u.receive.second, ap (λ (q : Queue). q.oldest) f.ended ∙ received_page g fit ∙ rw u.receive.second);
        holds = f.holds;
        reads = data_there new j a.fits lj _ ∙ f.holds.bytes ∙ sym (data_there net (holder net) s (held_row net s) _);
        number = number_there new j a.fits lj _ ∙ f.holds.readable;
      }

pub stored_or_kept : StoredOrKept
stored_or_kept net bytes s fault j l = (stored net bytes s fault j l, kept net bytes s fault j l)

pub deliveries : Deliveries
deliveries net bytes s fault to shape e =
    let b = bytes_rams net s bytes in
    let r = packet_reached net (held_taken net s fault (Delivered to shape) e) s b fault (Delivered to shape) e in
    let f = found_answers net to r.0 in
    record {
      there = f.there;
      carries = f.carries;
      alone = λ j l c. shape_ids net s j to l f.there (node_online net j _ c) (node_online net to _ f.carries) (node_id net j _ c ∙ sym (node_id net to _ f.carries));
      away = f.other;
      stored = stored net bytes s fault to f.there (r.1.1 to ∙ eq-eqb to to refl);
      others = λ j l d. kept net bytes s fault j l (r.1.1 j ∙ ne_eqb j to d);
    }

pub broadcasts : Broadcasts
broadcasts net bytes s fault shape e j l =
    let b = bytes_rams net s bytes in
    let r = (packet_reached net (held_taken net s fault (Broadcast shape) e) s b fault (Broadcast shape) e).1 j l in
    (λ t. stored net bytes s fault j l (r ∙ t), λ t. kept net bytes s fault j l (r ∙ t))

pub from_the_order : FromTheOrder
from_the_order order lent net z same bytes s fault to shape e =
    let d = deliveries net bytes s fault to shape e in
    let count : rows net ≡ records order = same.count ∙ loaded_rows_lem order lent z in
    -- row k has record k's ID
    let has : (k : ℕ) → k < records order → (on_line_at net k ≡ true) × ((regs_at net k).id ≡ id_at order k)
    = λ k l. let g = loaded_row_lem order lent z k l in
    let i = loaded_rows_lem order lent z in
    (same.online k (omega (arith, i)) ∙ g.0, same.id k (omega (arith, i)) g.0 ∙ g.1) in
    let there : to < records order = omega (arith, d.there, count) in
    let id : id_at order to ≡ sent_to net = sym (has to there).1 ∙ node_id net to _ d.carries in
    let alone : (j : ℕ) → j < records order → id_at order j ≡ sent_to net → j ≡ to
    = λ j l i. d.alone j (omega (arith, count)) (node_of_lem net j (sent_to net) (has j l).0 ((has j l).1 ∙ i)) in
    record {
      there = there;
      has = id;
      alone = alone;
      named = ap (name_at order) (seek_is (λ k. eqb (id_at order k) (sent_to net)) (records order) to there (eq-eqb _ _ id)
          (λ j l. ne_eqb (id_at order j) (sent_to net) (λ (i : id_at order j ≡ sent_to net). omega (arith, alone j (omega (arith, l, there)) i))));
    }
