-- What a network that SHAPE does not refuse is like, part by part, and what makes one.
-- Assumes nothing.
use mathlib.Core.Path.{◌≡◌, sym}
use mathlib.Core.Bool.{true, false, ◌&&◌}
use mathlib.Core.List.{List}
use mathlib.Core.Logic.{⊎_elim}
use Prim.Native.Nat.{ℕ, suc, ◌≤◌, ◌<◌}
use native.Mathlib.Omega.{arith}
use lib.Dec.{eqb, leb, ltb}
use lib.ListN.{length}
use borrow.Author.Tests.{eqb-true, eqb-false, eq-eqb, ne_eqb, ltb-true, ltb-false, lt-ltb, le-leb, not-true}
use Rattle.card.specs.Row.{Whole, well_formed}
use Rattle.std.proofs.lemmas.Bool.{cases_Bool}
use Rattle.bits.proofs.Words.Bools.{and_left, and_right, and_five}
use Rattle.table.specs.Folds.{some}
use Rattle.table.specs.Rows.{header_bytes, row_start, row_at}
use Rattle.table.specs.Network.{row_limit, rows, phase, holder, LOST, regs_at, on_line_at, is_node, header_fits, rows_fit, ids_differ, holder_fits, shape}
use Rattle.table.proofs.Folds.{clash, every_at, every_of, some_fails, some_not}
use Rattle.table.proofs.Rows.Starts.{start_header}
use Rattle.table.proofs.Rows.WithRows.{row_within, row_whole}
use Rattle.table.proofs.Rows.Headers.{header_rows, header_phase, header_length}
use Rattle.table.proofs.Online.Nodes.{node_of_lem, free}

-- ---- on-line IDs
abbrev pub Differ : List ℕ → ℕ → Type 0
Differ net n = (j k : ℕ) → j < n → k < n → on_line_at net j ≡ true → on_line_at net k ≡ true → (regs_at net j).id ≡ (regs_at net k).id → j ≡ k

-- no row below k has the ID of row k, both on line
ids_below : (net : List ℕ) (n : ℕ) → ids_differ net n ≡ true → (j k : ℕ) → j < k → k < n → on_line_at net j ≡ true → on_line_at net k ≡ true
    → (regs_at net j).id ≡ (regs_at net k).id → ⊥
unfolding ids_differ
ids_below net n t j k b l p q e =
    let f : free net k ≡ true = every_at (free net) n k t l in
    let s : some (is_node net (regs_at net k).id) k ≡ false = rw q at (not-true (on_line_at net k && some (is_node net (regs_at net k).id) k) f) in
    clash (node_of_lem net j (regs_at net k).id p e) (some_fails _ k j s b)

pub ids_differ_lem : (net : List ℕ) (n : ℕ) → ids_differ net n ≡ true → Differ net n
ids_differ_lem net n t j k lj lk p q e =
    ⊎_elim (λ b. absurd (ids_below net n t j k (ltb-true _ _ b) lk p q e))
    (λ b. ⊎_elim (λ a. absurd (ids_below net n t k j (ltb-true _ _ a) lj q p (sym e)))
    (λ a. omega (arith, ltb-false j k b, ltb-false k j a)) (cases_Bool (ltb k j))) (cases_Bool (ltb j k))

ids_of : (net : List ℕ) (n : ℕ) → Differ net n → ids_differ net n ≡ true
unfolding ids_differ is_node
ids_of net n d = every_of (free net) n each
  where
    apart : (k : ℕ) → k < n → on_line_at net k ≡ true → (j : ℕ) → j < k → is_node net (regs_at net k).id j ≡ false
    apart k l q j b =
        ⊎_elim
        (λ p. ⊎_elim (λ e. absurd (let z = d j k (omega arith) l p q (eqb-true _ _ e) in omega arith))
        (λ (e : eqb (regs_at net j).id (regs_at net k).id ≡ false). simp (p, e))
        (cases_Bool (eqb (regs_at net j).id (regs_at net k).id)))
        (λ p. rw p) (cases_Bool (on_line_at net j))

    each : (k : ℕ) → k < n → free net k ≡ true
    each k l = ⊎_elim (λ (q : on_line_at net k ≡ true). rw (q, some_not (is_node net (regs_at net k).id) k (apart k l q))) (λ q. rw q) (cases_Bool (on_line_at net k))

-- ---- the holder
abbrev pub OnLineRow : List ℕ → ℕ → Type 0
OnLineRow net h = (h < rows net) × (on_line_at net h ≡ true)

holder_of : (net : List ℕ) → (phase net ≡ LOST → holder net ≡ 0) → ((phase net ≡ LOST → ⊥) → OnLineRow net (holder net)) → holder_fits net ≡ true
unfolding holder_fits
holder_of net a b =
    ⊎_elim (λ (t : eqb (phase net) LOST ≡ true). simp (t, eq-eqb _ _ (a (eqb-true _ _ t))))
    (λ (t : eqb (phase net) LOST ≡ false). let h = b (eqb-false _ _ t) in simp (t, lt-ltb _ _ h.0, h.1)) (cases_Bool (eqb (phase net) LOST))

-- ---- the rows
pub fits_row : (net : List ℕ) (n : ℕ) → rows_fit net n ≡ true → (k : ℕ) → k < n → well_formed (row_at net k) ≡ true
unfolding rows_fit
fits_row net n t k l = every_at (λ (i : ℕ). well_formed (row_at net i)) n k t l

-- ---- the parts of SHAPE
module _ (net : List ℕ) (s : shape net ≡ true) where
  tests : (header_fits net ≡ true) × (rows_fit net (rows net) ≡ true) × (ids_differ net (rows net) ≡ true) × (holder_fits net ≡ true)
  unfolding shape
  tests =
      let t = and_five (leb header_bytes (length net)) (header_fits net) (rows_fit net (rows net)) (ids_differ net (rows net)) (holder_fits net) s in
      (t.1, t.2, t.3, t.4)

  pub shape_header : header_fits net ≡ true
  shape_header = tests.0

  -- nothing lies after the rows
  pub shape_ends : length net ≡ row_start net (rows net)
  shape_ends = header_length net shape_header

  -- the rows and the header lie in the network
  pub shape_room : row_start net (rows net) ≤ length net
  shape_room = omega (arith, shape_ends)

  pub shape_least : header_bytes ≤ length net
  shape_least = start_header net (rows net) shape_room

  pub shape_rows : (0 < rows net) × (rows net ≤ row_limit)
  shape_rows = header_rows net shape_header

  pub shape_phase : phase net < 3
  shape_phase = header_phase net shape_header

  pub shape_within : (k : ℕ) → k < rows net → row_start net (suc k) ≤ length net
  shape_within = row_within net (rows net) shape_room

  pub shape_fits : rows_fit net (rows net) ≡ true
  shape_fits = tests.1

  pub shape_row : (k : ℕ) → k < rows net → well_formed (row_at net k) ≡ true
  shape_row k l = fits_row net (rows net) shape_fits k l

  pub shape_row_whole : (k : ℕ) → k < rows net → Whole (row_at net k)
  shape_row_whole = row_whole net (rows net) shape_room

  pub shape_ids : Differ net (rows net)
  shape_ids = ids_differ_lem net (rows net) tests.2

  pub shape_holder : (phase net ≡ LOST → ⊥) → OnLineRow net (holder net)
  unfolding holder_fits
  shape_holder ne =
      let t : (ltb (holder net) (rows net) && on_line_at net (holder net)) ≡ true = rw (ne_eqb _ _ ne) at tests.3 in
      (ltb-true _ _ (and_left _ (on_line_at net (holder net)) t), and_right (ltb (holder net) (rows net)) _ t)

  pub shape_lost : phase net ≡ LOST → holder net ≡ 0
  unfolding holder_fits
  shape_lost e = eqb-true _ _ (rw (eq-eqb _ _ e) at tests.3)

-- a network of these parts is well formed
pub shape_of : (net : List ℕ) → header_fits net ≡ true → ((k : ℕ) → k < rows net → well_formed (row_at net k) ≡ true) → Differ net (rows net)
    → (phase net ≡ LOST → holder net ≡ 0) → ((phase net ≡ LOST → ⊥) → OnLineRow net (holder net)) → shape net ≡ true
unfolding shape rows_fit
shape_of net h w d a b =
    let l : header_bytes ≤ length net = start_header net (rows net) (omega (arith, header_length net h)) in
    rw (le-leb header_bytes (length net) l, h, every_of (λ (k : ℕ). well_formed (row_at net k)) (rows net) w, ids_of net (rows net) d, holder_of net a b)
