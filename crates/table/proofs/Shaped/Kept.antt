-- A changed network that is still well formed: its rows changed, another phase and holder.
-- Assumes nothing.
use mathlib.Core.Path.{◌≡◌, refl, sym, ◌∙◌, ap}
use mathlib.Core.Bool.{true, false}
use mathlib.Core.List.{List}
use mathlib.Core.Logic.{⊎_elim}
use Prim.Native.Nat.{ℕ, ◌<◌}
use native.Mathlib.Omega.{arith}
use lib.Dec.{eqb, lit<}
use lib.ListN.{get_or}
use borrow.Author.Tests.{eqb-true, eqb-false}
use Rattle.card.specs.Row.{regs_of, well_formed}
use Rattle.registers.specs.Fit.{on_line}
use Rattle.std.proofs.lemmas.Bool.{cases_Bool}
use Rattle.card.proofs.Rows.Sizes.{SameSize}
use Rattle.table.specs.Rows.{header_bytes, row_at, set_row}
use Rattle.table.specs.Network.{rows, phase, holder, LOST, turned, regs_at, on_line_at, is_node, shape}
use Rattle.table.proofs.Folds.{clash}
use Rattle.table.proofs.Rows.Starts.{Frame, frame_ends, frame_byte, frame_rows}
use Rattle.table.proofs.Rows.WithRows.{row_at_set_row, row_at_set_row_other, set_row_frame}
use Rattle.table.proofs.Rows.Networks.{length_turned, start_turned, row_at_turned, turned_other, rows_turned, phase_turned, holder_turned}
use Rattle.table.proofs.Online.Nodes.{online_same, node_of_lem}
use Rattle.table.proofs.Rows.Headers.{header_kept}
use Rattle.table.proofs.Shaped.Shapes.{OnLineRow, shape_header, shape_least, shape_room, shape_row, shape_ids, shape_ends, shape_phase, shape_holder, shape_lost, shape_of}

-- the row s in the place of the row r: well formed, with r's ID, and on line as r is
pub record Kept (r s : List ℕ) : Type 0 where
  pub well : well_formed s ≡ true
  pub id : (regs_of s).id ≡ (regs_of r).id
  pub online : on_line (regs_of s) ≡ on_line (regs_of r)

pub kept_same : (r : List ℕ) → well_formed r ≡ true → Kept r r
kept_same r w = record { well = w; id = refl; online = refl }

-- what a network became: its header is as it was, each row stands where it stood, and R holds of each row and what it became
pub record Became (R : List ℕ → List ℕ → Type 0) (net new : List ℕ) : Type 0 where
  pub frame : Frame net new (rows net)
  pub row : (k : ℕ) → k < rows net → R (row_at net k) (row_at new k)

module _ {R : List ℕ → List ℕ → Type 0} {net new : List ℕ} (c : Became R net new) where
  pub became_rows : rows new ≡ rows net
  became_rows = frame_rows c.frame

  pub became_phase : phase new ≡ phase net
  became_phase = frame_byte c.frame 4 (lit< tt)

  pub became_holder : holder new ≡ holder net
  became_holder = frame_byte c.frame 5 (lit< tt)

pub shape_became : (net new : List ℕ) → shape net ≡ true → Became Kept net new → shape new ≡ true
unfolding on_line_at
shape_became net new s c =
    let n = became_rows c in
    let ph = became_phase c in
    let ho = became_holder c in
    let same : (k : ℕ) → k < rows net → on_line_at new k ≡ on_line_at net k = λ k b. (c.row k b).online in
    shape_of new
    (header_kept net new (shape_header net s) (frame_ends c.frame (shape_ends net s)) (λ x b u v. frame_byte c.frame x b) (omega (arith, shape_phase net s)))
    (λ k b. (c.row k (omega arith)).well)
    (λ j k bj bk p o i. let dj : j < rows net = omega arith in
    let dk : k < rows net = omega arith in
    shape_ids net s j k dj dk (sym (same j dj) ∙ p) (sym (same k dk) ∙ o) (sym (c.row j dj).id ∙ i ∙ (c.row k dk).id))
    (λ p. ho ∙ shape_lost net s (sym ph ∙ p))
    (λ p. let h = shape_holder net s (λ z. p (ph ∙ z)) in (omega arith, ap (on_line_at new) ho ∙ same (holder net) h.0 ∙ h.1))

-- another row k, where R holds of a row and itself
pub became_put : {R : List ℕ → List ℕ → Type 0} (net : List ℕ) (k : ℕ) (r : List ℕ) → shape net ≡ true → k < rows net → SameSize (row_at net k) r
    → R (row_at net k) r → ((j : ℕ) → j < rows net → R (row_at net j) (row_at net j)) → Became R net (set_row net k r)
became_put net k r s l e q same =
    let b = shape_room net s in record {
      frame = set_row_frame net (rows net) b k l r e;
      row = λ j lj. ⊎_elim
          (λ (t : eqb j k ≡ true). rw (eqb-true j k t, row_at_set_row net (rows net) b k l r e) q)
          (λ (t : eqb j k ≡ false). rw (row_at_set_row_other net (rows net) b k l r e j lj (eqb-false j k t)) (same j lj))
          (cases_Bool (eqb j k));
    }

pub shape_put : (net : List ℕ) (k : ℕ) (r : List ℕ) → shape net ≡ true → k < rows net → SameSize (row_at net k) r → Kept (row_at net k) r
    → shape (set_row net k r) ≡ true
shape_put net k r s l e q = shape_became net _ s (became_put net k r s l e q (λ j b. kept_same (row_at net j) (shape_row net s j b)))

-- another row k, with another ID or on line otherwise: no other on-line row has its ID, and the holder stays on line
pub shape_change : (net : List ℕ) (k : ℕ) (r : List ℕ) → shape net ≡ true → k < rows net → SameSize (row_at net k) r → well_formed r ≡ true
    → (on_line (regs_of r) ≡ true → (j : ℕ) → j < rows net → (j ≡ k → ⊥) → is_node net (regs_of r).id j ≡ false)
    → ((phase net ≡ LOST → ⊥) → holder net ≡ k → on_line (regs_of r) ≡ true) → shape (set_row net k r) ≡ true
unfolding on_line_at
shape_change net k r s l e w d a =
    let b = shape_room net s in
    let f = set_row_frame net (rows net) b k l r e in
    let same : (x : ℕ) → x < header_bytes → get_or (set_row net k r) x 0 ≡ get_or net x 0 = frame_byte f in
    let n : rows (set_row net k r) ≡ rows net = same 3 (lit< tt) in
    let ph : phase (set_row net k r) ≡ phase net = same 4 (lit< tt) in
    let ho : holder (set_row net k r) ≡ holder net = same 5 (lit< tt) in
    let here : row_at (set_row net k r) k ≡ r = row_at_set_row net (rows net) b k l r e in
    let there : (j : ℕ) → j < rows net → eqb j k ≡ false → row_at (set_row net k r) j ≡ row_at net j
    = λ j lj t. row_at_set_row_other net (rows net) b k l r e j lj (eqb-false j k t) in
    let alone : (j : ℕ) → j < rows net → eqb j k ≡ false → on_line_at (set_row net k r) k ≡ true → on_line_at (set_row net k r) j ≡ true
    → (regs_at (set_row net k r) j).id ≡ (regs_at (set_row net k r) k).id → ⊥
    = λ j lj t p q i. clash (node_of_lem net j (regs_of r).id (rw (there j lj t) at q) (rw (there j lj t, here) at i)) (d (rw here at p) j lj (eqb-false j k t)) in
    shape_of (set_row net k r)
    (header_kept net (set_row net k r) (shape_header net s) (frame_ends f (shape_ends net s)) (λ x u v z. same x u) (omega (arith, shape_phase net s)))
    (λ j m. let lj : j < rows net = omega arith in
    ⊎_elim (λ (t : eqb j k ≡ true). rw (eqb-true j k t, here) w) (λ (t : eqb j k ≡ false). rw (there j lj t) (shape_row net s j lj)) (cases_Bool (eqb j k)))
    (λ i j mi mj p q x. let li : i < rows net = omega arith in
    let lj : j < rows net = omega arith in
    ⊎_elim
    (λ (t : eqb i k ≡ true). ⊎_elim (λ (u : eqb j k ≡ true). eqb-true i k t ∙ sym (eqb-true j k u))
    (λ (u : eqb j k ≡ false). absurd (alone j lj u (rw (eqb-true i k t) at p) q (rw (eqb-true i k t) at (sym x)))) (cases_Bool (eqb j k)))
    (λ (t : eqb i k ≡ false). ⊎_elim (λ (u : eqb j k ≡ true). absurd (alone i li t (rw (eqb-true j k u) at q) p (rw (eqb-true j k u) at x)))
    (λ (u : eqb j k ≡ false). shape_ids net s i j li lj (rw (there i li t) at p) (rw (there j lj u) at q) (rw (there i li t, there j lj u) at x))
    (cases_Bool (eqb j k))) (cases_Bool (eqb i k)))
    (λ p. ho ∙ shape_lost net s (sym ph ∙ p))
    (λ p. let h = shape_holder net s (λ z. p (ph ∙ z)) in (
      omega arith,
      ap (on_line_at (set_row net k r)) ho ∙ ⊎_elim
          (λ (t : eqb (holder net) k ≡ true). rw (eqb-true (holder net) k t, here) (a (λ z. p (ph ∙ z)) (eqb-true (holder net) k t)))
          (λ (t : eqb (holder net) k ≡ false). rw (there (holder net) h.0 t) h.1) (cases_Bool (eqb (holder net) k)),
    ))

-- another phase and holder: no holder in LOST, an on-line row outside it
pub shape_turned : (net : List ℕ) (p h : ℕ) → shape net ≡ true → p < 3 → (p ≡ LOST → h ≡ 0) → ((p ≡ LOST → ⊥) → OnLineRow net h)
    → shape (turned net p h) ≡ true
shape_turned net p h s l a b =
    let w = shape_least net s in
    let ph = phase_turned net p h w in
    let ho = holder_turned net p h w in
    let n = rows_turned net p h in
    let same : (k : ℕ) → on_line_at (turned net p h) k ≡ on_line_at net k = λ k. online_same net (turned net p h) k (row_at_turned net p h k) in
    let row = row_at_turned net p h in
    shape_of (turned net p h)
    (header_kept net (turned net p h) (shape_header net s) (length_turned net p h ∙ shape_ends net s ∙ sym (start_turned net p h (rows net))) (λ x q u v. turned_other net p h x u v) (omega arith))
    (λ k q. ap well_formed (row k) ∙ shape_row net s k (omega arith))
    (λ j k bj bk x o i. shape_ids net s j k (omega arith) (omega arith) (sym (same j) ∙ x) (sym (same k) ∙ o)
    (sym (ap (λ (r : List ℕ). (regs_of r).id) (row j)) ∙ i ∙ ap (λ (r : List ℕ). (regs_of r).id) (row k)))
    (λ q. ho ∙ a (sym ph ∙ q))
    (λ q. let d = b (λ z. q (ph ∙ z)) in (omega arith, ap (on_line_at (turned net p h)) ho ∙ same h ∙ d.1))

pub turned_lost : (net : List ℕ) → shape net ≡ true → shape (turned net LOST 0) ≡ true
turned_lost net s = shape_turned net LOST 0 s (omega arith) (λ e. refl) (λ e. absurd (e refl))
