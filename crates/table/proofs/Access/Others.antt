-- A call that names a row changes no other row, and of that row no byte but those that are its own, whatever network it is given.
-- Assumes nothing.
use mathlib.Core.Path.{◌≡◌, refl, sym, ◌∙◌, ap}
use mathlib.Core.Bool.{Bool, true, false, ◌&&◌, false≢true}
use mathlib.Core.List.{List, [], ◌∷◌}
use mathlib.Core.Logic.{⊎_elim}
use Prim.Native.Nat.{ℕ, ◌≤◌, ◌<◌}
use native.Mathlib.Omega.{arith}
use lib.Dec.{eqb, ltb}
use lib.ListN.{length, get_or}
use borrow.Author.Tests.{eqb-true, ne_eqb, ltb-true, ltb-false}
use Rattle.bits.specs.Words.{among}
use Rattle.registers.specs.Fit.{on_line}
use Rattle.registers.specs.Registers.{hardware_reset}
use Rattle.registers.specs.Layout.{at_diagnostic, read_changes}
use Rattle.registers.specs.Events.{burst}
use Rattle.std.proofs.lemmas.Bool.{cases_Bool}
use Rattle.bits.proofs.Words.Bools.{or_left, or_right, pick_of}
use Rattle.registers.proofs.Values.SameCard.{reset_off}
use Rattle.registers.proofs.Values.Keeps.{keeps_burst}
use Rattle.card.specs.Row.{Whole, regs_of}
use Rattle.card.specs.Access.{row_after_read, row_after_write, row_after_reset}
use Rattle.card.specs.Moves.{OnlyAt, write_moves}
use Rattle.card.proofs.Rows.Sizes.{SameSize, size_whole, whole_registers}
use Rattle.card.proofs.Rows.Bytes.{size_put, regs_put}
use Rattle.card.proofs.Rows.WellFormed.{size_read, size_write}
use Rattle.card.proofs.Rows.Moves.{only_stays, only_then, only_wider, only_put, only_read, only_write, only_reset}
use Rattle.card.proofs.Rows.Touched.{on_line_written}
use Rattle.table.specs.Rows.{header_bytes, row_start, row_at, set_row}
use Rattle.table.specs.Network.{rows, LOST, turned, on_regs, regs_at, on_line_at, shape, OnlyRow}
use Rattle.table.specs.Calls.{place_number, net_read_number, net_after_read, is_holder, settled, net_write_number, net_write_moves, net_after_write, reset_moves, net_after_reset, timer_number, net_after_timer}
use Rattle.table.proofs.Rows.Starts.{frame_within, frame_byte}
use Rattle.table.proofs.Rows.WithRows.{row_at_set_row, set_row_frame}
use Rattle.table.proofs.Rows.Networks.{row_at_turned}
use Rattle.table.proofs.Shaped.Shapes.{shape_room, shape_row, shape_row_whole}
use Rattle.table.proofs.Access.Placed.{read_placed, write_placed, timer_placed, row_there}
use Rattle.table.proofs.Access.Refused.{write_refused, reset_refused, timer_refused}
use Rattle.table.proofs.Access.Beside.{Beside, read_beside, write_beside, reset_beside, timer_beside}

-- a network whose other rows are as they were has as many rows
pub only_rows : {net new : List ℕ} {k : ℕ} {moves : ℕ → Bool} → OnlyRow net new k moves → rows new ≡ rows net
only_rows o = o.frame.header 3 (omega arith) (λ e. omega arith) (λ e. omega arith)

-- ---- row k after a call, of a well-formed network that has it
module _ (net : List ℕ) (s : shape net ≡ true) (k : ℕ) (l : k < rows net) where
  abbrev row : List ℕ
  row = row_at net k

  whole : Whole row
  whole = shape_row_whole net s k l

  inside : row_start net (rows net) ≤ length net
  inside = shape_room net s

  there : (r : List ℕ) → SameSize row r → row_at (set_row net k r) k ≡ r
  there = row_at_set_row net (rows net) inside k l

  -- a burst sets MYRECON
  only_burst : (r : List ℕ) → Whole r → OnlyAt (among (at_diagnostic ∷ [])) r (on_regs burst r)
  only_burst r w = only_put (at_diagnostic ∷ []) r _ (whole_registers r w) (keeps_burst _ (regs_of r) refl)

  -- a row that is given other bytes, and settles
  module _ (r : List ℕ) (e : SameSize row r) where
    abbrev new : List ℕ
    new = set_row net k r

    is : row_at new k ≡ r
    is = there r e

    burst_row : row_at (turned (set_row new k (on_regs burst (row_at new k))) LOST 0) k ≡ on_regs burst r
    burst_row =
        row_at_turned _ LOST 0 k
        ∙ row_at_set_row new (rows net) (frame_within (set_row_frame net (rows net) inside k l r e) inside) k l _ (size_put (row_at new k) _) ∙ ap (on_regs burst) is

    -- it keeps what it was given, or bursts where it comes on line
    settles : (P : List ℕ → Type 0) → P r → (on_line_at net k ≡ false → on_line (regs_of r) ≡ true → P (on_regs burst r)) → P (row_at (settled new k (on_line_at net k)) k)
    unfolding settled on_line_at
    settles P same bursts =
        let Q : List ℕ → Type 0 = λ x. P (row_at x k) in
        pick_of Q (on_line (regs_at new k)) (λ t. pick_of Q (on_line (regs_at net k)) (λ _. rw is same) (λ f. rw burst_row (bursts f (rw is at t))))
        (λ _. pick_of Q (on_line (regs_at net k) && is_holder new k) (λ _. rw (row_at_turned new LOST 0 k, is) same) (λ _. rw is same))

    pub settled_keeps : OnlyAt (among (at_diagnostic ∷ [])) r (row_at (settled new k (on_line_at net k)) k)
    settled_keeps = settles (OnlyAt (among (at_diagnostic ∷ [])) r) (only_stays _ r) (λ _ _. only_burst r (size_whole e whole))

    only_settled : (moves : ℕ → Bool) → OnlyAt moves row r → (on_line_at net k ≡ false → on_line (regs_of r) ≡ true → (i : ℕ) → moves i ≡ false → eqb i at_diagnostic ≡ false)
        → OnlyAt moves row (row_at (settled new k (on_line_at net k)) k)
    only_settled moves o bursts =
        settles (OnlyAt moves row) o (λ f t. only_then row r _ o (only_wider r _ (λ i m. rw (bursts f t i m)) (only_burst r (size_whole e whole))))

  -- ---- the calls
  read_row : (g : ℕ) → OnlyAt (among (read_changes (regs_at net k) g)) row (row_at (net_after_read net k g) k)
  unfolding net_after_read
  read_row g =
      pick_of (λ (x : List ℕ). OnlyAt (among (read_changes (regs_at net k) g)) row (row_at x k)) (eqb (net_read_number net k g) 0)
      (λ _. rw (there (row_after_read row g) (size_read row g)) (only_read row whole g)) (λ _. only_stays _ row)

  write_row : (g v : ℕ) → OnlyAt (net_write_moves net k g v) row (row_at (net_after_write net k g v) k)
  unfolding net_after_write
  write_row g v =
      pick_of (λ (x : List ℕ). OnlyAt (net_write_moves net k g v) row (row_at x k)) (eqb (net_write_number net k g v) 0)
      (λ _. only_settled (row_after_write row g v) (size_write row g v) (net_write_moves net k g v)
      (only_wider row _ (λ i m. or_left (write_moves row g i) _ m) (only_write row whole (shape_row net s k l) g v))
      (λ f t i m. rw (f, sym (on_line_written row whole g v) ∙ t) at (or_right (write_moves row g i) _ m)))
      (λ _. only_stays _ row)

  reset_row : OnlyAt (reset_moves net k) row (row_at (net_after_reset net k) k)
  unfolding net_after_reset
  reset_row =
      pick_of (λ (x : List ℕ). OnlyAt (reset_moves net k) row (row_at x k)) (eqb (place_number net k) 0)
      (λ _. only_settled (row_after_reset row) (size_put row hardware_reset) (reset_moves net k) (only_reset row whole (shape_row net s k l))
      (λ f t i m. absurd (false≢true (sym (ap on_line (regs_put row hardware_reset (whole_registers row whole)) ∙ reset_off) ∙ t))))
      (λ _. only_stays _ row)

  timer_row : OnlyAt (among (at_diagnostic ∷ [])) row (row_at (net_after_timer net k) k)
  unfolding net_after_timer
  timer_row =
      pick_of (λ (x : List ℕ). OnlyAt (among (at_diagnostic ∷ [])) row (row_at x k)) (eqb (timer_number net k) 0)
      (λ _. rw (row_at_turned (set_row net k (on_regs burst row)) LOST 0 k, there (on_regs burst row) (size_put row _)) (only_burst row whole))
      (λ _. only_stays _ row)

-- ---- and all else, whatever network is given
module _ (net : List ℕ) (k : ℕ) where
  -- a well-formed network with a row k
  abbrev There : Type 0
  There = (shape net ≡ true) × (k < rows net)

  only_same : (moves : ℕ → Bool) → OnlyRow net net k moves
  only_same moves = record { frame = record { size = refl; header = λ i h x y. refl }; others = λ j h n. refl; row = only_stays moves (row_at net k) }

  only_of : {new : List ℕ} (moves : ℕ → Bool) → ((There → ⊥) → new ≡ net)
      → ((s : shape net ≡ true) → k < rows net → Beside net new k × OnlyAt moves (row_at net k) (row_at new k)) → OnlyRow net new k moves
  only_of {new} moves refused done =
      let none : (There → ⊥) → OnlyRow net new k moves = λ n. rw (refused n) (only_same moves) in
      ⊎_elim (λ (s : shape net ≡ true). ⊎_elim (λ (l : ltb k (rows net) ≡ true). let b = done s (ltb-true k (rows net) l) in record {
        frame = record { size = b.0.long; header = b.0.header };
        others = λ j h n. b.0.others j n h;
        row = b.1;
      })
      (λ (l : ltb k (rows net) ≡ false). none (λ t. omega (arith, t.1, ltb-false k (rows net) l))) (cases_Bool (ltb k (rows net))))
      (λ (s : shape net ≡ false). none (λ t. false≢true (sym s ∙ t.0))) (cases_Bool (shape net))

  -- ---- the calls
  pub read_only : (g : ℕ) → OnlyRow net (net_after_read net k g) k (among (read_changes (regs_at net k) g))
  unfolding net_after_read
  read_only g =
      only_of _ (λ n. rw (ne_eqb (net_read_number net k g) 0 (λ z. n (row_there net k (read_placed net k g z))))) (λ s l. (read_beside net s k l g, read_row net s k l g))

  -- which leaves phase and holder too
  pub read_header : (g i : ℕ) → i < header_bytes → get_or (net_after_read net k g) i 0 ≡ get_or net i 0
  unfolding net_after_read
  read_header g i h =
      pick_of (λ (x : List ℕ). get_or x i 0 ≡ get_or net i 0) (eqb (net_read_number net k g) 0)
      (λ z. let t = row_there net k (read_placed net k g (eqb-true _ _ z)) in
      frame_byte (set_row_frame net (rows net) (shape_room net t.0) k t.1 _ (size_read (row_at net k) g)) i h) (λ _. refl)

  pub write_only : (g v : ℕ) → OnlyRow net (net_after_write net k g v) k (net_write_moves net k g v)
  write_only g v =
      only_of _ (λ n. write_refused net k g v (λ z. n (row_there net k (write_placed net k g v z)))) (λ s l. (write_beside net s k l g v, write_row net s k l g v))

  pub reset_only : OnlyRow net (net_after_reset net k) k (reset_moves net k)
  reset_only = only_of _ (λ n. reset_refused net k (λ z. n (row_there net k z))) (λ s l. (reset_beside net s k l, reset_row net s k l))

  pub timer_only : OnlyRow net (net_after_timer net k) k (among (at_diagnostic ∷ []))
  timer_only = only_of _ (λ n. timer_refused net k (λ z. n (row_there net k (timer_placed net k z)))) (λ s l. (timer_beside net s k l, timer_row net s k l))
