-- A call to a row leaves the other rows, the header but for phase and holder, and LOST.
-- Assumes nothing.
use mathlib.Core.Path.{◌≡◌, refl, ◌∙◌}
use mathlib.Core.Bool.{Bool, true, ◌&&◌}
use mathlib.Core.List.{List}
use Prim.Native.Nat.{ℕ, ◌≤◌, ◌<◌}
use native.Mathlib.Omega.{arith}
use lib.Dec.{eqb, lit<}
use lib.ListN.{length, get_or}
use Rattle.registers.specs.Registers.{hardware_reset}
use Rattle.card.specs.Access.{row_after_read, row_after_write, row_after_reset}
use Rattle.registers.specs.Events.{burst}
use Rattle.bits.proofs.Words.Bools.{pick_of}
use Rattle.card.proofs.Rows.Sizes.{SameSize}
use Rattle.card.proofs.Rows.Bytes.{size_put}
use Rattle.card.proofs.Rows.WellFormed.{size_read, size_write}
use Rattle.table.specs.Rows.{header_bytes, row_start, row_at, set_row}
use Rattle.table.specs.Network.{rows, phase, LOST, turned, on_regs, regs_at, on_line_at, shape}
use Rattle.table.specs.Calls.{place_number, net_read_number, net_after_read, is_holder, settled, net_write_number, net_after_write, net_after_reset, timer_number, net_after_timer}
use Rattle.table.proofs.Rows.Starts.{start_header, frame_byte}
use Rattle.table.proofs.Rows.WithRows.{row_at_set_row_other, set_row_frame}
use Rattle.table.proofs.Rows.Networks.{length_turned, start_turned, row_at_turned, turned_other, phase_turned}
use Rattle.table.proofs.Shaped.Shapes.{shape_room}

-- ---- the network is the same but for row k and, outside LOST, its turn
pub record Beside (net new : List ℕ) (k : ℕ) : Type 0 where
  pub long : length new ≡ length net
  pub header : (i : ℕ) → i < header_bytes → (i ≡ 4 → ⊥) → (i ≡ 5 → ⊥) → get_or new i 0 ≡ get_or net i 0
  pub lost : phase net ≡ LOST → phase new ≡ LOST
  pub starts : (j : ℕ) → j ≤ rows net → row_start new j ≡ row_start net j
  pub others : (j : ℕ) → (j ≡ k → ⊥) → j < rows net → row_at new j ≡ row_at net j

pub beside_count : {net new : List ℕ} {k : ℕ} → Beside net new k → rows new ≡ rows net
beside_count b = b.header 3 (lit< tt) (λ e. omega arith) (λ e. omega arith)

-- its rows lie in it, as they did
beside_room : {net new : List ℕ} {k : ℕ} → Beside net new k → row_start net (rows net) ≤ length net → row_start new (rows new) ≤ length new
beside_room {net} b h = rw (beside_count b) (omega (arith, b.long, b.starts (rows net) (omega arith)))

module _ (k : ℕ) where
  beside_same : (net : List ℕ) → Beside net net k
  beside_same net = record { long = refl; header = λ i h a b. refl; lost = λ p. p; starts = λ j h. refl; others = λ j n h. refl }

  beside_then : (a b c : List ℕ) → Beside a b k → Beside b c k → Beside a c k
  beside_then a b c p q = record {
    long = q.long ∙ p.long;
    header = λ i h x y. q.header i h x y ∙ p.header i h x y;
    lost = λ z. q.lost (p.lost z);
    starts = λ j h. q.starts j (omega (arith, beside_count p)) ∙ p.starts j h;
    others = λ j n h. q.others j n (omega (arith, beside_count p)) ∙ p.others j n h;
  }

  beside_lost : (net : List ℕ) → header_bytes ≤ length net → Beside net (turned net LOST 0) k
  beside_lost net h = record {
    long = length_turned net LOST 0;
    header = λ i _ x y. turned_other net LOST 0 i x y;
    lost = λ _. phase_turned net LOST 0 h;
    starts = λ j _. start_turned net LOST 0 j;
    others = λ j _ _. row_at_turned net LOST 0 j;
  }

  module _ (net : List ℕ) (h : row_start net (rows net) ≤ length net) (l : k < rows net) where
    beside_row : (r : List ℕ) → SameSize (row_at net k) r → Beside net (set_row net k r) k
    beside_row r e =
        let f = set_row_frame net (rows net) h k l r e in record {
          long = f.size;
          header = λ i b x y. frame_byte f i b;
          lost = λ p. frame_byte f 4 (lit< tt) ∙ p;
          starts = f.starts;
          others = λ j n b. row_at_set_row_other net (rows net) h k l r e j b n;
        }

    beside_burst : Beside net (turned (set_row net k (on_regs burst (row_at net k))) LOST 0) k
    beside_burst =
        let b = beside_row (on_regs burst (row_at net k)) (size_put (row_at net k) (burst (regs_at net k))) in
        beside_then net (set_row net k (on_regs burst (row_at net k))) _ b (beside_lost _ (start_header _ _ (beside_room b h)))

    beside_settled : (was : Bool) → Beside net (settled net k was) k
    unfolding settled
    beside_settled was =
        let P : List ℕ → Type 0 = λ x. Beside net x k in
        pick_of P (on_line_at net k) (λ _. pick_of P was (λ _. beside_same net) (λ _. beside_burst))
        (λ _. pick_of P (was && is_holder net k) (λ _. beside_lost net (start_header net (rows net) h)) (λ _. beside_same net))

-- ---- the calls to row k
module _ (net : List ℕ) (s : shape net ≡ true) (k : ℕ) (l : k < rows net) where
  inside : row_start net (rows net) ≤ length net
  inside = shape_room net s

  abbrev row : List ℕ
  row = row_at net k

  -- row k is given other bytes, and settles
  beside_call : (r : List ℕ) → SameSize row r → Beside net (settled (set_row net k r) k (on_line_at net k)) k
  beside_call r e =
      let b = beside_row k net inside l r e in
      beside_then k net (set_row net k r) _ b (beside_settled k (set_row net k r) (beside_room b inside) (omega (arith, l, beside_count b)) (on_line_at net k))

  pub read_beside : (r : ℕ) → Beside net (net_after_read net k r) k
  unfolding net_after_read
  read_beside r =
      pick_of (λ (x : List ℕ). Beside net x k) (eqb (net_read_number net k r) 0)
      (λ _. beside_row k net inside l (row_after_read row r) (size_read row r)) (λ _. beside_same k net)

  pub write_beside : (r v : ℕ) → Beside net (net_after_write net k r v) k
  unfolding net_after_write
  write_beside r v =
      pick_of (λ (x : List ℕ). Beside net x k) (eqb (net_write_number net k r v) 0)
      (λ _. beside_call (row_after_write row r v) (size_write row r v)) (λ _. beside_same k net)

  pub reset_beside : Beside net (net_after_reset net k) k
  unfolding net_after_reset
  reset_beside =
      pick_of (λ (x : List ℕ). Beside net x k) (eqb (place_number net k) 0)
      (λ _. beside_call (row_after_reset row) (size_put row hardware_reset)) (λ _. beside_same k net)

  pub timer_beside : Beside net (net_after_timer net k) k
  unfolding net_after_timer
  timer_beside =
      pick_of (λ (x : List ℕ). Beside net x k) (eqb (timer_number net k) 0) (λ _. beside_burst k net inside l) (λ _. beside_same k net)
