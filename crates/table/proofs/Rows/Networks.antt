-- The network in another phase, with another holder: its header and its rows.
-- Assumes nothing.
use mathlib.Core.Path.{◌≡◌, ◌∙◌, ap}
use mathlib.Core.List.{List}
use Prim.Native.Nat.{ℕ, ◌≤◌}
use native.Mathlib.Omega.{arith}
use lib.Dec.{lit<}
use lib.ListN.{length, get_or, set, drop, length-set}
use lib.Seq.{get_or-set_same, get_or-set_other, set-set, set_comm, drop-set-lt}
use Rattle.table.specs.Rows.{header_bytes, row_start, row_at, set_row, with_rows}
use Rattle.table.specs.Network.{rows, phase, holder, turned}
use Rattle.table.proofs.Rows.Starts.{start_body, row_at_body, header_set_row}
use Rattle.table.proofs.Rows.WithRows.{with_byte}

module _ (net : List ℕ) (p h : ℕ) where
  pub length_turned : length (turned net p h) ≡ length net
  unfolding turned
  length_turned = length-set (set net 4 p) 5 h ∙ length-set net 4 p

  after : drop header_bytes (turned net p h) ≡ drop header_bytes net
  unfolding turned
  after = drop-set-lt header_bytes (set net 4 p) 5 h (lit< tt) ∙ drop-set-lt header_bytes net 4 p (lit< tt)

  pub start_turned : (k : ℕ) → row_start (turned net p h) k ≡ row_start net k
  start_turned = start_body net (turned net p h) after

  pub row_at_turned : (k : ℕ) → row_at (turned net p h) k ≡ row_at net k
  row_at_turned = row_at_body net (turned net p h) after

  pub turned_other : (x : ℕ) → (x ≡ 4 → ⊥) → (x ≡ 5 → ⊥) → get_or (turned net p h) x 0 ≡ get_or net x 0
  unfolding turned
  turned_other x a b = get_or-set_other (set net 4 p) 5 x h 0 b ∙ get_or-set_other net 4 x p 0 a

  pub rows_turned : rows (turned net p h) ≡ rows net
  rows_turned = turned_other 3 (λ e. omega arith) (λ e. omega arith)

  pub phase_turned : header_bytes ≤ length net → phase (turned net p h) ≡ p
  unfolding turned
  phase_turned l = get_or-set_other (set net 4 p) 5 4 h 0 (λ e. omega arith) ∙ get_or-set_same net 4 p 0 (omega arith)

  pub holder_turned : header_bytes ≤ length net → holder (turned net p h) ≡ h
  unfolding turned
  holder_turned l = get_or-set_same (set net 4 p) 5 h 0 (simp length-set (omega arith))

-- with another row too, in either order
pub turned_set_row : (net : List ℕ) (k : ℕ) (r : List ℕ) (p h : ℕ) → row_start net k ≤ length net → turned (set_row net k r) p h ≡ set_row (turned net p h) k r
unfolding turned
turned_set_row net k r p h l =
    ap (λ (x : List ℕ). set x 5 h) (header_set_row net k r 4 p (lit< tt) l)
    ∙ header_set_row (set net 4 p) k r 5 h (lit< tt) (omega (arith, length-set net 4 p, start_body net (set net 4 p) (drop-set-lt header_bytes net 4 p (lit< tt)) k))

-- with other rows
pub turned_with : (net : List ℕ) (n : ℕ) → row_start net n ≤ length net → (g : ℕ → List ℕ) (p h : ℕ) → with_rows (turned net p h) n g ≡ turned (with_rows net n g) p h
unfolding turned
turned_with net n l g p h =
    with_byte (set net 4 p) n (omega (arith, length-set net 4 p, start_body net (set net 4 p) (drop-set-lt header_bytes net 4 p (lit< tt)) n)) g 5 h (lit< tt)
    ∙ ap (λ (x : List ℕ). set x 5 h) (with_byte net n l g 4 p (lit< tt))

-- and turned once more
pub turned_turned : (net : List ℕ) (p h x y : ℕ) → turned (turned net p h) x y ≡ turned net x y
unfolding turned
turned_turned net p h x y =
    ap (λ (z : List ℕ). set z 5 y) (set_comm (set net 4 p) 5 4 h x (λ e. omega arith) ∙ ap (λ (z : List ℕ). set z 5 h) (set-set net 4 p x))
    ∙ set-set (set net 4 x) 5 h y
