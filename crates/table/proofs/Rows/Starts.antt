-- Where rows start, networks whose rows start at the same places, and the network with another header.
-- Assumes nothing.
use mathlib.Core.Path.{◌≡◌, refl, sym, ◌∙◌, ap}
use mathlib.Core.List.{List}
use mathlib.Core.Logic.{⊎_elim}
use Prim.Native.Nat.{ℕ, zero, suc, ◌+◌, ◌-◌, ◌≤◌, ◌<◌}
use native.Mathlib.Nat.{le_of_suc-le-suc, eq-or-lt_of_le}
use native.Mathlib.Omega.{arith}
use lib.ListN.{length, get_or, set, take, drop, take-append-drop}
use lib.Seq.{length-take-le, drop-drop, drop-set-lt, take-set-lt, set-append_left, get_or-take}
use Rattle.card.specs.Row.{row_size}
use Rattle.table.specs.Rows.{header_bytes, row_start, row_at, set_row}
use Rattle.table.specs.Network.{rows}

-- numbers of which none is less than the one before it
mono : (st : ℕ → ℕ) → ((k : ℕ) → st k ≤ st (suc k)) → (j n : ℕ) → j ≤ n → st j ≤ st n
mono st up j zero l = let e : j ≡ 0 = omega arith in rw e (omega arith)
mono st up j (suc n) l = ⊎_elim (λ e. rw e (omega arith)) (λ b. omega (arith, up n, mono st up j n (le_of_suc-le-suc b))) (eq-or-lt_of_le l)

-- ---- where rows start
module _ (net : List ℕ) where
  pub start_zero : row_start net 0 ≡ header_bytes
  unfolding row_start
  start_zero = refl

  pub start_more : (k : ℕ) → row_start net (suc k) ≡ row_start net k + row_size (drop (row_start net k) net)
  unfolding row_start
  start_more k = refl

  pub start_mono : (j n : ℕ) → j ≤ n → row_start net j ≤ row_start net n
  start_mono = mono (row_start net) (λ k. omega (arith, start_more k))

  pub start_least : (k : ℕ) → header_bytes ≤ row_start net k
  start_least k = omega (arith, start_mono 0 k (omega arith), start_zero)

  pub start_header : (k : ℕ) → row_start net k ≤ length net → header_bytes ≤ length net
  start_header k h = omega (arith, start_least k)

-- ---- two networks of one length, with one header, whose first n rows start at the same places
pub record Frame (net new : List ℕ) (n : ℕ) : Type 0 where
  pub size : length new ≡ length net
  pub header : take header_bytes new ≡ take header_bytes net
  pub starts : (k : ℕ) → k ≤ n → row_start new k ≡ row_start net k

pub frame_within : {net new : List ℕ} {n : ℕ} → Frame net new n → row_start net n ≤ length net → row_start new n ≤ length new
frame_within {n = n} f h = omega (arith, f.size, f.starts n (omega arith))

pub frame_ends : {net new : List ℕ} {n : ℕ} → Frame net new n → length net ≡ row_start net n → length new ≡ row_start new n
frame_ends {n = n} f h = omega (arith, f.size, f.starts n (omega arith))

pub frame_byte : {net new : List ℕ} {n : ℕ} → Frame net new n → (x : ℕ) → x < header_bytes → get_or new x 0 ≡ get_or net x 0
frame_byte {net} {new} f x l = sym (get_or-take header_bytes new x 0 l) ∙ ap (λ (h : List ℕ). get_or h x 0) f.header ∙ get_or-take header_bytes net x 0 l

pub frame_rows : {net new : List ℕ} {n : ℕ} → Frame net new n → rows new ≡ rows net
frame_rows f = frame_byte f 3 (omega arith)

-- ---- another header: the rows are a function of what lies after it
module _ (net new : List ℕ) (e : drop header_bytes new ≡ drop header_bytes net) where
  past : (k : ℕ) → drop (row_start net k) new ≡ drop (row_start net k) net
  past k =
      let m : header_bytes + (row_start net k - header_bytes) ≡ row_start net k = omega (arith, start_least net k) in
      rw (← m, ← drop-drop (row_start net k - header_bytes) header_bytes new, ← drop-drop (row_start net k - header_bytes) header_bytes net, e)

  pub start_body : (k : ℕ) → row_start new k ≡ row_start net k
  unfolding row_start
  start_body zero = refl
  start_body (suc k) = rw (start_body k, past k)

  pub row_at_body : (k : ℕ) → row_at new k ≡ row_at net k
  unfolding row_at
  row_at_body k = rw (start_body k, past k)

-- row k as it is
pub set_row_same : (net : List ℕ) (k : ℕ) → set_row net k (row_at net k) ≡ net
unfolding set_row row_at
set_row_same net k = rw (take-append-drop (row_size (drop (row_start net k) net)) (drop (row_start net k) net)) (take-append-drop (row_start net k) net)

pub header_set_row : (net : List ℕ) (k : ℕ) (r : List ℕ) (i v : ℕ) → i < header_bytes → row_start net k ≤ length net → set (set_row net k r) i v ≡ set_row (set net i v) k r
unfolding set_row
header_set_row net k r i v l h =
    let c : i < row_start net k = omega (arith, start_least net k) in
    set-append_left (take (row_start net k) net) _ i v (omega (arith, length-take-le (row_start net k) net h))
    ∙ sym (rw (start_body net (set net i v) (drop-set-lt header_bytes net i v l) k, take-set-lt (row_start net k) net i v c, drop-set-lt (row_start net k) net i v c))
