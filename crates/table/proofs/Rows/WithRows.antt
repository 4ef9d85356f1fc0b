-- A row of a network, the network with other rows, and with one other row.
-- Assumes nothing.
use mathlib.Core.Path.{◌≡◌, refl, sym, ◌∙◌, ap}
use mathlib.Core.List.{List, ◌++◌}
use Prim.Native.Nat.{ℕ, zero, suc, ◌+◌, ◌-◌, ◌≤◌, ◌<◌}
use native.Mathlib.Omega.{arith}
use lib.Dec.{eqb}
use lib.ListN.{length, get_or, set, take, drop, length-drop}
use lib.Seq.{length-take-le, take_at, drop-drop, drop-set-lt, take-set-lt, set-append_left, get_or-take, get_or-drop}
use borrow.Author.Tests.{eqb-true, eq-eqb, ne_eqb}
use Rattle.bits.specs.Words.{pick}
use Rattle.bits.proofs.Words.Bools.{pick_of}
use Rattle.card.specs.Row.{row_size, Whole}
use Rattle.card.proofs.Rows.Sizes.{first_whole, SameSize, size_same, size_whole}
use Rattle.table.specs.Rows.{header_bytes, row_start, row_at, set_row, joined, with_rows, each_row}
use Rattle.table.proofs.Rows.View.{joined_cut, joined_ext, view_from, view_next, view_at, view_end, join_front, join_rest}
use Rattle.table.proofs.Rows.Starts.{start_zero, start_more, start_mono, start_least, start_header, start_body, Frame}

-- ---- the rows of a network that has n of them
module _ (net : List ℕ) (n : ℕ) (h : row_start net n ≤ length net) where
  header_long : length (take header_bytes net) ≡ header_bytes
  header_long = length-take-le header_bytes net (start_header net n h)

  module _ (k : ℕ) (l : k < n) where
    pub row_within : row_start net (suc k) ≤ length net
    row_within = omega (arith, start_mono net (suc k) n (omega arith))

    pub row_whole : Whole (row_at net k)
    unfolding row_at
    row_whole = first_whole (drop (row_start net k) net) (simp length-drop (omega (arith, row_within, start_more net k)))

  start_next : (k : ℕ) → k < n → row_start net (suc k) ≡ row_start net k + length (row_at net k)
  unfolding row_at
  start_next k l =
      start_more net k
      ∙ ap (λ (x : ℕ). row_start net k + x) (sym (length-take-le _ _ (simp length-drop (omega (arith, row_within k l, start_more net k)))))

  -- a byte of a row
  pub get_or_row_at : (k : ℕ) → k < n → (i : ℕ) → i < length (row_at net k) → get_or (row_at net k) i 0 ≡ get_or net (row_start net k + i) 0
  unfolding row_at
  get_or_row_at k l i b =
      get_or-take (row_size (drop (row_start net k) net)) (drop (row_start net k) net) i 0 (omega (arith, start_more net k, start_next k l))
      ∙ get_or-drop (row_start net k) net i 0

  -- ---- other rows, each whole
  module _ (g : ℕ → List ℕ) (w : (k : ℕ) → k < n → Whole (g k)) where
    pub with_at : (k : ℕ) → k < n → row_at (with_rows net n g) k ≡ g k
    unfolding with_rows
    with_at k l = view_at (take header_bytes net) header_long g n w _ k l

    pub with_header : take header_bytes (with_rows net n g) ≡ take header_bytes net
    unfolding with_rows
    with_header = take_at (take header_bytes net) _ header_bytes header_long

    -- the rows end where what lay after them begins
    pub with_rest : drop (row_start (with_rows net n g) n) (with_rows net n g) ≡ drop (row_start net n) net
    unfolding with_rows joined
    with_rest = view_from (take header_bytes net) header_long g n w (drop (row_start net n) net) n 0 (omega arith)

    pub with_end : row_start (with_rows net n g) n + (length net - row_start net n) ≡ length (with_rows net n g)
    unfolding with_rows
    with_end = rw length-drop at (view_end (take header_bytes net) header_long g n w (drop (row_start net n) net))

    -- rows of the same lengths start at the same places
    pub with_frame : ((k : ℕ) → k < n → length (g k) ≡ length (row_at net k)) → Frame net (with_rows net n g) n
    unfolding with_rows
    with_frame same = record { size = omega (arith, with_end, starts n (omega arith)); header = with_header; starts = starts }
      where
        starts : (k : ℕ) → k ≤ n → row_start (with_rows net n g) k ≡ row_start net k
        starts zero l = start_zero (with_rows net n g) ∙ sym (start_zero net)
        starts (suc k) l =
            omega (arith, view_next (take header_bytes net) header_long g n w (drop (row_start net n) net) k l, starts k (omega arith), same k l, start_next k l)

    -- other rows once more
    pub with_with : (f : ℕ → List ℕ) → with_rows (with_rows net n g) n f ≡ with_rows net n f
    unfolding with_rows
    with_with f = rw (with_header, with_rest)

  -- a byte of the header is set, before or after
  pub with_byte : (g : ℕ → List ℕ) (i v : ℕ) → i < header_bytes → with_rows (set net i v) n g ≡ set (with_rows net n g) i v
  unfolding with_rows
  with_byte g i v l =
      let c : i < row_start net n = omega (arith, start_least net n) in
      rw (start_body net (set net i v) (drop-set-lt header_bytes net i v l) n, drop-set-lt (row_start net n) net i v c, take-set-lt header_bytes net i v l)
      (sym (set-append_left (take header_bytes net) _ i v (omega (arith, header_long))))

  -- ---- one other row
  module _ (k : ℕ) (l : k < n) (r : List ℕ) where
    abbrev one : ℕ → List ℕ
    one j = pick (eqb j k) r (row_at net j)

    kept : (j : ℕ) → (j ≡ k → ⊥) → row_at net j ≡ one j
    kept j ne = rw (ne_eqb j k ne)

    pub set_row_with : set_row net k r ≡ with_rows net n one
    unfolding set_row with_rows joined
    set_row_with =
        let m = n - suc k in
        let t = drop (row_start net n) net in
        rw (drop-drop, ← start_more, join_front, join_rest net m (suc k) n (omega arith))
        (ap (λ (z : List ℕ). take header_bytes net ++ z) (joined_ext (row_at net) one k 0 _ (λ j a b. kept j (λ z. omega arith))
        ∙ ap (joined one 0 k) (ap (λ (z : List ℕ). r ++ z) (joined_ext (row_at net) one m (suc k) t (λ j a b. kept j (λ z. omega arith))) ∙ rw (eq-eqb k k refl))
        ∙ sym (joined_cut one k (suc m) 0 n k t (omega arith) (omega arith))))

    module _ (a : SameSize (row_at net k) r) where
      pub same_at : (j : ℕ) → j < n → SameSize (row_at net j) (pick (eqb j k) r (row_at net j))
      same_at j b = pick_of (λ (s : List ℕ). SameSize (row_at net j) s) (eqb j k) (λ e. rw (eqb-true j k e) a) (λ e. size_same (row_at net j))

      at : (j : ℕ) → j < n → row_at (set_row net k r) j ≡ pick (eqb j k) r (row_at net j)
      at j b = rw set_row_with (with_at _ (λ i c. size_whole (same_at i c) (row_whole i c)) j b)

      pub row_at_set_row : row_at (set_row net k r) k ≡ r
      row_at_set_row = at k l ∙ rw (eq-eqb k k refl)

      pub row_at_set_row_other : (j : ℕ) → j < n → (j ≡ k → ⊥) → row_at (set_row net k r) j ≡ row_at net j
      row_at_set_row_other j b ne = at j b ∙ rw (ne_eqb j k ne)

      pub set_row_frame : Frame net (set_row net k r) n
      set_row_frame = rw set_row_with (with_frame _ (λ j b. size_whole (same_at j b) (row_whole j b)) (λ j b. (same_at j b).long))

-- ---- rows that are the same
pub with_ext : (net : List ℕ) (n : ℕ) (f g : ℕ → List ℕ) → ((k : ℕ) → k < n → f k ≡ g k) → with_rows net n f ≡ with_rows net n g
unfolding with_rows
with_ext net n f g e = rw (joined_ext f g n 0 (drop (row_start net n) net) (λ k a b. e k (omega arith)))

-- ---- a function that keeps the size of rows, done to each
module _ (net : List ℕ) (n : ℕ) (h : row_start net n ≤ length net) (f : ℕ → List ℕ → List ℕ)
    (keeps : (k : ℕ) → k < n → SameSize (row_at net k) (f k (row_at net k))) where
  pub each_whole : (k : ℕ) → k < n → Whole (f k (row_at net k))
  each_whole k l = size_whole (keeps k l) (row_whole net n h k l)

  pub each_row_lem : (k : ℕ) → k < n → row_at (each_row f net n) k ≡ f k (row_at net k)
  unfolding each_row
  each_row_lem k l = with_at net n h _ each_whole k l

  pub each_frame : Frame net (each_row f net n) n
  unfolding each_row
  each_frame = with_frame net n h _ each_whole (λ k l. (keeps k l).long)
