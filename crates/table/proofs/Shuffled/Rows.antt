-- A network in another order: its rows and its header; one row changed, each row changed, another phase and holder, before or after.
-- Assumes nothing.
use mathlib.Core.Path.{◌≡◌, sym, ◌∙◌, ap}
use mathlib.Core.Bool.{true, false}
use mathlib.Core.List.{List, []}
use mathlib.Core.Logic.{⊎_elim}
use Prim.Native.Nat.{ℕ, ◌≤◌, ◌<◌}
use native.Mathlib.Omega.{arith}
use lib.Dec.{eqb, ltb, lit<}
use lib.ListN.{length, get_or, drop_of_length-le}
use lib.Seq.{take-nil, get_or-take}
use borrow.Author.Tests.{eqb-true, eqb-false, ltb-true, ltb-false}
use Rattle.bits.specs.Words.{pick}
use Rattle.std.proofs.lemmas.Bool.{cases_Bool}
use Rattle.card.specs.Row.{row_size, Whole}
use Rattle.card.proofs.Rows.Sizes.{SameSize, size_whole}
use Rattle.table.specs.Rows.{header_bytes, row_start, row_at, set_row, with_rows, each_row}
use Rattle.table.specs.Network.{rows, phase, holder, LOST, turned}
use Rattle.table.specs.Shuffle.{Shuffle, shuffled}
use Rattle.table.proofs.Rows.Starts.{start_mono, start_header, frame_byte}
use Rattle.table.proofs.Rows.WithRows.{row_whole, with_at, with_header, with_end, with_with, with_ext, set_row_with, same_at, row_at_set_row, row_at_set_row_other, set_row_frame, each_whole, each_row_lem, each_frame}
use Rattle.table.proofs.Rows.Networks.{length_turned, start_turned, row_at_turned, turned_other, phase_turned, holder_turned, turned_set_row, turned_turned, turned_with}
use Rattle.table.proofs.Shuffled.Renaming.{to_within, from_within, to_from}

-- past the rows there is no row
row_past : (net : List ℕ) (n k : ℕ) → length net ≡ row_start net n → n ≤ k → row_at net k ≡ []
unfolding row_at
row_past net n k e l = rw (drop_of_length-le net {i = row_start net k} (omega (arith, start_mono net n k l))) (take-nil (row_size []))

-- a network of n rows and nothing after them
module _ {n : ℕ} (q : Shuffle n) (net : List ℕ) (ends : length net ≡ row_start net n) where
  within : row_start net n ≤ length net
  within = omega arith

  abbrev moved : List ℕ
  moved = with_rows net n (λ j. row_at net (q.from j))

  whole : (j : ℕ) → j < n → Whole (row_at net (q.from j))
  whole j l = row_whole net n within (q.from j) (from_within q j l)

  moved_at : (j : ℕ) → j < n → row_at moved j ≡ row_at net (q.from j)
  moved_at = with_at net n within _ whole

  moved_ends : length moved ≡ row_start moved n
  moved_ends = omega (arith, with_end net n within _ whole)

  moved_within : row_start moved n ≤ length moved
  moved_within = omega (arith, moved_ends)

  header_moved : header_bytes ≤ length moved
  header_moved = start_header moved n moved_within

  moved_byte : (x : ℕ) → x < header_bytes → get_or moved x 0 ≡ get_or net x 0
  moved_byte x l =
      sym (get_or-take header_bytes moved x 0 l) ∙ ap (λ (h : List ℕ). get_or h x 0) (with_header net n within _ whole) ∙ get_or-take header_bytes net x 0 l

  -- ---- where the rows end, each row, and the header
  pub shuffled_ends : length (shuffled q net) ≡ row_start (shuffled q net) n
  unfolding shuffled
  shuffled_ends = length_turned moved _ _ ∙ moved_ends ∙ sym (start_turned moved _ _ n)

  pub shuffled_at : (k : ℕ) → row_at (shuffled q net) (q.to k) ≡ row_at net k
  unfolding shuffled
  shuffled_at k =
      row_at_turned moved _ _ (q.to k)
      ∙ ⊎_elim (λ (t : ltb k n ≡ true). moved_at (q.to k) (to_within q k (ltb-true k n t)) ∙ ap (row_at net) (q.undone k))
      (λ (t : ltb k n ≡ false). let l = ltb-false k n t in
      ap (row_at moved) (q.past k l) ∙ row_past moved n k moved_ends l ∙ sym (row_past net n k ends l)) (cases_Bool (ltb k n))

  pub shuffled_from : (j : ℕ) → row_at (shuffled q net) j ≡ row_at net (q.from j)
  shuffled_from j = ap (row_at (shuffled q net)) (sym (q.redone j)) ∙ shuffled_at (q.from j)

  pub shuffled_header : (x : ℕ) → x < header_bytes → (x ≡ 4 → ⊥) → (x ≡ 5 → ⊥) → get_or (shuffled q net) x 0 ≡ get_or net x 0
  unfolding shuffled
  shuffled_header x l a b = turned_other moved _ _ x a b ∙ moved_byte x l

  pub shuffled_rows : rows (shuffled q net) ≡ rows net
  shuffled_rows = shuffled_header 3 (lit< tt) (λ e. omega arith) (λ e. omega arith)

  pub shuffled_phase : phase (shuffled q net) ≡ phase net
  unfolding shuffled
  shuffled_phase = phase_turned moved _ _ header_moved

  pub shuffled_holder : holder (shuffled q net) ≡ pick (eqb (phase net) LOST) 0 (q.to (holder net))
  unfolding shuffled
  shuffled_holder = holder_turned moved _ _ header_moved

  -- ---- another phase and holder: none in LOST
  pub shuffled_turned : (p h : ℕ) → turned (shuffled q net) p (pick (eqb p LOST) 0 (q.to h)) ≡ shuffled q (turned net p h)
  unfolding shuffled
  shuffled_turned p h =
      let l = start_header net n within in
      turned_turned moved _ _ p _
      ∙ sym (rw (phase_turned net p h l, holder_turned net p h l, with_ext (turned net p h) n _ _ (λ j _. row_at_turned net p h (q.from j)), turned_with net n within _ p h)
      (turned_turned moved p h p _))

  -- ---- another row k
  module _ (k : ℕ) (l : k < n) (r : List ℕ) (a : SameSize (row_at net k) r) where
    moved_set : set_row moved (q.to k) r ≡ with_rows (set_row net k r) n (λ j. row_at (set_row net k r) (q.from j))
    moved_set =
        set_row_with moved n moved_within (q.to k) (to_within q k l) r ∙ with_with net n within _ whole _
        ∙ with_ext net n _ _ same
        ∙ sym (rw (set_row_with net n within k l r) (with_with net n within _ (λ j c. size_whole (same_at net n within k l r a j c) (row_whole net n within j c)) _))
      where
        same : (j : ℕ) → j < n → pick (eqb j (q.to k)) r (row_at moved j) ≡ row_at (set_row net k r) (q.from j)
        same j c =
            rw (to_from q j k)
            (⊎_elim (λ (t : eqb (q.from j) k ≡ true). rw (t, eqb-true (q.from j) k t) (sym (row_at_set_row net n within k l r a)))
            (λ (t : eqb (q.from j) k ≡ false). rw t (moved_at j c ∙ sym (row_at_set_row_other net n within k l r a (q.from j) (from_within q j c) (eqb-false _ _ t))))
            (cases_Bool (eqb (q.from j) k)))

    pub shuffled_set : set_row (shuffled q net) (q.to k) r ≡ shuffled q (set_row net k r)
    unfolding shuffled
    shuffled_set =
        let f = set_row_frame net n within k l r a in
        let b = to_within q k l in
        sym (turned_set_row moved (q.to k) r _ _ (omega (arith, moved_within, start_mono moved (q.to k) n (omega arith))))
        ∙ rw (moved_set, frame_byte f 4 (lit< tt), frame_byte f 5 (lit< tt))

  -- ---- each row: f of what is row k by its number, and g by its place
  module _ (f g : ℕ → List ℕ → List ℕ) (same : (j : ℕ) (r : List ℕ) → g j r ≡ f (q.from j) r)
      (keeps : (k : ℕ) → k < n → SameSize (row_at net k) (f k (row_at net k))) where
    moved_each : with_rows moved n (λ j. g j (row_at moved j)) ≡ with_rows (each_row f net n) n (λ j. row_at (each_row f net n) (q.from j))
    unfolding each_row
    moved_each =
        with_with net n within _ whole _
        ∙ with_ext net n _ _ (λ j l. same j (row_at moved j) ∙ ap (f (q.from j)) (moved_at j l) ∙ sym (each_row_lem net n within f keeps (q.from j) (from_within q j l)))
        ∙ sym (with_with net n within _ (each_whole net n within f keeps) _)

    pub shuffled_each : each_row g (shuffled q net) n ≡ shuffled q (each_row f net n)
    unfolding shuffled each_row
    shuffled_each =
        let e = each_frame net n within f keeps in
        with_ext (turned moved _ _) n _ _ (λ j _. ap (g j) (row_at_turned moved _ _ j))
        ∙ turned_with moved n moved_within _ _ _
        ∙ rw (moved_each, frame_byte e 4 (lit< tt), frame_byte e 5 (lit< tt))
