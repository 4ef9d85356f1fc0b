-- A network seen as a header, whole rows, and what lies after them: where rows start there, and a row. Any bytes are seen so.
-- Assumes nothing.
use mathlib.Core.Path.{◌≡◌, refl, sym, ◌∙◌, ap}
use mathlib.Core.List.{List, [], ◌++◌, append_assoc}
use Prim.Native.Nat.{ℕ, zero, suc, ◌+◌, ◌-◌, ◌≤◌, ◌<◌}
use native.Mathlib.Omega.{arith}
use lib.ListN.{length, take, drop, take-append-drop, length-append}
use lib.Seq.{drop_at, take-add, drop-drop}
use Rattle.card.specs.Row.{row_size, Whole}
use Rattle.card.proofs.Rows.Sizes.{whole_first, whole_rest, whole_size}
use Rattle.table.specs.Rows.{header_bytes, row_start, row_at, joined}

-- ---- rows one after the other
pub joined_cut : (g : ℕ → List ℕ) (i m k n j : ℕ) (t : List ℕ) → n ≡ i + m → j ≡ k + i → joined g k n t ≡ joined g k i (joined g j m t)
unfolding joined
joined_cut g zero m k n j t a b = let c : n ≡ m = omega arith in let d : j ≡ k = omega arith in rw (c, d)
joined_cut g (suc i) m k zero j t a b = absurd (omega arith)
joined_cut g (suc i) m k (suc n) j t a b = ap (λ (z : List ℕ). g k ++ z) (joined_cut g i m (suc k) n j t (omega arith) (omega arith))

pub joined_split : (g : ℕ → List ℕ) (m k : ℕ) (t : List ℕ) → joined g k m t ≡ joined g k m [] ++ t
unfolding joined
joined_split g zero k t = refl
joined_split g (suc m) k t = rw (joined_split g m (suc k) t, append_assoc)

pub joined_ext : (f g : ℕ → List ℕ) (m k : ℕ) (t : List ℕ) → ((j : ℕ) → k ≤ j → j < k + m → f j ≡ g j) → joined f k m t ≡ joined g k m t
unfolding joined
joined_ext f g zero k t e = refl
joined_ext f g (suc m) k t e = rw (e k (omega arith) (omega arith), joined_ext f g m (suc k) t (λ j a b. e j (omega arith) (omega arith)))

-- ---- a header h, the rows g 0, g 1, .. below n, each whole, and then t
module _ (h : List ℕ) (e : length h ≡ header_bytes) (g : ℕ → List ℕ) (n : ℕ) (w : (k : ℕ) → k < n → Whole (g k)) (t : List ℕ) where
  -- what lies from row k on
  pub view_from : (k m : ℕ) → k + m ≡ n → drop (row_start (h ++ joined g 0 n t) k) (h ++ joined g 0 n t) ≡ joined g k m t
  unfolding row_start joined
  view_from zero m a = let b : m ≡ n = omega arith in rw b (drop_at h (joined g 0 n t) header_bytes e)
  view_from (suc k) m a =
      sym (drop-drop _ (row_start (h ++ joined g 0 n t) k) (h ++ joined g 0 n t))
      ∙ rw (view_from k (suc m) (omega arith)) (whole_rest (g k) (joined g (suc k) m t) (w k (omega arith)))

  module _ (k : ℕ) (l : k < n) where
    view_row : drop (row_start (h ++ joined g 0 n t) k) (h ++ joined g 0 n t) ≡ g k ++ joined g (suc k) (n - suc k) t
    unfolding joined
    view_row = view_from k (suc (n - suc k)) (omega arith)

    -- the start of the row after it, and the row
    pub view_next : row_start (h ++ joined g 0 n t) (suc k) ≡ row_start (h ++ joined g 0 n t) k + length (g k)
    unfolding row_start
    view_next = rw (view_row, whole_size (g k) (joined g (suc k) (n - suc k) t) (w k l))

    pub view_at : row_at (h ++ joined g 0 n t) k ≡ g k
    unfolding row_at
    view_at = rw view_row (whole_first (g k) (joined g (suc k) (n - suc k) t) (w k l))

  -- all the bytes: those before row k, and those from it on
  view_length : (k m : ℕ) → k + m ≡ n → row_start (h ++ joined g 0 n t) k + length (joined g k m t) ≡ length (h ++ joined g 0 n t)
  unfolding row_start joined
  view_length zero m a = let b : m ≡ n = omega arith in rw (b, length-append h (joined g 0 n t), e)
  view_length (suc k) m a =
      omega (arith, view_next k (omega arith), view_length k (suc m) (omega arith), length-append (g k) (joined g (suc k) m t))

  -- and where the rows end
  pub view_end : row_start (h ++ joined g 0 n t) n + length t ≡ length (h ++ joined g 0 n t)
  unfolding joined
  view_end = view_length n 0 (omega arith)

-- ---- any bytes are a header, rows, and what lies after them
module _ (net : List ℕ) where
  pub join_front : (k : ℕ) (z : List ℕ) → take (row_start net k) net ++ z ≡ take header_bytes net ++ joined (row_at net) 0 k z
  unfolding row_start row_at joined
  join_front zero z = refl
  join_front (suc k) z =
      rw (take-add, append_assoc, join_front k)
      (ap (λ (x : List ℕ). take header_bytes net ++ x) (sym (joined_cut (row_at net) k 1 0 (suc k) k z (omega arith) (omega arith))))

  pub join_rest : (m k n : ℕ) → k + m ≡ n → drop (row_start net k) net ≡ joined (row_at net) k m (drop (row_start net n) net)
  unfolding row_start row_at joined
  join_rest zero k n a = let b : k ≡ n = omega arith in rw b
  join_rest (suc m) k n a =
      let rest = drop (row_start net k) net in
      rw (← join_rest m (suc k) n (omega arith), ← drop-drop (row_size rest) (row_start net k) net, take-append-drop (row_size rest) rest)
