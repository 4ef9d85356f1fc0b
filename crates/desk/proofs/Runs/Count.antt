-- The IDs on line, and how many: the roster has an ID for each on-line row.
-- Assumes nothing.
use mathlib.Core.Path.{◌≡◌, refl, sym, ap, ◌∙◌, fun_ext}
use mathlib.Core.Logic.{◌≢◌, ⊎_elim}
use mathlib.Core.Bool.{Bool, true, false, cond, ◌||◌}
use mathlib.Core.List.{List, ◌∷◌}
use Prim.Native.Nat.{ℕ, zero, suc, ◌+◌, ◌%◌, ◌<◌, ◌≤◌}
use native.Mathlib.Numerals.{add-one}
use native.Mathlib.Omega.{arith}
use lib.ListN.{length}
use lib.Dec.{eqb}
use borrow.Author.Tests.{eqb-true, eqb-false}
use Rattle.std.proofs.lemmas.Bool.{cases_Bool}
use Rattle.std.proofs.Math.Bool.{or-false, or-true}
use Rattle.bits.proofs.Words.Bools.{pick_of}
use Rattle.std.specs.List.{filter}
use Rattle.registers.specs.Fit.{on_line}
use Rattle.card.specs.Row.{regs_of}
use Rattle.table.specs.Folds.{some}
use Rattle.table.specs.Rows.{row_at}
use Rattle.table.specs.Network.{regs_at, on_line_at, is_node}
use Rattle.table.proofs.Folds.{clash, some_none, some_more, some_not}
use Rattle.table.proofs.Rows.Walk.{rows_from}
use Rattle.table.proofs.Online.Nodes.{node_of_lem, node_online, node_id}
use Rattle.desk.specs.Lap.{online}
use Rattle.desk.proofs.ById.Ring.{calls, roster}
use Rattle.desk.proofs.ById.Roster.{calls_none}

-- ---- two tests of IDs that differ at z alone
module _ (p q : ℕ → Bool) (z : ℕ) (yes' : p z ≡ true) (no' : q z ≡ false) (same : (x : ℕ) → x ≢ z → p x ≡ q x) where
  past : (k a : ℕ) → z < a → a + k ≤ 256 → calls p a k ≡ calls q a k
  unfolding calls
  past zero a h r = refl
  past (suc k) a h r = rw (same (a % 256) (omega arith), past k (suc a) (omega arith) (omega arith))

  both : (b : Bool) (x : ℕ) (P Q : List ℕ) → length P ≡ suc (length Q) → length (cond b (x ∷ P) P) ≡ suc (length (cond b (x ∷ Q) Q))
  both true x P Q e = omega arith
  both false x P Q e = e

  one_more : (k a : ℕ) → a ≤ z → z < a + k → a + k ≤ 256 → length (calls p a k) ≡ suc (length (calls q a k))
  unfolding calls
  one_more zero a h i r = absurd (omega arith)
  one_more (suc k) a h i r = go (eqb (a % 256) z) refl (one_more k (suc a))
    where
      go : (b : Bool) → eqb (a % 256) z ≡ b
          → (suc a ≤ z → z < suc a + k → suc a + k ≤ 256 → length (calls p (suc a) k) ≡ suc (length (calls q (suc a) k)))
          → length (calls p a (suc k)) ≡ suc (length (calls q a (suc k)))
      go true e ih =
          let x : a % 256 ≡ z = eqb-true (a % 256) z e in
          rw (x, yes', no', past k (suc a) (omega arith) (omega arith))
      go false e ih =
          let x : a % 256 ≢ z = eqb-false (a % 256) z e in
          rw (same (a % 256) x) (both (q (a % 256)) _ _ _ (ih (omega arith) (omega arith) (omega arith)))

-- ---- the IDs of the on-line rows among the first n
abbrev pub on_first : List ℕ → ℕ → ℕ → Bool
on_first net n x = some (is_node net x) n

not_node : (net : List ℕ) (k x : ℕ) → (is_node net x k ≡ true → ⊥) → is_node net x k ≡ false
not_node net k x n = ⊎_elim (λ t. absurd (n t)) (λ f. f) (cases_Bool (is_node net x k))

module _ (net : List ℕ) (k : ℕ) where
  more : (x : ℕ) → on_first net (suc k) x ≡ (on_first net k x || is_node net x k)
  more x = rw (← add-one) (some_more (is_node net x) k)

  off_same : on_line_at net k ≡ false → on_first net (suc k) ≡ on_first net k
  off_same o = fun_ext (λ x. more x ∙ rw (not_node net k x (λ t. clash (node_online net k x t) o)) (or-false (on_first net k x)))

  on_here : on_line_at net k ≡ true → on_first net (suc k) (regs_at net k).id ≡ true
  on_here o = let i = (regs_at net k).id in more i ∙ rw (node_of_lem net k i o refl) (or-true (on_first net k i))

  on_other : (x : ℕ) → x ≢ (regs_at net k).id → on_first net (suc k) x ≡ on_first net k x
  on_other x n = more x ∙ rw (not_node net k x (λ t. n (sym (node_id net k x t)))) (or-false (on_first net k x))

-- IDs of on-line rows differ and are bytes
pub record Ids (net : List ℕ) (n : ℕ) : Type 0 where
  pub byte : (k : ℕ) → k < n → (regs_at net k).id < 256
  pub differ : (j k : ℕ) → j < n → k < n → on_line_at net j ≡ true → on_line_at net k ≡ true → (regs_at net j).id ≡ (regs_at net k).id → j ≡ k

alone : (net : List ℕ) (k : ℕ) → Ids net (suc k) → on_line_at net k ≡ true → on_first net k (regs_at net k).id ≡ false
alone net k i o =
    some_not (is_node net (regs_at net k).id) k
    (λ j l. not_node net j (regs_at net k).id
    (λ t. let e = i.differ j k (omega arith) (omega arith) (node_online net j _ t) o (node_id net j _ t) in omega arith))

pub roster_online : (net : List ℕ) (n : ℕ) → Ids net n → length (roster (on_first net n)) ≡ online net n
unfolding roster online
roster_online net zero i = ap length (calls_none (on_first net 0) 256 0 (λ j h. some_none _))
roster_online net (suc k) i =
    let ih = roster_online net k (record { byte = λ j l. i.byte j (omega arith); differ = λ j m lj lm. i.differ j m (omega arith) (omega arith) }) in
    pick_of (λ (x : ℕ). length (calls (on_first net (suc k)) 0 256) ≡ x) (on_line_at net k)
    (λ o. one_more (on_first net (suc k)) (on_first net k) (regs_at net k).id (on_here net k o) (alone net k i o) (on_other net k) 256 0
    (omega arith) (omega (arith, i.byte k (omega arith))) (omega arith) ∙ ap suc ih)
    (λ o. ap (λ (f : ℕ → Bool). length (calls f 0 256)) (off_same net k o) ∙ ih)

-- ---- the count
abbrev on_row : List ℕ → Bool
on_row r = on_line (regs_of r)

-- as the code counts: of m rows from row k on
on_rows : (net : List ℕ) (m k : ℕ) → online net (k + m) ≡ online net k + length (filter on_row (rows_from net k m))
unfolding online on_line_at
on_rows net zero k = let z : k + 0 ≡ k = omega arith in rw z (omega arith)
on_rows net (suc m) k =
    let ih = on_rows net m (suc k) in
    let e : k + suc m ≡ suc k + m = omega arith in
    rw e (ih ∙ ⊎_elim (λ (t : on_row (row_at net k) ≡ true). rw t (omega arith)) (λ (f : on_row (row_at net k) ≡ false). rw f) (cases_Bool (on_row (row_at net k))))

pub rows_online : (net : List ℕ) (n : ℕ) → length (filter on_row (rows_from net 0 n)) ≡ online net n
unfolding online
rows_online net n = let e : 0 + n ≡ n = omega arith in sym (rw e at (on_rows net n 0) ∙ omega arith)

pub online_most : (net : List ℕ) (n : ℕ) → online net n ≤ n
unfolding online
online_most net zero = omega arith
online_most net (suc k) =
    let m = online_most net k in
    pick_of (λ (x : ℕ). x ≤ suc k) (on_line_at net k) (λ _. omega (arith, m)) (λ _. omega (arith, m))

-- a count that is not 0 has a row on line
pub some_online : (net : List ℕ) (n : ℕ) → 0 < online net n → (k : ℕ) × (k < n) × (on_line_at net k ≡ true)
unfolding online
some_online net zero h = absurd (omega arith)
some_online net (suc n) h =
    ⊎_elim (λ (o : on_line_at net n ≡ true). (n, omega arith, o))
    (λ (o : on_line_at net n ≡ false). let r = some_online net n (rw o at h) in (r.0, omega (arith, r.1), r.2)) (cases_Bool (on_line_at net n))
