-- The rows on line: what the code reads of a row, the search for an ID, and the highest ID, as loops go through them.
-- Assumes nothing.
use mathlib.Core.Path.{◌≡◌, refl, sym, ◌∙◌, ap}
use mathlib.Core.Bool.{Bool, true, false, not, ◌&&◌}
use mathlib.Core.List.{List}
use Prim.Native.Nat.{ℕ, zero, suc, ◌+◌, ◌≤◌, ◌<◌}
use native.Mathlib.Omega.{arith}
use native.Mathlib.Numerals.{add-one}
use lib.Dec.{eqb, ltb}
use borrow.Author.Tests.{eqb-true, eqb-false, eq-eqb, ne_eqb, ltb-true, ltb-false, not-true}
use Rattle.registers.specs.declared.regs.Regs.{Regs}
use Rattle.bits.specs.Words.{pick}
use Rattle.registers.specs.Fit.{on_line}
use Rattle.std.proofs.Math.Bool.{and-true}
use Rattle.bits.proofs.Words.Bools.{and_left, and_right, pick_of}
use Rattle.registers.proofs.Values.SameCard.{on_line_id}
use Rattle.std.proofs.Common.{Option}
use Rattle.std.specs.Option.{is_some}
use Rattle.table.specs.Folds.{some, seek, below}
use Rattle.table.specs.Rows.{row_at}
use Rattle.table.specs.Network.{regs_at, on_line_at, is_node, node_of, top_id}
use Rattle.table.proofs.Folds.{clash, seek_at_most, seek_found, seek_least, seek_same, some_found, some_missed, below_some}

-- ---- the highest ID
pub top_id_none : (net : List ℕ) → top_id net 0 ≡ 0
unfolding top_id
top_id_none net = refl

pub top_id_more : (net : List ℕ) (k : ℕ)
    → top_id net (k + 1) ≡ pick (on_line_at net k && ltb (top_id net k) (regs_at net k).id) (regs_at net k).id (top_id net k)
unfolding top_id
top_id_more net k = rw add-one

-- ---- what the code reads of a row
module _ (net : List ℕ) (k : ℕ) (g : Regs) (b : Bool) (p : g ≡ regs_at net k) (q : b ≡ on_line g) where
  pub online_is : b ≡ on_line_at net k
  unfolding on_line_at
  online_is = q ∙ ap on_line p

  pub node_is : (i : ℕ) → (b && eqb g.id i) ≡ is_node net i k
  unfolding is_node
  node_is i = rw (online_is, p)

  -- a turn of the loop that takes the highest ID
  pub top_id_step : (top : ℕ) → top ≡ top_id net k → pick (b && ltb top g.id) g.id top ≡ top_id net (k + 1)
  top_id_step top e = rw (top_id_more, online_is, p, e)

-- row k is on line with the ID i, and is not row x
abbrev pub other : List ℕ → ℕ → ℕ → ℕ → Bool
other net i x k = is_node net i k && not (eqb k x)

-- ---- a node: an on-line row and its ID
pub node_of_lem : (net : List ℕ) (k i : ℕ) → on_line_at net k ≡ true → (regs_at net k).id ≡ i → is_node net i k ≡ true
unfolding is_node
node_of_lem net k i p e = rw (p, eq-eqb _ _ e)

module _ (net : List ℕ) (k i : ℕ) (t : is_node net i k ≡ true) where
  pub node_online : on_line_at net k ≡ true
  unfolding is_node
  node_online = and_left (on_line_at net k) (eqb (regs_at net k).id i) t

  pub node_id : (regs_at net k).id ≡ i
  unfolding is_node
  node_id = eqb-true _ _ (and_right (on_line_at net k) (eqb (regs_at net k).id i) t)

-- the ID of a row on line is not 0
pub online_id : (net : List ℕ) (k : ℕ) → on_line_at net k ≡ true → (regs_at net k).id ≡ 0 → ⊥
unfolding on_line_at
online_id net k o e = on_line_id (regs_at net k) o e

-- what the search for an ID finds, and what it says where it finds nothing
module _ (net : List ℕ) (i x n : ℕ) where
  pub node_of_found : node_of net i x n < n → (is_node net i (node_of net i x n) ≡ true) × (node_of net i x n ≡ x → ⊥)
  unfolding node_of
  node_of_found h =
      let t = seek_found (other net i x) n h in
      let k = seek (other net i x) n in
      (and_left (is_node net i k) (not (eqb k x)) t, eqb-false k x (not-true (eqb k x) (and_right (is_node net i k) (not (eqb k x)) t)))

  pub node_of_most : node_of net i x n ≤ n
  unfolding node_of
  node_of_most = seek_at_most (other net i x) n

  pub node_of_fails : node_of net i x n ≡ n → (j : ℕ) → j < n → (j ≡ x → ⊥) → is_node net i j ≡ false
  unfolding node_of
  node_of_fails e j l ne =
      let t = seek_least (other net i x) n j (rw e l) in
      rw (ne_eqb j x ne, and-true) at t

-- row k is not on line with the ID of an on-line row before it
abbrev pub free : List ℕ → ℕ → Bool
free net k = not (on_line_at net k && some (is_node net (regs_at net k).id) k)

-- what the code reads of row k, and the search for its ID among the rows before it, say of that
module _ (net : List ℕ) (k : ℕ) (g : Regs) (b : Bool) (p : g ≡ regs_at net k) (q : b ≡ on_line g) where
  pub free_off : b ≡ false → free net k ≡ true
  free_off e = rw (sym (online_is net k g b p q) ∙ e)

  module _ (e : b ≡ true) (o : Option ℕ) (s : o ≡ below k (node_of net g.id k k)) where
    on : on_line_at net k ≡ true
    on = sym (online_is net k g b p q) ∙ e

    sought : node_of net g.id k k ≡ seek (is_node net (regs_at net k).id) k
    unfolding node_of
    sought = seek_same (other net g.id k) (is_node net (regs_at net k).id) k (λ m l. rw (ne_eqb m k (λ x. omega arith), and-true, p))

    told : is_some o ≡ ltb (node_of net g.id k k) k
    told = rw s (below_some k (node_of net g.id k k))

    pub free_not : is_some o ≡ true → free net k ≡ false
    free_not l = rw (on, some_found _ k _ sought (ltb-true _ k (sym told ∙ l)))

    pub free_is : is_some o ≡ false → free net k ≡ true
    free_is l = rw (on, some_missed _ k _ sought (ltb-false _ k (sym told ∙ l)))

-- where no row is on line with the highest ID, nobody is on line
pub top_id_nobody : (net : List ℕ) (n i : ℕ) → top_id net n ≡ i → ((j : ℕ) → j < n → is_node net i j ≡ false) → i ≡ 0
unfolding top_id
top_id_nobody net zero i e q = sym e
top_id_nobody net (suc n) i e q =
    let t = on_line_at net n && ltb (top_id net n) (regs_at net n).id in
    pick_of (λ (x : ℕ). x ≡ i → i ≡ 0) t
    (λ a u. absurd (clash (node_of_lem net n i (and_left (on_line_at net n) (ltb (top_id net n) (regs_at net n).id) a) u) (q n (omega arith))))
    (λ _ u. top_id_nobody net n i u (λ j l. q j (omega arith))) e

-- ---- a row that is the same in two networks
module _ (net new : List ℕ) (k : ℕ) (e : row_at new k ≡ row_at net k) where
  pub online_same : on_line_at new k ≡ on_line_at net k
  unfolding on_line_at
  online_same = rw e

  pub node_same : (i : ℕ) → is_node new i k ≡ is_node net i k
  unfolding is_node
  node_same i = rw (online_same, e)
