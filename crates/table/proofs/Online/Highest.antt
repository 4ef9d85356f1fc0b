-- The highest ID on line: no row on line is above it, and it is no higher than it must be.
-- Assumes nothing.
use mathlib.Core.Path.{◌≡◌}
use mathlib.Core.Bool.{true, false, ◌&&◌}
use mathlib.Core.List.{List}
use mathlib.Core.Logic.{⊎_elim}
use Prim.Native.Nat.{ℕ, zero, suc, ◌≤◌, ◌<◌}
use native.Mathlib.Omega.{arith}
use lib.Dec.{ltb}
use borrow.Author.Tests.{ltb-true, ltb-false}
use Rattle.std.proofs.lemmas.Bool.{cases_Bool}
use Rattle.bits.proofs.Words.Bools.{and_left, and_right, pick_of}
use Rattle.table.specs.Network.{regs_at, on_line_at, top_id}

pub top_above : (net : List ℕ) (n j : ℕ) → j < n → on_line_at net j ≡ true → (regs_at net j).id ≤ top_id net n
unfolding top_id
top_above net zero j l o = absurd (omega arith)
top_above net (suc k) j l o =
    ⊎_elim
    (λ (t : ltb j k ≡ true). let m = top_above net k j (ltb-true j k t) o in
    pick_of (λ (x : ℕ). (regs_at net j).id ≤ x) (on_line_at net k && ltb (top_id net k) (regs_at net k).id)
    (λ e. omega (arith, m, ltb-true (top_id net k) (regs_at net k).id (and_right (on_line_at net k) (ltb (top_id net k) (regs_at net k).id) e))) (λ _. m))
    (λ (t : ltb j k ≡ false). let e : j ≡ k = omega (arith, ltb-false j k t, l) in
    rw (rw e at o) (rw e (pick_of (λ (x : ℕ). (regs_at net k).id ≤ x) (ltb (top_id net k) (regs_at net k).id) (λ _. omega arith)
    (λ u. omega (arith, ltb-false (top_id net k) (regs_at net k).id u))))) (cases_Bool (ltb j k))

pub top_least : (net : List ℕ) (n m : ℕ) → ((j : ℕ) → j < n → on_line_at net j ≡ true → (regs_at net j).id ≤ m) → top_id net n ≤ m
unfolding top_id
top_least net zero m p = omega arith
top_least net (suc k) m p =
    pick_of (λ (x : ℕ). x ≤ m) (on_line_at net k && ltb (top_id net k) (regs_at net k).id)
    (λ e. p k (omega arith) (and_left (on_line_at net k) (ltb (top_id net k) (regs_at net k).id) e)) (λ _. top_least net k m (λ j l. p j (omega arith)))
