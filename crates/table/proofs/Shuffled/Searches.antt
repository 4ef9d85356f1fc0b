-- A search for the number at which a test holds, and its numbers renamed: where the test holds at one number at most, that number renamed is found.
-- Assumes nothing.
use mathlib.Core.Path.{◌≡◌, sym, ◌∙◌, ap}
use mathlib.Core.Bool.{Bool, true, false}
use mathlib.Core.Logic.{⊎_elim}
use Prim.Native.Nat.{ℕ, ◌<◌}
use native.Mathlib.Omega.{arith}
use lib.Dec.{ltb}
use borrow.Author.Tests.{ltb-true, ltb-false}
use Rattle.std.proofs.lemmas.Bool.{cases_Bool}
use Rattle.table.specs.Folds.{some, seek}
use Rattle.table.specs.Shuffle.{Shuffle}
use Rattle.table.proofs.Folds.{clash, some_fails, some_not, seek_at_most, seek_found, seek_least, seek_is, seek_not}
use Rattle.table.proofs.Shuffled.Renaming.{to_within, from_within}

module _ {n : ℕ} (q : Shuffle n) (f : ℕ → Bool) where
  abbrev there : ℕ → Bool
  there j = f (q.from j)

  pub some_shuffled : some there n ≡ some f n
  some_shuffled =
      ⊎_elim
      (λ (t : some f n ≡ true). ⊎_elim (λ u. u ∙ sym t)
      (λ (u : some there n ≡ false). absurd (clash t (some_not f n (λ k l. ap f (sym (q.undone k)) ∙ some_fails there n (q.to k) u (to_within q k l)))))
      (cases_Bool (some there n)))
      (λ (t : some f n ≡ false). some_not there n (λ j l. some_fails f n (q.from j) t (from_within q j l)) ∙ sym t) (cases_Bool (some f n))

  pub seek_shuffled : ((i j : ℕ) → i < n → j < n → f i ≡ true → f j ≡ true → i ≡ j) → seek there n ≡ q.to (seek f n)
  seek_shuffled one =
      let k = seek f n in
      ⊎_elim
      (λ (t : ltb k n ≡ true). let l = ltb-true k n t in
      let y = seek_found f n l in
      let z = to_within q k l in
      seek_is there n (q.to k) z (ap f (q.undone k) ∙ y)
      (λ j b. ⊎_elim (λ (u : there j ≡ true). let e = one (q.from j) k (from_within q j (omega arith)) l u y in
      absurd (omega (arith, sym (q.redone j) ∙ ap q.to e))) (λ u. u) (cases_Bool (there j))))
      (λ (t : ltb k n ≡ false). let e : k ≡ n = omega (arith, ltb-false k n t, seek_at_most f n) in
      seek_not there n (λ j l. seek_least f n (q.from j) (omega (arith, from_within q j l)))
      ∙ sym (ap q.to e ∙ q.past n (omega arith))) (cases_Bool (ltb k n))
