-- A name: its part of the record, and its trailing spaces.
-- Assumes nothing.
use mathlib.Core.Path.{◌≡◌, refl, sym}
use mathlib.Core.Bool.{true}
use mathlib.Core.List.{List, [], ◌∷◌}
use mathlib.Core.Logic.{⊎_elim}
use Prim.Native.Nat.{ℕ, zero, suc, ◌+◌, ◌-◌, ◌≤◌, ◌<◌}
use native.Mathlib.Nat.{not-suc-le-zero}
use native.Mathlib.Numerals.{add-one}
use native.Mathlib.Omega.{arith}
use lib.Dec.{eqb, ltb}
use lib.ListN.{length, get_or, take, drop, length-drop}
use lib.Seq.{take_all}
use borrow.Author.Tests.{eq-eqb, ne_eqb, ltb-true, ltb-false, le-ltb}
use Rattle.std.proofs.lemmas.List.Folds.{list_all_at}
use Rattle.std.proofs.lemmas.Bool.{cases_Bool}
use Rattle.orders.specs.Form.{record_bytes, records, name_of, spaces, trimmed, name_at}

-- ---- trailing spaces
spaces_all : (l : List ℕ) → ((k : ℕ) → k < length l → get_or l k 0 ≡ 0x20) → spaces l ≡ true
spaces_all [] h = refl
spaces_all (x ∷ l) h = rw (eq-eqb _ _ (h 0 (omega arith)), spaces_all l (λ k b. h (suc k) (omega arith)))

pub trim_none : (l : List ℕ) → ((k : ℕ) → k < length l → get_or l k 0 ≡ 0x20) → trimmed l ≡ []
unfolding trimmed
trim_none [] h = refl
trim_none (x ∷ l) h = rw (spaces_all (x ∷ l) h)

trim_at : (l : List ℕ) (n : ℕ) → n < length l → (get_or l n 0 ≡ 0x20 → ⊥) → ((k : ℕ) → n < k → k < length l → get_or l k 0 ≡ 0x20) → trimmed l ≡ take (suc n) l
unfolding trimmed
trim_at [] n h ne t = absurd (not-suc-le-zero h)
trim_at (x ∷ l) zero h ne t = rw (list_all_at (λ x. eqb x 0x20) (x ∷ l) 0 0 h (ne_eqb _ _ ne), trim_none l (λ k b. t (suc k) (omega arith) (omega arith)))
trim_at (x ∷ l) (suc n) h ne t =
    rw (list_all_at (λ x. eqb x 0x20) (x ∷ l) (suc n) 0 h (ne_eqb _ _ ne), trim_at l n (omega arith) ne (λ k a b. t (suc k) (omega arith) (omega arith)))

pub trim_to : (l : List ℕ) (n : ℕ) → n < length l → (get_or l n 0 ≡ 0x20 → ⊥) → ((k : ℕ) → n < k → k < length l → get_or l k 0 ≡ 0x20) → take (n + 1) l ≡ trimmed l
trim_to l n h ne t = rw add-one (sym (trim_at l n h ne t))

-- ---- a record's name, as the code lends it
pub all_of_name : (r : List ℕ) → length r ≡ record_bytes → take (record_bytes - 4) (drop 4 r) ≡ name_of r
all_of_name r h = take_all (record_bytes - 4) (drop 4 r) (simp length-drop (omega arith))

-- ---- the name of record k
pub name_not : (order : List ℕ) (k : ℕ) → records order ≤ k → name_at order k ≡ []
unfolding name_at
name_not order k h = rw (le-ltb _ _ h)

pub name_there : (order : List ℕ) (k : ℕ) → (name_at order k ≡ [] → ⊥) → k < records order
name_there order k f = ⊎_elim (λ t. ltb-true _ _ t) (λ t. absurd (f (name_not order k (ltb-false _ _ t)))) (cases_Bool (ltb k (records order)))
