-- A table's lines, one by one: the first that begins with a name, and where it starts.
-- Assumes nothing.
use mathlib.Core.Path.{◌≡◌, refl, ◌∙◌}
use mathlib.Core.Bool.{Bool, true, false}
use mathlib.Core.List.{List, []}
use Prim.Native.Nat.{ℕ, zero, suc, ◌+◌, ◌-◌, ◌≤◌, ◌<◌}
use native.Mathlib.Numerals.{unary_clauses}
use native.Mathlib.Omega.{arith}
use native.Mathlib.Nat.{not-suc-le-zero}
use lib.ListN.{length, take, drop, length-drop, drop_of_length-le}
use Rattle.words.proofs.Lines.{first_here, past_here}
use Rattle.std.specs.Str.{bytes_eq}
use Rattle.words.specs.Words.{pick, NEWLINE, up_to, past, word, row_of, row_of_from}

both : (b : Bool) → {l m : List ℕ} → l ≡ [] → m ≡ [] → pick b l m ≡ []
both true e f = e
both false e f = f

pub row_nil : (n : ℕ) (name : List ℕ) → row_of n [] name ≡ []
unfolding row_of up_to past
row_nil zero name = refl
row_nil (suc n) name = both (bytes_eq (word [] 0) name) refl (row_nil n name)

row_next : (n : ℕ) (table name : List ℕ) → 0 < n
    → row_of n table name ≡ pick (bytes_eq (word (up_to NEWLINE table) 0) name) (up_to NEWLINE table) (row_of (n - 1) (past NEWLINE table) name)
unfolding row_of
row_next zero table name h = absurd (not-suc-le-zero h)
row_next (suc n) table name h = simp unary_clauses refl

from_next : (n : ℕ) (table name : List ℕ) → 0 < n
    → row_of_from n table name
    ≡ pick (bytes_eq (word (up_to NEWLINE table) 0) name) 0 (suc (length (up_to NEWLINE table)) + row_of_from (n - 1) (past NEWLINE table) name)
unfolding row_of_from
from_next zero table name h = absurd (not-suc-le-zero h)
from_next (suc n) table name h = simp unary_clauses refl

-- no line is left
pub from_none : (table name : List ℕ) (from left n : ℕ) → left ≡ 0 → from + row_of_from left (drop from table) name ≡ n → length table < n
unfolding row_of_from
from_none table name from left n z e =
    let f : from + suc (length (drop from table)) ≡ n = rw z at e in
    omega (arith, f, length-drop from table)

module _ (table name : List ℕ) (from end : ℕ) (h : from ≤ length table) (e : end ≡ from + length (up_to NEWLINE (drop from table))) (n : ℕ)
    (m : 0 < n) (w : List ℕ) (ew : w ≡ word (take (end - from) (drop from table)) 0) (b : Bool) (eb : b ≡ bytes_eq w name) where
  tested : row_of n (drop from table) name ≡ pick b (take (end - from) (drop from table)) (row_of (n - 1) (drop (end + 1) table) name)
  tested =
      let l = drop from table in
      row_next n l name m
      ∙ rw (← past_here NEWLINE table from end h e, eb, ew, first_here NEWLINE table from end h e)

  starts : row_of_from n (drop from table) name
      ≡ pick b 0 (suc (length (up_to NEWLINE (drop from table))) + row_of_from (n - 1) (drop (end + 1) table) name)
  starts =
      let l = drop from table in
      from_next n l name m
      ∙ rw (← past_here NEWLINE table from end h e, eb, ew, first_here NEWLINE table from end h e)

  pub row_found : b ≡ true → row_of n (drop from table) name ≡ take (end - from) (drop from table)
  row_found t = tested ∙ rw t

  pub row_more : b ≡ false → row_of n (drop from table) name ≡ row_of (n - 1) (drop (end + 1) table) name
  row_more f = tested ∙ rw f

  pub row_missing : b ≡ false → end ≡ length table → row_of n (drop from table) name ≡ []
  row_missing f z =
      let l : length table ≤ end + 1 = omega arith in
      row_more f ∙ rw (drop_of_length-le table l) (row_nil (n - 1) name)

  pub from_found : b ≡ true → from ≡ from + row_of_from n (drop from table) name
  from_found t = let z : row_of_from n (drop from table) name ≡ 0 = rw t at starts in omega (arith, z)

  pub from_more : b ≡ false → from + row_of_from n (drop from table) name ≡ end + 1 + row_of_from (n - 1) (drop (end + 1) table) name
  from_more f =
      let z : row_of_from n (drop from table) name ≡ suc (length (up_to NEWLINE (drop from table))) + row_of_from (n - 1) (drop (end + 1) table) name
      = rw f at starts in
      omega (arith, z)
