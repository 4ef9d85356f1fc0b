-- No second outcome fits a contract of `table`.
-- Assumes nothing.
use mathlib.Core.Path.{◌≡◌, refl, sym, ap, ◌∙◌}
use mathlib.Core.List.{List, ◌++◌}
use Prim.Native.Nat.{ℕ, ◌<◌}
use native.Mathlib.Omega.{arith}
use lib.ListN.{take}
use Rattle.told.proofs.Told.One.{number_one}
use Rattle.std.specs.Prelude.{Option, Some, None}
use Rattle.std.specs.Borrow.{Bor}
use Rattle.table.specs.Rows.{header_bytes, with_rows}
use Rattle.table.specs.Walk.{Walk, next_row}
use Rattle.table.proofs.Rows.View.{joined_ext}
use Rattle.table.proofs.Access.One.{reading_one, interrupting_one}
use Rattle.table.proofs.Access.Refused.{data_refused}
use Rattle.promises.specs.Once.{SamePartIf}
use Rattle.promises.specs.OfTable.{OfTable}
use Rattle.promises.proofs.Once.Same.{told, told_by, left, both_by, part, unrefused}

-- the network with other rows, where the rows are the same
same_rows : (net : List ℕ) (n : ℕ) (g h : ℕ → List ℕ) → ((k : ℕ) → k < n → g k ≡ h k) → with_rows net n g ≡ with_rows net n h
unfolding with_rows
same_rows net n g h e = ap (λ (r : List ℕ). take header_bytes net ++ r) (joined_ext g h n 0 _ (λ k z l. e k (omega (arith, l))))

-- a turn of a walk: none is left, or one row, and where the walk is then
one_turn : (s : Walk) (x x' : Option (Bor (List ℕ))) (t t' : Walk) → next_row s x t → next_row s x' t' → SamePartIf x x' × (t ≡ t')
one_turn s None None t t' p q = (tt, p.1 ∙ sym q.1)
one_turn s (Some r) (Some r') t t' p q = ((p.2 ∙ sym q.2, λ _. p.5 ∙ sym q.5), p.1 ∙ sym q.1)
one_turn s None (Some r) t t' p q = absurd (omega (arith, p.0, q.0))
one_turn s (Some r) None t t' p q = absurd (omega (arith, p.0, q.0))

pub table_once : OfTable
table_once = record {
  shape = (λ _ _. tt, λ _ _ _ _ _ _. told refl);
  wide = (λ _ _. tt, λ _ _ _ _ _ _ p q. told refl p.0 q.0);
  rows = λ _ _ _ _ _ _ p q. told refl p.0 q.0;
  phase = λ _ _ _ _ _ _. told refl;
  holder = λ _ _ _ _ _ _ p q. told refl p.0 q.0;
  row_start = λ _ _ _ _ _ _. told refl;
  row_end = λ _ _ _ _ _ _ p q. told refl p.0 q.0;
  row_from = λ _ _ _ _ _ _ p q. ((p.0 ∙ sym q.0, λ _. p.1.1 ∙ sym q.1.1), refl);
  row_at = λ _ _ _ _ _ _ p q. ((p.0 ∙ sym q.0, λ _. p.1.1 ∙ sym q.1.1), refl);
  regs_at = λ _ _ _ _ _ _. told refl;
  put_regs = λ _ _ _ _ _ _. left refl;
  turn = λ _ _ _ _ _ _. left refl;
  node_of = λ _ _ _ _ _ _. told refl;
  top_id = λ _ _ _ _ _ _. told refl;
  first = λ _ _ _ _ _ _. told refl;
  next = λ _ _ _ _ _ _ p q. let o = one_turn _ _ _ _ _ p.0 q.0 in (o.0, ap (λ (t : Walk). (t, tt)) o.1);
  each_row_mut = λ _ _ _ _ _ _ _ κs a only x x' w w' p q.
      left {x = x} {x' = x'} refl (p.is ∙ same_rows _ _ _ _ (λ k l. only k _ _ _ (p.changed k l) (q.changed k l))) q.is;
  exact_length = λ _ _ _ _ _ _. told refl;
  fresh = (λ _ _. tt, λ _ _ _ _ _ _. both_by number_one refl);
  place = (λ _ _. tt, λ _ _ _ _ _ _. told_by number_one refl);
  read = (λ _ _. tt, λ _ _ _ _ _ _. both_by reading_one refl);
  write_on = λ _ _ _ _ _ _. both_by number_one refl;
  write = (λ _ _. tt, λ _ _ _ _ _ _. both_by number_one refl);
  reset = (λ _ _. tt, λ _ _ _ _ _ _. both_by number_one refl);
  timer = (λ _ _. tt, λ _ _ _ _ _ _. both_by number_one refl);
  interrupt = (λ _ _. tt, λ _ _ _ _ _ _. told_by interrupting_one refl);
  page_data = (λ _ _. tt, λ _ _ x x' _ _. part x x' refl (unrefused _ (data_refused _ _ _)));
  may_read_data = (λ _ _. tt, λ _ _ _ _ _ _. told_by number_one refl);
}
