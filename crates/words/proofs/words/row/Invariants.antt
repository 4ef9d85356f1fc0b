-- The row sought is the first of the lines from `from` on, as many as are left to pass, and it starts where that does.
use Rattle.std.proofs.Common.{length, drop, ◌≡◌, ◌+◌, ◌-◌, ◌≤◌}
use Rattle.words.specs.Words.{row_of, row, row_of_from, row_from}
use Rattle.words.proofs.words.row.Given as goal

abbrev pub invariant-loop : goal.invariant-loop
invariant-loop l =
    record {
      within : l.from ≤ length l.table;
      sought : row_of (length l.table - l.counter) (drop l.from l.table) l.name ≡ row l.table l.name;
      starts : l.from + row_of_from (length l.table - l.counter) (drop l.from l.table) l.name ≡ row_from l.table l.name;
    }
