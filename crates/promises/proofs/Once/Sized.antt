-- `desk::laps::walk` hands back a list of row_limit entries, by its type.
-- Assumes nothing.
use mathlib.Core.Path.{◌≡◌, refl}
use lib.ListN.{length}
use contract.Lifetimes.{Lfts}
use denote.Struct.Laws.{owed}
use denote.Enum.Laws as enum
use Rattle.std.proofs.Common.{Result, Ok, Err}
use Rattle.std.specs.contracts.result.Result as result
use Rattle.std.proofs.result.Result.TheLaws as result_laws
use Rattle.told.specs.declared.refusals.Refusal.{Refusal}
use Rattle.told.specs.contracts.refusals.Refusal as refusal
use Rattle.told.proofs.refusals.Refusal.TheLaws as refusal_laws
use Rattle.table.specs.Network.{row_limit}
use Rattle.desk.specs.declared.laps.Walked.{Walked}
use Rattle.desk.specs.contracts.laps.Walked as walked
use Rattle.desk.proofs.laps.Walked.TheLaws as walked_laws
use Rattle.desk.proofs.laps.walk.Kinds.{r}
use Rattle.desk.specs.Lap.{walked_list}

pub sized : (κs : Lfts 1) (x : Result Walked Refusal) → r.is.Ok κs x → length (walked_list x) ≡ row_limit
sized κs (Ok w) o =
    let laws = result_laws.the_laws walked.the_row refusal.the_row walked_laws.the_row_laws refusal_laws.the_row_laws walked_laws.the_told refusal_laws.the_told in
    (owed walked.the_type walked_laws.the_laws w _ (enum.owed (result.the_type walked.the_row refusal.the_row) laws (Ok w) _ o).0).1.1.0.1.0.1
sized κs (Err e) o = refl
