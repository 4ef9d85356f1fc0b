-- "No second outcome fits", over the contracts of `desk`.
-- Assumes nothing.
use Rattle.std.specs.Prelude.{◌≡◌}
use Rattle.desk.specs.contracts as contracts
use Rattle.desk.proofs.loading as loading
use Rattle.desk.proofs.laps as laps
use Rattle.promises.specs.Once.{OnceBy, Once}

-- `walk` hands back a list of row_limit entries, and that there are so many is in its type alone: Ok is what the type says
pub record OfDesk : Type 0 where
  pub load : Once contracts.loading.load.ended loading.load.Reads.Asked loading.load.Reads.Learnt
  pub nobody : Once contracts.laps.nobody.ended laps.nobody.Reads.Asked laps.nobody.Reads.Learnt
  pub walk : OnceBy contracts.laps.walk.ended (λ κs x x'. (laps.walk.Kinds.r).is.Ok κs x → (laps.walk.Kinds.r).is.Ok κs x' → x ≡ x') laps.walk.Reads.Asked laps.walk.Reads.Learnt
  pub lap : Once contracts.laps.lap.ended laps.lap.Reads.Asked laps.lap.Reads.Learnt
