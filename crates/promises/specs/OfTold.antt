-- "No second outcome fits", over the contracts of `told`.
-- Assumes nothing.
use borrow.Fn.Kinds.{ended_of}
use Rattle.std.specs.Prelude.{◌≡◌}
use Rattle.told.specs.contracts as contracts
use Rattle.told.proofs.refusals as refusals
use Rattle.promises.specs.Once.{OnceBy, Once}

pub record OfTold : Type 0 where
  pub number : Once contracts.refusals.Refusal.number.ended refusals.Refusal.number.Reads.Asked refusals.Refusal.number.Reads.Learnt
  -- a name is compared by its text; its lifetime, 'static, is the one that the prover reads it at
  pub name : OnceBy (ended_of 1 refusals.Refusal.name.Kinds.ps refusals.Refusal.name.Kinds.r) (λ κs x x'. x.now ≡ x'.now) refusals.Refusal.name.Reads.Asked refusals.Refusal.name.Reads.Learnt
  pub when : Once contracts.refusals.Refusal.when.ended refusals.Refusal.when.Reads.Asked refusals.Refusal.when.Reads.Learnt
