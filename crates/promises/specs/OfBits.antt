-- "No second outcome fits", over the contracts of `bits`.
-- Assumes nothing.
use mir.Syntax.{Dict}
use contract.BorrowLft.{◌⊑◌}
use contract.Lifetimes.{Lfts, lft_at}
use denote.RattleType.{RattleType}
use denote.Param.Laws.{Laws, IsCopy}
use denote.Triple.Entry.{Args}
use Rattle.std.specs.declared.clone.Clone.{Ghosts}
use Rattle.bits.specs.contracts as contracts
use Rattle.bits.proofs.choice as choice
use Rattle.promises.specs.Once.{Fixed}

pub record OfBits : Type 2 where
  -- of values of any type that is Copy: any may be passed that live through the call
  pub choose : (T : RattleType) (laws : Laws T) (copy : IsCopy T) (clone : Ghosts T.Denot) (dict : Dict)
      → ((κs : Lfts 1) (a : Args (contracts.choice.choose.signature T) κs) → lft_at 1 0 tt κs ⊑ T.lives → choice.choose.Reads.Asked T laws copy clone dict κs a)
      × Fixed (contracts.choice.choose.ended T clone dict) (choice.choose.Reads.Learnt T laws copy clone dict)
