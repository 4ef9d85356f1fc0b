-- "No second outcome fits", over the contracts of `commands`.
-- Assumes nothing.
use Rattle.commands.specs.contracts as contracts
use Rattle.commands.proofs.commands as commands
use Rattle.promises.specs.Once.{Once}

pub record OfCommands : Type 0 where
  pub decode : Once contracts.commands.decode.ended commands.decode.Reads.Asked commands.decode.Reads.Learnt
  pub illegal : Once contracts.commands.Command.illegal.ended commands.Command.illegal.Reads.Asked commands.Command.illegal.Reads.Learnt
