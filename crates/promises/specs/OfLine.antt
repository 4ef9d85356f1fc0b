-- "No second outcome fits", over the contracts of `line`.
-- Assumes nothing.
use Rattle.line.specs.contracts as contracts
use Rattle.line.proofs.step as step
use Rattle.promises.specs.Once.{Fixed, Once}

pub record OfLine : Type 0 where
  pub value : Once contracts.step.Answer.value.ended step.Answer.value.Reads.Asked step.Answer.value.Reads.Learnt
  pub step_on : Fixed contracts.step.step_on.ended step.step_on.Reads.Learnt
  pub step : Once contracts.step.step.ended step.step.Reads.Asked step.step.Reads.Learnt
