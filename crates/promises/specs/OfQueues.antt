-- "No second outcome fits", over the contracts of `queues`.
-- Assumes nothing.
use Rattle.queues.specs.contracts as contracts
use Rattle.queues.proofs.queues as queues
use Rattle.promises.specs.Once.{Once}

pub record OfQueues : Type 0 where
  pub none : Once contracts.queues.Queue.none.ended queues.Queue.none.Reads.Asked queues.Queue.none.Reads.Learnt
  pub two : Once contracts.queues.Queue.two.ended queues.Queue.two.Reads.Asked queues.Queue.two.Reads.Learnt
  pub uncleared : Once contracts.queues.Queue.uncleared.ended queues.Queue.uncleared.Reads.Asked queues.Queue.uncleared.Reads.Learnt
  pub waiting : Once contracts.queues.Side.waiting.ended queues.Side.waiting.Reads.Asked queues.Side.waiting.Reads.Learnt
  pub full : Once contracts.queues.Side.full.ended queues.Side.full.Reads.Asked queues.Side.full.Reads.Learnt
  pub enabled : Once contracts.queues.Side.enabled.ended queues.Side.enabled.Reads.Asked queues.Side.enabled.Reads.Learnt
  pub disabled : Once contracts.queues.Side.disabled.ended queues.Side.disabled.Reads.Asked queues.Side.disabled.Reads.Learnt
  pub ended : Once contracts.queues.Side.ended.ended queues.Side.ended.Reads.Asked queues.Side.ended.Reads.Learnt
  pub cancelled : Once contracts.queues.Side.cancelled.ended queues.Side.cancelled.Reads.Asked queues.Side.cancelled.Reads.Learnt
  pub cleared : Once contracts.queues.Side.cleared.ended queues.Side.cleared.Reads.Asked queues.Side.cleared.Reads.Learnt
  pub fit : Once contracts.queues.Side.fit.ended queues.Side.fit.Reads.Asked queues.Side.fit.Reads.Learnt
