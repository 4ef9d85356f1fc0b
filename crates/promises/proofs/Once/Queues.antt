-- No second outcome fits a contract of `queues`.
-- Assumes nothing.
use mathlib.Core.Path.{refl}
use Rattle.promises.specs.OfQueues.{OfQueues}
use Rattle.promises.proofs.Once.Same.{told}

pub queues_once : OfQueues
queues_once = record {
  none = (λ _ _. tt, λ _ _ _ _ _ _. told refl);
  two = (λ _ _. tt, λ _ _ _ _ _ _. told refl);
  uncleared = (λ _ _. tt, λ _ _ _ _ _ _. told refl);
  waiting = (λ _ _. tt, λ _ _ _ _ _ _. told refl);
  full = (λ _ _. tt, λ _ _ _ _ _ _. told refl);
  enabled = (λ _ _. tt, λ _ _ _ _ _ _. told refl);
  disabled = (λ _ _. tt, λ _ _ _ _ _ _. told refl);
  ended = (λ _ _. tt, λ _ _ _ _ _ _. told refl);
  cancelled = (λ _ _. tt, λ _ _ _ _ _ _. told refl);
  cleared = (λ _ _. tt, λ _ _ _ _ _ _. told refl);
  fit = (λ _ _. tt, λ _ _ _ _ _ _. told refl);
}
