-- A transmit that waits goes on waiting through an Enable, a Disable and a Clear of either side, and through cancels where its own is not asked.
-- Assumes nothing.
use mathlib.Core.Path.{◌≡◌, refl, ◌∙◌}
use mathlib.Core.Bool.{Bool, true, ◌&&◌}
use Prim.Native.Nat.{ℕ, ◌+◌}
use Rattle.bits.specs.declared.way.Way.{Way}
use Rattle.bits.specs.declared.way.Way.TheVariants.{Transmit, Receive}
use Rattle.queues.specs.declared.queues.Side.{Side}
use Rattle.queues.specs.Queues.{waiting, two, uncleared, KEPT, cleared, enabled, disabled, cancelled}
use Rattle.bits.specs.Words.{clear, has, lower}
use Rattle.bits.specs.Flags.{TMA, TA, CANCEL}
use Rattle.bits.proofs.Words.Bools.{pick_of}
use Rattle.bits.proofs.Words.Masks.{lower_clears, set_other}
use Rattle.queues.proofs.Apart.{enabled_apart, cleared_apart}

module _ (s : Side) (t : clear TA s.status ≡ true) where
  abbrev Waits : Side → Type 0
  Waits u = clear TA u.status ≡ true

  pub enabled_waits : (w : Way) (c : Bool) (entry : ℕ) → Waits (enabled w c entry s)
  unfolding enabled
  enabled_waits Transmit c entry =
      pick_of Waits (c && waiting Transmit s) (λ _. t)
      (λ _. pick_of (λ (k : ℕ). clear TA (lower k s.status) ≡ true) (uncleared s.queue) (λ _. lower_clears TA TA s.status refl) (λ _. lower_clears TA (TA + TMA) s.status refl))
  enabled_waits Receive c entry = enabled_apart Receive TA (refl, refl) s c entry ∙ t

  pub disabled_waits : (w : Way) → Waits (disabled w s)
  unfolding disabled
  disabled_waits w = pick_of Waits (waiting w s) (λ _. pick_of Waits (two w s.queue && has CANCEL s.queue.oldest) (λ _. t) (λ _. t)) (λ _. t)

  pub cleared_waits : (w : Way) → Waits (cleared w s)
  unfolding cleared
  cleared_waits Transmit = pick_of Waits (uncleared s.queue) (λ _. set_other TA TMA s.status (has KEPT s.queue.done) refl refl ∙ t) (λ _. t)
  cleared_waits Receive = cleared_apart Receive TA (refl, refl) s ∙ t

  pub unmarked_waits : clear CANCEL s.queue.oldest ≡ true → Waits (cancelled Transmit s)
  unfolding cancelled
  unmarked_waits e = rw e t
