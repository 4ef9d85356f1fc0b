-- What the changes of a side leave of the status: the flags that are not its own.
-- Assumes nothing.
use mathlib.Core.Path.{◌≡◌, refl, ◌∙◌}
use mathlib.Core.Bool.{Bool, ◌&&◌}
use Prim.Native.Nat.{ℕ, ◌+◌, ◌-◌}
use lib.Bits.{bit_and}
use Rattle.bits.specs.declared.way.Way.{Way}
use Rattle.bits.specs.declared.way.Way.TheVariants.{Transmit, Receive}
use Rattle.queues.specs.declared.queues.Side.{Side}
use Rattle.queues.specs.Queues.{free_flag, waiting, two, uncleared, KEPT, shows, completed, cleared, lowered, enabled, disabled, gone, ended, second_cancelled, cancelled}
use Rattle.bits.specs.Words.{clear, has, raise, lower}
use Rattle.bits.specs.Flags.{TMA, TA, RI, CANCEL}
use Rattle.bits.proofs.Words.Bools.{pick_of}
use Rattle.bits.proofs.Words.Masks.{lower_other, raise_other, set_other}

-- the flags m that no change of the side speaks of
abbrev pub Apart : Way → ℕ → Type 0
Apart Transmit m =
    (bit_and TA m ≡ 0) × (bit_and TMA m ≡ 0) × (bit_and (255 - TA) m ≡ m) × (bit_and (255 - TMA) m ≡ m) × (bit_and (255 - (TA + TMA)) m ≡ m)
Apart Receive m = (bit_and RI m ≡ 0) × (bit_and (255 - RI) m ≡ m)

module _ (m x : ℕ) where
  raised : (w : Way) → Apart w m → clear m (raise (free_flag w) x) ≡ clear m x
  raised Transmit p = raise_other m TA x p.0
  raised Receive p = raise_other m RI x p.0

  lowers : (w : Way) (s : Side) → Apart w m → clear m (lower (lowered w s.queue) x) ≡ clear m x
  lowers Transmit s p =
      pick_of (λ (k : ℕ). clear m (lower k x) ≡ clear m x) (uncleared s.queue) (λ _. lower_other m TA x p.2) (λ _. lower_other m (TA + TMA) x p.4)
  lowers Receive s p = lower_other m RI x p.1

  showing : (w : Way) (b : Bool) → Apart w m → clear m (shows w b x) ≡ clear m x
  showing Transmit b p = set_other m TMA x b p.1 p.3
  showing Receive b p = refl

module _ (w : Way) (m : ℕ) (p : Apart w m) (s : Side) where
  abbrev Left : Side → Type 0
  Left t = clear m t.status ≡ clear m s.status

  gone_apart : Left (gone w s)
  gone_apart = pick_of Left (two w s.queue) (λ _. refl) (λ _. raised m s.status w p)

  completed_apart : (c b : Bool) → Left (completed w c b s)
  completed_apart c b = pick_of Left (c && uncleared s.queue) (λ _. refl) (λ _. showing m s.status w b p)

  pub enabled_apart : (c : Bool) (entry : ℕ) → Left (enabled w c entry s)
  unfolding enabled
  enabled_apart c entry = pick_of Left (c && waiting w s) (λ _. refl) (λ _. lowers m s.status w s p)

  pub disabled_apart : Left (disabled w s)
  unfolding disabled
  disabled_apart = pick_of Left (waiting w s) (λ _. pick_of Left (two w s.queue && has CANCEL s.queue.oldest) (λ _. refl) (λ _. refl)) (λ _. refl)

  pub cleared_apart : Left (cleared w s)
  unfolding cleared
  cleared_apart = pick_of Left (uncleared s.queue) (λ _. showing m s.status w (has KEPT s.queue.done) p) (λ _. refl)

module _ (w : Way) (m : ℕ) (p : Apart w m) (s : Side) where
  pub ended_apart : (c b : Bool) → Left w m p s (ended w c b s)
  unfolding ended
  ended_apart c b = gone_apart w m p (completed w c b s) ∙ completed_apart w m p s c b

  pub cancelled_apart : Left w m p s (cancelled w s)
  unfolding cancelled
  cancelled_apart = pick_of (Left w m p s) (clear CANCEL s.queue.oldest) (λ _. refl) (λ _. gone_apart w m p (second_cancelled s))
