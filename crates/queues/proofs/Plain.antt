-- With CCHEN 0 one waits at most and no end is to be cleared: a side that fits is so. Every change of such a side is that of document 01 alone.
-- Assumes nothing.
use mathlib.Core.Path.{◌≡◌, refl, sym, ◌∙◌, ap}
use mathlib.Core.Bool.{Bool, true, false, not, ◌||◌}
use Prim.Native.Nat.{ℕ}
use lib.Dec.{eqb}
use Rattle.bits.specs.declared.way.Way.{Way}
use Rattle.bits.specs.declared.way.Way.TheVariants.{Transmit, Receive}
use Rattle.queues.specs.declared.queues.Queue.{Queue}
use Rattle.queues.specs.declared.queues.Side.{Side}
use Rattle.queues.specs.Queues.{with_status, with_oldest, with_second, none, free_flag, waiting, two, shows, cleared, lowered, enabled, disabled, gone, ended, second_cancelled, cancelled, sound, fit}
use Rattle.bits.specs.Flags.{oldest_bits}
use Rattle.bits.specs.Words.{pick, clear, has, raise, lower}
use Rattle.bits.specs.Flags.{CANCEL, only}
use Rattle.std.proofs.Math.Bool.{or-true}
use Rattle.bits.proofs.Words.Bools.{pick_of}
use Rattle.queues.proofs.Fits.{fit_rules, rules_fit, zero_second, zero_done}
use Rattle.queues.proofs.Leaves.{unchained}

pub record Alone (q : Queue) : Type 0 where
  pub second : q.second ≡ 0
  pub done : q.done ≡ 0

pub alone_fit : (w : Way) (long : ℕ) (s : Side) → fit w false long s ≡ true → Alone s.queue
alone_fit w long s f = let p = unchained w s (fit_rules w false long s f).agrees refl in record { second = p.0; done = p.1 }

not_two : (w : Way) (q : Queue) → q.second ≡ 0 → two w q ≡ false
not_two Transmit q e = rw e
not_two Receive q e = rw e

-- the oldest goes, and none is behind it
abbrev pub emptied : Way → Side → Side
emptied w s = with_status (raise (free_flag w) s.status) (with_oldest 0 s)

module _ (w : Way) (s : Side) (a : Alone s.queue) where
  pub plain_ended : (acknowledged : Bool) → ended w false acknowledged s ≡ emptied w (with_status (shows w acknowledged s.status) s)
  unfolding ended
  plain_ended acknowledged = rw (not_two w s.queue a.second)

  pub plain_cleared : cleared w s ≡ s
  unfolding cleared
  plain_cleared = rw a.done

  pub plain_enabled : (entry : ℕ) → enabled w false entry s ≡ with_status (lower (lowered w none) s.status) (with_oldest entry s)
  unfolding enabled
  plain_enabled entry = ap (λ (m : ℕ). with_status (lower m s.status) (with_oldest entry s)) (lowers w)
    where
      lowers : (w : Way) → lowered w s.queue ≡ lowered w none
      lowers Transmit = rw a.done
      lowers Receive = refl

  pub plain_disabled : disabled w s ≡ with_oldest (pick (has (free_flag w) s.status) s.queue.oldest (raise CANCEL s.queue.oldest)) s
  unfolding disabled
  plain_disabled = rw (not_two w s.queue a.second) (split (waiting w s))
    where
      split : (b : Bool) → pick b (with_oldest (raise CANCEL s.queue.oldest) s) s ≡ with_oldest (pick (not b) s.queue.oldest (raise CANCEL s.queue.oldest)) s
      split true = refl
      split false = refl

  pub plain_cancelled : cancelled w s ≡ pick (clear CANCEL s.queue.oldest) s (emptied w s)
  unfolding cancelled
  plain_cancelled = ap (λ (t : Side). pick (clear CANCEL s.queue.oldest) t (gone w t)) second ∙ ap (pick (clear CANCEL s.queue.oldest) s) goes
    where
      goes : gone w s ≡ emptied w s
      goes = rw (not_two w s.queue a.second)

      second : second_cancelled s ≡ s
      second = ap (λ (x : ℕ). with_second x s) (pick_of (λ (x : ℕ). x ≡ s.queue.second) (clear CANCEL s.queue.second) (λ _. refl) (λ _. sym a.second))

  -- what is left of the rules
  pub plain_fit_lem : (chaining : Bool) (long : ℕ) → only (oldest_bits w) s.queue.oldest ≡ true → (clear (free_flag w) s.status || eqb s.queue.oldest 0) ≡ true
      → (not (eqb long 1) || has (free_flag w) s.status || clear 1 s.queue.oldest) ≡ true → sound w s ≡ true → fit w chaining long s ≡ true
  plain_fit_lem chaining long oldest idle even tma =
      rules_fit w chaining long s (record {
        agrees = record {
          oldest = oldest;
          second = rw a.second (zero_second w);
          done = rw a.done (zero_done w);
          idle = idle;
          behind = rw a.second;
          even_oldest = even;
          even_second = rw a.second (or-true (not (eqb long 1)));
          chains = rw (a.second, a.done) (or-true chaining);
        };
        tma = tma;
      })
