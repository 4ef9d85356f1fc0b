-- What an end and the cancels make of TA, or RI, of TMA, and of what waits.
-- Assumes nothing.
use mathlib.Core.Path.{◌≡◌, refl, sym, ◌∙◌, ap}
use mathlib.Core.Bool.{Bool, true, false, not, ◌&&◌, ◌||◌}
use Prim.Native.Nat.{ℕ}
use lib.Dec.{eqb, lit<}
use borrow.Author.Tests.{eqb-true}
use Rattle.bits.specs.declared.way.Way.{Way}
use Rattle.bits.specs.declared.way.Way.TheVariants.{Transmit, Receive}
use Rattle.queues.specs.declared.queues.Side.{Side}
use Rattle.queues.specs.Queues.{free_flag, waiting, second_flag, two, uncleared, stored, completed, moved_up, gone, ended, second_cancelled, cancelled}
use Rattle.bits.specs.Words.{pick, clear, has, raise, lower, set_to}
use Rattle.bits.specs.Flags.{TMA, TA, RI, CANCEL, LOW2}
use Rattle.bits.proofs.Words.Bools.{and_left, and_right, pick_of, pick_both}
use Rattle.bits.proofs.Words.Masks.{lower_clears, raise_other, raise_sets}
use Rattle.queues.proofs.Fits.{Agrees, no_second}
use Rattle.queues.proofs.Going.{behind_waits, alone, shows_free}

-- ---- what waits: nothing behind a side that is free, and nothing to move up where none waits behind
module _ (w : Way) {c : Bool} {l : ℕ} (s : Side) (a : Agrees w c l s) where
  pub none_behind : waiting w s ≡ false → two w s.queue ≡ false
  none_behind e = rw (eqb-true s.queue.second 0 (no_second w s a e)) (zero_flag w)
    where
      zero_flag : (w : Way) → has (second_flag w) 0 ≡ false
      zero_flag Transmit = refl
      zero_flag Receive = refl

  pub none_up : two w s.queue ≡ false → 0 ≡ moved_up w s.queue
  none_up t = rw (eqb-true s.queue.second 0 (alone w s a t)) (zero_up w)
    where
      zero_up : (w : Way) → 0 ≡ lower (second_flag w) 0
      zero_up Transmit = refl
      zero_up Receive = refl

  -- a side of a row with CCHEN 0 has no second, and no end to be cleared
  pub unchained : c ≡ false → (s.queue.second ≡ 0) × (s.queue.done ≡ 0)
  unchained e =
      let h : (eqb s.queue.second 0 && eqb s.queue.done 0) ≡ true = rw e at a.chains in
      (eqb-true s.queue.second 0 (and_left (eqb s.queue.second 0) (eqb s.queue.done 0) h), eqb-true s.queue.done 0 (and_right (eqb s.queue.second 0) (eqb s.queue.done 0) h))

-- ---- an end of the oldest
raised_free : (w : Way) (x : ℕ) → clear (free_flag w) (raise (free_flag w) x) ≡ false
raised_free Transmit x = raise_sets TA TA x (lit< tt)
raised_free Receive x = raise_sets RI RI x (lit< tt)

module _ (w : Way) (c b : Bool) (s : Side) where
  -- TA, or RI, is 1 where none waits behind it; else the second has moved up. It is told in a chaining row
  pub record Ended (t : Side) : Type 0 where
    pub free : clear (free_flag w) t.status ≡ two w s.queue
    pub oldest : t.queue.oldest ≡ moved_up w s.queue
    pub told : uncleared t.queue ≡ (c || uncleared s.queue)

  -- what a completion leaves, and tells
  record Tells (t : Side) : Type 0 where
    free : clear (free_flag w) t.status ≡ clear (free_flag w) s.status
    second : t.queue.second ≡ s.queue.second
    told : uncleared t.queue ≡ (c || uncleared s.queue)

  tells : Tells (completed w c b s)
  tells = split c (uncleared s.queue) refl refl
    where
      kept : (w : Way) (b : Bool) → has LOW2 (stored w b) ≡ true
      kept Transmit true = refl
      kept Transmit false = refl
      kept Receive b = refl

      split : (d u : Bool) → c ≡ d → uncleared s.queue ≡ u → Tells (completed w c b s)
      split true true e i = rw (e, i) (record { free = refl; second = refl; told = kept w b })
      split true false e i = rw (e, i) (record { free = shows_free w b s.status; second = refl; told = refl })
      split false u e i = rw e (record { free = shows_free w b s.status; second = refl; told = refl })

  pub is_ended : {l : ℕ} → Agrees w c l s → Ended (ended w c b s)
  unfolding ended
  is_ended a =
      let k = completed w c b s in
      split (two w k.queue) refl (ap (has (second_flag w)) tells.second)
    where
      split : (d : Bool) → two w (completed w c b s).queue ≡ d → two w (completed w c b s).queue ≡ two w s.queue → Ended (gone w (completed w c b s))
      split true e i =
          let t : two w s.queue ≡ true = sym i ∙ e in
          rw e (record { free = tells.free ∙ behind_waits w s a t ∙ sym t; oldest = ap (lower (second_flag w)) tells.second; told = tells.told })
      split false e i =
          let t : two w s.queue ≡ false = sym i ∙ e in
          rw e (record { free = raised_free w (completed w c b s).status ∙ sym t; oldest = none_up w s a t; told = tells.told })

-- an end goes by the queue, and by TA, or RI, alone
pub record Alike (w : Way) (s t : Side) : Type 0 where
  pub queue : t.queue ≡ s.queue
  pub waits : waiting w t ≡ waiting w s

module _ (w : Way) (s t : Side) (a : Alike w s t) where
  gone_alike : Alike w (gone w s) (gone w t)
  gone_alike =
      rw a.queue
      (pick_both (Alike w) (two w s.queue) (record { queue = refl; waits = a.waits })
      (record { queue = refl; waits = raised_free w t.status ∙ sym (raised_free w s.status) }))

  completed_alike : (c b : Bool) → Alike w (completed w c b s) (completed w c b t)
  completed_alike c b =
      rw a.queue
      (pick_both (Alike w) (c && uncleared s.queue) (record { queue = refl; waits = a.waits })
      (record { queue = refl; waits = shows_free w b t.status ∙ a.waits ∙ sym (shows_free w b s.status) }))

pub ended_alike : (w : Way) (s t : Side) → Alike w s t → (c b : Bool) → Alike w (ended w c b s) (ended w c b t)
unfolding ended
ended_alike w s t a c b = gone_alike w (completed w c b s) (completed w c b t) (completed_alike w s t a c b)

-- TMA: that of the end, but where another is shown
gone_tma : (s : Side) → clear TMA (gone Transmit s).status ≡ clear TMA s.status
gone_tma s = pick_of (λ (t : Side). clear TMA t.status ≡ clear TMA s.status) (two Transmit s.queue) (λ _. refl) (λ _. raise_other TMA TA s.status refl)

set_is : (x : ℕ) (b : Bool) → has TMA (set_to b TMA x) ≡ b
set_is x true = ap not (raise_sets TMA TMA x (lit< tt))
set_is x false = ap not (lower_clears TMA TMA x refl)

pub ended_tma : (c b : Bool) (s : Side) → has TMA (ended Transmit c b s).status ≡ pick (c && uncleared s.queue) (has TMA s.status) b
unfolding ended
ended_tma c b s = ap not (gone_tma (completed Transmit c b s)) ∙ split (c && uncleared s.queue) refl
  where
    split : (d : Bool) → (c && uncleared s.queue) ≡ d → has TMA (completed Transmit c b s).status ≡ pick d (has TMA s.status) b
    split true e = rw e
    split false e = rw e (set_is s.status b)

-- ---- the cancels leave TMA, and tell of no end
module _ (s : Side) where
  pub cancelled_tma : clear TMA (cancelled Transmit s).status ≡ clear TMA s.status
  unfolding cancelled
  cancelled_tma =
      pick_of (λ (t : Side). clear TMA t.status ≡ clear TMA s.status) (clear CANCEL s.queue.oldest) (λ _. refl) (λ _. gone_tma (second_cancelled s))

  gone_done : (w : Way) → (gone w s).queue.done ≡ s.queue.done
  gone_done w = pick_of (λ (t : Side). t.queue.done ≡ s.queue.done) (two w s.queue) (λ _. refl) (λ _. refl)

pub cancelled_done : (w : Way) (s : Side) → (cancelled w s).queue.done ≡ s.queue.done
unfolding cancelled
cancelled_done w s =
    pick_of (λ (t : Side). t.queue.done ≡ s.queue.done) (clear CANCEL s.queue.oldest) (λ _. refl) (λ _. gone_done (second_cancelled s) w)
