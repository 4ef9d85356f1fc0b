-- How the bytes of a side agree while the oldest goes, an end is told, and a cancel takes effect; TMA by itself, since an end breaks its rule until the oldest is gone.
-- Assumes nothing.
use mathlib.Core.Path.{◌≡◌, refl, ◌∙◌}
use mathlib.Core.Bool.{Bool, true, false, not, ◌&&◌, ◌||◌}
use Prim.Native.Nat.{ℕ, ◌-◌, ◌<◌}
use lib.Bits.{bit_and}
use lib.Dec.{eqb, lit<}
use Rattle.bits.specs.declared.way.Way.{Way}
use Rattle.bits.specs.declared.way.Way.TheVariants.{Transmit, Receive}
use Rattle.queues.specs.declared.queues.Side.{Side}
use Rattle.queues.specs.Queues.{with_status, with_oldest, with_second, with_done, free_flag, waiting, second_flag, two, uncleared, KEPT, stored, shows, completed, gone, second_cancelled, counted, second_bits, sound}
use Rattle.bits.specs.Flags.{oldest_bits}
use Rattle.bits.specs.Words.{clear, has, raise, raise_if, set_to}
use Rattle.bits.specs.Flags.{TMA, TA, CANCEL, LOW2}
use Rattle.std.proofs.Math.Bool.{or-true}
use Rattle.bits.proofs.Words.Bools.{and_left, and_right, or_first, or_between, pick_of}
use Rattle.bits.proofs.Words.Masks.{lower_to, lower_other, raise_sets, set_other, nonzero}
use Rattle.queues.proofs.Fits.{Agrees, agrees_status, zero_oldest, zero_second}

-- ---- how the bits of a side lie to each other: one computation for each side
pub record Bits (w : Way) : Type 0 where
  pub mark_oldest : bit_and CANCEL (255 - oldest_bits w) ≡ 0
  pub mark_second : bit_and CANCEL (255 - second_bits w) ≡ 0
  pub mark_waits : bit_and CANCEL (second_flag w) ≡ 0
  pub waits_named : bit_and (second_flag w) (255 - second_bits w) ≡ 0
  pub waits_set : 0 < bit_and (second_flag w) (second_flag w)
  pub waits_even : bit_and (second_flag w) 1 ≡ 0
  pub up_named : bit_and (255 - second_flag w) (255 - oldest_bits w) ≡ 255 - second_bits w
  pub up_even : bit_and (255 - second_flag w) 1 ≡ 1
  pub within : bit_and (255 - oldest_bits w) (255 - second_bits w) ≡ 255 - second_bits w
  pub free_set : 0 < bit_and (free_flag w) (free_flag w)

pub bits : (w : Way) → Bits w
bits Transmit = record { mark_oldest = refl; mark_second = refl; mark_waits = refl; waits_named = refl; waits_set = lit< tt; waits_even = refl; up_named = refl; up_even = refl; within = refl; free_set = lit< tt }
bits Receive = record { mark_oldest = refl; mark_second = refl; mark_waits = refl; waits_named = refl; waits_set = lit< tt; waits_even = refl; up_named = refl; up_even = refl; within = refl; free_set = lit< tt }

pub one_counted : (w : Way) → counted w 1 ≡ true
one_counted Transmit = refl
one_counted Receive = refl

-- what an end shows is not TA, nor RI
pub shows_free : (w : Way) (b : Bool) (x : ℕ) → clear (free_flag w) (shows w b x) ≡ clear (free_flag w) x
shows_free Transmit b x = set_other TA TMA x b refl refl
shows_free Receive b x = refl

module _ (w : Way) {c : Bool} {l : ℕ} where
  -- a second that waits: the first does, and the row chains
  pub behind_waits : (s : Side) → Agrees w c l s → two w s.queue ≡ true → waiting w s ≡ true
  behind_waits s a t =
      and_left (waiting w s) (two w s.queue) (rw (nonzero (second_flag w) s.queue.second t) at a.behind)

  pub behind_chains : (s : Side) → Agrees w c l s → two w s.queue ≡ true → c ≡ true
  behind_chains s a t = or_first c false (rw (nonzero (second_flag w) s.queue.second t) at a.chains) refl

  -- none waits behind it: the byte is zero
  pub alone : (s : Side) → Agrees w c l s → two w s.queue ≡ false → eqb s.queue.second 0 ≡ true
  alone s a t = none (waiting w s) (rw t at a.behind)
    where
      none : (b : Bool) → (eqb s.queue.second 0 || b && false) ≡ true → eqb s.queue.second 0 ≡ true
      none true h = or_first (eqb s.queue.second 0) false h refl
      none false h = or_first (eqb s.queue.second 0) false h refl

  -- ---- the oldest goes
  pub agrees_gone : (s : Side) → Agrees w c l s → Agrees w c l (gone w s)
  agrees_gone s a =
      let b = bits w in
      let x = s.queue.second in
      pick_of (Agrees w c l) (two w s.queue)
      (λ t. record {
        oldest = lower_to (255 - oldest_bits w) (second_flag w) x (255 - second_bits w) b.up_named ∙ a.second;
        second = zero_second w;
        done = a.done;
        idle = rw (behind_waits s a t);
        behind = refl;
        even_oldest = rw (lower_other 1 (second_flag w) x b.up_even) (or_between (not (eqb l 1)) (has (free_flag w) s.status) (clear 1 x) a.even_second);
        even_second = or-true (not (eqb l 1));
        chains = rw (behind_chains s a t);
      })
      (λ t. record {
        oldest = zero_oldest w;
        second = a.second;
        done = a.done;
        idle = or-true (clear (free_flag w) (raise (free_flag w) s.status));
        behind = rw (alone s a t);
        even_oldest = or-true (not (eqb l 1) || has (free_flag w) (raise (free_flag w) s.status));
        even_second = a.even_second;
        chains = a.chains;
      })

  -- ---- the cancels
  pub agrees_second_cancelled : (s : Side) → Agrees w c l s → Agrees w c l (second_cancelled s)
  agrees_second_cancelled s a =
      pick_of (λ (x : ℕ). Agrees w c l (with_second x s)) (clear CANCEL s.queue.second) (λ _. search a)
      (λ _. record {
        oldest = a.oldest;
        second = zero_second w;
        done = a.done;
        idle = a.idle;
        behind = refl;
        even_oldest = a.even_oldest;
        even_second = or-true (not (eqb l 1));
        chains = none c (eqb s.queue.second 0) (eqb s.queue.done 0) a.chains;
      })
    where
      none : (c x y : Bool) → (c || x && y) ≡ true → (c || y) ≡ true
      none true x y h = refl
      none false x y h = and_right x y h

  agrees_done : (s : Side) → Agrees w c l s → c ≡ true → (n : ℕ) → counted w n ≡ true → Agrees w c l (with_done n s)
  agrees_done s a e n k = record { oldest = a.oldest; second = a.second; done = k; idle = a.idle; behind = a.behind; even_oldest = a.even_oldest; even_second = a.even_second; chains = rw e }

  -- ---- a number of ends that is told in a chaining row, with what it shows
  pub agrees_told : (s : Side) → Agrees w c l s → c ≡ true → (n : ℕ) → counted w n ≡ true → (b : Bool) → Agrees w c l (with_done n (with_status (shows w b s.status) s))
  agrees_told s a e n k b = agrees_status w (with_done n s) (agrees_done s a e n k) (shows w b s.status) (shows_free w b s.status)

  -- an end, but for TMA
  pub agrees_completed : (acknowledged : Bool) (s : Side) → Agrees w c l s → Agrees w c l (completed w c acknowledged s)
  agrees_completed acknowledged s a = split c refl
    where
      kept : (w : Way) (b : Bool) → counted w (stored w b) ≡ true
      kept Transmit true = refl
      kept Transmit false = refl
      kept Receive b = refl

      split : (b : Bool) → c ≡ b → Agrees w c l (completed w b acknowledged s)
      split true e =
          pick_of (Agrees w c l) (uncleared s.queue) (λ _. agrees_done s a e _ (kept w acknowledged)) (λ _. agrees_told s a e 1 (one_counted w) acknowledged)
      split false e = agrees_status w s a (shows w acknowledged s.status) (shows_free w acknowledged s.status)

-- ---- TMA: where the oldest goes and none is behind it, TA is 1
pub sound_gone : (w : Way) (s : Side) → (two w s.queue ≡ true → sound w s ≡ true) → sound w (gone w s) ≡ true
sound_gone Receive s f = refl
sound_gone Transmit s f =
    pick_of (λ (x : Side). sound Transmit x ≡ true) (two Transmit s.queue) f
    (λ _. rw (raise_sets TA TA s.status (lit< tt), or-true (clear TMA (raise TA s.status))))

-- an end of a chaining row is not cleared yet
pub sound_completed : (w : Way) (c acknowledged : Bool) (s : Side) → c ≡ true → sound w (completed w c acknowledged s) ≡ true
sound_completed Receive c acknowledged s e = refl
sound_completed Transmit c acknowledged s e =
    rw e
    (pick_of (λ (x : Side). sound Transmit x ≡ true) (uncleared s.queue) (λ _. rw (kept acknowledged) (or-true (clear TMA s.status || has TA s.status)))
    (λ _. let x = set_to acknowledged TMA s.status in or-true (clear TMA x || has TA x)))
  where
    kept : (b : Bool) → has LOW2 (raise_if b KEPT 2) ≡ true
    kept true = refl
    kept false = refl

-- the second has no say in it, nor has a mark on the oldest
pub sound_second : (w : Way) (s : Side) (x : ℕ) → sound w s ≡ true → sound w (with_second x s) ≡ true
sound_second Transmit s x e = e
sound_second Receive s x e = refl

pub sound_oldest : (w : Way) (s : Side) (x : ℕ) → sound w s ≡ true → sound w (with_oldest x s) ≡ true
sound_oldest Transmit s x e = e
sound_oldest Receive s x e = refl
