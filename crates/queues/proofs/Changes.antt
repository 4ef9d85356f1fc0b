-- A side that fits still does after an Enable, a Disable, an end, the cancels and a Clear.
-- Assumes nothing.
use mathlib.Core.Path.{◌≡◌, refl, ◌∙◌}
use mathlib.Core.Bool.{Bool, true, false, not, ◌&&◌, ◌||◌, true≢false}
use mathlib.Core.Logic.{⊎_elim}
use Prim.Native.Nat.{ℕ, ◌+◌, ◌-◌}
use borrow.Author.Tests.{eqb-true}
use lib.Dec.{eqb}
use Rattle.bits.specs.declared.way.Way.{Way}
use Rattle.bits.specs.declared.way.Way.TheVariants.{Transmit, Receive}
use Rattle.queues.specs.declared.queues.Side.{Side}
use Rattle.queues.specs.Queues.{with_status, with_oldest, with_done, free_flag, waiting, second_flag, two, full, uncleared, KEPT, shows, completed, cleared, lowered, enabled, disabled, ended, second_cancelled, cancelled, counted, second_bits, sound}
use Rattle.bits.specs.Flags.{oldest_bits}
use Rattle.bits.specs.Words.{pick, clear, has, raise, lower}
use Rattle.bits.specs.Flags.{TMA, TA, RI, CANCEL, LOW2, only}
use Rattle.std.proofs.lemmas.Bool.{cases_Bool}
use Rattle.std.proofs.Math.Bool.{and-false, or-true}
use Rattle.bits.proofs.Words.Bools.{and_left, and_right, or_first, or_between, pick_of}
use Rattle.bits.proofs.Words.Masks.{lower_clears, raise_other, raise_sets, clear_within, nonzero}
use Rattle.queues.proofs.Fits.{Fits, no_second, zero_done}
use Rattle.queues.proofs.Going.{bits, behind_chains, agrees_gone, agrees_second_cancelled, agrees_completed, sound_gone, sound_completed, sound_second, sound_oldest, agrees_told, one_counted}

module _ (w : Way) {c : Bool} {l : ℕ} (s : Side) (f : Fits w c l s) where
  pub fits_ended : (acknowledged : Bool) → Fits w c l (ended w c acknowledged s)
  unfolding ended
  fits_ended acknowledged =
      let t = completed w c acknowledged s in
      let a = agrees_completed w acknowledged s f.agrees in
      record { agrees = agrees_gone w t a; tma = sound_gone w t (λ b. sound_completed w c acknowledged s (behind_chains w t a b)) }

  pub fits_cancelled : Fits w c l (cancelled w s)
  unfolding cancelled
  fits_cancelled =
      let t = second_cancelled s in
      let a = agrees_second_cancelled w s f.agrees in
      let e = sound_second w s _ f.tma in
      pick_of (Fits w c l) (clear CANCEL s.queue.oldest) (λ _. record { agrees = a; tma = e }) (λ _. record { agrees = agrees_gone w t a; tma = sound_gone w t (λ _. e) })

  -- an Enable that is not refused, of a page that is even with long packets
  pub fits_enabled : (entry : ℕ) → full w c s ≡ false → only (oldest_bits w) entry ≡ true → (not (eqb l 1) || clear 1 entry) ≡ true → Fits w c l (enabled w c entry s)
  unfolding enabled
  fits_enabled entry n e even =
      let b = bits w in
      let a = f.agrees in
      pick_of (Fits w c l) (c && waiting w s)
      (λ t. record {
        agrees = record {
          oldest = a.oldest;
          second = raise_other (255 - second_bits w) (second_flag w) entry b.waits_named ∙ clear_within (255 - oldest_bits w) (255 - second_bits w) entry b.within e;
          done = a.done;
          idle = a.idle;
          behind = rw (and_right c (waiting w s) t, raise_sets (second_flag w) (second_flag w) entry b.waits_set, or-true (eqb (raise (second_flag w) entry) 0));
          even_oldest = a.even_oldest;
          even_second = rw (raise_other 1 (second_flag w) entry b.waits_even) even;
          chains = rw (and_left c (waiting w s) t);
        };
        tma = sound_second w s _ f.tma;
      })
      (λ t. let z = no_second w s a (not_waiting c (waiting w s) (two w s.queue) t n) in
      record {
        agrees = record {
          oldest = e;
          second = a.second;
          done = a.done;
          idle = rw (starts w);
          behind = rw z;
          even_oldest = or_between (not (eqb l 1)) (has (free_flag w) (lower (lowered w s.queue) s.status)) (clear 1 entry) even;
          even_second = a.even_second;
          chains = a.chains;
        };
        tma = starts_sound w;
      })
    where
      not_waiting : (c x y : Bool) → (c && x) ≡ false → pick c y x ≡ false → x ≡ false
      not_waiting true x y h k = h
      not_waiting false x y h k = k

      starts : (w : Way) → clear (free_flag w) (lower (lowered w s.queue) s.status) ≡ true
      starts Transmit = pick_of (λ (m : ℕ). clear TA (lower m s.status) ≡ true) (uncleared s.queue) (λ _. lower_clears TA TA s.status refl) (λ _. lower_clears TA (TA + TMA) s.status refl)
      starts Receive = lower_clears RI RI s.status refl

      starts_sound : (w : Way) → sound w (with_status (lower (lowered w s.queue) s.status) (with_oldest entry s)) ≡ true
      starts_sound Receive = refl
      starts_sound Transmit = split (uncleared s.queue) refl
        where
          split : (u : Bool) → uncleared s.queue ≡ u → sound Transmit (with_status (lower (pick u TA (TA + TMA)) s.status) (with_oldest entry s)) ≡ true
          split true k = rw k (or-true (clear TMA (lower TA s.status) || has TA (lower TA s.status)))
          split false k = rw (lower_clears TMA (TA + TMA) s.status refl)

  pub fits_disabled : Fits w c l (disabled w s)
  unfolding disabled
  fits_disabled =
      let b = bits w in
      let a = f.agrees in
      let x = s.queue.oldest in
      let y = s.queue.second in
      pick_of (Fits w c l) (waiting w s)
      (λ t. pick_of (Fits w c l) (two w s.queue && has CANCEL x)
      (λ u. let v = and_left (two w s.queue) (has CANCEL x) u in
      record {
        agrees = record {
          oldest = a.oldest;
          second = raise_other (255 - second_bits w) CANCEL y b.mark_second ∙ a.second;
          done = a.done;
          idle = a.idle;
          behind = rw (t, raise_other (second_flag w) CANCEL y b.mark_waits, v, or-true (eqb (raise CANCEL y) 0));
          even_oldest = a.even_oldest;
          even_second = rw (raise_other 1 CANCEL y refl) a.even_second;
          chains = rw (behind_chains w s a v);
        };
        tma = sound_second w s _ f.tma;
      })
      (λ _. record {
        agrees = record {
          oldest = raise_other (255 - oldest_bits w) CANCEL x b.mark_oldest ∙ a.oldest;
          second = a.second;
          done = a.done;
          idle = rw t;
          behind = a.behind;
          even_oldest = rw (raise_other 1 CANCEL x refl) a.even_oldest;
          even_second = a.even_second;
          chains = a.chains;
        };
        tma = sound_oldest w s _ f.tma;
      }))
      (λ _. f)

  pub fits_cleared : Fits w c l (cleared w s)
  unfolding cleared
  fits_cleared =
      let a = f.agrees in
      let n = s.queue.done in
      pick_of (Fits w c l) (uncleared s.queue)
      (λ t. let e : c ≡ true = or_first c _ a.chains (rw (nonzero LOW2 n t, and-false (eqb s.queue.second 0))) in
      pick_of (λ (m : ℕ). Fits w c l (with_done m (with_status (shows w (has KEPT n) s.status) s))) (has 2 n)
      (λ _. record { agrees = agrees_told w s a e 1 (one_counted w) (has KEPT n); tma = one_shown w (has KEPT n) })
      (λ k. record { agrees = agrees_told w s a e 0 (zero_done w) (has KEPT n); tma = none_shown w a.done k }))
      (λ _. f)
    where
      one_shown : (w : Way) (b : Bool) → sound w (with_done 1 (with_status (shows w b s.status) s)) ≡ true
      one_shown Receive b = refl
      one_shown Transmit b = let x = shows Transmit b s.status in or-true (clear TMA x || has TA x)

      -- one end alone has no TMA stored
      unkept : (n : ℕ) → counted Transmit n ≡ true → has 2 n ≡ false → has KEPT n ≡ false
      unkept n h k =
          ⊎_elim (λ (e : eqb n 0 ≡ true). rw (eqb-true n 0 e))
          (λ (e : eqb n 0 ≡ false). ⊎_elim (λ (i : eqb n 1 ≡ true). rw (eqb-true n 1 i))
          (λ (i : eqb n 1 ≡ false). ⊎_elim (λ (j : eqb n 2 ≡ true). absurd (true≢false (rw (eqb-true n 2 j) at k)))
          (λ (j : eqb n 2 ≡ false). absurd (true≢false (rw (eqb-true n (KEPT + 2) (rw (e, i, j) at h)) at k))) (cases_Bool (eqb n 2))) (cases_Bool (eqb n 1))) (cases_Bool (eqb n 0))

      none_shown : (w : Way) → counted w s.queue.done ≡ true → has 2 s.queue.done ≡ false → sound w (with_done 0 (with_status (shows w (has KEPT s.queue.done) s.status) s)) ≡ true
      none_shown Receive h k = refl
      none_shown Transmit h k = rw (unkept s.queue.done h k, lower_clears TMA TMA s.status refl)
