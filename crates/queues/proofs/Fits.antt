-- A side that fits: the rules one by one, by name, and what another status, length or queue leaves of them.
-- Assumes nothing.
use mathlib.Core.Path.{◌≡◌, refl}
use mathlib.Core.Bool.{Bool, true, false, not, ◌&&◌, ◌||◌}
use Prim.Native.Nat.{ℕ}
use borrow.Author.Tests.{eqb-true}
use lib.Dec.{eqb, lit<}
use Rattle.bits.specs.declared.way.Way.{Way}
use Rattle.bits.specs.declared.way.Way.TheVariants.{Transmit, Receive}
use Rattle.queues.specs.declared.queues.Side.{Side}
use Rattle.queues.specs.Queues.{with_status, none, free_flag, waiting, two, counted, second_bits, sound, rules, fit}
use Rattle.bits.specs.Flags.{oldest_bits}
use Rattle.bits.specs.Words.{clear, has}
use Rattle.bits.specs.Flags.{TMA, TA, RI, only}
use Rattle.std.proofs.Math.Bool.{or-true}
use Rattle.bits.proofs.Words.Bools.{holds, or_first}

-- all rules but that of TMA, which an end breaks until the oldest is gone
pub record Agrees (w : Way) (chaining : Bool) (long : ℕ) (s : Side) : Type 0 where
  pub oldest : only (oldest_bits w) s.queue.oldest ≡ true
  pub second : only (second_bits w) s.queue.second ≡ true
  pub done : counted w s.queue.done ≡ true
  pub idle : (clear (free_flag w) s.status || eqb s.queue.oldest 0) ≡ true
  pub behind : (eqb s.queue.second 0 || waiting w s && two w s.queue) ≡ true
  pub even_oldest : (not (eqb long 1) || has (free_flag w) s.status || clear 1 s.queue.oldest) ≡ true
  pub even_second : (not (eqb long 1) || clear 1 s.queue.second) ≡ true
  pub chains : (chaining || eqb s.queue.second 0 && eqb s.queue.done 0) ≡ true

pub record Fits (w : Way) (chaining : Bool) (long : ℕ) (s : Side) : Type 0 where
  pub agrees : Agrees w chaining long s
  pub tma : sound w s ≡ true

module _ (w : Way) (chaining : Bool) (long : ℕ) (s : Side) where
  pub fit_rules : fit w chaining long s ≡ true → Fits w chaining long s
  unfolding fit
  fit_rules h =
      let at = holds (rules w chaining long s) h in
      record {
        agrees = record {
          oldest = at 0 (lit< tt);
          second = at 1 (lit< tt);
          done = at 2 (lit< tt);
          idle = at 3 (lit< tt);
          behind = at 4 (lit< tt);
          even_oldest = at 5 (lit< tt);
          even_second = at 6 (lit< tt);
          chains = at 7 (lit< tt);
        };
        tma = at 8 (lit< tt);
      }

  pub rules_fit : Fits w chaining long s → fit w chaining long s ≡ true
  unfolding fit
  rules_fit f =
      let a = f.agrees in
      rw (a.oldest, a.second, a.done, a.idle, a.behind, a.even_oldest, a.even_second, a.chains, f.tma)

-- ---- another status, with the flags of this side as they were
abbrev pub Flags : Way → ℕ → ℕ → Type 0
Flags Transmit x y = (clear TA y ≡ clear TA x) × (clear TMA y ≡ clear TMA x)
Flags Receive x y = clear RI y ≡ clear RI x

module _ (w : Way) {chaining : Bool} {long : ℕ} (s : Side) where
  pub agrees_status : Agrees w chaining long s → (x : ℕ) → clear (free_flag w) x ≡ clear (free_flag w) s.status → Agrees w chaining long (with_status x s)
  agrees_status a x e = record {
    oldest = a.oldest;
    second = a.second;
    done = a.done;
    idle = rw e a.idle;
    behind = rw e a.behind;
    even_oldest = rw e a.even_oldest;
    even_second = a.even_second;
    chains = a.chains;
  }

  -- nothing waits: no second does, and the length of packets is free
  pub no_second : Agrees w chaining long s → waiting w s ≡ false → eqb s.queue.second 0 ≡ true
  no_second a e = or_first (eqb s.queue.second 0) false (rw e at a.behind) refl

pub fits_status : (w : Way) {chaining : Bool} {long : ℕ} (s : Side) → Fits w chaining long s → (x : ℕ) → Flags w s.status x → Fits w chaining long (with_status x s)
fits_status Transmit s f x e = record { agrees = agrees_status Transmit s f.agrees x e.0; tma = rw (e.0, e.1) f.tma }
fits_status Receive s f x e = record { agrees = agrees_status Receive s f.agrees x e; tma = refl }

pub fits_long : (w : Way) {chaining : Bool} {long : ℕ} (s : Side) → Fits w chaining long s → waiting w s ≡ false → (l : ℕ) → Fits w chaining l s
fits_long w s f e l =
    let a = f.agrees in
    record {
      agrees = record {
        oldest = a.oldest;
        second = a.second;
        done = a.done;
        idle = a.idle;
        behind = a.behind;
        even_oldest = rw (e, or-true (not (eqb l 1)));
        even_second = rw (eqb-true s.queue.second 0 (no_second w s a e), or-true (not (eqb l 1)));
        chains = a.chains;
      };
      tma = f.tma;
    }

-- ---- a byte of zero has no unnamed bit, and counts none
pub zero_oldest : (w : Way) → only (oldest_bits w) 0 ≡ true
zero_oldest Transmit = refl
zero_oldest Receive = refl

pub zero_second : (w : Way) → only (second_bits w) 0 ≡ true
zero_second Transmit = refl
zero_second Receive = refl

pub zero_done : (w : Way) → counted w 0 ≡ true
zero_done Transmit = refl
zero_done Receive = refl

-- an empty queue, with TA, or RI, 1
pub fits_none : (w : Way) (chaining : Bool) (long x : ℕ) → clear (free_flag w) x ≡ false → Fits w chaining long (record { status = x; queue = none })
fits_none w chaining long x e = record {
  agrees = record {
    oldest = zero_oldest w;
    second = zero_second w;
    done = zero_done w;
    idle = or-true (clear (free_flag w) x);
    behind = refl;
    even_oldest = or-true (not (eqb long 1) || has (free_flag w) x);
    even_second = or-true (not (eqb long 1));
    chains = or-true chaining;
  };
  tma = told w e;
}
  where
    told : (w : Way) → clear (free_flag w) x ≡ false → sound w (record { status = x; queue = none }) ≡ true
    told Transmit t = rw (t, or-true (clear TMA x))
    told Receive t = refl
