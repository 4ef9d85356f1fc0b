-- C-16: a row that no NAK is counted of is as it was without it.
-- Assumes nothing.
use mathlib.Core.Path.{◌≡◌, refl, sym, ◌∙◌, ap}
use mathlib.Core.Bool.{Bool, true, false, not, ◌&&◌, ◌||◌}
use Prim.Native.Nat.{ℕ, ◌<◌}
use native.Mathlib.Omega.{arith}
use borrow.Author.Tests.{eqb-true}
use lib.Dec.{eqb}
use Rattle.registers.specs.declared.regs.Regs.{Regs}
use Rattle.bits.specs.declared.way.Way.TheVariants.{Transmit}
use Rattle.bits.specs.Words.{pick, clear, has, lower}
use Rattle.bits.specs.Flags.{RI, POR, RECON, TA, EXCNAK, CANCEL}
use Rattle.queues.specs.Queues as queues
use Rattle.registers.specs.Fields.{with_status, with_diagnostic, with_mask, with_transmit, with_receive, with_long, with_naks}
use Rattle.registers.specs.Sides.{chaining, side_of, with_side, tta, tri}
use Rattle.registers.specs.Naks.{naks, naks_dropped}
use Rattle.registers.specs.Registers.{after_read, interrupt, commanded}
use Rattle.registers.specs.Events.{receive_cancelled, cancelled, sent}
use Rattle.registers.specs.Unrefused.{Unrefused}
use Rattle.std.proofs.Math.Bool.{or-false}
use Rattle.bits.proofs.Words.Bools.{or_first}
use Rattle.bits.proofs.Words.Table.{by_table}
use Rattle.registers.proofs.Values.Fits.{Fit}

-- EXCNAK is cleared where it is clear
lowered : (d : ℕ) → d < 256 → clear EXCNAK d ≡ true → lower EXCNAK d ≡ d
lowered d l c =
    let t = by_table false (λ (x : ℕ). eqb (lower EXCNAK x) x || not (clear EXCNAK x)) (λ x. true) 256 refl d l in
    eqb-true _ _ (or_first (eqb (lower EXCNAK d) d) (not (clear EXCNAK d)) t (ap not c))

-- registers with nothing to drop
module _ (g : Regs) (low : g.later.naklow ≡ 0) (high : g.later.nakhigh ≡ 0) (clean : lower EXCNAK g.diagnostic ≡ g.diagnostic) where
  none_counted : with_naks 0 0 g ≡ g
  none_counted = ap (λ (x : ℕ). with_naks x 0 g) (sym low) ∙ ap (λ (x : ℕ). with_naks g.later.naklow x g) (sym high)

  none_dropped : (b : Bool) → naks_dropped b g ≡ g
  none_dropped true = ap (λ (x : ℕ). with_diagnostic x (with_naks 0 0 g)) clean ∙ ap (with_diagnostic g.diagnostic) none_counted
  none_dropped false = refl

pub unrefused : (g : Regs) → Fit g → g.diagnostic < 256 → naks g ≡ 0 → Unrefused g
unfolding sent cancelled commanded after_read interrupt
unrefused g f l z =
    let low : g.later.naklow ≡ 0 = omega arith in
    let high : g.later.nakhigh ≡ 0 = omega arith in
    let c : clear EXCNAK g.diagnostic ≡ true = rw z at f.excess in
    let d = lowered g.diagnostic l c in
    record {
      sent = λ a. none_dropped (with_side Transmit (queues.ended Transmit (chaining g) a (side_of Transmit g)) g) low high d true;
      cancelled = ap receive_cancelled (none_dropped (with_side Transmit (queues.cancelled Transmit (side_of Transmit g)) g) low high d (has CANCEL g.transmit.oldest));
      flags = λ p r. ap (with_status (lower (pick p POR 0) (lower (pick r RECON 0) g.status))) (none_dropped g low high d p);
      reset = ap (λ (h : Regs). with_status 0x91 (with_diagnostic 0 (with_mask 0 (with_transmit queues.none (with_receive queues.none (with_long 0 h)))))) (none_counted g low high d);
      read = ap (λ (x : ℕ). with_diagnostic x g) (eqb-true _ _ c);
      interrupt = rw c (or-false (has POR g.status || pick (chaining g) (tri g) (has RI g.status) && has RI g.mask || has RECON g.status && has RECON g.mask
          || pick (chaining g) (tta g) (has TA g.status) && has TA g.mask));
    }
