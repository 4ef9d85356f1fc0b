-- Registers that fit: the rules one by one, by name, and each side by those of its queue.
-- Assumes nothing.
use mathlib.Core.Path.{◌≡◌}
use mathlib.Core.Bool.{true, ◌&&◌, ◌||◌}
use lib.Dec.{eqb, leb, lit<}
use Rattle.bits.specs.declared.way.Way.{Way}
use Rattle.bits.specs.declared.way.Way.TheVariants.{Transmit, Receive}
use Rattle.registers.specs.declared.regs.Regs.{Regs}
use Rattle.bits.specs.Words.{pick, all, clear, has}
use Rattle.bits.specs.Flags.{TA, EXCNAK, LOW2, only, status_bits, diagnostic_bits, mask_bits, setup_bits, mode_bits}
use Rattle.queues.specs.Queues as queues
use Rattle.registers.specs.Sides.{chaining, side_of}
use Rattle.registers.specs.Naks.{nak_limit, naks, nak_rules}
use Rattle.registers.specs.Fit.{named, fit}
use Rattle.bits.proofs.Words.Bools.{and_left, and_right, holds}
use Rattle.queues.proofs.Fits as sides

pub record Fit (g : Regs) : Type 0 where
  pub status : only status_bits g.status ≡ true
  pub diagnostic : only diagnostic_bits g.diagnostic ≡ true
  pub mask : only mask_bits g.mask ≡ true
  pub setup : only setup_bits g.setup ≡ true
  pub high : only LOW2 g.high ≡ true
  pub mode : only mode_bits g.mode ≡ true
  pub long : only 1 g.long ≡ true
  pub most : leb (naks g) nak_limit ≡ true
  pub counts : (eqb (naks g) 0 || clear TA g.status) ≡ true
  pub excess : pick (eqb (naks g) nak_limit) (has EXCNAK g.diagnostic) (clear EXCNAK g.diagnostic) ≡ true
  pub transmit : sides.Fits Transmit (chaining g) g.long (side_of Transmit g)
  pub receive : sides.Fits Receive (chaining g) g.long (side_of Receive g)

module _ (g : Regs) where
  pub fit_rules : fit g ≡ true → Fit g
  unfolding fit
  fit_rules h =
      let t = queues.fit Transmit (chaining g) g.long (side_of Transmit g) in
      let r = queues.fit Receive (chaining g) g.long (side_of Receive g) in
      let n = all (named g) in
      let k = all (nak_rules g) in
      let both = and_left (n && k && t) r h in
      let bytes = and_left (n && k) t both in
      let at = holds (named g) (and_left n k bytes) in
      let nak = holds (nak_rules g) (and_right n k bytes) in
      record {
        status = at 0 (lit< tt);
        diagnostic = at 1 (lit< tt);
        mask = at 2 (lit< tt);
        setup = at 3 (lit< tt);
        high = at 4 (lit< tt);
        mode = at 5 (lit< tt);
        long = at 6 (lit< tt);
        most = nak 0 (lit< tt);
        counts = nak 1 (lit< tt);
        excess = nak 2 (lit< tt);
        transmit = sides.fit_rules Transmit (chaining g) g.long (side_of Transmit g) (and_right (n && k) t both);
        receive = sides.fit_rules Receive (chaining g) g.long (side_of Receive g) (and_right (n && k && t) r h);
      }

  pub rules_fit : Fit g → fit g ≡ true
  unfolding fit
  rules_fit f =
      rw (f.status, f.diagnostic, f.mask, f.setup, f.high, f.mode, f.long, f.most, f.counts, f.excess, sides.rules_fit Transmit (chaining g) g.long (side_of Transmit g) f.transmit, sides.rules_fit Receive (chaining g) g.long (side_of Receive g) f.receive)

pub fit_of : (g : Regs) → Fit g → (w : Way) → sides.Fits w (chaining g) g.long (side_of w g)
fit_of g f Transmit = f.transmit
fit_of g f Receive = f.receive
