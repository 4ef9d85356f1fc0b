-- Registers that fit stay so through a command that is not refused.
-- Assumes nothing.
use mathlib.Core.Path.{◌≡◌, refl}
use mathlib.Core.Bool.{Bool, true, false, not, ◌&&◌, ◌||◌}
use Prim.Native.Nat.{ℕ, ◌-◌}
use lib.Bits.{bit_and}
use lib.Dec.{eqb}
use Rattle.registers.specs.declared.regs.Regs.{Regs}
use Rattle.std.proofs.Common.{Option, Some, None}
use Rattle.commands.specs.declared.commands.Command.{Command}
use Rattle.commands.specs.declared.commands.Command.TheVariants.{Disable, Enable, LongPackets, ClearFlags, Clear}
use Rattle.bits.specs.Words.{pick, clear, lower}
use Rattle.bits.specs.Flags.{RI, POR, RECON, TMA, TA, only, status_bits}
use Rattle.registers.specs.Fields.{with_status}
use Rattle.registers.specs.Sides.{chaining, side_of}
use Rattle.registers.specs.Naks.{naks_dropped}
use Rattle.registers.specs.Registers.{commanded}
use Rattle.registers.specs.Refusals.{busy, odd_page}
use Rattle.bits.proofs.Words.Bools.{or_left, or_right}
use Rattle.bits.proofs.Words.Table.{by_table}
use Rattle.queues.proofs.Changes.{fits_enabled, fits_disabled, fits_cleared}
use Rattle.queues.proofs.Apart.{enabled_apart, disabled_apart, cleared_apart}
use Rattle.queues.proofs.Waits.{enabled_waits, disabled_waits, cleared_waits}
use Rattle.registers.proofs.Values.Fits.{Fit, fit_of}
use Rattle.commands.proofs.Carried.{Small}
use Rattle.registers.proofs.Values.FitBytes as keeps
use Rattle.registers.proofs.Values.FitNaks.{fit_dropped}

-- a flag that is cleared where b says so
flag : (g : Regs) → Fit g → (b : Bool) (m : ℕ) → bit_and (255 - m) (255 - status_bits) ≡ 255 - status_bits → bit_and (255 - m) TA ≡ TA
    → bit_and (255 - m) RI ≡ RI → bit_and (255 - m) TMA ≡ TMA → Fit (with_status (lower (pick b m 0) g.status) g)
flag g f true m e ta ri tma = keeps.fit_lower g f m e ta ri tma
flag g f false m e ta ri tma = keeps.fit_lower g f 0 refl refl refl refl

-- PAGE refuses what the even-page rule forbids
even_page : (even long : Bool) → (not even && long) ≡ false → (not long || even) ≡ true
even_page true true h = refl
even_page true false h = refl
even_page false true h = cc
even_page false false h = refl

module _ (g : Regs) (f : Fit g) where
  pub fit_commanded : (c : Option Command) → Small c → busy g c ≡ false → odd_page g c ≡ false → Fit (commanded g c)
  unfolding commanded
  fit_commanded None s b o = f
  fit_commanded (Some (Disable w)) s b o =
      keeps.fit_side g f w _ (fits_disabled w (side_of w g) (fit_of g f w)) (λ m p. disabled_apart w m p (side_of w g)) (λ _ t. disabled_waits (side_of w g) t w)
  fit_commanded (Some (Enable w entry)) s b o =
      keeps.fit_side g f w _ (fits_enabled w (side_of w g) (fit_of g f w) entry b s (even_page (clear 1 entry) (eqb g.long 1) o)) (λ m q. enabled_apart w m q (side_of w g) (chaining g) entry)
      (λ _ t. enabled_waits (side_of w g) t w (chaining g) entry)
  fit_commanded (Some (LongPackets l)) s b o =
      let e : only 1 l ≡ true = by_table false (only 1) (λ l. true) 2 refl l s in
      keeps.fit_long g f l e (or_left (clear TA g.status) (clear RI g.status) b) (or_right (clear TA g.status) (clear RI g.status) b)
  fit_commanded (Some (ClearFlags p r)) s b o =
      let h = naks_dropped p g in
      flag (with_status (lower (pick r RECON 0) h.status) h) (flag h (fit_dropped g f p) r RECON refl refl refl refl) p POR refl refl refl refl
  fit_commanded (Some (Clear w)) s b o =
      keeps.fit_side g f w _ (fits_cleared w (side_of w g) (fit_of g f w)) (λ m p. cleared_apart w m p (side_of w g)) (λ _ t. cleared_waits (side_of w g) t w)
