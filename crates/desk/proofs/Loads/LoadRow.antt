-- The writes that load a row that was reset, in LOST: none is refused, and the row comes on line with its ID.
-- Assumes nothing.
use mathlib.Core.Path.{◌≡◌, refl, sym, ◌∙◌, ap}
use mathlib.Core.Bool.{Bool, true, false}
use mathlib.Core.List.{List}
use Prim.Native.Nat.{ℕ, ◌<◌}
use lib.Dec.{eqb}
use Rattle.registers.specs.declared.regs.Regs.{Regs}
use Rattle.bits.specs.Words.{pick, has}
use Rattle.registers.specs.Registers.{hardware_reset}
use Rattle.registers.specs.Events.{burst}
use Rattle.registers.proofs.Values.SameCard.{on_line_same, reset_off, same_burst}
use Rattle.registers.proofs.Values.Loads.{prepared, named, sized, opened, joined, Loads, loads}
use Rattle.table.specs.Network.{rows, phase, LOST, regs_at, on_line_at, is_node, shape}
use Rattle.table.specs.Calls.{net_write_number, net_after_write}
use Rattle.table.proofs.Online.Nodes.{online_is}
use Rattle.table.proofs.Access.Writes.{Written, written_same, write_stays, write_joins}
use Rattle.orders.specs.Form.{RECEIVE, LONG}
use Rattle.desk.specs.Load.{set19, set_id, set_long, set_receive, set38, loaded_row}

-- none of the five is refused; the two that depend on the flags would not be either where they are not made
pub record Unrefused (net : List ℕ) (k id flags : ℕ) : Type 0 where
  pub first : net_write_number net k 6 0x19 ≡ 0
  pub second : net_write_number (set19 net k) k 7 id ≡ 0
  pub third : net_write_number (set_id (set19 net k) k id) k 1 0x0d ≡ 0
  pub fourth : net_write_number (set_long (set_id (set19 net k) k id) k flags) k 1 0x84 ≡ 0
  pub fifth : net_write_number (set_receive (set_long (set_id (set19 net k) k id) k flags) k flags) k 6 0x38 ≡ 0

module _ (net : List ℕ) (s : shape net ≡ true) (p : phase net ≡ LOST) (k : ℕ) (l : k < rows net) (e : regs_at net k ≡ hardware_reset)
    (i flags : ℕ) (z : eqb i 0 ≡ false) (d : (j : ℕ) → j < rows net → (j ≡ k → ⊥) → is_node net i j ≡ false) where
  f : Loads i (has LONG flags) (has RECEIVE flags)
  f = loads i z (has LONG flags) (has RECEIVE flags)

  abbrev net1 : List ℕ
  net1 = set19 net k

  abbrev net2 : List ℕ
  net2 = set_id net1 k i

  abbrev net3 : List ℕ
  net3 = set_long net2 k flags

  abbrev net4 : List ℕ
  net4 = set_receive net3 k flags

  prepares : (net_write_number net k 6 0x19 ≡ 0) × Written net net1 k prepared
  prepares = write_stays net net k hardware_reset (rw (← e) (written_same net s p k)) l reset_off 6 0x19 f.prepares refl f.prepared_off

  names : (net_write_number net1 k 7 i ≡ 0) × Written net net2 k (named i)
  names = write_stays net net1 k prepared prepares.1 l f.prepared_off 7 i f.names refl f.named_off

  sizes : (net_write_number net2 k 1 0x0d ≡ 0) × Written net (net_after_write net2 k 1 0x0d) k (sized i true)
  sizes = write_stays net net2 k (named i) names.1 l f.named_off 1 0x0d f.sizes refl (loads i z true false).sized_off

  sizes_or : (b : Bool) → Written net (pick b (net_after_write net2 k 1 0x0d) net2) k (sized i b)
  sizes_or true = sizes.1
  sizes_or false = names.1

  opens : (net_write_number net3 k 1 0x84 ≡ 0) × Written net (net_after_write net3 k 1 0x84) k (opened i (has LONG flags) true)
  opens =
      write_stays net net3 k (sized i (has LONG flags)) (sizes_or (has LONG flags)) l f.sized_off 1 0x84 f.opens refl
      (loads i z (has LONG flags) true).opened_off

  opens_or : (b : Bool) → Written net (pick b (net_after_write net3 k 1 0x84) net3) k (opened i (has LONG flags) b)
  opens_or true = opens.1
  opens_or false = sizes_or (has LONG flags)

  joins : (net_write_number net4 k 6 0x38 ≡ 0) × Written net (set38 net4 k) k (burst (joined i (has LONG flags) (has RECEIVE flags)))
  joins =
      write_joins net net4 k (opened i (has LONG flags) (has RECEIVE flags)) (opens_or (has RECEIVE flags)) l f.opened_off 6 0x38 f.joins refl
      f.on (rw f.id d)

  pub row_unrefused : Unrefused net k i flags
  row_unrefused = record { first = prepares.0; second = names.0; third = sizes.0; fourth = opens.0; fifth = joins.0 }

  pub row_loaded : Written net (loaded_row net k i flags) k (burst (joined i (has LONG flags) (has RECEIVE flags)))
  unfolding loaded_row
  row_loaded = joins.1

  pub row_on : (on_line_at (loaded_row net k i flags) k ≡ true) × ((regs_at (loaded_row net k i flags) k).id ≡ i)
  row_on =
      let g = joined i (has LONG flags) (has RECEIVE flags) in
      let b = same_burst g in
      let r = row_loaded.regs in
      (sym (online_is (loaded_row net k i flags) k (burst g) true (sym r) (sym (on_line_same g (burst g) b.id b.configuration ∙ f.on))), ap (λ (x : Regs). x.id) r ∙ b.id ∙ f.id)
