-- A packet goes out, put together from what its parts ensure.
-- Assumes nothing.
use mathlib.Core.Path.{◌≡◌}
use mathlib.Core.Bool.{Bool, true, false}
use mathlib.Core.List.{List}
use Prim.Native.Nat.{ℕ, ◌+◌, ◌-◌, ◌≤◌, ◌<◌}
use native.Mathlib.Omega.{arith}
use borrow.Rule.Slice.PartMut.{mid_of, put_mid}
use lib.ListN.{length, drop}
use Rattle.registers.specs.declared.regs.Regs.{Regs}
use Rattle.line.specs.declared.passes.Event.TheVariants.{Message}
use Rattle.card.specs.Row.{row_size, put_regs}
use Rattle.card.specs.Packets.{page_at, packet_at, stamped}
use Rattle.bits.proofs.Words.Bools.{pick_of}
use Rattle.card.proofs.Pages.Packets.{packet_full, packet_count}
use Rattle.card.proofs.Rows.Rams.{packet_bytes}
use Rattle.table.specs.Rows.{row_start, row_at, set_row}
use Rattle.table.specs.Network.{Bytes, rows, regs_at, shape}
use Rattle.line.specs.Traffic.{HasRow, on_row, happened, damaged, stamped_net, went_out}
use Rattle.table.proofs.Rows.Walks.{walked_lies, row_done_lem}
use Rattle.table.proofs.Shaped.Shapes.{shape_within, shape_row_whole}
use Rattle.table.proofs.Shaped.Alike.{Rams, bytes_rams, Alike, alike_then, alike_moved}
use Rattle.line.proofs.Change.Changes.{Reaches, Stamps, Carries, WholePacket}
use Rattle.line.proofs.Change.Made.{moved_done, shape_done, rows_done}

-- a packet that is read out of a page of row h is whole
pub whole_packet : (net : List ℕ) → shape net ≡ true → Rams net → (h : ℕ) → h < rows net → (p : ℕ) → p < 4 → WholePacket (packet_at (row_at net h) p)
whole_packet net s b h l p q = record {
  full = omega (arith, packet_full (row_at net h) p (shape_row_whole net s h l) q);
  count = packet_count (row_at net h) p (b h l).0;
  small = packet_bytes (row_at net h) (b h l).0 p;
}

module _ (net : List ℕ) (s : shape net ≡ true) (h p : ℕ) (l : h < rows net) where
  pub stamped_is : (a : ℕ) → a ≡ row_start net h → (e : ℕ) → (e ≡ a + row_size (drop a net)) × (e ≤ length net) → (m : List ℕ)
      → m ≡ stamped (mid_of a (e - a) net) (page_at (mid_of a (e - a) net) p) → put_mid a (e - a) net m ≡ stamped_net net h p
  stamped_is a ea e ee m d = row_done_lem net h a e (walked_lies net h a ea (shape_within net s h l) e ee) (λ r. stamped r (page_at r p)) m d

  shape_stamped : shape (stamped_net net h p) ≡ true
  shape_stamped = shape_done net h s l (Stamps p) tt tt

  rows_stamped : rows (stamped_net net h p) ≡ rows net
  rows_stamped = rows_done net h s l (Stamps p) tt tt

  abbrev went : List ℕ
  went = happened (stamped_net net h p) (Message h false)

  pub stamped_fits : (a : ℕ) → a ≡ row_start net h → (e : ℕ) → (e ≡ a + row_size (drop a net)) × (e ≤ length net) → (m : List ℕ)
      → m ≡ stamped (mid_of a (e - a) net) (page_at (mid_of a (e - a) net) p) → (shape (put_mid a (e - a) net m) ≡ true) × (rows (put_mid a (e - a) net m) ≡ rows net)
  stamped_fits a ea e ee m d = rw (stamped_is a ea e ee m d) (shape_stamped, rows_stamped)

  -- the network that it leaves: the rows of `net`, still well formed
  module _ (b : Rams net) (q : p < 4) where
    stamped_alike : Alike net (stamped_net net h p)
    stamped_alike = alike_moved net s b _ (moved_done net h s l (Stamps p) tt tt)

    went_alike : Alike net went
    went_alike =
        let a = stamped_alike in
        alike_then a (alike_moved (stamped_net net h p) a.fits a.rams went (moved_done (stamped_net net h p) h a.fits (omega (arith, a.count)) (Reaches (Message h false)) tt tt))

    pub out_alike : (fault to : ℕ) (b : Bool) → Alike net (went_out net h p fault to b)
    unfolding went_out
    out_alike fault to b =
        let a = stamped_alike in
        let c = went_alike in
        let whole = whole_packet (stamped_net net h p) a.fits a.rams h (omega (arith, a.count)) p q in
        pick_of (Alike net) (damaged fault) (λ _. c)
        (λ _. alike_then c (alike_moved went c.fits c.rams _ (moved_done went h c.fits (omega (arith, c.count)) (Carries to b (packet_at (row_at (stamped_net net h p) h) p)) whole tt)))

pub went_row : (net : List ℕ) → Bytes net → (h : ℕ) → HasRow net h → (p : ℕ) → p < 4 → (fault to : ℕ) (b : Bool) (x : List ℕ) → x ≡ went_out net h p fault to b → HasRow x h
went_row net y h has p q fault to b x e =
    let a = out_alike net has.fits h p has.within (bytes_rams net has.fits y) q fault to b in
    rw e (record { fits = a.fits; within = omega (arith, a.count, has.within) })

-- row k of a network that is w is given other registers
pub put_after : (w x : List ℕ) → x ≡ w → (k : ℕ) (r : Regs) → r ≡ regs_at x k → (f : Regs → Regs) (g : Regs) → g ≡ f r
    → (y : List ℕ) → y ≡ set_row x k (put_regs (row_at x k) g) → y ≡ on_row w k f
unfolding on_row
put_after w x ex k r er f g eg y ey = rw (ey, eg, er, ex)
