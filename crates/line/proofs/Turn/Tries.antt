-- The holder's TAKEN step, put together from what the parts ensure.
-- Assumes nothing.
use mathlib.Core.Path.{◌≡◌, refl, sym, ◌∙◌, ap}
use mathlib.Core.Bool.{Bool, true, false}
use mathlib.Core.List.{List}
use Prim.Native.Nat.{ℕ}
use native.Mathlib.Omega.{arith}
use Rattle.registers.specs.declared.regs.Regs.{Regs}
use Rattle.line.specs.declared.traffic.Outcome.TheVariants.{Nothing}
use Rattle.card.specs.Row.{regs_of, put_regs}
use Rattle.registers.specs.Events.{cancelled, transmitting, transmit_page}
use Rattle.card.proofs.Rows.Sizes.{whole_registers}
use Rattle.card.proofs.Rows.Bytes.{size_put, regs_put}
use Rattle.std.proofs.Common.{Option, unwrap_or, ltb}
use borrow.Author.Tests.{ltb-false}
use Rattle.bits.proofs.Words.Bools.{pick_of}
use Rattle.table.specs.Folds.{below}
use Rattle.table.proofs.Online.Nodes.{node_of_most}
use Rattle.table.specs.Rows.{row_at, set_row}
use Rattle.table.specs.Network.{rows, regs_at, node_of}
use Rattle.line.specs.Traffic.{HasRow, on_row, try_turn, taken_turn}
use Rattle.table.proofs.Rows.Starts.{frame_rows}
use Rattle.table.proofs.Rows.WithRows.{row_at_set_row, set_row_frame}
use Rattle.table.proofs.Shaped.Shapes.{shape_room, shape_row_whole}
use Rattle.line.proofs.Change.Changes.{Cancels, Does}
use Rattle.line.proofs.Change.Made.{shape_done}
use Rattle.line.proofs.Turn.Sends.{put_after}

module _ (net : List ℕ) (h : ℕ) (has : HasRow net h) (fault : ℕ)
    (q : Regs) (eq : q ≡ regs_at net h) (g : Regs) (eg : g ≡ cancelled q) (x : List ℕ) (ex : x ≡ set_row net h (put_regs (row_at net h) g)) where
  after_cancels : x ≡ on_row net h cancelled
  after_cancels = put_after net net refl h q eq cancelled g eg x ex

  -- the registers that were put are those that are there
  there : g ≡ regs_at (on_row net h cancelled) h
  there =
      sym (ap (λ (y : List ℕ). regs_at y h) (sym after_cancels ∙ ex)
      ∙ ap regs_of (row_at_set_row net (rows net) (shape_room net has.fits) h has.within _ (size_put (row_at net h) g)) ∙ regs_put (row_at net h) g (whole_registers _ (shape_row_whole net has.fits h has.within)))

  pub cancels_row : HasRow x h
  cancels_row = record {
    fits = rw after_cancels (shape_done net h has.fits has.within (Does Cancels) tt tt);
    within = omega (arith, has.within, ap rows ex ∙ frame_rows (set_row_frame net (rows net) (shape_room net has.fits) h has.within _ (size_put (row_at net h) g)));
  }

  module _ (b : Bool) (eb : b ≡ transmitting g) where
    waits : b ≡ transmitting (regs_at (on_row net h cancelled) h)
    waits = eb ∙ ap transmitting there

    pub taken_nothing : b ≡ false → taken_turn net h fault ≡ record { answer = Nothing; after = x }
    unfolding taken_turn
    taken_nothing f = let v = sym waits ∙ f in rw (v, ← after_cancels)

    pub taken_tried : b ≡ true → (page : ℕ) → page ≡ transmit_page g → taken_turn net h fault ≡ try_turn x h page fault
    unfolding taken_turn
    taken_tried t page ep =
        let v = sym waits ∙ t in
        let k : page ≡ transmit_page (regs_at (on_row net h cancelled) h) = ep ∙ ap transmit_page there in
        rw (v, ← k, ← after_cancels)

-- the row that a search found, or the number of rows where it found none, is what the search gives
pub found_or : (to : Option ℕ) (net : List ℕ) (i x n : ℕ) → to ≡ below n (node_of net i x n) → unwrap_or to n ≡ node_of net i x n
found_or to net i x n e =
    rw e (pick_of (λ (o : Option ℕ). unwrap_or o n ≡ node_of net i x n) (ltb (node_of net i x n) n) (λ _. refl)
    (λ f. omega (arith, ltb-false (node_of net i x n) n f, node_of_most net i x n)))
