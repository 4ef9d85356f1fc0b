-- "No second outcome fits", over the contracts of `table`.
-- Assumes nothing.
use mir.Syntax.{Dict}
use denote.RattleType.{RattleType}
use denote.Param.Laws.{Laws}
use Rattle.std.specs.Prelude.{◌≡◌, List, ℕ}
use Rattle.std.specs.Fork.{ChangesAt}
use Rattle.table.specs.contracts as contracts
use Rattle.table.proofs.network as network
use Rattle.table.proofs.walk as walk
use Rattle.table.proofs.calls as calls
use Rattle.promises.specs.Once.{FixedBy, FixedIf, Fixed, OnceBy, Once, SamePart, SamePartIf}

pub record OfTable : Type 2 where
  pub shape : Once contracts.network.shape.ended network.shape.Reads.Asked network.shape.Reads.Learnt
  pub wide : Once contracts.network.wide.ended network.wide.Reads.Asked network.wide.Reads.Learnt
  pub rows : Fixed contracts.network.rows.ended network.rows.Reads.Learnt
  pub phase : Fixed contracts.network.phase.ended network.phase.Reads.Learnt
  pub holder : Fixed contracts.network.holder.ended network.holder.Reads.Learnt
  pub row_start : Fixed contracts.network.row_start.ended network.row_start.Reads.Learnt
  pub row_end : Fixed contracts.network.row_end.ended network.row_end.Reads.Learnt
  pub row_from : FixedBy contracts.network.row_from.ended (λ κs. SamePart) network.row_from.Reads.Learnt
  pub row_at : FixedBy contracts.network.row_at.ended (λ κs. SamePart) network.row_at.Reads.Learnt
  pub regs_at : Fixed contracts.network.regs_at.ended network.regs_at.Reads.Learnt
  pub put_regs : Fixed contracts.network.put_regs.ended network.put_regs.Reads.Learnt
  pub turn : Fixed contracts.network.turn.ended network.turn.Reads.Learnt
  pub node_of : Fixed contracts.network.node_of.ended network.node_of.Reads.Learnt
  pub top_id : Fixed contracts.network.top_id.ended network.top_id.Reads.Learnt
  -- a walk is compared by its bytes, where they stand, and how many rows are behind it
  pub first : Fixed contracts.walk.Rows.first.ended walk.Rows.first.Reads.Learnt
  pub next : FixedBy contracts.walk.RowsIterator.next.ended (λ κs. SamePartIf) walk.RowsIterator.next.Reads.Learnt
  -- of a closure that leaves one row of a row and its number
  pub each_row_mut : (F : RattleType) (laws : Laws F) (calls : contracts.walk.each_row_mut.F-Fn.Ghosts F) (d d₁ d₂ d₃ : Dict)
      → FixedIf (contracts.walk.each_row_mut.ended F calls d d₁ d₂ d₃)
      (λ κs a. (k : ℕ) (r s t : List ℕ) → ChangesAt calls a.1.1.0 k r s → ChangesAt calls a.1.1.0 k r t → s ≡ t)
      (walk.each_row_mut.Reads.Learnt F laws calls d d₁ d₂ d₃)
  pub exact_length : Fixed contracts.calls.exact_length.ended calls.exact_length.Reads.Learnt
  pub fresh : Once contracts.calls.fresh.ended calls.fresh.Reads.Asked calls.fresh.Reads.Learnt
  pub place : Once contracts.calls.place.ended calls.place.Reads.Asked calls.place.Reads.Learnt
  pub read : Once contracts.calls.read.ended calls.read.Reads.Asked calls.read.Reads.Learnt
  pub write_on : Fixed contracts.calls.write_on.ended calls.write_on.Reads.Learnt
  pub write : Once contracts.calls.write.ended calls.write.Reads.Asked calls.write.Reads.Learnt
  pub reset : Once contracts.calls.reset.ended calls.reset.Reads.Asked calls.reset.Reads.Learnt
  pub timer : Once contracts.calls.timer.ended calls.timer.Reads.Asked calls.timer.Reads.Learnt
  pub interrupt : Once contracts.calls.interrupt.ended calls.interrupt.Reads.Asked calls.interrupt.Reads.Learnt
  pub page_data : OnceBy contracts.calls.page_data.ended (λ κs. SamePart) calls.page_data.Reads.Asked calls.page_data.Reads.Learnt
  pub may_read_data : Once contracts.calls.may_read_data.ended calls.may_read_data.Reads.Asked calls.may_read_data.Reads.Learnt
