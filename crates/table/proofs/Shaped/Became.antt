-- A row that another became, change after change; and a network: its rows, and who is on line.
-- Assumes nothing.
use mathlib.Core.Path.{◌≡◌, refl, ◌∙◌, ap}
use mathlib.Core.Bool.{true}
use mathlib.Core.List.{List}
use Prim.Native.Nat.{ℕ, ◌<◌}
use Rattle.registers.specs.declared.regs.Regs.{Regs}
use Rattle.card.specs.Row.{regs_of, well_formed}
use Rattle.registers.specs.Fit.{on_line}
use Rattle.card.proofs.Pages.Packets.{Ram}
use Rattle.table.specs.Rows.{row_at}
use Rattle.table.specs.Network.{rows, on_line_at, shape}
use Rattle.table.proofs.Shaped.Kept.{Kept, kept_same, Became, shape_became}
pub use Rattle.table.proofs.Shaped.Kept.{became_rows, became_phase, became_holder}

-- ---- a row: kept, and with a RAM of bytes where it had one and its ID is a byte; and with the NID that it had
pub record Moved (r s : List ℕ) : Type 0 where
  pub kept : Kept r s
  pub ram : (regs_of r).id < 256 → Ram r → Ram s

pub record Still (r s : List ℕ) : Type 0 where
  pub moved : Moved r s
  pub nid : (regs_of s).nid ≡ (regs_of r).nid

moved_same : (r : List ℕ) → well_formed r ≡ true → Moved r r
moved_same r w = record { kept = kept_same r w; ram = λ i b. b }

pub still_same : (r : List ℕ) → well_formed r ≡ true → Still r r
still_same r w = record { moved = moved_same r w; nid = refl }

-- a row whose registers are as they were
pub still_regs : (r s : List ℕ) → well_formed s ≡ true → regs_of s ≡ regs_of r → ((regs_of r).id < 256 → Ram r → Ram s) → Still r s
still_regs r s w e b = record {
  moved = record { kept = record { well = w; id = ap (λ (g : Regs). g.id) e; online = ap on_line e }; ram = b };
  nid = ap (λ (g : Regs). g.nid) e;
}

kept_after : {r s t : List ℕ} → Kept r s → Kept s t → Kept r t
kept_after a b = record { well = b.well; id = b.id ∙ a.id; online = b.online ∙ a.online }

moved_after : {r s t : List ℕ} → Moved r s → Moved s t → Moved r t
moved_after a b = record { kept = kept_after a.kept b.kept; ram = λ i x. b.ram (rw a.kept.id i) (a.ram i x) }

pub still_after : {r s t : List ℕ} → Still r s → Still s t → Still r t
still_after a b = record { moved = moved_after a.moved b.moved; nid = b.nid ∙ a.nid }

-- ---- a network
module _ {R : List ℕ → List ℕ → Type 0} {net new : List ℕ} (c : Became R net new) where
  became_map : {S : List ℕ → List ℕ → Type 0} → ((r s : List ℕ) → R r s → S r s) → Became S net new
  became_map f = record { frame = c.frame; row = λ k l. f (row_at net k) (row_at new k) (c.row k l) }

module _ {net new : List ℕ} where
  pub still_moved : Became Still net new → Became Moved net new
  still_moved c = became_map c (λ r s q. q.moved)

  pub shape_moved : shape net ≡ true → Became Moved net new → shape new ≡ true
  shape_moved s c = shape_became net new s (became_map c (λ r s q. q.kept))

  pub moved_online : Became Moved net new → (k : ℕ) → k < rows net → on_line_at new k ≡ on_line_at net k
  unfolding on_line_at
  moved_online c k l = (c.row k l).kept.online
