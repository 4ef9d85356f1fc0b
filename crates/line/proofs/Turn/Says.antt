-- What the answer of a turn says of the changes that it is made of.
-- Assumes nothing.
use mathlib.Core.Path.{◌≡◌, refl}
use mathlib.Core.Bool.{Bool, true, false}
use mathlib.Core.List.{List}
use Prim.Native.Nat.{ℕ, ◌<◌}
use Rattle.registers.specs.declared.regs.Regs.{Regs}
use Rattle.card.specs.declared.packets.Shape.{Shape}
use Rattle.line.specs.declared.traffic.Outcome.{Outcome}
use Rattle.line.specs.declared.traffic.Outcome.TheVariants.{Nothing, Malformed, Broadcast, NoAnswer, Nak, Delivered, Unacknowledged}
use Rattle.bits.specs.Words.{pick}
use Rattle.registers.specs.Events.{cancelled, transmitting}
use Rattle.table.specs.Network.{rows, holder, regs_at}
use Rattle.line.specs.Traffic.{Turn}
use Rattle.line.specs.Outcomes.{stores, holder_after}
use Rattle.line.proofs.Change.Changes.{Ends, does, Change, Path, all_done, stored_by}
use Rattle.line.proofs.Turn.Storing.{Reached}

-- the changes that lead from a network to what a turn leaves; what the turn's answer says of what they do to the holder's own registers; and who stored a packet
pub record By {A : Type 0} (Says : (Regs → Regs) → A → Type 0) (net : List ℕ) (fault : ℕ) (t : Turn A) : Type 0 where
  pub changes : List Change
  pub path : Path net changes t.after
  pub says : Says (all_done changes) t.answer
  pub stored : (j : ℕ) → j < rows net → stored_by (holder net) changes j (regs_at net j) ≡ stores net fault j

-- whether a packet was tried
abbrev pub tried : Outcome → Bool
tried Nothing = false
tried Malformed = true
tried (Broadcast s) = true
tried NoAnswer = true
tried (Nak r) = true
tried (Delivered r s) = true
tried (Unacknowledged r s stored) = true

-- an outcome: what happened to the holder's registers, whether a packet was tried, and who stored it
pub record SaysHeld (net : List ℕ) (fault : ℕ) (f : Regs → Regs) (o : Outcome) : Type 0 where
  pub own : (g : Regs) → f g ≡ holder_after o g
  pub waits : transmitting (cancelled (regs_at net (holder net))) ≡ tried o
  pub reached : Reached net fault o

module _ (r : ℕ) (s : Shape) (stored : Bool) where
  pub packet_says : (a : Bool) (g : Regs) → does (Ends true a) (cancelled g) ≡ holder_after (pick a (Delivered r s) (Unacknowledged r s stored)) g
  packet_says true g = refl
  packet_says false g = refl

  pub packet_tried : (a : Bool) → tried (pick a (Delivered r s) (Unacknowledged r s stored)) ≡ true
  packet_tried true = refl
  packet_tried false = refl
