-- What each call and each event leaves alone, and what it changes: who the card is, its configuration, and whom it invites next.
-- Assumes nothing.
use mathlib.Core.Path.{◌≡◌, refl, sym, ◌∙◌}
use mathlib.Core.Bool.{Bool, true, false, true≢false}
use Prim.Native.Nat.{ℕ, ◌+◌, ◌%◌, ◌<◌}
use borrow.Author.Tests.{eqb-true}
use lib.Dec.{eqb, lit<}
use Rattle.registers.specs.declared.regs.Regs.{Regs}
use Rattle.bits.specs.declared.way.Way.TheVariants.{Transmit, Receive}
use Rattle.std.proofs.Common.{Option, Some, None}
use Rattle.commands.specs.declared.commands.Command.{Command}
use Rattle.commands.specs.declared.commands.Command.TheVariants.{Disable, Enable, LongPackets, ClearFlags, Clear}
use Rattle.bits.specs.Words.{pick, clear, has}
use Rattle.bits.specs.Flags.{AUTO_INC, RESET}
use Rattle.registers.specs.Fields.{with_configuration, with_fetched}
use Rattle.registers.specs.Fit.{awake, on_line}
use Rattle.commands.specs.Commands.{command_of}
use Rattle.registers.specs.Registers.{sub, stepped, after_read, hardware_reset, changes_chaining, configured, commanded, writes_id, seventh_written, after_write}
use Rattle.registers.specs.Events.{burst, recovered, heard, answered, risen_nid, received, cancelled, sent, enquired}
use Rattle.std.proofs.lemmas.Bool.{cases_Bool}
use Rattle.bits.proofs.Words.Bools.{pick_of}
use mathlib.Core.Logic.{⊎_elim}

-- h is the card that g was, in the same configuration, with the same NID and tentative ID
pub record SameCard (g h : Regs) : Type 0 where
  pub id : h.id ≡ g.id
  pub configuration : h.configuration ≡ g.configuration
  pub nid : h.nid ≡ g.nid
  pub tentative : h.tentative ≡ g.tentative

pub same_card : (g : Regs) → SameCard g g
same_card g = record { id = refl; configuration = refl; nid = refl; tentative = refl }

pub same_then : (g h k : Regs) → SameCard g h → SameCard h k → SameCard g k
same_then g h k a b = record {
  id = b.id ∙ a.id;
  configuration = b.configuration ∙ a.configuration;
  nid = b.nid ∙ a.nid;
  tentative = b.tentative ∙ a.tentative;
}

-- who is awake and who is on line goes by the ID and the configuration alone
module _ (g h : Regs) (i : h.id ≡ g.id) (c : h.configuration ≡ g.configuration) where
  pub awake_same : awake h ≡ awake g
  unfolding awake
  awake_same = rw (i, c)

  pub on_line_same : on_line h ≡ on_line g
  unfolding on_line
  on_line_same = rw (awake_same, c)

-- the ID of a card on line is not 0
pub on_line_id : (g : Regs) → on_line g ≡ true → g.id ≡ 0 → ⊥
unfolding on_line awake
on_line_id g o e = true≢false (sym o ∙ rw e)

-- ---- register accesses
pub reset_off : on_line hardware_reset ≡ false
unfolding on_line awake hardware_reset
reset_off = refl

module _ (g : Regs) where
  kept_stepped : SameCard g (stepped g)
  unfolding stepped
  kept_stepped = pick_of (SameCard g) (has AUTO_INC g.mode) (λ _. search) (λ _. same_card g)

  kept_commanded : (c : Option Command) → SameCard g (commanded g c)
  unfolding commanded
  kept_commanded None = same_card g
  kept_commanded (Some (Disable Transmit)) = search
  kept_commanded (Some (Disable Receive)) = search
  kept_commanded (Some (Enable Transmit p)) = search
  kept_commanded (Some (Enable Receive p)) = search
  kept_commanded (Some (LongPackets l)) = search
  kept_commanded (Some (ClearFlags p r)) = search
  kept_commanded (Some (Clear Transmit)) = search
  kept_commanded (Some (Clear Receive)) = search

  pub same_read : (k : ℕ) → SameCard g (after_read g k)
  unfolding after_read
  same_read k = pick_of (SameCard g) (eqb k 1) (λ _. search) (λ _. pick_of (SameCard g) (eqb k 4) (λ _. kept_stepped) (λ _. same_card g))

  pub same_fetched : (v : ℕ) → SameCard g (with_fetched v g)
  same_fetched v = search

  -- a write of any register but 6 and 7
  pub same_write : (k v : ℕ) → eqb k 6 ≡ false → eqb k 7 ≡ false → SameCard g (after_write g k v)
  unfolding after_write
  same_write k v n6 n7 =
      rw (n6, n7)
      (pick_of (SameCard g) (eqb k 0) (λ _. search)
      (λ _. pick_of (SameCard g) (eqb k 1) (λ _. kept_commanded (command_of v))
      (λ _. pick_of (SameCard g) (eqb k 2) (λ _. search)
      (λ _. pick_of (SameCard g) (eqb k 3) (λ _. search)
      (λ _. pick_of (SameCard g) (eqb k 4) (λ _. kept_stepped) (λ _. same_card g))))))

  -- the configuration is what was written, and the NID and both IDs stay
  pub record Configured (v : ℕ) (h : Regs) : Type 0 where
    pub id : h.id ≡ g.id
    pub configuration : h.configuration ≡ v
    pub nid : h.nid ≡ g.nid
    pub tentative : h.tentative ≡ g.tentative

  pub write_six : (v : ℕ) → Configured v (after_write g 6 v)
  unfolding after_write configured
  write_six v = pick_of (λ (h : Regs). Configured v (with_configuration v h)) (clear RESET v)
      (λ _. pick_of (λ (h : Regs). Configured v (with_configuration v h)) (changes_chaining g v) (λ _. search) (λ _. search)) (λ _. search)

  -- register 7: the node ID changes only where it is what is written
  pub record Seventh (h : Regs) : Type 0 where
    pub configuration : h.configuration ≡ g.configuration
    pub nid : h.nid ≡ g.nid

  pub write_seven : (v : ℕ) → Seventh (after_write g 7 v)
  unfolding after_write seventh_written
  write_seven v =
      pick_of Seventh (eqb (sub g) 0) (λ _. search) (λ _. pick_of Seventh (eqb (sub g) 1) (λ _. search) (λ _. search))

  pub write_id : (v : ℕ) → (after_write g 7 v).id ≡ pick (writes_id g 7) v g.id
  unfolding after_write seventh_written writes_id
  write_id v =
      pick_of (λ (h : Regs). h.id ≡ pick (eqb (sub g) 1) v g.id) (eqb (sub g) 0) (λ e. rw (eqb-true (sub g) 0 e))
      (λ _. pick_of (λ (h : Regs). h.id ≡ pick (eqb (sub g) 1) v g.id) (eqb (sub g) 1) (λ e. rw e) (λ n. rw n))

  -- ---- what the line does
  pub same_burst : SameCard g (burst g)
  unfolding burst
  same_burst = search

  pub same_heard : (t : Bool) → SameCard g (heard g t)
  unfolding heard
  same_heard t = search

  pub same_answered : (n : ℕ) (t : Bool) → SameCard g (answered g n t)
  unfolding answered
  same_answered n t = search

  pub same_sent : (a : Bool) → SameCard g (sent g a)
  unfolding sent
  same_sent a = search

  pub same_enquired : (nak : Bool) → SameCard g (enquired g nak)
  unfolding enquired heard sent
  same_enquired true = search
  same_enquired false = search

  pub same_received : SameCard g (received g)
  unfolding received
  same_received = search

  pub same_cancelled : SameCard g (cancelled g)
  unfolding cancelled
  same_cancelled = search

-- ---- the calls that do change one of the four
pub record Recovered (g h : Regs) : Type 0 where
  pub id : h.id ≡ g.id
  pub configuration : h.configuration ≡ g.configuration
  pub nid : h.nid ≡ pick (on_line g) g.id g.nid
  pub tentative : h.tentative ≡ g.tentative

pub is_recovered : (g : Regs) → Recovered g (recovered g)
unfolding recovered
is_recovered g = search

pub record Risen (g h : Regs) : Type 0 where
  pub id : h.id ≡ g.id
  pub configuration : h.configuration ≡ g.configuration
  pub nid : h.nid ≡ (g.nid + 1) % 256
  pub tentative : h.tentative ≡ g.tentative

pub is_risen : (g : Regs) → Risen g (risen_nid g)
unfolding risen_nid
is_risen g = search

-- ---- IDs of bytes, and the NID through a write
pub reset_id : hardware_reset.id < 256
unfolding hardware_reset
reset_id = lit< tt

module _ (g : Regs) (k v : ℕ) where
  pub write_nid : (after_write g k v).nid ≡ g.nid
  write_nid =
      ⊎_elim (λ (t : eqb k 6 ≡ true). rw (eqb-true k 6 t) (write_six g v).nid)
      (λ (n6 : eqb k 6 ≡ false). ⊎_elim (λ (t : eqb k 7 ≡ true). rw (eqb-true k 7 t) (write_seven g v).nid)
      (λ (n7 : eqb k 7 ≡ false). (same_write g k v n6 n7).nid) (cases_Bool (eqb k 7)))
      (cases_Bool (eqb k 6))

  pub write_id_byte : g.id < 256 → v < 256 → (after_write g k v).id < 256
  write_id_byte a b =
      ⊎_elim (λ (t : eqb k 6 ≡ true). rw (eqb-true k 6 t, (write_six g v).id) a)
      (λ (n6 : eqb k 6 ≡ false). ⊎_elim
      (λ (t : eqb k 7 ≡ true). rw (eqb-true k 7 t, write_id g v) (pick_of (λ (n : ℕ). n < 256) (writes_id g 7) (λ _. b) (λ _. a)))
      (λ (n7 : eqb k 7 ≡ false). rw (same_write g k v n6 n7).id a) (cases_Bool (eqb k 7)))
      (cases_Bool (eqb k 6))
