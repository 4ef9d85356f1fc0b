-- What the line does to a card's registers, and the row that is given them: kept, and with the NID that it had but for a recovery and a rise.
-- Assumes nothing.
use mathlib.Core.Path.{◌≡◌, ◌∙◌, ap}
use mathlib.Core.Bool.{Bool, true}
use mathlib.Core.List.{List}
use Prim.Native.Nat.{ℕ}
use lib.Dec.{eqb}
use Rattle.registers.specs.declared.regs.Regs.{Regs}
use Rattle.line.specs.declared.passes.Event.{Event}
use Rattle.line.specs.declared.passes.Event.TheVariants.{Recovery, Message, Taken}
use Rattle.card.specs.Row.{regs_of, put_regs, well_formed, Whole}
use Rattle.registers.specs.Fit.{on_line}
use Rattle.registers.specs.Events.{heard, risen_nid, received, cancelled, sent, enquired, transmitting}
use Rattle.bits.proofs.Words.Bools.{pick_of}
use Rattle.card.proofs.Rows.Bytes.{regs_put}
use Rattle.registers.proofs.Values.Fits.{Fit}
use Rattle.registers.proofs.Values.FitEvents.{fit_heard, fit_answered, fit_recovered, fit_risen, fit_received, fit_cancelled, fit_sent, fit_enquired}
use Rattle.registers.proofs.Values.SameCard as card
use Rattle.card.proofs.Rows.WellFormed.{well_regs}
use Rattle.card.proofs.Rows.Rams.{ram_put}
use Rattle.card.proofs.Rows.Sizes.{whole_registers}
use Rattle.line.specs.Traffic.{happens}
use Rattle.table.proofs.Shaped.Became.{Moved, Still}

-- registers that fit, with the ID and the configuration that the row had
pub record FitNode (g h : Regs) : Type 0 where
  pub fits : Fit h
  pub id : h.id ≡ g.id
  pub configuration : h.configuration ≡ g.configuration

pub row_moved : (r : List ℕ) → Whole r → well_formed r ≡ true → (g : Regs) → FitNode (regs_of r) g → Moved r (put_regs r g)
row_moved r l w g s =
    let e : regs_of (put_regs r g) ≡ g = regs_put r g (whole_registers r l) in
    record {
      kept = record {
        well = well_regs r l w g s.fits;
        id = ap (λ (x : Regs). x.id) e ∙ s.id;
        online = ap on_line e ∙ card.on_line_same (regs_of r) g s.id s.configuration;
      };
      ram = λ _ b. ram_put r b g;
    }

-- registers that fit, of the same card, with its NID
pub record FitCard (g h : Regs) : Type 0 where
  pub fits : Fit h
  pub kept : card.SameCard g h

same_of : (g h : Regs) → FitCard g h → FitNode g h
same_of g h c = record { fits = c.fits; id = c.kept.id; configuration = c.kept.configuration }

pub row_still : (r : List ℕ) → Whole r → well_formed r ≡ true → (g : Regs) → FitCard (regs_of r) g → Still r (put_regs r g)
row_still r l w g c = record {
  moved = row_moved r l w g (same_of (regs_of r) g c);
  nid = ap (λ (x : Regs). x.nid) (regs_put r g (whole_registers r l)) ∙ c.kept.nid;
}

-- ---- changes that leave such registers
abbrev pub MovedBy : (Regs → Regs) → Type 0
MovedBy f = (g : Regs) → Fit g → FitNode g (f g)

abbrev pub StillBy : (Regs → Regs) → Type 0
StillBy f = (g : Regs) → Fit g → FitCard g (f g)

pub still_sent : (a : Bool) → StillBy (λ g. sent g a)
still_sent a g f = record { fits = fit_sent g f a; kept = card.same_sent g a }

still_heard : (t : Bool) → StillBy (λ g. heard g t)
still_heard t g f = record { fits = fit_heard g f t; kept = card.same_heard g t }

-- an enquiry for a packet that waits
pub still_asked : (nak : Bool) (g : Regs) → Fit g → transmitting g ≡ true → FitCard g (enquired g nak)
still_asked nak g f t = record { fits = fit_enquired g f nak t; kept = card.same_enquired g nak }

pub still_heard_sent : (t a : Bool) → StillBy (λ g. sent (heard g t) a)
still_heard_sent t a g f =
    let h = heard g t in
    record { fits = fit_sent h (fit_heard g f t) a; kept = card.same_then g h (sent h a) (card.same_heard g t) (card.same_sent h a) }

pub still_received : StillBy received
still_received g f = record { fits = fit_received g f; kept = card.same_received g }

pub still_cancelled : StillBy cancelled
still_cancelled g f = record { fits = fit_cancelled g f; kept = card.same_cancelled g }

pub moved_risen : MovedBy risen_nid
moved_risen g f = record { fits = fit_risen g f; id = (card.is_risen g).id; configuration = (card.is_risen g).configuration }

-- an event reaches a row
pub still_message : (h : ℕ) (t : Bool) (k : ℕ) → StillBy (happens (Message h t) k)
still_message h t k g f = pick_of (FitCard g) (eqb k h) (λ _. record { fits = f; kept = card.same_card g }) (λ _. still_heard t g f)

pub still_taken : (i t k : ℕ) → StillBy (happens (Taken i t) k)
still_taken i t k g f = record { fits = fit_answered g f i (eqb k t); kept = card.same_answered g i (eqb k t) }

pub reaches : (e : Event) (k : ℕ) → MovedBy (happens e k)
reaches Recovery k g f = record { fits = fit_recovered g f; id = (card.is_recovered g).id; configuration = (card.is_recovered g).configuration }
reaches (Message h t) k g f = same_of g _ (still_message h t k g f)
reaches (Taken i t) k g f = same_of g _ (still_taken i t k g f)
