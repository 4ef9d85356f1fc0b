-- Each kind of change, row by row: what it does to every row, and that it keeps SHAPE, the number of rows and their IDs, who is on line, and the RAMs.
-- Assumes nothing.
use mathlib.Core.Path.{◌≡◌, refl, ◌∙◌, ap}
use mathlib.Core.Bool.{Bool, true, false, false≢true}
use mathlib.Core.List.{List}
use mathlib.Core.Logic.{⊎_elim}
use Prim.Native.Nat.{ℕ, ◌<◌}
use lib.Dec.{eqb}
use borrow.Author.Tests.{eqb-true, eqb-false, eq-eqb, ne_eqb}
use Rattle.registers.specs.declared.regs.Regs.{Regs}
use Rattle.line.specs.declared.passes.Event.{Event}
use Rattle.line.specs.declared.passes.Event.TheVariants.{Recovery, Message, Taken}
use Rattle.bits.specs.Words.{pick}
use Rattle.card.specs.Row.{Whole, regs_of, put_regs, well_formed}
use Rattle.card.specs.Packets.{page_at, stamped}
use Rattle.std.proofs.lemmas.Bool.{cases_Bool}
use Rattle.bits.proofs.Words.Bools.{pick_of}
use Rattle.card.proofs.Rows.Sizes.{SameSize, size_same, whole_registers}
use Rattle.card.proofs.Pages.Places.{page_behind}
use Rattle.card.proofs.Rows.Bytes.{size_put, regs_put, well_fit}
use Rattle.registers.proofs.Values.Fits.{Fit, fit_rules}
use Rattle.card.proofs.Rows.WellFormed.{well_stamped, regs_stamped}
use Rattle.card.proofs.Pages.Stored.{size_stamped}
use Rattle.card.proofs.Rows.Rams.{ram_stamped}
use Rattle.table.specs.Rows.{row_at, set_row, each_row}
use Rattle.table.specs.Network.{rows, holder, on_regs, regs_at, shape}
use Rattle.line.specs.Traffic.{on_row, happens, happened, carried}
use Rattle.table.proofs.Rows.Starts.{Frame}
use Rattle.table.proofs.Rows.WithRows.{row_at_set_row, row_at_set_row_other, set_row_frame, each_row_lem, each_frame}
use Rattle.table.proofs.Shaped.Shapes.{shape_room, shape_row, shape_row_whole}
use Rattle.table.proofs.Shaped.Kept.{Became}
use Rattle.table.proofs.Shaped.Became.{Moved, Still, still_same, still_regs, became_rows, shape_moved}
use Rattle.line.proofs.Change.Registers.{FitCard, MovedBy, StillBy, row_moved, row_still, still_sent, still_asked, still_heard_sent, still_cancelled, still_message, still_taken, moved_risen, reaches}
use Rattle.line.proofs.Change.Stored.{carried_still}
use Rattle.line.proofs.Steps.Stepped.{held_row}
use Rattle.line.proofs.Change.Changes.{Own, Rises, Cancels, Enquires, Ends, does, Change, Reaches, Does, Stamps, Carries, done, row_done, Sane, Ready, keeps_nid}

-- ---- a row: kept, with a RAM of bytes; and with its NID, where n says so
record Fine (r : List ℕ) (n : Bool) (s : List ℕ) : Type 0 where
  moved : Moved r s
  nid : n ≡ true → (regs_of s).nid ≡ (regs_of r).nid

module _ (r : List ℕ) (l : Whole r) (w : well_formed r ≡ true) where
  -- it is as long as it was
  sized : (h : ℕ) (c : Change) → Sane c → (j : ℕ) → SameSize r (row_done h c j r)
  sized h (Reaches e) a j = size_put r _
  sized h (Does o) a j = pick_of (SameSize r) (eqb j h) (λ _. size_put r _) (λ _. size_same r)
  sized h (Stamps p) a j = pick_of (SameSize r) (eqb j h) (λ _. size_stamped r (page_at r p) (page_behind r p)) (λ _. size_same r)
  sized h (Carries to broadcast k) a j = (carried_still k a.full a.count a.small h to broadcast j r l w).0

  fine_still : (s : List ℕ) → Still r s → Fine r true s
  fine_still s q = record { moved = q.moved; nid = λ _. q.nid }

  fits : Fit (regs_of r)
  fits = fit_rules (regs_of r) (well_fit r w)

  fine_card : (g : Regs) → FitCard (regs_of r) g → Fine r true (put_regs r g)
  fine_card g q = fine_still _ (row_still r l w g q)

  fine_stays : (f : Regs → Regs) → StillBy f → Fine r true (on_regs f r)
  fine_stays f q = fine_card _ (q (regs_of r) fits)

  fine_keeps : (f : Regs → Regs) → MovedBy f → Fine r false (on_regs f r)
  fine_keeps f q = record {
    moved = row_moved r l w _ (q (regs_of r) fits);
    nid = λ e. absurd (false≢true e);
  }

  -- the holder's row, or another
  fine_pick : (n : Bool) (s : List ℕ) (b : Bool) → (b ≡ true → Fine r n s) → Fine r n (pick b s r)
  fine_pick n s true q = q refl
  fine_pick n s false q = let e = still_same r w in record { moved = e.moved; nid = λ _. refl }

  fine : (h : ℕ) (c : Change) → Sane c → (j : ℕ) → (eqb j h ≡ true → Ready (regs_of r) c) → Fine r (keeps_nid c) (row_done h c j r)
  fine h (Reaches Recovery) a j q = fine_keeps _ (reaches Recovery j)
  fine h (Reaches (Message k token)) a j q = fine_stays _ (still_message k token j)
  fine h (Reaches (Taken i t)) a j q = fine_stays _ (still_taken i t j)
  fine h (Does Rises) a j q = fine_pick false _ (eqb j h) (λ _. fine_keeps _ moved_risen)
  fine h (Does Cancels) a j q = fine_pick true _ (eqb j h) (λ _. fine_stays _ still_cancelled)
  fine h (Does (Enquires nak)) a j q = fine_pick true _ (eqb j h) (λ t. fine_card _ (still_asked nak (regs_of r) fits (q t)))
  fine h (Does (Ends true x)) a j q = fine_pick true _ (eqb j h) (λ _. fine_stays _ (still_heard_sent false x))
  fine h (Does (Ends false x)) a j q = fine_pick true _ (eqb j h) (λ _. fine_stays _ (still_sent x))
  fine h (Stamps p) a j q =
      fine_pick true _ (eqb j h)
      (λ _. let a = page_at r p in let low = page_behind r p in
      fine_still _ (still_regs r _ (well_stamped r l w a low) (regs_stamped r l a low) (λ i b. ram_stamped r b a i)))
  fine h (Carries to broadcast k) a j q = fine_still _ (carried_still k a.full a.count a.small h to broadcast j r l w).1

  pub done_nid : (h : ℕ) (c : Change) → Sane c → (j : ℕ) → (eqb j h ≡ true → Ready (regs_of r) c) → keeps_nid c ≡ true → (regs_of (row_done h c j r)).nid ≡ (regs_of r).nid
  done_nid h c a j q = (fine h c a j q).nid

-- ---- a network: each row is changed so, and all else is as it was
pub record Made (h : ℕ) (net : List ℕ) (c : Change) : Type 0 where
  pub frame : Frame net (done h c net) (rows net)
  pub row : (j : ℕ) → j < rows net → row_at (done h c net) j ≡ row_done h c j (row_at net j)

module _ (net : List ℕ) (h : ℕ) (s : shape net ≡ true) (l : h < rows net) where
  pub size_done : (c : Change) → Sane c → (j : ℕ) → j < rows net → SameSize (row_at net j) (row_done h c j (row_at net j))
  size_done c a j b = sized (row_at net j) (shape_row_whole net s j b) (shape_row net s j b) h c a j

  -- row h is given other bytes
  made_set : (c : Change) → Sane c → (f : List ℕ → List ℕ) → ((j : ℕ) (r : List ℕ) → row_done h c j r ≡ pick (eqb j h) (f r) r)
      → done h c net ≡ set_row net h (f (row_at net h)) → Made h net c
  made_set c a f is new =
      let w = shape_room net s in
      let r = f (row_at net h) in
      let i : row_done h c h (row_at net h) ≡ r = is h (row_at net h) ∙ rw (eq-eqb h h refl) in
      let e : SameSize (row_at net h) r = rw i at (size_done c a h l) in record {
        frame = rw new (set_row_frame net (rows net) w h l r e);
        row = λ j b. rw (new, is j (row_at net j)) (⊎_elim (λ (t : eqb j h ≡ true). rw (t, eqb-true j h t) (row_at_set_row net (rows net) w h l r e))
            (λ (t : eqb j h ≡ false). rw t (row_at_set_row_other net (rows net) w h l r e j b (eqb-false j h t))) (cases_Bool (eqb j h)));
      }

  -- each row is given other bytes
  made_each : (c : Change) → Sane c → done h c net ≡ each_row (row_done h c) net (rows net) → Made h net c
  made_each c a new =
      record {
        frame = rw new (each_frame net (rows net) (shape_room net s) (row_done h c) (size_done c a));
        row = λ j b. rw new (each_row_lem net (rows net) (shape_room net s) (row_done h c) (size_done c a) j b);
      }

  pub made : (c : Change) → Sane c → Made h net c
  unfolding happened on_row carried
  made (Reaches e) a = made_each (Reaches e) a refl
  made (Does o) a = made_set (Does o) a (on_regs (does o)) (λ j r. refl) refl
  made (Stamps p) a = made_set (Stamps p) a (λ r. stamped r (page_at r p)) (λ j r. refl) refl
  made (Carries to broadcast k) a = made_each (Carries to broadcast k) a refl

  module _ (c : Change) (a : Sane c) (q : Ready (regs_at net h) c) where
    pub moved_done : Became Moved net (done h c net)
    moved_done =
        let m = made c a in
        record {
          frame = m.frame;
          row = λ j b. rw (m.row j b) (fine (row_at net j) (shape_row_whole net s j b) (shape_row net s j b) h c a j (λ t. rw (eqb-true j h t) q)).moved;
        }

    pub shape_done : shape (done h c net) ≡ true
    shape_done = shape_moved s moved_done

    pub rows_done : rows (done h c net) ≡ rows net
    rows_done = became_rows moved_done

  -- the holder's own registers after a change of them, and every other row
  pub own_row : (o : Own) → row_at (on_row net h (does o)) h ≡ on_regs (does o) (row_at net h)
  own_row o = (made (Does o) tt).row h l ∙ rw (eq-eqb h h refl)

  pub own_here : (o : Own) → regs_at (on_row net h (does o)) h ≡ does o (regs_at net h)
  own_here o = ap regs_of (own_row o) ∙ regs_put (row_at net h) _ (whole_registers _ (shape_row_whole net s h l))

  pub own_there : (o : Own) (j : ℕ) → j < rows net → (j ≡ h → ⊥) → row_at (on_row net h (does o)) j ≡ row_at net j
  own_there o j b n = (made (Does o) tt).row j b ∙ rw (ne_eqb j h n)

  pub row_fits : Fit (regs_at net h)
  row_fits = fit_rules (regs_at net h) (well_fit (row_at net h) (shape_row net s h l))

-- an event
module _ (net : List ℕ) (e : Event) (s : shape net ≡ true) where
  pub shape_happened : shape (happened net e) ≡ true
  shape_happened = shape_done net (holder net) s (held_row net s) (Reaches e) tt tt

  pub rows_happened : rows (happened net e) ≡ rows net
  rows_happened = rows_done net (holder net) s (held_row net s) (Reaches e) tt tt

  pub happened_here : (j : ℕ) → j < rows net → regs_at (happened net e) j ≡ happens e j (regs_at net j)
  happened_here j b =
      ap regs_of ((made net (holder net) s (held_row net s) (Reaches e) tt).row j b)
      ∙ regs_put (row_at net j) _ (whole_registers _ (shape_row_whole net s j b))
