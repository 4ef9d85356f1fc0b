-- What a step in TAKEN leaves of the holder: its registers by the outcome, and its bytes but those that may move; and who stored its packet.
-- Assumes nothing.
use mathlib.Core.Path.{◌≡◌, refl, sym, ◌∙◌, ap}
use mathlib.Core.Bool.{Bool, true, false, not, ◌&&◌, ◌||◌}
use mathlib.Core.List.{List, ◌∷◌}
use mathlib.Core.Logic.{⊎_elim}
use Prim.Native.Nat.{ℕ, ◌≤◌}
use native.Mathlib.Omega.{arith}
use lib.Dec.{eqb}
use lib.ListN.{length}
use borrow.Author.Tests.{eqb-true, eqb-false, eq-eqb, not-true}
use Rattle.registers.specs.declared.regs.Regs.{Regs}
use Rattle.card.specs.declared.packets.Packet.{Packet}
use Rattle.line.specs.declared.passes.Event.{Event}
use Rattle.line.specs.declared.passes.Event.TheVariants.{Recovery, Message, Taken}
use Rattle.line.specs.declared.traffic.Outcome.{Outcome}
use Rattle.line.specs.Answers.{Held}
use Rattle.bits.specs.Words.{pick, has, among}
use Rattle.bits.specs.Flags.{CCHEN}
use Rattle.registers.specs.Sides.{chaining}
use Rattle.registers.specs.Events.{heard, receiving, takes_broadcasts}
use Rattle.card.specs.Row.{register_bytes, regs_of, put_regs, well_formed, Whole}
use Rattle.card.specs.Packets.{page_at, storable}
use Rattle.card.specs.Moves.{OnlyAt}
use Rattle.std.proofs.lemmas.Bool.{cases_Bool}
use Rattle.bits.proofs.Words.Bools.{and_left, and_right, or_left, or_right, pick_of}
use Rattle.registers.proofs.Values.Fits.{Fit, fit_rules, rules_fit}
use Rattle.registers.proofs.Values.Unqueued.{unqueued_fit}
use Rattle.registers.proofs.Values.Chained.{keeps_chained}
use Rattle.registers.proofs.Values.Keeps.{Keeps, keeps_same, keeps_cancelled, keeps_enquired, keeps_heard_sent, keeps_sent}
use Rattle.card.proofs.Rows.Bytes.{regs_put, well_fit, size_put}
use Rattle.card.proofs.Rows.WellFormed.{regs_stamped}
use Rattle.card.proofs.Rows.Moves.{only_stays, only_then, only_wider, only_put, only_stamped}
use Rattle.card.proofs.Rows.Sizes.{SameSize, size_same, size_then, whole_registers}
use Rattle.card.proofs.Pages.Places.{page_behind, place_same}
use Rattle.card.proofs.Pages.Stored.{size_stamped}
use Rattle.table.specs.Rows.{row_at}
use Rattle.table.specs.Network.{phase, holder, TAKEN, on_regs, regs_at, shape}
use Rattle.line.specs.Traffic.{happens, carried_row}
use Rattle.line.specs.Step.{step}
use Rattle.line.specs.Outcomes.{sent_page, stores, holder_bytes, row_moves, holder_after, HolderLeft}
use Rattle.table.proofs.Shaped.Alike.{Rams}
use Rattle.line.proofs.Change.Made.{row_fits}
use Rattle.line.proofs.Steps.Stepped.{held_row}
use Rattle.line.proofs.Change.Changes.{Own, Rises, Cancels, Enquires, Ends, Change, Reaches, Does, Stamps, Carries, does, row_done, Ready, Allowed, Comes, all_done}
use Rattle.line.proofs.Change.Paths.{by_rows}
use Rattle.line.proofs.Turn.Storing.{Reached}
use Rattle.line.proofs.Turn.Says.{SaysHeld}
use Rattle.line.proofs.Change.Registers.{FitCard, still_cancelled, still_asked, still_heard_sent, still_sent}
use Rattle.line.proofs.Promised.Left.{left_by}
use Rattle.line.proofs.Steps.StepBy.{step_by}

-- the holder takes no packet of its own
not_own : (h to : ℕ) (broadcast : Bool) (k : Packet) (r : List ℕ) → (to ≡ h → ⊥) → carried_row h to broadcast k h r ≡ r
not_own h to broadcast k r other =
    let g = regs_of r in
    let w = broadcast && not (eqb h h) && takes_broadcasts g in
    let t = eqb h to || w in
    pick_of (λ (x : List ℕ). x ≡ r) (t && receiving g && storable g k.shape)
    (λ z. absurd (⊎_elim (λ e. other (sym (eqb-true h to e)))
    (λ e. let o : w ≡ true = rw e at (and_left t (receiving g) (and_left (t && receiving g) (storable g k.shape) z)) in
    eqb-false h h (not-true (eqb h h) (and_right broadcast (not (eqb h h)) (and_left (broadcast && not (eqb h h)) (takes_broadcasts g) o))) refl)
    (cases_Bool (eqb h to)))) (λ _. refl)

-- ---- through each change
module _ (net : List ℕ) (p : phase net ≡ TAKEN) where
  abbrev h : ℕ
  h = holder net

  abbrev registers_moved : List ℕ
  registers_moved = holder_bytes (chaining (regs_at net h))

  -- what the holder's row may move
  may : (x : Bool) (i : ℕ) → row_moves net x h i ≡ false → (among registers_moved i || eqb i (page_at (row_at net h) (sent_page net))) ≡ false
  may x i e = rw (p, eq-eqb h h refl) at e

  only_registers : (x : Bool) (r : List ℕ) (g : Regs) → register_bytes ≤ length r → Keeps registers_moved (regs_of r) g → OnlyAt (row_moves net x h) r (put_regs r g)
  only_registers x r g l k = only_wider r _ (λ i e. or_left (among registers_moved i) _ (may x i e)) (only_put registers_moved r g l k)

  -- a change of its own leaves the card that it was, and the other bytes
  own_still : (l : List Change) (o : Own) → Allowed net l (Does o) → (g : Regs) → Fit g → Ready g (Does o) → FitCard g (does o g)
  own_still l Rises a g f q = absurd (omega (arith, p, a))
  own_still l Cancels a g f q = still_cancelled g f
  own_still l (Enquires nak) a g f q = still_asked nak g f q
  own_still l (Ends true x) a g f q = still_heard_sent false x g f
  own_still l (Ends false x) a g f q = still_sent x g f

  own_wide : (l : List Change) (o : Own) → Allowed net l (Does o) → (g : Regs) → Keeps (holder_bytes true) g (does o g)
  own_wide l Rises a g = absurd (omega (arith, p, a))
  own_wide l Cancels a g = keeps_cancelled _ g refl refl
  own_wide l (Enquires nak) a g = keeps_enquired _ g refl refl nak
  own_wide l (Ends true x) a g = keeps_heard_sent _ g refl refl x
  own_wide l (Ends false x) a g = keeps_sent _ g refl refl x

  own_keeps : (l : List Change) (o : Own) → Allowed net l (Does o) → (g : Regs) → Fit g → Ready g (Does o) → chaining g ≡ chaining (regs_at net h) → Keeps registers_moved g (does o g)
  own_keeps l o a g f k e =
      let t = own_still l o a g f k in
      keeps_chained (chaining (regs_at net h)) holder_bytes refl g (does o g)
      (λ c. (unqueued_fit g (e ∙ c) (rules_fit g f), unqueued_fit (does o g) (ap (has CCHEN) t.kept.configuration ∙ e ∙ c) (rules_fit (does o g) t.fits))) (own_wide l o a g)

  -- row h, by the changes of its own
  record Left (x : Bool) (f : Regs → Regs) (r : List ℕ) : Type 0 where
    registers : regs_of r ≡ f (regs_at net h)
    chains : chaining (regs_of r) ≡ chaining (regs_at net h)
    size : SameSize (row_at net h) r
    moves : OnlyAt (row_moves net x h) (row_at net h) r

  module _ (x : Bool) (l : List Change) (r : List ℕ) (m : Whole r) (w : well_formed r ≡ true) (q : Left x (all_done l) r) where
    then : (s : List ℕ) → OnlyAt (row_moves net x h) r s → OnlyAt (row_moves net x h) (row_at net h) s
    then s o = only_then (row_at net h) r s q.moves o

    own_event : (e : Event) → Comes net e → Left x (all_done l) (on_regs (happens e h) r)
    own_event Recovery a = absurd (omega (arith, p, a))
    own_event (Message k token) a =
        let t : pick (eqb h k) (regs_of r) (heard (regs_of r) token) ≡ regs_of r = rw (a.0, eq-eqb h h refl) in
        record {
          registers = regs_put r _ (whole_registers r m) ∙ t ∙ q.registers;
          chains = ap chaining (regs_put r _ (whole_registers r m) ∙ t) ∙ q.chains;
          size = size_then q.size (size_put r _);
          moves = then _ (only_registers x r _ (whole_registers r m) (rw t (keeps_same _ (regs_of r))));
        }
    own_event (Taken i t) a = absurd (omega (arith, p, a))

    own_changes : (c : Change) → Allowed net l c → Ready (regs_of r) c → Left x (all_done (c ∷ l)) (row_done h c h r)
    own_changes (Reaches e) a k = own_event e a
    own_changes (Does o) a k =
        let f = fit_rules (regs_of r) (well_fit r w) in
        rw (eq-eqb h h refl) (record {
          registers = regs_put r _ (whole_registers r m) ∙ ap (does o) q.registers;
          chains = ap chaining (regs_put r _ (whole_registers r m)) ∙ ap (has CCHEN) (own_still l o a (regs_of r) f k).kept.configuration ∙ q.chains;
          size = size_then q.size (size_put r _);
          moves = then _ (only_registers x r _ (whole_registers r m) (own_keeps l o a (regs_of r) f k q.chains));
        })
    own_changes (Stamps y) a k =
        rw (eq-eqb h h refl) (record {
          registers = regs_stamped r m (page_at r y) (page_behind r y) ∙ q.registers;
          chains = ap chaining (regs_stamped r m (page_at r y) (page_behind r y)) ∙ q.chains;
          size = size_then q.size (size_stamped r (page_at r y) (page_behind r y));
          moves = then _ (only_wider r _ (λ i e. rw (place_same (row_at net h) r q.size y, a.1) (or_right (among registers_moved i) _ (may x i e))) (only_stamped r (page_at r y)));
        })
    own_changes (Carries to broadcast k) a _ = rw (not_own h to broadcast k r a.other) (record { registers = q.registers; chains = q.chains; size = q.size; moves = q.moves })

  -- ---- through a step
  module _ (s : shape net ≡ true) (b : Rams net) (fault : ℕ) where
    own_step : (x : Bool) → Left x (all_done (step_by net s b fault).changes) (row_at (step net fault).after h)
    own_step x =
        by_rows net s b (λ l j r. j ≡ h → Left x (all_done l) r) (λ j _ e. rw e (record { registers = refl; chains = refl; size = size_same (row_at net h); moves = only_stays _ (row_at net h) }))
        (λ l c a j r k m w q e. rw e (own_changes x l r m w (q e) c a (k (eq-eqb j h e)))) (step_by net s b fault).path h (held_row net s) refl

    pub moves_holder : OnlyAt (row_moves net (stores net fault h) h) (row_at net h) (row_at (step net fault).after h)
    moves_holder = (own_step (stores net fault h)).moves

    module _ (o : Outcome) (e : (step net fault).answer ≡ Held o) where
      said : SaysHeld net fault (all_done (step_by net s b fault).changes) o
      said = rw e at (step_by net s b fault).says

      pub holder_left : HolderLeft (regs_at net h) (regs_at (step net fault).after h) o
      holder_left =
          let g = regs_at net h in
          let i : regs_at (step net fault).after h ≡ holder_after o g = (own_step false).registers ∙ said.own g in
          rw i (left_by g (row_fits net h s (held_row net s)) o said.waits)

      pub packet_reached : Reached net fault o
      packet_reached = said.reached
