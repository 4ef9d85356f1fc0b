-- A turn of TAKEN as the changes that it is made of, and what its outcome says of them.
-- Assumes nothing.
use mathlib.Core.Path.{◌≡◌, refl, sym, ◌∙◌, ap}
use mathlib.Core.Bool.{Bool, true, false, not, ◌&&◌, ◌||◌}
use mathlib.Core.List.{List, [], ◌∷◌}
use Prim.Native.Nat.{ℕ, ◌<◌}
use native.Mathlib.Omega.{arith}
use lib.Dec.{eqb, ltb}
use borrow.Author.Tests.{eq-eqb, ltb-true, ltb-false}
use Rattle.registers.specs.declared.regs.Regs.{Regs}
use Rattle.card.specs.declared.packets.Shape.{Shape}
use Rattle.line.specs.declared.passes.Event.TheVariants.{Message}
use Rattle.line.specs.declared.traffic.Outcome.{Outcome}
use Rattle.line.specs.declared.traffic.Outcome.TheVariants.{Nothing, Malformed, Broadcast, NoAnswer, Nak, Delivered, Unacknowledged}
use Rattle.bits.specs.Words.{pick}
use Rattle.registers.specs.Events.{cancelled, transmitting, receiving, transmit_page}
use Rattle.card.specs.Row.{regs_of}
use Rattle.card.specs.Packets.{malformed, page_shape, destination, packet_at, storable}
use Rattle.std.proofs.Math.Bool.{or-false}
use Rattle.bits.proofs.Words.Bools.{and_left, pick_of}
use Rattle.registers.proofs.Values.Ends.{transmit_page_small}
use Rattle.table.specs.Rows.{row_at}
use Rattle.table.specs.Network.{rows, phase, holder, TAKEN, regs_at, node_of, shape}
use Rattle.line.specs.Traffic.{Turn, on_row, happened, damaged, ack_lost, takes, stamped_net, went_out, broadcast_turn, arrives, acknowledged, packet_turn, asked, enquiry_turn, try_turn, taken_turn}
use Rattle.line.specs.Step.{step_number}
use Rattle.line.specs.Outcomes.{sent_shape, sent_to, addressee, stores, holder_after}
use Rattle.table.proofs.Online.Nodes.{node_of_found}
use Rattle.table.proofs.Online.SameNodes.{alike_node_of}
use Rattle.table.proofs.Shaped.Alike.{Rams, Alike}
use Rattle.line.proofs.Steps.Stepped.{held_row}
use Rattle.line.proofs.Change.Changes.{Own, Cancels, Enquires, Ends, does, Change, Reaches, Does, Stamps, Carries, Tries, Ready, Allowed, Path, begin, more, all_done, stored_by}
use Rattle.line.proofs.Change.Made.{own_here, own_there, happened_here}
use Rattle.line.proofs.Change.Paths.{sound}
use Rattle.line.proofs.Turn.Readied.{same_page, same_form, same_did, sent}
use Rattle.line.proofs.Turn.Storing.{Found, found_at, Reached, cast, stored_there, one, unheard}
use Rattle.line.proofs.Turn.Says.{By, tried, SaysHeld, packet_says, packet_tried}
use Rattle.line.proofs.Turn.Sends.{whole_packet}

alone : (a b c : Bool) → (a && b && c || false) ≡ (a && (b && c))
alone true b c = or-false (b && c)
alone false b c = refl

module _ (net : List ℕ) (s : shape net ≡ true) (b : Rams net) (fault : ℕ) (z : eqb (step_number net fault) 0 ≡ true) (p : phase net ≡ TAKEN) where
  abbrev h : ℕ
  h = holder net

  -- when the cancels have taken effect
  abbrev m : List ℕ
  m = on_row net h cancelled

  abbrev page : ℕ
  page = transmit_page (regs_at m h)

  abbrev form : Shape
  form = page_shape (row_at m h) page

  abbrev did : ℕ
  did = destination (row_at m h) page

  abbrev to : ℕ
  to = node_of m did h (rows m)

  cancels : Path net (Does Cancels ∷ []) m
  cancels = more begin (Does Cancels) p tt

  now : Alike net m
  now = sound net s b cancels

  low : h < rows net
  low = held_row net s

  here : regs_at m h ≡ cancelled (regs_at net h)
  here = own_here net h s low Cancels

  abbrev ByTurn : Turn Outcome → Type 0
  ByTurn = By (SaysHeld net fault) net fault

  abbrev Nobody : Type 0
  Nobody = (j : ℕ) → j < rows net → false ≡ stores net fault j

  -- no packet waits
  nothing : transmitting (regs_at m h) ≡ false → ByTurn (record { answer = Nothing; after = m })
  unfolding stores
  nothing t =
      let e = ap transmitting (sym here) ∙ t in
      record { changes = _; path = cancels; says = record { own = λ g. refl; waits = e; reached = tt }; stored = λ j _. rw (z, p, e) }

  module _ (t : transmitting (regs_at m h) ≡ true) where
    tries : Tries net
    tries = record { taken = p; waits = ap transmitting (sym here) ∙ t }

    -- the shape, the DID and the addressee are those that the row had
    form_is : form ≡ sent_shape net
    form_is = same_form net s

    did_is : did ≡ sent_to net
    did_is = same_did net s

    to_is : to ≡ node_of net (sent_to net) h (rows net)
    to_is = rw did_is (alike_node_of now (sent_to net) h)

    -- at the end the transmit ends, or waits on
    ends : {x : List ℕ} {l : List Change} → Path net l x → ((g : Regs) → all_done l g ≡ cancelled g) → (o : Own) → Allowed net l (Does o) → Ready (regs_at x h) (Does o) → (a : Outcome)
        → ((g : Regs) → does o (cancelled g) ≡ holder_after a g) → tried a ≡ true → Reached net fault a
        → ((j : ℕ) → j < rows net → stored_by h l j (regs_at net j) ≡ stores net fault j) → ByTurn (record { answer = a; after = on_row x h (does o) })
    ends q w o ok r a e u k v = record {
      changes = _;
      path = more q (Does o) ok r;
      says = record { own = λ g. ap (does o) (w g) ∙ e g; waits = tries.waits ∙ sym u; reached = k };
      stored = v;
    }

    malformed_ends : malformed form ≡ true → ByTurn (record { answer = Malformed; after = on_row m h (does (Ends false false)) })
    unfolding stores
    malformed_ends f =
        let e : malformed (sent_shape net) ≡ true = rw form_is at f in
        ends cancels (λ g. refl) (Ends false false) tries tt Malformed (λ g. refl) refl tt (λ j _. rw (z, p, tries.waits, e))

    module _ (sound-form : malformed form ≡ false) where
      f : malformed (sent_shape net) ≡ false
      f = rw form_is at sound-form

      -- a packet goes out, and is stored by whoever takes it
      record Went (to : ℕ) (broadcast : Bool) (x : List ℕ) : Type 0 where
        changes : List Change
        path : Path net changes x
        own : (g : Regs) → all_done changes g ≡ cancelled g
        stored : (j : ℕ) → stored_by h changes j (regs_at net j)
            ≡ (not (damaged fault) && (takes h to broadcast j (regs_at net j) && (receiving (regs_at net j) && storable (regs_at net j) (sent_shape net))))

      went_out_lem : (to : ℕ) (broadcast : Bool) → (to ≡ h → ⊥) → Went to broadcast (went_out m h page fault to broadcast)
      unfolding went_out
      went_out_lem to broadcast other =
          let x = stamped_net m h page in
          let c = more cancels (Stamps page) (tries, same_page net s) tt in
          let went = sent net s now f in
          let a = sound net s b c in
          let d = more c (Reaches (Message h false)) (refl, λ e. omega (arith, p, e)) tt in
          let k = packet_at (row_at x h) page in
          let lx : h < rows x = omega (arith, a.count, low) in
          pick_of (Went to broadcast) (damaged fault) (λ e. record { changes = _; path = d; own = λ g. refl; stored = λ j. rw e })
          (λ e. record {
            changes = _;
            path = more d (Carries to broadcast k) (record {
              tries = tries;
              once = λ j g. refl;
              whole = whole_packet x a.fits a.rams h lx page (transmit_page_small (regs_at m h));
              packet = went;
              other = other;
            }) tt;
            own = λ g. refl;
            stored = λ j. let g = regs_at net j in rw (e, went.form) (alone (takes h to broadcast j g) (receiving g) (storable g (sent_shape net)));
          })

      broadcast_ends : eqb did 0 ≡ true → ByTurn (broadcast_turn m h page fault)
      unfolding broadcast_turn stores
      broadcast_ends d =
          let e : eqb (sent_to net) 0 ≡ true = rw did_is at d in
          let w = went_out_lem (rows m) true (λ e. omega (arith, now.count, low)) in
          ends w.path w.own (Ends false false) tries tt (Broadcast form) (λ g. refl) refl (form_is, cast net fault z p tries.waits f e) (λ j _. w.stored j ∙ rw (z, p, tries.waits, f, e, now.count))

      module _ (other-did : eqb did 0 ≡ false) where
        d : eqb (sent_to net) 0 ≡ false
        d = rw did_is at other-did

        found : addressee net ≡ to
        found = rw d (sym to_is)

        -- row `to` as it was
        same : to < rows m → regs_at m to ≡ regs_at net to
        same l = ap regs_of (own_there net h s low Cancels to (omega (arith, now.count)) (node_of_found m did h (rows m) l).1)

        answers : to < rows m → Found net to
        answers l = found_at net fault z p tries.waits f d to found (omega (arith, now.count))

        module _ (l : to < rows m) (r : receiving (regs_at m to) ≡ true) where
          there : receiving (regs_at net to) ≡ true
          there = rw (same l) at r

          arrives_is : arrives m h page fault to ≡ (not (damaged fault) && storable (regs_at net to) (sent_shape net))
          arrives_is = rw (same l, form_is)

          delivers : acknowledged m h page fault to ≡ true → Reached net fault (Delivered to form)
          delivers a = (answers l, (form_is, one net fault z p tries.waits f d to found there (sym arrives_is ∙ and_left (arrives m h page fault to) (not (ack_lost fault)) a)))

          unheard_of : Reached net fault (Unacknowledged to form (arrives m h page fault to))
          unheard_of = (answers l, (form_is, stored_there net fault z p tries.waits f d to found there ∙ sym arrives_is))

        packet_ends : to < rows m → receiving (regs_at m to) ≡ true → ByTurn (packet_turn m h page fault to)
        unfolding packet_turn stores
        packet_ends l r =
            let a = acknowledged m h page fault to in
            let w = went_out_lem to false (node_of_found m did h (rows m) l).1 in
            let v = arrives m h page fault to in
            ends w.path w.own (Ends true a) tries tt (pick a (Delivered to form) (Unacknowledged to form v)) (packet_says to form v a) (packet_tried to form v a)
            (pick_of (Reached net fault) a (delivers l r) (λ _. unheard_of l r)) (λ j _. w.stored j ∙ rw (z, p, tries.waits, f, d, ← to_is))

        -- a NAK, or no answer: nobody stores it
        asks : Path net (Reaches (Message h false) ∷ Does Cancels ∷ []) (happened m (Message h false))
        asks = more cancels (Reaches (Message h false)) (refl, λ e. omega (arith, p, e)) tt

        -- the holder does not hear its own message
        waits_still : transmitting (regs_at (happened m (Message h false)) h) ≡ true
        waits_still = ap transmitting (happened_here m (Message h false) now.fits h (omega (arith, now.count, low)) ∙ rw (eq-eqb h h refl)) ∙ t

        unstored : ((j : ℕ) → j < rows net → j ≡ to → receiving (regs_at net j) ≡ false) → Nobody
        unstored deaf = unheard net fault z p tries.waits f d to found deaf

        enquiry_ends : ByTurn (enquiry_turn m h page fault to)
        unfolding enquiry_turn asked
        enquiry_ends =
            pick_of ByTurn (ltb to (rows m))
            (λ l. let v = ltb-true to (rows m) l in
            pick_of ByTurn (receiving (regs_at m to)) (λ r. packet_ends v r)
            (λ e. ends asks (λ g. refl) (Enquires true) tries waits_still (Nak to) (λ g. refl) refl (answers v, rw (same v) at e) (unstored (λ j lj i. ap (λ (r : List ℕ). receiving (regs_of r))
            (sym (own_there net h s low Cancels j lj (λ y. (node_of_found m did h (rows m) v).1 (sym i ∙ y)))) ∙ ap (λ (k : ℕ). receiving (regs_at m k)) i ∙ e))))
            (λ l. ends asks (λ g. refl) (Enquires false) tries waits_still NoAnswer (λ g. refl) refl tt
            (unstored (λ j lj i. absurd (omega (arith, now.count, ltb-false to (rows m) l)))))

    try_ends : ByTurn (try_turn m h page fault)
    unfolding try_turn
    try_ends = pick_of ByTurn (malformed form) malformed_ends (λ f. pick_of ByTurn (eqb did 0) (broadcast_ends f) (enquiry_ends f))

  pub taken_by : By (SaysHeld net fault) net fault (taken_turn net (holder net) fault)
  unfolding taken_turn
  taken_by = pick_of ByTurn (transmitting (regs_at m h)) try_ends nothing
