-- What a step does to a row that does not hold in TAKEN: which of its bytes may move, and that it holds the packet where it stores one.
-- Assumes nothing.
use mathlib.Core.Path.{◌≡◌, refl, ◌∙◌, ap}
use mathlib.Core.Bool.{Bool, true, false, ◌||◌}
use mathlib.Core.List.{List, ◌∷◌}
use Prim.Native.Nat.{ℕ, ◌<◌}
use lib.Dec.{eqb}
use borrow.Author.Tests.{eqb-true}
use Rattle.registers.specs.declared.regs.Regs.{Regs}
use Rattle.card.specs.declared.packets.Packet.{Packet}
use Rattle.line.specs.declared.passes.Event.{Event}
use Rattle.line.specs.declared.passes.Event.TheVariants.{Recovery, Message, Taken}
use Rattle.bits.specs.Words.{pick}
use Rattle.registers.specs.Events.{receiving}
use Rattle.card.specs.Row.{regs_of, put_regs, well_formed, Whole}
use Rattle.card.specs.Moves.{OnlyAt}
use Rattle.std.proofs.Math.Bool.{or-false}
use Rattle.bits.proofs.Words.Bools.{pick_of}
use Rattle.registers.proofs.Values.Listens.{Listens, listens_same, listens_recovered, listens_heard, listens_answered, reached_risen}
use Rattle.card.proofs.Rows.Bytes.{regs_put}
use Rattle.card.proofs.Rows.Moves.{only_stays, only_then, only_wider}
use Rattle.card.proofs.Rows.Bystanders.{Bystander, bystander_same, bystander_then, bystander_put, Storing, stores_then}
use Rattle.card.proofs.Rows.Sizes.{whole_registers}
use Rattle.table.specs.Rows.{row_at}
use Rattle.table.specs.Network.{rows, phase, holder, TAKEN, regs_at, shape}
use Rattle.line.specs.Traffic.{happens, carried_row}
use Rattle.line.specs.Step.{step}
use Rattle.line.specs.Outcomes.{sender, sent_page, stores, row_moves}
use Rattle.table.proofs.Shaped.Alike.{Rams}
use Rattle.line.proofs.Change.Changes.{Rises, Cancels, Enquires, Ends, Change, Reaches, Does, Stamps, Carries, row_done, Goes, Allowed, stores_it, stored_by}
use Rattle.line.proofs.Change.Paths.{by_rows}
use Rattle.line.proofs.Promised.Asides.{event_moves, rise_moves, stores_more}
use Rattle.line.proofs.Promised.Filling.{asks_same, watched, moved}
use Rattle.line.proofs.Steps.StepBy.{step_by}

-- ---- a row that stored the packet, or has not: a bystander whose RI stays
abbrev Receives : List ℕ → Bool
Receives r = receiving (regs_of r)

reaches : (e : Event) (k : ℕ) (g : Regs) → Listens g (happens e k g)
reaches Recovery k g = listens_recovered g
reaches (Message h token) k g = pick_of (Listens g) (eqb k h) (λ _. listens_same g) (λ _. listens_heard g token)
reaches (Taken i t) k g = listens_answered g i (eqb k t)

module _ (net : List ℕ) (s : shape net ≡ true) (b : Rams net) (fault : ℕ) where
  abbrev h : ℕ
  h = holder net

  abbrev Watches : Bool → List ℕ → List ℕ → Type 0
  Watches true r t = Storing (sender net) (sent_page net) r t
  Watches false r t = Bystander r t × (Receives t ≡ Receives r)

  watches_put : (x : Bool) (r t : List ℕ) → Whole t → (g : Regs) → Listens (regs_of t) g → Watches x r t → Watches x r (put_regs t g)
  watches_put x r t l g e =
      let m = bystander_put t g (whole_registers t l) e.wakes in
      let i = ap receiving (regs_put t g (whole_registers t l)) ∙ e.receives in
      on x m i
    where
      on : (x : Bool) → Bystander t (put_regs t g) → Receives (put_regs t g) ≡ Receives t → Watches x r t → Watches x r (put_regs t g)
      on true m i w = stores_then (sender net) (sent_page net) r t _ w m i
      on false m i w = (bystander_then r t _ w.0 m, i ∙ w.1)

  module _ (j : ℕ) (aside : phase net ≡ TAKEN → j ≡ h → ⊥) where
    abbrev Moves : Bool → List ℕ → List ℕ → Type 0
    Moves x = OnlyAt (row_moves net x j)

    -- ---- through each change
    record Seen (x : Bool) (r : List ℕ) : Type 0 where
      watches : Watches x (row_at net j) r
      moves : Moves x (row_at net j) r

    module _ (l : List Change) (r : List ℕ) (m : Whole r) (w : well_formed r ≡ true) (q : Seen (stored_by h l j (regs_at net j)) r) where
      abbrev x : Bool
      x = stored_by h l j (regs_at net j)

      abbrev was : List ℕ
      was = row_at net j

      -- the holder's own changes are in TAKEN, but for the rise of its NID
      not_mine : phase net ≡ TAKEN → (t : List ℕ) → Seen x (pick (eqb j h) t r)
      not_mine p t = pick_of (Seen x) (eqb j h) (λ e. absurd (aside p (eqb-true j h e))) (λ _. q)

      then : (t : List ℕ) → Watches x was t → Moves x r t → Seen x t
      then t a o = record { watches = a; moves = only_then was r t q.moves o }

      carries : (to : ℕ) (broadcast : Bool) (k : Packet) → Goes net l to k → Seen (stores_it h (Carries to broadcast k) j (regs_at net j) || x) (carried_row h to broadcast k j r)
      carries to broadcast k a =
          let none = a.once j (regs_at net j) in
          let v : Seen false r = rw none at q in
          let y = v.watches in
          let e = asks_same net s j aside to broadcast k a.whole a.tries a.packet was r refl m w y.0 y.1 in
          rw (none, or-false (stores_it h (Carries to broadcast k) j (regs_at net j)), ← e)
          (by_asking (stores_it h (Carries to broadcast k) j (regs_of r))
          (λ t. record {
            watches = watched net s j aside to broadcast k a.whole a.tries a.packet was r refl m w y.0 y.1 t;
            moves = only_then was r _ (only_wider was r (stores_more net s j aside) v.moves) (moved net s j aside to broadcast k a.whole a.tries a.packet was r refl m w y.0 y.1 t);
          }) v)
        where
          by_asking : (x : Bool) {t : List ℕ} → (x ≡ true → Seen true t) → Seen false r → Seen x (pick x t r)
          by_asking true p q = p refl
          by_asking false p q = q

      seen : (c : Change) → Allowed net l c → Seen (stored_by h (c ∷ l) j (regs_at net j)) (row_done h c j r)
      seen (Reaches e) a = then _ (watches_put x was r m (happens e j (regs_of r)) (reaches e j (regs_of r)) q.watches) (event_moves net s j aside e a x r m)
      seen (Does Rises) a =
          then _ (pick_of (Watches x was) (eqb j h) (λ _. watches_put x was r m _ (reached_risen (regs_of r)) q.watches) (λ _. q.watches)) (rise_moves net s j aside a x r m)
      seen (Does Cancels) a = not_mine a _
      seen (Does (Enquires nak)) a = not_mine a.taken _
      seen (Does (Ends y z)) a = not_mine a.taken _
      seen (Stamps p) a = not_mine a.0.taken _
      seen (Carries to broadcast k) a = carries to broadcast k a

  -- ---- a step
  module _ (j : ℕ) (l : j < rows net) (n : phase net ≡ TAKEN → j ≡ h → ⊥) where
    watches : Seen j n (stores net fault j) (row_at (step net fault).after j)
    watches =
        let t = step_by net s b fault in
        rw (← t.stored j l) (by_rows net s b (λ c i r. (u : phase net ≡ TAKEN → i ≡ h → ⊥) → Seen i u (stored_by h c i (regs_at net i)) r)
        (λ i _ u. record { watches = (bystander_same (row_at net i), refl); moves = only_stays _ (row_at net i) })
        (λ k c a i r _ m w q u. seen i u k r m w (q u) c a) t.path j l n)

    pub moves_aside : OnlyAt (row_moves net (stores net fault j) j) (row_at net j) (row_at (step net fault).after j)
    moves_aside = watches.moves

    pub fills : stores net fault j ≡ true → Storing (sender net) (sent_page net) (row_at net j) (row_at (step net fault).after j)
    fills e = (rw e at watches).watches
