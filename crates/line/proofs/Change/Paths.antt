-- What holds of a row through each kind of change holds of it through the changes of a step; so do SHAPE, the IDs, who is on line, the RAMs, the frame, and the NIDs.
-- Assumes nothing.
use mathlib.Core.Path.{◌≡◌, refl, ◌∙◌}
use mathlib.Core.Bool.{true}
use mathlib.Core.List.{List, [], ◌∷◌}
use Prim.Native.Nat.{ℕ, ◌<◌}
use native.Mathlib.Omega.{arith}
use lib.Dec.{eqb}
use borrow.Author.Tests.{eqb-true}
use Rattle.line.specs.declared.passes.Event.TheVariants.{Recovery, Message, Taken}
use Rattle.card.specs.Row.{regs_of, well_formed, Whole}
use Rattle.bits.proofs.Words.Bools.{and_left, and_right}
use Rattle.table.specs.Rows.{row_at}
use Rattle.table.specs.Network.{rows, phase, holder, TAKEN, regs_at, shape, SameFrame}
use Rattle.table.proofs.Rows.Networks.{length_turned, row_at_turned, turned_other}
use Rattle.table.proofs.Shaped.Shapes.{shape_row, shape_row_whole}
use Rattle.table.proofs.Shaped.Kept.{shape_turned}
use Rattle.table.proofs.Shaped.Alike.{Rams, Alike, alike_same, alike_then, alike_moved, alike_turned}
use Rattle.table.proofs.Rows.Starts.{frame_byte}
use Rattle.line.proofs.Steps.Stepped.{held_row}
use Rattle.line.proofs.Change.Changes.{Rises, Cancels, Enquires, Ends, Change, Reaches, Does, Stamps, Carries, row_done, Ready, keeps_nid, Allowed, sane, Path, begin, more, turn, keep_nids}
use Rattle.line.proofs.Change.Made.{done_nid, Made, made, moved_done}

module _ (start : List ℕ) (s : shape start ≡ true) (b : Rams start) where
  -- what a path leads to is well formed, with the same rows on line, each with its ID, and has RAMs of bytes
  pub sound : {l : List Change} {net : List ℕ} → Path start l net → Alike start net
  sound begin = alike_same start s b
  sound (more {l = l} {net = net} p c a r) =
      let q = sound p in
      alike_then q (alike_moved net q.fits q.rams _
      (moved_done net (holder start) q.fits (omega (arith, q.count, held_row start s)) c (sane start l c a) r))
  sound (turn {net = net} p x t a) =
      let q = sound p in
      alike_turned start s b net x t q (shape_turned net x t q.fits a.small a.nobody
      (λ n. let d = a.somebody n in (omega (arith, q.count, d.0), q.online t d.0 ∙ d.1)))

  next : {l : List Change} {net : List ℕ} → Path start l net → (c : Change) → Allowed start l c → Made (holder start) net c
  next {l = l} {net = net} p c a = let q = sound p in made net (holder start) q.fits (omega (arith, q.count, held_row start s)) c (sane start l c a)

  -- it keeps the length, and the header but for phase and holder
  pub frame : {l : List Change} {net : List ℕ} → Path start l net → SameFrame start net
  frame begin = record { size = refl; header = λ i h x y. refl }
  frame (more p c a r) =
      let f = frame p in
      let m = next p c a in
      record { size = m.frame.size ∙ f.size; header = λ i h x y. frame_byte m.frame i h ∙ f.header i h x y }
  frame (turn {net = net} p x t a) =
      let f = frame p in
      record { size = length_turned net x t ∙ f.size; header = λ i h u v. turned_other net x t i u v ∙ f.header i h u v }

  -- what holds of each row at the start, and through each change that is made to a well formed row, holds at the end
  module _ (Q : List Change → ℕ → List ℕ → Type 0) (at_first : (j : ℕ) → j < rows start → Q [] j (row_at start j))
      (each : (l : List Change) (c : Change) → Allowed start l c → (j : ℕ) (r : List ℕ) → (eqb j (holder start) ≡ true → Ready (regs_of r) c) → Whole r → well_formed r ≡ true
      → Q l j r → Q (c ∷ l) j (row_done (holder start) c j r)) where
    pub by_rows : {l : List Change} {net : List ℕ} → Path start l net → (j : ℕ) → j < rows start → Q l j (row_at net j)
    by_rows begin j lj = at_first j lj
    by_rows (more {l = l} {net = net} p c a k) j lj =
        let q = sound p in
        let i : j < rows net = omega (arith, q.count) in
        rw ((next p c a).row j i) (each l c a j (row_at net j) (λ t. rw (eqb-true j (holder start) t) k) (shape_row_whole net q.fits j i) (shape_row net q.fits j i) (by_rows p j lj))
    by_rows (turn {net = net} p x t a) j lj = rw (row_at_turned net x t j) (by_rows p j lj)

  -- changes that keep the NIDs; and in TAKEN all do
  pub same_nids : {l : List Change} {net : List ℕ} → Path start l net → keep_nids l ≡ true → (j : ℕ) → j < rows start → (regs_at net j).nid ≡ (regs_at start j).nid
  same_nids p k j lj =
      by_rows (λ l i r. keep_nids l ≡ true → (regs_of r).nid ≡ (regs_at start i).nid) (λ i _ _. refl)
      (λ l c a i r k m w q e. done_nid r m w (holder start) c (sane start l c a) i k (and_left (keeps_nid c) (keep_nids l) e) ∙ q (and_right (keeps_nid c) (keep_nids l) e)) p j lj k

  keeps_taken : phase start ≡ TAKEN → (l : List Change) (c : Change) → Allowed start l c → keeps_nid c ≡ true
  keeps_taken p l (Reaches Recovery) a = absurd (omega (arith, p, a))
  keeps_taken p l (Reaches (Message k token)) a = refl
  keeps_taken p l (Reaches (Taken i t)) a = refl
  keeps_taken p l (Does Rises) a = absurd (omega (arith, p, a))
  keeps_taken p l (Does Cancels) a = refl
  keeps_taken p l (Does (Enquires nak)) a = refl
  keeps_taken p l (Does (Ends x y)) a = refl
  keeps_taken p l (Stamps x) a = refl
  keeps_taken p l (Carries to broadcast k) a = refl

  pub keep_taken : phase start ≡ TAKEN → {l : List Change} {net : List ℕ} → Path start l net → keep_nids l ≡ true
  keep_taken p begin = refl
  keep_taken p (more {l = l} q c a r) = rw (keeps_taken p l c a) (keep_taken p q)
  keep_taken p (turn q x t a) = keep_taken p q
