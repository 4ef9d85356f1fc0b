-- Which bytes of a row each change may move: other registers, the ID in a page, a packet in a page, and the register accesses.
-- Assumes nothing.
use mathlib.Core.Path.{◌≡◌, refl, ◌∙◌}
use mathlib.Core.Bool.{Bool, true, false, ◌&&◌, false≢true}
use mathlib.Core.Logic.{⊎_elim, inl, inr}
use mathlib.Core.List.{List}
use Prim.Native.Nat.{ℕ, suc, ◌+◌, ◌-◌, ◌≤◌, ◌<◌}
use native.Mathlib.Omega.{arith}
use borrow.Author.Tests.{eqb-false, ltb-true, ltb-false, lt-ltb, le-leb, leb-true, leb-false}
use lib.Dec.{eqb, leb, ltb}
use lib.ListN.{length, get_or, set, length-set}
use lib.Seq.{get_or-set_other}
use Rattle.registers.specs.declared.regs.Regs.{Regs}
use Rattle.card.specs.declared.packets.Packet.{Packet}
use Rattle.bits.specs.Words.{among}
use Rattle.registers.specs.Layout.{at_id, at_received, at_fetched, at_nak_high, reset_bytes, read_changes, write_changes}
use Rattle.registers.specs.Sides.{chaining}
use Rattle.registers.specs.Registers.{pointer, hardware_reset}
use Rattle.std.proofs.lemmas.Bool.{cases_Bool}
use Rattle.std.proofs.Math.Bool.{and-true, and-false}
use Rattle.bits.proofs.Words.Bools.{and_left, and_right, or_left, or_right, pick_of}
use Rattle.registers.proofs.Values.Keeps.{Keeps}
use Rattle.registers.proofs.Values.KeepsCalls.{keeps_read}
use Rattle.registers.proofs.Values.Unqueued.{unqueued_fit}
use Rattle.registers.proofs.Values.Chained.{keeps_changes, keeps_hardware}
use Rattle.card.specs.Row.{register_bytes, regs_of, put_regs, well_formed, Whole}
use Rattle.card.specs.Access.{pointed, row_after_read, ram_written, row_after_write, row_after_reset}
use Rattle.card.specs.Packets.{data_at, head_bytes, page_bytes, stored, stamped}
use Rattle.card.specs.Moves.{OnlyAt, in_packet, write_moves}
use Rattle.card.proofs.Rows.Sizes.{whole_registers}
use Rattle.card.proofs.Rows.Bytes.{regs_same, length_put, put_rest, put_at, put_later, regs_at_lem, later_at, well_fit}
use Rattle.card.proofs.Pages.Stored.{length_stored, stored_outside, stored_gap}
use Rattle.card.proofs.Rows.Accesses.{size_ram}

pub only_stays : (moves : ℕ → Bool) (r : List ℕ) → OnlyAt moves r r
only_stays moves r = record { size = refl; same = λ i e. refl }

pub only_then : {moves : ℕ → Bool} (r s t : List ℕ) → OnlyAt moves r s → OnlyAt moves s t → OnlyAt moves r t
only_then r s t a b = record { size = b.size ∙ a.size; same = λ i e. b.same i e ∙ a.same i e }

pub only_wider : {moves more : ℕ → Bool} (r s : List ℕ) → ((i : ℕ) → more i ≡ false → moves i ≡ false) → OnlyAt moves r s → OnlyAt more r s
only_wider r s w a = record { size = a.size; same = λ i e. a.same i (w i e) }

-- ---- other registers
pub only_put : (l : List ℕ) (r : List ℕ) (g : Regs) → register_bytes ≤ length r → Keeps l (regs_of r) g → OnlyAt (among l) r (put_regs r g)
only_put l r g h q = record {
  size = length_put r g;
  same = λ i e. ⊎_elim (λ (t : (leb at_id i && leb i at_received) ≡ true). inside at_id at_received 18 i t refl
      (λ k b k-is. put_at r g h k b ∙ q.kept k (rw k-is at e) ∙ regs_at_lem r k b))
      (λ (t : (leb at_id i && leb i at_received) ≡ false). ⊎_elim (λ (u : (leb at_fetched i && leb i at_nak_high) ≡ true). inside at_fetched at_nak_high 3 i u refl
      (λ k b k-is. put_later r g h k b ∙ q.later k (rw k-is at e) ∙ later_at r k b))
      (λ (u : (leb at_fetched i && leb i at_nak_high) ≡ false). put_rest r g i (rw (t, u))) (cases_Bool (leb at_fetched i && leb i at_nak_high)))
      (cases_Bool (leb at_id i && leb i at_received));
}
  where
    -- a byte from a to b, by how far it is from a
    inside : (a b n i : ℕ) → (leb a i && leb i b) ≡ true → a + n ≡ suc b
        → ((k : ℕ) → k < n → i ≡ a + k → get_or (put_regs r g) (a + k) 0 ≡ get_or r (a + k) 0) → get_or (put_regs r g) i 0 ≡ get_or r i 0
    inside a b n i t m f =
        let low = leb-true a i (and_left (leb a i) (leb i b) t) in
        let high = leb-true i b (and_right (leb a i) (leb i b) t) in
        let e : i ≡ a + (i - a) = omega (arith, low) in
        rw e (f (i - a) (omega (arith, low, high, m)) e)

-- ---- the RAM
only_set : (r : List ℕ) (a v : ℕ) → OnlyAt (λ i. eqb i a) r (set r a v)
only_set r a v = record { size = length-set r a v; same = λ i e. get_or-set_other r a i v 0 (eqb-false i a e) }

pub only_stamped : (r : List ℕ) (a : ℕ) → OnlyAt (λ i. eqb i a) r (stamped r a)
unfolding stamped
only_stamped r a = only_set r a (regs_of r).id

module _ (r : List ℕ) (a : ℕ) (k : Packet) (f : a + page_bytes k.shape ≤ length r) (l : 512 ≤ length k.bytes) (b : data_at k.shape < 256) where
  both_false : (a b : Bool) → (a && b) ≡ false → a ≡ true → b ≡ false
  both_false true b e t = e
  both_false false b e t = absurd (false≢true t)

  and_swap : (a b : Bool) → (a && b) ≡ false → (b && a) ≡ false
  and_swap true b e = and-true b ∙ e
  and_swap false b e = and-false b

  -- in the page, and not in head or data: the gap
  kept_gap : (i : ℕ) → in_packet a k.shape i ≡ false → a ≤ i → i < a + page_bytes k.shape → get_or (stored r a k) i 0 ≡ get_or r i 0
  kept_gap i e low high =
      let from = leb a i in
      let head = ltb i (a + head_bytes k.shape) in
      let past = leb (a + data_at k.shape) i in
      let to = ltb i (a + page_bytes k.shape) in
      let u = or_left (from && head) (past && to) e in
      let v = or_right (from && head) (past && to) e in
      stored_gap r a k f l b i (ltb-false i _ (both_false from head u (le-leb a i low)))
      (leb-false _ i (both_false to past (and_swap past to v) (lt-ltb i _ high)))

  pub only_stored : OnlyAt (in_packet a k.shape) r (stored r a k)
  only_stored = record {
    size = length_stored r a k f l b;
    same = λ i e. ⊎_elim (λ (t : ltb i a ≡ true). stored_outside r a k f l b i (inl (ltb-true i _ t)))
        (λ (t : ltb i a ≡ false). ⊎_elim
        (λ (u : ltb i (a + page_bytes k.shape) ≡ true). kept_gap i e (ltb-false i _ t) (ltb-true i _ u))
        (λ (u : ltb i (a + page_bytes k.shape) ≡ false). stored_outside r a k f l b i (inr (ltb-false i _ u)))
        (cases_Bool (ltb i (a + page_bytes k.shape))))
        (cases_Bool (ltb i a));
  }

-- ---- the register accesses
module _ (r : List ℕ) (l : Whole r) where
  pub only_read : (k : ℕ) → OnlyAt (among (read_changes (regs_of r) k)) r (row_after_read r k)
  unfolding row_after_read
  only_read k = only_put (read_changes (regs_of r) k) r _ (whole_registers r l) (keeps_read (regs_of r) k _)

  -- a write of register 4 writes the RAM byte too
  pub only_write : well_formed r ≡ true → (k v : ℕ) → OnlyAt (write_moves r k) r (row_after_write r k v)
  unfolding row_after_write
  only_write w k v =
      let m = ram_written r k (pointed r) v in
      let e : regs_of m ≡ regs_of r = pick_of (λ (x : List ℕ). regs_of x ≡ regs_of r) (eqb k 4) (λ _. regs_same r _ (λ j b. get_or-set_other r (pointed r) j v 0 (λ x. omega arith))) (λ _. refl) in
      only_then r m _
      (pick_of (λ (x : List ℕ). OnlyAt (write_moves r k) r x) (eqb k 4)
      (λ t. only_wider r _ (λ i f. rw t at (or_right (among (write_changes (regs_of r) k) i) _ f)) (only_set r (pointed r) v)) (λ _. only_stays _ r))
      (only_wider m _ (λ i f. or_left _ (eqb k 4 && eqb i (pointed r)) f)
      (only_put (write_changes (regs_of r) k) m _ (omega (arith, whole_registers r l, (size_ram r k (pointer (regs_of r)) v).long)) (rw e (keeps_changes (regs_of r) (λ c. unqueued_fit (regs_of r) c (well_fit r w)) k v _))))

  pub only_reset : well_formed r ≡ true → OnlyAt (among (reset_bytes (chaining (regs_of r)))) r (row_after_reset r)
  only_reset w = only_put (reset_bytes (chaining (regs_of r))) r hardware_reset (whole_registers r l) (keeps_hardware (regs_of r) (well_fit r w))
