-- A row whose RAM is of bytes: what is read out of it is of bytes, and what leaves it so.
-- Assumes nothing.
use mathlib.Core.Path.{◌≡◌}
use mathlib.Core.Bool.{true, false}
use mathlib.Core.List.{List, ◌++◌}
use mathlib.Core.Logic.{⊎_elim, inl, inr}
use Prim.Native.Nat.{ℕ, zero, suc, ◌+◌, ◌-◌, ◌≤◌, ◌<◌}
use native.Mathlib.Omega.{arith}
use borrow.Author.Tests.{eqb-true, eqb-false, ltb-true, ltb-false}
use lib.Dec.{eqb, ltb}
use lib.ListN.{length, get_or, take, drop, replicate, set, length-take, length-set, get_or-eq_default, get_or-append}
use lib.Seq.{get_or-take, get_or-drop, get_or-append-add, get_or-set_same, get_or-set_other}
use Rattle.registers.specs.declared.regs.Regs.{Regs}
use Rattle.card.specs.declared.packets.Packet.{Packet}
use Rattle.card.specs.Row.{regs_of, put_regs, register_bytes}
use Rattle.card.specs.Packets.{data_at, head_bytes, page_bytes, page_at, page_shape, packet_at, stored, stamped}
use Rattle.std.proofs.lemmas.Bool.{cases_Bool}
use Rattle.card.proofs.Rows.Bytes.{put_ram}
use Rattle.card.proofs.Pages.Stored.{stored_outside, stored_gap, stored_data, stored_head}
use Rattle.card.proofs.Pages.Places.{page_behind}
use Rattle.card.proofs.Pages.Packets.{Ram}

-- ---- a list of bytes
abbrev pub Small : List ℕ → Type 0
Small l = (i : ℕ) → get_or l i 0 < 256

small_take : (n : ℕ) (l : List ℕ) → Small l → Small (take n l)
small_take n l b i =
    ⊎_elim (λ (t : ltb i n ≡ true). rw (get_or-take n l i 0 (ltb-true i n t)) (b i))
    (λ (t : ltb i n ≡ false). rw (get_or-eq_default (take n l) 0 {n = i} (simp length-take (omega (arith, ltb-false i n t)))) (omega arith))
    (cases_Bool (ltb i n))

small_append : (l m : List ℕ) → Small l → Small m → Small (l ++ m)
small_append l m a b i =
    ⊎_elim (λ (t : ltb i (length l) ≡ true). rw (get_or-append l m 0 i (ltb-true i (length l) t)) (a i))
    (λ (t : ltb i (length l) ≡ false). let e : i ≡ length l + (i - length l) = omega (arith, ltb-false i (length l) t) in
    rw (e, get_or-append-add l m (i - length l) 0) (b (i - length l)))
    (cases_Bool (ltb i (length l)))

small_zeros : (n : ℕ) → Small (replicate n 0)
small_zeros zero i = omega arith
small_zeros (suc n) zero = omega arith
small_zeros (suc n) (suc i) = small_zeros n i

-- the ID of a row of bytes
pub id_byte : (r : List ℕ) → Small r → (regs_of r).id < 256
unfolding regs_of
id_byte r b = b 2

pub diagnostic_byte : (r : List ℕ) → Small r → (regs_of r).diagnostic < 256
unfolding regs_of
diagnostic_byte r b = b 4

module _ (r : List ℕ) (b : Ram r) where
  pub packet_bytes : (p : ℕ) → Small (packet_at r p).bytes
  unfolding packet_at
  packet_bytes p =
      small_append (take (page_bytes (page_shape r p)) (drop (page_at r p) r)) (replicate (512 - page_bytes (page_shape r p)) 0)
      (small_take (page_bytes (page_shape r p)) (drop (page_at r p) r) (λ i. rw get_or-drop (b (page_at r p + i) (omega (arith, page_behind r p)))))
      (small_zeros (512 - page_bytes (page_shape r p)))

  -- ---- what leaves the RAM so: other registers, a byte anywhere, the ID in a page, a packet of bytes in a page
  pub ram_put : (g : Regs) → Ram (put_regs r g)
  ram_put g i h = rw (put_ram r g i h) (b i h)

  pub ram_set : (a v : ℕ) → v < 256 → Ram (set r a v)
  ram_set a v d i h =
      ⊎_elim (λ (t : eqb i a ≡ true). rw (eqb-true i a t) there)
      (λ (t : eqb i a ≡ false). rw (get_or-set_other r a i v 0 (eqb-false i a t)) (b i h))
      (cases_Bool (eqb i a))
    where
      there : get_or (set r a v) a 0 < 256
      there =
          ⊎_elim (λ t. rw (get_or-set_same r a v 0 (ltb-true a (length r) t)) d)
          (λ t. rw (get_or-eq_default (set r a v) 0 {n = a} (omega (arith, length-set r a v, ltb-false a (length r) t))) (omega arith))
          (cases_Bool (ltb a (length r)))

  pub ram_stamped : (a : ℕ) → (regs_of r).id < 256 → Ram (stamped r a)
  unfolding stamped
  ram_stamped a d = ram_set a (regs_of r).id d

  module _ (a : ℕ) (low : register_bytes ≤ a) (k : Packet) (f : a + page_bytes k.shape ≤ length r) (n : 512 ≤ length k.bytes) (c : data_at k.shape < 256) (q : Small k.bytes) where
    -- at an offset of the page
    within : (j : ℕ) → j < page_bytes k.shape → get_or (stored r a k) (a + j) 0 < 256
    within j h =
        ⊎_elim (λ t. rw (stored_head r a k f n c j (ltb-true j (head_bytes k.shape) t)) (q j))
        (λ t. ⊎_elim
        (λ u. rw (stored_gap r a k f n c (a + j) (omega (arith, ltb-false j (head_bytes k.shape) t)) (omega (arith, ltb-true j (data_at k.shape) u))) (b (a + j) (omega arith)))
        (λ u. rw (stored_data r a k f n c j (ltb-false j (data_at k.shape) u) h) (q j)) (cases_Bool (ltb j (data_at k.shape))))
        (cases_Bool (ltb j (head_bytes k.shape)))

    pub ram_stored : Ram (stored r a k)
    ram_stored i h =
        ⊎_elim (λ t. rw (stored_outside r a k f n c i (inl (ltb-true i a t))) (b i h))
        (λ t. ⊎_elim
        (λ u. let e : a + (i - a) ≡ i = omega (arith, ltb-false i a t) in
        rw e at (within (i - a) (omega (arith, ltb-false i a t, ltb-true i (a + page_bytes k.shape) u))))
        (λ u. rw (stored_outside r a k f n c i (inr (ltb-false i (a + page_bytes k.shape) u))) (b i h))
        (cases_Bool (ltb i (a + page_bytes k.shape))))
        (cases_Bool (ltb i a))
