-- A row that a message or a recovery reaches, and a row that stores a packet.
-- Assumes nothing.
use mathlib.Core.Path.{◌≡◌, refl, sym, ◌∙◌}
use mathlib.Core.Bool.{true}
use mathlib.Core.List.{List}
use Prim.Native.Nat.{ℕ, ◌+◌, ◌≤◌, ◌<◌}
use native.Mathlib.Omega.{arith}
use lib.Dec.{eqb}
use lib.ListN.{length, get_or}
use Rattle.registers.specs.declared.regs.Regs.{Regs}
use Rattle.card.specs.declared.packets.Shape.{Shape}
use Rattle.card.specs.declared.packets.Shape.TheVariants.{Malformed, Short, Long}
use Rattle.card.specs.declared.packets.Packet.{Packet}
use Rattle.registers.specs.Events.{received, receiving, receive_page}
use Rattle.card.specs.Row.{register_bytes, regs_of, put_regs, Whole}
use Rattle.card.specs.Packets.{data_at, page_bytes, page_at, stored, storable, page_of}
use Rattle.card.specs.Moves.{Holds}
use Rattle.registers.proofs.Values.Fits.{Fit}
use Rattle.registers.proofs.Values.Ends.{received_long, receive_page_small}
use Rattle.registers.proofs.Values.Listens.{Wakes, wakes_same, wakes_then, receive_page_same, received_same}
use Rattle.card.proofs.Rows.Bytes.{size_put, put_ram, regs_put}
use Rattle.card.proofs.Rows.WellFormed.{regs_stored}
use Rattle.card.proofs.Pages.Stored.{length_stored}
use Rattle.card.proofs.Pages.Waiting.{receive_room}
use Rattle.card.proofs.Pages.Same.{holds_same}
use Rattle.card.proofs.Pages.Sent.{SentFrom}
use Rattle.card.proofs.Pages.ReadBack.{holds_stored}
use Rattle.card.proofs.Pages.Places.{page_behind, receive_long}
use Rattle.card.proofs.Rows.Sizes.{SameSize, size_same, size_then, whole_registers}

-- what a card can store
module _ (g h : Regs) (b : Wakes g h) where
  pub storable_same : (s : Shape) → storable h s ≡ storable g s
  unfolding storable
  storable_same Malformed = refl
  storable_same (Short c) = refl
  storable_same (Long c) = rw b.long

storable_long : (g : Regs) (c : ℕ) → storable g (Long c) ≡ true → eqb g.long 1 ≡ true
unfolding storable
storable_long g c e = e

-- ---- a row that a message or a recovery reached: as long, awake as it was, and the same behind the registers
pub record Bystander (r s : List ℕ) : Type 0 where
  pub size : SameSize r s
  pub registers : Wakes (regs_of r) (regs_of s)
  pub behind : (i : ℕ) → register_bytes ≤ i → get_or s i 0 ≡ get_or r i 0

pub bystander_same : (r : List ℕ) → Bystander r r
bystander_same r = record { size = size_same r; registers = wakes_same (regs_of r); behind = λ i h. refl }

pub bystander_then : (r s t : List ℕ) → Bystander r s → Bystander s t → Bystander r t
bystander_then r s t a b = record {
  size = size_then a.size b.size;
  registers = wakes_then (regs_of r) (regs_of s) (regs_of t) a.registers b.registers;
  behind = λ i h. b.behind i h ∙ a.behind i h;
}

pub bystander_put : (r : List ℕ) (g : Regs) → register_bytes ≤ length r → Wakes (regs_of r) g → Bystander r (put_regs r g)
bystander_put r g h b = record { size = size_put r g; registers = rw (regs_put r g h) b; behind = put_ram r g }

-- ---- a row that stored what another sends from page p: RI was 0; its receive has ended, "RI = 1, byte 14 zero" where none waited behind it, and the receive page
-- holds the packet
module _ (sender : List ℕ) (p : ℕ) where
  pub record Storing (r s : List ℕ) : Type 0 where
    pub waited : receiving (regs_of r) ≡ true
    pub filled : receiving (regs_of s) ≡ receiving (received (regs_of r))
    pub ended : (regs_of s).receive ≡ (received (regs_of r)).receive
    pub holds : Holds sender p s (receive_page (regs_of r))

  -- a bystander, before and after
  module _ (r s t : List ℕ) where
    pub stores_after : Bystander r s → receiving (regs_of s) ≡ receiving (regs_of r) → Storing s t → Storing r t
    stores_after a e b =
        let i = received_same (regs_of r) (regs_of s) a.registers e in
        record {
          waited = sym e ∙ b.waited;
          filled = b.filled ∙ i.1;
          ended = b.ended ∙ i.0;
          holds = rw (receive_page_same (regs_of r) (regs_of s) a.registers) at b.holds;
        }

    pub stores_then : Storing r s → Bystander s t → receiving (regs_of t) ≡ receiving (regs_of s) → Storing r t
    stores_then a b e = record {
      waited = a.waited;
      filled = e ∙ a.filled;
      ended = b.registers.receive ∙ a.ended;
      holds = holds_same sender p s t (receive_page (regs_of r)) b.size b.registers.long b.behind a.holds;
    }

-- a packet that was sent so is stored
module _ (sender : List ℕ) (p : ℕ) (ls : Whole sender) (lp : p < 4) (k : Packet) (x : SentFrom sender p k) (full : 512 ≤ length k.bytes) (count : data_at k.shape < 256)
    (r : List ℕ) (l : Whole r) (f : Fit (regs_of r)) (w : receiving (regs_of r) ≡ true) (can : storable (regs_of r) k.shape ≡ true) where
  abbrev q : ℕ
  q = receive_page (regs_of r)

  pub room : page_at r q + page_bytes k.shape ≤ length r
  room = receive_room r l f w k.shape can

  abbrev with_packet : List ℕ
  with_packet = stored r (page_at r q) k

  may : (c : ℕ) → k.shape ≡ Long c → (page_of r q).long ≡ true
  may c e = receive_long r f w (storable_long (regs_of r) c (rw e at can))

  pub stores_stored : Storing sender p r (put_regs with_packet (received (regs_of with_packet)))
  stores_stored =
      let g = received (regs_of with_packet) in
      let e = regs_put with_packet g (omega (arith, whole_registers r l, length_stored r (page_at r q) k room full count)) in
      let same : regs_of with_packet ≡ regs_of r = regs_stored r l (page_at r q) (page_behind r q) k room full count in
      let h = holds_stored sender p k ls lp x r q (receive_page_small (regs_of r)) room full count may in
      record {
        waited = w;
        filled = rw (e, same);
        ended = rw (e, same);
        holds = holds_same sender p with_packet _ q (size_put with_packet g) (rw e (received_long (regs_of with_packet))) (put_ram with_packet g) h;
      }
