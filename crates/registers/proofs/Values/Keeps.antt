-- Which register bytes each event of the line may change: all others are kept.
-- Assumes nothing.
use mathlib.Core.Path.{◌≡◌, refl, sym, ◌∙◌, ap}
use mathlib.Core.Bool.{Bool, true, false, ◌&&◌, true≢false}
use mathlib.Core.List.{List, [], ◌∷◌}
use Prim.Native.Nat.{ℕ, zero, suc, ◌+◌}
use native.Mathlib.Omega.{arith}
use lib.ListN.{get_or, set}
use lib.Seq.{get_or-set_other}
use Rattle.bits.specs.declared.way.Way.{Way}
use Rattle.bits.specs.declared.way.Way.TheVariants.{Transmit, Receive}
use Rattle.queues.specs.declared.queues.Side.{Side}
use Rattle.registers.specs.declared.regs.Regs.{Regs}
use Rattle.bits.specs.Words.{among, has}
use Rattle.bits.specs.Flags.{CANCEL}
use Rattle.queues.specs.Queues as queues
use Rattle.registers.specs.Fields.{with_diagnostic, with_fetched, with_naks}
use Rattle.registers.specs.Naks.{nak_counted, naks_dropped}
use Rattle.registers.specs.Sides.{side_of, with_side}
use Rattle.registers.specs.Layout.{at_id, at_status, at_diagnostic, at_nid, at_transmit, at_receive, at_second_transmit, at_second_receive, at_sent, at_received, at_fetched, at_nak_low, at_nak_high, bytes_of, later_of, transmit_bytes, receive_bytes, nak_bytes, reset_bytes}
use Rattle.registers.specs.Events.{burst, recovered, heard, answered, risen_nid, received, transmit_cancelled, cancelled, sent, enquired}
use Rattle.bits.proofs.Words.Bools.{and_left, and_right, pick_of}
use Rattle.queues.proofs.Leaves.{cancelled_done}

-- the registers h are those of g but for the bytes l
pub record Keeps (l : List ℕ) (g h : Regs) : Type 0 where
  pub kept : (k : ℕ) → among l (at_id + k) ≡ false → get_or (bytes_of h) k 0 ≡ get_or (bytes_of g) k 0
  pub later : (k : ℕ) → among l (at_fetched + k) ≡ false → get_or (later_of h) k 0 ≡ get_or (later_of g) k 0

pub keeps_same : (l : List ℕ) (g : Regs) → Keeps l g g
keeps_same l g = record { kept = λ k e. refl; later = λ k e. refl }

pub keeps_then : {l : List ℕ} (g h i : Regs) → Keeps l g h → Keeps l h i → Keeps l g i
keeps_then g h i a b = record { kept = λ k e. b.kept k e ∙ a.kept k e; later = λ k e. b.later k e ∙ a.later k e }

-- the bytes m are all of the list l
abbrev pub within : List ℕ → List ℕ → Bool
within [] l = true
within (a ∷ m) l = within m l && among l a

-- ---- some bytes are written, each with its value
abbrev places : List (ℕ × ℕ) → List ℕ
places [] = []
places (p ∷ n) = p.0 ∷ places n

abbrev puts : List (ℕ × ℕ) → List ℕ → List ℕ
puts [] b = b
puts (p ∷ n) b = puts n (set b p.0 p.1)

puts_other : (l : List ℕ) (n : List (ℕ × ℕ)) (b : List ℕ) (i : ℕ) → within (places n) l ≡ true → among l i ≡ false → get_or (puts n b) i 0 ≡ get_or b i 0
puts_other l [] b i u f = refl
puts_other l (p ∷ n) b i u f =
    puts_other l n (set b p.0 p.1) i (and_left (within (places n) l) (among l p.0) u) f
    ∙ get_or-set_other b p.0 i p.1 0 (λ x. true≢false (sym (and_right (within (places n) l) (among l p.0) u) ∙ ap (among l) (sym x) ∙ f))

-- a row up to its byte 19
abbrev pub row : Regs → List ℕ
row g = 0 ∷ 0 ∷ bytes_of g

pub row_at : (k : ℕ) → at_id + k ≡ suc (suc k)
row_at k = omega arith

pub keeps_puts : (l : List ℕ) (g h : Regs) (n : List (ℕ × ℕ)) → within (places n) l ≡ true → row h ≡ puts n (row g) → later_of h ≡ later_of g → Keeps l g h
keeps_puts l g h n u e j = record {
  kept = λ k f. ap (λ (b : List ℕ). get_or b (suc (suc k)) 0) e ∙ puts_other l n (row g) (suc (suc k)) u (rw (row_at k) at f);
  later = λ k f. ap (λ (b : List ℕ). get_or b k 0) j;
}

-- the fetched byte
pub keeps_fetched : (l : List ℕ) → among l at_fetched ≡ true → (g : Regs) (m : ℕ) → Keeps l g (with_fetched m g)
keeps_fetched l t g m = record { kept = λ k e. refl; later = other }
  where
    other : (k : ℕ) → among l (at_fetched + k) ≡ false → get_or (later_of (with_fetched m g)) k 0 ≡ get_or (later_of g) k 0
    other zero e = absurd (true≢false (sym t ∙ e))
    other (suc k) e = refl

-- the count of NAKs, and EXCNAK with it
pub keeps_naks : (l : List ℕ) → within nak_bytes l ≡ true → (g : Regs) (diagnostic low high : ℕ) → Keeps l g (with_diagnostic diagnostic (with_naks low high g))
keeps_naks l u g diagnostic low high = record {
  kept = (keeps_puts l g (with_diagnostic diagnostic g) ((at_diagnostic, diagnostic) ∷ []) (and_right (within (at_nak_low ∷ at_nak_high ∷ []) l) (among l at_diagnostic) u) refl refl).kept;
  later = other;
}
  where
    counts : within (at_nak_low ∷ at_nak_high ∷ []) l ≡ true
    counts = and_left (within (at_nak_low ∷ at_nak_high ∷ []) l) (among l at_diagnostic) u

    other : (k : ℕ) → among l (at_fetched + k) ≡ false → get_or (later_of (with_naks low high g)) k 0 ≡ get_or (later_of g) k 0
    other zero e = refl
    other (suc zero) e = absurd (true≢false (sym (and_right (within (at_nak_high ∷ []) l) (among l at_nak_low) counts) ∙ e))
    other (suc (suc zero)) e = absurd (true≢false (sym (and_left (within (at_nak_high ∷ []) l) (among l at_nak_low) counts) ∙ e))
    other (suc (suc (suc k))) e = refl

-- every byte of a reset
pub keeps_all : (g h : Regs) → Keeps (reset_bytes true) g h
keeps_all g h =
    let i = with_fetched h.later.fetched g in
    let j = with_diagnostic h.diagnostic (with_naks h.later.naklow h.later.nakhigh i) in
    keeps_then g i h (keeps_fetched (reset_bytes true) refl g h.later.fetched)
    (keeps_then i j h (keeps_naks (reset_bytes true) refl i h.diagnostic h.later.naklow h.later.nakhigh)
    (keeps_puts (reset_bytes true) j h
    ((2, h.id) ∷ (3, h.status) ∷ (4, h.diagnostic) ∷ (5, h.mask) ∷ (6, h.configuration) ∷ (7, h.setup) ∷ (8, h.tentative) ∷ (9, h.nid) ∷ (10, h.high) ∷ (11, h.low)
    ∷ (12, h.mode) ∷ (13, h.transmit.oldest) ∷ (14, h.receive.oldest) ∷ (15, h.long) ∷ (16, h.transmit.second) ∷ (17, h.receive.second) ∷ (18, h.transmit.done)
    ∷ (19, h.receive.done) ∷ []) refl refl refl))

-- a side: the status, and the three bytes of its queue
abbrev pub side_bytes : Way → List ℕ
side_bytes Transmit = at_status ∷ transmit_bytes true
side_bytes Receive = at_status ∷ receive_bytes true

-- ---- what the line does, where the bytes that it writes are of the list
module _ (l : List ℕ) (g : Regs) where
  pub keeps_side : (w : Way) → within (side_bytes w) l ≡ true → (s : Side) → Keeps l g (with_side w s g)
  keeps_side Transmit u s = keeps_puts l g _ ((at_status, _) ∷ (at_transmit, _) ∷ (at_second_transmit, _) ∷ (at_sent, _) ∷ []) u refl refl
  keeps_side Receive u s = keeps_puts l g _ ((at_status, _) ∷ (at_receive, _) ∷ (at_second_receive, _) ∷ (at_received, _) ∷ []) u refl refl

  pub keeps_heard : among l at_diagnostic ≡ true → (token : Bool) → Keeps l g (heard g token)
  unfolding heard
  keeps_heard t token = keeps_puts l g _ ((at_diagnostic, _) ∷ []) t refl refl

  pub keeps_burst : among l at_diagnostic ≡ true → Keeps l g (burst g)
  unfolding burst
  keeps_burst t = keeps_puts l g _ ((at_diagnostic, _) ∷ []) t refl refl

  pub keeps_answered : among l at_diagnostic ≡ true → (n : ℕ) (taker : Bool) → Keeps l g (answered g n taker)
  unfolding answered
  keeps_answered t n taker = keeps_puts l g _ ((at_diagnostic, _) ∷ []) t refl refl

  pub keeps_risen : among l at_nid ≡ true → Keeps l g (risen_nid g)
  unfolding risen_nid
  keeps_risen t = keeps_puts l g _ ((at_nid, _) ∷ []) t refl refl

  pub keeps_recovered : among l at_status ≡ true → among l at_nid ≡ true → Keeps l g (recovered g)
  unfolding recovered
  keeps_recovered t u = keeps_puts l g _ ((at_status, _) ∷ (at_nid, _) ∷ []) (rw (t, u)) refl refl

  pub keeps_received : within (side_bytes Receive) l ≡ true → Keeps l g (received g)
  unfolding received
  keeps_received u = keeps_side Receive u _

  -- a transmit ends, and its NAKs are dropped
  pub keeps_sent : within nak_bytes l ≡ true → within (side_bytes Transmit) l ≡ true → (a : Bool) → Keeps l g (sent g a)
  unfolding sent
  keeps_sent n u a = let h = naks_dropped true g in keeps_then g h _ (keeps_naks l n g _ _ _) (keeps_puts l h _ ((at_status, _) ∷ (at_transmit, _) ∷ (at_second_transmit, _) ∷ (at_sent, _) ∷ []) u refl refl)

  -- the cancels leave the ends that are not cleared
  pub keeps_cancelled : within nak_bytes l ≡ true → within (at_status ∷ at_transmit ∷ at_second_transmit ∷ at_receive ∷ at_second_receive ∷ []) l ≡ true → Keeps l g (cancelled g)
  unfolding cancelled
  keeps_cancelled n u =
      let i = naks_dropped (has CANCEL g.transmit.oldest) g in
      let h = transmit_cancelled g in
      let t = queues.cancelled Transmit (side_of Transmit g) in
      let r = queues.cancelled Receive (side_of Receive h) in
      keeps_then g i _ (keeps_naks l n g _ _ _)
      (keeps_puts l i _
      ((at_status, r.status) ∷ (at_transmit, t.queue.oldest) ∷ (at_second_transmit, t.queue.second) ∷ (at_receive, r.queue.oldest) ∷ (at_second_receive, r.queue.second) ∷ [])
      u (rw (cancelled_done Transmit (side_of Transmit g), cancelled_done Receive (side_of Receive h))) refl)

module _ (l : List ℕ) (g : Regs) (n : within nak_bytes l ≡ true) (u : within (side_bytes Transmit) l ≡ true) where
  answer : (h : Regs) → Keeps l h (heard h false)
  answer h = keeps_heard l h (and_right (within (at_nak_low ∷ at_nak_high ∷ []) l) (among l at_diagnostic) n) false

  pub keeps_enquired : (nak : Bool) → Keeps l g (enquired g nak)
  unfolding enquired
  keeps_enquired nak = pick_of (Keeps l g) nak (λ _. keeps_then g (nak_counted g) _ (keeps_naks l n g _ _ _) (answer (nak_counted g))) (λ _. keeps_sent l g n u false)

  pub keeps_heard_sent : (a : Bool) → Keeps l g (sent (heard g false) a)
  keeps_heard_sent a = keeps_then g (heard g false) _ (answer g) (keeps_sent l (heard g false) n u a)
