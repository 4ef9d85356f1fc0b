-- A packet that one card's page sent and another card's page stored is read back there.
-- Assumes nothing.
use mathlib.Core.Path.{◌≡◌, refl, sym, ◌∙◌}
use mathlib.Core.Bool.{Bool, true, false, ◌&&◌, true≢false}
use mathlib.Core.List.{List}
use Prim.Native.Nat.{ℕ, ◌+◌, ◌≤◌, ◌<◌}
use native.Mathlib.Nat.{add-zero}
use native.Mathlib.Omega.{arith}
use borrow.Author.Tests.{le-ltb, leb-true}
use lib.Dec.{eqb, leb}
use lib.ListN.{length, get_or, take, drop}
use lib.Seq.{ext_get_or, get_or-take, get_or-drop}
use Rattle.card.specs.declared.packets.Shape.{Shape}
use Rattle.card.specs.declared.packets.Shape.TheVariants.{Malformed, Short, Long}
use Rattle.card.specs.declared.packets.Packet.{Packet}
use Rattle.bits.specs.Words.{pick}
use Rattle.told.specs.Numbers.{DONE, VALUE}
use Rattle.bits.proofs.Words.Bools.{and_right, pick_of}
use Rattle.told.proofs.Told.Smallest.{refuse_passed}
use Rattle.card.specs.Row.{Whole}
use Rattle.card.specs.Packets.{shape_of, data_bytes, data_at, page_bytes, page_of, page_at, malformed, page_shape, destination, data_refusals, page_data, data_of, stored}
use Rattle.card.specs.Moves.{Holds}
use Rattle.card.proofs.Words.Laid.{length_part}
use Rattle.card.proofs.Pages.Places.{page_behind, place_same}
use Rattle.card.proofs.Pages.Sizes.{data_end, head_least, page_most, page_fits}
use Rattle.card.proofs.Pages.Sent.{SentFrom, page_least}
use Rattle.card.proofs.Pages.Stored.{stored_head, reads_back, size_stored}

-- the data of a sound page stand behind the head
data-late : (a b : ℕ) (l : Bool) → malformed (shape_of a b l) ≡ false → 3 ≤ data_at (shape_of a b l)
unfolding shape_of
data-late a b l =
    pick_of (λ (s : Shape). malformed s ≡ false → 3 ≤ data_at s) (leb 3 a) (λ t _. leb-true 3 a t)
    (λ _. pick_of (λ (s : Shape). malformed s ≡ false → 3 ≤ data_at s) (eqb a 0 && l && leb 4 b)
    (λ t _. omega (arith, leb-true 4 b (and_right (eqb a 0 && l) (leb 4 b) t))) (λ _ m. absurd (true≢false m)))

-- a sound shape is what its COUNT bytes say in any page that may be long where it is
shape_moves : (a b : ℕ) (l l' : Bool) → malformed (shape_of a b l) ≡ false → ((c : ℕ) → shape_of a b l ≡ Long c → l' ≡ true) → shape_of a b l' ≡ shape_of a b l
unfolding shape_of
shape_moves a b l l' =
    split (leb 3 a) (eqb a 0) (leb 4 b) l
  where
    split : (t u v w : Bool) → malformed (pick t (Short a) (pick (u && w && v) (Long b) Malformed)) ≡ false
        → ((c : ℕ) → pick t (Short a) (pick (u && w && v) (Long b) Malformed) ≡ Long c → l' ≡ true)
        → pick t (Short a) (pick (u && l' && v) (Long b) Malformed) ≡ pick t (Short a) (pick (u && w && v) (Long b) Malformed)
    split true u v w m f = refl
    split false true true true m f = rw (f b refl)
    split false true true false m f = absurd (true≢false m)
    split false true false true m f = absurd (true≢false m)
    split false true false false m f = absurd (true≢false m)
    split false false v w m f = absurd (true≢false m)

-- stored in page q of another row, which may be long where the packet is
module _ (r : List ℕ) (p : ℕ) (k : Packet) (lr : Whole r) (lp : p < 4) (x : SentFrom r p k) (s : List ℕ) (q : ℕ) (lq : q < 4)
    (f : page_at s q + page_bytes k.shape ≤ length s) (full : 512 ≤ length k.bytes) (count : data_at k.shape < 256)
    (may : (c : ℕ) → k.shape ≡ Long c → (page_of s q).long ≡ true) where
  least : 256 ≤ page_bytes k.shape
  least = page_least k.shape x.sound

  -- what the COUNT bytes of its own page say
  abbrev said : Bool → Shape
  said long = shape_of (get_or r (page_at r p + 2) 0) (get_or r (page_at r p + 3) 0) long

  form : k.shape ≡ said (page_of r p).long
  unfolding page_shape
  form = x.form

  sound : malformed (said (page_of r p).long) ≡ false
  sound = rw form at x.sound

  says : k.shape ≡ shape_of (get_or k.bytes 2 0) (get_or k.bytes 3 0) (page_of s q).long
  says =
      rw (x.rest 2 (omega arith) (omega (arith, least)), x.rest 3 (omega arith) (omega (arith, least)))
      (form ∙ sym (shape_moves _ _ (page_of r p).long (page_of s q).long sound (λ c z. may c (form ∙ z))))

  late : 3 ≤ data_at k.shape
  late = rw form (data-late _ _ (page_of r p).long sound)

  same_data : data_of k ≡ page_data r p
  unfolding page_data
  same_data =
      let a = data_at k.shape in
      let n = data_bytes k.shape in
      let ends : a + n ≡ page_bytes k.shape = data_end k.shape count in
      let lk : length (data_of k) ≡ n = length_part a n k.bytes (omega (arith, ends, page_most k.shape)) in
      let fits : page_at r p + page_bytes k.shape ≤ length r = page_fits r p lr lp k.shape x.form in
      let ld : length (take n (drop (page_at r p + a) r)) ≡ n = length_part (page_at r p + a) n r (omega (arith, ends)) in
      rw (le-ltb 3 p (omega arith), ← x.form)
      (ext_get_or 0 (data_of k) (take n (drop (page_at r p + a) r)) (lk ∙ sym ld)
      (λ i b. let c : i < n = omega (arith, lk) in
      get_or-take n (drop a k.bytes) i 0 c ∙ get_or-drop a k.bytes i 0 ∙ x.rest (a + i) (omega (arith, late)) (omega (arith, ends))
      ∙ (let z : page_at r p + (a + i) ≡ page_at r p + a + i = omega arith in rw z)
      ∙ sym (get_or-take n (drop (page_at r p + a) r) i 0 c ∙ get_or-drop (page_at r p + a) r i 0)))

  pub holds_stored : Holds r p (stored s (page_at s q) k) q
  unfolding destination data_refusals
  holds_stored =
      let b = reads_back s (page_at s q) k f full count q refl x.sound says lq in
      let at : (i : ℕ) → i < 3 → get_or (stored s (page_at s q) k) (page_at s q + i) 0 ≡ get_or k.bytes i 0
      = λ i c. stored_head s (page_at s q) k f full count i (omega (arith, head_least k.shape x.sound)) in
      let place = place_same s (stored s (page_at s q) k) (size_stored s (page_at s q) k f full count (page_behind s q)) q in
      record {
        readable = refuse_passed DONE VALUE _ (rw (le-ltb 3 q (omega arith), b.0) x.sound);
        bytes = b.1 ∙ same_data;
        sid = rw place (rw (add-zero (page_at s q)) at (at 0 (omega arith))) ∙ x.own;
        did = rw place (at 1 (omega arith)) ∙ x.rest 1 (omega arith) (omega (arith, least));
      }
