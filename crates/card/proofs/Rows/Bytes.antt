-- A row's bytes and its registers: what writing the registers changes, and what it leaves.
-- Assumes nothing.
use mathlib.Core.Path.{◌≡◌, refl, sym, ◌∙◌, ap}
use mathlib.Core.Bool.{true, false, ◌&&◌}
use mathlib.Core.Logic.{⊎_elim}
use mathlib.Core.List.{List, [], ◌∷◌}
use Prim.Native.Nat.{ℕ, zero, suc, ◌+◌, ◌-◌, ◌≤◌, ◌<◌}
use native.Mathlib.Nat.{not-suc-le-zero, add-zero}
use native.Mathlib.Omega.{arith}
use borrow.Author.Tests.{leb-false, lt-leb}
use lib.Dec.{leb, lit<, lit≤}
use lib.ListN.{length, get_or, set, drop, length-set, length-drop}
use lib.Seq.{sets, length-sets, get_or-set_other, get_or-set_same, get_or-take, get_or-drop, ext_get_or, length-take-le}
use Rattle.registers.specs.declared.regs.Regs.{Regs}
use Rattle.card.specs.Row.{register_bytes, regs_of, put_regs, stretch, spare, marked, well_formed}
use Rattle.registers.specs.Layout.{at_id, at_received, at_fetched, at_nak_high, bytes_of, later_of, held}
use Rattle.registers.specs.Fit.{fit}
use Rattle.std.proofs.lemmas.Bool.{cases_Bool}
use Rattle.std.proofs.Math.Bool.{and-false}
use Rattle.bits.proofs.Words.Bools.{and_left, and_right, or_left, or_right}
use Rattle.bits.proofs.Words.Table.{by_table}
use Rattle.card.proofs.Rows.Sizes.{SameSize, size_of}

-- ---- a run of stores: below it, above it, and in it
module _ (k : ℕ) where
  below : (l : List ℕ) (i : ℕ) (vs : List ℕ) → k < i → get_or (sets l i vs) k 0 ≡ get_or l k 0
  below l i [] h = refl
  below l i (a ∷ vs) h = below (set l i a) (suc i) vs (omega arith) ∙ get_or-set_other l i k a 0 (λ e. omega arith)

  above : (l : List ℕ) (i : ℕ) (vs : List ℕ) → i + length vs ≤ k → get_or (sets l i vs) k 0 ≡ get_or l k 0
  above l i [] h = refl
  above l i (a ∷ vs) h = above (set l i a) (suc i) vs (omega arith) ∙ get_or-set_other l i k a 0 (λ e. omega arith)

within : (l : List ℕ) (i : ℕ) (vs : List ℕ) (k : ℕ) → i + length vs ≤ length l → k < length vs → get_or (sets l i vs) (i + k) 0 ≡ get_or vs k 0
within l i [] k h hk = absurd (not-suc-le-zero hk)
within l i (a ∷ vs) zero h hk =
    ap (λ (n : ℕ). get_or (sets (set l i a) (suc i) vs) n 0) (add-zero i) ∙ below i (set l i a) (suc i) vs (omega arith)
    ∙ get_or-set_same l i a 0 (omega arith)
within l i (a ∷ vs) (suc k) h hk =
    ap (λ (n : ℕ). get_or (sets (set l i a) (suc i) vs) n 0) (omega arith)
    ∙ within (set l i a) (suc i) vs k (simp length-set (omega arith)) (omega arith)

-- ---- the registers of two rows that agree
pub regs_same : (r s : List ℕ) → ((i : ℕ) → i < register_bytes → get_or s i 0 ≡ get_or r i 0) → regs_of s ≡ regs_of r
unfolding regs_of
regs_same r s e = rw (e 2 (lit< tt), e 3 (lit< tt), e 4 (lit< tt), e 5 (lit< tt), e 6 (lit< tt), e 7 (lit< tt), e 8 (lit< tt), e 9 (lit< tt), e 10 (lit< tt), e 11 (lit< tt), e 12 (lit< tt), e 13 (lit< tt), e 14 (lit< tt), e 15 (lit< tt), e 16 (lit< tt), e 17 (lit< tt), e 18 (lit< tt), e 19 (lit< tt), e 32 (lit< tt), e 33 (lit< tt), e 34 (lit< tt))

-- ---- the laws of `put_regs`
module _ (r : List ℕ) (g : Regs) where
  abbrev first : List ℕ
  first = sets r at_id (bytes_of g)

  pub length_put : length (put_regs r g) ≡ length r
  unfolding put_regs
  length_put = length-sets first at_fetched (later_of g) ∙ length-sets r at_id (bytes_of g)

  -- what holds no register stays
  pub put_rest : (i : ℕ) → held i ≡ false → get_or (put_regs r g) i 0 ≡ get_or r i 0
  unfolding put_regs
  put_rest i h =
      outside at_fetched at_nak_high first (later_of g) (or_right (leb at_id i && leb i at_received) (leb at_fetched i && leb i at_nak_high) h) refl
      ∙ outside at_id at_received r (bytes_of g) (or_left (leb at_id i && leb i at_received) (leb at_fetched i && leb i at_nak_high) h) refl
    where
      outside : (a b : ℕ) (l vs : List ℕ) → (leb a i && leb i b) ≡ false → a + length vs ≡ suc b → get_or (sets l a vs) i 0 ≡ get_or l i 0
      outside a b l vs e n =
          ⊎_elim (λ (t : leb a i ≡ true). above i l a vs (let u : leb i b ≡ false = rw t at e in omega (arith, n, leb-false i b u)))
          (λ (t : leb a i ≡ false). below i l a vs (leb-false a i t)) (cases_Bool (leb a i))

  pub size_put : SameSize r (put_regs r g)
  size_put = size_of r (put_regs r g) length_put (λ x b. put_rest x (rw (lt-leb at_id x (omega arith), lt-leb at_fetched x (omega arith))))

  pub put_ram : (i : ℕ) → register_bytes ≤ i → get_or (put_regs r g) i 0 ≡ get_or r i 0
  put_ram i h =
      put_rest i (rw (lt-leb i at_received (omega arith), lt-leb i at_nak_high (omega arith), and-false (leb at_id i), and-false (leb at_fetched i)))

  module _ (h : register_bytes ≤ length r) where
    pub put_at : (k : ℕ) → k < 18 → get_or (put_regs r g) (at_id + k) 0 ≡ get_or (bytes_of g) k 0
    unfolding put_regs
    put_at k b = below (at_id + k) first at_fetched (later_of g) (omega arith) ∙ within r at_id (bytes_of g) k (omega arith) b

    pub put_later : (k : ℕ) → k < 3 → get_or (put_regs r g) (at_fetched + k) 0 ≡ get_or (later_of g) k 0
    unfolding put_regs
    put_later k b = within first at_fetched (later_of g) k (omega (arith, length-sets r at_id (bytes_of g))) b

    pub regs_put : regs_of (put_regs r g) ≡ g
    unfolding regs_of
    regs_put = rw (put_at 0 (lit< tt), put_at 1 (lit< tt), put_at 2 (lit< tt), put_at 3 (lit< tt), put_at 4 (lit< tt), put_at 5 (lit< tt), put_at 6 (lit< tt), put_at 7 (lit< tt), put_at 8 (lit< tt), put_at 9 (lit< tt), put_at 10 (lit< tt), put_at 11 (lit< tt), put_at 12 (lit< tt), put_at 13 (lit< tt), put_at 14 (lit< tt), put_at 15 (lit< tt), put_at 16 (lit< tt), put_at 17 (lit< tt), put_later 0 (lit< tt), put_later 1 (lit< tt), put_later 2 (lit< tt))

-- ---- the registers stand at their bytes
pub regs_at_lem : (r : List ℕ) (k : ℕ) → k < 18 → get_or (bytes_of (regs_of r)) k 0 ≡ get_or r (at_id + k) 0
unfolding regs_of
regs_at_lem r k h = by_table 0 (λ k. get_or (bytes_of (regs_of r)) k 0) (λ k. get_or r (at_id + k) 0) 18 refl k h

pub later_at : (r : List ℕ) (k : ℕ) → k < 3 → get_or (later_of (regs_of r)) k 0 ≡ get_or r (at_fetched + k) 0
unfolding regs_of
later_at r k h = by_table 0 (λ k. get_or (later_of (regs_of r)) k 0) (λ k. get_or r (at_fetched + k) 0) 3 refl k h

-- ---- well-formedness, by parts
module _ (r : List ℕ) where
  well_mark : well_formed r ≡ true → marked r ≡ true
  unfolding well_formed
  well_mark w = and_left (marked r) (fit (regs_of r)) (and_left (marked r && fit (regs_of r)) (spare r) w)

  pub well_fit : well_formed r ≡ true → fit (regs_of r) ≡ true
  unfolding well_formed
  well_fit w = and_right (marked r) (fit (regs_of r)) (and_left (marked r && fit (regs_of r)) (spare r) w)

  well_spare : well_formed r ≡ true → spare r ≡ true
  unfolding well_formed
  well_spare w = and_right (marked r && fit (regs_of r)) (spare r) w

  well_of : marked r ≡ true → fit (regs_of r) ≡ true → spare r ≡ true → well_formed r ≡ true
  unfolding well_formed
  well_of m f z = rw (m, f, z)

module _ (r s : List ℕ) (l : length s ≡ length r) where
  mark_same : ((i : ℕ) → i < 2 → get_or s i 0 ≡ get_or r i 0) → marked s ≡ marked r
  unfolding marked
  mark_same e = rw (e 0 (lit< tt), e 1 (lit< tt))

  stretch_same : (a b : ℕ) → a ≤ b → b ≤ length r → ((i : ℕ) → a ≤ i → i < b → get_or s i 0 ≡ get_or r i 0) → stretch a b s ≡ stretch a b r
  stretch_same a b o h e =
      let m : (x : List ℕ) → length x ≡ length r → length (stretch a b x) ≡ b - a = λ x q. length-take-le (b - a) (drop a x) (simp length-drop (omega arith)) in
      ext_get_or 0 (stretch a b s) (stretch a b r) (m s l ∙ sym (m r refl))
      (λ i hi. let c : i < b - a = omega (arith, m s l) in
      get_or-take (b - a) (drop a s) i 0 c ∙ get_or-drop a s i 0 ∙ e (a + i) (omega arith) (omega arith)
      ∙ sym (get_or-take (b - a) (drop a r) i 0 c ∙ get_or-drop a r i 0))

  spare_same : register_bytes ≤ length r → ((i : ℕ) → held i ≡ false → i < register_bytes → get_or s i 0 ≡ get_or r i 0) → spare s ≡ spare r
  unfolding spare
  spare_same h e =
      rw (
        stretch_same (1 + at_received) at_fetched (lit≤ tt) (omega arith) (λ i a b. e i (between i a b) (omega arith)),
        stretch_same (1 + at_nak_high) register_bytes (lit≤ tt) h (λ i a b. e i (behind i a) b),
      )
    where
      between : (i : ℕ) → 1 + at_received ≤ i → i < at_fetched → held i ≡ false
      between i a b = rw (lt-leb i at_received a, lt-leb at_fetched i b, and-false (leb at_id i))

      behind : (i : ℕ) → 1 + at_nak_high ≤ i → held i ≡ false
      behind i a = rw (lt-leb i at_received (omega arith), lt-leb i at_nak_high a, and-false (leb at_id i), and-false (leb at_fetched i))

  -- a row that differs in its RAM alone
  pub well_same : register_bytes ≤ length r → ((i : ℕ) → i < register_bytes → get_or s i 0 ≡ get_or r i 0) → well_formed s ≡ well_formed r
  unfolding well_formed
  well_same h e = rw (mark_same (λ i b. e i (omega arith)), regs_same r s e, spare_same h (λ i _ b. e i b))

-- registers that fit keep the row well formed
pub well_put : (r : List ℕ) (g : Regs) → register_bytes ≤ length r → well_formed r ≡ true → fit g ≡ true → well_formed (put_regs r g) ≡ true
well_put r g h w f =
    well_of (put_regs r g)
    (mark_same r (put_regs r g) (length_put r g) (λ i b. put_rest r g i (before i b)) ∙ well_mark r w)
    (rw (regs_put r g h) f)
    (spare_same r (put_regs r g) (length_put r g) h (λ i n _. put_rest r g i n) ∙ well_spare r w)
  where
    before : (i : ℕ) → i < 2 → held i ≡ false
    before i b = rw (lt-leb at_id i b, lt-leb at_fetched i (omega arith))
