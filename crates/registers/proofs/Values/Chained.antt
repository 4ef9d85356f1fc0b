-- Bytes 16 to 19 are kept in a row with CCHEN 0, and so a list of changed bytes goes without them there.
-- Assumes nothing.
use mathlib.Core.Path.{◌≡◌, refl, sym, ◌∙◌, ap}
use mathlib.Core.Bool.{Bool, true, false, ◌||◌, true≢false}
use mathlib.Core.List.{List, [], ◌∷◌}
use mathlib.Core.Logic.{⊎_elim}
use Prim.Native.Nat.{ℕ, suc, ◌+◌, ◌<◌}
use native.Mathlib.Omega.{arith}
use borrow.Author.Tests.{eqb-true}
use lib.Dec.{eqb, lit<}
use lib.ListN.{get_or}
use Rattle.registers.specs.declared.regs.Regs.{Regs}
use Rattle.bits.specs.Words.{pick, among}
use Rattle.registers.specs.Sides.{chaining}
use Rattle.registers.specs.Fit.{fit}
use Rattle.registers.specs.Registers.{sub, write_fetches, fetched, hardware_reset, after_write}
use Rattle.registers.specs.Layout.{reset_bytes, at_second_transmit, at_second_receive, at_sent, at_received, at_fetched, write_bytes, write_changes}
use Rattle.std.proofs.lemmas.Bool.{cases_Bool}
use Rattle.bits.proofs.Words.Bools.{or_left, or_right, pick_both}
use Rattle.registers.proofs.Values.Keeps.{Keeps, row, row_at, keeps_all}
use Rattle.registers.proofs.Values.KeepsCalls.{keeps_write}
use Rattle.registers.proofs.Values.Unqueued.{Unqueued, unqueued_fit, unqueued_write}

-- ---- the bytes of a chaining row alone
abbrev chained : List ℕ
chained = at_second_transmit ∷ at_second_receive ∷ at_sent ∷ at_received ∷ []

-- a list without them
abbrev pub no_chain : List ℕ → List ℕ
no_chain [] = []
no_chain (a ∷ l) = pick (among chained a) (no_chain l) (a ∷ no_chain l)

unlisted : (l : List ℕ) (i : ℕ) → among chained i ≡ false → among (no_chain l) i ≡ false → among l i ≡ false
unlisted [] i n f = refl
unlisted (a ∷ l) i n f =
    ⊎_elim (λ (t : among chained a ≡ true). rw (differs t) (unlisted l i n (rw t at f)))
    (λ (t : among chained a ≡ false). let e : (eqb i a || among (no_chain l) i) ≡ false = rw t at f in
    rw (or_left (eqb i a) _ e) (unlisted l i n (or_right (eqb i a) _ e))) (cases_Bool (among chained a))
  where
    differs : among chained a ≡ true → eqb i a ≡ false
    differs t =
        ⊎_elim (λ (e : eqb i a ≡ true). absurd (true≢false (sym t ∙ ap (among chained) (sym (eqb-true i a e)) ∙ n))) (λ (e : eqb i a ≡ false). e) (cases_Bool (eqb i a))

-- what holds of the four holds of each that is among them
of_chained : (P : ℕ → Type 0) → P at_second_transmit → P at_second_receive → P at_sent → P at_received → (i : ℕ) → among chained i ≡ true → P i
of_chained P a b c d i h =
    ⊎_elim (λ (t : eqb i at_second_transmit ≡ true). rw (eqb-true i _ t) a)
    (λ (n : eqb i at_second_transmit ≡ false). ⊎_elim (λ (t : eqb i at_second_receive ≡ true). rw (eqb-true i _ t) b)
    (λ (m : eqb i at_second_receive ≡ false). ⊎_elim (λ (t : eqb i at_sent ≡ true). rw (eqb-true i _ t) c)
    (λ (k : eqb i at_sent ≡ false). ⊎_elim (λ (t : eqb i at_received ≡ true). rw (eqb-true i _ t) d)
    (λ (j : eqb i at_received ≡ false). absurd (true≢false (sym h ∙ rw (n, m, k, j)))) (cases_Bool (eqb i at_received))) (cases_Bool (eqb i at_sent))) (cases_Bool (eqb i at_second_receive)))
    (cases_Bool (eqb i at_second_transmit))

module _ (g h : Regs) (u : Unqueued g) (v : Unqueued h) where
  same : (i : ℕ) → among chained i ≡ true → get_or (row h) i 0 ≡ get_or (row g) i 0
  same =
      of_chained (λ (i : ℕ). get_or (row h) i 0 ≡ get_or (row g) i 0) (v.transmit.second ∙ sym u.transmit.second) (v.receive.second ∙ sym u.receive.second)
      (v.transmit.done ∙ sym u.transmit.done) (v.receive.done ∙ sym u.receive.done)

  pub keeps_plain : (l : List ℕ) → Keeps l g h → Keeps (no_chain l) g h
  keeps_plain l q = record {
    kept = λ k f. ⊎_elim (λ (t : among chained (suc (suc k)) ≡ true). same (suc (suc k)) t)
        (λ (t : among chained (suc (suc k)) ≡ false). q.kept k (unlisted l _ (rw (row_at k) t) f)) (cases_Bool (among chained (suc (suc k))));
    later = λ k f. q.later k (unlisted l _ (apart k) f);
  }
    where
      apart : (k : ℕ) → among chained (at_fetched + k) ≡ false
      apart k =
          ⊎_elim (λ (t : among chained (at_fetched + k) ≡ true). absurd (let b = of_chained (λ (i : ℕ). i < at_fetched) (lit< tt) (lit< tt) (lit< tt) (lit< tt) (at_fetched + k) t in omega arith))
          (λ (t : among chained (at_fetched + k) ≡ false). t) (cases_Bool (among chained (at_fetched + k)))

-- a list that goes by CCHEN
pub keeps_chained : (c : Bool) (l : Bool → List ℕ) → no_chain (l true) ≡ l false → (g h : Regs) → (c ≡ false → Unqueued g × Unqueued h) → Keeps (l true) g h → Keeps (l c) g h
keeps_chained true l e g h u q = q
keeps_chained false l e g h u q = rw (sym e) (keeps_plain g h (u refl).0 (u refl).1 (l true) q)

-- ---- a write, by CCHEN as it was
plain_writes : (g : Regs) (k : ℕ) → no_chain (write_bytes true g k) ≡ write_bytes false g k
plain_writes g k =
    let P : List ℕ → List ℕ → Type 0 = λ x y. no_chain x ≡ y in
    pick_both P (eqb k 0) refl (pick_both P (eqb k 1) refl (pick_both P (eqb k 2) refl (pick_both P (eqb k 3) refl (pick_both P (eqb k 4) refl
    (pick_both P (eqb k 6) refl (pick_both P (eqb k 7) (pick_both P (eqb (sub g) 0) refl (pick_both P (eqb (sub g) 1) refl refl)) refl))))))

pub keeps_changes : (g : Regs) → (chaining g ≡ false → Unqueued g) → (k v m : ℕ) → Keeps (write_changes g k) g (fetched (write_fetches k) m (after_write g k v))
keeps_changes g u k v m =
    keeps_chained (chaining g) (λ c. write_bytes c g k) (plain_writes g k) g _ (λ c. let w = unqueued_write g c (u c) k v in (u c, search w)) (keeps_write g k v m)

-- ---- a hardware reset
pub keeps_hardware : (g : Regs) → fit g ≡ true → Keeps (reset_bytes (chaining g)) g hardware_reset
unfolding hardware_reset
keeps_hardware g f =
    keeps_chained (chaining g) reset_bytes refl g hardware_reset (λ c. (unqueued_fit g c f, search)) (keeps_all g hardware_reset)
