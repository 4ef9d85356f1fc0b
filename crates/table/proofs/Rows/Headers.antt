-- What a well formed header says, part by part, and what makes one.
-- Assumes nothing.
use mathlib.Core.Path.{◌≡◌, sym, ◌∙◌, ap}
use mathlib.Core.Bool.{Bool, true, ◌&&◌}
use mathlib.Core.List.{List, [], ◌∷◌}
use mathlib.Core.Logic.{⊎_elim}
use Prim.Native.Nat.{ℕ, ◌+◌, ◌≤◌, ◌<◌}
use native.Mathlib.Omega.{arith}
use lib.Dec.{eqb, leb, ltb, lit<}
use lib.ListN.{length, get_or, take, drop, length-drop}
use lib.Seq.{length-take-le, get_or-take, get_or-drop, ext_get_or}
use borrow.Author.Tests.{eqb-true, eqb-false, eq-eqb, ne_eqb, ltb-true, lt-ltb, leb-true, le-leb}
use Rattle.std.specs.List.{starts_with}
use Rattle.card.specs.Row.{zeros}
use Rattle.std.proofs.lemmas.Bool.{cases_Bool}
use Rattle.std.proofs.Math.Bool.{and-true}
use Rattle.bits.proofs.Words.Bools.{holds}
use Rattle.table.specs.Rows.{header_bytes, row_start, rows_end}
use Rattle.table.specs.Network.{mark, row_limit, rows, phase, header_fits}
use Rattle.table.proofs.Rows.Starts.{start_least}

-- the tests of `header_fits`
abbrev tests : List ℕ → List Bool
tests net =
    eqb (get_or net 0 0) (get_or mark 0 0) ∷ eqb (get_or net 1 0) (get_or mark 1 0) ∷ eqb (get_or net 2 0) 1 ∷ ltb 0 (rows net) ∷ leb (rows net) row_limit
    ∷ ltb (phase net) 3 ∷ zeros (take 10 (drop 6 net)) ∷ eqb (length net) (row_start net (rows net)) ∷ []

module _ (net : List ℕ) (t : header_fits net ≡ true) where
  at : (i : ℕ) → i < 8 → get_or (tests net) i true ≡ true
  unfolding header_fits
  at i l = holds (tests net) t i l

  header_marks : (get_or net 0 0 ≡ get_or mark 0 0) × (get_or net 1 0 ≡ get_or mark 1 0) × (get_or net 2 0 ≡ 1)
  header_marks = (eqb-true _ _ (at 0 (lit< tt)), eqb-true _ _ (at 1 (lit< tt)), eqb-true _ _ (at 2 (lit< tt)))

  pub header_rows : (0 < rows net) × (rows net ≤ row_limit)
  header_rows = (ltb-true _ _ (at 3 (lit< tt)), leb-true _ _ (at 4 (lit< tt)))

  pub header_phase : phase net < 3
  header_phase = ltb-true _ _ (at 5 (lit< tt))

  pub header_zeros : zeros (take 10 (drop 6 net)) ≡ true
  header_zeros = at 6 (lit< tt)

  pub header_length : length net ≡ row_start net (rows net)
  header_length = eqb-true _ _ (at 7 (lit< tt))

pub header_of : (net : List ℕ) → (get_or net 0 0 ≡ get_or mark 0 0) × (get_or net 1 0 ≡ get_or mark 1 0) × (get_or net 2 0 ≡ 1)
    → (0 < rows net) × (rows net ≤ row_limit) → phase net < 3 → zeros (take 10 (drop 6 net)) ≡ true → length net ≡ row_start net (rows net)
    → header_fits net ≡ true
unfolding header_fits
header_of net m n p z l =
    simp (eq-eqb _ _ m.0, eq-eqb _ _ m.1, eq-eqb _ _ m.2, lt-ltb _ _ n.0, le-leb _ _ n.1, lt-ltb _ _ p, z, eq-eqb _ _ l)

-- a header that differs in its phase and its holder alone, where nothing lies after the rows
pub header_kept : (net new : List ℕ) → header_fits net ≡ true → length new ≡ row_start new (rows net)
    → ((x : ℕ) → x < header_bytes → (x ≡ 4 → ⊥) → (x ≡ 5 → ⊥) → get_or new x 0 ≡ get_or net x 0) → phase new < 3 → header_fits new ≡ true
header_kept net new t l e p =
    let m = header_marks net t in
    let n = header_rows net t in
    let r = e 3 (lit< tt) (λ q. omega arith) (λ q. omega arith) in
    header_of new (
      e 0 (lit< tt) (λ q. omega arith) (λ q. omega arith) ∙ m.0,
      e 1 (lit< tt) (λ q. omega arith) (λ q. omega arith) ∙ m.1,
      e 2 (lit< tt) (λ q. omega arith) (λ q. omega arith) ∙ m.2,
    )
    (omega arith, omega arith) p (ap zeros same ∙ header_zeros net t) (l ∙ ap (row_start new) (sym r))
  where
    same : take 10 (drop 6 new) ≡ take 10 (drop 6 net)
    same =
        let long : (s : List ℕ) → header_bytes ≤ length s → length (take 10 (drop 6 s)) ≡ 10
        = λ s q. length-take-le 10 (drop 6 s) (simp length-drop (omega arith)) in
        let a = long new (omega (arith, start_least new (rows net))) in
        let b = long net (omega (arith, header_length net t, start_least net (rows net))) in
        ext_get_or 0 (take 10 (drop 6 new)) (take 10 (drop 6 net)) (a ∙ sym b)
        (λ i c. let h : i < 10 = omega (arith, a) in
        get_or-take 10 (drop 6 new) i 0 h ∙ get_or-drop 6 new i 0 ∙ e (6 + i) (omega arith) (λ q. omega arith) (λ q. omega arith)
        ∙ sym (get_or-take 10 (drop 6 net) i 0 h ∙ get_or-drop 6 net i 0))

-- the mark, and the header, as the code asks them
same_back : (x y : ℕ) → eqb x y ≡ eqb y x
same_back x y = ⊎_elim (λ t. t ∙ sym (eq-eqb y x (sym (eqb-true x y t)))) (λ f. f ∙ sym (ne_eqb y x (λ e. eqb-false x y f (sym e)))) (cases_Bool (eqb x y))

pub mark_asked : (net : List ℕ) → header_bytes ≤ length net → starts_with eqb net mark ≡ (eqb (get_or net 0 0) (get_or mark 0 0) && eqb (get_or net 1 0) (get_or mark 1 0))
mark_asked [] h = absurd (omega (arith, h))
mark_asked (x ∷ []) h = absurd (omega (arith, h))
mark_asked (x ∷ y ∷ l) h = rw (same_back 0x41 x, same_back 0x4e y, and-true)

pub header_asked : (net : List ℕ) → header_bytes ≤ length net → (n : ℕ) → n ≡ rows net → (p : ℕ) → p ≡ phase net → (m : Bool) → m ≡ starts_with eqb net mark
    → (z : Bool) → z ≡ zeros (take 10 (drop 6 net)) → (a : Bool) → a ≡ rows_end net n
    → (m && eqb (get_or net 2 0) 1 && ltb 0 n && leb n row_limit && ltb p 3 && z && a) ≡ header_fits net
unfolding header_fits
header_asked net h n d p q m k z e a f = rw (f, d, q, e, k, mark_asked net h)

-- what the code learns of the length where it does not refuse the header
pub header_told : (net : List ℕ) (b : Bool) → b ≡ header_fits net → b ≡ true → row_start net (rows net) ≤ length net
header_told net b e f = omega (arith, header_length net (sym e ∙ f))
