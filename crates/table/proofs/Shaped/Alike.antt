-- The rows of a network have RAMs and IDs of bytes, and so has what it becomes: a network of the same IDs, with the same rows on line.
-- Assumes nothing.
use mathlib.Core.Path.{◌≡◌, refl, ◌∙◌}
use mathlib.Core.Bool.{true, false}
use mathlib.Core.List.{List}
use mathlib.Core.Logic.{⊎_elim}
use Prim.Native.Nat.{ℕ, ◌+◌, ◌<◌}
use native.Mathlib.Omega.{arith}
use lib.Dec.{ltb}
use lib.ListN.{length, get_or-eq_default}
use borrow.Author.Tests.{ltb-true, ltb-false}
use Rattle.std.proofs.lemmas.Bool.{cases_Bool}
use Rattle.card.proofs.Pages.Packets.{Ram}
use Rattle.card.proofs.Rows.Rams.{Small, id_byte}
use Rattle.table.specs.Rows.{row_start, row_at}
use Rattle.table.specs.Network.{Bytes, rows, turned, regs_at, on_line_at, shape}
use Rattle.table.proofs.Rows.WithRows.{get_or_row_at}
use Rattle.table.proofs.Rows.Networks.{row_at_turned, rows_turned}
use Rattle.table.proofs.Online.Nodes.{online_same}
use Rattle.table.proofs.Shaped.Shapes.{shape_room}
use Rattle.table.proofs.Shaped.Kept.{Became}
use Rattle.table.proofs.Shaped.Became.{Moved, became_rows, shape_moved, moved_online}

-- ---- the bytes of a network are bytes, and so are those of a row
pub bytes_row : (net : List ℕ) → shape net ≡ true → Bytes net → (k : ℕ) → k < rows net → Small (row_at net k)
bytes_row net s b k l i =
    let e = length (row_at net k) in
    ⊎_elim (λ (t : ltb i e ≡ true). rw (get_or_row_at net (rows net) (shape_room net s) k l i (ltb-true i e t)) (b (row_start net k + i)))
    (λ (t : ltb i e ≡ false). rw (get_or-eq_default (row_at net k) 0 {n = i} (ltb-false i e t)) (omega arith))
    (cases_Bool (ltb i e))

-- each row's RAM is of bytes, and its ID is a byte
abbrev pub Rams : List ℕ → Type 0
Rams net = (k : ℕ) → k < rows net → Ram (row_at net k) × ((regs_at net k).id < 256)

pub bytes_rams : (net : List ℕ) → shape net ≡ true → Bytes net → Rams net
bytes_rams net s b k l =
    let q = bytes_row net s b k l in
    (λ i _. q i, id_byte (row_at net k) q)

-- ---- new is well formed, with the rows of net: the same IDs, and the same rows on line
pub record Alike (net new : List ℕ) : Type 0 where
  pub fits : shape new ≡ true
  pub rams : Rams new
  pub count : rows new ≡ rows net
  pub id : (k : ℕ) → k < rows net → (regs_at new k).id ≡ (regs_at net k).id
  pub online : (k : ℕ) → k < rows net → on_line_at new k ≡ on_line_at net k

pub alike_same : (net : List ℕ) → shape net ≡ true → Rams net → Alike net net
alike_same net s b = record { fits = s; rams = b; count = refl; id = λ k l. refl; online = λ k l. refl }

pub alike_then : {net new last : List ℕ} → Alike net new → Alike new last → Alike net last
alike_then c d = record {
  fits = d.fits;
  rams = d.rams;
  count = d.count ∙ c.count;
  id = λ k l. d.id k (omega (arith, c.count)) ∙ c.id k l;
  online = λ k l. d.online k (omega (arith, c.count)) ∙ c.online k l;
}

-- ---- what a network became, and it in another phase
module _ (net : List ℕ) (s : shape net ≡ true) (b : Rams net) where
  pub alike_moved : (new : List ℕ) → Became Moved net new → Alike net new
  alike_moved new c = record {
    fits = shape_moved s c;
    rams = λ k l. let j : k < rows net = omega (arith, became_rows c) in
        ((c.row k j).ram (b k j).1 (b k j).0, rw (c.row k j).kept.id (b k j).1);
    count = became_rows c;
    id = λ k l. (c.row k l).kept.id;
    online = moved_online c;
  }

  pub alike_turned : (new : List ℕ) (p h : ℕ) → Alike net new → shape (turned new p h) ≡ true → Alike net (turned new p h)
  alike_turned new p h c f = record {
    fits = f;
    rams = λ k l. rw (row_at_turned new p h k) (c.rams k (omega (arith, rows_turned new p h)));
    count = rows_turned new p h ∙ c.count;
    id = λ k l. rw (row_at_turned new p h k) (c.id k l);
    online = λ k l. online_same new (turned new p h) k (row_at_turned new p h k) ∙ c.online k l;
  }

-- ---- a well-formed network of n rows, with RAMs and IDs of bytes; and what is alike
pub record Good (n : ℕ) (net : List ℕ) : Type 0 where
  pub fits : shape net ≡ true
  pub rams : Rams net
  pub count : rows net ≡ n

pub good_alike : {n : ℕ} {net new : List ℕ} → Good n net → Alike net new → Good n new
good_alike g a = record { fits = a.fits; rams = a.rams; count = a.count ∙ g.count }
