-- A loop that goes over rows in one walk and puts each back: its invariant, what it says before a turn, and one turn.
-- Assumes nothing.
use mathlib.Core.Path.{◌≡◌, refl, sym, ◌∙◌, ap, subst}
use mathlib.Core.List.{List, [], ◌++◌, append_assoc, append-nil}
use Prim.Native.Nat.{ℕ, suc, ◌+◌, ◌-◌, ◌≤◌, ◌<◌}
use mathlib.Core.Logic.{⊎_elim}
use native.Mathlib.Nat.{not-suc-le-zero, eq-or-lt_of_le}
use native.Mathlib.Numerals.{add-one}
use native.Mathlib.Omega.{arith}
use lib.ListN.{length, take, drop, take-append-drop, length-append, length-drop}
use lib.Seq.{length-take-le, take_at, drop_at, drop-drop}
use lib.Dec.{eqb}
use borrow.Author.Tests.{eq-eqb, ne_eqb}
use borrow.Rule.Slice.PartMut.{mid_of, put_mid, mid_len}
use Rattle.bits.specs.Words.{pick}
use Rattle.card.specs.Row.{row_size}
use Rattle.table.specs.Rows.{header_bytes, row_start, row_at, joined, with_rows}
use Rattle.table.specs.Walk.{EachChanged}
use Rattle.table.proofs.Rows.View.{joined_cut, joined_split, joined_ext}
use Rattle.table.proofs.Rows.Starts.{start_zero, start_more, start_mono, start_least}

-- the header and the rows g 0, g 1, .. below k
pub front : (ℕ → List ℕ) → List ℕ → ℕ → List ℕ
front g net k = take header_bytes net ++ joined g 0 k []

front_none : (g : ℕ → List ℕ) (net : List ℕ) → front g net 0 ≡ take header_bytes net
unfolding front joined
front_none g net = append-nil (take header_bytes net)

front_more : (g : ℕ → List ℕ) (net : List ℕ) (k : ℕ) → front g net (suc k) ≡ front g net k ++ g k
unfolding front joined
front_more g net k = rw (joined_cut g k 1 0 (suc k) k [] (omega arith) (omega arith), joined_split g k 0 (g k ++ []), append-nil, append_assoc)

-- ---- rows are laid up to a, k of them, and from a on the bytes are as they were
pub record Laying (g : ℕ → List ℕ) (net now : List ℕ) (k a : ℕ) : Type 0 where
  pub is : now ≡ front g net k ++ drop a net
  pub long : length (front g net k) ≡ a

pub lay_none : (g : ℕ → List ℕ) (net : List ℕ) → header_bytes ≤ length net → Laying g net net 0 header_bytes
lay_none g net h = record { is = rw (front_none, take-append-drop); long = rw front_none (length-take-le header_bytes net h) }

module _ (g : ℕ → List ℕ) (net now : List ℕ) (k a : ℕ) (p : Laying g net now k a) where
  lay_rest : drop a now ≡ drop a net
  lay_rest = rw p.is (drop_at (front g net k) (drop a net) a p.long)

  pub lay_length : a ≤ length net → length now ≡ length net
  lay_length l = rw (p.is, length-append, p.long, length-drop) (omega arith)

  pub lay_next : (e : ℕ) → a ≤ e → (r : List ℕ) → r ≡ g k → length r ≡ e - a → Laying g net (put_mid a (e - a) now r) (k + 1) e
  lay_next e l r q m =
      let s : a + (e - a) ≡ e = omega arith in
      record {
        is = rw (lay_rest, drop-drop (e - a) a net, s, p.is, take_at (front g net k) (drop a net) a p.long, add-one, front_more, append_assoc, q);
        long = rw (add-one, front_more, length-append, p.long, ← q, m) s;
      }

  -- all n rows are laid, and e is where they end
  pub lay_end : (n : ℕ) → k ≡ n → (e : ℕ) → a ≡ e → now ≡ take header_bytes net ++ joined g 0 n (drop e net)
  unfolding front
  lay_end n d e q = p.is ∙ rw (append_assoc, ← joined_split, d, q)

-- ---- each row becomes another: k of them have, and a is where the next begins
pub record ChangedTo (R : ℕ → List ℕ → List ℕ → Type 0) (net now : List ℕ) (k a : ℕ) : Type 0 where
  pub row : ℕ → List ℕ
  pub changed : (j : ℕ) → j < k → R j (row_at net j) (row j)
  pub at : a ≡ row_start net k
  pub laying : Laying row net now k a

module _ (R : ℕ → List ℕ → List ℕ → Type 0) (net : List ℕ) (n : ℕ) (h : row_start net n ≤ length net) where
  pub changed_none : ChangedTo R net net 0 header_bytes
  changed_none = record {
    row = λ _. [];
    changed = λ j l. absurd (not-suc-le-zero l);
    at = sym (start_zero net);
    laying = lay_none _ net (omega (arith, start_least net n));
  }

  module _ {now : List ℕ} {k a : ℕ} (p : ChangedTo R net now k a) where
    here : drop a now ≡ drop a net
    here = lay_rest _ net now k a p.laying

    as_long : k ≤ n → length now ≡ length net
    as_long l = lay_length _ net now k a p.laying (omega (arith, p.at, start_mono net k n l))

    pub changed_end : k ≡ n → EachChanged R net now n
    unfolding with_rows
    changed_end e = record {
      row = p.row;
      changed = λ j l. p.changed j (rw e l);
      is = lay_end _ net now k a p.laying n e (row_start net n) (p.at ∙ ap (row_start net) e);
    }

    ends : (e : ℕ) → e ≡ a + row_size (drop a now) → e ≡ row_start net (suc k)
    ends e d = d ∙ rw (here, p.at) (sym (start_more net k))

    module _ (l : k < n) where
      pub changed_room : a + row_size (drop a now) ≤ length now
      changed_room = omega (arith, ends _ refl, as_long (omega arith), start_mono net (suc k) n l)

      -- what is lent is row k as it was
      module _ (e : ℕ) (d : e ≡ a + row_size (drop a now)) where
        pub changed_part : mid_of a (e - a) now ≡ row_at net k
        unfolding row_at
        changed_part = let m : e - a ≡ row_size (drop (row_start net k) net) = omega (arith, ends e d, p.at, start_more net k) in rw (here, m, p.at)

        -- and it becomes r
        module _ (r : List ℕ) (c : R k (mid_of a (e - a) now) r) (m : length r ≡ length (mid_of a (e - a) now)) where
          abbrev rows_now : ℕ → List ℕ
          rows_now j = pick (eqb j k) r (p.row j)

          now_other : (j : ℕ) → j < k → rows_now j ≡ p.row j
          now_other j b = rw (ne_eqb j k (λ z. omega arith))

          now_row : rows_now k ≡ r
          now_row = rw (eq-eqb k k refl)

          same_front : front p.row net k ≡ front rows_now net k
          unfolding front
          same_front = rw (joined_ext p.row rows_now k 0 [] (λ j b t. sym (now_other j (omega (arith, t)))))

          pub changed_next : ChangedTo R net (put_mid a (e - a) now r) (k + 1) e
          changed_next = record {
            row = rows_now;
            changed = λ j b. ⊎_elim (λ q. rw q (subst (R k (row_at net k)) (sym now_row) (subst (λ x. R k x r) changed_part c))) (λ t. subst (R j (row_at net j)) (sym (now_other j t)) (p.changed j t)) (eq-or-lt_of_le (omega (arith, b)));
            at = rw add-one (ends e d);
            laying =
                lay_next rows_now net now k a (record { is = p.laying.is ∙ rw same_front; long = rw same_front at p.laying.long }) e (omega arith) r (sym now_row)
                (m ∙ mid_len a e now (omega (arith, changed_room)));
          }
