-- Two networks with the same nodes on line, and a network that became another with the token where it was.
-- Assumes nothing.
use mathlib.Core.Path.{◌≡◌, refl, ◌∙◌, ap}
use mathlib.Core.Bool.{true}
use mathlib.Core.List.{List}
use Prim.Native.Nat.{ℕ, ◌<◌}
use native.Mathlib.Omega.{arith}
use Rattle.card.specs.Row.{regs_of}
use Rattle.registers.specs.Fit.{on_line}
use Rattle.table.specs.Network.{rows, phase, holder, regs_at, on_line_at, is_node, node_of, shape, SameNodes}
use Rattle.table.proofs.Folds.{seek_same}
use Rattle.table.proofs.Shaped.Kept.{Became}
use Rattle.table.proofs.Shaped.Became.{Still, became_phase, became_holder, still_moved}
use Rattle.table.proofs.Shaped.Alike.{Rams, Alike, alike_moved}

pub same_nodes_then : {a b c : List ℕ} → SameNodes a b → SameNodes b c → SameNodes a c
same_nodes_then p q = record {
  count = q.count ∙ p.count;
  online = λ k l. q.online k (omega (arith, p.count)) ∙ p.online k l;
  id = λ k l o. q.id k (omega (arith, p.count)) (p.online k l ∙ o) ∙ p.id k l o;
}

pub alike_nodes : {net new : List ℕ} → Alike net new → SameNodes net new
alike_nodes a = record { count = a.count; online = a.online; id = λ k l _. a.id k l }

-- the same row is found for an ID
pub alike_node_of : {net new : List ℕ} → Alike net new → (i x : ℕ) → node_of new i x (rows new) ≡ node_of net i x (rows net)
unfolding node_of is_node
alike_node_of {net} {new} a i x =
    ap (λ (n : ℕ). node_of new i x n) a.count
    ∙ seek_same _ _ (rows net) (λ k l. rw (a.online k l, a.id k l))

-- ---- a call that left the token where it was: well formed, the same phase and holder, the same nodes on line, each with its NID
pub record Calm (net new : List ℕ) : Type 0 where
  pub fits : shape new ≡ true
  pub rams : Rams new
  pub nodes : SameNodes net new
  pub phase_same : phase new ≡ phase net
  pub holder_same : holder new ≡ holder net
  pub nid : (k : ℕ) → k < rows net → on_line_at net k ≡ true → (regs_at new k).nid ≡ (regs_at net k).nid

pub calm_same : (net : List ℕ) → shape net ≡ true → Rams net → Calm net net
calm_same net s b = record {
  fits = s;
  rams = b;
  nodes = record { count = refl; online = λ k l. refl; id = λ k l o. refl };
  phase_same = refl;
  holder_same = refl;
  nid = λ k l o. refl;
}

-- rows with the IDs and the NIDs that they had
pub calm_still : (net : List ℕ) → shape net ≡ true → Rams net → (new : List ℕ) → Became Still net new → Calm net new
calm_still net s b new c =
    let a = alike_moved net s b new (still_moved c) in record {
      fits = a.fits;
      rams = a.rams;
      nodes = alike_nodes a;
      phase_same = became_phase c;
      holder_same = became_holder c;
      nid = λ k l _. (c.row k l).nid;
    }

-- ---- the row s in the place of the row r: with r's NID if it is on line
abbrev pub SameNid : List ℕ → List ℕ → Type 0
SameNid r s = on_line (regs_of s) ≡ true → (regs_of s).nid ≡ (regs_of r).nid

pub calm_rows : {net new : List ℕ} → Became SameNid net new → shape new ≡ true → Rams new → SameNodes net new → Calm net new
unfolding on_line_at
calm_rows {net} {new} c f b n = record {
  fits = f;
  rams = b;
  nodes = n;
  phase_same = became_phase c;
  holder_same = became_holder c;
  nid = λ k l o. c.row k l (n.online k l ∙ o);
}
