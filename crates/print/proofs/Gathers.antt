-- Bytes gathered one by one.
-- Assumes nothing.
use mathlib.Core.Path.{◌≡◌, refl, sym, ap, ◌∙◌}
use mathlib.Core.List.{List, [], ◌∷◌, ◌++◌, append_assoc}
use Prim.Native.Nat.{ℕ, ◌+◌, ◌≤◌, ◌<◌}
use native.Mathlib.Numerals.{add-one}
use native.Mathlib.Omega.{arith}
use borrow.Author.Tests.{ltb-true}
use lib.ListN.{length, get_or, take, drop, set}
use Rattle.std.proofs.Math.Seq.{take-suc}
use Rattle.std.proofs.Common.{inl, inr, subst}
use Rattle.std.proofs.lemmas.List.{take-append-drop}
use Rattle.std.proofs.lemmas.Result.{MatchResult-weaker, err_from_is_err_and}
use Rattle.std.specs.Prelude.{Bool, true, false, cond, ltb, Result, IsErrAnd}
use Rattle.print.specs.Gather.{ROOM, NEWLINE, SPACE, Gathered, got, put, gather, Stopped, Gathers, Ends, line_of, hex, spaced}

pub gather_both : (g : Gathered) (s t : List ℕ) → gather g (s ++ t) ≡ gather (gather g s) t
unfolding gather
gather_both g [] t = refl
gather_both g (b ∷ s) t = gather_both (put g b) s t

-- what is gathered after other bytes
pub then_both : (g h k : Gathered) (s t : List ℕ) → h ≡ gather g s → k ≡ gather h t → k ≡ gather g (s ++ t)
then_both g h k s t p q = q ∙ ap (λ (x : Gathered). gather x t) p ∙ sym (gather_both g s t)

-- a write fails before any byte of a text, in its first part, or in its second
pub stopped_none : (g : Gathered) (s : List ℕ) → ROOM ≤ g.count → Stopped g s g
unfolding Stopped gather
stopped_none g s e = ([], s, refl, e, refl)

pub stopped_first : (g h : Gathered) (s t : List ℕ) → Stopped g s h → Stopped g (s ++ t) h
unfolding Stopped
stopped_first g h s t w = (w.0, w.1 ++ t, ap (λ (x : List ℕ). x ++ t) w.2 ∙ append_assoc w.0 w.1 t, w.3, w.4)

pub stopped_second : (g h k : Gathered) (s t : List ℕ) → h ≡ gather g s → Stopped h t k → Stopped g (s ++ t) k
unfolding Stopped
stopped_second g h k s t p w =
    let e : gather h w.0 ≡ gather g (s ++ w.0) = then_both g h (gather h w.0) s w.0 p refl in
    (s ++ w.0, w.1, ap (λ (x : List ℕ). s ++ x) w.2 ∙ sym (append_assoc s w.0 w.1), rw (← e) w.3, w.4 ∙ e)

-- what the exit of a `?` hands on, in the first part of a text or in its second; and a last call
module _ {E : Type 0} (g h : Gathered) (r : Result Unit E) where
  pub gathers_stop : (Q : E → Type 0) (s : List ℕ) → IsErrAnd r Q → Stopped g s h → Gathers r g s h
  gathers_stop Q s e w = let p = err_from_is_err_and r e in rw (p.1) w

  pub gathers_first : (Q : E → Type 0) (s t : List ℕ) → IsErrAnd r Q → Stopped g s h → Gathers r g (s ++ t) h
  gathers_first Q s t e w = gathers_stop Q (s ++ t) e (stopped_first g h s t w)

  pub byte_first : (Q : E → Type 0) (b : ℕ) (t : List ℕ) → IsErrAnd r Q → Stopped g (b ∷ []) h → Gathers r g (b ∷ t) h
  byte_first Q b t e w = gathers_first Q (b ∷ []) t e w

  module _ (k : Gathered) where
    pub gathers_then : (s t : List ℕ) → h ≡ gather g s → Gathers r h t k → Gathers r g (s ++ t) k
    gathers_then s t p q = MatchResult-weaker r q (λ u e. then_both g h k s t p e) (λ e w. stopped_second g h k s t p w)

    pub byte_then : (b : ℕ) (t : List ℕ) → h ≡ gather g (b ∷ []) → Gathers r h t k → Gathers r g (b ∷ t) k
    byte_then b t p q = gathers_then (b ∷ []) t p q

-- the line that a text ends: the exit of a `?`, and where the text is gathered
module _ {E : Type 0} (g h : Gathered) (r : Result Unit E) where
  pub ends_stop : (Q : E → Type 0) (s : List ℕ) → IsErrAnd r Q → Stopped g s h → Ends r g s h
  ends_stop Q s e w = let p = err_from_is_err_and r e in rw (p.1) (inl (stopped_first g h s (NEWLINE ∷ []) w))

  pub ends_then : (k : Gathered) (s : List ℕ) → h ≡ gather g s → Ends r h [] k → Ends r g s k
  unfolding line_of gather
  ends_then k s p q =
      MatchResult-weaker r q (λ u e. rw (← p) e)
      (λ e w. elim w [ inl f ↦ inl (stopped_second g h k s (NEWLINE ∷ []) p f) | inr f ↦ inr (then_both g h k s (NEWLINE ∷ []) p f) ])

-- bytes taken one by one: F is the text of what was taken
module _ (F : List ℕ → List ℕ) (both : (s t : List ℕ) → F (s ++ t) ≡ F s ++ F t) (g h : Gathered) (s : List ℕ) (i : ℕ) (p : h ≡ gather g (F (take i s))) (lt : i < length s) where
  each_front : F (take (i + 1) s) ≡ F (take i s) ++ F (get_or s i 0 ∷ [])
  each_front = rw (add-one, take-suc s i 0) (both (take i s) (get_or s i 0 ∷ []))

  each_whole : F s ≡ F (take (i + 1) s) ++ F (drop (i + 1) s)
  each_whole = ap F (sym (take-append-drop (i + 1) s)) ∙ both (take (i + 1) s) (drop (i + 1) s)

  each_more : (k : Gathered) → k ≡ gather h (F (get_or s i 0 ∷ [])) → k ≡ gather g (F (take (i + 1) s))
  each_more k q = rw each_front (then_both g h k _ _ p q)

  each_stop : (k : Gathered) → Stopped h (F (get_or s i 0 ∷ [])) k → Stopped g (F s) k
  each_stop k w =
      let P : List ℕ → Type 0 = λ t. Stopped g t k in
      subst P (sym each_whole) (stopped_first g k _ _ (subst P (sym each_front) (stopped_second g h k _ _ p w)))

hex_both : (s t : List ℕ) → hex (s ++ t) ≡ hex s ++ hex t
unfolding hex
hex_both [] t = refl
hex_both (b ∷ s) t = rw (hex_both s t)

pub no_bytes : (s : List ℕ) → length s ≡ 0 → spaced s ≡ []
unfolding spaced
no_bytes [] e = refl
no_bytes (b ∷ s) e = absurd (omega arith)

pub some_bytes : (s : List ℕ) → (length s ≡ 0 → ⊥) → spaced s ≡ SPACE ∷ hex s
unfolding spaced
some_bytes [] f = absurd (f refl)
some_bytes (b ∷ s) f = refl

module _ (g h k : Gathered) (s : List ℕ) (i : ℕ) (lt : i < length s) where
  pub text_more : h ≡ gather g (take i s) → k ≡ gather h (get_or s i 0 ∷ []) → k ≡ gather g (take (i + 1) s)
  text_more p q = each_more (λ t. t) (λ t u. refl) g h s i p lt k q

  pub hex_more : h ≡ gather g (hex (take i s)) → k ≡ gather h (hex (get_or s i 0 ∷ [])) → k ≡ gather g (hex (take (i + 1) s))
  hex_more p q = each_more hex hex_both g h s i p lt k q

  module _ {E : Type 0} (Q : E → Type 0) (r : Result Unit E) (e : IsErrAnd r Q) where
    pub text_stop : h ≡ gather g (take i s) → Stopped h (get_or s i 0 ∷ []) k → Gathers r g s k
    text_stop p w = gathers_stop g k r Q s e (each_stop (λ t. t) (λ t u. refl) g h s i p lt k w)

    pub hex_stop : h ≡ gather g (hex (take i s)) → Stopped h (hex (get_or s i 0 ∷ [])) k → Gathers r g (hex s) k
    hex_stop p w = gathers_stop g k r Q (hex s) e (each_stop hex hex_both g h s i p lt k w)

-- of a byte that is gathered, the count lies within the buffer
room_by : (g : Gathered) (b : ℕ) (t : Bool) → ltb g.count ROOM ≡ t
    → (cond t (got (set g.held g.count b) (g.count + 1)) (got (set g.held 0 b) 1)).count ≤ ROOM
room_by g b true e = omega (arith, ltb-true g.count ROOM e)
room_by g b false e = omega arith

pub put_room : (g h : Gathered) (b : ℕ) → h ≡ gather g (b ∷ []) → h.count ≤ ROOM
unfolding put gather
put_room g h b e = rw e (room_by g b (ltb g.count ROOM) refl)
