-- What a call answers, and the number that it tells.
-- Assumes nothing.
use mathlib.Core.Path.{◌≡◌, refl, sym, ◌∙◌, ap}
use mathlib.Core.List.{List, ◌++◌}
use mathlib.Core.Bool.{Bool, true, false}
use Prim.Native.Nat.{ℕ}
use lib.Dec.{eqb}
use Rattle.std.proofs.Common.{Result, Ok, Err}
use Rattle.std.specs.Result.{IsErrAnd}
use Rattle.bits.specs.Words.{pick}
use Rattle.told.specs.declared.refusals.Refusal.{Refusal}
use Rattle.told.specs.declared.refusals.Refusal.TheVariants.{Shape, Row, Register, Value, NotReady, Direction, Busy, Online, Page, Duplicate, Alone, Room, Length, Mark, OrderId, Flags, Name, Twice}
use Rattle.told.specs.Numbers as numbers
use Rattle.told.specs.Numbers.{DONE, refuse, told}
use borrow.Author.Tests.{eqb-false}
use Rattle.told.proofs.Told.Smallest.{refuse_stays, told_first, told_second}
use Rattle.told.specs.Refusals.{number_of, number}

-- a refusal has a number of its own, and DONE is none's
pub not_done : (e : Refusal) → eqb (number_of e) DONE ≡ false
not_done Shape = refl
not_done Row = refl
not_done Register = refl
not_done Value = refl
not_done NotReady = refl
not_done Direction = refl
not_done Busy = refl
not_done Online = refl
not_done Page = refl
not_done Duplicate = refl
not_done Alone = refl
not_done Room = refl
not_done Length = refl
not_done Mark = refl
not_done OrderId = refl
not_done Flags = refl
not_done Name = refl
not_done Twice = refl

-- what `?` hands on
pub handed_on : {A : Type 0} (r : Result A Refusal) (e : Refusal) → IsErrAnd r (λ y. y ≡ e) → r ≡ Err e
handed_on (Ok v) e h = absurd h
handed_on (Err y) e h = ap (λ x. Err x) h

-- the number that is told before a test stands
pub stands : (e : Refusal) (n k : ℕ) (t : Bool) → number_of e ≡ n → number_of e ≡ refuse n k t
stands e n k t h = h ∙ sym (refuse_stays n k t (λ z. eqb-false (number_of e) DONE (not_done e) (h ∙ z)))

pub handed_number : {A : Type 0} (r : Result A Refusal) (e : Refusal) (n : ℕ) → IsErrAnd r (λ y. y ≡ e) → number_of e ≡ n → number r ≡ n
handed_number r e n h p = rw (handed_on r e h) p

-- ---- a list in two parts: the number told of the first stands, or the second is asked
module _ (a b : List numbers.Refusal) where
  pub first_stands : (e : Refusal) → number_of e ≡ told a → number_of e ≡ told (a ++ b)
  first_stands e h = h ∙ sym (told_first a b (λ z. eqb-false (number_of e) DONE (not_done e) (h ∙ z)))

  pub then_asked : {A B : Type 0} (r : Result A Refusal) (s : Result B Refusal) (v : B) → s ≡ Ok v → number s ≡ told a → number r ≡ told b → number r ≡ told (a ++ b)
  then_asked r s v w t q = q ∙ sym (told_second a b (sym t ∙ ap number w))

-- ---- what a call does where it refuses nothing, and leaves where it refuses
pub refused_keeps : {A : Type 0} (e : Refusal) (n : ℕ) (x y : A) → number_of e ≡ n → y ≡ pick (eqb n DONE) x y
refused_keeps e n x y h = rw (← h, not_done e)

pub is_done : {B : Type 0} (r : Result B Refusal) (v : B) (n : ℕ) → r ≡ Ok v → number r ≡ n → n ≡ DONE
is_done r v n w h = sym h ∙ ap number w

pub is_refused : {B : Type 0} (r : Result B Refusal) (e : Refusal) (n : ℕ) → r ≡ Err e → number r ≡ n → n ≡ DONE → ⊥
is_refused r e n w h z = eqb-false (number_of e) DONE (not_done e) (sym (ap number w) ∙ h ∙ z)

pub done_goes : {A B : Type 0} (r : Result B Refusal) (v : B) (n : ℕ) (s x y : A) → r ≡ Ok v → number r ≡ n → s ≡ x → s ≡ pick (eqb n DONE) x y
done_goes r v n s x y w h p = rw (is_done r v n w h) p

-- a test that was passed does not hold
pub passed_not : {A : Type 0} (r : Result A Refusal) (v : A) (e : Refusal) (t : Bool) → r ≡ Ok v → number r ≡ refuse DONE (number_of e) t → t ≡ false
unfolding refuse
passed_not r v e false w h = refl
passed_not r v e true w h = absurd (eqb-false (number_of e) DONE (not_done e) (sym h ∙ ap number w))

-- what the number of a call that asks its refusals in turn is shown by; and what the bytes are that it leaves
pub ruleset asking = (handed_number, stands, first_stands, then_asked)

pub ruleset leaving = (handed_number, refused_keeps, done_goes)
