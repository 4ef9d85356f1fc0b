-- What a result tells leaves one result: the refusal is known by its number, and the value is told beside DONE.
-- Assumes nothing.
use mathlib.Core.Path.{◌≡◌, refl, sym, ◌∙◌, ap}
use Prim.Native.Nat.{ℕ}
use lib.Dec.{eqb}
use Rattle.std.proofs.Common.{Result, Ok, Err}
use Rattle.bits.specs.Words.{pick}
use Rattle.told.specs.declared.refusals.Refusal.{Refusal}
use Rattle.told.specs.declared.refusals.Refusal.TheVariants.{Shape, Row, Register, Value, NotReady, Direction, Busy, Online, Page, Duplicate, Alone, Room, Length, Mark, OrderId, Flags, Name, Twice}
use Rattle.told.specs.Numbers.{DONE, SHAPE, ROW, REGISTER, VALUE, NOTREADY, DIRECTION, BUSY, ONLINE, PAGE, DUPLICATE, ALONE, ROOM, LENGTH, MARK, ORDER_ID, FLAGS, NAME}
use Rattle.told.specs.Refusals.{number_of, number}
use Rattle.told.proofs.Told.Results.{not_done}

-- two that are told alike are one, where there is a way back from what is told
pub one_by : {A B : Type 0} (f : A → B) (g : B → A) → ((a : A) → g (f a) ≡ a) → (a b : A) → f a ≡ f b → a ≡ b
one_by f g back a b e = sym (back a) ∙ ap g e ∙ back b

-- the refusal of a number
abbrev pub refusal_of : ℕ → Refusal
refusal_of n =
    pick (eqb n SHAPE) Shape
    (pick (eqb n ROW) Row
    (pick (eqb n REGISTER) Register
    (pick (eqb n VALUE) Value
    (pick (eqb n NOTREADY) NotReady
    (pick (eqb n DIRECTION) Direction
    (pick (eqb n BUSY) Busy
    (pick (eqb n ONLINE) Online
    (pick (eqb n PAGE) Page
    (pick (eqb n DUPLICATE) Duplicate
    (pick (eqb n ALONE) Alone
    (pick (eqb n ROOM) Room
    (pick (eqb n LENGTH) Length
    (pick (eqb n MARK) Mark
    (pick (eqb n ORDER_ID) OrderId
    (pick (eqb n FLAGS) Flags
    (pick (eqb n NAME) Name
    Twice))))))))))))))))

pub refusal_back : (e : Refusal) → refusal_of (number_of e) ≡ e
refusal_back Shape = refl
refusal_back Row = refl
refusal_back Register = refl
refusal_back Value = refl
refusal_back NotReady = refl
refusal_back Direction = refl
refusal_back Busy = refl
refusal_back Online = refl
refusal_back Page = refl
refusal_back Duplicate = refl
refusal_back Alone = refl
refusal_back Room = refl
refusal_back Length = refl
refusal_back Mark = refl
refusal_back OrderId = refl
refusal_back Flags = refl
refusal_back Name = refl
refusal_back Twice = refl

-- the result of a number: beside DONE a value, and beside any other what is wrong
abbrev pub result_of : {A E : Type 0} → ℕ → A → E → Result A E
result_of n v x = pick (eqb n DONE) (Ok v) (Err x)

pub refused_back : {A E : Type 0} (e : Refusal) (v : A) {x y : E} → x ≡ y → result_of (number_of e) v x ≡ Err y
refused_back e v h = rw (not_done e) (ap (λ x. Err x) h)

number_back : (r : Result Unit Refusal) → result_of (number r) tt (refusal_of (number r)) ≡ r
number_back (Ok u) = refl
number_back (Err e) = refused_back e tt (refusal_back e)

pub number_one : (r s : Result Unit Refusal) → number r ≡ number s → r ≡ s
number_one = one_by number (λ n. result_of n tt (refusal_of n)) number_back
