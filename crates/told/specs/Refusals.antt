-- Document 01, "Numbers a caller may get", with those of C-12: the number and the name of each refusal, and the number of what a call answers.
-- Assumes nothing.
use Rattle.std.specs.Prelude.{List, ℕ, Result, Ok, Err, codes}
use Rattle.told.specs.declared.refusals.Refusal.{Refusal}
use Rattle.told.specs.declared.refusals.Refusal.TheVariants.{Shape, Row, Register, Value, NotReady, Direction, Busy, Online, Page, Duplicate, Alone, Room, Length, Mark, OrderId, Flags, Name, Twice}
use Rattle.told.specs.Numbers.{DONE, SHAPE, ROW, REGISTER, VALUE, NOTREADY, DIRECTION, BUSY, ONLINE, PAGE, DUPLICATE, ALONE, ROOM, LENGTH, MARK, ORDER_ID, FLAGS, NAME, TWICE}

abbrev pub number_of : Refusal → ℕ
number_of Shape = SHAPE
number_of Row = ROW
number_of Register = REGISTER
number_of Value = VALUE
number_of NotReady = NOTREADY
number_of Direction = DIRECTION
number_of Busy = BUSY
number_of Online = ONLINE
number_of Page = PAGE
number_of Duplicate = DUPLICATE
number_of Alone = ALONE
number_of Room = ROOM
number_of Length = LENGTH
number_of Mark = MARK
number_of OrderId = ORDER_ID
number_of Flags = FLAGS
number_of Name = NAME
number_of Twice = TWICE

-- its name there
abbrev pub name_of : Refusal → List ℕ
name_of Shape = codes "SHAPE"
name_of Row = codes "ROW"
name_of Register = codes "REGISTER"
name_of Value = codes "VALUE"
name_of NotReady = codes "NOTREADY"
name_of Direction = codes "DIRECTION"
name_of Busy = codes "BUSY"
name_of Online = codes "ONLINE"
name_of Page = codes "PAGE"
name_of Duplicate = codes "DUPLICATE"
name_of Alone = codes "ALONE"
name_of Room = codes "ROOM"
name_of Length = codes "LENGTH"
name_of Mark = codes "MARK"
name_of OrderId = codes "ORDER-ID"
name_of Flags = codes "FLAGS"
name_of Name = codes "NAME"
name_of Twice = codes "TWICE"

-- the number that a call tells: DONE, or its refusal's
abbrev pub number : {A : Type 0} → Result A Refusal → ℕ
number (Ok v) = DONE
number (Err e) = number_of e
