-- Document 01, "Numbers a caller may get", with those of C-12: the numbers, a call's refusals, and the number that is told.
-- Assumes nothing.
use Rattle.std.specs.Prelude.{◌≡◌, Bool, true, false, ◌&&◌, List, [], ◌∷◌, ℕ, ◌≤◌, eqb, ltb}
use Rattle.bits.specs.Words.{pick, among}

-- "0 DONE"
abbrev pub DONE : ℕ
DONE = 0

-- "network not well formed or of wrong length (not asked by fresh or loading)"
abbrev pub SHAPE : ℕ
SHAPE = 1

-- "row not below n"
abbrev pub ROW : ℕ
ROW = 2

-- "above 7; 5; 7 with sub-address 11; write of 7 and read of 7 alike"
abbrev pub REGISTER : ℕ
REGISTER = 3

-- "unnamed bit, .., illegal command, fault above 3, fresh n not 1-60; reader: page above 3 or malformed"
abbrev pub VALUE : ℕ
VALUE = 4

-- "command to a row not awake; timer on a row not on line"
abbrev pub NOTREADY : ℕ
NOTREADY = 5

-- "register 4 read with RDDATA 0, or written with 1"
abbrev pub DIRECTION : ℕ
DIRECTION = 6

-- "Enable with TA (RI) 0; 05 or 0D with TA or RI 0; lap outside LOST"
abbrev pub BUSY : ℕ
BUSY = 7

-- "node ID write to an on-line row"
abbrev pub ONLINE : ℕ
ONLINE = 8

-- "Enable with f = 1 and long packets 1"
abbrev pub PAGE : ℕ
PAGE = 9

-- "a write would put a second on-line row on one ID"
abbrev pub DUPLICATE : ℕ
DUPLICATE = 10

-- "lap with fewer than two on line"
abbrev pub ALONE : ℕ
ALONE = 12

-- "lent list shorter than n on line; fresh or loaded network not of exact length"
abbrev pub ROOM : ℕ
ROOM = 13

-- C-12, "14 becomes LENGTH 14, MARK 15, ORDER-ID 16, FLAGS 17, NAME 18, TWICE 19": what is wrong with an order
abbrev pub LENGTH : ℕ
LENGTH = 14

abbrev pub MARK : ℕ
MARK = 15

abbrev pub ORDER_ID : ℕ
ORDER_ID = 16

abbrev pub FLAGS : ℕ
FLAGS = 17

abbrev pub NAME : ℕ
NAME = 18

abbrev pub TWICE : ℕ
TWICE = 19

-- the numbers that a refusal may have. C-20: 11 "is not given again"
abbrev pub numbers : List ℕ
numbers =
    SHAPE ∷ ROW ∷ REGISTER ∷ VALUE ∷ NOTREADY ∷ DIRECTION ∷ BUSY ∷ ONLINE ∷ PAGE ∷ DUPLICATE ∷ ALONE ∷ ROOM
    ∷ LENGTH ∷ MARK ∷ ORDER_ID ∷ FLAGS ∷ NAME ∷ TWICE ∷ []

-- a refusal of a call: its number, and the test that says whether it holds
infix 70 ◌when◌
pub data Refusal : Type 0 where
  ◌when◌ : ℕ → Bool → Refusal

-- the number told of a list of refusals: the first whose test holds, or DONE. A refusal after those that gave n: an earlier number stands, else
-- this one is told where its test holds
unfoldable pub refuse : ℕ → ℕ → Bool → ℕ
refuse n number test = pick (eqb n DONE && test) number n

abbrev pub told_after : ℕ → List Refusal → ℕ
told_after n [] = n
told_after n (number when test ∷ l) = told_after (refuse n number test) l

abbrev pub told : List Refusal → ℕ
told l = told_after DONE l

-- the numbers of a list of refusals
abbrev pub numbers_of : List Refusal → List ℕ
numbers_of [] = []
numbers_of (number when test ∷ l) = number ∷ numbers_of l

-- each number is one that a refusal may have, above the one before it, and the first above DONE
abbrev pub follows : ℕ → ℕ → Bool
follows n number = ltb n number && among numbers number

abbrev pub rises_from : ℕ → List ℕ → Bool
rises_from n [] = true
rises_from n (number ∷ l) = follows n number && rises_from number l

abbrev pub rises : List ℕ → Bool
rises l = rises_from DONE l

-- the refusal with the number n holds; it does not where the list has none of that number
abbrev pub refuses : List Refusal → ℕ → Bool
refuses [] n = false
refuses (number when test ∷ l) n = pick (eqb n number) test (refuses l n)

-- "The smallest number wins": what is told is DONE, and no refusal holds; or it is a number that a refusal may have, that of one that holds, and none that
-- holds has a smaller
pub record Smallest (l : List Refusal) (n : ℕ) : Type 0 where
  pub given : (n ≡ DONE → ⊥) → among numbers n ≡ true
  pub one : (n ≡ DONE → ⊥) → refuses l n ≡ true
  pub least : (m : ℕ) → refuses l m ≡ true → (n ≡ DONE → ⊥) × (n ≤ m)
