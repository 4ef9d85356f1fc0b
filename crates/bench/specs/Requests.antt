-- What a line asks.
-- Assumes nothing.
use Rattle.std.specs.Prelude.{true, not, ◌||◌, Option, Some, None, Result, Ok, Err, List, [], ◌∷◌, ℕ, ◌≤◌, ltb, leb, codes}
use Rattle.std.specs.List.{find}
use Rattle.std.specs.Str.{bytes_eq}
use Rattle.bits.specs.Words.{pick}
use Rattle.words.specs.Words.{word, count, spaced}
use Rattle.words.specs.Numbers.{number_of}
use Rattle.words.specs.Hex.{hex_fits}
use Rattle.prompt.specs.declared.answers.Mistake.{Mistake}
use Rattle.prompt.specs.declared.answers.Mistake.TheVariants as mistake
use Rattle.bench.specs.declared.requests.Form.{Form}
use Rattle.bench.specs.declared.requests.Word.{Word}
use Rattle.bench.specs.declared.requests.Word.TheVariants.{Size, Peek, Sum, Check, Interrupt, Data, Show, Help, Poke, Fresh, Load, Read, Write, Reset, Timer, Step, Lap}
use Rattle.bench.specs.declared.requests.Call.{Call}
use Rattle.bench.specs.declared.requests.Call.TheVariants as call

-- "at most 66,400": the bytes that may be lent
abbrev pub NET : ℕ
NET = 66400

-- "ROOM entries are lent, 0 to 70"
abbrev pub LIST : ℕ
LIST = 70

-- the words, as they are typed
abbrev pub words : List Word
words = Size ∷ Peek ∷ Sum ∷ Check ∷ Interrupt ∷ Data ∷ Show ∷ Help ∷ Poke ∷ Fresh ∷ Load ∷ Read ∷ Write ∷ Reset ∷ Timer ∷ Step ∷ Lap ∷ []

abbrev pub name_of : Word → List ℕ
name_of Size = codes "size"
name_of Peek = codes "peek"
name_of Sum = codes "sum"
name_of Check = codes "check"
name_of Interrupt = codes "interrupt"
name_of Data = codes "data"
name_of Show = codes "show"
name_of Help = codes "help"
name_of Poke = codes "poke"
name_of Fresh = codes "fresh"
name_of Load = codes "load"
name_of Read = codes "read"
name_of Write = codes "write"
name_of Reset = codes "reset"
name_of Timer = codes "timer"
name_of Step = codes "step"
name_of Lap = codes "lap"

-- the word of a name, where there is one
unfoldable pub named : List ℕ → Option Word
named name = find (λ w. bytes_eq (name_of w) name) words

-- what a word takes: the place where hex digits may stand, with numbers before it, and the fewest and the most words of the line
abbrev pub form : (digits fewest most : ℕ) → Form
form digits fewest most = record { digits = digits; fewest = fewest; most = most }

abbrev pub form_of : Word → Form
form_of Size = form 2 2 2
form_of Peek = form 3 3 3
form_of Sum = form 1 1 1
form_of Check = form 1 1 1
form_of Interrupt = form 2 2 2
form_of Data = form 3 3 3
form_of Show = form 1 1 1
form_of Help = form 1 1 1
form_of Poke = form 2 3 3
form_of Fresh = form 2 2 2
form_of Load = form 1 1 2
form_of Read = form 3 3 3
form_of Write = form 4 4 4
form_of Reset = form 2 2 2
form_of Timer = form 2 2 2
form_of Step = form 2 2 2
form_of Lap = form 2 2 2

-- the number that is word k; 0 where the numbers end before it
abbrev pub given : Option ℕ → Result ℕ Mistake
given (Some n) = Ok n
given None = Err mistake.Number

unfoldable pub argument : List ℕ → ℕ → ℕ → Result ℕ Mistake
argument line k end = pick (leb end k) (Ok 0) (given (number_of (word line k)))

-- the call, within the limits of the buffer and the list
abbrev pub made : Word → (a b c : ℕ) → Result Call Mistake
made Size a b c = pick (ltb NET a) (Err mistake.Size) (Ok (call.Size a))
made Peek a b c = Ok (call.Peek a b)
made Sum a b c = Ok call.Sum
made Check a b c = Ok call.Check
made Interrupt a b c = Ok (call.Interrupt a)
made Data a b c = Ok (call.Data a b)
made Show a b c = Ok call.Show
made Help a b c = Ok call.Help
made Poke a b c = Ok (call.Poke a)
made Fresh a b c = Ok (call.Fresh a)
made Load a b c = Ok call.Load
made Read a b c = Ok (call.Read a b)
made Write a b c = Ok (call.Write a b c)
made Reset a b c = Ok (call.Reset a)
made Timer a b c = Ok (call.Timer a)
made Step a b c = Ok (call.Step a)
made Lap a b c = pick (ltb LIST a) (Err mistake.Room) (Ok (call.Lap a))

-- a size is within the buffer
abbrev pub Fits : Call → Type 0
Fits (call.Size n) = n ≤ NET
Fits _ = Unit {0}

-- the mistakes of a line with this first word, the first of which is told; or what it asks
abbrev pub with_value : {A B : Type 0} → Result A Mistake → (A → Result B Mistake) → Result B Mistake
with_value (Ok v) f = f v
with_value (Err m) f = Err m

unfoldable pub asked_of : List ℕ → Word → Result Call Mistake
asked_of line w =
    pick (ltb (count line) (form_of w).fewest || ltb (form_of w).most (count line)) (Err mistake.Count)
    (with_value (argument line 1 (form_of w).digits) (λ a.
    with_value (argument line 2 (form_of w).digits) (λ b.
    with_value (argument line 3 (form_of w).digits) (λ c.
    pick (not (hex_fits (word line (form_of w).digits))) (Err mistake.Hex) (made w a b c)))))

-- what a line asks
abbrev pub asks : List ℕ → Option Word → Result Call Mistake
asks line (Some w) = asked_of line w
asks line None = Err mistake.Word

unfoldable pub asked : List ℕ → Result Call Mistake
asked line = pick (not (spaced true line)) (Err mistake.Spaces) (asks line (named (word line 0)))
