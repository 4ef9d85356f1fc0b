-- C-24: any call of a network and of its rows in another order, and so any sequence of calls.
-- Assumes nothing.
use mathlib.Core.Path.{◌≡◌, refl, ◌∙◌, ap}
use mathlib.Core.Bool.{Bool, true}
use mathlib.Core.List.{List, [], ◌∷◌, map}
use Prim.Native.Nat.{ℕ}
use Rattle.table.specs.Network.{shape, OnlyRow}
use Rattle.table.specs.Shuffle.{Shuffle, shuffled}
use Rattle.table.proofs.Shaped.Alike.{Rams, Good, bytes_rams}
use Rattle.table.proofs.Access.ShapeCalls.{shape_read, shape_write, shape_reset, shape_timer}
use Rattle.table.proofs.Access.RamsKept.{rams_read, rams_write, rams_reset, rams_timer}
use Rattle.table.proofs.Access.Others.{only_rows, read_only, write_only, reset_only, timer_only}
use Rattle.table.proofs.Shuffled.Rows.{shuffled_at}
use Rattle.table.proofs.Shuffled.Shapes.{ends_at}
use Rattle.table.proofs.Shuffled.Calls.{place_number_shuffled, reading_shuffled, read_shuffled, write_number_shuffled, write_shuffled, reset_shuffled, timer_number_shuffled, timer_shuffled, interrupt_shuffled, data_shuffled, data_number_shuffled}
use Rattle.line.specs.Answers.{Answer}
use Rattle.line.specs.Traffic.{Turn}
use Rattle.line.proofs.Shuffled.Steps.{step_shuffled}
use Rattle.desk.specs.Host.{Call, At, Read, Write, Reset, Timer, Interrupt, Data, DataNumber, Step, Lap, Number, Register, Line, Stepped, replied, called, replies, table}
use Rattle.desk.specs.Shuffle.{call_to, reply_to, ShuffledWhole}
use Rattle.desk.proofs.Lapping.Shuffled.{good_step, good_lap, lapped_shuffled, lap_shuffled, entries_shuffled}

-- a call leaves a network that the next may be made of, where it leaves all rows but one
good_row : {n k : ℕ} {net new : List ℕ} {moves : ℕ → Bool} → Good n net → OnlyRow net new k moves → shape new ≡ true → Rams new → Good n new
good_row g o s b = record { fits = s; rams = b; count = only_rows o ∙ g.count }

pub good_called : {n : ℕ} (net : List ℕ) → Good n net → (c : Call) → Good n (called c net)
good_called net g (At k (Read r)) = good_row g (read_only net k r) (shape_read net g.fits k r) (rams_read net g.fits g.rams k r)
good_called net g (At k (Write r v b)) = good_row g (write_only net k r v) (shape_write net g.fits k r v) (rams_write net g.fits g.rams k r v b)
good_called net g (At k Reset) = good_row g (reset_only net k) (shape_reset net g.fits k) (rams_reset net g.fits g.rams k)
good_called net g (At k Timer) = good_row g (timer_only net k) (shape_timer net g.fits k) (rams_timer net g.fits g.rams k)
good_called net g (At k Interrupt) = g
good_called net g (At k (Data p)) = g
good_called net g (At k (DataNumber p)) = g
good_called net g (Step fault) = good_step net g fault
good_called net g (Lap room) = good_lap net g room

module _ {n : ℕ} (q : Shuffle n) where
  module _ (net : List ℕ) (g : Good n net) where
    replied_shuffled : (c : Call) → replied (call_to q.to c) (shuffled q net) ≡ reply_to q.to (replied c net)
    replied_shuffled (At k (Read r)) = ap Register (reading_shuffled q net g.fits g.count k r)
    replied_shuffled (At k (Write r v b)) = ap Number (write_number_shuffled q net g.fits g.count k r v)
    replied_shuffled (At k Reset) = ap Number (place_number_shuffled q net g.fits g.count k)
    replied_shuffled (At k Timer) = ap Number (timer_number_shuffled q net g.fits g.count k)
    replied_shuffled (At k Interrupt) = ap Line (interrupt_shuffled q net g.fits g.count k)
    replied_shuffled (At k (Data p)) = rw (shuffled_at q net (ends_at q net g.fits g.count) k, data_shuffled q net g.fits g.count k p)
    replied_shuffled (At k (DataNumber p)) = ap Number (data_number_shuffled q net g.fits g.count k p)
    replied_shuffled (Step fault) = ap (λ (t : Turn Answer). Stepped t.answer) (step_shuffled q net g fault)
    replied_shuffled (Lap room) = rw (lapped_shuffled q net g room, entries_shuffled q net g room)

    called_shuffled : (c : Call) → called (call_to q.to c) (shuffled q net) ≡ shuffled q (called c net)
    called_shuffled (At k (Read r)) = read_shuffled q net g.fits g.count k r
    called_shuffled (At k (Write r v b)) = write_shuffled q net g.fits g.count k r v
    called_shuffled (At k Reset) = reset_shuffled q net g.fits g.count k
    called_shuffled (At k Timer) = timer_shuffled q net g.fits g.count k
    called_shuffled (At k Interrupt) = refl
    called_shuffled (At k (Data p)) = refl
    called_shuffled (At k (DataNumber p)) = refl
    called_shuffled (Step fault) = ap (λ (t : Turn Answer). t.after) (step_shuffled q net g fault)
    called_shuffled (Lap room) = lap_shuffled q net g room

  calls_shuffled : (l : List Call) (net : List ℕ) → Good n net
      → (replies (map (call_to q.to) l) (shuffled q net) ≡ map (reply_to q.to) (replies l net)) × (table (map (call_to q.to) l) (shuffled q net) ≡ shuffled q (table l net))
  unfolding replies table
  calls_shuffled [] net g = (refl, refl)
  calls_shuffled (c ∷ l) net g =
      let here = called_shuffled net g c in
      let rest = calls_shuffled l (called c net) (good_called net g c) in
      (rw (replied_shuffled net g c, here) (ap (reply_to q.to (replied c net) ∷◌) rest.0), ap (table (map (call_to q.to) l)) here ∙ rest.1)

pub shuffled_whole : ShuffledWhole
shuffled_whole net b s q l = calls_shuffled q l net (record { fits = s; rams = bytes_rams net s b; count = refl })
