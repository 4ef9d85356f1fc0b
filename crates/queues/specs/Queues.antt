-- C-11, "Two packets queued" (000, "COMMAND CHAINING"), said once for both sides of a card: what waits, the oldest first, and which ends are not cleared yet.
-- Assumes nothing.
use Rattle.std.specs.Prelude.{Bool, true, not, ◌&&◌, ◌||◌, List, [], ◌∷◌, ℕ, ◌+◌, ◌^◌, eqb}
use Rattle.bits.specs.declared.way.Way.{Way}
use Rattle.bits.specs.declared.way.Way.TheVariants.{Transmit, Receive}
use Rattle.queues.specs.declared.queues.Queue.{Queue}
use Rattle.queues.specs.declared.queues.Side.{Side}
use Rattle.bits.specs.Words.{pick, all, clear, has, raise, raise_if, lower, set_to}
use Rattle.bits.specs.Flags.{RI, TMA, TA, CANCEL, LOW2, only, oldest_bits}

-- a side with one of its bytes set to another value: status; 13 or 14, the oldest; 16 or 17, the second; 18 or 19, the ends not cleared
abbrev pub with_status : ℕ → Side → Side
with_status v s = record { status = v; queue = s.queue }

abbrev pub with_oldest : ℕ → Side → Side
with_oldest v s = record { status = s.status; queue = record { oldest = v; second = s.queue.second; done = s.queue.done } }

abbrev pub with_second : ℕ → Side → Side
with_second v s = record { status = s.status; queue = record { oldest = s.queue.oldest; second = v; done = s.queue.done } }

abbrev pub with_done : ℕ → Side → Side
with_done v s = record { status = s.status; queue = record { oldest = s.queue.oldest; second = s.queue.second; done = v } }

-- nothing waits, and nothing is to be cleared
abbrev pub none : Queue
none = record { oldest = 0; second = 0; done = 0 }

-- ---- "two waiting transmits and two waiting receives": TA, or RI, is 0 while one waits
abbrev pub free_flag : Way → ℕ
free_flag Transmit = TA
free_flag Receive = RI

abbrev pub waiting : Way → Side → Bool
waiting w s = clear (free_flag w) s.status

-- "second transmit (bit 7 cancel, 6 waiting, 1-0 page), second receive (bit 7 cancel, 6 broadcasts, 5 waiting, 1-0 page)"
abbrev pub second_flag : Way → ℕ
second_flag Transmit = 2 ^ 6
second_flag Receive = 2 ^ 5

abbrev pub two : Way → Queue → Bool
two w q = has (second_flag w) q.second

-- "BUSY comes at the third Enable"; with CCHEN 0 at the second, "Enable with TA (RI) 0"
abbrev pub full : Way → Bool → Side → Bool
full w chaining s = pick chaining (two w s.queue) (waiting w s)

-- ---- "TTA and TRI set on completion": an end is not cleared yet
abbrev pub uncleared : Queue → Bool
uncleared q = has LOW2 q.done

-- "uncleared transmit completions 0-2 with the stored one's TMA in bit 7"
abbrev pub KEPT : ℕ
KEPT = 2 ^ 7

abbrev pub stored : Way → Bool → ℕ
stored Transmit acknowledged = raise_if acknowledged KEPT 2
stored Receive acknowledged = 2

-- what an end shows in the status: "TMA = 1", or "TMA = 0"; of a receive nothing
abbrev pub shows : Way → Bool → ℕ → ℕ
shows Transmit acknowledged x = set_to acknowledged TMA x
shows Receive acknowledged x = x

-- "the status of the first kept": it is shown; that of another end is stored, in the place of one that is stored already
abbrev pub completed : Way → Bool → Bool → Side → Side
completed w chaining acknowledged s =
    pick (chaining && uncleared s.queue) (with_done (stored w acknowledged) s)
    (with_done (pick chaining 1 s.queue.done) (with_status (shows w acknowledged s.status) s))

-- ".. until Clear Transmit Interrupt (00) or Clear Receive Interrupt (08)": then the one that is stored is shown, or none
unfoldable pub cleared : Way → Side → Side
cleared w s =
    pick (uncleared s.queue)
    (with_done (pick (has 2 s.queue.done) 1 0) (with_status (shows w (has KEPT s.queue.done) s.status) s)) s

-- ---- Enable: "TA and TMA to 0, byte 13 to the page", but TMA stays with TTA; "RI to 0". In a chaining row, behind one that waits, it is the second
abbrev pub lowered : Way → Queue → ℕ
lowered Transmit q = pick (uncleared q) TA (TA + TMA)
lowered Receive q = RI

unfoldable pub enabled : Way → Bool → ℕ → Side → Side
enabled w chaining entry s =
    pick (chaining && waiting w s) (with_second (raise (second_flag w) entry) s)
    (with_status (lower (lowered w s.queue) s.status) (with_oldest entry s))

-- ---- Disable: "ask a cancel (no effect if TA, or RI, is 1)"; "cancelling the oldest", of those not yet marked
unfoldable pub disabled : Way → Side → Side
disabled w s =
    pick (waiting w s)
    (pick (two w s.queue && has CANCEL s.queue.oldest) (with_second (raise CANCEL s.queue.second) s)
    (with_oldest (raise CANCEL s.queue.oldest) s)) s

-- ---- the oldest goes: the second moves up with its mark; where none waits behind it, TA, or RI, is 1 and its byte zero
abbrev pub moved_up : Way → Queue → ℕ
moved_up w q = lower (second_flag w) q.second

abbrev pub gone : Way → Side → Side
gone w s =
    pick (two w s.queue) (with_oldest (moved_up w s.queue) (with_second 0 s))
    (with_status (raise (free_flag w) s.status) (with_oldest 0 s))

-- "oldest served first": it ends, and that is a completion
unfoldable pub ended : Way → Bool → Bool → Side → Side
ended w chaining acknowledged s = gone w (completed w chaining acknowledged s)

-- "cancels asked .. take effect": the second goes where it is marked, and the oldest where it is; no completion
abbrev pub second_cancelled : Side → Side
second_cancelled s = with_second (pick (clear CANCEL s.queue.second) s.queue.second 0) s

unfoldable pub cancelled : Way → Side → Side
cancelled w s = pick (clear CANCEL s.queue.oldest) (second_cancelled s) (gone w (second_cancelled s))

-- ---- "well-formedness gains their rules"
abbrev pub second_bits : Way → ℕ
second_bits w = raise (second_flag w) (oldest_bits w)

-- at most two ends are not cleared, and TMA is stored of the second alone
abbrev pub counted : Way → ℕ → Bool
counted Transmit n = eqb n 0 || eqb n 1 || eqb n 2 || eqb n (KEPT + 2)
counted Receive n = eqb n 0 || eqb n 1 || eqb n 2

-- "TMA = 1 only with TA = 1", or with TTA
abbrev pub sound : Way → Side → Bool
sound Transmit s = clear TMA s.status || has TA s.status || uncleared s.queue
sound Receive s = true

-- unnamed bits are zero; "TA = 1 only with byte 13 zero; RI = 1 only with byte 14 zero"; "a second only while the first waits; a byte is zero where nothing
-- waits"; "with long packets 1, an enabled page is even"; "all zero with CCHEN 0"
abbrev pub rules : Way → Bool → ℕ → Side → List Bool
rules w chaining long s =
    only (oldest_bits w) s.queue.oldest ∷ only (second_bits w) s.queue.second ∷ counted w s.queue.done
    ∷ (clear (free_flag w) s.status || eqb s.queue.oldest 0)
    ∷ (eqb s.queue.second 0 || waiting w s && two w s.queue)
    ∷ (not (eqb long 1) || has (free_flag w) s.status || clear 1 s.queue.oldest) ∷ (not (eqb long 1) || clear 1 s.queue.second)
    ∷ (chaining || eqb s.queue.second 0 && eqb s.queue.done 0)
    ∷ sound w s ∷ []

unfoldable pub fit : Way → Bool → ℕ → Side → Bool
fit w chaining long s = all (rules w chaining long s)
