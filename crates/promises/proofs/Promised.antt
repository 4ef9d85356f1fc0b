-- Refused calls change nothing, no other byte moves, whom an answer names, a fault that meets nothing does nothing, the sizes of packets, no answer depends on where a row
-- stands, register 4 reads ahead, NAKs are counted, and no second outcome fits a contract.
-- Assumes nothing.
use Rattle.registers.proofs.Values.Fits.{rules_fit}
use Rattle.registers.proofs.Values.Plains.{plain}
use Rattle.registers.proofs.Values.Unrefuseds.{unrefused}
use Rattle.card.proofs.Rows.Rams.{diagnostic_byte}
use Rattle.table.specs.Rows.{row_at}
use Rattle.table.specs.Network.{regs_at}
use Rattle.table.proofs.Access.Refused.{read_refused, write_refused, reset_refused, timer_refused, interrupt_refused, data_refused, fresh_refused}
use Rattle.line.proofs.Steps.Refused.{step_refused}
use Rattle.table.proofs.Shaped.Alike.{bytes_row, bytes_rams}
use Rattle.table.proofs.Access.Others.{read_only, read_header, write_only, reset_only, timer_only}
use Rattle.line.proofs.Steps.StepBy.{frame_step}
use Rattle.line.proofs.Promised.EveryRow.{step_moves}
use Rattle.line.proofs.Change.Made.{row_fits}
use Rattle.line.proofs.Steps.Stepped.{held_row}
use Rattle.line.proofs.Promised.Left.{plain_left}
use Rattle.line.proofs.Promised.TheHolder.{holder_left}
use Rattle.line.proofs.Promised.Who.{step_names}
use Rattle.line.proofs.Promised.Faults.{idle_fault}
use Rattle.card.proofs.CardSums.{data_sizes}
use Rattle.desk.specs.Shuffle.{ShuffledWhole}
use Rattle.desk.specs.Ahead.{ReadsAhead}
use Rattle.desk.specs.Naks.{CountsNaks}
use Rattle.desk.proofs.Loads.Loaded.{load_refused}
use Rattle.desk.proofs.Lapping.LapLeaves.{walk_refused, lap_refused}
use Rattle.desk.proofs.Theorems.Shuffling as desk
use Rattle.desk.proofs.Theorems.Ahead as ahead
use Rattle.desk.proofs.Theorems.Naks as naks
use Rattle.promises.specs.Promises.{RefusalsChangeNothing, NoOtherByte, OutcomesSay, PlainRows, WhoAnswered, UnrefusedRows, IdleFaults, Sizes, OneOutcome}
use Rattle.promises.proofs.Records.{load_unnamed}
use Rattle.promises.proofs.Once.Bits.{bits_once}
use Rattle.promises.proofs.Once.Told.{told_once}
use Rattle.promises.proofs.Once.Queues.{queues_once}
use Rattle.promises.proofs.Once.Commands.{commands_once}
use Rattle.promises.proofs.Once.Registers.{registers_once}
use Rattle.promises.proofs.Once.Card.{card_once}
use Rattle.promises.proofs.Once.Table.{table_once}
use Rattle.promises.proofs.Once.Line.{line_once}
use Rattle.promises.proofs.Once.Orders.{orders_once}
use Rattle.promises.proofs.Once.Desk.{desk_once}
use Rattle.promises.proofs.Once.Words.{words_once}

pub refusals_change_nothing : RefusalsChangeNothing
refusals_change_nothing = record {
  read = read_refused;
  write = write_refused;
  reset = reset_refused;
  timer = timer_refused;
  interrupt = interrupt_refused;
  page_data = data_refused;
  fresh = fresh_refused;
  step_of = step_refused;
  load = λ order net u. (load_refused order net u, load_unnamed order net);
  walk = walk_refused;
  lap = lap_refused;
}

pub no_other_byte : NoOtherByte
no_other_byte = record {
  read = read_only;
  read_header = read_header;
  write = write_only;
  reset = reset_only;
  timer = timer_only;
  step_frame = λ net b s. frame_step net s (bytes_rams net s b);
  step_row = λ net b s. step_moves net s (bytes_rams net s b);
}

pub outcomes_say : OutcomesSay
outcomes_say net b s p = λ fault o e. let l = holder_left net p s (bytes_rams net s b) fault o e in (l, λ c. plain_left _ _ o (row_fits net _ s (held_row net s)) c l)

pub plain_rows : PlainRows
plain_rows net s k l = plain (regs_at net k) (rules_fit (regs_at net k) (row_fits net k s l))

pub who_answered : WhoAnswered
who_answered net b s = step_names net s (bytes_rams net s b)

pub unrefused_rows : UnrefusedRows
unrefused_rows net b s k l = unrefused (regs_at net k) (row_fits net k s l) (diagnostic_byte (row_at net k) (bytes_row net s b k l))

pub idle_faults : IdleFaults
idle_faults = idle_fault

pub sizes : Sizes
sizes = data_sizes

pub shuffled_whole : ShuffledWhole
shuffled_whole = desk.shuffled_whole

pub reads_ahead : ReadsAhead
reads_ahead = ahead.reads_ahead

pub counts_naks : CountsNaks
counts_naks = naks.counts_naks

pub one_outcome : OneOutcome
one_outcome = record { bits = bits_once; told = told_once; queues = queues_once; commands = commands_once; registers = registers_once; card = card_once; table = table_once; line = line_once; orders = orders_once; desk = desk_once; words = words_once }
