-- A host's calls are those of the contracts.
-- Assumes nothing.
use mathlib.Core.Path.{refl, ap}
use Rattle.desk.specs.Host.{Number, Register, Line, Stepped}
use Rattle.promises.specs.OfHost.{OfHost}

pub host_calls : OfHost
host_calls = record {
  read = λ κs a x w p. (ap Register p.0, p.1);
  write = λ κs a x w p b. (ap Number p.0, p.1);
  reset = λ κs a x w p. (ap Number p.0, p.1);
  timer = λ κs a x w p. (ap Number p.0, p.1);
  interrupt = λ κs a x w p. (ap Line p, refl);
  may_read_data = λ κs a x w p. (ap Number p, refl);
  page_data = λ κs a x w p. ((rw p.0, refl), p.1);
  step_of = λ κs a x w p. (ap Stepped p.0, p.1);
  lap = λ κs a x w p. ((rw p.0.0, p.0.1), p.0.2);
}
