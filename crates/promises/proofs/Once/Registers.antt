-- No second outcome fits a contract of `registers`.
-- Assumes nothing.
use mathlib.Core.Path.{refl}
use Rattle.told.proofs.Told.One.{number_one}
use Rattle.promises.specs.OfRegisters.{OfRegisters}
use Rattle.promises.proofs.Once.Same.{told, told_by}

pub registers_once : OfRegisters
registers_once = record {
  on_line = (λ _ _. tt, λ _ _ _ _ _ _. told refl);
  fit = (λ _ _. tt, λ _ _ _ _ _ _. told refl);
  hardware_reset = (λ _ _. tt, λ _ _ _ _ _ _. told refl);
  interrupt = (λ _ _. tt, λ _ _ _ _ _ _. told refl);
  pointer = (λ _ _. tt, λ _ _ _ _ _ _. told refl);
  read_fetches = (λ _ _. tt, λ _ _ _ _ _ _. told refl);
  write_fetches = (λ _ _. tt, λ _ _ _ _ _ _. told refl);
  fetched = (λ _ _. tt, λ _ _ _ _ _ _. told refl);
  read_value = (λ _ _. tt, λ _ _ _ _ _ _. told refl);
  after_read = (λ _ _. tt, λ _ _ _ _ _ _. told refl);
  after_write = (λ _ _. tt, λ _ _ _ _ _ _. told refl);
  no_register = (λ _ _. tt, λ _ _ _ _ _ _. told refl);
  may_read = (λ _ _. tt, λ _ _ _ _ _ _. told_by number_one refl);
  may_write = (λ _ _. tt, λ _ _ _ _ _ _. told_by number_one refl);
  burst = (λ _ _. tt, λ _ _ _ _ _ _. told refl);
  recovered = (λ _ _. tt, λ _ _ _ _ _ _. told refl);
  heard = (λ _ _. tt, λ _ _ _ _ _ _. told refl);
  answered = (λ _ _. tt, λ _ _ _ _ _ _. told refl);
  risen_nid = (λ _ _. tt, λ _ _ _ _ _ _. told refl);
  cancelled = (λ _ _. tt, λ _ _ _ _ _ _. told refl);
  sent = (λ _ _. tt, λ _ _ _ _ _ _. told refl);
  enquired = (λ _ _. tt, λ _ _ _ _ _ _. told refl);
  received = (λ _ _. tt, λ _ _ _ _ _ _. told refl);
  waiting = (λ _ _. tt, λ _ _ _ _ _ _. told refl);
  takes_broadcasts = (λ _ _. tt, λ _ _ _ _ _ _. told refl);
  page = (λ _ _. tt, λ _ _ _ _ _ _. told refl);
}
