-- "No second outcome fits", over the contracts of `registers`.
-- Assumes nothing.
use Rattle.registers.specs.contracts as contracts
use Rattle.registers.proofs.regs.Regs as regs
use Rattle.promises.specs.Once.{Once}

pub record OfRegisters : Type 0 where
  pub on_line : Once contracts.regs.Regs.on_line.ended regs.on_line.Reads.Asked regs.on_line.Reads.Learnt
  pub fit : Once contracts.regs.Regs.fit.ended regs.fit.Reads.Asked regs.fit.Reads.Learnt
  pub hardware_reset : Once contracts.regs.Regs.hardware_reset.ended regs.hardware_reset.Reads.Asked regs.hardware_reset.Reads.Learnt
  pub interrupt : Once contracts.regs.Regs.interrupt.ended regs.interrupt.Reads.Asked regs.interrupt.Reads.Learnt
  pub pointer : Once contracts.regs.Regs.pointer.ended regs.pointer.Reads.Asked regs.pointer.Reads.Learnt
  pub read_fetches : Once contracts.regs.Regs.read_fetches.ended regs.read_fetches.Reads.Asked regs.read_fetches.Reads.Learnt
  pub write_fetches : Once contracts.regs.Regs.write_fetches.ended regs.write_fetches.Reads.Asked regs.write_fetches.Reads.Learnt
  pub fetched : Once contracts.regs.Regs.fetched.ended regs.fetched.Reads.Asked regs.fetched.Reads.Learnt
  pub read_value : Once contracts.regs.Regs.read_value.ended regs.read_value.Reads.Asked regs.read_value.Reads.Learnt
  pub after_read : Once contracts.regs.Regs.after_read.ended regs.after_read.Reads.Asked regs.after_read.Reads.Learnt
  pub after_write : Once contracts.regs.Regs.after_write.ended regs.after_write.Reads.Asked regs.after_write.Reads.Learnt
  pub no_register : Once contracts.regs.Regs.no_register.ended regs.no_register.Reads.Asked regs.no_register.Reads.Learnt
  pub may_read : Once contracts.regs.Regs.may_read.ended regs.may_read.Reads.Asked regs.may_read.Reads.Learnt
  pub may_write : Once contracts.regs.Regs.may_write.ended regs.may_write.Reads.Asked regs.may_write.Reads.Learnt
  pub burst : Once contracts.regs.Regs.burst.ended regs.burst.Reads.Asked regs.burst.Reads.Learnt
  pub recovered : Once contracts.regs.Regs.recovered.ended regs.recovered.Reads.Asked regs.recovered.Reads.Learnt
  pub heard : Once contracts.regs.Regs.heard.ended regs.heard.Reads.Asked regs.heard.Reads.Learnt
  pub answered : Once contracts.regs.Regs.answered.ended regs.answered.Reads.Asked regs.answered.Reads.Learnt
  pub risen_nid : Once contracts.regs.Regs.risen_nid.ended regs.risen_nid.Reads.Asked regs.risen_nid.Reads.Learnt
  pub cancelled : Once contracts.regs.Regs.cancelled.ended regs.cancelled.Reads.Asked regs.cancelled.Reads.Learnt
  pub sent : Once contracts.regs.Regs.sent.ended regs.sent.Reads.Asked regs.sent.Reads.Learnt
  pub enquired : Once contracts.regs.Regs.enquired.ended regs.enquired.Reads.Asked regs.enquired.Reads.Learnt
  pub received : Once contracts.regs.Regs.received.ended regs.received.Reads.Asked regs.received.Reads.Learnt
  pub waiting : Once contracts.regs.Regs.waiting.ended regs.waiting.Reads.Asked regs.waiting.Reads.Learnt
  pub takes_broadcasts : Once contracts.regs.Regs.takes_broadcasts.ended regs.takes_broadcasts.Reads.Asked regs.takes_broadcasts.Reads.Learnt
  pub page : Once contracts.regs.Regs.page.ended regs.page.Reads.Asked regs.page.Reads.Learnt
