-- "No second outcome fits", over the contracts of `orders`.
-- Assumes nothing.
use Rattle.orders.specs.contracts as contracts
use Rattle.orders.proofs.bad as bad
use Rattle.orders.proofs.form as form
use Rattle.orders.proofs.check as check
use Rattle.promises.specs.Once.{Fixed, OnceBy, Once, SamePart}

pub record OfOrders : Type 0 where
  pub records : Once contracts.form.records.ended form.records.Reads.Asked form.records.Reads.Learnt
  pub id_at : Fixed contracts.form.id_at.ended form.id_at.Reads.Learnt
  pub flags_at : Fixed contracts.form.flags_at.ended form.flags_at.Reads.Learnt
  pub printable : Once contracts.form.printable.ended form.printable.Reads.Asked form.printable.Reads.Learnt
  pub record_of : Fixed contracts.form.record_of.ended form.record_of.Reads.Learnt
  pub name_at : OnceBy contracts.form.name_at.ended (λ κs. SamePart) form.name_at.Reads.Asked form.name_at.Reads.Learnt
  pub from : Once contracts.bad.BadFromRefusal.from.ended bad.BadFromRefusal.from.Reads.Asked bad.BadFromRefusal.from.Reads.Learnt
  pub check : Once contracts.check.check.ended check.check.Reads.Asked check.check.Reads.Learnt
