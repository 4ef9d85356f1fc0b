use Rattle.std.proofs.Common.{◌∙◌}
use Rattle.orders.proofs.Checks.Tests.{repeats_is}
use Rattle.orders.proofs.check.repeats.Goals as goal

pub returns : goal.returns
returns c = c.is_some.ensures ∙ repeats_is _ _ _ _ c.id_at.ensures c.record_of.ensures
