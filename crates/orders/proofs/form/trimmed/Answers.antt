use Rattle.std.proofs.Common.{rules}
use Rattle.orders.proofs.Forms.Names.{trim_to}
use Rattle.orders.proofs.form.trimmed.Goals as goal

pub returns-in-Some-clause-bytes : goal.returns-in-Some-clause-bytes
returns-in-Some-clause-bytes c = trim_to c.args.name.now c.in-Some.last (search rules) (search rules) (search rules)
