use Rattle.std.proofs.Common.{replicate, ap, ◌∙◌}
use Rattle.card.proofs.Words.Zeros.{created}
use Rattle.card.proofs.row.create.Goals as goal

pub returns : goal.returns
returns c =
    c.store.ensures
    ∙ created _ _ _ c.copy_from_slice.ensures.after (c.fill_zero.ensures ∙ ap (λ n. replicate n 0) c.requires) c.hardware_reset.ensures
