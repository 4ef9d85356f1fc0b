use Rattle.card.specs.Row.{put_regs}
use Rattle.table.proofs.Rows.Walks.{walked_lies, row_done_lem}
use Rattle.table.proofs.network.put_regs.Goals as goal

pub returns : goal.returns
returns c = row_done_lem _ _ _ _ (walked_lies _ _ _ c.row_start-a.ensures c.requires _ c.row_end-e.ensures) (λ r. put_regs r c.args.g) _ c.store.ensures
