use Rattle.table.proofs.Rows.Headers.{header_asked}
use Rattle.table.proofs.network.header_fits.Goals as goal

pub returns : goal.returns
returns c = header_asked _ c.requires _ c.rows-n.ensures.0 _ c.phase.ensures _ c.starts_with.ensures.value _ c.all_zero.ensures _ c.rows_end.ensures
