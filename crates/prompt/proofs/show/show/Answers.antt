-- The header and each of the rows are there.
use Rattle.table.proofs.Shaped.Bounds.{bounds}
use Rattle.prompt.proofs.show.show.Goals as goal

pub rows-requires : goal.rows-requires
rows-requires g c = (bounds _ c.requires).header

pub first-requires : goal.first-requires
first-requires g c = (bounds _ c.requires).all _ c.rows.ensures.0

pub phase-requires : goal.phase-requires
phase-requires g c = (bounds _ c.requires).header

pub holder-requires : goal.holder-requires
holder-requires g c = (bounds _ c.requires).header
