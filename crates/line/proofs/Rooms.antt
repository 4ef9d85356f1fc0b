-- What a well-formed network has room for: its header, each of its rows, and all of them. For the search.
-- Assumes nothing.
use Rattle.table.proofs.Shaped.Shapes.{shape_least, shape_within, shape_room}

pub ruleset rooms = (shape_least, shape_within, shape_room)
