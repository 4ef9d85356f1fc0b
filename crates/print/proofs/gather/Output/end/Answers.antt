use Rattle.std.proofs.Common.{◌∙◌}
use Rattle.print.proofs.Gathers.{put_room}
use Rattle.print.proofs.gather.Output.end.Goals as goal

pub shared_ref_as_front-write_all : goal.shared_ref_as_front-write_all
shared_ref_as_front-write_all g c = put_room c.args.self.now _ _ (c.self.view_is ∙ c.in_ok-put.ensures.gathered)
