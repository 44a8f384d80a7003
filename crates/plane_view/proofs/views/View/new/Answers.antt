use Rattle.plane_view.proofs.Parts.{part_whole}
use Rattle.plane_view.proofs.views.View.new.Goals as goal

pub returns : goal.returns
returns c = part_whole (record { rect = c.args.rect; planes = c.args.planes; samples = c.args.samples.now }) c.requires
