use Rattle.session_tests.proofs.OneCell.{one_cell}
use Rattle.session_tests.proofs.counting.WholeBase.shape.Goals as goal

pub returns-clause-cells : goal.returns-clause-cells
returns-clause-cells c = one_cell c.args.self.now.shape c.args.self.now.limits
