use Rattle.bench.proofs.Handing.{loop_part}
use Rattle.bench.proofs.states.Form.part.Goals as goal

pub returns-in-Break : goal.returns-in-Break
returns-in-Break c =
    loop_part c.args.self.kind c.args.self.count c.args.self.stem c.args.table.now c.in-Break.is c.requires.placed
