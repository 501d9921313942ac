use Rattle.bench.proofs.WorkedExamples.{examples_told}
use Rattle.bench.proofs.examples.examples_hold.Goals as goal

pub returns : goal.returns
returns c = examples_told
