use Rattle.load_batches.proofs.CutSteps.{rest_cut}
use Rattle.load_batches.proofs.cuts.rest_from.Goals as goal

pub returns : goal.returns
returns g c = rest_cut c.args.items.now c.args.start c.min.result c.min.ensures
