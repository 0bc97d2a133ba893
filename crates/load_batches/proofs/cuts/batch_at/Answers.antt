use Rattle.load_batches.proofs.CutSteps.{batch_cut}
use Rattle.load_batches.proofs.cuts.batch_at.Goals as goal

pub returns : goal.returns
returns g c = batch_cut c.args.items.now c.rest_from-rest.result.now c.args.start c.min.result c.rest_from-rest.ensures c.min.ensures
