use Rattle.graph_flushed.proofs.Flushes.Fitting.{flushes_fit}
use Rattle.graph_flushed.proofs.fitting_flushes.flushes_fit.Goals as goal

pub returns : goal.returns
returns c = flushes_fit
