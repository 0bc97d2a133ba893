use Rattle.session_laws.proofs.Flushes.Telling.{told_run}
use Rattle.session_laws.proofs.told_flush_laws.a_told_flush_is_its_run.Goals as goal

pub returns : goal.returns
returns g c = λ own now old new told is call. told_run g.K.Keeper.moment own now old new told is call
