use Rattle.session_laws.proofs.Health.Telling.{told_healthy}
use Rattle.session_laws.proofs.healthy_laws.what_is_told_stays_healthy.Goals as goal

pub returns : goal.returns
returns g c = λ view m own now old new told result is healthy whole call. told_healthy g.K.Keeper.moment view m own now old new told result is healthy whole call
