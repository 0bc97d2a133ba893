use Rattle.loading_laws.proofs.Strategies.Targets.{lazy_leads}
use Rattle.loading_laws.proofs.strategy_laws.lazy_loads_lead_to_targets.Goals as goal

pub returns : goal.returns
returns c = λ mapped relation place owner all w after one stage pointing g. lazy_leads mapped relation place owner all w after one stage pointing g
