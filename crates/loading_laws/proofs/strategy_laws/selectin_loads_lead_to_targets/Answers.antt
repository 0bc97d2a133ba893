use Rattle.loading_laws.proofs.Strategies.Together.{selectin_leads}
use Rattle.loading_laws.proofs.strategy_laws.selectin_loads_lead_to_targets.Goals as goal

pub returns : goal.returns
returns c = λ mapped relation place owners owner all w after one stage pointing among g. selectin_leads mapped relation place owners owner all w after one stage pointing among g
