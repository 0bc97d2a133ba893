use Rattle.loading_laws.proofs.Strategies.Together.{lead_alike}
use Rattle.loading_laws.proofs.strategy_laws.strategies_lead_alike.Goals as goal

pub returns : goal.returns
returns c = λ mapped relation place owners owner all w lazy together one stage pointing among g h. lead_alike mapped relation place owners owner all w lazy together one stage pointing among g h
