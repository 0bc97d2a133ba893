use Rattle.loading_laws.proofs.Joined.Fills.{joined_leads}
use Rattle.loading_laws.proofs.joined_load_laws.joined_loads_lead_to_targets.Goals as goal

pub returns : goal.returns
returns c = λ mapped query plain joined all answered w after row place owner joining one are refers g own. joined_leads mapped query plain joined all answered w after row place owner joining one are refers g own
