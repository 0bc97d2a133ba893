use Rattle.loading_laws.proofs.MainSelects.Unjoined.{own_select}
use Rattle.loading_laws.proofs.plain_loads.main_selects_stay.Goals as goal

pub returns : goal.returns
returns c = λ mapped query none. own_select mapped query none
