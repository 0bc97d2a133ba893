use Rattle.loading_laws.proofs.Loading.First.{leaves_ready}
use Rattle.loading_laws.proofs.agreement.own_selects_leave_ready.Goals as goal

pub returns : goal.returns
returns c = λ mapped query objects w first readable g. leaves_ready mapped query w readable objects first g
