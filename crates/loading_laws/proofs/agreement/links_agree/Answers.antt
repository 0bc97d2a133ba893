use Rattle.loading_laws.proofs.Loading.Whole.{links_agree}
use Rattle.loading_laws.proofs.agreement.links_agree.Goals as goal

pub returns : goal.returns
returns c = λ mapped query objects answered w first after lazy place one owner both own settled g. links_agree mapped query objects answered w first after place one owner both own settled lazy g
