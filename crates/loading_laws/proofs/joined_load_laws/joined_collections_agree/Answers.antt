use Rattle.loading_laws.proofs.Joined.Agree.{collections_agree}
use Rattle.loading_laws.proofs.joined_load_laws.joined_collections_agree.Goals as goal

pub returns : goal.returns
returns c = λ mapped query plain joined all objects answered w first after lazy row place one owner loaded many stage waiting g. collections_agree mapped query plain joined all objects answered w first after row place one owner loaded lazy many stage waiting g
