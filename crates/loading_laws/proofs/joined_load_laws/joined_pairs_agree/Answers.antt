use Rattle.loading_laws.proofs.Joined.Agree.{pairs_agree}
use Rattle.loading_laws.proofs.joined_load_laws.joined_pairs_agree.Goals as goal

pub returns : goal.returns
returns c = λ mapped query far plain joined all objects answered w first after lazy row place one owner loaded stage holding g. pairs_agree mapped query plain joined all objects answered w first after row place one owner loaded far lazy stage holding g
