use Rattle.loading_laws.proofs.Joined.Agree.{ends_agree}
use Rattle.loading_laws.proofs.joined_load_laws.joined_ends_agree.Goals as goal

pub returns : goal.returns
returns c = λ mapped query plain joined all objects answered w first after lazy row place one owner loaded single stage pointing holds g. ends_agree mapped query plain joined all objects answered w first after row place one owner loaded lazy single stage pointing holds g
