use Rattle.loading_laws.proofs.Loading.Whole as proof
use Rattle.loading_laws.proofs.agreement.loads_answer_alike.Goals as goal

pub returns : goal.returns
returns c = λ mapped query objects answered w first after both. proof.loads_answer_alike mapped query objects answered w first after both
