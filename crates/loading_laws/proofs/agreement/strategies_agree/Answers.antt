use Rattle.loading_laws.proofs.Loading.Strategies as proof
use Rattle.loading_laws.proofs.agreement.strategies_agree.Goals as goal

pub returns : goal.returns
returns c = λ mapped query links objects answered together w first lazy after batch each step. proof.strategies_agree mapped query links objects answered together w first lazy after batch each step
