use Rattle.loading_laws.proofs.MainSelects.Unjoined.{plain_query}
use Rattle.loading_laws.proofs.plain_loads.queries_are_plain.Goals as goal

pub returns : goal.returns
returns c = λ mapped query world none. plain_query mapped query world none
