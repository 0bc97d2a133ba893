use Rattle.loading_laws.proofs.ToOne.Legal.{legal_ordered}
use Rattle.loading_laws.proofs.to_one_laws.legal_tables_are_in_key_order.Goals as goal

pub returns : goal.returns
returns c = legal_ordered
