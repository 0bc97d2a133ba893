use Rattle.table_laws.specs.Legality.{IsLegalStore}
use Rattle.table_laws.proofs.EachJoin.{keeps_by_own, keeps_changes, keeps_on_own, keeps_on_store}
use Rattle.table_laws.proofs.joined.programs_beside_keep_legal.Goals as goal

pub returns-clause-on_store : goal.returns-clause-on_store
returns-clause-on_store g c = λ schema note m first. keeps_on_store (IsLegalStore schema) note m first

pub returns-clause-on_own : goal.returns-clause-on_own
returns-clause-on_own g c = λ schema m. keeps_on_own (IsLegalStore schema) m

pub returns-clause-changes : goal.returns-clause-changes
returns-clause-changes g c = λ schema f. keeps_changes (IsLegalStore schema) f

pub returns-clause-by_own : goal.returns-clause-by_own
returns-clause-by_own g c = λ schema choose one. keeps_by_own (IsLegalStore schema) choose one
