use Rattle.std.proofs.Common.{[]}
use Rattle.table_laws.proofs.Keeping.{joined_all, mapped_all}
use Rattle.table_laws.proofs.filters.given_are_joined.Goals as goal

pub returns-clause-lists : goal.returns-clause-lists
returns-clause-lists g c = λ f value xs all. joined_all f value [] xs all

pub returns-clause-items : goal.returns-clause-items
returns-clause-items g c = λ f value xs all. mapped_all f value [] xs all
