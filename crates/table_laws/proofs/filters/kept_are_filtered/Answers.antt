use Rattle.std.proofs.Common.{[]}
use Rattle.table_laws.proofs.Keeping.{kept_all, kept_until}
use Rattle.table_laws.proofs.filters.kept_are_filtered.Goals as goal

pub returns-clause-filtered : goal.returns-clause-filtered
returns-clause-filtered g c = λ test value xs all. kept_all test value [] xs all

pub returns-clause-stopped : goal.returns-clause-stopped
returns-clause-stopped g c = λ test value before after x e all is. kept_until test value [] before after x e all is
