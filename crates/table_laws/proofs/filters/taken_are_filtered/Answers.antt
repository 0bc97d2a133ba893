use Rattle.std.proofs.Common.{[]}
use Rattle.table_laws.proofs.Keeping.{deleted_all, updated_all}
use Rattle.table_laws.proofs.filters.taken_are_filtered.Goals as goal

pub returns-clause-deleted : goal.returns-clause-deleted
returns-clause-deleted c = λ tables condition taken rows all. deleted_all tables condition taken [] rows all

pub returns-clause-updated : goal.returns-clause-updated
returns-clause-updated c = λ tables condition taken cells rewritten rows all each. updated_all tables condition taken cells rewritten [] rows all each
