-- A fault ends the call.
use Rattle.std.proofs.Common.{[], ap, ◌∙◌}
use Rattle.keeper_core.specs.declared.sent.Sent.TheVariants as sent
use Rattle.table_log.specs.Marks.{no_marks}
use Rattle.keeper_mem.specs.Kept.{Kept, sent_by}
use Rattle.keeper_mem.proofs.Keeping.{committed, faulted}
use Rattle.keeper_mem.proofs.acting.MemKeeperKeeper.commit.Goals as goal

pub returns-in_default-clause-call : goal.returns-in_default-clause-call
returns-in_default-clause-call c = faulted c.requires.attached c.count_call.ensures.small.0 c.in_default.ensures.err.2

pub returns-clause-call : goal.returns-clause-call
returns-clause-call c =
    committed no_marks c.args.self.now c.keep_all.new.self c.requires.attached (c.keep_all.ensures ∙ ap (λ (k : Kept). sent_by k sent.Commit (record { tables = k.store.tables; scopes = [] }) no_marks) c.in-Ok.ensures.ok.1)
