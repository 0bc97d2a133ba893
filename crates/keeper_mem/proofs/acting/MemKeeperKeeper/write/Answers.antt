-- A fault ends the call; else what was done with the statement is what the call ensures.
use Rattle.std.proofs.Common.{refl}
use Rattle.keeper_core.specs.declared.sent.Sent.TheVariants as sent
use Rattle.keeper_core.specs.Calls as call
use Rattle.row_statements.specs.Held.{rows_changed}
use Rattle.keeper_mem.proofs.Keeping.{statement_faulted, statement_marked, statement_ran}
use Rattle.keeper_mem.proofs.acting.MemKeeperKeeper.write.Goals as goal

pub returns-in_default-clause-call : goal.returns-in_default-clause-call
returns-in_default-clause-call c = statement_faulted c.requires.attached c.count_call.ensures.small.0 tt c.in_default.ensures.err.2

pub returns-clause-call : goal.returns-clause-call
returns-clause-call c = statement_ran _ _ _ _ _ _ _ _ c.requires.attached c.count_call.ensures.small.1 c.in-Ok.ensures.ok.1 c.write_row.ensures.refuses c.write_row.ensures.step

pub returns-clause-marks : goal.returns-clause-marks
returns-clause-marks c = statement_marked (call.write c.args.schema.now c.args.statement.now) (sent.Write c.args.statement.now) (λ kept _. rows_changed kept.store.tables c.args.statement.now) _ _ _ _ c.requires.attached c.requires.inside c.in-Ok.ensures.ok.1 refl c.write_row.ensures.step
