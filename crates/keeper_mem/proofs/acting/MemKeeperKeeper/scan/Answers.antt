-- A fault, or memory that ran out, ends the call; what is found is a table's rows.
use Rattle.std.proofs.Common.{ap, map, ◌∙◌}
use Rattle.std.specs.Option.{option_map}
use Rattle.schema_core.specs.Tables.{rows_in}
use Rattle.keeper_mem.specs.Kept.{Kept, call_ended}
use Rattle.keeper_mem.proofs.Keeping.{faulted, ran_out}
use Rattle.keeper_mem.proofs.Scanned.{scanned_kinds}
use Rattle.keeper_mem.proofs.acting.MemKeeperKeeper.scan.Goals as goal

pub returns-in_default-clause-call : goal.returns-in_default-clause-call
returns-in_default-clause-call c = faulted c.requires.attached c.count_call.ensures.small.0 c.in_default.ensures.err.2

pub returns-in_default-rows-clause-call : goal.returns-in_default-rows-clause-call
returns-in_default-rows-clause-call c = ran_out c.requires.attached (c.give_up.ensures ∙ ap call_ended (c.in-Ok.ensures.ok.1))

pub returns-clause-kinds : goal.returns-clause-kinds
returns-clause-kinds c h =
    scanned_kinds c.args.schema.now c.args.table c.args.self.now c.in-Ok-rows.rows c.requires.attached h
    (c.in-Ok-rows.ensures ∙ ap (λ (kept : Kept). option_map (λ rows. map (λ entry. entry.1) rows) (rows_in kept.store.tables c.args.table)) (c.in-Ok.ensures.ok.1))
