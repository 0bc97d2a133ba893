-- A fault, or memory that ran out, ends the call.
use Rattle.std.proofs.Common.{◌≡◌, true, rules, sym, ap, ◌∙◌}
use Rattle.schema_core.specs.Tables.{is_created}
use Rattle.keeper_core.specs.declared.sent.Sent.TheVariants as sent
use Rattle.keeper_core.specs.Store.{without_table}
use Rattle.keeper_mem.specs.Kept.{Kept, call_ended, sent_by}
use Rattle.keeper_mem.proofs.Keeping.{faulted, ran_out, removed}
use Rattle.keeper_mem.proofs.acting.MemKeeperKeeper.drop_table.Goals as goal

pub returns-in_default-clause-call : goal.returns-in_default-clause-call
returns-in_default-clause-call c = faulted c.requires.attached c.count_call.ensures.small.0 c.in_default.ensures.err.2

pub returns-in_default-remove_table-clause-call : goal.returns-in_default-remove_table-clause-call
returns-in_default-remove_table-clause-call c = ran_out c.requires.attached (c.give_up.ensures ∙ ap call_ended (c.in_default-remove_table.ensures.err ∙ c.in-Ok.ensures.ok.1))

pub returns-clause-call : goal.returns-clause-call
returns-clause-call c =
    let found : c.has_table.result ≡ true = search rules in
    let there : is_created c.args.self.now.store.tables c.args.table ≡ true = sym (ap (λ (k : Kept). is_created k.store.tables c.args.table) c.in-Ok.ensures.ok.1) ∙ sym c.has_table.ensures ∙ found in
    removed c.args.table c.args.self.now.marks c.args.self.now c.remove_table.new.self c.requires.attached c.requires.outside there
    (c.in-Ok-remove_table.ensures.ok ∙ ap (λ (k : Kept). sent_by k (sent.Drop c.args.table) (record { tables = without_table k.store.tables c.args.table; scopes = k.store.scopes }) k.marks) c.in-Ok.ensures.ok.1)
