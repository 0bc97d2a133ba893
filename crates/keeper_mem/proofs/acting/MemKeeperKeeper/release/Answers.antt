-- A fault ends the call.
use Rattle.std.proofs.Common.{◌-◌, length, drop, ap, ◌∙◌}
use Rattle.keeper_core.specs.declared.sent.Sent.TheVariants as sent
use Rattle.keeper_mem.specs.Kept.{Kept, sent_by}
use Rattle.keeper_mem.proofs.Keeping.{faulted, released}
use Rattle.keeper_mem.proofs.acting.MemKeeperKeeper.release.Goals as goal

pub returns-in_default-clause-call : goal.returns-in_default-clause-call
returns-in_default-clause-call c = faulted c.requires.attached c.count_call.ensures.small.0 c.in_default.ensures.err.2

pub returns-clause-call : goal.returns-clause-call
returns-clause-call c =
    released c.end_scope.new.self.marks c.args.self.now c.end_scope.new.self c.requires.attached
    (c.end_scope.ensures.sent ∙ ap (λ (k : Kept). sent_by k (sent.Release (length k.store.scopes - 1)) (record { tables = k.store.tables; scopes = drop 1 k.store.scopes }) c.end_scope.new.self.marks) c.in-Ok.ensures.ok.1)
