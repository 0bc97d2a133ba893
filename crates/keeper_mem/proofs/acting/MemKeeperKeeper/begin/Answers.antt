-- A fault, or memory that ran out, ends the call.
use Rattle.statement_log.specs.Logged.{start_of}
use Rattle.table_log.specs.Marks.{place_added}
use Rattle.std.proofs.Common.{◌∷◌, length, ap, ◌∙◌}
use Rattle.keeper_mem.specs.Kept.{Kept, call_ended, sent_by}
use Rattle.keeper_mem.proofs.Keeping.{began, faulted, ran_out}
use Rattle.keeper_mem.proofs.acting.MemKeeperKeeper.begin.Goals as goal

pub returns-in_default-clause-call : goal.returns-in_default-clause-call
returns-in_default-clause-call c = faulted c.requires.attached c.count_call.ensures.small.0 c.in_default.ensures.err.2

pub returns-in_default-start_scope-clause-call : goal.returns-in_default-start_scope-clause-call
returns-in_default-start_scope-clause-call c = ran_out c.requires.attached (c.give_up.ensures ∙ ap call_ended (c.in_default-start_scope.ensures.err ∙ c.in-Ok.ensures.ok.1))

pub returns-clause-call : goal.returns-clause-call
returns-clause-call c =
    began (place_added c.args.self.now.marks) c.args.self.now c.start_scope.new.self c.requires.attached c.requires.outside
    (c.in-Ok-start_scope.ensures.ok ∙ ap (λ (k : Kept). sent_by k (start_of (length k.store.scopes)) (record { tables = k.store.tables; scopes = k.store.tables ∷ k.store.scopes }) (place_added k.marks)) c.in-Ok.ensures.ok.1)
