use Rattle.std.proofs.Common.{◌∙◌}
use Rattle.std.proofs.lemmas.Result.{IfOk-weaker}
use Rattle.object_rows.proofs.ObjectSteps.{names_made}
use Rattle.object_rows.proofs.names.new_names.Goals as goal

pub returns-clause-made : goal.returns-clause-made
returns-clause-made c = IfOk-weaker c.new.result _ _ (λ names same. names_made c.args.mapping.now c.args.arena.now c.args.prepared.now names (same ∙ c.in_ok-names.ensures)) c.new.ensures
