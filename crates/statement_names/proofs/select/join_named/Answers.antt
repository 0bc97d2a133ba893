use Rattle.script_names.specs.Naming.{name_faults, source_faults}
use Rattle.statement_names.specs.SelectNames.{join_faults}
use Rattle.script_names.proofs.Firsts.{paired, passed_on}
use Rattle.statement_names.proofs.select.join_named.Goals as goal

pub returns-in_err-origin-clause-told : goal.returns-in_err-origin-clause-told
returns-in_err-origin-clause-told c =
    passed_on c.from_residual.result c.in_err-origin.field-0.0 (join_faults c.args.schema.now c.args.scope.now c.args.join.now) c.from_residual.ensures.1
    (paired c.origin_named.result c.expression_named.result _ (source_faults c.args.schema.now c.args.join.now.source) (name_faults c.args.schema.now c.args.join.now.on c.args.scope.now) c.in_err-origin.ensures.told c.origin_named.ensures.told c.expression_named.ensures.told)
