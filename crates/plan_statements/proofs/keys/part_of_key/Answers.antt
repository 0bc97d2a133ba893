use Rattle.std.proofs.Common.{sym, ◌∙◌}
use Rattle.std.proofs.lemmas.Result.{IfOk-weaker}
use Rattle.plan_statements.proofs.KeyLemmas.{part_known, part_unknown}
use Rattle.plan_statements.proofs.keys.part_of_key.Goals as goal

pub returns-in-Some : goal.returns-in-Some
returns-in-Some c =
    IfOk-weaker c.value_or_null.result _ _ (λ copy is. is ∙ part_known c.args.known.now c.args.place c.args.part c.in-Some.key.now _ (sym c.in-Some.ensures) c.get-in-Some.ensures) c.value_or_null.ensures

pub returns-in-None : goal.returns-in-None
returns-in-None c = part_unknown c.args.known.now c.args.place c.args.part (sym c.in-None.ensures)
