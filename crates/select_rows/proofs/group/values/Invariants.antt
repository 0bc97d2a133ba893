use Rattle.std.proofs.Common.{◌≡◌, [], drop, map}
use Rattle.sql_semantics.specs.Eval as eval
use Rattle.expr_eval.specs.Place.{place_of}
use Rattle.select_rows.proofs.group.values.Given as goal

abbrev pub invariant-loop-e : goal.invariant-loop-e
invariant-loop-e l = eval.all_from (place_of l.scope) l.values.items (map eval.meaning_of (drop l.e-index l.e-items)) ≡ eval.all_from (place_of l.scope) [] (map eval.meaning_of l.expressions)
