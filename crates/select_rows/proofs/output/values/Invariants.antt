use Rattle.std.proofs.Common.{◌≡◌, [], drop, map}
use Rattle.sql_semantics.specs.Eval as eval
use Rattle.expr_eval.specs.Place.{place_of}
use Rattle.select_rows.proofs.output.values.Given as goal

abbrev pub invariant-loop-item : goal.invariant-loop-item
invariant-loop-item l = eval.all_from (place_of l.scope) l.values.items (map (λ i. eval.meaning_of i.0) (drop l.item-index l.item-items)) ≡ eval.all_from (place_of l.scope) [] (map (λ i. eval.meaning_of i.0) l.items)
