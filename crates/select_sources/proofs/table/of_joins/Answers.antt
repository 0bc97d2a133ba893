use Rattle.std.proofs.Common.{ℕ, List, [], ◌∷◌, ◌++◌, map, append_assoc, ap, ◌∙◌}
use Rattle.expr_types.specs.declared.select.Joined.{Joined}
use Rattle.sql_semantics.specs.Rows as spec
use Rattle.select_sources.proofs.Surveys.{named_in_end, named_more}
use Rattle.select_sources.proofs.table.of_joins.Goals as goal

abbrev tables_in : Joined → List ℕ
tables_in join = join.origin.table.0 ∷ spec.exists_tables join.on

pub loop-join-preserved : goal.loop-join-preserved
loop-join-preserved c =
    named_more tables_in c.as_slice-join-items.result.now c.loop-join.join-index c.join-item.result c.loop-join.found.items c.named.new.found.items (c.args.found.now.items ++ spec.flat (map tables_in c.args.joins.now)) c.loop-join-test.true c.join-item.is
    (c.in_ok-named.ensures ∙ ap (λ numbers. numbers ++ spec.exists_tables c.join-item.result.on) c.in_ok-push.ensures.items ∙ append_assoc c.loop-join.found.items (c.join-item.result.origin.table.0 ∷ []) (spec.exists_tables c.join-item.result.on)) c.loop-join.invariant

pub returns : goal.returns
returns c = named_in_end tables_in c.as_slice-join-items.result.now c.loop-join.join-index c.loop-join.found.items (c.args.found.now.items ++ spec.flat (map tables_in c.args.joins.now)) c.loop-join-test.false c.loop-join.invariant
