use Rattle.std.proofs.Common.{ℕ, Bool, List, ◌++◌, map}
use Rattle.expr_types.specs.declared.expr.Expr.{Expr}
use Rattle.sql_semantics.specs.Rows as spec
use Rattle.select_sources.proofs.Surveys.{named_in_end, named_more}
use Rattle.select_sources.proofs.table.of_order.Goals as goal

abbrev tables_in : Expr × Bool → List ℕ
tables_in key = spec.exists_tables key.0

pub loop-key-preserved : goal.loop-key-preserved
loop-key-preserved c =
    named_more tables_in c.as_slice-key-items.result.now c.loop-key.key-index c.key-item.result c.loop-key.found.items c.named.new.found.items (c.args.found.now.items ++ spec.flat (map tables_in c.args.keys.now)) c.loop-key-test.true c.key-item.is
    c.in_ok-named.ensures c.loop-key.invariant

pub returns : goal.returns
returns c = named_in_end tables_in c.as_slice-key-items.result.now c.loop-key.key-index c.loop-key.found.items (c.args.found.now.items ++ spec.flat (map tables_in c.args.keys.now)) c.loop-key-test.false c.loop-key.invariant
