use Rattle.std.proofs.Common.{ℕ, List, Option, ◌++◌, map}
use Rattle.expr_types.specs.declared.expr.Expr.{Expr}
use Rattle.base_core.specs.declared.text.Name.{Name}
use Rattle.sql_semantics.specs.Rows as spec
use Rattle.select_sources.proofs.Surveys.{named_in_end, named_more}
use Rattle.select_sources.proofs.table.of_items.Goals as goal

abbrev tables_in : Expr × Option Name → List ℕ
tables_in item = spec.exists_tables item.0

pub loop-item-preserved : goal.loop-item-preserved
loop-item-preserved c =
    named_more tables_in c.as_slice-item-items.result.now c.loop-item.item-index c.item-item.result c.loop-item.found.items c.named.new.found.items (c.args.found.now.items ++ spec.flat (map tables_in c.args.items.now)) c.loop-item-test.true c.item-item.is
    c.in_ok-named.ensures c.loop-item.invariant

pub returns : goal.returns
returns c = named_in_end tables_in c.as_slice-item-items.result.now c.loop-item.item-index c.loop-item.found.items (c.args.found.now.items ++ spec.flat (map tables_in c.args.items.now)) c.loop-item-test.false c.loop-item.invariant
