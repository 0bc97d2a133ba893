-- The normal form of a select: that of each of its expressions.
use Rattle.std.specs.Prelude.{map, Option, Some, None}
use Rattle.expr_types.specs.declared.expr.Expr.{Expr}
use Rattle.expr_types.specs.declared.select.Joined.{Joined}
use Rattle.expr_types.specs.declared.select.Select.{Select}
use Rattle.expr_types.specs.Normal.{normal}

abbrev pub normal_where : Option Expr → Option Expr
normal_where None = None
normal_where (Some e) = Some (normal e)

abbrev pub normal_join : Joined → Joined
normal_join join = record join { on = normal join.on }

abbrev pub normal_select : Select → Select
normal_select s = record s {
  items = map (λ item. (normal item.0, item.1)) s.items;
  joins = map normal_join s.joins;
  filter = normal_where s.filter;
  groups = map normal s.groups;
  having = normal_where s.having;
  order = map (λ key. (normal key.0, key.1)) s.order;
}
