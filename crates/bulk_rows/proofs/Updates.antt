-- One more row that an UPDATE may take.
use Rattle.std.proofs.Common.{◌≡◌, Bool, List, ◌∷◌, Option, Ok, sym, ap, ◌∙◌}
use Rattle.base_core.specs.declared.ids.ColumnNo.{ColumnNo}
use Rattle.base_core.specs.declared.value.Value.{Value}
use Rattle.schema_core.specs.Tables.{Rows}
use Rattle.expr_types.specs.declared.expr.Expr.{Expr}
use Rattle.sql_semantics.specs.Checked.{Checked, ◌>>=◌}
use Rattle.sql_semantics.specs.Eval.{Row, Tables}
use Rattle.sql_semantics.specs.Taken.{one_more, takes, updated_from}

pub update_next : (tables : Tables) (cells : List (ColumnNo × Option Expr)) (filter : Option Expr) (done more rows rest : Rows) (entry : List Value × Row) (lent : Row) (taken : Bool) (whole : Checked Rows) → rows ≡ entry ∷ rest → lent ≡ entry.1
    → takes tables filter lent ≡ Ok taken → one_more tables cells done entry taken ≡ Ok more → updated_from tables cells filter done rows ≡ whole → updated_from tables cells filter more rest ≡ whole
update_next tables cells filter done more rows rest entry lent taken whole here same is made stays =
    sym (ap (λ r. r >>= λ more. updated_from tables cells filter more rest) made)
    ∙ sym (ap (λ r. r >>= λ taken. one_more tables cells done entry taken >>= λ more. updated_from tables cells filter more rest) (ap (takes tables filter) (sym same) ∙ is))
    ∙ sym (ap (updated_from tables cells filter done) here)
    ∙ stays
