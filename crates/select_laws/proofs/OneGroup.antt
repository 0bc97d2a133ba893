-- Where all rows are one group, what a plain select has is what the laws for groups ask for.
use Rattle.std.proofs.Common.{◌≡◌, length, true, List, [], sym, ◌∙◌, arith}
use Rattle.std.specs.Result.{is_ok}
use Rattle.schema_core.specs.Catalog.{Catalog}
use Rattle.expr_types.specs.declared.expr.Expr.{Expr}
use Rattle.expr_types.specs.Normal.{normal}
use Rattle.sql_semantics.specs.Kinds.{Scope, expression_kind}
use Rattle.sql_semantics.specs.Plain.{fits, is_well_grouped}
use Rattle.sql_semantics.specs.Eval.{Place, Row, meaning_of}
use Rattle.select_laws.specs.Places.{FitsGroup, FitsNoRows}
use Rattle.select_laws.proofs.KeptApart.{apart_kept}
use Rattle.select_laws.proofs.Meaning.{in_every_group, in_no_rows_same}
use Rattle.select_laws.proofs.SettledApart.{settled_apart}

pub in_one_group : (schema : Catalog) (scope : Scope) (e : Expr) → fits schema e scope ≡ true → is_ok (expression_kind schema e scope) ≡ true → is_well_grouped true [] (length scope) (normal e) ≡ true
    → (p : Place) (members : List Row) → FitsGroup schema scope p members → meaning_of (normal e) p ≡ meaning_of e p
in_one_group schema scope e f t s p members h =
    in_every_group schema scope e f t (sym (apart_kept e 0) ∙ settled_apart (normal e) (length scope) 0 (omega arith) s) p members h

pub in_one_group_of_no_rows : (schema : Catalog) (scope : Scope) (e : Expr) → fits schema e scope ≡ true → is_ok (expression_kind schema e scope) ≡ true → is_well_grouped true [] (length scope) (normal e) ≡ true
    → (p : Place) → FitsNoRows schema scope p → meaning_of (normal e) p ≡ meaning_of e p
in_one_group_of_no_rows schema scope e f t s p h =
    in_no_rows_same schema scope e f t (sym (apart_kept e (length scope)) ∙ settled_apart (normal e) (length scope) (length scope) (omega arith) s) p h

pub ruleset one_group = (in_one_group, in_one_group_of_no_rows)
