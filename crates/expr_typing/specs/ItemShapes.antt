-- What the values of a select's items are to be.
use Rattle.std.specs.Prelude.{Bool, not, List, map, Option, None, Some, Result, Ok, Err}
use Rattle.std.specs.Cmp.Lexicographic.{pointwise}
use Rattle.std.specs.List.{list_all}
use Rattle.base_core.specs.declared.refusal.Refusal.{Refusal}
use Rattle.base_core.specs.declared.value.Kind.{Kind}
use Rattle.base_core.specs.declared.value.Kind.TheVariants.{Integer}
use Rattle.base_core.specs.declared.value.Value.{Value}
use Rattle.schema_core.specs.Catalog.{Catalog, same_kind}
use Rattle.schema_core.specs.Tables.{kind_of_value}
use Rattle.expr_types.specs.declared.expr.Expr.{Expr}
use Rattle.expr_types.specs.declared.select.Select.{Select}
use Rattle.sql_semantics.specs.Kinds.{expression_kind}
use Rattle.sql_semantics.specs.Shapes.{AreGiven, AreOfItems, AreWide, is_never_null, scope_of}
use Rattle.expr_typing.specs.declared.shapes.ItemShape.{ItemShape}

-- the kind, or integer where there is none
abbrev pub kind_or_integer : Result Kind Refusal → Kind
kind_or_integer (Ok kind) = kind
kind_or_integer (Err e) = Integer

-- the kind of the expression, and whether it is a column that is never NULL
abbrev pub shape_of_item : Catalog → Select → Expr → ItemShape
shape_of_item schema s e = record { kind = kind_or_integer (expression_kind schema e (scope_of s)); never_null = is_never_null schema s e }

abbrev pub fits_kind : ItemShape → Option Kind → Bool
fits_kind shape None = not shape.never_null
fits_kind shape (Some kind) = same_kind kind shape.kind

-- the value is of the kind, or NULL where that may be
abbrev pub fits : ItemShape → Value → Bool
fits shape v = fits_kind shape (kind_of_value v)

-- each item's
abbrev pub shapes_of : Catalog → Select → List ItemShape
shapes_of schema s = map (λ item. shape_of_item schema s item.0) s.items

-- each row has one value for each item, and each is as it is to be
abbrev pub all_fit : List ItemShape → List (List Value) → Bool
all_fit shapes rows = list_all (λ row. pointwise fits shapes row) rows

-- each row of the select has one value for each item, NULL or of its kind, and not NULL where the item never is
abbrev pub AreAnswers : Catalog → Select → List (List Value) → Type 0
AreAnswers schema s rows = AreWide s rows × AreOfItems schema s rows × AreGiven schema s rows
