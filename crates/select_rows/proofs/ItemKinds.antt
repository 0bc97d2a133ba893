-- The rows of a plain select over tables that fit the schema have values that are NULL or of the kinds of the items.
use Rattle.std.proofs.Common.{◌≡◌, ℕ, true, List, Result, Ok, Err, IfOk, refl, subst}
use Rattle.std.specs.Result.{is_ok}
use Rattle.base_core.specs.declared.value.Kind.{Kind}
use Rattle.base_core.specs.declared.value.Kind.TheVariants as kinds
use Rattle.base_core.specs.declared.value.Value.{Value}
use Rattle.base_core.specs.declared.value.Value.TheVariants as value
use Rattle.base_core.specs.declared.refusal.Refusal.{Refusal}
use Rattle.schema_core.specs.declared.table.ColumnSpec.{ColumnSpec}
use Rattle.schema_core.specs.Catalog.{Catalog, kind_of, same_kind}
use Rattle.schema_core.specs.WellFormed.{may_hold}
use Rattle.expr_types.specs.declared.select.Select.{Select}
use Rattle.sql_semantics.specs.Kinds.{expression_kind}
use Rattle.sql_semantics.specs.Plain.{IsPlainSelect}
use Rattle.base_core.specs.Answers.{Gives}
use Rattle.sql_semantics.specs.Eval.{Row, Tables, meaning_of}
use Rattle.sql_semantics.specs.Rows.{answer}
use Rattle.sql_semantics.specs.Shapes.{AreOfItems, AreRows, IsOfItsKind, scope_of}
use Rattle.select_rows.proofs.Items.{Reads, rows_sure}
use Rattle.select_sources.proofs.Sure.{sure_all}
use Rattle.select_rows.proofs.ValueKinds.{KindAt, OfKind, kind_sure}

flipped : (a b : Kind) → same_kind a b ≡ true → same_kind b a ≡ true
flipped kinds.Integer kinds.Integer e = refl
flipped kinds.Text kinds.Text e = refl
flipped kinds.Boolean kinds.Boolean e = refl
flipped kinds.Bytes kinds.Bytes e = refl
flipped a b e = absurd (cc)

pub held_kind : (s : ℕ) (column : ColumnSpec) (v : Value) → may_hold column v ≡ true → KindAt s column v
held_kind s column value.Null h = refl
held_kind s column (value.Bool b) h = flipped (kind_of column.kind) kinds.Boolean h
held_kind s column (value.Int n) h = flipped (kind_of column.kind) kinds.Integer h
held_kind s column (value.Text t) h = flipped (kind_of column.kind) kinds.Text h
held_kind s column (value.Bytes b) h = flipped (kind_of column.kind) kinds.Bytes h

judged_some : (r : Result Kind Refusal) → is_ok r ≡ true → (k : Kind) × (r ≡ Ok k)
judged_some (Ok k) e = (k, refl)
judged_some (Err f) e = absurd (cc)

kind_same : (r : Result Kind Refusal) (k j : Kind) (v : Value) → r ≡ Ok k → OfKind k v → r ≡ Ok j → OfKind j v
kind_same r k j v e h g = let same : k ≡ j = cc in subst (λ (c : Kind). OfKind c v) same h

reads_kinds : (schema : Catalog) (s : Select) → Reads KindAt (IsOfItsKind schema (scope_of s)) schema s
reads_kinds schema s e p blind h stands b =
    let typed = judged_some (expression_kind schema e (scope_of s)) stands.typed in
    sure_all (OfKind typed.0) (IsOfItsKind schema (scope_of s) e) (meaning_of e p) (kind_sure e schema (scope_of s) p blind h b stands.fitting typed.0 typed.1) (λ v g k is. kind_same (expression_kind schema e (scope_of s)) typed.0 k v typed.1 g is)

-- the values of the rows of a plain select are NULL or of the kinds of its items
pub rows_of_kinds : (schema : Catalog) (tables : Tables) (s : Select) (r : Result (List Row) Refusal) → Gives (λ (x : List Row). x) r (answer schema tables s) → IsPlainSelect schema s → AreRows schema tables → IfOk r (λ rows. AreOfItems schema s rows)
rows_of_kinds schema tables s r g plain a =
    rows_sure KindAt (IsOfItsKind schema (scope_of s)) schema s plain (reads_kinds schema s) may_hold held_kind (λ i j is l column. refl) tables a r g
