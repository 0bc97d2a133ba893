-- Steps of the loops over values and over joins.
use Rattle.std.proofs.Common.{◌≡◌, ℕ, ◌+◌, ◌<◌, ◌≤◌, List, [], ◌∷◌, ◌++◌, length, get_or, drop, refl, sym, ap, subst, ◌∙◌, add-one, drop-cons, arith}
use Rattle.std.proofs.lemmas.List.{drop_all, drop_more}
use Rattle.std.specs.List.{flat_map}
use Rattle.base_core.specs.declared.ids.ColumnNo.{ColumnNo}
use Rattle.base_core.specs.declared.ids.TableId.{TableId}
use Rattle.base_core.specs.declared.refusal.Refusal.{Refusal}
use Rattle.base_core.specs.declared.value.Kind.TheVariants.{Boolean}
use Rattle.base_core.specs.declared.value.Value.{Value}
use Rattle.schema_core.specs.Catalog.{Catalog}
use Rattle.expr_types.specs.declared.select.Joined.{Joined}
use Rattle.sql_semantics.specs.Kinds.{Scope}
use Rattle.script_names.specs.Faults.{IsFirst}
use Rattle.script_names.proofs.Firsts.{first_left}
use Rattle.statement_kinds.specs.Mismatches.{join_mismatches, mismatch_for, value_faults, values_faults}

-- the first fault of one of several is that of all, where those before it have none
pub each_first : {A : Type 0} (f : A → List Refusal) (e : Refusal) (xs : List A) (i : ℕ) (x : A) → i < length xs → x ≡ get_or xs i x → flat_map f (drop i xs) ≡ flat_map f xs → IsFirst e (f x) → IsFirst e (flat_map f xs)
each_first f e xs i x inside is rest told =
    let here : drop i xs ≡ x ∷ drop (i + 1) xs = drop_more xs i x inside ∙ ap (λ y. y ∷ drop (i + 1) xs) (sym is) in
    subst (IsFirst e) (ap (flat_map f) (sym here) ∙ rest) (first_left e (f x) (flat_map f (drop (i + 1) xs)) told)

module _ (schema : Catalog) where
  -- ---- values

  abbrev left_of : TableId → List ColumnNo → List Value → ℕ → List Refusal
  left_of table columns values i = values_faults schema table (drop i columns) (drop i values)

  pub values_at : (table : TableId) (columns : List ColumnNo) (values : List Value) (i : ℕ) (d : ColumnNo) (v : Value) → i < length columns → i < length values
      → left_of table columns values i ≡ value_faults schema table (get_or columns i d) (get_or values i v) ++ left_of table columns values (i + 1)
  values_at table columns values i d v h k = rw (add-one, drop-cons columns i d, drop-cons values i v) refl

  pub values_next : (table : TableId) (columns : List ColumnNo) (values : List Value) (i : ℕ) (d : ColumnNo) (v : Value) → i < length columns → i < length values
      → value_faults schema table (get_or columns i d) (get_or values i v) ≡ [] → left_of table columns values (i + 1) ≡ left_of table columns values i
  values_next table columns values i d v h k none = sym (values_at table columns values i d v h k ∙ ap (λ xs. xs ++ left_of table columns values (i + 1)) none)

  pub values_first : (e : Refusal) (table : TableId) (columns : List ColumnNo) (values : List Value) (i : ℕ) (d : ColumnNo) (v : Value) → i < length columns → i < length values
      → IsFirst e (value_faults schema table (get_or columns i d) (get_or values i v)) → IsFirst e (left_of table columns values i)
  values_first e table columns values i d v h k told =
      subst (IsFirst e) (sym (values_at table columns values i d v h k)) (first_left e (value_faults schema table (get_or columns i d) (get_or values i v)) (left_of table columns values (i + 1)) told)

  pub values_lack : (table : TableId) (columns : List ColumnNo) (values : List Value) (i : ℕ) (d : ColumnNo) → i < length columns → length values ≤ i → left_of table columns values i ≡ []
  values_lack table columns values i d h k = ap (values_faults schema table (drop i columns)) (drop_all i values k) ∙ ap (λ cs. values_faults schema table cs []) (drop-cons columns i d h)

  pub values_end : (table : TableId) (columns : List ColumnNo) (values : List Value) (i : ℕ) → length columns ≤ i → left_of table columns values i ≡ []
  values_end table columns values i h = ap (λ cs. values_faults schema table cs (drop i values)) (drop_all i columns h)

  -- ---- joins

  abbrev entered : Scope → List Joined → ℕ → Joined → Scope
  entered scope joins i d = scope ++ (get_or joins i d).origin.table ∷ []

  pub joins_at : (scope : Scope) (joins : List Joined) (i : ℕ) (d : Joined) → i < length joins
      → join_mismatches schema scope (drop i joins) ≡ mismatch_for schema (entered scope joins i d) Boolean (get_or joins i d).on ++ join_mismatches schema (entered scope joins i d) (drop (i + 1) joins)
  joins_at scope joins i d h = rw (add-one, drop-cons joins i d) refl

  pub joins_next : (scope : Scope) (joins : List Joined) (i : ℕ) (d : Joined) → i < length joins
      → mismatch_for schema (entered scope joins i d) Boolean (get_or joins i d).on ≡ [] → join_mismatches schema (entered scope joins i d) (drop (i + 1) joins) ≡ join_mismatches schema scope (drop i joins)
  joins_next scope joins i d h none = sym (joins_at scope joins i d h ∙ ap (λ xs. xs ++ join_mismatches schema (entered scope joins i d) (drop (i + 1) joins)) none)

  pub joins_first : (e : Refusal) (scope : Scope) (joins : List Joined) (i : ℕ) (d : Joined) → i < length joins
      → IsFirst e (mismatch_for schema (entered scope joins i d) Boolean (get_or joins i d).on) → IsFirst e (join_mismatches schema scope (drop i joins))
  joins_first e scope joins i d h told =
      subst (IsFirst e) (sym (joins_at scope joins i d h))
      (first_left e (mismatch_for schema (entered scope joins i d) Boolean (get_or joins i d).on) (join_mismatches schema (entered scope joins i d) (drop (i + 1) joins)) told)

pub ruleset value_steps = (values_next, values_first, values_lack, values_end)

pub ruleset join_steps = (joins_next, joins_first)
