-- The answer of a typed select is that of its normal form.
use Rattle.std.proofs.Common.{◌≡◌, ℕ, Bool, true, if◌then◌else◌, List, [], ◌∷◌, ◌++◌, length, map, Option, Some, None, Ok, refl, sym, ap, subst, ◌∙◌}
use Rattle.std.proofs.lemmas.Bool.{and_parts}
use Rattle.std.proofs.lemmas.List.{length-map}
use Rattle.std.proofs.lemmas.List.Folds.{list_all-append}
use Rattle.std.specs.List.{list_all, AllByRecursion}
use Rattle.base_core.specs.declared.value.Value.{Value}
use Rattle.schema_core.specs.Catalog.{Catalog}
use Rattle.expr_types.specs.declared.expr.Expr.{Expr}
use Rattle.expr_types.specs.declared.expr.Origin.{Origin}
use Rattle.expr_types.specs.declared.select.Select.{Select}
use Rattle.expr_types.specs.Normal.{normal}
use Rattle.expr_types.specs.NormalSelect.{normal_select, normal_where}
use Rattle.sql_semantics.specs.Plain.{IfSet, and_having, is_grouped, lacks_aggregate, outputs, is_well_grouped, sources_of}
use Rattle.sql_semantics.specs.Typed.{IsTyped, IsTypedCondition, IsTypedFilter, IsTypedSelect}
use Rattle.sql_semantics.specs.Checked.{Checked, ◌>>=◌}
use Rattle.sql_semantics.specs.Eval.{Row, Tables, Place, all_from, meaning_of}
use Rattle.sql_semantics.specs.declared.basis.Basis.{Basis}
use Rattle.sql_semantics.specs.declared.basis.Basis.TheVariants as basis
use Rattle.sql_semantics.specs.declared.sort_key.SortKey.{SortKey}
use Rattle.sql_semantics.specs.Order.{key_of}
use Rattle.sql_semantics.specs.Rows.{Frame, Keyed, answer, answer_rows, at, at_basis, bases, condition, require_created, group_bases, groups, groups_having, row_with_key, keys_from, mapped_from, of_rows, output, rows_where, sources, tables_of, values}
use Rattle.sql_semantics.specs.Shapes.{AreRows, scope_of}
use Rattle.select_sources.proofs.Columns.{passed_sure}
use Rattle.select_rows.proofs.Shapes.{OfBasis, bases_sure, having_sure}
use Rattle.select_laws.specs.Places.{FitsPlace}
use Rattle.select_laws.proofs.KeptApart.{apart_kept}
use Rattle.select_laws.proofs.KeptPlain.{groups_lack, grouped_kept}
use Rattle.select_laws.proofs.KeptTables.{tables_kept}
use Rattle.select_laws.proofs.Lists.{bind_same}
use Rattle.select_laws.proofs.Meaning.{in_every_group, in_every_row}
use Rattle.select_laws.proofs.OneGroup.{in_one_group, in_one_group_of_no_rows}
use Rattle.select_laws.proofs.SameLists.{bind_sure_same, kept_same, mapped_same}
use Rattle.select_laws.proofs.SameSources.{IsFrom, condition_same, sources_fit, sources_same, tables_fit}
use Rattle.select_laws.proofs.SettledApart.{settled_in_groups}

-- the normal form of an expression has the same value there
abbrev Same : Place → Expr → Type 0
Same p e = meaning_of (normal e) p ≡ meaning_of e p

-- ---- lists of expressions

all_same : (p : Place) (es : List Expr) → AllByRecursion (Same p) es → (done : List Value) → all_from p done (map meaning_of (map normal es)) ≡ all_from p done (map meaning_of es)
all_same p [] h done = refl
all_same p (e ∷ es) h done =
    ap (λ (r : Checked Value). r >>= λ v. all_from p (done ++ v ∷ []) (map meaning_of (map normal es))) h.0 ∙ bind_same (meaning_of e p) _ _ (λ v. all_same p es h.1 (done ++ v ∷ []))

abbrev Item : Type 0
Item = Expr × Option (List ℕ)

items_same : (p : Place) (items : List Item) → AllByRecursion (λ (i : Item). Same p i.0) items → (done : List Value)
    → all_from p done (map (λ (i : Item). meaning_of i.0) (map (λ (i : Item). (normal i.0, i.1)) items)) ≡ all_from p done (map (λ (i : Item). meaning_of i.0) items)
items_same p [] h done = refl
items_same p (i ∷ items) h done =
    ap (λ (r : Checked Value). r >>= λ v. all_from p (done ++ v ∷ []) (map (λ (k : Item). meaning_of k.0) (map (λ (k : Item). (normal k.0, k.1)) items))) h.0
    ∙ bind_same (meaning_of i.0 p) _ _ (λ v. items_same p items h.1 (done ++ v ∷ []))

keys_same : (p : Place) (order : List (Expr × Bool)) → AllByRecursion (λ (k : Expr × Bool). Same p k.0) order → (done : List SortKey)
    → keys_from p done (map (λ (k : Expr × Bool). (normal k.0, k.1)) order) ≡ keys_from p done order
keys_same p [] h done = refl
keys_same p (k ∷ order) h done =
    ap (λ (r : Checked Value). r >>= λ v. keys_from p (done ++ key_of k.1 v ∷ []) (map (λ (l : Expr × Bool). (normal l.0, l.1)) order)) h.0
    ∙ bind_same (meaning_of k.0 p) _ _ (λ v. keys_same p order h.1 (done ++ key_of k.1 v ∷ []))

-- ---- the parts of a typed select

module _ (schema : Catalog) (s : Select) (typed : IsTypedSelect schema s) (f : Frame) (begins : length f.starts ≡ length (scope_of s)) (a : AreRows schema f.tables) where
  abbrev Stands : Expr → Type 0
  Stands = IsTyped schema (sources_of s)

  -- what stands outside the group expressions
  abbrev is_settled : Expr → Bool
  is_settled = is_well_grouped (is_grouped s) (map normal s.groups) (length (sources_of s))

  abbrev Fitting : Row → Type 0
  Fitting row = FitsPlace schema (scope_of s) (at f row)

  abbrev Bases : Basis → Type 0
  Bases = OfBasis Fitting (is_grouped s) s.groups

  long : length (scope_of s) ≡ length (sources_of s)
  long = length-map (sources_of s) (λ (o : Origin). o.table)

  -- ---- one expression

  group_same : (e : Expr) → Stands e → (rows : List Row) (es : List Expr) → s.groups ≡ es → is_well_grouped true (map normal es) (length (sources_of s)) (normal e) ≡ true → OfBasis Fitting (is_grouped s) es (basis.Group rows)
      → Same (at_basis f (basis.Group rows)) e
  group_same e t [] [] none h b =
      in_one_group_of_no_rows schema (scope_of s) e t.fitting t.typed (subst (λ n. is_well_grouped true [] n (normal e) ≡ true) (sym long) h) (at_basis f (basis.Group []))
      (record { group = refl; no_row = refl; begins = begins; rows = tables_fit schema f.tables a })
  group_same e t (row ∷ rows) [] none h b =
      in_one_group schema (scope_of s) e t.fitting t.typed (subst (λ n. is_well_grouped true [] n (normal e) ≡ true) (sym long) h) (at_basis f (basis.Group (row ∷ rows))) (row ∷ rows)
      (record { group = refl; one = b.1.0; each = b.1 })
  group_same e t rows (g ∷ gs) some h b =
      let lack : list_all lacks_aggregate (map normal (g ∷ gs)) ≡ true =
      groups_lack (g ∷ gs) ∙ subst (λ (l : List Expr). list_all lacks_aggregate l ≡ true) some typed.groups_plain in
      in_every_group schema (scope_of s) e t.fitting t.typed (sym (apart_kept e 0) ∙ settled_in_groups (map normal (g ∷ gs)) (length (sources_of s)) (normal e) lack h) (at_basis f (basis.Group rows)) rows
      (record { group = refl; one = b.2; each = b.1 })

  basis_same : (e : Expr) → Stands e → is_settled (normal e) ≡ true → (b : Basis) → Bases b → Same (at_basis f b) e
  basis_same e t h (basis.Row row) b = in_every_row schema (scope_of s) e t.fitting t.typed (at f row) b
  basis_same e t h (basis.Group rows) b = group_same e t rows s.groups refl (subst (λ (g : Bool). is_well_grouped g (map normal s.groups) (length (sources_of s)) (normal e) ≡ true) b.0 h) b

  -- ---- all outputs

  each_basis : {A : Type 0} (b : Basis) → Bases b → (xs : List (Expr × A)) → AllByRecursion (λ (x : Expr × A). Stands x.0) xs
      → list_all is_settled (map (λ (x : Expr × A). x.0) (map (λ (x : Expr × A). (normal x.0, x.1)) xs)) ≡ true → AllByRecursion (λ (x : Expr × A). Same (at_basis f b) x.0) xs
  each_basis b k [] t h = tt
  each_basis {A} b k (x ∷ xs) t h =
      let both = and_parts (is_settled (normal x.0)) (list_all is_settled (map (λ (y : Expr × A). y.0) (map (λ (y : Expr × A). (normal y.0, y.1)) xs))) h in
      (basis_same x.0 t.0 both.0 b k, each_basis b k xs t.1 both.1)

  and_rest : (o : Option Expr) (es : List Expr) → list_all is_settled (and_having (normal_where o) es) ≡ true → list_all is_settled es ≡ true
  and_rest None es h = h
  and_rest (Some e) es h = (and_parts (is_settled (normal e)) (list_all is_settled es) h).1

  outputs_settled : list_all is_settled (outputs (normal_select s)) ≡ true
  outputs_settled = and_rest s.having (outputs (normal_select s)) typed.grouped_columns

  abbrev item_list : List Expr
  item_list = map (λ (i : Item). i.0) (normal_select s).items

  abbrev key_list : List Expr
  key_list = map (λ (k : Expr × Bool). k.0) (normal_select s).order

  both_settled : (list_all is_settled item_list ≡ true) × (list_all is_settled key_list ≡ true)
  both_settled = and_parts (list_all is_settled item_list) (list_all is_settled key_list) (sym (list_all-append is_settled item_list key_list) ∙ outputs_settled)

  output_same : (b : Basis) → Bases b → output f (normal_select s) b ≡ output f s b
  output_same b k =
      ap (λ (r : Checked (List Value)). r >>= λ row. keys_from (at_basis f b) [] (normal_select s).order >>= λ keys. Ok (keys, row)) (items_same (at_basis f b) s.items (each_basis b k s.items typed.items_typed both_settled.0) [])
      ∙ bind_same (values (at_basis f b) s) _ _ (λ row. ap (λ (r : Checked (List SortKey)). r >>= λ keys. Ok (keys, row)) (keys_same (at_basis f b) s.order (each_basis b k s.order typed.order_typed both_settled.1) []))

  -- ---- groups and `having`

  each_stands : (row : Row) → Fitting row → (es : List Expr) → AllByRecursion Stands es → AllByRecursion (Same (at f row)) es
  each_stands row h [] t = tt
  each_stands row h (e ∷ es) t = (in_every_row schema (scope_of s) e t.0.fitting t.0.typed (at f row) h, each_stands row h es t.1)

  keyed_same : (es : List Expr) → AllByRecursion Stands es → (row : Row) → Fitting row → row_with_key f (map normal es) row ≡ row_with_key f es row
  keyed_same es t row h = ap (λ (r : Checked (List Value)). r >>= λ vs. Ok (vs, row)) (all_same (at f row) es (each_stands row h es t) [])

  grouped_same : (es : List Expr) → AllByRecursion Stands es → (rows : List Row) → AllByRecursion Fitting rows → group_bases f (map normal es) rows ≡ group_bases f es rows
  grouped_same [] t rows h = refl
  grouped_same (e ∷ es) t rows h =
      ap (λ (r : Checked (List Keyed)). r >>= λ all. Ok (groups all)) (mapped_same Fitting (row_with_key f (map normal (e ∷ es))) (row_with_key f (e ∷ es)) (keyed_same (e ∷ es) t) [] rows h)

  bases_same : (rows : List Row) → AllByRecursion Fitting rows → bases f (normal_select s) rows ≡ bases f s rows
  bases_same rows h =
      let ungrouped : Checked (List Basis) = Ok (map (λ r. basis.Row r) rows) in
      ap (λ (b : Bool). if b then group_bases f (map normal s.groups) rows else ungrouped) (grouped_kept s)
      ∙ ap (λ (r : Checked (List Basis)). if is_grouped s then r else ungrouped) (grouped_same s.groups typed.groups_typed rows h)

  having_same : (o : Option Expr) → IfSet (IsTypedCondition schema (sources_of s)) o → list_all is_settled (and_having (normal_where o) (outputs (normal_select s))) ≡ true
      → (bs : List Basis) → AllByRecursion Bases bs → groups_having f (normal_where o) bs ≡ groups_having f o bs
  having_same None t h bs k = refl
  having_same (Some e) t h bs k =
      kept_same Bases (λ b. meaning_of (normal e) (at_basis f b)) (λ b. meaning_of e (at_basis f b))
      (basis_same e t.stands (and_parts (is_settled (normal e)) (list_all is_settled (outputs (normal_select s))) h).0) [] bs k

  -- ---- the rows of the answer

  pub rows_same : (rows : List Row) → AllByRecursion Fitting rows → of_rows f (normal_select s) rows ≡ of_rows f s rows
  rows_same rows h =
      let left : List Basis → Checked (List Row) = λ kept. mapped_from (output f (normal_select s)) [] kept >>= λ outs. Ok (answer_rows s outs) in
      ap (λ (r : Checked (List Basis)). r >>= λ all. groups_having f (normal_where s.having) all >>= left) (bases_same rows h)
      ∙ bind_sure_same (AllByRecursion Bases) (bases f s rows) _ _ (bases_sure Fitting f s rows h)
      (λ all k. ap (λ (r : Checked (List Basis)). r >>= left) (having_same s.having typed.having_typed typed.grouped_columns all k)
      ∙ bind_sure_same (AllByRecursion Bases) (groups_having f s.having all) _ _ (having_sure Bases f s.having all k)
      (λ kept l. ap (λ (r : Checked (List (List SortKey × List Value))). r >>= λ outs. Ok (answer_rows s outs)) (mapped_same Bases (output f (normal_select s)) (output f s) output_same [] kept l)))

passed_same : (schema : Catalog) (sources : List Origin) (f : Frame) (o : Option Expr) (rows : List Row) → IfSet (IsTypedFilter schema sources) o → AllByRecursion (λ row. FitsPlace schema (map (λ (o : Origin). o.table) sources) (at f row)) rows
    → rows_where f (normal_where o) rows ≡ rows_where f o rows
passed_same schema sources f None rows t h = refl
passed_same schema sources f (Some e) rows t h =
    kept_same (λ row. FitsPlace schema (map (λ (o : Origin). o.table) sources) (at f row)) (condition f (normal e)) (condition f e) (λ row k. condition_same schema sources e f row t.condition.stands k) [] rows h

pub answers_same : (schema : Catalog) (s : Select) → IsTypedSelect schema s → (tables : Tables) → AreRows schema tables → answer schema tables (normal_select s) ≡ answer schema tables s
unfolding answer
answers_same schema s typed tables a =
    let told : Frame × List Row → Checked (List Row) = λ from. rows_where from.0 (normal_where s.filter) from.1 >>= λ rows. of_rows from.0 (normal_select s) rows in
    ap (λ (r : Checked (Unit {0})). r >>= λ _. sources schema tables (normal_select s) >>= told) (ap (require_created tables) (tables_kept s))
    ∙ bind_same (require_created tables (tables_of s)) _ _
    (λ _. ap (λ (r : Checked (Frame × List Row)). r >>= told) (sources_same schema tables s a typed.joins_typed)
    ∙ bind_sure_same (IsFrom schema (scope_of s)) (sources schema tables s) _ _ (sources_fit schema tables s a typed.joins_typed)
    (λ from k. ap (λ (r : Checked (List Row)). r >>= λ rows. of_rows from.0 (normal_select s) rows) (passed_same schema (sources_of s) from.0 s.filter from.1 typed.filter_typed k.rows)
    ∙ bind_sure_same (AllByRecursion (λ row. FitsPlace schema (scope_of s) (at from.0 row))) (rows_where from.0 s.filter from.1) _ _ (passed_sure (λ row. FitsPlace schema (scope_of s) (at from.0 row)) from.0 s.filter from.1 k.rows)
    (λ rows l. rows_same schema s typed from.0 k.begins k.tables rows l)))
