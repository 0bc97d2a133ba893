-- The columns of the attributes of a class, in its several tables.
use Rattle.std.proofs.Common.{◌≡◌, inl, inr, ℕ, zero, suc, ◌+◌, ◌<◌, ◌≤◌, Bool, true, false, cond, not, ◌&&◌, ◌||◌, ◌==◌, List, [], ◌∷◌, ◌++◌, length, map, filter, get_or, Option, None, Some, option_map, refl, sym, subst, ap, ◌∙◌, arith}
use Rattle.std.specs.Prelude.{slice_get}
use Rattle.std.specs.List.{enumerate_from, flat_map, list_any, position}
use Rattle.std.proofs.lemmas.Bool.{and_parts, eq-eqb, eqb-true}
use Rattle.std.proofs.lemmas.List.{append-nil, get_or-map, length-map}
use Rattle.std.proofs.lemmas.Simd.{map-map}
use Rattle.std.proofs.lemmas.List.Elements.{filter-append}
use Rattle.std.proofs.lemmas.List.Quantifiers.{position-Some}
use Rattle.std.proofs.lemmas.Option.{get_or_from_slice_get, same_Some, slice_get-get_or, slice_get-map, slice_get_within}
use Rattle.base_core.specs.declared.ids.AttrNo.{AttrNo}
use Rattle.base_core.specs.declared.ids.ClassId.{ClassId}
use Rattle.base_core.specs.declared.ids.TableId.{TableId}
use Rattle.base_core.specs.declared.value.Value.{Value}
use Rattle.base_core.specs.declared.value.Value.TheVariants.{Null}
use Rattle.schema_core.specs.declared.table.ColumnSpec.{ColumnSpec}
use Rattle.schema_core.specs.declared.table.TableSpec.{TableSpec}
use Rattle.base_core.specs.declared.value.Kind.{Kind}
use Rattle.schema_core.specs.Catalog.{kind_of}
use Rattle.schema_core.specs.Tables.{key_cells}
use Rattle.class_types.specs.declared.mapped.Attribute.{Attribute}
use Rattle.class_layouts.specs.Columns.{attr_at, attribute_at, columns_in, is_attribute, is_key, is_key_column, is_shown, table_attributes}
use Rattle.class_layouts.specs.Hierarchy.{line_of}
use Rattle.class_mapping.specs.Mapped.{Mapped, attributes_of, key_attributes, no_attribute, root_table, tables_of}
use Rattle.class_mapping.proofs.Having.{Has, all_from, any_has, from_flat, from_map, from_filter, from_numbered, has_at, has_filter, has_map, has_numbered, some_of, true_false}
use Rattle.object_rows.specs.Rows.{is_at}
use Rattle.session_laws.proofs.Graphs.Named.{two_places}
use Rattle.session_laws.specs.Graphs.{HasTablesOnce}
use Rattle.session_laws.proofs.Projects.Loose.{has_place}
use Rattle.session_laws.proofs.Projects.Passing.{some_found}
use Rattle.mapping_laws.specs.Hierarchies.{HasHierarchies, HasTables}
use Rattle.mapping_laws.proofs.Attributes.{IsOfColumn, numbered_there, of_column}
use Rattle.mapping_laws.proofs.KeyKinds.{attributes_split, key_by_column, key_kinds, no_later_key}
use Rattle.graph_flushed.specs.Flushed.{part_or}
use Rattle.session_laws.proofs.Held.Lists.{none_pass}
use Rattle.session_laws.proofs.Held.Once.{StandOnce, flat_once, numbered_once}

-- where an attribute stands: in which of the tables of the class, and in which column there
pub record HasColumn (mapped : Mapped) (class : ClassId) (attribute : Attribute) : Type 0 where
  pub rank : ℕ
  pub among : slice_get (tables_of mapped class) rank ≡ Some attribute.table
  pub column : ColumnSpec
  pub at : slice_get (columns_in mapped.schema.tables attribute.table) attribute.column.0 ≡ Some column
  pub name : attribute.name ≡ column.name
  -- a table behind the root's shows no column of its key
  pub later : (rank == 0) ≡ false → column.key ≡ false
  pub key : is_key mapped.schema.tables attribute ≡ column.key

no_key_later : (first shown key : Bool) → ((first || not key) && shown) ≡ true → first ≡ false → key ≡ false
no_key_later true shown key h e = absurd cc
no_key_later false shown true h e = absurd cc
no_key_later false shown false h e = refl

pub has_column : (mapped : Mapped) (class : ClassId) (attribute : Attribute) → Has (attributes_of mapped class) attribute → HasColumn mapped class attribute
has_column mapped class attribute has =
    let line : List ClassId = line_of mapped.classes class.0 in
    let from = from_flat (table_attributes mapped.schema.tables mapped.classes line) (enumerate_from 0 (tables_of mapped class)) attribute has in
    let ranked : ℕ × TableId = from.0 in
    let of : IsOfColumn mapped line ranked attribute = of_column mapped line ranked attribute from.2 in
    let numbered = from_numbered 0 (tables_of mapped class) ranked from.1 in
    let table : ranked.1 ≡ attribute.table = ap (λ (a : Attribute). a.table) of.is in
    let number : of.placed.0 ≡ attribute.column.0 = ap (λ (a : Attribute). a.column.0) of.is in
    record {
      rank = numbered.0;
      among = numbered.2 ∙ ap (λ (t : TableId). Some t) table;
      column = of.placed.1;
      at = (λ i. slice_get (columns_in mapped.schema.tables (sym table i)) (sym number i)) ∙ of.there;
      name = sym (ap (λ (a : Attribute). a.name) of.is);
      later = λ behind.
          let same : ranked.0 ≡ numbered.0 = omega (arith, numbered.1) in
          no_key_later (ranked.0 == 0) (is_shown mapped.schema.tables mapped.classes line ranked.1 of.placed.1.name) of.placed.1.key of.shown (ap (λ (n : ℕ). n == 0) same ∙ behind);
      key = key_by_column mapped line ranked attribute of;
    }

-- ---- no two attributes of a class are one column

same_column : Attribute → Attribute → Bool
same_column one other = is_at other.table other.column.0 one

module _ (mapped : Mapped) (class : ClassId) (once : HasTablesOnce mapped) where
  line : List ClassId
  line = line_of mapped.classes class.0

  abbrev given_by : ℕ × TableId → List Attribute
  given_by ranked = table_attributes mapped.schema.tables mapped.classes (line_of mapped.classes class.0) ranked

  abbrev shown_in : ℕ × TableId → ℕ × ColumnSpec → Bool
  shown_in ranked placed = is_attribute mapped.schema.tables mapped.classes (line_of mapped.classes class.0) ranked.0 ranked.1 placed.1

  placed_at : (ranked : ℕ × TableId) (i : ℕ) (a : Attribute) → slice_get (given_by ranked) i ≡ Some a
      → (placed : ℕ × ColumnSpec) × (slice_get (filter (shown_in ranked) (enumerate_from 0 (columns_in mapped.schema.tables ranked.1))) i ≡ Some placed) × (attribute_at ranked.1 placed ≡ a)
  placed_at ranked i a at =
      by (slice_get (filter (shown_in ranked) (enumerate_from 0 (columns_in mapped.schema.tables ranked.1))) i) refl
      (sym (slice_get-map (attribute_at ranked.1) (filter (shown_in ranked) (enumerate_from 0 (columns_in mapped.schema.tables ranked.1))) i) ∙ at)
    where
      by : (found : Option (ℕ × ColumnSpec)) → slice_get (filter (shown_in ranked) (enumerate_from 0 (columns_in mapped.schema.tables ranked.1))) i ≡ found → option_map (attribute_at ranked.1) found ≡ Some a
          → (placed : ℕ × ColumnSpec) × (slice_get (filter (shown_in ranked) (enumerate_from 0 (columns_in mapped.schema.tables ranked.1))) i ≡ Some placed) × (attribute_at ranked.1 placed ≡ a)
      by None is e = absurd cc
      by (Some placed) is e = (placed, is, same_Some (attribute_at ranked.1 placed) a e)

  columns_once : (ranked : ℕ × TableId) → StandOnce same_column (given_by ranked)
  unfolding same_column
  columns_once ranked i j a b one other same =
      let first = placed_at ranked i a one in
      let second = placed_at ranked j b other in
      let column : a.column.0 ≡ b.column.0 = eqb-true a.column.0 b.column.0 (and_parts (a.table.0 == b.table.0) (a.column.0 == b.column.0) same).1 in
      numbered_once (shown_in ranked) 0 (columns_in mapped.schema.tables ranked.1) i j first.0 second.0 first.1 second.1
      (ap (λ (a : Attribute). a.column.0) first.2 ∙ column ∙ sym (ap (λ (a : Attribute). a.column.0) second.2))

  its_table : (ranked : ℕ × TableId) (a : Attribute) → Has (given_by ranked) a → a.table ≡ ranked.1
  its_table ranked a has =
      let from = from_map (attribute_at ranked.1) (filter (shown_in ranked) (enumerate_from 0 (columns_in mapped.schema.tables ranked.1))) a has in
      sym (ap (λ (made : Attribute). made.table) from.2)

  ranked_at : (tables : List TableId) (n i : ℕ) (ranked : ℕ × TableId) → slice_get (enumerate_from n tables) i ≡ Some ranked → slice_get tables i ≡ Some ranked.1
  ranked_at [] n i ranked at = absurd cc
  ranked_at (table ∷ tables) n zero ranked at = ap (λ (r : ℕ × TableId). Some r.1) (same_Some (n, table) ranked at)
  ranked_at (table ∷ tables) n (suc i) ranked at = ranked_at tables (n + 1) i ranked at

  attributes_once : StandOnce same_column (attributes_of mapped class)
  unfolding same_column
  attributes_once =
      flat_once given_by same_column (enumerate_from 0 (tables_of mapped class)) (λ ranked has. columns_once ranked)
      (λ i j one other a b here there inside within same.
      let table : a.table.0 ≡ b.table.0 = eqb-true a.table.0 b.table.0 (and_parts (a.table.0 == b.table.0) (a.column.0 == b.column.0) same).0 in
      let tables : one.1.0 ≡ other.1.0 = sym (ap (λ (t : TableId). t.0) (its_table one a inside)) ∙ table ∙ ap (λ (t : TableId). t.0) (its_table other b within) in
      two_places (λ (t u : TableId). t.0 == u.0) (tables_of mapped class) i j one.1 other.1 (once class) (ranked_at (tables_of mapped class) 0 i one here) (ranked_at (tables_of mapped class) 0 j other there)
      (eq-eqb one.1.0 other.1.0 tables) (eq-eqb other.1.0 one.1.0 (sym tables)))

  -- so an attribute is found by its column
  pub column_place : (i : ℕ) (attribute : Attribute) → slice_get (attributes_of mapped class) i ≡ Some attribute → position (is_at attribute.table attribute.column.0) (attributes_of mapped class) ≡ Some i
  unfolding same_column
  column_place i attribute at = by (position (is_at attribute.table attribute.column.0) (attributes_of mapped class)) refl
    where
      itself : is_at attribute.table attribute.column.0 attribute ≡ true
      itself = ap (λ (b : Bool). b && (attribute.column.0 == attribute.column.0)) (eq-eqb attribute.table.0 attribute.table.0 refl) ∙ eq-eqb attribute.column.0 attribute.column.0 refl

      by : (found : Option ℕ) → position (is_at attribute.table attribute.column.0) (attributes_of mapped class) ≡ found → found ≡ Some i
      by None e =
          absurd (some_found (is_at attribute.table attribute.column.0) (attributes_of mapped class) i no_attribute (slice_get_within (attributes_of mapped class) i attribute at)
          (ap (is_at attribute.table attribute.column.0) (get_or_from_slice_get (attributes_of mapped class) i attribute no_attribute at) ∙ itself) e)
      by (Some j) e =
          let found = position-Some (is_at attribute.table attribute.column.0) (attributes_of mapped class) j no_attribute e in
          ap (λ (n : ℕ). Some n)
          (attributes_once j i (get_or (attributes_of mapped class) j no_attribute) attribute (slice_get-get_or (attributes_of mapped class) j no_attribute found.0) at found.1)

-- ---- the attributes of the key

-- an attribute is of the key where its column is
pub key_is : (mapped : Mapped) (class : ClassId) (i : ℕ) (attribute : Attribute) → slice_get (attributes_of mapped class) i ≡ Some attribute
    → list_any (λ (attr : AttrNo). attr.0 == i) (key_attributes mapped class) ≡ is_key mapped.schema.tables attribute
key_is mapped class i attribute at = by (is_key mapped.schema.tables attribute) (list_any (λ (attr : AttrNo). attr.0 == i) (key_attributes mapped class)) refl refl
  where
    passes : ℕ × Attribute → Bool
    passes placed = is_key mapped.schema.tables placed.1

    by : (key found : Bool) → is_key mapped.schema.tables attribute ≡ key → list_any (λ (attr : AttrNo). attr.0 == i) (key_attributes mapped class) ≡ found → found ≡ key
    by true true k e = refl
    by false false k e = refl
    by true false k e =
        let all = enumerate_from 0 (attributes_of mapped class) in
        let place : 0 + i ≡ i = omega arith in
        true_false (list_any (λ (attr : AttrNo). attr.0 == i) (key_attributes mapped class))
        (any_has (λ (attr : AttrNo). attr.0 == i) (key_attributes mapped class) (attr_at (0 + i, attribute))
        (has_map attr_at (filter (λ placed. is_key mapped.schema.tables placed.1) all) (0 + i, attribute)
        (has_filter (λ (placed : ℕ × Attribute). is_key mapped.schema.tables placed.1) all (0 + i, attribute) (has_numbered 0 (attributes_of mapped class) i attribute at) k)) (eq-eqb (0 + i) i place)) e
    by false true k e =
        let all = enumerate_from 0 (attributes_of mapped class) in
        let some = some_of (λ (attr : AttrNo). attr.0 == i) (key_attributes mapped class) e in
        let placed = from_map attr_at (filter (λ placed. is_key mapped.schema.tables placed.1) all) some.0 some.1 in
        let kept = from_filter (λ (p : ℕ × Attribute). is_key mapped.schema.tables p.1) all placed.0 placed.1 in
        let numbered = from_numbered 0 (attributes_of mapped class) placed.0 kept.0 in
        let same : numbered.0 ≡ i = omega (arith, numbered.1, ap (λ (attr : AttrNo). attr.0) placed.2, eqb-true some.0.0 i some.2) in
        let one : attribute ≡ placed.0.1 = same_Some attribute placed.0.1 (sym at ∙ ap (slice_get (attributes_of mapped class)) (sym same) ∙ numbered.2) in
        true_false (is_key mapped.schema.tables attribute) (ap (is_key mapped.schema.tables) one ∙ kept.1) k

-- the first part of a key from a number on is that of the column there
numbered_cells : (row : List Value) (n : ℕ) (columns : List ColumnSpec) (rest : List Value) → length rest ≡ length columns → ((i : ℕ) → get_or row (n + i) Null ≡ get_or rest i Null)
    → map (λ (placed : ℕ × ColumnSpec). get_or row placed.0 Null) (filter (λ placed. placed.1.key) (enumerate_from n columns)) ≡ key_cells columns rest
numbered_cells row n [] rest long at = refl
numbered_cells row n (column ∷ columns) [] long at = absurd (omega (arith, long))
numbered_cells row n (column ∷ columns) (cell ∷ rest) long at =
    let first : n + 0 ≡ n = omega arith in
    by column.key (ap (λ (k : ℕ). get_or row k Null) (sym first) ∙ at 0)
    (numbered_cells row (n + 1) columns rest (omega (arith, long)) (λ i. let next : n + 1 + i ≡ n + suc i = omega arith in ap (λ (k : ℕ). get_or row k Null) next ∙ at (suc i)))
  where
    later : List (ℕ × ColumnSpec)
    later = filter (λ placed. placed.1.key) (enumerate_from (n + 1) columns)

    by : (b : Bool) → get_or row n Null ≡ cell → map (λ (placed : ℕ × ColumnSpec). get_or row placed.0 Null) later ≡ key_cells columns rest
        → map (λ (placed : ℕ × ColumnSpec). get_or row placed.0 Null) (cond b ((n, column) ∷ later) later) ≡ cond b (cell ∷ key_cells columns rest) (key_cells columns rest)
    by true here more = λ i. here i ∷ more i
    by false here more = more

-- where as many pass as pass of those that are kept, all that pass are kept
module _ {A B : Type 0} (test : B → Bool) (f : A → B) (key kept : A → Bool) where
  fewer_pass : (xs : List A) → ((x : A) → Has xs x → test (f x) ≡ key x) → length (filter test (map f (filter kept xs))) ≤ length (filter key xs)
  fewer_pass [] same = omega arith
  fewer_pass (x ∷ xs) same = by (kept x) (test (f x)) refl (key x) (same x (inl refl)) (fewer_pass xs (λ y has. same y (inr has)))
    where
      by : (b c : Bool) → test (f x) ≡ c → (d : Bool) → test (f x) ≡ d → length (filter test (map f (filter kept xs))) ≤ length (filter key xs) → length (filter test (map f (cond b (x ∷ filter kept xs) (filter kept xs)))) ≤ length (cond d (x ∷ filter key xs) (filter key xs))
      by true true e true g less = subst (λ (c : Bool). length (cond c (f x ∷ filter test (map f (filter kept xs))) (filter test (map f (filter kept xs)))) ≤ suc (length (filter key xs))) (sym e) (omega (arith, less))
      by true false e false g less = subst (λ (c : Bool). length (cond c (f x ∷ filter test (map f (filter kept xs))) (filter test (map f (filter kept xs)))) ≤ length (filter key xs)) (sym e) less
      by true true e false g less = true_false (test (f x)) e g
      by true false e true g less = true_false (test (f x)) g e
      by false c e true g less = omega (arith, less)
      by false c e false g less = less

  all_pass : (xs : List A) → ((x : A) → Has xs x → test (f x) ≡ key x) → length (filter test (map f (filter kept xs))) ≡ length (filter key xs) → filter test (map f (filter kept xs)) ≡ map f (filter key xs)
  all_pass [] same long = refl
  all_pass (x ∷ xs) same long =
      by (kept x) (key x) (same x (inl refl)) long (fewer_pass xs (λ y has. same y (inr has))) (λ more. all_pass xs (λ y has. same y (inr has)) more)
    where
      passed : List B
      passed = filter test (map f (filter kept xs))

      by : (b d : Bool) → test (f x) ≡ d → length (filter test (map f (cond b (x ∷ filter kept xs) (filter kept xs)))) ≡ length (cond d (x ∷ filter key xs) (filter key xs)) → length passed ≤ length (filter key xs)
          → (length passed ≡ length (filter key xs) → passed ≡ map f (filter key xs)) → filter test (map f (cond b (x ∷ filter kept xs) (filter kept xs))) ≡ map f (cond d (x ∷ filter key xs) (filter key xs))
      by true true e long less rest =
          let here : cond (test (f x)) (f x ∷ passed) passed ≡ f x ∷ passed = ap (λ (c : Bool). cond c (f x ∷ passed) passed) e in
          here ∙ ap (λ (ys : List B). f x ∷ ys) (rest (omega (arith, long, ap (λ (ys : List B). length ys) here)))
      by true false e long less rest =
          let here : cond (test (f x)) (f x ∷ passed) passed ≡ passed = ap (λ (c : Bool). cond c (f x ∷ passed) passed) e in
          here ∙ rest (sym (ap (λ (ys : List B). length ys) here) ∙ long)
      by false true e long less rest = absurd (omega (arith, long, less))
      by false false e long less rest = rest long

-- the attributes of the key, by their numbers
passed_at : {A : Type 0} (test : A → Bool) (n : ℕ) (xs : List A) (p : ℕ) (placed : ℕ × A) → slice_get (filter (λ placed. test placed.1) (enumerate_from n xs)) p ≡ Some placed → slice_get (filter test xs) p ≡ Some placed.1
passed_at test n [] p placed at = absurd cc
passed_at {A = A} test n (x ∷ xs) p placed at = by (test x) p at (λ k there. passed_at test (n + 1) xs k placed there)
  where
    later : List (ℕ × A)
    later = filter (λ placed. test placed.1) (enumerate_from (n + 1) xs)

    by : (b : Bool) (k : ℕ) → slice_get (cond b ((n, x) ∷ later) later) k ≡ Some placed → ((l : ℕ) → slice_get later l ≡ Some placed → slice_get (filter test xs) l ≡ Some placed.1) → slice_get (cond b (x ∷ filter test xs) (filter test xs)) k ≡ Some placed.1
    by true zero at rest = ap (λ (q : ℕ × A). Some q.1) (same_Some (n, x) placed at)
    by true (suc k) at rest = rest k at
    by false k at rest = rest k at

module _ (mapped : Mapped) (class : ClassId) (has : HasHierarchies mapped) (known : HasTables mapped class) where
  abbrev tables : List TableSpec
  tables = mapped.schema.tables

  abbrev all : List Attribute
  all = attributes_of mapped class

  abbrev columns : List ColumnSpec
  columns = columns_in mapped.schema.tables (root_table mapped class)

  -- the attributes of the key are the key columns of the root's table
  pub passed_are : filter (is_key tables) (attributes_of mapped class) ≡ map (attribute_at (root_table mapped class)) (filter (λ placed. placed.1.key) (enumerate_from 0 columns))
  passed_are =
      let line : List ClassId = line_of mapped.classes class.0 in
      let first : List Attribute = table_attributes tables mapped.classes line (0, root_table mapped class) in
      let later : List Attribute = flat_map (table_attributes tables mapped.classes line) (enumerate_from 1 known.rest) in
      let none : filter (is_key tables) later ≡ [] = none_pass (is_key tables) later (all_from (λ (a : Attribute). is_key tables a ≡ false) later (λ a there. no_later_key mapped line 1 0 known.rest a refl there)) in
      let split : filter (is_key tables) (attributes_of mapped class) ≡ filter (is_key tables) first =
      ap (filter (is_key tables)) (attributes_split mapped class known) ∙ filter-append (is_key tables) first later ∙ ap (λ (ys : List Attribute). filter (is_key tables) first ++ ys) none ∙ append-nil (filter (is_key tables) first) in
      let placed : List (ℕ × ColumnSpec) = enumerate_from 0 columns in
      let counted : length (filter (is_key tables) first) ≡ length (filter (λ (p : ℕ × ColumnSpec). p.1.key) placed) =
      ap (λ (ys : List Attribute). length ys) (sym split)
      ∙ sym (numbered_long (is_key tables) 0 (attributes_of mapped class))
      ∙ sym (length-map (filter (λ placed. is_key tables placed.1) (enumerate_from 0 (attributes_of mapped class))) attr_at)
      ∙ sym (length-map (key_attributes mapped class) (λ attr. (get_or (attributes_of mapped class) attr.0 no_attribute).kind))
      ∙ ap (λ (kinds : List Kind). length kinds) (key_kinds mapped class has known)
      ∙ length-map (filter (λ (column : ColumnSpec). column.key) columns) (λ column. kind_of column.kind)
      ∙ sym (numbered_long (λ (column : ColumnSpec). column.key) 0 columns) in
      split
      ∙ all_pass (is_key tables) (attribute_at (root_table mapped class)) (λ (p : ℕ × ColumnSpec). p.1.key) (λ p. is_attribute tables mapped.classes line 0 (root_table mapped class) p.1) placed
      (λ p there. ap is_key_column (numbered_there columns p there)) counted
    where
      numbered_long : {A : Type 0} (test : A → Bool) (n : ℕ) (xs : List A) → length (filter (λ placed. test placed.1) (enumerate_from n xs)) ≡ length (filter test xs)
      numbered_long test n [] = refl
      numbered_long test n (x ∷ xs) = by (test x) (numbered_long test (n + 1) xs)
        where
          by : (b : Bool) → length (filter (λ placed. test placed.1) (enumerate_from (n + 1) xs)) ≡ length (filter test xs)
              → length (cond b ((n, x) ∷ filter (λ placed. test placed.1) (enumerate_from (n + 1) xs)) (filter (λ placed. test placed.1) (enumerate_from (n + 1) xs))) ≡ length (cond b (x ∷ filter test xs) (filter test xs))
          by true more = ap suc more
          by false more = more

  -- the part of a row's key that an attribute is, is the row's cell; what is no part is as it is given
  pub part_held : (i : ℕ) (attribute : Attribute) (row : List Value) (x : Value) → slice_get (attributes_of mapped class) i ≡ Some attribute → length row ≡ length columns
      → part_or (key_cells columns row) (position (λ (attr : AttrNo). attr.0 == i) (key_attributes mapped class)) x ≡ cond (is_key tables attribute) (get_or row attribute.column.0 Null) x
  part_held i attribute row x at long =
      by (is_key tables attribute) (position (λ (attr : AttrNo). attr.0 == i) (key_attributes mapped class)) refl refl
    where
      test : AttrNo → Bool
      test attr = attr.0 == i

      by : (key : Bool) (found : Option ℕ) → is_key mapped.schema.tables attribute ≡ key → position (λ (attr : AttrNo). attr.0 == i) (key_attributes mapped class) ≡ found
          → part_or (key_cells (columns_in mapped.schema.tables (root_table mapped class)) row) found x ≡ cond key (get_or row attribute.column.0 Null) x
      by false None k e = refl
      by false (Some p) k e =
          let found = position-Some (λ (attr : AttrNo). attr.0 == i) (key_attributes mapped class) p (record { 0 = 0 }) e in
          true_false (list_any (λ (attr : AttrNo). attr.0 == i) (key_attributes mapped class))
          (any_has (λ (attr : AttrNo). attr.0 == i) (key_attributes mapped class) (get_or (key_attributes mapped class) p (record { 0 = 0 })) (has_at (key_attributes mapped class) p (get_or (key_attributes mapped class) p (record { 0 = 0 })) (slice_get-get_or (key_attributes mapped class) p (record { 0 = 0 }) found.0)) found.1)
          (key_is mapped class i attribute at ∙ k)
      by true None k e =
          let some = some_of (λ (attr : AttrNo). attr.0 == i) (key_attributes mapped class) (key_is mapped class i attribute at ∙ k) in
          let place = has_place (key_attributes mapped class) some.0 some.1 in
          absurd (some_found (λ (attr : AttrNo). attr.0 == i) (key_attributes mapped class) place.0 some.0 (slice_get_within (key_attributes mapped class) place.0 some.0 place.1)
          (ap (λ (attr : AttrNo). attr.0 == i) (get_or_from_slice_get (key_attributes mapped class) place.0 some.0 some.0 place.1) ∙ some.2) e)
      by true (Some p) k e =
          let first : AttrNo = record { 0 = 0 } in
          let keys = filter (λ (placed : ℕ × Attribute). is_key mapped.schema.tables placed.1) (enumerate_from 0 (attributes_of mapped class)) in
          let found = position-Some (λ (attr : AttrNo). attr.0 == i) (key_attributes mapped class) p first e in
          let less : p < length keys = omega (arith, found.0, length-map keys attr_at) in
          let placed : ℕ × Attribute = get_or keys p (0, no_attribute) in
          let there : slice_get keys p ≡ Some placed = slice_get-get_or keys p (0, no_attribute) less in
          let number : placed.0 ≡ i = sym (ap (λ (attr : AttrNo). attr.0) (get_or-map attr_at keys p (0, no_attribute) first less)) ∙ eqb-true (get_or (key_attributes mapped class) p first).0 i found.1 in
          let numbered = from_numbered 0 (attributes_of mapped class) placed (from_filter (λ (q : ℕ × Attribute). is_key mapped.schema.tables q.1) (enumerate_from 0 (attributes_of mapped class)) placed (has_at keys p placed there)).0 in
          let same : numbered.0 ≡ i = omega (arith, numbered.1, number) in
          let one : placed.1 ≡ attribute = same_Some placed.1 attribute (sym numbered.2 ∙ ap (slice_get (attributes_of mapped class)) same ∙ at) in
          let value : Attribute → Value = λ a. get_or row a.column.0 Null in
          let list : List Attribute = filter (is_key mapped.schema.tables) (attributes_of mapped class) in
          let stands : slice_get list p ≡ Some attribute = passed_at (is_key mapped.schema.tables) 0 (attributes_of mapped class) p placed there ∙ ap (λ (a : Attribute). Some a) one in
          let cells : map value list ≡ key_cells (columns_in mapped.schema.tables (root_table mapped class)) row =
          ap (map value) (passed_are) ∙ map-map value (attribute_at (root_table mapped class)) (filter (λ placed. placed.1.key) (enumerate_from 0 (columns_in mapped.schema.tables (root_table mapped class))))
          ∙ numbered_cells row 0 (columns_in mapped.schema.tables (root_table mapped class)) row long (λ j. let at : 0 + j ≡ j = omega arith in ap (λ (k : ℕ). get_or row k Null) at) in
          ap (λ (key : List Value). get_or key p Null) (sym cells)
          ∙ get_or-map value list p no_attribute Null (slice_get_within list p attribute stands)
          ∙ ap value (get_or_from_slice_get list p attribute no_attribute stands)
