-- A row of a class's attributes has at those of the key what stands in the key's columns of the root's table.
use Rattle.std.proofs.Common.{◌≡◌, ℕ, ◌+◌, ◌≤◌, ◌==◌, nat_lt, Bool, true, false, not, ◌&&◌, cond, List, [], ◌∷◌, ◌++◌, filter, length, get_or, map, Option, None, Some, if◌then◌else◌, refl, sym, ap, ◌∙◌, arith, append-nil, inl, inr}
use Rattle.std.specs.Prelude.{unwrap_or}
use Rattle.std.specs.Option.{option_map}
use Rattle.std.specs.List.{enumerate_from, flat_map, position, position_or_len}
use Rattle.std.proofs.lemmas.Bool.{eq-eqb, lt-ltb}
use Rattle.std.proofs.lemmas.List.{length-map}
use Rattle.std.proofs.lemmas.List.Elements.{filter-append}
use Rattle.std.proofs.lemmas.Option.{slice_get-map}
use Rattle.base_core.specs.declared.ids.AttrNo.{AttrNo}
use Rattle.base_core.specs.declared.ids.ClassId.{ClassId}
use Rattle.base_core.specs.declared.ids.ColumnNo.{ColumnNo}
use Rattle.base_core.specs.declared.ids.TableId.{TableId}
use Rattle.base_core.specs.declared.value.Kind.{Kind}
use Rattle.base_core.specs.declared.value.Value.{Value}
use Rattle.schema_core.specs.declared.table.ColumnSpec.{ColumnSpec}
use Rattle.schema_core.specs.declared.table.TableSpec.{TableSpec}
use Rattle.schema_core.specs.Catalog.{key_columns, kind_of}
use Rattle.schema_core.specs.Tables.{value_or_null}
use Rattle.class_types.specs.declared.mapped.Attribute.{Attribute}
use Rattle.class_layouts.specs.Columns.{attr_at, attribute_at, columns_in, is_attribute, is_key, is_key_column, table_attributes}
use Rattle.class_layouts.specs.Hierarchy.{line_of}
use Rattle.class_mapping.specs.Mapped.{Mapped, attributes_of, key_attributes, no_attribute, root_spec, root_table}
use Rattle.class_mapping.proofs.Having.{Has, from_filter}
use Rattle.mapping_laws.specs.Hierarchies.{HasHierarchies, HasTables}
use Rattle.mapping_laws.proofs.Attributes.{numbered_there}
use Rattle.mapping_laws.proofs.KeyColumns.{keys_placed}
use Rattle.mapping_laws.proofs.KeyKinds.{attributes_split, key_kinds, no_later_key, numbered_at}
use Rattle.load_columns.specs.declared.placing.SourceColumn.{SourceColumn}
use Rattle.load_columns.specs.Placing.{attribute_column, attribute_columns, column_at, from_root, key_numbers, number_at, place_at_rank, place_of_table, root_key}
use Rattle.load_filling.specs.Rows.{row_key, value_in}
use Rattle.loading_laws.specs.Answers.Answers.{Reads, value_at}
use Rattle.loading_laws.proofs.Answers.Totals.{filter_map, filter_twice, map_twice}

-- ---- filters

-- one test where both are the same for each item
filter_has : {A : Type 0} (p q : A → Bool) (xs : List A) → ((x : A) → Has xs x → p x ≡ q x) → filter p xs ≡ filter q xs
filter_has p q [] same = refl
filter_has p q (x ∷ xs) same =
    ap (λ (b : Bool). if b then x ∷ filter p xs else filter p xs) (same x (inl refl)) ∙ ap (λ ys. if q x then x ∷ ys else ys) (filter_has p q xs (λ y there. same y (inr there)))

none_pass : {A : Type 0} (p : A → Bool) (xs : List A) → ((x : A) → Has xs x → p x ≡ false) → filter p xs ≡ []
none_pass p [] none = refl
none_pass p (x ∷ xs) none = ap (λ (b : Bool). if b then x ∷ filter p xs else filter p xs) (none x (inl refl)) ∙ none_pass p xs (λ y there. none y (inr there))

-- what passes both of two tests is no more than what passes the first, and all of it where it is as much
record IsPart {A : Type 0} (both first : List A) : Type 0 where
  fewer : length both ≤ length first
  whole : length both ≡ length first → both ≡ first

part_by : {A : Type 0} (a b : Bool) (x : A) (both first : List A) → IsPart both first → IsPart (if a && b then x ∷ both else both) (if a then x ∷ first else first)
part_by true true x both first part = record {
  fewer = let less = part.fewer in omega (arith, less);
  whole = λ long. ap (λ rest. x ∷ rest) (part.whole (omega (arith, long)));
}
part_by true false x both first part = record {
  fewer = let less = part.fewer in omega (arith, less);
  whole = λ long. let less = part.fewer in absurd (omega (arith, less, long));
}
part_by false b x both first part = part

parts : {A : Type 0} (p q : A → Bool) (xs : List A) → IsPart (filter (λ x. p x && q x) xs) (filter p xs)
parts p q [] = record { fewer = omega arith; whole = λ long. refl }
parts p q (x ∷ xs) = part_by (p x) (q x) x (filter (λ x. p x && q x) xs) (filter p xs) (parts p q xs)

unnumbered_by : {A : Type 0} (b : Bool) (one : ℕ × A) (rest : List (ℕ × A)) (items : List A) → map (λ (o : ℕ × A). o.1) rest ≡ items → map (λ (o : ℕ × A). o.1) (if b then one ∷ rest else rest) ≡ (if b then one.1 ∷ items else items)
unnumbered_by true one rest items same = ap (λ more. one.1 ∷ more) same
unnumbered_by false one rest items same = same

-- a filter of numbered items, without the numbers
without_numbers : {A : Type 0} (test : A → Bool) (n : ℕ) (xs : List A) → map (λ (o : ℕ × A). o.1) (filter (λ placed. test placed.1) (enumerate_from n xs)) ≡ filter test xs
without_numbers test n [] = refl
without_numbers test n (x ∷ xs) = unnumbered_by (test x) (n, x) (filter (λ placed. test placed.1) (enumerate_from (n + 1) xs)) (filter test xs) (without_numbers test (n + 1) xs)

long_without : {A : Type 0} (test : A → Bool) (xs : List A) → length (filter (λ placed. test placed.1) (enumerate_from 0 xs)) ≡ length (filter test xs)
long_without test xs = sym (length-map (filter (λ placed. test placed.1) (enumerate_from 0 xs)) (λ o. o.1)) ∙ ap (λ ys. length ys) (without_numbers test 0 xs)

map_has : {A B : Type 0} (f g : A → B) (xs : List A) → ((x : A) → Has xs x → f x ≡ g x) → map f xs ≡ map g xs
map_has f g [] same = refl
map_has f g (x ∷ xs) same = ap (λ y. y ∷ map f xs) (same x (inl refl)) ∙ ap (λ ys. g x ∷ ys) (map_has f g xs (λ y there. same y (inr there)))

-- ---- the attributes of the key are the key's columns

module _ (mapped : Mapped) (class : ClassId) (has : HasHierarchies mapped) (known : HasTables mapped class) where
  abbrev tables : List TableSpec
  tables = mapped.schema.tables

  abbrev line : List ClassId
  line = line_of mapped.classes class.0

  abbrev root : TableId
  root = root_table mapped class

  abbrev placed : List (ℕ × ColumnSpec)
  placed = enumerate_from 0 (columns_in tables root)

  abbrev as_attribute : ℕ × ColumnSpec → Attribute
  as_attribute one = attribute_at root one

  abbrev is_shown_here : ℕ × ColumnSpec → Bool
  is_shown_here one = is_attribute tables mapped.classes line 0 root one.1

  abbrev is_of_key : ℕ × ColumnSpec → Bool
  is_of_key one = one.1.key

  abbrev attributes : List Attribute
  attributes = attributes_of mapped class

  abbrev first : List Attribute
  first = table_attributes tables mapped.classes line (0, root)

  abbrev behind : List Attribute
  behind = flat_map (table_attributes tables mapped.classes line) (enumerate_from 1 known.rest)

  both_of_root : filter (is_key tables) attributes ≡ map as_attribute (filter (λ one. is_of_key one && is_shown_here one) placed)
  both_of_root =
      ap (filter (is_key tables)) (attributes_split mapped class known)
      ∙ filter-append (is_key tables) first behind
      ∙ ap (λ none. filter (is_key tables) first ++ none) (none_pass (is_key tables) behind (λ a there. no_later_key mapped line 1 0 known.rest a refl there))
      ∙ append-nil (filter (is_key tables) first)
      ∙ filter_map (is_key tables) as_attribute (filter is_shown_here placed)
      ∙ ap (map as_attribute)
      (filter_twice (λ one. is_key tables (as_attribute one)) is_shown_here placed
      ∙ filter_has (λ one. is_key tables (as_attribute one) && is_shown_here one) (λ one. is_of_key one && is_shown_here one) placed
      (λ one there. ap (λ (found : Option ColumnSpec). is_key_column found && is_shown_here one) (numbered_there (columns_in tables root) one there)))

  as_long : length (filter (λ one. is_of_key one && is_shown_here one) placed) ≡ length (filter is_of_key placed)
  as_long =
      sym (length-map (filter (λ one. is_of_key one && is_shown_here one) placed) as_attribute)
      ∙ ap (λ (xs : List Attribute). length xs) (sym both_of_root)
      ∙ sym (long_without (is_key tables) attributes)
      ∙ sym (length-map (filter (λ one. is_key tables one.1) (enumerate_from 0 attributes)) attr_at)
      ∙ sym (length-map (key_attributes mapped class) (λ (attr : AttrNo). (get_or attributes attr.0 no_attribute).kind))
      ∙ ap (λ (kinds : List Kind). length kinds) (key_kinds mapped class has known)
      ∙ length-map (key_columns (root_spec mapped class)) (λ (column : ColumnSpec). kind_of column.kind)
      ∙ sym (long_without (λ (column : ColumnSpec). column.key) (columns_in tables root))

  -- they are its columns, in order
  key_attributes_are : filter (is_key tables) attributes ≡ map as_attribute (filter is_of_key placed)
  key_attributes_are = both_of_root ∙ ap (map as_attribute) ((parts is_of_key is_shown_here placed).whole as_long)

  -- ---- the values of a row

  abbrev shown : Attribute → SourceColumn
  shown attribute = attribute_column mapped class (from_root 0) attribute

  -- the root's table stands first
  root_first : place_of_table mapped class (from_root 0) root ≡ place_at_rank (from_root 0) 0
  root_first =
      let test : TableId → Bool = λ other. other.0 == root.0 in
      let long : ℕ = length (root ∷ known.rest) in
      ap (λ (own : List TableId). place_at_rank (from_root 0) (unwrap_or (position test own) 0)) known.first
      ∙ ap (place_at_rank (from_root 0))
      (ap (λ (b : Bool). let n : ℕ = cond (not b) (1 + position_or_len test known.rest) 0 in unwrap_or (cond (nat_lt n long) (Some n) None) 0) (eq-eqb root.0 root.0 refl)
      ∙ ap (λ (b : Bool). unwrap_or (cond b (Some 0) None) 0) (lt-ltb 0 long (omega arith)))

  abbrev keyed : List (ℕ × Attribute)
  keyed = filter (λ one. is_key tables one.1) (enumerate_from 0 attributes)

  at_number : (v : SourceColumn → Value) (one : ℕ × Attribute) → Has keyed one → value_in (map v (attribute_columns mapped class (from_root 0))) (attr_at one) ≡ v (shown one.1)
  at_number v one there =
      ap value_or_null
      (slice_get-map v (map shown attributes) one.0
      ∙ ap (option_map v)
      (slice_get-map shown attributes one.0 ∙ ap (option_map shown) (numbered_at attributes one (from_filter (λ (o : ℕ × Attribute). is_key tables o.1) (enumerate_from 0 attributes) one there).0)))

  -- whatever stands in the columns
  pub key_read : (v : SourceColumn → Value) → row_key mapped class (map v (attribute_columns mapped class (from_root 0))) ≡ map v (root_key mapped class (from_root 0))
  key_read v =
      let values : List Value = map v (attribute_columns mapped class (from_root 0)) in
      let at : Attribute → Value = λ a. v (shown a) in
      let keys : List (ℕ × ColumnSpec) = keys_placed (columns_in tables root) in
      map_twice (value_in values) attr_at keyed
      ∙ map_has (λ one. value_in values (attr_at one)) (λ one. at one.1) keyed (at_number v)
      ∙ sym (map_twice at (λ (one : ℕ × Attribute). one.1) keyed)
      ∙ ap (map at) (without_numbers (is_key tables) 0 attributes ∙ key_attributes_are)
      ∙ map_twice at as_attribute keys
      ∙ ap (λ (place : ℕ). map (λ (one : ℕ × ColumnSpec). v (column_at place (number_at one))) keys) root_first
      ∙ sym (map_twice (λ (number : ColumnNo). v (column_at (place_at_rank (from_root 0) 0) number)) number_at keys)
      ∙ sym (map_twice v (column_at (place_at_rank (from_root 0) 0)) (map number_at keys))

  keys_long : length (root_key mapped class (from_root 0)) ≡ length (filter is_of_key placed)
  keys_long = length-map (key_numbers mapped root) (column_at (place_at_rank (from_root 0) 0)) ∙ length-map (filter is_of_key placed) number_at

  -- a row of the class tells its key
  pub tells_keys : Reads (attribute_columns mapped class (from_root 0)) (root_key mapped class (from_root 0)) (row_key mapped class)
  tells_keys = record {
    same = λ frame row. key_read (value_at frame row);
    long = λ row.
        length-map (key_attributes mapped class) (value_in row) ∙ length-map keyed attr_at ∙ long_without (is_key tables) attributes ∙ ap (λ (xs : List Attribute). length xs) key_attributes_are
        ∙ length-map (filter is_of_key placed) as_attribute ∙ sym keys_long;
  }
