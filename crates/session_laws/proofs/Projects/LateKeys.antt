-- Foreign keys that are written after all rows are nullable, and share no column with a key, a unique constraint or another
-- foreign key.
use Rattle.std.proofs.Common.{◌≡◌, ◌⊎◌, inl, inr, ℕ, zero, suc, ◌+◌, ◌<◌, Bool, true, false, not, ◌&&◌, ◌||◌, ◌==◌, List, [], ◌∷◌, length, take, Option, None, Some, is_some, refl, sym, subst, ap, ◌∙◌, zero-add, arith}
use Rattle.std.proofs.lemmas.Bool.{eqb-true}
use Rattle.std.proofs.lemmas.Option.{get_or_from_slice_get, slice_get-get_or, slice_get_within}
use Rattle.std.specs.Prelude.{nat_eq, slice_get, if◌then◌else◌}
use Rattle.std.specs.List.{AllByRecursion, enumerate_from, filter, list_all, list_any, range_with_len}
use Rattle.base_core.specs.declared.ids.ClassId.{ClassId}
use Rattle.base_core.specs.declared.ids.TableId.{TableId}
use Rattle.base_core.specs.declared.refusal.ArgumentKind.TheVariants.{DuplicateName, NoPrimaryKey, SharedColumn, UnknownColumn}
use Rattle.schema_core.specs.declared.table.ColumnSpec.{ColumnSpec}
use Rattle.schema_core.specs.declared.table.ForeignSpec.{ForeignSpec}
use Rattle.schema_core.specs.declared.table.TableSpec.{TableSpec}
use Rattle.schema_core.specs.Catalog.{find_table, foreign_of, has_name, is_required, no_foreign, no_table, same_name, spec_of}
use Rattle.schema_core.specs.Declaration.{IsDeclared, declaration_fault, has_key, lists_unknown, names_unknown, repeats_name, shares_column, shares_one, some_list, some_two}
use Rattle.schema_core.specs.DependencyOrder.{table_ids}
use Rattle.schema_core.proofs.Names.{name_itself, same_names}
use Rattle.class_types.specs.declared.mapped.Relation.{Relation}
use Rattle.class_layouts.specs.declared.classes.Classes.{Classes}
use Rattle.class_layouts.specs.Hierarchy.{line_of}
use Rattle.class_layouts.specs.Columns.{columns_in}
use Rattle.class_layouts.specs.Faults.{foreigns_in, foreigns_of}
use Rattle.class_blocks.specs.declared.side.Side.{Side}
use Rattle.class_sides.specs.Keys.{TableKey, columns_at}
use Rattle.class_sides.specs.Linking.{ends_on, key_or_none, near_key, near_or}
use Rattle.class_sides.specs.Pairs.{is_plain, join_of}
use Rattle.class_faults.specs.Faults.{has_fixed, is_fixed, is_unique_name, key_of, posts_badly}
use Rattle.class_mapping.specs.Lines.{AreLines}
use Rattle.class_mapping.specs.Mapped.{IsValidMapping, Mapped, relations_of}
use Rattle.class_mapping.specs.Valid.{holds_of, is_joined, joins_ends}
use Rattle.class_mapping.proofs.Having.{Has, all_from, all_of, any_has, from_filter, from_flat, from_map, from_numbered, has_at, named_alike, none_of, some_of, true_false}
use Rattle.class_mapping.proofs.Lists.{and_left, and_right, or_left, or_right}
use Rattle.class_mapping.proofs.RelatedKeys.{found_ends, held, or_rest, plain_found, same_table}
use Rattle.class_mapping.proofs.RelatedLemmas.{Came, came, layouts_in, list_for, own_in, sides_in}
use Rattle.class_mapping.proofs.ValidLemmas.{split}
use Rattle.flush_order.specs.Cells.{is_in}
use Rattle.object_rows.specs.Late.{is_late, is_late_by, late_in, late_keys}
use Rattle.object_arena.specs.Graph.{Graph}
use Rattle.object_rows.specs.declared.prepared.Prepared.{Prepared}
use Rattle.row_project.specs.Changes.{project}
use Rattle.session_laws.specs.Plans.Premises.{IsFit}
use Rattle.session_laws.specs.Projects.{LateKeysAreFit, PostsAreLinks}

-- ---- a declaration

-- what a declaration that is taken has
pub record IsTaken (spec : TableSpec) : Type 0 where
  pub columns : some_two (λ one other. same_name one.name other.name) spec.columns ≡ false
  pub once : list_any (λ foreign. some_two same_name foreign.columns) spec.foreigns ≡ false
  pub known : list_any (λ foreign. names_unknown spec.columns foreign.columns) spec.foreigns ≡ false
  pub keyed : has_key spec ≡ true
  pub apart : some_two shares_one spec.foreigns ≡ false

pub taken : (tables : List TableSpec) (spec : TableSpec) → declaration_fault tables spec ≡ None → IsTaken spec
unfolding declaration_fault
taken tables spec e =
    let last = if shares_column spec then Some SharedColumn else None in
    let third = if not (has_key spec) then Some NoPrimaryKey else last in
    let second = if lists_unknown spec then Some UnknownColumn else third in
    let first = split (repeats_name tables spec) DuplicateName second e in
    let behind = split (lists_unknown spec) UnknownColumn third first.1 in
    let keyed = split (not (has_key spec)) NoPrimaryKey last behind.1 in
    let twice = some_two (λ (one other : ColumnSpec). same_name one.name other.name) spec.columns in
    record {
      columns = or_right (is_some (find_table tables spec.name)) twice (or_left (is_some (find_table tables spec.name) || twice) (some_list (some_two same_name) spec) first.0);
      once = or_right (list_any (some_two same_name) spec.uniques) (list_any (λ foreign. some_two same_name foreign.columns) spec.foreigns)
          (or_right (is_some (find_table tables spec.name) || twice) (some_list (some_two same_name) spec) first.0);
      known = or_right (list_any (names_unknown spec.columns) spec.uniques) (list_any (λ foreign. names_unknown spec.columns foreign.columns) spec.foreigns) behind.0;
      keyed = there (has_key spec) keyed.0;
      apart = (split (shares_column spec) SharedColumn None keyed.1).0;
    }
  where
    there : (b : Bool) → not b ≡ false → b ≡ true
    there true h = refl
    there false h = absurd (cc)

pub meets : (one other : ForeignSpec) (name : List ℕ) → has_name one.columns name ≡ true → has_name other.columns name ≡ true → shares_one one other ≡ true
meets one other name h g =
    let column = some_of (λ own. same_name own name) one.columns h in
    any_has (has_name other.columns) one.columns column.0 column.1 (ap (has_name other.columns) (same_names column.0 name column.2) ∙ g)

-- a column is in one foreign key alone
one_foreign : (foreigns : List ForeignSpec) (x y : ForeignSpec) (name : List ℕ) → some_two shares_one foreigns ≡ false → Has foreigns x → Has foreigns y → has_name x.columns name ≡ true → has_name y.columns name ≡ true → x ≡ y
one_foreign [] x y name apart has inside h g = absurd has
one_foreign (z ∷ zs) x y name apart (inl e) (inl f) h g = sym e ∙ f
one_foreign (z ∷ zs) x y name apart (inl e) (inr inside) h g =
    true_false (shares_one y z) (meets y z name g (ap (λ (foreign : ForeignSpec). has_name foreign.columns name) e ∙ h))
    (none_of (λ later. shares_one later z) zs y (or_left (list_any (λ later. shares_one later z) zs) (some_two shares_one zs) apart) inside)
one_foreign (z ∷ zs) x y name apart (inr has) (inl f) h g =
    true_false (shares_one x z) (meets x z name h (ap (λ (foreign : ForeignSpec). has_name foreign.columns name) f ∙ g))
    (none_of (λ later. shares_one later z) zs x (or_left (list_any (λ later. shares_one later z) zs) (some_two shares_one zs) apart) has)
one_foreign (z ∷ zs) x y name apart (inr has) (inr inside) h g =
    one_foreign zs x y name (or_right (list_any (λ later. shares_one later z) zs) (some_two shares_one zs) apart) has inside h g

-- ---- tests

pub each_has : {A : Type 0} (P : A → Type 0) (xs : List A) (x : A) → AllByRecursion P xs → Has xs x → P x
each_has P [] x all h = absurd h
each_has P (y ∷ xs) x all (inl e) = subst P e all.0
each_has P (y ∷ xs) x all (inr h) = each_has P xs x all.1 h

below_end : (a n k : ℕ) → Has (range_with_len a n) k → k < a + n
below_end a zero k h = absurd h
below_end a (suc n) k (inl e) = omega (arith, e)
below_end a (suc n) k (inr h) = omega (arith, below_end (a + 1) n k h)

all_pass : {A : Type 0} (test : A → Bool) (xs : List A) → ((x : A) → Has xs x → test x ≡ true) → list_all test xs ≡ true
all_pass test [] each = refl
all_pass test (x ∷ xs) each = ap (λ b. b && list_all test xs) (each x (inl refl)) ∙ all_pass test xs (λ y h. each y (inr h))

last_fails : (a b c : Bool) → (a && b && c) ≡ false → a ≡ true → b ≡ true → c ≡ false
last_fails a b c h p q = sym (ap (λ x. x && b && c) p ∙ ap (λ x. x && c) q) ∙ h

first_fails : (a b : Bool) → (a && b) ≡ false → b ≡ true → a ≡ false
first_fails true b h q = sym q ∙ h
first_fails false b h q = refl

first_holds : (a b : Bool) → (a || b) ≡ true → b ≡ false → a ≡ true
first_holds true b h q = refl
first_holds false b h q = absurd (true_false b h q)

pub foreign_within : (tables : List TableSpec) (t n : ℕ) (spec : Option TableSpec) (foreign : ForeignSpec) → slice_get tables t ≡ spec → slice_get (foreigns_of spec) n ≡ Some foreign → t < length tables
foreign_within tables t n None foreign e h = absurd (cc)
foreign_within tables t n (Some spec) foreign e h = slice_get_within tables t spec e

-- a foreign key that is written late: none of its columns is required, or in a unique constraint
pub record IsLateKey (mapped : Mapped) (table : TableId) (number : ℕ) : Type 0 where
  pub foreign : ForeignSpec
  pub inside : table.0 < length mapped.schema.tables
  pub is : foreign_of (spec_of mapped.schema table) number ≡ foreign
  pub here : Has (spec_of mapped.schema table).foreigns foreign
  pub free : (name : List ℕ) → Has foreign.columns name → is_fixed mapped.schema.tables table name ≡ false

-- the column of a name is in such a foreign key, all of whose columns are written late
pub record IsLateName (mapped : Mapped) (table : TableId) (name : List ℕ) : Type 0 where
  pub foreign : ForeignSpec
  pub inside : table.0 < length mapped.schema.tables
  pub here : Has (spec_of mapped.schema table).foreigns foreign
  pub named : has_name foreign.columns name ≡ true
  pub free : (other : List ℕ) → Has foreign.columns other → is_fixed mapped.schema.tables table other ≡ false
  pub whole : (other : List ℕ) → Has foreign.columns other → list_any (is_in mapped.schema table other) (late_keys mapped) ≡ true

module _ (mapped : Mapped) (lined : length mapped.classes.lines ≡ length mapped.classes.specs) (lines : AreLines mapped.schema.tables mapped.classes) (valid : IsValidMapping mapped) where
  abbrev tables : List TableSpec
  tables = mapped.schema.tables

  abbrev classes : Classes
  classes = mapped.classes

  abbrev sides : List Side
  sides = sides_in mapped

  -- ---- where a foreign key is said to be written late

  side_free : (side : Side) → Has sides side → side.spec.post_update ≡ true → side.spec.many ≡ false → has_fixed tables (Some (own_in mapped side).foreign) ≡ false
  side_free side has post many =
      let join = join_of tables classes sides side in
      let plain : is_plain side ≡ true = first_holds (is_plain side) side.spec.many (all_of (λ (s : Side). is_plain s || s.spec.many) sides side valid.collections has) many in
      let ends : ends_on sides side ≡ None = plain_found mapped lined lines valid side has plain (ends_on sides side) (found_ends mapped lined lines valid side has) in
      let joined = held (joins_ends tables (layouts_in mapped) side) join
      (or_rest (not (is_plain side)) (holds_of (joins_ends tables (layouts_in mapped) side) join) (all_of (is_joined tables classes (layouts_in mapped) sides) sides side valid.joined has) (ap not plain)) in
      let key : key_of tables classes sides side ≡ Some joined.0 = ap (λ b. if b then join else near_key side.ends) plain ∙ joined.1 in
      ap (λ (own : TableKey). has_fixed tables (Some own)) (ap (λ e. near_or e (key_or_none join)) ends ∙ ap key_or_none joined.1)
      ∙ sym (ap (has_fixed tables) key)
      ∙ last_fails side.spec.post_update (not side.spec.many || is_some side.spec.secondary) (has_fixed tables (key_of tables classes sides side))
      (none_of (posts_badly tables classes sides) sides side valid.posts has) post (ap (λ b. not b || is_some side.spec.secondary) many)

  came_free : (line : List ClassId) (relation : Relation) → Came mapped line relation → relation.post_update ≡ true → relation.many ≡ false → has_fixed tables (Some relation.foreign) ≡ false
  came_free line relation (inl found) post many =
      subst (λ (own : Relation). has_fixed tables (Some own.foreign) ≡ false) found.3
      (side_free found.0 found.1 (ap (λ (own : Relation). own.post_update) found.3 ∙ post) (ap (λ (own : Relation). own.many) found.3 ∙ many))
  came_free line relation (inr found) post many = absurd (true_false relation.post_update post (sym (ap (λ (back : Relation). back.post_update) found.4)))

  module _ (links : PostsAreLinks mapped) where
    late_free : (table : TableId) (number : ℕ) → is_late mapped table number ≡ true → has_fixed tables (Some (table, number)) ≡ false
    late_free table number late =
        let count = length classes.specs in
        let at = some_of (λ class. list_any (is_late_by table number) (relations_of mapped (record { 0 = class }))) (range_with_len 0 count) late in
        let class : ClassId = record { 0 = at.0 } in
        let less : at.0 < count = omega (arith, below_end 0 count at.0 at.1) in
        let found = some_of (is_late_by table number) (relations_of mapped class) at.2 in
        let relation : Relation = found.0 in
        let post = and_left relation.post_update ((relation.foreign.0.0 == table.0) && (relation.foreign.1 == number)) found.2 in
        let same = and_right relation.post_update ((relation.foreign.0.0 == table.0) && (relation.foreign.1 == number)) found.2 in
        let one : relation.foreign.0 ≡ table = same_table relation.foreign.0 table (and_left (relation.foreign.0.0 == table.0) (relation.foreign.1 == number) same) in
        let two : relation.foreign.1 ≡ number = eqb-true relation.foreign.1 number (and_right (relation.foreign.0.0 == table.0) (relation.foreign.1 == number) same) in
        let key : relation.foreign ≡ (table, number) = λ i. (one i, two i) in
        subst (λ (own : TableKey). has_fixed tables (Some own) ≡ false) key
        (came_free (line_of classes class.0) relation
        (came mapped lined lines (line_of classes class.0) relation (subst (λ (list : List Relation). Has list relation) (list_for mapped lined lines class less) found.1))
        post (each_has (λ (r : Relation). r.post_update ≡ true → r.many ≡ false) (relations_of mapped class) relation (links class less) found.1 post))

    late_at : (table : TableId) (number : ℕ) (foreign : ForeignSpec) → slice_get (foreigns_in tables table) number ≡ Some foreign → is_late mapped table number ≡ true → IsLateKey mapped table number
    late_at table number foreign at late =
        let within = foreign_within tables table.0 number (slice_get tables table.0) foreign refl at in
        let there : slice_get (spec_of mapped.schema table).foreigns number ≡ Some foreign =
        ap (λ (spec : Option TableSpec). slice_get (foreigns_of spec) number) (sym (slice_get-get_or tables table.0 no_table within)) ∙ at in
        record {
          foreign = foreign;
          inside = within;
          is = get_or_from_slice_get (spec_of mapped.schema table).foreigns number foreign no_foreign there;
          here = has_at (spec_of mapped.schema table).foreigns number foreign there;
          free = λ name has. none_of (is_fixed tables table) foreign.columns name (ap (λ (o : Option ForeignSpec). list_any (is_fixed tables table) (columns_at o)) (sym at) ∙ late_free table number late) has;
        }

    late_key : (post : TableId × ℕ) → Has (late_keys mapped) post → IsLateKey mapped post.0 post.1
    unfolding late_keys
    late_key post h =
        let at = from_flat (late_in mapped) (table_ids mapped.schema) post h in
        let foreigns = foreigns_in tables at.0 in
        let one = from_map (λ (placed : ℕ × ForeignSpec). (at.0, placed.0)) (filter (λ placed. is_late mapped at.0 placed.0) (enumerate_from 0 foreigns)) post at.2 in
        let kept = from_filter (λ (placed : ℕ × ForeignSpec). is_late mapped at.0 placed.0) (enumerate_from 0 foreigns) one.0 one.1 in
        let place = from_numbered 0 foreigns one.0 kept.0 in
        let here : slice_get foreigns one.0.0 ≡ Some one.0.1 = ap (slice_get foreigns) (place.1 ∙ zero-add place.0) ∙ place.2 in
        subst (λ (own : TableId × ℕ). IsLateKey mapped own.0 own.1) one.2 (late_at at.0 one.0.0 one.0.1 here kept.1)

    late_named : (table : TableId) (name : List ℕ) → list_any (is_in mapped.schema table name) (late_keys mapped) ≡ true → IsLateName mapped table name
    late_named table name late =
        let found = some_of (is_in mapped.schema table name) (late_keys mapped) late in
        let post : TableId × ℕ = found.0 in
        let same : post.0 ≡ table = same_table post.0 table (and_left (nat_eq post.0.0 table.0) (has_name (foreign_of (spec_of mapped.schema table) post.1).columns name) found.2) in
        let named = and_right (nat_eq post.0.0 table.0) (has_name (foreign_of (spec_of mapped.schema table) post.1).columns name) found.2 in
        let key = subst (λ (t : TableId). IsLateKey mapped t post.1) same (late_key post found.1) in
        record {
          foreign = key.foreign;
          inside = key.inside;
          here = key.here;
          named = ap (λ (foreign : ForeignSpec). has_name foreign.columns name) (sym key.is) ∙ named;
          free = key.free;
          whole = λ other has. any_has (is_in mapped.schema table other) (late_keys mapped) post found.1
              (ap (λ b. b && has_name (foreign_of (spec_of mapped.schema table) post.1).columns other) (and_left (nat_eq post.0.0 table.0) (has_name (foreign_of (spec_of mapped.schema table) post.1).columns name) found.2)
              ∙ ap (λ (foreign : ForeignSpec). has_name foreign.columns other) key.is
              ∙ any_has (λ own. same_name own other) key.foreign.columns other has (name_itself other));
        }

    -- the column is not required, nor in a unique constraint
    late_column : (table : TableId) (column : ColumnSpec) → Has (spec_of mapped.schema table).columns column → list_any (is_in mapped.schema table column.name) (late_keys mapped) ≡ true → is_required column ≡ false
    late_column table column has late =
        let is = late_named table column.name late in
        let own = some_of (λ other. same_name other column.name) is.foreign.columns is.named in
        let columns = columns_in tables table in
        first_fails (is_required column) (same_name column.name own.0)
        (none_of (λ (other : ColumnSpec). is_required other && same_name other.name own.0) columns column
        (or_left (list_any (λ (other : ColumnSpec). is_required other && same_name other.name own.0) columns) (is_unique_name (slice_get tables table.0) own.0) (is.free own.0 own.1)) has)
        (named_alike column.name own.0 (sym (same_names own.0 column.name own.2)))

    not_unique : {A : Type 0} (table : TableId) (unique : List (List ℕ)) → Has (spec_of mapped.schema table).uniques unique → (name : List ℕ) → Has unique name → list_any (is_in mapped.schema table name) (late_keys mapped) ≡ true → A
    not_unique table unique has name inside late =
        let is = late_named table name late in
        let own = some_of (λ other. same_name other name) is.foreign.columns is.named in
        let none = or_right (list_any (λ (other : ColumnSpec). is_required other && same_name other.name own.0) (columns_in tables table)) (is_unique_name (slice_get tables table.0) own.0) (is.free own.0 own.1) in
        let uniques : list_any (λ other. has_name other own.0) (spec_of mapped.schema table).uniques ≡ false =
        ap (λ (spec : Option TableSpec). is_unique_name spec own.0) (sym (slice_get-get_or tables table.0 no_table is.inside)) ∙ none in
        true_false (has_name unique own.0) (any_has (λ other. same_name other own.0) unique name inside (named_alike name own.0 (sym (same_names own.0 name own.2))))
        (none_of (λ other. has_name other own.0) (spec_of mapped.schema table).uniques unique uniques has)

    -- a column of two foreign keys makes them one
    whole_late : IsDeclared tables mapped.schema.resolved → (table : TableId) (foreign : ForeignSpec) → Has (spec_of mapped.schema table).foreigns foreign → (name : List ℕ) → Has foreign.columns name
        → list_any (is_in mapped.schema table name) (late_keys mapped) ≡ true → list_all (λ other. list_any (is_in mapped.schema table other) (late_keys mapped)) foreign.columns ≡ true
    whole_late declared table foreign has name inside late =
        let is = late_named table name late in
        let apart = (taken (take table.0 tables) (spec_of mapped.schema table) (declared.faultless table.0 is.inside)).apart in
        let same : is.foreign ≡ foreign =
        one_foreign (spec_of mapped.schema table).foreigns is.foreign foreign name apart is.here has is.named (any_has (λ other. same_name other name) foreign.columns name inside (name_itself name)) in
        all_pass (λ other. list_any (is_in mapped.schema table other) (late_keys mapped)) foreign.columns
        (λ other within. is.whole other (subst (λ (own : ForeignSpec). Has own.columns other) (sym same) within))

    keys_fit : IsDeclared tables mapped.schema.resolved → (graph : Graph) (prepared : Prepared) → IsFit mapped.schema (project mapped graph prepared)
    keys_fit declared graph prepared =
        let late = λ (table : TableId) (name : List ℕ). list_any (is_in mapped.schema table name) (late_keys mapped) in
        record {
          no_key = λ table. all_from (λ (column : ColumnSpec). late table column.name ≡ true → column.key ≡ false) (spec_of mapped.schema table).columns
              (λ column has h. or_right column.not_null column.key (late_column table column has h));
          nullable = λ table. all_from (λ (column : ColumnSpec). late table column.name ≡ true → is_required column ≡ false) (spec_of mapped.schema table).columns
              (λ column has h. late_column table column has h);
          uniques = λ table. all_from (λ unique. list_any (late table) unique ≡ false) (spec_of mapped.schema table).uniques (λ unique has. none_late table unique has (list_any (late table) unique) refl);
          foreigns = λ table. all_from (λ (foreign : ForeignSpec). (list_all (late table) foreign.columns ≡ true) ⊎ (list_any (late table) foreign.columns ≡ false)) (spec_of mapped.schema table).foreigns
              (λ foreign has. all_or_none table foreign has (list_any (late table) foreign.columns) refl);
        }
      where
        none_late : (table : TableId) (unique : List (List ℕ)) → Has (spec_of mapped.schema table).uniques unique → (b : Bool) → list_any (λ name. list_any (is_in mapped.schema table name) (late_keys mapped)) unique ≡ b → list_any (λ name. list_any (is_in mapped.schema table name) (late_keys mapped)) unique ≡ false
        none_late table unique has false e = e
        none_late table unique has true e = let found = some_of (λ name. list_any (is_in mapped.schema table name) (late_keys mapped)) unique e in not_unique table unique has found.0 found.1 found.2

        all_or_none : (table : TableId) (foreign : ForeignSpec) → Has (spec_of mapped.schema table).foreigns foreign → (b : Bool) → list_any (λ name. list_any (is_in mapped.schema table name) (late_keys mapped)) foreign.columns ≡ b
            → (list_all (λ name. list_any (is_in mapped.schema table name) (late_keys mapped)) foreign.columns ≡ true) ⊎ (list_any (λ name. list_any (is_in mapped.schema table name) (late_keys mapped)) foreign.columns ≡ false)
        all_or_none table foreign has false e = inr e
        all_or_none table foreign has true e =
            let found = some_of (λ name. list_any (is_in mapped.schema table name) (late_keys mapped)) foreign.columns e in
            inl (whole_late declared table foreign has found.0 found.1 found.2)

pub late_keys_fit : LateKeysAreFit
late_keys_fit mapped graph prepared lined lines valid declared links = keys_fit mapped lined lines valid links declared graph prepared
