-- What a mapping keeps of plain root classes as more is declared, and what such a class has in it.
use Rattle.std.proofs.Common.{◌≡◌, ℕ, ◌+◌, ◌<◌, suc, Bool, true, false, cond, ◌&&◌, ◌||◌, List, [], ◌∷◌, ◌++◌, ◌∙◌, length, map, get_or, ap, sym, refl, subst, Option, None, Some, is_some, is_none, Result, Ok, Err, arith, zero-add}
use Rattle.std.specs.Prelude.{nat_lt, slice_get}
use Rattle.std.specs.Option.{option_map}
use Rattle.std.specs.List.{enumerate_from, flat_map, list_all, position, position_or_len}
use Rattle.std.proofs.lemmas.Bool.{and_from, and_parts}
use Rattle.std.proofs.lemmas.List.{length-append}
use Rattle.std.proofs.lemmas.List.FromFn.{get_or-enumerate_from, length-enumerate_from}
use Rattle.std.proofs.lemmas.List.Folds.{list_all-append, position_or_len_push}
use Rattle.std.proofs.lemmas.List.Quantifiers.{position-Some}
use Rattle.std.proofs.lemmas.List.Sums.{AllPass-from_list_all}
use Rattle.std.proofs.lemmas.Option.{slice_get-get_or, slice_get-map}
use Rattle.std.proofs.lemmas.Bool.Decides.{nat_tests}
use Rattle.base_core.specs.declared.ids.ClassId.{ClassId}
use Rattle.base_core.specs.declared.ids.TableId.{TableId}
use Rattle.base_core.specs.declared.refusal.ArgumentKind.{ArgumentKind}
use Rattle.base_core.specs.declared.refusal.ArgumentKind.TheVariants.{DuplicateName, BadClass}
use Rattle.base_core.specs.declared.refusal.Refusal.TheVariants.{ArgumentError}
use Rattle.schema_core.specs.declared.table.TableSpec.{TableSpec}
use Rattle.schema_core.specs.Catalog.{Catalog, no_table, same_name}
use Rattle.schema_core.specs.Declaration.{declare, declared_unless as table_unless, declaration_fault, some_two, with_table}
use Rattle.class_types.specs.Rules.{Rules}
use Rattle.class_types.specs.declared.declared.ClassSpec.{ClassSpec}
use Rattle.class_layouts.specs.declared.classes.Classes.{Classes}
use Rattle.class_layouts.specs.declared.layout.Layout.{Layout}
use Rattle.class_layouts.specs.Columns.{layouts_of, named_table, own_table, table_in, tables_on, attributes_on}
use Rattle.class_layouts.specs.Declaring.{declared_unless}
use Rattle.class_layouts.specs.Faults.{class_fault, first_fault, is_declared, maps_name, misses_declaration, names_on}
use Rattle.class_layouts.specs.Hierarchy.{line_of, line_or_none, new_line, no_class, root_in, with_class}
use Rattle.class_blocks.specs.declared.side.Side.{Side}
use Rattle.class_sides.specs.Sides.{side_of, sides_at}
use Rattle.class_sides.specs.Linking as linking
use Rattle.class_mapping.specs.Mapped.{IsClass, Mapped, before_last, class_or, list_or_none, relations_of, root_of, root_table, table_or_none}
use Rattle.class_mapping.specs.Declaring.{class_unless, declare_class}
use Rattle.class_mapping.specs.Plain.{alone, early_fault, is_over_table, is_plain_root, lines_alone}
use Rattle.class_mapping.specs.PlainClass.{ArePlain, IsPlainClass}
use Rattle.class_mapping.proofs.MappingLemmas.{taken_is, untaken}
use Rattle.class_mapping.proofs.PlainLemmas.{early_is, one_table, plain_all, plain_attributes, plain_keys, plain_line, plain_parts}
use Rattle.class_mapping.proofs.ValidLemmas.{split}
use Rattle.class_mapping.proofs.Lists.{or_left, some_is}

-- ---- the tables that classes name are declared

named_or : (o : Option TableId) (first base : Bool) → (first || (is_none o && (true || base))) ≡ false → is_some o ≡ true
named_or None true base h = absurd cc
named_or None false base h = absurd cc
named_or (Some table) first base h = refl

over_if : (tables : List TableSpec) (name : Option (List ℕ)) (first base : Bool) → (first || (is_none (named_table tables name) && (is_some name || base))) ≡ false → (is_none name || is_some (named_table tables name)) ≡ true
over_if tables None first base h = refl
over_if tables (Some name) first base h = named_or (named_table tables (Some name)) first base h

over_one : (rules : Rules) (tables : List TableSpec) (classes : Classes) (spec : ClassSpec) → class_fault rules tables classes spec ≡ None → is_over_table tables spec ≡ true
unfolding first_fault
over_one rules tables classes spec h =
    let line : List ClassId = new_line classes spec in
    let one = split (is_declared classes.specs spec.name || some_two same_name (names_on tables (with_class classes spec) line)) DuplicateName _ h in
    let two = split (misses_declaration tables spec line || maps_name classes.specs spec.table) BadClass _ one.1 in
    over_if tables spec.table _ (is_none spec.base) (or_left (misses_declaration tables spec line) (maps_name classes.specs spec.table) two.0)

-- with one class more
pub over_more : (rules : Rules) (tables : List TableSpec) (classes : Classes) (spec : ClassSpec) (new : Classes) → declared_unless (class_fault rules tables classes spec) classes spec ≡ Ok (tt, new)
    → list_all (is_over_table tables) classes.specs ≡ true → list_all (is_over_table tables) new.specs ≡ true
over_more rules tables classes spec new h old =
    rw (taken_is (class_fault rules tables classes spec) classes spec new h)
    (list_all-append (is_over_table tables) classes.specs (spec ∷ [])
    ∙ and_from (list_all (is_over_table tables) classes.specs) (is_over_table tables spec && true) old
    (and_from (is_over_table tables spec) true (over_one rules tables classes spec (untaken (class_fault rules tables classes spec) classes spec new h)) refl))

found_is : (b : Bool) (n : ℕ) → is_some (option_map (λ place. let table : TableId = record { 0 = place } in table) (cond b (Some n) None)) ≡ b
found_is true n = refl
found_is false n = refl

pub place_kept : {A : Type 0} (p : A → Bool) (xs : List A) (y : A) → nat_lt (position_or_len p xs) (length xs) ≡ true → nat_lt (position_or_len p (xs ++ y ∷ [])) (length (xs ++ y ∷ [])) ≡ true
place_kept {A = A} p xs y h = grind (arith, nat_tests, position_or_len_push, length-append {A = A})

pub over_kept : (tables : List TableSpec) (more : TableSpec) (name : Option (List ℕ)) → (is_none name || is_some (named_table tables name)) ≡ true → (is_none name || is_some (named_table (tables ++ more ∷ []) name)) ≡ true
over_kept tables more None h = refl
over_kept tables more (Some name) h =
    let named : TableSpec → Bool = λ spec. same_name spec.name name in
    let old : nat_lt (position_or_len named tables) (length tables) ≡ true = sym (found_is (nat_lt (position_or_len named tables) (length tables)) (position_or_len named tables)) ∙ h in
    found_is (nat_lt (position_or_len named (tables ++ more ∷ [])) (length (tables ++ more ∷ []))) (position_or_len named (tables ++ more ∷ [])) ∙ place_kept named tables more old

all_over : (tables : List TableSpec) (more : TableSpec) (specs : List ClassSpec) → list_all (is_over_table tables) specs ≡ true → list_all (is_over_table (tables ++ more ∷ [])) specs ≡ true
all_over tables more [] h = refl
all_over tables more (spec ∷ specs) h =
    let parts = and_parts (is_over_table tables spec) (list_all (is_over_table tables) specs) h in
    and_from (is_over_table (tables ++ more ∷ []) spec) (list_all (is_over_table (tables ++ more ∷ [])) specs) (over_kept tables more spec.table parts.0) (all_over tables more specs parts.1)

ok_same : {A E : Type 0} (x y : A) (r : Result A E) → r ≡ Ok x → r ≡ Ok y → x ≡ y
ok_same x y r f g = cc

taken_unless : (fault : Option ArgumentKind) (schema : Catalog) (spec : TableSpec) (table : TableId) (new : Catalog) → table_unless fault schema spec ≡ Ok (table, new) → new ≡ with_table schema spec
taken_unless (Some fault) schema spec table new h = absurd cc
taken_unless None schema spec table new h = ap (λ (p : TableId × Catalog). p.1) (sym (ok_same (record { 0 = length schema.tables }, with_table schema spec) (table, new) (table_unless None schema spec) refl h))

-- a declaration of a table that is taken has put it behind the others
pub table_taken : (schema : Catalog) (spec : TableSpec) (table : TableId) (new : Catalog) → declare schema spec ≡ Ok (table, new) → new ≡ with_table schema spec
unfolding declare
table_taken schema spec table new h = taken_unless (declaration_fault schema.tables spec) schema spec table new h

-- with one table more
pub over_table : (schema : Catalog) (spec : TableSpec) (table : TableId) (new : Catalog) (specs : List ClassSpec) → declare schema spec ≡ Ok (table, new) → list_all (is_over_table schema.tables) specs ≡ true → list_all (is_over_table new.tables) specs ≡ true
over_table schema spec table new specs h old = rw (table_taken schema spec table new h) (all_over schema.tables spec specs old)

-- ---- the line of a plain root is the class alone

lines_more : (n : ℕ) (specs : List ClassSpec) (spec : ClassSpec) → map alone (enumerate_from n (specs ++ spec ∷ [])) ≡ map alone (enumerate_from n specs) ++ (record { 0 = n + length specs } ∷ []) ∷ []
lines_more n [] spec =
    let same : n ≡ n + 0 = omega arith in
    ap (λ (k : ℕ). let line : List ClassId = record { 0 = k } ∷ [] in line ∷ []) same
lines_more n (first ∷ specs) spec =
    let same : n + 1 + length specs ≡ n + suc (length specs) = omega arith in
    ap (λ (lines : List (List ClassId)). alone (n, first) ∷ lines)
    (lines_more (n + 1) specs spec
    ∙ ap (λ (k : ℕ). map alone (enumerate_from (n + 1) specs) ++ (record { 0 = k } ∷ []) ∷ []) same)

-- with one class more
pub alone_more : (classes : Classes) (spec : ClassSpec) (new : Classes) → new ≡ with_class classes spec → (list_all is_plain_root classes.specs ≡ true → classes.lines ≡ lines_alone classes.specs)
    → list_all is_plain_root new.specs ≡ true → new.lines ≡ lines_alone new.specs
alone_more classes spec new is old = rw is (by)
  where
    by : list_all is_plain_root (classes.specs ++ spec ∷ []) ≡ true → classes.lines ++ new_line classes spec ∷ [] ≡ lines_alone (classes.specs ++ spec ∷ [])
    by all =
        let parts = plain_all classes.specs spec all in
        ap (λ (lines : List (List ClassId)). lines ++ new_line classes spec ∷ []) (old parts.0)
        ∙ ap (λ (line : List ClassId). lines_alone classes.specs ++ line ∷ []) (plain_line classes spec (plain_parts spec parts.1).base)
        ∙ ap (λ (k : ℕ). lines_alone classes.specs ++ (record { 0 = k } ∷ []) ∷ []) (sym (zero-add (length classes.specs)))
        ∙ sym (lines_more 0 classes.specs spec)

line_is : (classes : Classes) (class : ClassId) → classes.lines ≡ lines_alone classes.specs → class.0 < length classes.specs → line_of classes class.0 ≡ class ∷ []
line_is classes class lines less =
    let specs : List ClassSpec = classes.specs in
    let long : class.0 < length (enumerate_from 0 specs) = rw length-enumerate_from less in
    ap (λ (all : List (List ClassId)). line_or_none (slice_get all class.0)) lines
    ∙ ap line_or_none (slice_get-map alone (enumerate_from 0 specs) class.0)
    ∙ ap (λ (o : Option (ℕ × ClassSpec)). line_or_none (option_map alone o)) (slice_get-get_or (enumerate_from 0 specs) class.0 (0, no_class) long)
    ∙ ap (λ (placed : ℕ × ClassSpec). alone placed) (get_or-enumerate_from 0 specs class.0 (0, no_class) less)
    ∙ ap (λ (k : ℕ). let line : List ClassId = record { 0 = k } ∷ [] in line) (zero-add class.0)

-- ---- no class has relationships

no_sides_from : (tables : List TableSpec) (classes : Classes) (layouts : List Layout) (n : ℕ) (specs : List ClassSpec) → list_all is_plain_root specs ≡ true → flat_map (sides_at tables classes layouts) (enumerate_from n specs) ≡ []
no_sides_from tables classes layouts n [] all = refl
no_sides_from tables classes layouts n (spec ∷ specs) all =
    let parts = and_parts (is_plain_root spec) (list_all is_plain_root specs) all in
    ap (λ (relations : _). map (side_of tables classes layouts n) relations ++ flat_map (sides_at tables classes layouts) (enumerate_from (n + 1) specs)) (plain_parts spec parts.0).relations
    ∙ no_sides_from tables classes layouts (n + 1) specs parts.1

none_on : (tables : List TableSpec) (classes : Classes) (names : List (List (List ℕ))) (line : List ClassId) → linking.relations_on tables classes [] names line ≡ []
none_on tables classes names [] = refl
none_on tables classes names (class ∷ line) = none_on tables classes names line

none_at : (tables : List TableSpec) (classes : Classes) (names : List (List (List ℕ))) (lines : List (List ClassId)) (o : Option (List ClassId)) → list_or_none (option_map (linking.relations_on tables classes [] names) o) ≡ []
none_at tables classes names lines None = refl
none_at tables classes names lines (Some line) = none_on tables classes names line

no_relations : (mapped : Mapped) (class : ClassId) → ArePlain mapped → relations_of mapped class ≡ []
no_relations mapped class all =
    let tables : List TableSpec = mapped.schema.tables in
    let classes : Classes = mapped.classes in
    let names : List (List (List ℕ)) = linking.all_names classes [] in
    ap (λ (sides : List Side). list_or_none (slice_get (linking.relations_by tables classes sides) class.0)) (no_sides_from tables classes (layouts_of tables classes) 0 classes.specs all)
    ∙ ap list_or_none (slice_get-map (linking.relations_on tables classes [] names) classes.lines class.0)
    ∙ none_at tables classes names classes.lines (slice_get classes.lines class.0)

-- ---- what a plain class has

from_place : (o : Option ℕ) (n : ℕ) → ((i : ℕ) → o ≡ Some i → i < n) → (table : TableId) → option_map (λ place. record { 0 = place }) o ≡ Some table → table.0 < n
from_place None n within table e = absurd cc
from_place (Some i) n within table e =
    let same : i ≡ table.0 = cc in
    subst (λ (k : ℕ). k < n) same (within i refl)

-- a table that is found is declared
pub found_table : (tables : List TableSpec) (name : Option (List ℕ)) (table : TableId) → named_table tables name ≡ Some table → table.0 < length tables
found_table tables None table e = absurd cc
found_table tables (Some name) table e =
    from_place (position (λ spec. same_name spec.name name) tables) (length tables)
    (λ i at. (position-Some (λ (spec : TableSpec). same_name spec.name name) tables i no_table at).0) table e

named_by : (tables : List TableSpec) (spec : ClassSpec) → is_some spec.table ≡ true → is_over_table tables spec ≡ true → (table : TableId) × (named_table tables spec.table ≡ Some table)
named_by tables spec has over = by spec.table has over
  where
    by : (name : Option (List ℕ)) → is_some name ≡ true → (is_none name || is_some (named_table tables name)) ≡ true → (table : TableId) × (named_table tables name ≡ Some table)
    by None has over = absurd cc
    by (Some name) has over = some_is (named_table tables (Some name)) over

-- where each class is a plain root
pub plain_class : (mapped : Mapped) (class : ClassId) → (list_all is_plain_root mapped.classes.specs ≡ true → mapped.classes.lines ≡ lines_alone mapped.classes.specs)
    → list_all (is_over_table mapped.schema.tables) mapped.classes.specs ≡ true → IsClass mapped class → ArePlain mapped → IsPlainClass mapped class
plain_class mapped class lines over less all =
    let tables : List TableSpec = mapped.schema.tables in
    let classes : Classes = mapped.classes in
    let spec : ClassSpec = get_or classes.specs class.0 no_class in
    let line : line_of classes class.0 ≡ class ∷ [] = line_is classes class (lines all) less in
    let root : root_of mapped class ≡ class = ap (λ (l : List ClassId). class_or (root_in l) class) line in
    let parts = plain_parts spec (AllPass-from_list_all is_plain_root classes.specs all class.0 no_class less) in
    let found = named_by tables spec parts.table (AllPass-from_list_all (is_over_table tables) classes.specs over class.0 no_class less) in
    let table : TableId = found.0 in
    let own : own_table tables classes class.0 ≡ Some table = ap (table_in tables) (slice_get-get_or classes.specs class.0 no_class less) ∙ found.1 in
    let is : root_table mapped class ≡ table = ap (λ (c : ClassId). table_or_none (own_table tables classes c.0)) root ∙ ap table_or_none own in
    let here : own_table tables classes class.0 ≡ Some (root_table mapped class) = own ∙ sym (ap (λ (t : TableId). Some t) is) in
    let attributes = ap (attributes_on tables classes) line ∙ plain_attributes tables classes class (root_table mapped class) all here in
    record {
      root = root;
      parent = ap before_last line;
      declared = subst (λ (t : TableId). t.0 < length tables) (sym is) (found_table tables spec.table table found.1);
      tables = ap (tables_on tables classes) line ∙ one_table tables classes class (root_table mapped class) here;
      attributes = attributes;
      keys = plain_keys tables (root_table mapped class) (attributes_on tables classes (line_of classes class.0)) attributes;
      relations = no_relations mapped class all;
    }

-- the same of a mapping that is seen
pub plain_seen : (schema : Catalog) (classes : Classes) (mapped : Mapped) (class : ClassId) → record { schema = schema; classes = classes } ≡ mapped
    → (list_all is_plain_root classes.specs ≡ true → classes.lines ≡ lines_alone classes.specs) → list_all (is_over_table schema.tables) classes.specs ≡ true
    → IsClass mapped class → ArePlain mapped → IsPlainClass mapped class
plain_seen schema classes mapped class e lines over =
    subst (λ (m : Mapped). IsClass m class → ArePlain m → IsPlainClass m class) e (plain_class (record { schema = schema; classes = classes }) class lines over)

-- ---- a fault that is told early

-- it is that of the declaration
pub told_early : (rules : Rules) (schema : Catalog) (classes : Classes) (mapped : Mapped) (spec : ClassSpec) (specs : List ClassSpec) (fault : ArgumentKind) → record { schema = schema; classes = classes } ≡ mapped
    → specs ≡ classes.specs → Some fault ≡ early_fault schema.tables specs spec → declare_class rules mapped spec ≡ Err (ArgumentError fault)
unfolding declare_class
told_early rules schema classes mapped spec specs fault e same told =
    let now : Mapped = record { schema = schema; classes = classes } in
    subst (λ (m : Mapped). declare_class rules m spec ≡ Err (ArgumentError fault)) e
    (ap (λ (found : Option ArgumentKind). class_unless found now spec)
    (early_is rules schema.tables classes spec fault (sym (told ∙ ap (λ (others : List ClassSpec). early_fault schema.tables others spec) same))))

-- none is
pub not_early : (schema : Catalog) (classes : Classes) (mapped : Mapped) (spec : ClassSpec) (specs : List ClassSpec) → record { schema = schema; classes = classes } ≡ mapped
    → specs ≡ classes.specs → None ≡ early_fault schema.tables specs spec → early_fault mapped.schema.tables mapped.classes.specs spec ≡ None
not_early schema classes mapped spec specs e same told =
    subst (λ (m : Mapped). early_fault m.schema.tables m.classes.specs spec ≡ None) e (sym (told ∙ ap (λ (others : List ClassSpec). early_fault schema.tables others spec) same))
