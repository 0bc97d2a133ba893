-- The tables of a class: its root's first, all declared, and no two of one name.
use Rattle.std.proofs.Common.{◌≡◌, inl, inr, ℕ, zero, suc, ◌<◌, ◌≤◌, Bool, true, false, not, ◌&&◌, ◌==◌, nat_lt, List, [], ◌∷◌, ◌∙◌, length, map, get_or, ap, sym, refl, Option, None, Some, is_some, is_none, arith}
use Rattle.std.specs.Prelude.{slice_get}
use Rattle.std.specs.List.{cons_option, filter_map, list_any}
use Rattle.std.proofs.lemmas.Bool.{eq-eqb, eqb-true, ltb-false, ltb-true}
use Rattle.std.proofs.lemmas.Option.{same_Some}
use Rattle.base_core.specs.declared.ids.ClassId.{ClassId}
use Rattle.base_core.specs.declared.ids.TableId.{TableId}
use Rattle.schema_core.specs.declared.table.TableSpec.{TableSpec}
use Rattle.schema_core.specs.Catalog.{has_name, no_table, same_name}
use Rattle.schema_core.specs.Declaration.{some_two}
use Rattle.schema_core.proofs.Names.{same_names}
use Rattle.sql_semantics.specs.Plain.{are_distinct}
use Rattle.class_types.specs.declared.declared.ClassSpec.{ClassSpec}
use Rattle.class_layouts.specs.declared.classes.Classes.{Classes}
use Rattle.class_layouts.specs.Columns.{named_table, own_table, table_in, tables_on}
use Rattle.class_layouts.specs.Faults.{is_named, maps_name}
use Rattle.class_layouts.specs.Hierarchy.{line_of, root_in}
use Rattle.class_mapping.specs.Lines.{is_root_over, is_rooted, is_same_class, maps_same}
use Rattle.class_mapping.specs.Mapped.{IsClass, Mapped, class_or, root_table, table_or_none, tables_of}
use Rattle.class_mapping.proofs.Having.{Has, from_map, has_at, named_alike, none_of, true_false}
use Rattle.class_mapping.proofs.LineLemmas.{all_at, none_at}
use Rattle.class_mapping.proofs.Lists.{and_right, or_left, or_right, some_is}
use Rattle.class_mapping.proofs.OnceLemmas.{none_by}
use Rattle.class_mapping.proofs.PlainClassLemmas.{found_table}
use Rattle.class_mapping.proofs.RelatedKeys.{named_as}
use Rattle.class_mapping.proofs.RelatedLemmas.{line_for}
use Rattle.mapping_laws.specs.Hierarchies.{HasHierarchies}

-- ---- tests that are known

pub not_zero : (n k : ℕ) → n ≡ suc k → (n == 0) ≡ false
not_zero n k e = by (n == 0) refl
  where
    by : (b : Bool) → (n == 0) ≡ b → b ≡ false
    by true h = let none : n ≡ 0 = eqb-true n 0 h in absurd (omega (arith, e, none))
    by false h = refl

pub twice_not : (b : Bool) → not (not b) ≡ true → b ≡ true
twice_not true h = refl
twice_not false h = absurd cc

-- ---- the root's table is the first

pub found_root : (tables : List TableSpec) (found : Option ClassSpec) → is_root_over tables found ≡ true → (table : TableId) × (table_in tables found ≡ Some table)
found_root tables None h = absurd cc
found_root tables (Some spec) h = some_is (named_table tables spec.table) (and_right (is_none spec.base) (is_some (named_table tables spec.table)) h)

begin_by : (mapped : Mapped) (class : ClassId) (line : List ClassId) → is_rooted mapped.schema.tables mapped.classes.specs line ≡ true
    → (rest : List TableId) × (tables_on mapped.schema.tables mapped.classes line ≡ table_or_none (own_table mapped.schema.tables mapped.classes (class_or (root_in line) class).0) ∷ rest)
begin_by mapped class [] h = absurd cc
begin_by mapped class (root ∷ line) h =
    let own = found_root mapped.schema.tables (slice_get mapped.classes.specs root.0) h in
    let rest : List TableId = tables_on mapped.schema.tables mapped.classes line in
    (rest, ap (λ (o : Option TableId). cons_option o rest) own.1 ∙ ap (λ (table : TableId). table ∷ rest) (sym (ap table_or_none own.1)))

-- the line of a declared class begins with a root over a table
pub line_rooted : (mapped : Mapped) (class : ClassId) → HasHierarchies mapped → IsClass mapped class → is_rooted mapped.schema.tables mapped.classes.specs (line_of mapped.classes class.0) ≡ true
line_rooted mapped class has less =
    all_at (is_rooted mapped.schema.tables mapped.classes.specs) mapped.classes.lines class.0 (line_of mapped.classes class.0) has.lines.rooted (line_for mapped has.lined has.lines class.0 less)

pub tables_begin : (mapped : Mapped) (class : ClassId) → HasHierarchies mapped → IsClass mapped class → (rest : List TableId) × (tables_of mapped class ≡ root_table mapped class ∷ rest)
tables_begin mapped class has less = begin_by mapped class (line_of mapped.classes class.0) (line_rooted mapped class has less)

-- ---- each is declared

mapped_by : {A B : Type 0} (f : A → Option B) (x : A) (xs : List A) (y : B) (found : Option B) → f x ≡ found → (Has (filter_map f xs) y → (z : A) × Has xs z × (f z ≡ Some y))
    → Has (cons_option found (filter_map f xs)) y → (z : A) × Has (x ∷ xs) z × (f z ≡ Some y)
mapped_by f x xs y None e more h = let later = more h in (later.0, inr later.1, later.2)
mapped_by f x xs y (Some first) e more (inl here) = (x, inl refl, e ∙ ap (λ w. Some w) here)
mapped_by f x xs y (Some first) e more (inr h) = let later = more h in (later.0, inr later.1, later.2)

pub from_filter_map : {A B : Type 0} (f : A → Option B) (xs : List A) (y : B) → Has (filter_map f xs) y → (x : A) × Has xs x × (f x ≡ Some y)
from_filter_map f [] y h = absurd h
from_filter_map f (x ∷ xs) y h = mapped_by f x xs y (f x) refl (from_filter_map f xs y) h

-- the class of a table names it
pub record IsOwn (tables : List TableSpec) (classes : Classes) (class : ℕ) (table : TableId) : Type 0 where
  pub spec : ClassSpec
  pub declared : slice_get classes.specs class ≡ Some spec
  pub named : spec.table ≡ Some (get_or tables table.0 no_table).name
  pub inside : table.0 < length tables

own_by : (tables : List TableSpec) (classes : Classes) (class : ℕ) (table : TableId) (found : Option ClassSpec) → slice_get classes.specs class ≡ found → table_in tables found ≡ Some table → IsOwn tables classes class table
own_by tables classes class table None e h = absurd cc
own_by tables classes class table (Some spec) e h = record { spec = spec; declared = e; named = named_as tables spec.table table h; inside = found_table tables spec.table table h }

pub own_is : (tables : List TableSpec) (classes : Classes) (class : ℕ) (table : TableId) → own_table tables classes class ≡ Some table → IsOwn tables classes class table
own_is tables classes class table h = own_by tables classes class table (slice_get classes.specs class) refl h

pub tables_declared : (mapped : Mapped) (class : ClassId) (table : TableId) → Has (tables_of mapped class) table → table.0 < length mapped.schema.tables
tables_declared mapped class table h =
    let found = from_filter_map (λ (other : ClassId). own_table mapped.schema.tables mapped.classes other.0) (line_of mapped.classes class.0) table h in
    (own_is mapped.schema.tables mapped.classes found.0.0 table found.2).inside

-- ---- no two have one name

-- where no two of a list pass a test, an item and a later one do not
pub two_at : {A : Type 0} (test : A → A → Bool) (xs : List A) (i j : ℕ) (x y : A) → some_two test xs ≡ false → i < j → slice_get xs i ≡ Some x → slice_get xs j ≡ Some y → test y x ≡ false
two_at test [] i j x y h less e g = absurd cc
two_at test (z ∷ xs) zero zero x y h less e g = absurd (omega (arith, less))
two_at test (z ∷ xs) zero (suc j) x y h less e g =
    ap (test y) (sym (same_Some z x e)) ∙ none_at (λ later. test later z) xs j y (or_left (list_any (λ later. test later z) xs) (some_two test xs) h) g
two_at test (z ∷ xs) (suc i) zero x y h less e g = absurd (omega (arith, less))
two_at test (z ∷ xs) (suc i) (suc j) x y h less e g = two_at test xs i j x y (or_right (list_any (λ later. test later z) xs) (some_two test xs) h) (omega (arith, less)) e g

names_differ : (spec other : ClassSpec) (name more : List ℕ) → spec.table ≡ Some name → other.table ≡ Some more → maps_same other spec ≡ false → same_name name more ≡ false
names_differ spec other name more e g h =
    let by : maps_name (spec ∷ []) (Some more) ≡ false = ap (maps_name (spec ∷ [])) (sym g) ∙ h in
    ap (λ (own : Option (List ℕ)). is_named own more) (sym e) ∙ or_left (is_named spec.table more) false by

not_true : (b : Bool) → (b ≡ true → b ≡ false) → b ≡ false
not_true true f = f refl
not_true false f = refl

-- two classes have tables of two names
apart_before : (tables : List TableSpec) (classes : Classes) (one other : ℕ) (first second : TableId) → some_two maps_same classes.specs ≡ false → one < other
    → IsOwn tables classes one first → IsOwn tables classes other second → same_name (get_or tables first.0 no_table).name (get_or tables second.0 no_table).name ≡ false
apart_before tables classes one other first second apart less own far =
    names_differ own.spec far.spec (get_or tables first.0 no_table).name (get_or tables second.0 no_table).name own.named far.named
    (two_at maps_same classes.specs one other own.spec far.spec apart less own.declared far.declared)

pub turned : (one other : List ℕ) → same_name one other ≡ false → same_name other one ≡ false
turned one other h = not_true (same_name other one) (λ e. true_false (same_name one other) (named_alike one other (sym (same_names other one e))) h)

apart_by : (tables : List TableSpec) (classes : Classes) (one other : ℕ) (first second : TableId) (before : Bool) → nat_lt one other ≡ before → some_two maps_same classes.specs ≡ false → (one == other) ≡ false
    → IsOwn tables classes one first → IsOwn tables classes other second → same_name (get_or tables first.0 no_table).name (get_or tables second.0 no_table).name ≡ false
apart_by tables classes one other first second true e apart differ own far = apart_before tables classes one other first second apart (ltb-true one other e) own far
apart_by tables classes one other first second false e apart differ own far =
    let most : other ≤ one = ltb-false one other e in
    let unlike : one ≡ other → ⊥ = λ same. true_false (one == other) (eq-eqb one other same) differ in
    let less : other < one = omega (arith, most, unlike) in
    turned (get_or tables second.0 no_table).name (get_or tables first.0 no_table).name (apart_before tables classes other one second first apart less far own)

abbrev name_at : List TableSpec → TableId → List ℕ
name_at tables table = (get_or tables table.0 no_table).name

-- no later class of a line has a table of the name
none_named : (tables : List TableSpec) (classes : Classes) (class : ClassId) (table : TableId) (line : List ClassId) → some_two maps_same classes.specs ≡ false
    → list_any (λ later. is_same_class later class) line ≡ false → IsOwn tables classes class.0 table → has_name (map (name_at tables) (tables_on tables classes line)) (name_at tables table) ≡ false
none_named tables classes class table line apart none own =
    none_by (λ other. same_name other (name_at tables table)) (map (name_at tables) (tables_on tables classes line)) (λ name has.
    let named = from_map (name_at tables) (tables_on tables classes line) name has in
    let later = from_filter_map (λ (other : ClassId). own_table tables classes other.0) line named.0 named.1 in
    ap (λ (n : List ℕ). same_name n (name_at tables table)) (sym named.2)
    ∙ apart_by tables classes later.0.0 class.0 named.0 table (nat_lt later.0.0 class.0) refl apart (none_of (λ other. is_same_class other class) line later.0 none later.1)
    (own_is tables classes later.0.0 named.0 later.2) own)

names_by : (tables : List TableSpec) (classes : Classes) (class : ClassId) (line : List ClassId) (own : Option TableId) → own_table tables classes class.0 ≡ own → some_two maps_same classes.specs ≡ false
    → list_any (λ later. is_same_class later class) line ≡ false → are_distinct (map (name_at tables) (tables_on tables classes line)) ≡ true
    → are_distinct (map (name_at tables) (cons_option own (tables_on tables classes line))) ≡ true
names_by tables classes class line None e apart none rest = rest
names_by tables classes class line (Some table) e apart none rest =
    ap (λ (b : Bool). not b && are_distinct (map (name_at tables) (tables_on tables classes line))) (none_named tables classes class table line apart none (own_is tables classes class.0 table e)) ∙ rest

names_on : (tables : List TableSpec) (classes : Classes) (line : List ClassId) → some_two maps_same classes.specs ≡ false → some_two is_same_class line ≡ false
    → are_distinct (map (name_at tables) (tables_on tables classes line)) ≡ true
names_on tables classes [] apart once = refl
names_on tables classes (class ∷ line) apart once =
    names_by tables classes class line (own_table tables classes class.0) refl apart (or_left (list_any (λ later. is_same_class later class) line) (some_two is_same_class line) once)
    (names_on tables classes line apart (or_right (list_any (λ later. is_same_class later class) line) (some_two is_same_class line) once))

-- the tables of a class have names apart
pub tables_apart : (mapped : Mapped) (class : ClassId) → HasHierarchies mapped → IsClass mapped class → are_distinct (map (name_at mapped.schema.tables) (tables_of mapped class)) ≡ true
tables_apart mapped class has less =
    names_on mapped.schema.tables mapped.classes (line_of mapped.classes class.0) has.lines.apart
    (none_at (λ line. some_two is_same_class line) mapped.classes.lines class.0 (line_of mapped.classes class.0) has.lines.once (line_for mapped has.lined has.lines class.0 less))

-- a name that no class maps is that of none of a class's tables
pub unmapped_named : (mapped : Mapped) (class : ClassId) (name : List ℕ) → maps_name mapped.classes.specs (Some name) ≡ false
    → has_name (map (name_at mapped.schema.tables) (tables_of mapped class)) name ≡ false
unmapped_named mapped class name free =
    let tables = mapped.schema.tables in
    let classes = mapped.classes in
    none_by (λ other. same_name other name) (map (name_at tables) (tables_of mapped class)) (λ other has.
    let named = from_map (name_at tables) (tables_of mapped class) other has in
    let within = from_filter_map (λ (other : ClassId). own_table tables classes other.0) (line_of classes class.0) named.0 named.1 in
    let own = own_is tables classes within.0.0 named.0 within.2 in
    ap (λ (n : List ℕ). same_name n name) (sym named.2)
    ∙ ap (λ (o : Option (List ℕ)). is_named o name) (sym own.named)
    ∙ none_of (λ spec. is_named spec.table name) classes.specs own.spec free (has_at classes.specs within.0.0 own.spec own.declared))
