-- Root classes over a table, without a discriminator and without lines: what they have, and why one is refused.
use Rattle.std.proofs.Common.{◌≡◌, ℕ, ◌+◌, ◌<◌, suc, Bool, true, false, cond, not, ◌&&◌, ◌||◌, if◌then◌else◌, List, [], ◌∷◌, ◌++◌, ◌∙◌, length, map, filter, get_or, ap, sym, refl, Option, None, Some, is_some, is_none, arith, zero-add}
use Rattle.std.specs.Prelude.{nat_lt, slice_get, ◌==◌}
use Rattle.std.specs.List.{cons_option, enumerate_from, flat_map, list_all, list_any, position, position_or_len}
use Rattle.std.proofs.lemmas.Bool.{and_from, and_parts, le-ltb}
use Rattle.std.proofs.lemmas.List.{append-nil}
use Rattle.std.proofs.lemmas.List.Folds.{list_all-append}
use Rattle.std.proofs.lemmas.Option.{slice_get-get_or}
use Rattle.base_core.proofs.Lists.{get_last}
use Rattle.base_core.specs.declared.ids.ClassId.{ClassId}
use Rattle.base_core.specs.declared.ids.TableId.{TableId}
use Rattle.base_core.specs.declared.value.Value.{Value}
use Rattle.base_core.specs.declared.refusal.ArgumentKind.{ArgumentKind}
use Rattle.base_core.specs.declared.refusal.ArgumentKind.TheVariants.{DuplicateName, BadClass, NoDiscriminator, DuplicateIdentity, BadCascade, BadHook}
use Rattle.schema_core.specs.declared.table.ColumnSpec.{ColumnSpec}
use Rattle.schema_core.specs.declared.table.ColumnKind.TheVariants as column_kinds
use Rattle.schema_core.specs.declared.table.TableSpec.{TableSpec}
use Rattle.schema_core.specs.Catalog.{has_name, same_name}
use Rattle.schema_core.specs.Declaration.{some_two}
use Rattle.class_types.specs.Rules.{Rules}
use Rattle.class_types.specs.declared.declared.ClassSpec.{ClassSpec}
use Rattle.class_types.specs.declared.mapped.Attribute.{Attribute}
use Rattle.class_layouts.specs.declared.classes.Classes.{Classes}
use Rattle.class_layouts.specs.Columns.{attribute_at, attributes_on, attr_at as number_at, columns_in, is_above, is_attribute, is_key, is_key_column, is_owner, is_shown, is_table, keys_among, lives_in, named_table, own_table, table_attributes, table_in, tables_on}
use Rattle.class_layouts.specs.Faults.{class_fault, discriminator_in, discriminator_on, fails_discriminator, fault_of_lines, first_fault, is_bad_cascade, is_bad_hook, is_declared, is_identity, maps_name, misses_declaration, names_on, repeats_identity, root_table_on}
use Rattle.class_layouts.specs.Hierarchy.{line_at, line_of, new_line, place_named, relations_at, relations_in, root_in, same_root, with_class}
use Rattle.class_mapping.specs.Plain.{attr_at, early_fault, is_empty, is_plain_root, key_places, plain_fault, repeats_column, repeats_in}
use Rattle.class_mapping.proofs.Lists.{none_is}

-- ---- what such a declaration has not

nothing_is : {A : Type 0} (xs : List A) → is_empty xs ≡ true → xs ≡ []
nothing_is [] h = refl
nothing_is (x ∷ xs) h = absurd cc

pub record IsPlain (spec : ClassSpec) : Type 0 where
  pub base : spec.base ≡ None
  pub table : is_some spec.table ≡ true
  pub discriminator : spec.discriminator ≡ None
  pub identity : spec.identity ≡ None
  pub owned : spec.owned ≡ []
  pub relations : spec.relations ≡ []
  pub validators : spec.validators ≡ []

pub plain_parts : (spec : ClassSpec) → is_plain_root spec ≡ true → IsPlain spec
plain_parts spec h =
    let two : Bool = is_none spec.base && is_some spec.table in
    let three : Bool = two && is_none spec.discriminator in
    let four : Bool = three && is_none spec.identity in
    let five : Bool = four && is_empty spec.owned in
    let six : Bool = five && is_empty spec.relations in
    let g = and_parts six (is_empty spec.validators) h in
    let f = and_parts five (is_empty spec.relations) g.0 in
    let e = and_parts four (is_empty spec.owned) f.0 in
    let d = and_parts three (is_none spec.identity) e.0 in
    let c = and_parts two (is_none spec.discriminator) d.0 in
    let b = and_parts (is_none spec.base) (is_some spec.table) c.0 in
    record {
      base = none_is spec.base b.0;
      table = b.1;
      discriminator = none_is spec.discriminator c.1;
      identity = none_is spec.identity d.1;
      owned = nothing_is spec.owned e.1;
      relations = nothing_is spec.relations f.1;
      validators = nothing_is spec.validators g.1;
    }

-- ---- no column is owned

none_found : {A : Type 0} (test : A → Bool) (xs : List A) → position_or_len test xs ≡ length xs → position test xs ≡ None
none_found test xs h =
    ap (λ (n : ℕ). cond (nat_lt n (length xs)) (Some n) None) h
    ∙ ap (λ (b : Bool). cond b (Some (length xs)) None) (le-ltb (length xs) (length xs) (omega arith))

owns_none : (tables : List TableSpec) (classes : Classes) (root : Option ClassId) (table : TableId) (name : List ℕ) (placed : ℕ × ClassSpec) → is_plain_root placed.1 ≡ true → is_owner tables classes root table name placed ≡ false
owns_none tables classes root table name placed plain =
    ap (λ (owned : List (List ℕ)). has_name owned name && same_root root (root_in (line_of classes placed.0)) && is_table (lives_in tables classes (line_of classes placed.0)) table)
    (plain_parts placed.1 plain).owned

none_own : (test : ℕ × ClassSpec → Bool) (n : ℕ) (specs : List ClassSpec) → ((placed : ℕ × ClassSpec) → is_plain_root placed.1 ≡ true → test placed ≡ false) → list_all is_plain_root specs ≡ true
    → position_or_len test (enumerate_from n specs) ≡ length (enumerate_from n specs)
none_own test n [] fails all = refl
none_own test n (spec ∷ specs) fails all =
    let parts = and_parts (is_plain_root spec) (list_all is_plain_root specs) all in
    let rest : List (ℕ × ClassSpec) = enumerate_from (n + 1) specs in
    let later : position_or_len test rest ≡ length rest = none_own test (n + 1) specs fails parts.1 in
    let more : 1 + position_or_len test rest ≡ suc (length rest) = omega (arith, later) in
    ap (λ (b : Bool). cond (not b) (1 + position_or_len test rest) 0) (fails (n, spec) parts.0) ∙ more

-- each column is shown
shown : (tables : List TableSpec) (classes : Classes) (line : List ClassId) (table : TableId) (name : List ℕ) → list_all is_plain_root classes.specs ≡ true → is_shown tables classes line table name ≡ true
shown tables classes line table name all =
    let test : ℕ × ClassSpec → Bool = is_owner tables classes (root_in line) table name in
    ap (λ (owner : Option ℕ). is_above owner line) (none_found test (enumerate_from 0 classes.specs)
    (none_own test 0 classes.specs (λ placed plain. owns_none tables classes (root_in line) table name placed plain) all))

filter_whole : {A : Type 0} (test : A → Bool) (xs : List A) → ((x : A) → test x ≡ true) → filter test xs ≡ xs
filter_whole test [] passes = refl
filter_whole test (x ∷ xs) passes = ap (λ (b : Bool). cond b (x ∷ filter test xs) (filter test xs)) (passes x) ∙ ap (λ ys. x ∷ ys) (filter_whole test xs passes)

-- ---- what such a class has

-- its only table
pub one_table : (tables : List TableSpec) (classes : Classes) (class : ClassId) (table : TableId) → own_table tables classes class.0 ≡ Some table → tables_on tables classes (class ∷ []) ≡ table ∷ []
one_table tables classes class table h = ap (λ (o : Option TableId). cons_option o []) h

-- the table's columns in order
pub plain_attributes : (tables : List TableSpec) (classes : Classes) (class : ClassId) (table : TableId) → list_all is_plain_root classes.specs ≡ true → own_table tables classes class.0 ≡ Some table
    → attributes_on tables classes (class ∷ []) ≡ map (attribute_at table) (enumerate_from 0 (columns_in tables table))
plain_attributes tables classes class table all own =
    let line : List ClassId = class ∷ [] in
    let columns : List (ℕ × ColumnSpec) = enumerate_from 0 (columns_in tables table) in
    ap (λ (found : List TableId). flat_map (table_attributes tables classes line) (enumerate_from 0 found)) (one_table tables classes class table own)
    ∙ append-nil (table_attributes tables classes line (0, table))
    ∙ ap (map (attribute_at table)) (filter_whole (λ (placed : ℕ × ColumnSpec). is_attribute tables classes line 0 table placed.1) columns
    (λ placed. shown tables classes line table placed.1.name all))

-- a column that declares nothing
abbrev pub no_column : ColumnSpec
no_column = record { name = []; kind = column_kinds.Integer; key = false; not_null = false }

map_cond : {A B C : Type 0} (f : A → C) (g : B → C) (b : Bool) (x : A) (y : B) (xs : List A) (ys : List B) → f x ≡ g y → map f xs ≡ map g ys → map f (cond b (x ∷ xs) xs) ≡ map g (cond b (y ∷ ys) ys)
map_cond f g true x y xs ys one more = ap (λ z. z ∷ map f xs) one ∙ ap (λ zs. g y ∷ zs) more
map_cond f g false x y xs ys one more = more

abbrev Stand : List ColumnSpec → ℕ → List ColumnSpec → Type 0
Stand all n columns = (i : ℕ) → i < length columns → slice_get all (n + i) ≡ Some (get_or columns i no_column)

stand_later : (all : List ColumnSpec) (n : ℕ) (column : ColumnSpec) (columns : List ColumnSpec) → Stand all n (column ∷ columns) → Stand all (n + 1) columns
stand_later all n column columns stand i less =
    let same : n + 1 + i ≡ n + suc i = omega arith in
    ap (slice_get all) same ∙ stand (suc i) (omega arith)

stand_first : (all : List ColumnSpec) (n : ℕ) (column : ColumnSpec) (columns : List ColumnSpec) → Stand all n (column ∷ columns) → slice_get all n ≡ Some column
stand_first all n column columns stand =
    let same : n ≡ n + 0 = omega arith in
    ap (slice_get all) same ∙ stand 0 (omega arith)

keys_from : (tables : List TableSpec) (table : TableId) (n : ℕ) (columns : List ColumnSpec) → Stand (columns_in tables table) n columns
    → map number_at (filter (λ placed. is_key tables placed.1) (enumerate_from n (map (attribute_at table) (enumerate_from n columns)))) ≡ map attr_at (filter (λ placed. placed.1.key) (enumerate_from n columns))
keys_from tables table n [] stand = refl
keys_from tables table n (column ∷ columns) stand =
    let here : ℕ × Attribute = (n, attribute_at table (n, column)) in
    let rest : List (ℕ × Attribute) = filter (λ placed. is_key tables placed.1) (enumerate_from (n + 1) (map (attribute_at table) (enumerate_from (n + 1) columns))) in
    ap (λ (b : Bool). map number_at (cond b (here ∷ rest) rest)) (ap is_key_column (stand_first (columns_in tables table) n column columns stand))
    ∙ map_cond number_at attr_at column.key here (n, column) rest (filter (λ placed. placed.1.key) (enumerate_from (n + 1) columns)) refl
    (keys_from tables table (n + 1) columns (stand_later (columns_in tables table) n column columns stand))

-- the key's columns in order
pub plain_keys : (tables : List TableSpec) (table : TableId) (attributes : List Attribute) → attributes ≡ map (attribute_at table) (enumerate_from 0 (columns_in tables table)) → keys_among tables attributes ≡ key_places (columns_in tables table)
plain_keys tables table attributes are =
    let columns : List ColumnSpec = columns_in tables table in
    ap (keys_among tables) are
    ∙ keys_from tables table 0 columns (λ i less. ap (slice_get columns) (zero-add i) ∙ slice_get-get_or columns i no_column less)

-- ---- why such a class is refused

names_from : (table : TableId) (n : ℕ) (columns : List ColumnSpec) → map (λ (attribute : Attribute). attribute.name) (map (attribute_at table) (enumerate_from n columns)) ≡ map (λ (column : ColumnSpec). column.name) columns
names_from table n [] = refl
names_from table n (column ∷ columns) = ap (λ (names : List (List ℕ)). column.name ∷ names) (names_from table (n + 1) columns)

any_named : (name : List ℕ) (columns : List ColumnSpec) → list_any (λ later. same_name later name) (map (λ (column : ColumnSpec). column.name) columns) ≡ list_any (λ (later : ColumnSpec). same_name later.name name) columns
any_named name [] = refl
any_named name (column ∷ columns) = ap (λ (b : Bool). same_name column.name name || b) (any_named name columns)

pub two_named : (columns : List ColumnSpec) → some_two same_name (map (λ (column : ColumnSpec). column.name) columns) ≡ repeats_column columns
two_named [] = refl
two_named (column ∷ columns) =
    ap (λ (b : Bool). b || some_two same_name (map (λ (c : ColumnSpec). c.name) columns)) (any_named column.name columns)
    ∙ ap (λ (b : Bool). list_any (λ (later : ColumnSpec). same_name later.name column.name) columns || b) (two_named columns)

never : {A : Type 0} (test : A → Bool) (xs : List A) → ((x : A) → test x ≡ false) → list_any test xs ≡ false
never test [] fails = refl
never test (x ∷ xs) fails = ap (λ (b : Bool). b || list_any test xs) (fails x) ∙ never test xs fails

no_identity : (one other : Option Value) → other ≡ None → is_identity one other ≡ false
no_identity None other h = refl
no_identity (Some one) None h = refl
no_identity (Some one) (Some other) h = absurd cc

names_by : (tables : List TableSpec) (classes : Classes) (class : ClassId) (found : Option TableId) → list_all is_plain_root classes.specs ≡ true → own_table tables classes class.0 ≡ found
    → some_two same_name (map (λ (attribute : Attribute). attribute.name) (attributes_on tables classes (class ∷ []))) ≡ repeats_in tables found
names_by tables classes class None all own =
    ap (λ (o : Option TableId). some_two same_name (map (λ (attribute : Attribute). attribute.name) (flat_map (table_attributes tables classes (class ∷ [])) (enumerate_from 0 (cons_option o []))))) own
names_by tables classes class (Some table) all own =
    ap (λ (attributes : List Attribute). some_two same_name (map (λ (attribute : Attribute). attribute.name) attributes)) (plain_attributes tables classes class table all own)
    ∙ ap (some_two same_name) (names_from table 0 (columns_in tables table))
    ∙ two_named (columns_in tables table)

-- the names of a class without relationships
names_are : (tables : List TableSpec) (classes : Classes) (class : ClassId) (found : Option TableId) → list_all is_plain_root classes.specs ≡ true → own_table tables classes class.0 ≡ found
    → relations_at classes class.0 ≡ [] → some_two same_name (names_on tables classes (class ∷ [])) ≡ repeats_in tables found
names_are tables classes class found all own none =
    ap (λ (relations : _). some_two same_name ((map (λ relation. relation.name) relations ++ []) ++ map (λ (attribute : Attribute). attribute.name) (attributes_on tables classes (class ∷ [])))) none
    ∙ names_by tables classes class found all own

misses_is : (tables : List TableSpec) (spec : ClassSpec) (class : ClassId) → spec.base ≡ None → misses_declaration tables spec (class ∷ []) ≡ is_none (named_table tables spec.table)
misses_is tables spec class h =
    ap (λ (base : Option (List ℕ)). (is_some base && length (class ∷ []) == 1) || (is_none (named_table tables spec.table) && (is_some spec.table || is_none base))) h
    ∙ and_or (is_none (named_table tables spec.table)) (is_some spec.table)
  where
    and_or : (a b : Bool) → (a && (b || true)) ≡ a
    and_or true true = refl
    and_or true false = refl
    and_or false b = refl

no_lines : (rules : Rules) (tables : List TableSpec) (classes : Classes) (spec : ClassSpec) (line : List ClassId) → spec.relations ≡ [] → spec.validators ≡ [] → fault_of_lines rules tables classes spec line ≡ None
unfolding fault_of_lines
no_lines rules tables classes spec line relations validators =
    ap (λ (b : Bool). if b then Some BadCascade else if list_any (is_bad_hook rules (attributes_on tables classes line)) spec.validators then Some BadHook else None) (ap (list_any is_bad_cascade) relations)
    ∙ ap (λ (b : Bool). if b then Some BadHook else None) (ap (list_any (is_bad_hook rules (attributes_on tables classes line))) validators)

abbrev told : Bool → Bool → Bool → Bool → Bool → Bool → Option ArgumentKind → Option ArgumentKind
told taken repeats misses maps fails identity rest =
    if taken || repeats then Some DuplicateName
    else if misses || maps then Some BadClass
    else if fails then Some NoDiscriminator
    else if identity then Some DuplicateIdentity
    else rest

alone_fault : (rules : Rules) (tables : List TableSpec) (specs : List ClassSpec) (whole : Classes) (spec : ClassSpec) (class : ClassId) → list_all is_plain_root whole.specs ≡ true → is_plain_root spec ≡ true
    → slice_get whole.specs class.0 ≡ Some spec → first_fault rules tables specs whole spec (class ∷ []) ≡ plain_fault tables specs spec
unfolding first_fault plain_fault
alone_fault rules tables specs whole spec class all plain here =
    let parts = plain_parts spec plain in
    let line : List ClassId = class ∷ [] in
    let taken : Bool = is_declared specs spec.name in
    let maps : Bool = maps_name specs spec.table in
    let found : Option TableId = named_table tables spec.table in
    let repeats : Bool = some_two same_name (names_on tables whole line) in
    let misses : Bool = misses_declaration tables spec line in
    let fails : Bool = fails_discriminator tables (root_table_on tables whole (root_in line)) (discriminator_on whole (root_in line)) spec.identity line in
    let identity : Bool = repeats_identity whole spec (root_in line) specs in
    let rest : Option ArgumentKind = fault_of_lines rules tables whole spec line in
    let repeats_is : repeats ≡ repeats_in tables found =
    names_are tables whole class found all (ap (table_in tables) here) (ap relations_in here ∙ parts.relations) in
    let fails_is : fails ≡ false =
    ap (λ (name : Option (List ℕ)). fails_discriminator tables (root_table_on tables whole (root_in line)) name spec.identity line) (ap discriminator_in here ∙ parts.discriminator) in
    let identity_is : identity ≡ false =
    never (λ (other : ℕ × ClassSpec). is_identity other.1.identity spec.identity && same_root (root_in (line_of whole other.0)) (root_in line)) (enumerate_from 0 specs)
    (λ other. ap (λ (b : Bool). b && same_root (root_in (line_of whole other.0)) (root_in line)) (no_identity other.1.identity spec.identity parts.identity)) in
    ap (λ (b : Bool). told taken b misses maps fails identity rest) repeats_is
    ∙ ap (λ (b : Bool). told taken (repeats_in tables found) b maps fails identity rest) (misses_is tables spec class parts.base)
    ∙ ap (λ (b : Bool). told taken (repeats_in tables found) (is_none found) maps b identity rest) fails_is
    ∙ ap (λ (b : Bool). told taken (repeats_in tables found) (is_none found) maps false b rest) identity_is
    ∙ ap (told taken (repeats_in tables found) (is_none found) maps false false) (no_lines rules tables whole spec line parts.relations parts.validators)

pub plain_line : (classes : Classes) (spec : ClassSpec) → spec.base ≡ None → new_line classes spec ≡ record { 0 = length classes.specs } ∷ []
plain_line classes spec h = ap (λ (base : Option (List ℕ)). line_at classes (place_named classes.specs base) ++ record { 0 = length classes.specs } ∷ []) h

pub plain_all : (specs : List ClassSpec) (spec : ClassSpec) → list_all is_plain_root (specs ++ spec ∷ []) ≡ true → (list_all is_plain_root specs ≡ true) × (is_plain_root spec ≡ true)
plain_all specs spec h =
    let parts = and_parts (list_all is_plain_root specs) (list_all is_plain_root (spec ∷ [])) (sym (list_all-append is_plain_root specs (spec ∷ [])) ∙ h) in
    (parts.0, (and_parts (is_plain_root spec) true parts.1).0)

pub all_plain : (specs : List ClassSpec) (spec : ClassSpec) → list_all is_plain_root specs ≡ true → is_plain_root spec ≡ true → list_all is_plain_root (specs ++ spec ∷ []) ≡ true
all_plain specs spec all one = list_all-append is_plain_root specs (spec ∷ []) ∙ and_from (list_all is_plain_root specs) (is_plain_root spec && true) all (and_from (is_plain_root spec) true one refl)

-- the fault of such a class beside such classes is told by names and table alone
plain_fault_is : (rules : Rules) (tables : List TableSpec) (classes : Classes) (spec : ClassSpec) → list_all is_plain_root classes.specs ≡ true → is_plain_root spec ≡ true → class_fault rules tables classes spec ≡ plain_fault tables classes.specs spec
plain_fault_is rules tables classes spec all plain =
    ap (first_fault rules tables classes.specs (with_class classes spec) spec) (plain_line classes spec (plain_parts spec plain).base)
    ∙ alone_fault rules tables classes.specs (with_class classes spec) spec (record { 0 = length classes.specs }) (all_plain classes.specs spec all plain) plain (get_last classes.specs spec)

early_parts : (all one : Bool) (fault : Option ArgumentKind) (kind : ArgumentKind) → (if all && one then fault else None) ≡ Some kind → (all ≡ true) × ((one ≡ true) × (fault ≡ Some kind))
early_parts true true fault kind h = (refl, (refl, h))
early_parts true false fault kind h = absurd cc
early_parts false one fault kind h = absurd cc

-- what is told early is the fault
pub early_is : (rules : Rules) (tables : List TableSpec) (classes : Classes) (spec : ClassSpec) (kind : ArgumentKind) → early_fault tables classes.specs spec ≡ Some kind → class_fault rules tables classes spec ≡ Some kind
unfolding early_fault
early_is rules tables classes spec kind h =
    let parts = early_parts (list_all is_plain_root classes.specs) (is_plain_root spec) (plain_fault tables classes.specs spec) kind h in
    plain_fault_is rules tables classes spec parts.0 parts.1.0 ∙ parts.1.1

-- where nothing is told early of such classes there is none
pub early_none : (rules : Rules) (tables : List TableSpec) (classes : Classes) (spec : ClassSpec) → early_fault tables classes.specs spec ≡ None → list_all is_plain_root (classes.specs ++ spec ∷ []) ≡ true → class_fault rules tables classes spec ≡ None
unfolding early_fault
early_none rules tables classes spec h all =
    let parts = plain_all classes.specs spec all in
    plain_fault_is rules tables classes spec parts.0 parts.1
    ∙ sym (ap (λ (b : Bool). if b && is_plain_root spec then plain_fault tables classes.specs spec else None) parts.0
    ∙ ap (λ (b : Bool). if b then plain_fault tables classes.specs spec else None) parts.1)
    ∙ h
