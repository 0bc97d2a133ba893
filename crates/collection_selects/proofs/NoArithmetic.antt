-- The selects of the rows of classes by keys calculate nothing.
use Rattle.std.proofs.Common.{◌≡◌, ℕ, ◌-◌, Bool, true, false, ◌||◌, ◌==◌, List, [], ◌∷◌, ◌++◌, map, length, Option, None, Some, if◌then◌else◌, refl, ap, ◌∙◌}
use Rattle.std.specs.Prelude.{is_some}
use Rattle.std.specs.List.{AllByRecursion, enumerate_from, flat_map, list_any, zip}
use Rattle.base_core.specs.declared.ids.AttrNo.{AttrNo}
use Rattle.base_core.specs.declared.ids.ClassId.{ClassId}
use Rattle.base_core.specs.declared.ids.ColumnNo.{ColumnNo}
use Rattle.base_core.specs.declared.ids.TableId.{TableId}
use Rattle.base_core.specs.declared.value.Value.{Value}
use Rattle.expr_types.specs.declared.expr.CompareOp.TheVariants.{Equal}
use Rattle.expr_types.specs.declared.expr.Expr.{Expr}
use Rattle.expr_types.specs.declared.expr.Expr.TheFolds.{fold-Expr}
use Rattle.expr_types.specs.declared.expr.Expr.TheVariants as expr
use Rattle.expr_types.specs.declared.select.Joined.{Joined}
use Rattle.expr_types.proofs.Folds.{fold-Column, fold-Lit, fold-Compare, fold-And, fold-Or, fold-InList}
use Rattle.sql_semantics.specs.Arithmetic.{arithmetic_level, has_arithmetic}
use Rattle.sql_semantics.specs.SelectRefusals.{calculates, calculates_where}
use Rattle.class_types.specs.declared.mapped.Relation.{Relation}
use Rattle.class_sides.specs.Keys.{TableKey}
use Rattle.class_mapping.specs.Mapped.{Mapped, class_spec, root_table, tables_of}
use Rattle.load_columns.specs.declared.placing.Placement.{Placement}
use Rattle.load_columns.specs.declared.placing.SourceColumn.{SourceColumn}
use Rattle.load_columns.specs.Placing.{attribute_columns, columns_at, foreign_numbers, from_root, key_at_rank, key_numbers, referred_table, root_key}
use Rattle.load_columns.specs.Conditions.{all_of, column_of, conjoined, equal_column, equal_columns, first_value, has_key, has_one_of, has_some_key, has_value, has_values, holds_first}
use Rattle.load_selects.specs.declared.sources.Further.{Further}
use Rattle.load_selects.specs.Branches.{discriminator_column, discriminator_of, identities, is_of_branch, names_branch}
use Rattle.load_selects.specs.Sources.{keyed_source, led_from, other_tables, rank_tied, ranked_source, referred_place, refers}
use Rattle.load_selects.specs.Selects.{cell_column, cells_select, class_rows, inner_joined, item_of, key_select, select_of, targets_select}
use Rattle.collection_selects.specs.Collections.{batch_by, batch_select, member_sources, members_by, members_select, owner_columns, pair_columns, secondary_behind}

-- ---- conditions

abbrev pub Lacks : Expr → Type 0
Lacks e = has_arithmetic e ≡ false

abbrev pub AllLack : List Expr → Type 0
AllLack = AllByRecursion Lacks

both_false : (a b : Bool) → a ≡ false → b ≡ false → (a || (b || false)) ≡ false
both_false a b p q = ap (λ x. x || (b || false)) p ∙ ap (λ x. x || false) q

lacks_column : (s : ℕ) (c : ColumnNo) → Lacks (expr.Column s c)
unfolding has_arithmetic
lacks_column s c = fold-Column Bool arithmetic_level s c

lacks_lit : (v : Value) → Lacks (expr.Lit v)
unfolding has_arithmetic
lacks_lit v = fold-Lit Bool arithmetic_level v

lacks_equal : (a b : Expr) → Lacks a → Lacks b → Lacks (expr.Compare Equal a b)
unfolding has_arithmetic
lacks_equal a b p q = fold-Compare Bool arithmetic_level Equal a b ∙ both_false (fold-Expr Bool arithmetic_level a) (fold-Expr Bool arithmetic_level b) p q

lacks_in : (a : Expr) (vs : List Value) → Lacks a → Lacks (expr.InList false a vs)
unfolding has_arithmetic
lacks_in a vs p = fold-InList Bool arithmetic_level false a vs ∙ ap (λ x. x || false) p

lacks_and : (es : List Expr) → list_any (λ has. has) (map has_arithmetic es) ≡ false → Lacks (expr.And es)
unfolding has_arithmetic
lacks_and es p = fold-And Bool arithmetic_level es ∙ p

lacks_or : (es : List Expr) → list_any (λ has. has) (map has_arithmetic es) ≡ false → Lacks (expr.Or es)
unfolding has_arithmetic
lacks_or es p = fold-Or Bool arithmetic_level es ∙ p

any_lack : (es : List Expr) → AllLack es → list_any (λ has. has) (map has_arithmetic es) ≡ false
any_lack [] h = refl
any_lack (e ∷ es) h = ap (λ b. b || list_any (λ (has : Bool). has) (map has_arithmetic es)) h.0 ∙ any_lack es h.1

-- ---- lists of conditions

joined_lack : (xs ys : List Expr) → AllLack xs → AllLack ys → AllLack (xs ++ ys)
joined_lack [] ys h g = g
joined_lack (x ∷ xs) ys h g = (h.0, joined_lack xs ys h.1 g)

mapped_lack : {A : Type 0} (f : A → Expr) → ((x : A) → Lacks (f x)) → (xs : List A) → AllLack (map f xs)
mapped_lack f h [] = tt
mapped_lack f h (x ∷ xs) = (h x, mapped_lack f h xs)

flat_lack : {A : Type 0} (f : A → List Expr) → ((x : A) → AllLack (f x)) → (xs : List A) → AllLack (flat_map f xs)
flat_lack f h [] = tt
flat_lack f h (x ∷ xs) = joined_lack (f x) (flat_map f xs) (h x) (flat_lack f h xs)

either_lack : (b : Bool) (xs ys : List Expr) → AllLack xs → AllLack ys → AllLack (if b then xs else ys)
either_lack true xs ys h g = h
either_lack false xs ys h g = g

column_lacks : (column : SourceColumn) → Lacks (column_of column)
column_lacks column = lacks_column column.source column.column

equal_columns_lack : (columns others : List SourceColumn) → AllLack (equal_columns columns others)
equal_columns_lack columns others =
    mapped_lack (λ (pair : SourceColumn × SourceColumn). equal_column pair.0 pair.1) (λ pair. lacks_equal (column_of pair.0) (column_of pair.1) (column_lacks pair.0) (column_lacks pair.1)) (zip columns others)

has_values_lack : (columns : List SourceColumn) (values : List Value) → AllLack (has_values columns values)
has_values_lack columns values =
    mapped_lack (λ (pair : SourceColumn × Value). has_value pair.0 pair.1) (λ pair. lacks_equal (column_of pair.0) (expr.Lit pair.1) (column_lacks pair.0) (lacks_lit pair.1)) (zip columns values)

has_key_lacks : (columns : List SourceColumn) (key : List Value) → Lacks (has_key columns key)
has_key_lacks columns key = lacks_and (has_values columns key) (any_lack (has_values columns key) (has_values_lack columns key))

some_key_lacks : (columns : List SourceColumn) (keys : List (List Value)) → AllLack (has_some_key columns keys)
some_key_lacks columns keys = (lacks_or (map (has_key columns) keys) (any_lack (map (has_key columns) keys) (mapped_lack (has_key columns) (has_key_lacks columns) keys)), tt)

has_one_of_lack : (columns : List SourceColumn) (keys : List (List Value)) → AllLack (has_one_of columns keys)
has_one_of_lack columns keys =
    either_lack (length columns == 1) (map (holds_first keys) columns) (if length keys == 1 then flat_map (has_values columns) keys else has_some_key columns keys)
    (mapped_lack (holds_first keys) (λ column. lacks_in (column_of column) (map first_value keys) (column_lacks column)) columns)
    (either_lack (length keys == 1) (flat_map (has_values columns) keys) (has_some_key columns keys) (flat_lack (has_values columns) (has_values_lack columns) keys) (some_key_lacks columns keys))

conjoined_lacks : (es : List Expr) → AllLack es → Lacks (conjoined es)
conjoined_lacks [] h = lacks_and [] refl
conjoined_lacks (e ∷ []) h = h.0
conjoined_lacks (e ∷ f ∷ es) h = lacks_and (e ∷ f ∷ es) (any_lack (e ∷ f ∷ es) h)

filter_lacks : (es : List Expr) → AllLack es → calculates_where (all_of es) ≡ false
filter_lacks [] h = refl
filter_lacks (e ∷ []) h = h.0
filter_lacks (e ∷ f ∷ es) h = lacks_and (e ∷ f ∷ es) (any_lack (e ∷ f ∷ es) h)

named_lack : (mapped : Mapped) (class : ClassId) (placement : Placement) (name : Option (List ℕ)) → AllLack (names_branch mapped class placement name)
named_lack mapped class placement None = tt
named_lack mapped class placement (Some name) = (lacks_in (column_of (discriminator_column mapped class placement name)) (identities mapped class) (column_lacks (discriminator_column mapped class placement name)), tt)

branch_lacks : (mapped : Mapped) (class : ClassId) (placement : Placement) → AllLack (is_of_branch mapped class placement)
branch_lacks mapped class placement =
    either_lack (is_some (class_spec mapped class).table) [] (names_branch mapped class placement (discriminator_of mapped class)) tt (named_lack mapped class placement (discriminator_of mapped class))

-- ---- sources

abbrev pub AreQuiet : List Further → Type 0
AreQuiet = AllByRecursion (λ further. AllLack further.on)

sources_joined : (xs ys : List Further) → AreQuiet xs → AreQuiet ys → AreQuiet (xs ++ ys)
sources_joined [] ys h g = g
sources_joined (x ∷ xs) ys h g = (h.0, sources_joined xs ys h.1 g)

sources_flat : {A : Type 0} (f : A → List Further) → ((x : A) → AreQuiet (f x)) → (xs : List A) → AreQuiet (flat_map f xs)
sources_flat f h [] = tt
sources_flat f h (x ∷ xs) = sources_joined (f x) (flat_map f xs) (h x) (sources_flat f h xs)

either_quiet : (b : Bool) (xs ys : List Further) → AreQuiet xs → AreQuiet ys → AreQuiet (if b then xs else ys)
either_quiet true xs ys h g = h
either_quiet false xs ys h g = g

keyed_quiet : (mapped : Mapped) (class : ClassId) (placement : Placement) (ranked : ℕ × TableId) → AllLack (keyed_source mapped class placement ranked).on
unfolding keyed_source
keyed_quiet mapped class placement ranked = equal_columns_lack (key_at_rank mapped class placement (ranked.0 - 1)) (key_at_rank mapped class placement (rank_tied placement ranked.0))

ranked_quiet : (mapped : Mapped) (class : ClassId) (placement : Placement) (ranked : ℕ × TableId) → AreQuiet (ranked_source mapped class placement ranked)
unfolding ranked_source
ranked_quiet mapped class placement ranked = either_quiet (ranked.0 == placement.leading) [] (keyed_source mapped class placement ranked ∷ []) tt (keyed_quiet mapped class placement ranked, tt)

others_quiet : (mapped : Mapped) (class : ClassId) (placement : Placement) → AreQuiet (other_tables mapped class placement)
others_quiet mapped class placement = sources_flat (ranked_source mapped class placement) (ranked_quiet mapped class placement) (enumerate_from 0 (tables_of mapped class))

refers_lacks : (mapped : Mapped) (key : TableKey) (referred referring : ℕ) → AllLack (refers mapped key referred referring)
refers_lacks mapped key referred referring = equal_columns_lack (columns_at referred (key_numbers mapped (referred_table mapped key))) (columns_at referring (foreign_numbers mapped key))

-- ---- selects

items_lack : (columns : List SourceColumn) → list_any (λ (item : Expr × Option (List ℕ)). has_arithmetic item.0) (map item_of columns) ≡ false
items_lack [] = refl
items_lack (c ∷ columns) = ap (λ b. b || list_any (λ (item : Expr × Option (List ℕ)). has_arithmetic item.0) (map item_of columns)) (column_lacks c) ∙ items_lack columns

joins_lack : (more : List Further) → AreQuiet more → list_any (λ (j : Joined). has_arithmetic j.on) (map inner_joined more) ≡ false
joins_lack [] h = refl
joins_lack (further ∷ more) h = ap (λ b. b || list_any (λ (j : Joined). has_arithmetic j.on) (map inner_joined more)) (conjoined_lacks further.on h.0) ∙ joins_lack more h.1

parts_false : (a b c : Bool) → a ≡ false → b ≡ false → c ≡ false → (a || b || c || false || false || false) ≡ false
parts_false a b c p q r = ap (λ x. x || b || c || false || false || false) p ∙ ap (λ x. x || c || false || false || false) q ∙ ap (λ x. x || false || false || false) r

select_lacks : (first : TableId) (more : List Further) (columns : List SourceColumn) (conditions : List Expr) → AreQuiet more → AllLack conditions → calculates (select_of first more columns conditions) ≡ false
select_lacks first more columns conditions h g =
    parts_false (list_any (λ (item : Expr × Option (List ℕ)). has_arithmetic item.0) (map item_of columns)) (list_any (λ (j : Joined). has_arithmetic j.on) (map inner_joined more)) (calculates_where (all_of conditions))
    (items_lack columns) (joins_lack more h) (filter_lacks conditions g)

rows_lack : (mapped : Mapped) (class : ClassId) (conditions : List Expr) → AllLack conditions → calculates (class_rows mapped class conditions) ≡ false
rows_lack mapped class conditions h =
    select_lacks (root_table mapped class) (other_tables mapped class (from_root 0)) (attribute_columns mapped class (from_root 0)) (conditions ++ is_of_branch mapped class (from_root 0))
    (others_quiet mapped class (from_root 0)) (joined_lack conditions (is_of_branch mapped class (from_root 0)) h (branch_lacks mapped class (from_root 0)))

pub key_calculates_nothing : (mapped : Mapped) (class : ClassId) (key : List Value) → calculates (key_select mapped class key) ≡ false
unfolding key_select
key_calculates_nothing mapped class key = rows_lack mapped class (has_values (root_key mapped class (from_root 0)) key) (has_values_lack (root_key mapped class (from_root 0)) key)

pub targets_calculate_nothing : (mapped : Mapped) (class : ClassId) (keys : List (List Value)) → calculates (targets_select mapped class keys) ≡ false
unfolding targets_select
targets_calculate_nothing mapped class keys = rows_lack mapped class (has_one_of (root_key mapped class (from_root 0)) keys) (has_one_of_lack (root_key mapped class (from_root 0)) keys)

pub cells_calculate_nothing : (mapped : Mapped) (class : ClassId) (attrs : List AttrNo) (key : List Value) → calculates (cells_select mapped class attrs key) ≡ false
unfolding cells_select
cells_calculate_nothing mapped class attrs key =
    select_lacks (root_table mapped class) (other_tables mapped class (from_root 0)) (map (cell_column mapped class) attrs) (has_values (root_key mapped class (from_root 0)) key)
    (others_quiet mapped class (from_root 0)) (has_values_lack (root_key mapped class (from_root 0)) key)

-- ---- members

members_lack : (mapped : Mapped) (relation : Relation) (key : List Value) (far : Option TableKey) → calculates (members_by mapped relation key far) ≡ false
members_lack mapped relation key None = rows_lack mapped relation.target (has_values (owner_columns mapped relation) key) (has_values_lack (owner_columns mapped relation) key)
members_lack mapped relation key (Some far) =
    let target : ClassId = relation.target in
    let place : ℕ = length (tables_of mapped target) in
    let conditions : List Expr = has_values (pair_columns mapped relation place) key in
    select_lacks (root_table mapped target) (other_tables mapped target (from_root 0) ++ secondary_behind mapped relation far place ∷ []) (attribute_columns mapped target (from_root 0))
    (conditions ++ is_of_branch mapped target (from_root 0))
    (sources_joined (other_tables mapped target (from_root 0)) (secondary_behind mapped relation far place ∷ []) (others_quiet mapped target (from_root 0))
    (refers_lacks mapped far (referred_place mapped target (from_root 0) far) place, tt))
    (joined_lack conditions (is_of_branch mapped target (from_root 0)) (has_values_lack (pair_columns mapped relation place) key) (branch_lacks mapped target (from_root 0)))

pub members_calculate_nothing : (mapped : Mapped) (relation : Relation) (key : List Value) → calculates (members_select mapped relation key) ≡ false
unfolding members_select
members_calculate_nothing mapped relation key = members_lack mapped relation key relation.far

batch_lacks : (mapped : Mapped) (relation : Relation) (keys : List (List Value)) (far : Option TableKey) → calculates (batch_by mapped relation keys far) ≡ false
batch_lacks mapped relation keys None = rows_lack mapped relation.target (has_one_of (owner_columns mapped relation) keys) (has_one_of_lack (owner_columns mapped relation) keys)
batch_lacks mapped relation keys (Some far) =
    let target : ClassId = relation.target in
    let placement : Placement = led_from mapped relation 1 in
    let conditions : List Expr = has_one_of (pair_columns mapped relation 0) keys in
    select_lacks relation.foreign.0 (member_sources mapped relation far) (pair_columns mapped relation 0 ++ attribute_columns mapped target placement) (conditions ++ is_of_branch mapped target placement)
    (refers_lacks mapped far 1 0, others_quiet mapped target placement)
    (joined_lack conditions (is_of_branch mapped target placement) (has_one_of_lack (pair_columns mapped relation 0) keys) (branch_lacks mapped target placement))

pub batch_calculates_nothing : (mapped : Mapped) (relation : Relation) (keys : List (List Value)) → calculates (batch_select mapped relation keys) ≡ false
unfolding batch_select
batch_calculates_nothing mapped relation keys = batch_lacks mapped relation keys relation.far
