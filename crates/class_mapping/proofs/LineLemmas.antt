-- What the lines of classes keep as more is declared, and what the root of a class has.
use Rattle.std.proofs.Common.{◌≡◌, ◌⊎◌, inl, inr, ℕ, zero, suc, ◌<◌, ◌≤◌, Bool, true, false, cond, not, ◌&&◌, ◌||◌, List, [], ◌∷◌, ◌++◌, ◌∙◌, length, map, ap, sym, refl, subst, Option, None, Some, is_some, is_none, Ok, ◌==◌, arith, length-append, eq-or-lt_of_le}
use Rattle.std.specs.Prelude.{find, nat_lt, slice_get}
use Rattle.std.specs.Option.{option_map}
use Rattle.std.specs.List.{list_all, list_any, position, position_or_len}
use Rattle.std.proofs.lemmas.Bool.{eq-eqb, eqb-true}
use Rattle.std.proofs.lemmas.Bool.Decides.{nat_tests}
use Rattle.std.proofs.lemmas.List.{append-nil, append_assoc, get_or_append_left}
use Rattle.std.proofs.lemmas.List.Folds.{position_or_len_push}
use Rattle.std.proofs.lemmas.Option.{same_Some, slice_get_within}
use Rattle.base_core.proofs.Lists.{get_before, get_last}
use Rattle.base_core.specs.declared.ids.ClassId.{ClassId}
use Rattle.base_core.specs.declared.ids.TableId.{TableId}
use Rattle.base_core.specs.declared.refusal.ArgumentKind.TheVariants.{DuplicateName, BadClass, NoDiscriminator}
use Rattle.base_core.specs.declared.value.Value.{Value}
use Rattle.schema_core.specs.declared.table.ColumnSpec.{ColumnSpec}
use Rattle.schema_core.specs.declared.table.TableSpec.{TableSpec}
use Rattle.schema_core.specs.Catalog.{Catalog, no_table, same_name}
use Rattle.schema_core.specs.Declaration.{declare, some_two}
use Rattle.class_types.specs.Rules.{Rules}
use Rattle.class_types.specs.declared.declared.ClassSpec.{ClassSpec}
use Rattle.class_types.specs.declared.declared.RelationSpec.{RelationSpec}
use Rattle.class_types.specs.declared.mapped.Attribute.{Attribute}
use Rattle.class_layouts.specs.declared.classes.Classes.{Classes}
use Rattle.class_layouts.specs.Columns.{attributes_on, columns_in, named_table, table_in}
use Rattle.class_layouts.specs.Declaring.{declared_unless}
use Rattle.class_layouts.specs.Faults.{class_fault, discriminator_in, discriminator_on, fails_discriminator, first_fault, foreigns_in, foreigns_of, is_declared, is_named, maps_name, misses_declaration, names_on as all_names_on, root_table_on, takes_identity, takes_in}
use Rattle.class_layouts.specs.Hierarchy.{has_class, line_at, line_of, line_or_none, new_line, place_named, relations_in, root_in, with_class}
use Rattle.class_mapping.specs.Lines.{AreLines, BeginsWith, are_declared, is_root_over, is_rooted, is_told, maps_same, names_at, names_on, is_same_class, spec_at}
use Rattle.class_mapping.proofs.Having.{all_of, some_of, two_before}
use Rattle.class_mapping.proofs.Lists.{all_append, and_both, and_left, and_right, none_append, or_left, or_none, or_right, some_is}
use Rattle.class_mapping.proofs.MappingLemmas.{taken_is, untaken}
use Rattle.class_mapping.proofs.PlainClassLemmas.{found_table, over_kept, place_kept, table_taken}
use Rattle.class_mapping.proofs.ValidLemmas.{split}

all_then : {A : Type 0} (p q : A → Bool) → ((x : A) → p x ≡ true → q x ≡ true) → (xs : List A) → list_all p xs ≡ true → list_all q xs ≡ true
all_then p q f [] h = refl
all_then p q f (x ∷ xs) h = and_both (q x) (list_all q xs) (f x (and_left (p x) (list_all p xs) h)) (all_then p q f xs (and_right (p x) (list_all p xs) h))

-- what holds of all holds of the one at a place
pub all_at : {A : Type 0} (p : A → Bool) (xs : List A) (n : ℕ) (x : A) → list_all p xs ≡ true → slice_get xs n ≡ Some x → p x ≡ true
all_at p [] n x h e = absurd cc
all_at p (y ∷ xs) zero x h e = ap p (sym (same_Some y x e)) ∙ and_left (p y) (list_all p xs) h
all_at p (y ∷ xs) (suc n) x h e = all_at p xs n x (and_right (p y) (list_all p xs) h) e

pub none_at : {A : Type 0} (p : A → Bool) (xs : List A) (n : ℕ) (x : A) → list_any p xs ≡ false → slice_get xs n ≡ Some x → p x ≡ false
none_at p [] n x h e = absurd cc
none_at p (y ∷ xs) zero x h e = ap p (sym (same_Some y x e)) ∙ or_left (p y) (list_any p xs) h
none_at p (y ∷ xs) (suc n) x h e = none_at p xs n x (or_right (p y) (list_any p xs) h) e

-- ---- with one table more

root_over_table : (tables : List TableSpec) (more : TableSpec) (base : Bool) (name : Option (List ℕ)) → (base && is_some (named_table tables name)) ≡ true → (base && is_some (named_table (tables ++ more ∷ []) name)) ≡ true
root_over_table tables more false name h = absurd cc
root_over_table tables more true None h = absurd cc
root_over_table tables more true (Some name) h = over_kept tables more (Some name) h

root_kept_table : (tables : List TableSpec) (more : TableSpec) (o : Option ClassSpec) → is_root_over tables o ≡ true → is_root_over (tables ++ more ∷ []) o ≡ true
root_kept_table tables more None h = absurd cc
root_kept_table tables more (Some spec) h = root_over_table tables more (is_none spec.base) spec.table h

found_parts : (b : Bool) (m n : ℕ) → cond b (Some m) None ≡ Some n → (b ≡ true) × (m ≡ n)
found_parts true m n e = (refl, same_Some m n e)
found_parts false m n e = absurd cc

place_same : {A : Type 0} (p : A → Bool) (xs : List A) (y : A) → nat_lt (position_or_len p xs) (length xs) ≡ true → position_or_len p (xs ++ y ∷ []) ≡ position_or_len p xs
place_same p xs y h = grind (arith, nat_tests, position_or_len_push)

place_still : {A : Type 0} (p : A → Bool) (xs : List A) (y : A) (n : ℕ) → position p xs ≡ Some n → position p (xs ++ y ∷ []) ≡ Some n
place_still p xs y n e =
    let parts = found_parts (nat_lt (position_or_len p xs) (length xs)) (position_or_len p xs) n e in
    ap (λ (b : Bool). cond b (Some (position_or_len p (xs ++ y ∷ []))) None) (place_kept p xs y parts.0) ∙ ap (λ (m : ℕ). Some m) (place_same p xs y parts.0 ∙ parts.1)

table_place : (o : Option ℕ) (table : TableId) → option_map (λ place. let found : TableId = record { 0 = place } in found) o ≡ Some table → o ≡ Some table.0
table_place None table e = absurd cc
table_place (Some n) table e = ap (λ (found : TableId). Some found.0) (same_Some (record { 0 = n }) table e)

-- a table that is found is found beside one more
named_still : (tables : List TableSpec) (more : TableSpec) (name : Option (List ℕ)) (table : TableId) → named_table tables name ≡ Some table → named_table (tables ++ more ∷ []) name ≡ Some table
named_still tables more None table e = absurd cc
named_still tables more (Some name) table e =
    let named : TableSpec → Bool = λ spec. same_name spec.name name in
    ap (λ (o : Option ℕ). option_map (λ place. let found : TableId = record { 0 = place } in found) o)
    (place_still named tables more table.0 (table_place (position named tables) table e))

takes_still : (tables : List TableSpec) (more : TableSpec) (name : List ℕ) (identity : Option Value) (table : TableId) → table.0 < length tables
    → takes_in (tables ++ more ∷ []) name identity (Some table) ≡ takes_in tables name identity (Some table)
takes_still tables more name identity table less =
    let columns : List ColumnSpec = columns_in (tables ++ more ∷ []) table in
    ap (λ (found : Option TableSpec). takes_identity (foreigns_of found) identity (find (λ column. same_name column.name name) columns)) (get_before tables (more ∷ []) table.0 less)
    ∙ ap (λ (spec : TableSpec). takes_identity (foreigns_in tables table) identity (find (λ column. same_name column.name name) spec.columns))
    (get_or_append_left tables (more ∷ []) no_table table.0 less)

told_by : (tables : List TableSpec) (more : TableSpec) (name : List ℕ) (identity : Option Value) (own : Option (List ℕ)) (table : Option TableId) → named_table tables own ≡ table
    → takes_in tables name identity table ≡ true → takes_in (tables ++ more ∷ []) name identity (named_table (tables ++ more ∷ []) own) ≡ true
told_by tables more name identity own None e h = absurd cc
told_by tables more name identity own (Some table) e h =
    ap (takes_in (tables ++ more ∷ []) name identity) (named_still tables more own table e)
    ∙ takes_still tables more name identity table (found_table tables own table e) ∙ h

told_in : (tables : List TableSpec) (more : TableSpec) (name : List ℕ) (identity : Option Value) (found : Option ClassSpec) → takes_in tables name identity (table_in tables found) ≡ true
    → takes_in (tables ++ more ∷ []) name identity (table_in (tables ++ more ∷ []) found) ≡ true
told_in tables more name identity None h = absurd cc
told_in tables more name identity (Some spec) h = told_by tables more name identity spec.table (named_table tables spec.table) refl h

not_not : (b : Bool) → not (not b) ≡ true → b ≡ true
not_not true h = refl
not_not false h = absurd cc

told_over : (tables : List TableSpec) (more : TableSpec) (classes : Classes) (root : Option ClassId) (name : Option (List ℕ)) (identity : Option Value) (line : List ClassId)
    → not (fails_discriminator tables (root_table_on tables classes root) name identity line) ≡ true
    → not (fails_discriminator (tables ++ more ∷ []) (root_table_on (tables ++ more ∷ []) classes root) name identity line) ≡ true
told_over tables more classes root None identity line h = h
told_over tables more classes None (Some name) identity line h = absurd cc
told_over tables more classes (Some root) (Some name) identity line h =
    ap (λ (b : Bool). not (not b))
    (told_in tables more name identity (slice_get classes.specs root.0) (not_not (takes_in tables name identity (table_in tables (slice_get classes.specs root.0))) h))

lines_over : (tables : List TableSpec) (more : TableSpec) (classes : Classes) → AreLines tables classes → AreLines (tables ++ more ∷ []) classes
lines_over tables more classes lines = record {
  rooted = all_then (is_rooted tables classes.specs) (is_rooted (tables ++ more ∷ []) classes.specs) (λ line h. root_kept_table tables more (spec_at classes.specs (root_in line)) h) classes.lines lines.rooted;
  declared = lines.declared;
  own = lines.own;
  once = lines.once;
  nested = lines.nested;
  named = lines.named;
  apart = lines.apart;
  told = λ class spec e.
      let line : List ClassId = line_of classes class in
      told_over tables more classes (root_in line) (discriminator_on classes (root_in line)) spec.identity line (lines.told class spec e);
}

pub lines_table : (schema : Catalog) (spec : TableSpec) (table : _) (new : Catalog) (classes : Classes) → declare schema spec ≡ Ok (table, new) → AreLines schema.tables classes → AreLines new.tables classes
lines_table schema spec table new classes h lines = rw (table_taken schema spec table new h) (lines_over schema.tables spec classes lines)

-- ---- with one class more

pub got_still : {A : Type 0} (xs ys : List A) (n : ℕ) (x : A) → slice_get xs n ≡ Some x → slice_get (xs ++ ys) n ≡ Some x
got_still xs ys n x e = get_before xs ys n (slice_get_within xs n x e) ∙ e

got_some : {A : Type 0} (xs ys : List A) (n : ℕ) (o : Option A) → slice_get xs n ≡ o → is_some o ≡ true → slice_get (xs ++ ys) n ≡ o
got_some xs ys n None e h = absurd cc
got_some xs ys n (Some x) e h = got_still xs ys n x e

root_some : (tables : List TableSpec) (o : Option ClassSpec) → is_root_over tables o ≡ true → is_some o ≡ true
root_some tables None h = absurd cc
root_some tables (Some spec) h = refl

rooted_at : (tables : List TableSpec) (specs more : List ClassSpec) (root : Option ClassId) → is_root_over tables (spec_at specs root) ≡ true → is_root_over tables (spec_at (specs ++ more) root) ≡ true
rooted_at tables specs more None h = absurd cc
rooted_at tables specs more (Some class) h =
    ap (is_root_over tables) (got_some specs more class.0 (slice_get specs class.0) refl (root_some tables (slice_get specs class.0) h)) ∙ h

declared_still : (specs more : List ClassSpec) (line : List ClassId) → are_declared specs line ≡ true → are_declared (specs ++ more) line ≡ true
declared_still specs more line h =
    all_then (λ class. is_some (slice_get specs class.0)) (λ class. is_some (slice_get (specs ++ more) class.0))
    (λ class g. ap is_some (got_some specs more class.0 (slice_get specs class.0) refl g) ∙ g) line h

-- the line of a class behind one that is extended
abbrev starts : List TableSpec → List ClassSpec → List ClassId → Bool
starts tables specs [] = true
starts tables specs (class ∷ line) = is_rooted tables specs (class ∷ line)

rooted_behind : (tables : List TableSpec) (specs : List ClassSpec) (line : List ClassId) (last : ClassId) → starts tables specs line ≡ true → (length (line ++ last ∷ []) == 1) ≡ false → is_rooted tables specs (line ++ last ∷ []) ≡ true
rooted_behind tables specs [] last h long = absurd cc
rooted_behind tables specs (class ∷ line) last h long = h

rooted_or_none : (tables : List TableSpec) (specs : List ClassSpec) (line : Option (List ClassId)) → ((l : List ClassId) → line ≡ Some l → is_rooted tables specs l ≡ true) → starts tables specs (line_or_none line) ≡ true
rooted_or_none tables specs None f = refl
rooted_or_none tables specs (Some []) f = refl
rooted_or_none tables specs (Some (class ∷ line)) f = f (class ∷ line) refl

base_starts : (tables : List TableSpec) (classes : Classes) (spec : ClassSpec) (place : Option ℕ) → AreLines tables classes → starts tables (classes.specs ++ spec ∷ []) (line_at classes place) ≡ true
base_starts tables classes spec None lines = refl
base_starts tables classes spec (Some place) lines =
    rooted_or_none tables (classes.specs ++ spec ∷ []) (slice_get classes.lines place)
    (λ line here. rooted_at tables classes.specs (spec ∷ []) (root_in line) (all_at (is_rooted tables classes.specs) classes.lines place line lines.rooted here))

pub base_declared : (tables : List TableSpec) (classes : Classes) (place : Option ℕ) → AreLines tables classes → are_declared classes.specs (line_at classes place) ≡ true
base_declared tables classes None lines = refl
base_declared tables classes (Some place) lines = by (slice_get classes.lines place) (λ line here. all_at (are_declared classes.specs) classes.lines place line lines.declared here)
  where
    by : (line : Option (List ClassId)) → ((l : List ClassId) → line ≡ Some l → are_declared classes.specs l ≡ true) → are_declared classes.specs (line_or_none line) ≡ true
    by None f = refl
    by (Some line) f = f line refl

some_if : {A : Type 0} (o : Option A) (given base : Bool) → (is_none o && (given || base)) ≡ false → base ≡ true → is_some o ≡ true
some_if None true base h b = absurd cc
some_if None false true h b = absurd cc
some_if None false false h b = absurd cc
some_if (Some x) given base h b = refl

-- a class without base is its own root, and another one's root is that of the class it extends
rooted_new : (tables : List TableSpec) (classes : Classes) (spec : ClassSpec) (base : Option (List ℕ)) → AreLines tables classes → spec.base ≡ base
    → (let line : List ClassId = line_at classes (place_named classes.specs base) ++ record { 0 = length classes.specs } ∷ [] in
    ((is_some base && length line == 1) || (is_none (named_table tables spec.table) && (is_some spec.table || is_none base))) ≡ false
    → is_rooted tables (classes.specs ++ spec ∷ []) line ≡ true)
rooted_new tables classes spec None lines is h =
    ap (is_root_over tables) (get_last classes.specs spec)
    ∙ and_both (is_none spec.base) (is_some (named_table tables spec.table)) (ap is_none is) (some_if (named_table tables spec.table) (is_some spec.table) true h refl)
rooted_new tables classes spec (Some base) lines is h =
    rooted_behind tables (classes.specs ++ spec ∷ []) (line_at classes (place_named classes.specs (Some base))) (record { 0 = length classes.specs })
    (base_starts tables classes spec (place_named classes.specs (Some base)) lines)
    (or_left (length (line_at classes (place_named classes.specs (Some base)) ++ record { 0 = length classes.specs } ∷ []) == 1) (is_none (named_table tables spec.table) && (is_some spec.table || false)) h)

-- the names of declared classes stay
names_still : (classes : Classes) (spec : ClassSpec) (line : List ClassId) → are_declared classes.specs line ≡ true → names_on (with_class classes spec) line ≡ names_on classes line
names_still classes spec [] h = refl
names_still classes spec (class ∷ line) h =
    let here : is_some (slice_get classes.specs class.0) ≡ true = and_left (is_some (slice_get classes.specs class.0)) (are_declared classes.specs line) h in
    let same = got_some classes.specs (spec ∷ []) class.0 (slice_get classes.specs class.0) refl here in
    ap (λ (found : Option ClassSpec). map (λ (relation : RelationSpec). relation.name) (relations_in found) ++ names_on (with_class classes spec) line) same
    ∙ ap (λ (more : List (List ℕ)). names_at classes class ++ more) (names_still classes spec line (and_right (is_some (slice_get classes.specs class.0)) (are_declared classes.specs line) h))

none_named : (classes : Classes) (spec : ClassSpec) (lines : List (List ClassId)) → list_all (are_declared classes.specs) lines ≡ true
    → list_any (λ line. some_two same_name (names_on classes line)) lines ≡ false → list_any (λ line. some_two same_name (names_on (with_class classes spec) line)) lines ≡ false
none_named classes spec [] h g = refl
none_named classes spec (line ∷ lines) h g =
    or_none (some_two same_name (names_on (with_class classes spec) line)) (list_any (λ line. some_two same_name (names_on (with_class classes spec) line)) lines)
    (ap (some_two same_name) (names_still classes spec line (and_left (are_declared classes.specs line) (list_all (are_declared classes.specs) lines) h))
    ∙ or_left (some_two same_name (names_on classes line)) (list_any (λ line. some_two same_name (names_on classes line)) lines) g)
    (none_named classes spec lines (and_right (are_declared classes.specs line) (list_all (are_declared classes.specs) lines) h)
    (or_right (some_two same_name (names_on classes line)) (list_any (λ line. some_two same_name (names_on classes line)) lines) g))

has_last : (line : List ClassId) (n : ℕ) → has_class (line ++ record { 0 = n } ∷ []) n ≡ true
has_last [] n = ap (λ b. b || false) (eq-eqb n n refl)
has_last (class ∷ line) n = ap (λ b. (class.0 == n) || b) (has_last line n) ∙ or_true (class.0 == n)
  where
    or_true : (b : Bool) → (b || true) ≡ true
    or_true true = refl
    or_true false = refl

own_at : (classes : Classes) (line : List ClassId) (class : ℕ) → ((c : ℕ) → c < length classes.lines → has_class (line_of classes c) c ≡ true)
    → (class ≡ length classes.lines) ⊎ (class < length classes.lines) → has_class line (length classes.lines) ≡ true
    → has_class (line_or_none (slice_get (classes.lines ++ line ∷ []) class)) class ≡ true
own_at classes line class old (inl last) h =
    ap (λ (c : ℕ). has_class (line_or_none (slice_get (classes.lines ++ line ∷ []) c)) c) last
    ∙ ap (λ (o : Option (List ClassId)). has_class (line_or_none o) (length classes.lines)) (get_last classes.lines line) ∙ h
own_at classes line class old (inr before) h =
    ap (λ (o : Option (List ClassId)). has_class (line_or_none o) class) (get_before classes.lines (line ∷ []) class before) ∙ old class before

last_or_before : (class : ℕ) (lines : List (List ClassId)) (line : List ClassId) → class < length (lines ++ line ∷ []) → (class ≡ length lines) ⊎ (class < length lines)
last_or_before class lines line h = let less : class ≤ length lines = omega (arith, h, length-append lines (line ∷ [])) in eq-or-lt_of_le less

-- ---- a line begins with the lines of its classes

pub line_within : (lines : List (List ClassId)) (class n : ℕ) (line : Option (List ClassId)) → slice_get lines class ≡ line → has_class (line_or_none line) n ≡ true → class < length lines
line_within lines class n None e h = absurd cc
line_within lines class n (Some line) e h = slice_get_within lines class line e

in_last : (base : List ClassId) (last n : ℕ) → has_class (base ++ record { 0 = last } ∷ []) n ≡ true → (n ≡ last) ⊎ (has_class base n ≡ true)
in_last base last n h = by (has_class base n) refl
  where
    apart : (class : ℕ) → (xs : List ClassId) → has_class xs n ≡ false → has_class (xs ++ record { 0 = class } ∷ []) n ≡ ((class == n) || false)
    apart class [] e = refl
    apart class (x ∷ xs) e =
        ap (λ b. b || has_class (xs ++ record { 0 = class } ∷ []) n) (or_left (x.0 == n) (has_class xs n) e) ∙ apart class xs (or_right (x.0 == n) (has_class xs n) e)

    only : (b : Bool) → (b || false) ≡ true → b ≡ true
    only true k = refl
    only false k = absurd cc

    by : (b : Bool) → has_class base n ≡ b → (n ≡ last) ⊎ (has_class base n ≡ true)
    by true e = inr e
    by false e = inl (sym (eqb-true last n (only (last == n) (sym (apart last base e) ∙ h))))

pub declared_in : (specs : List ClassSpec) (line : List ClassId) (class : ClassId) → are_declared specs line ≡ true → has_class line class.0 ≡ true → class.0 < length specs
declared_in specs line class h g =
    let found = some_of (λ (other : ClassId). other.0 == class.0) line g in
    let same : found.0.0 ≡ class.0 = eqb-true found.0.0 class.0 found.2 in
    let some = some_is (slice_get specs found.0.0) (all_of (λ (other : ClassId). is_some (slice_get specs other.0)) line found.0 h found.1) in
    subst (λ (n : ℕ). n < length specs) same (slice_get_within specs found.0.0 some.0 some.1)

-- ---- a class stands in its line once

not_same : (n m : ℕ) → m < n → (n == m) ≡ false
not_same n m less = by (n == m) refl
  where
    by : (b : Bool) → (n == m) ≡ b → b ≡ false
    by true e = let same : n ≡ m = eqb-true n m e in absurd (omega (arith, less, same))
    by false e = refl

last_once : (specs : List ClassSpec) (line : List ClassId) → some_two is_same_class line ≡ false → are_declared specs line ≡ true → some_two is_same_class (line ++ record { 0 = length specs } ∷ []) ≡ false
last_once specs [] h d = refl
last_once specs (class ∷ line) h d =
    let some = some_is (slice_get specs class.0) (and_left (is_some (slice_get specs class.0)) (are_declared specs line) d) in
    or_none (list_any (λ later. is_same_class later class) (line ++ record { 0 = length specs } ∷ [])) (some_two is_same_class (line ++ record { 0 = length specs } ∷ []))
    (none_append (λ later. is_same_class later class) line (record { 0 = length specs } ∷ []) (or_left (list_any (λ later. is_same_class later class) line) (some_two is_same_class line) h)
    (or_none (length specs == class.0) false (not_same (length specs) class.0 (slice_get_within specs class.0 some.0 some.1)) refl))
    (last_once specs line (or_right (list_any (λ later. is_same_class later class) line) (some_two is_same_class line) h) (and_right (is_some (slice_get specs class.0)) (are_declared specs line) d))

base_once : (tables : List TableSpec) (classes : Classes) (place : Option ℕ) → AreLines tables classes → some_two is_same_class (line_at classes place) ≡ false
base_once tables classes None lines = refl
base_once tables classes (Some place) lines = by (slice_get classes.lines place) (λ line here. none_at (λ line. some_two is_same_class line) classes.lines place line lines.once here)
  where
    by : (line : Option (List ClassId)) → ((l : List ClassId) → line ≡ Some l → some_two is_same_class l ≡ false) → some_two is_same_class (line_or_none line) ≡ false
    by None f = refl
    by (Some line) f = f line refl

module _ (tables : List TableSpec) (classes : Classes) (spec : ClassSpec) (lined : length classes.lines ≡ length classes.specs) (lines : AreLines tables classes) where
  abbrev last_line : List ClassId
  last_line = new_line classes spec

  abbrev all_classes : Classes
  all_classes = with_class classes spec

  line_before : (class : ℕ) → class < length classes.lines → line_of all_classes class ≡ line_of classes class
  line_before class before = ap line_or_none (get_before classes.lines (last_line ∷ []) class before)

  line_last : (class : ℕ) → class ≡ length classes.lines → line_of all_classes class ≡ last_line
  line_last class same = ap (line_of all_classes) same ∙ ap line_or_none (get_last classes.lines last_line)

  -- the line of a class of an older line is as it was
  nested_before : (place : Option ℕ) (above : ClassId) → has_class (line_at classes place) above.0 ≡ true → BeginsWith (line_at classes place) (line_of all_classes above.0)
  nested_before None above h = absurd cc
  nested_before (Some class) above h =
      let less : above.0 < length classes.specs = declared_in classes.specs (line_of classes class) above (base_declared tables classes (Some class) lines) h in
      let before : above.0 < length classes.lines = rw lined less in
      subst (λ (line : List ClassId). BeginsWith (line_of classes class) line) (sym (line_before above.0 before)) (lines.nested class above h)

  nested_last : (above : ClassId) → (above.0 ≡ length classes.specs) ⊎ (has_class (line_at classes (place_named classes.specs spec.base)) above.0 ≡ true) → BeginsWith last_line (line_of all_classes above.0)
  nested_last above (inl same) = ([], sym (line_last above.0 (same ∙ sym lined)) ∙ sym (append-nil (line_of all_classes above.0)))
  nested_last above (inr before) =
      let first = nested_before (place_named classes.specs spec.base) above before in (
        first.0 ++ record { 0 = length classes.specs } ∷ [],
        ap (λ (line : List ClassId). line ++ record { 0 = length classes.specs } ∷ []) first.1 ∙ append_assoc (line_of all_classes above.0) first.0 (record { 0 = length classes.specs } ∷ []),
      )

  nested_by : (class : ℕ) (above : ClassId) → (class ≡ length classes.lines) ⊎ (class < length classes.lines) → has_class (line_of all_classes class) above.0 ≡ true → BeginsWith (line_of all_classes class) (line_of all_classes above.0)
  nested_by class above (inl last) h =
      let here : has_class last_line above.0 ≡ true = ap (λ (line : List ClassId). has_class line above.0) (sym (line_last class last)) ∙ h in
      subst (λ (line : List ClassId). BeginsWith line (line_of all_classes above.0)) (sym (line_last class last))
      (nested_last above (in_last (line_at classes (place_named classes.specs spec.base)) (length classes.specs) above.0 here))
  nested_by class above (inr before) h =
      let here : has_class (line_of classes class) above.0 ≡ true = ap (λ (line : List ClassId). has_class line above.0) (sym (line_before class before)) ∙ h in
      subst (λ (line : List ClassId). BeginsWith line (line_of all_classes above.0)) (sym (line_before class before)) (nested_before (Some class) above here)

  pub nested_with : (class : ℕ) (above : ClassId) → has_class (line_of all_classes class) above.0 ≡ true → BeginsWith (line_of all_classes class) (line_of all_classes above.0)
  nested_with class above h =
      nested_by class above (last_or_before class classes.lines last_line (line_within all_classes.lines class above.0 (slice_get all_classes.lines class) refl h)) h

-- ---- no two classes map one table

first_named : (name : Option (List ℕ)) (x : ClassSpec) (xs : List ClassSpec) → maps_name (x ∷ xs) name ≡ false → maps_name (x ∷ []) name ≡ false
first_named None x xs h = refl
first_named (Some name) x xs h = or_none (is_named x.table name) false (or_left (is_named x.table name) (list_any (λ spec. is_named spec.table name) xs) h) refl

later_named : (name : Option (List ℕ)) (x : ClassSpec) (xs : List ClassSpec) → maps_name (x ∷ xs) name ≡ false → maps_name xs name ≡ false
later_named None x xs h = refl
later_named (Some name) x xs h = or_right (is_named x.table name) (list_any (λ spec. is_named spec.table name) xs) h

apart_with : (specs : List ClassSpec) (spec : ClassSpec) → maps_name specs spec.table ≡ false → some_two maps_same specs ≡ false → some_two maps_same (specs ++ spec ∷ []) ≡ false
apart_with [] spec h g = refl
apart_with (x ∷ xs) spec h g =
    or_none (list_any (λ later. maps_same later x) (xs ++ spec ∷ [])) (some_two maps_same (xs ++ spec ∷ []))
    (none_append (λ later. maps_same later x) xs (spec ∷ []) (or_left (list_any (λ later. maps_same later x) xs) (some_two maps_same xs) g)
    (or_none (maps_same spec x) false (first_named spec.table x xs h) refl))
    (apart_with xs spec (later_named spec.table x xs h) (or_right (list_any (λ later. maps_same later x) xs) (some_two maps_same xs) g))

-- ---- what tells classes apart, with one class more

told_same : (tables : List TableSpec) (classes : Classes) (spec : ClassSpec) (line : List ClassId) (identity : Option Value) → are_declared classes.specs line ≡ true
    → is_told tables (with_class classes spec) line identity ≡ is_told tables classes line identity
told_same tables classes spec [] identity h = refl
told_same tables classes spec (class ∷ line) identity h =
    ap (λ (found : Option ClassSpec). not (fails_discriminator tables (table_in tables found) (discriminator_in found) identity (class ∷ line)))
    (got_some classes.specs (spec ∷ []) class.0 (slice_get classes.specs class.0) refl (and_left (is_some (slice_get classes.specs class.0)) (are_declared classes.specs line) h))

module _ (tables : List TableSpec) (classes : Classes) (spec : ClassSpec) (lined : length classes.lines ≡ length classes.specs) (lines : AreLines tables classes) where
  abbrev one_more : Classes
  one_more = with_class classes spec

  told_at : (class : ℕ) (found : ClassSpec) → (class ≡ length classes.specs) ⊎ (class < length classes.specs) → slice_get one_more.specs class ≡ Some found
      → is_told tables one_more (new_line classes spec) spec.identity ≡ true → is_told tables one_more (line_of one_more class) found.identity ≡ true
  told_at class found (inl last) e h =
      let same : spec ≡ found = same_Some spec found (sym (get_last classes.specs spec) ∙ sym (ap (slice_get one_more.specs) last) ∙ e) in
      ap (λ (line : List ClassId). is_told tables one_more line found.identity) (line_last tables classes spec lined lines class (last ∙ sym lined))
      ∙ ap (λ (other : ClassSpec). is_told tables one_more (new_line classes spec) other.identity) (sym same) ∙ h
  told_at class found (inr before) e h =
      let within : class < length classes.lines = rw lined before in
      ap (λ (line : List ClassId). is_told tables one_more line found.identity) (line_before tables classes spec lined lines class within)
      ∙ told_same tables classes spec (line_of classes class) found.identity (base_declared tables classes (Some class) lines)
      ∙ lines.told class found (sym (get_before classes.specs (spec ∷ []) class before) ∙ e)

  told_with : is_told tables one_more (new_line classes spec) spec.identity ≡ true → (class : ℕ) (found : ClassSpec) → slice_get one_more.specs class ≡ Some found
      → is_told tables one_more (line_of one_more class) found.identity ≡ true
  told_with h class found e =
      let within : class < length (classes.specs ++ spec ∷ []) = slice_get_within one_more.specs class found e in
      let most : class ≤ length classes.specs = omega (arith, within, length-append classes.specs (spec ∷ [])) in
      told_at class found (eq-or-lt_of_le most) e h

lines_with : (rules : Rules) (tables : List TableSpec) (classes : Classes) (spec : ClassSpec) → class_fault rules tables classes spec ≡ None → length classes.lines ≡ length classes.specs
    → AreLines tables classes → AreLines tables (with_class classes spec)
unfolding first_fault
lines_with rules tables classes spec h lined lines =
    let line : List ClassId = new_line classes spec in
    let all : Classes = with_class classes spec in
    let one = split (is_declared classes.specs spec.name || some_two same_name (all_names_on tables all line)) DuplicateName _ h in
    let two = split (misses_declaration tables spec line || maps_name classes.specs spec.table) BadClass _ one.1 in
    let three = split (fails_discriminator tables (root_table_on tables all (root_in line)) (discriminator_on all (root_in line)) spec.identity line) NoDiscriminator _ two.1 in
    let base = line_at classes (place_named classes.specs spec.base) in
    record {
      rooted =
          all_append (is_rooted tables all.specs) classes.lines (line ∷ [])
          (all_then (is_rooted tables classes.specs) (is_rooted tables all.specs) (λ line h. rooted_at tables classes.specs (spec ∷ []) (root_in line) h) classes.lines lines.rooted)
          (and_both (is_rooted tables all.specs line) true
          (rooted_new tables classes spec spec.base lines refl (or_left (misses_declaration tables spec line) (maps_name classes.specs spec.table) two.0)) refl);
      declared =
          all_append (are_declared all.specs) classes.lines (line ∷ [])
          (all_then (are_declared classes.specs) (are_declared all.specs) (λ line h. declared_still classes.specs (spec ∷ []) line h) classes.lines lines.declared)
          (and_both (are_declared all.specs line) true
          (all_append (λ class. is_some (slice_get all.specs class.0)) base (record { 0 = length classes.specs } ∷ [])
          (declared_still classes.specs (spec ∷ []) base (base_declared tables classes (place_named classes.specs spec.base) lines))
          (ap (λ (o : Option ClassSpec). is_some o && true) (get_last classes.specs spec))) refl);
      own = λ class less.
          own_at classes line class lines.own (last_or_before class classes.lines line less)
          (ap (λ (n : ℕ). has_class line n) lined ∙ has_last base (length classes.specs));
      once =
          none_append (λ line. some_two is_same_class line) classes.lines (line ∷ []) lines.once
          (or_none (some_two is_same_class line) false
          (last_once classes.specs base (base_once tables classes (place_named classes.specs spec.base) lines) (base_declared tables classes (place_named classes.specs spec.base) lines)) refl);
      nested = nested_with tables classes spec lined lines;
      named =
          none_append (λ line. some_two same_name (names_on all line)) classes.lines (line ∷ [])
          (none_named classes spec classes.lines lines.declared lines.named)
          (or_none (some_two same_name (names_on all line)) false
          (two_before (names_on all line) (map (λ (attribute : Attribute). attribute.name) (attributes_on tables all line))
          (or_right (is_declared classes.specs spec.name) (some_two same_name (all_names_on tables all line)) one.0)) refl);
      apart = apart_with classes.specs spec (or_right (misses_declaration tables spec line) (maps_name classes.specs spec.table) two.0) lines.apart;
      told = told_with tables classes spec lined lines (ap not three.0);
    }

-- a class that is taken keeps what lines have
pub lines_class : (rules : Rules) (tables : List TableSpec) (classes : Classes) (spec : ClassSpec) (new : Classes) → declared_unless (class_fault rules tables classes spec) classes spec ≡ Ok (tt, new)
    → length classes.lines ≡ length classes.specs → AreLines tables classes → AreLines tables new
lines_class rules tables classes spec new h lined lines =
    rw (taken_is (class_fault rules tables classes spec) classes spec new h)
    (lines_with rules tables classes spec (untaken (class_fault rules tables classes spec) classes spec new h) lined lines)
