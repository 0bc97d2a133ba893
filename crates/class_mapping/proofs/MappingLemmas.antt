-- What is kept of a class, and what declarations leave.
use Rattle.std.proofs.Common.{◌≡◌, ℕ, ◌<◌, ◌≤◌, Bool, true, false, ◌||◌, if◌then◌else◌, List, [], ◌∷◌, ◌++◌, ◌∙◌, length, filter, ap, sym, refl, Option, None, Some, Result, Ok, Err, arith, length-append, zero-add}
use Rattle.std.specs.Prelude.{slice_get}
use Rattle.std.specs.Option.{option_map}
use Rattle.std.specs.List.{All, enumerate_from, list_any}
use Rattle.std.proofs.lemmas.List.Elements.{All-filter, All-from_get_or, All-map}
use Rattle.std.proofs.lemmas.List.FromFn.{get_or-enumerate_from, length-enumerate_from}
use Rattle.std.proofs.lemmas.Option.{same_Some, slice_get-map}
use Rattle.base_core.specs.Answers.{Refuses}
use Rattle.base_core.specs.declared.ids.AttrNo.{AttrNo}
use Rattle.base_core.specs.declared.ids.ClassId.{ClassId}
use Rattle.base_core.specs.declared.refusal.ArgumentKind.{ArgumentKind}
use Rattle.base_core.specs.declared.refusal.ArgumentKind.TheVariants.{DuplicateName, BadClass, NoDiscriminator, DuplicateIdentity, BadCascade, BadHook, BadTarget}
use Rattle.base_core.specs.declared.refusal.Refusal.{Refusal}
use Rattle.base_core.specs.declared.refusal.Refusal.TheVariants.{Memory, ArgumentError}
use Rattle.schema_core.specs.declared.table.TableSpec.{TableSpec}
use Rattle.schema_core.specs.Catalog.{Catalog, same_name}
use Rattle.class_types.specs.Rules.{Rules}
use Rattle.class_types.specs.declared.declared.ClassSpec.{ClassSpec}
use Rattle.class_types.specs.declared.mapped.Attribute.{Attribute}
use Rattle.class_layouts.specs.declared.classes.Classes.{Classes}
use Rattle.class_layouts.specs.declared.layout.Layout.{Layout}
use Rattle.class_layouts.specs.Columns.{attr_at, is_key, attributes_on, keys_among, layout_of, layouts_of}
use Rattle.class_layouts.specs.Declaring.{declared_unless}
use Rattle.class_layouts.specs.Faults.{class_fault, discriminator_on, fails_discriminator, fault_of_lines, first_fault, is_bad_cascade, is_bad_hook, is_declared, maps_name, misses_declaration, names_on, repeats_identity, root_table_on}
use Rattle.class_layouts.specs.Hierarchy.{line_of, line_or_none, new_line, root_in, with_class}
use Rattle.class_sides.specs.Linking as linking
use Rattle.schema_core.specs.Declaration.{has_targets, resolve, some_two}
use Rattle.class_faults.specs.Faults.{fault_among, mapping_fault}
use Rattle.class_mapping.specs.Mapped.{Mapped, no_attribute}
use Rattle.class_mapping.specs.Declaring.{class_unless, configured_unless, configure}
use Rattle.class_mapping.proofs.Lists.{none_append}
use Rattle.class_mapping.proofs.ValidLemmas.{split}

layout_from : (tables : List TableSpec) (classes : Classes) (layout : Layout) (line : Option (List ClassId)) → option_map (layout_of tables classes) line ≡ Some layout → layout ≡ layout_of tables classes (line_or_none line)
layout_from tables classes layout None h = absurd cc
layout_from tables classes layout (Some line) h = sym (same_Some (layout_of tables classes line) layout h)

-- what is kept of a class of a mapping
pub layout_at : (tables : List TableSpec) (classes : Classes) (layouts : List Layout) (class : ℕ) (layout : Layout) → layouts ≡ layouts_of tables classes → slice_get layouts class ≡ Some layout → layout ≡ layout_of tables classes (line_of classes class)
layout_at tables classes layouts class layout laid here =
    layout_from tables classes layout (slice_get classes.lines class)
    (sym (slice_get-map (layout_of tables classes) classes.lines class) ∙ sym (ap (λ kept. slice_get kept class) laid) ∙ here)

ok_inj : {A E : Type 0} (x y : A) → (let one : Result A E = Ok x in one ≡ Ok y) → x ≡ y
ok_inj x y h = cc

-- the classes with one more, where it was taken
pub taken_is : (fault : Option ArgumentKind) (classes : Classes) (spec : ClassSpec) (new : Classes) → declared_unless fault classes spec ≡ Ok (tt, new) → new ≡ with_class classes spec
taken_is (Some fault) classes spec new h = absurd cc
taken_is None classes spec new h = sym (ap (λ (p : Unit {0} × Classes). p.1) (ok_inj {E = Refusal} (tt, with_class classes spec) (tt, new) h))

pub few_more : (classes : Classes) (spec : ClassSpec) (new : Classes) → new ≡ with_class classes spec → length classes.specs < 4294967295 → length new.specs ≤ 4294967295
few_more classes spec new h less = rw h (omega (arith, length-append {A = ClassSpec}))

pub lined_more : (classes : Classes) (spec : ClassSpec) (new : Classes) → new ≡ with_class classes spec → length classes.lines ≡ length classes.specs → length new.lines ≡ length new.specs
lined_more classes spec new h same = rw h (grind (arith, same, length-append {A = ClassSpec}, length-append {A = List ClassId}))

-- a class that is taken stands behind the others
pub class_taken : (fault : Option ArgumentKind) (mapped : Mapped) (spec : ClassSpec) (new : Classes) → declared_unless fault mapped.classes spec ≡ Ok (tt, new)
    → class_unless fault mapped spec ≡ Ok (record { 0 = length mapped.classes.specs }, record { schema = mapped.schema; classes = new })
class_taken (Some fault) mapped spec new h = absurd cc
class_taken None mapped spec new h =
    let same : with_class mapped.classes spec ≡ new = ap (λ (p : Unit {0} × Classes). p.1) (ok_inj {E = Refusal} (tt, with_class mapped.classes spec) (tt, new) h) in
    ap (λ (now : Classes). let r : Result (ClassId × Mapped) Refusal = Ok (record { 0 = length mapped.classes.specs }, record { schema = mapped.schema; classes = now }) in r) same

err_inj : (x y : Refusal) → (let one : Result (Unit {0} × Classes) Refusal = Err x in one ≡ Err y) → x ≡ y
err_inj x y h = cc

told_err : (fault : Option ArgumentKind) (mapped : Mapped) (spec : ClassSpec) (e : Refusal) → declared_unless fault mapped.classes spec ≡ Err e → class_unless fault mapped spec ≡ Err e
told_err (Some fault) mapped spec e h =
    let same : ArgumentError fault ≡ e = err_inj (ArgumentError fault) e h in
    ap (λ (x : Refusal). let r : Result (ClassId × Mapped) Refusal = Err x in r) same
told_err None mapped spec e h = absurd cc

-- a class that is refused is so by the same fault
pub class_refused : (fault : Option ArgumentKind) (mapped : Mapped) (spec : ClassSpec) (e : Refusal) → Refuses e (declared_unless fault mapped.classes spec) → Refuses e (class_unless fault mapped spec)
class_refused fault mapped spec Memory h = tt
class_refused fault mapped spec e h = told_err fault mapped spec e h

-- what is taken has no fault
pub untaken : (fault : Option ArgumentKind) (classes : Classes) (spec : ClassSpec) (new : Classes) → declared_unless fault classes spec ≡ Ok (tt, new) → fault ≡ None
untaken (Some fault) classes spec new h = absurd cc
untaken None classes spec new h = refl

no_orphans : (rules : Rules) (tables : List TableSpec) (classes : Classes) (spec : ClassSpec) → class_fault rules tables classes spec ≡ None → list_any is_bad_cascade spec.relations ≡ false
unfolding first_fault fault_of_lines
no_orphans rules tables classes spec h =
    let line : List ClassId = new_line classes spec in
    let all : Classes = with_class classes spec in
    let one = split (is_declared classes.specs spec.name || some_two same_name (names_on tables all line)) DuplicateName _ h in
    let two = split (misses_declaration tables spec line || maps_name classes.specs spec.table) BadClass _ one.1 in
    let three = split (fails_discriminator tables (root_table_on tables all (root_in line)) (discriminator_on all (root_in line)) spec.identity line) NoDiscriminator _ two.1 in
    let four = split (repeats_identity all spec (root_in line) classes.specs) DuplicateIdentity _ three.1 in
    let five = split (list_any is_bad_cascade spec.relations) BadCascade (if list_any (is_bad_hook rules (attributes_on tables all line)) spec.validators then Some BadHook else None) four.1 in
    five.0

none_with : (spec : ClassSpec) (specs : List ClassSpec) → list_any (λ spec. list_any is_bad_cascade spec.relations) specs ≡ false → list_any is_bad_cascade spec.relations ≡ false
    → list_any (λ spec. list_any is_bad_cascade spec.relations) (specs ++ spec ∷ []) ≡ false
none_with spec specs h one = none_append (λ spec. list_any is_bad_cascade spec.relations) specs (spec ∷ []) h (rw one refl)

-- delete-orphan stays at one-to-many alone
pub orphans_more : (rules : Rules) (tables : List TableSpec) (classes : Classes) (spec : ClassSpec) (new : Classes) → declared_unless (class_fault rules tables classes spec) classes spec ≡ Ok (tt, new)
    → list_any (λ spec. list_any is_bad_cascade spec.relations) classes.specs ≡ false → list_any (λ spec. list_any is_bad_cascade spec.relations) new.specs ≡ false
orphans_more rules tables classes spec new h old =
    rw (taken_is (class_fault rules tables classes spec) classes spec new h)
    (none_with spec classes.specs old (no_orphans rules tables classes spec (untaken (class_fault rules tables classes spec) classes spec new h)))

-- the first kind is that a foreign key lacks its target
pub no_targets : (tables : List TableSpec) (classes : Classes) → has_targets tables ≡ false → mapping_fault tables classes ≡ Some BadTarget
unfolding fault_among
no_targets tables classes h = rw h refl

-- a key attribute is an attribute
pub keys_inside : (tables : List TableSpec) (attributes : List Attribute) → All (λ key. key.0 < length attributes) (keys_among tables attributes)
keys_inside tables attributes =
    let P : ℕ × Attribute → Type 0 = λ placed. placed.0 < length attributes in
    All-map (λ (key : AttrNo). key.0 < length attributes) attr_at (filter (λ placed. is_key tables placed.1) (enumerate_from 0 attributes))
    (All-filter (λ (placed : ℕ × Attribute). is_key tables placed.1) P (enumerate_from 0 attributes)
    (All-from_get_or P (enumerate_from 0 attributes) (0, no_attribute)
    (λ i less.
    let inside : i < length attributes = rw (← length-enumerate_from 0 attributes) less in
    rw (get_or-enumerate_from 0 attributes i (0, no_attribute) inside) (rw (zero-add i) inside))))

-- declarations are refused where a foreign key lacks its target
pub refused_by_targets : (mapped : Mapped) → has_targets mapped.schema.tables ≡ false → configure mapped ≡ Err (ArgumentError BadTarget)
unfolding configure
refused_by_targets mapped h = ap (λ (fault : Option ArgumentKind). configured_unless fault mapped) (no_targets mapped.schema.tables mapped.classes h)

abbrev pub all_found : Catalog → Catalog
all_found schema = record { tables = schema.tables; resolved = true }

resolved_by : (found : Bool) (schema new : Catalog) → (let answer : Result (Unit {0} × Catalog) Refusal = if found then Ok (tt, all_found schema) else Err (ArgumentError BadTarget) in answer ≡ Ok (tt, new)) → all_found schema ≡ new
resolved_by true schema new h = ap (λ (p : Unit {0} × Catalog). p.1) (ok_inj {E = Refusal} (tt, all_found schema) (tt, new) h)
resolved_by false schema new h = absurd cc

pub resolved_is : (schema new : Catalog) → resolve schema ≡ Ok (tt, new) → all_found schema ≡ new
unfolding resolve
resolved_is schema new h = resolved_by (has_targets schema.tables) schema new h
