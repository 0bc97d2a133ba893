-- A key whose values are each of their columns' kinds fits its class.
use Rattle.std.proofs.Common.{◌≡◌, true, List, [], ◌∷◌, length, Option, None, Some, sym, ap, ◌∙◌, refl, arith}
use Rattle.std.specs.Prelude.{slice_get}
use Rattle.std.specs.List.{list_all, zip}
use Rattle.std.specs.Cmp.Lexicographic.{pointwise}
use Rattle.std.proofs.lemmas.Bool.{and_from, and_parts}
use Rattle.std.proofs.lemmas.Option.{get_or_from_slice_get}
use Rattle.base_core.specs.declared.ids.AttrNo.{AttrNo}
use Rattle.base_core.specs.declared.ids.ClassId.{ClassId}
use Rattle.base_core.specs.declared.value.Value.{Value}
use Rattle.schema_core.specs.Tables.{kind_of_value}
use Rattle.class_types.specs.declared.mapped.Attribute.{Attribute}
use Rattle.class_mapping.specs.Mapped.{Mapped, attributes_of, key_attributes, no_attribute}
use Rattle.object_arena.specs.Fit.{is_just_of_kind, key_fits, key_value_fits}
use Rattle.graph_fits.specs.Keys.{is_value, is_value_of}

by_found : (mapped : Mapped) (class : ClassId) (attr : AttrNo) (value : Value) (found : Option Attribute) → slice_get (attributes_of mapped class) attr.0 ≡ found → is_value_of found value ≡ true → key_value_fits mapped class attr value ≡ true
by_found mapped class attr value None at h = absurd cc
by_found mapped class attr value (Some attribute) at h =
    ap (λ (a : Attribute). is_just_of_kind a.kind (kind_of_value value)) (get_or_from_slice_get (attributes_of mapped class) attr.0 attribute no_attribute at) ∙ h

value_is : (mapped : Mapped) (class : ClassId) (attr : AttrNo) (value : Value) → is_value (attributes_of mapped class) attr value ≡ true → key_value_fits mapped class attr value ≡ true
value_is mapped class attr value h = by_found mapped class attr value (slice_get (attributes_of mapped class) attr.0) refl h

pointwise_zip : (mapped : Mapped) (class : ClassId) (keys : List AttrNo) (values : List Value) → length keys ≡ length values → list_all (λ given. is_value (attributes_of mapped class) given.0 given.1) (zip keys values) ≡ true → pointwise (key_value_fits mapped class) keys values ≡ true
pointwise_zip mapped class [] [] long h = refl
pointwise_zip mapped class [] (value ∷ values) long h = absurd (omega (arith, long))
pointwise_zip mapped class (key ∷ keys) [] long h = absurd (omega (arith, long))
pointwise_zip mapped class (key ∷ keys) (value ∷ values) long h =
    let parts = and_parts (is_value (attributes_of mapped class) key value) (list_all (λ given. is_value (attributes_of mapped class) given.0 given.1) (zip keys values)) h in
    and_from (key_value_fits mapped class key value) (pointwise (key_value_fits mapped class) keys values) (value_is mapped class key value parts.0)
    (pointwise_zip mapped class keys values (omega (arith, long)) parts.1)

pub keyed : (mapped : Mapped) (class : ClassId) (attributes : List Attribute) (keys : List AttrNo) (values key : List Value) → attributes ≡ attributes_of mapped class → keys ≡ key_attributes mapped class → values ≡ key → length keys ≡ length key
    → list_all (λ given. is_value attributes given.0 given.1) (zip keys values) ≡ true → key_fits mapped class key ≡ true
keyed mapped class attributes keys values key has are is long h =
    pointwise_zip mapped class (key_attributes mapped class) key (ap (λ (ks : List AttrNo). length ks) (sym are) ∙ long)
    (ap (λ (as_ : List Attribute). list_all (λ given. is_value as_ given.0 given.1) (zip (key_attributes mapped class) key)) (sym has)
    ∙ ap (λ (ks : List AttrNo). list_all (λ given. is_value attributes given.0 given.1) (zip ks key)) (sym are)
    ∙ ap (λ (vs : List Value). list_all (λ given. is_value attributes given.0 given.1) (zip keys vs)) (sym is)
    ∙ h)
