-- A row whose values fit, and in whose key there is no NULL, is one of its class.
use Rattle.std.proofs.Common.{◌≡◌, Bool, true, false, not, List, map, Option, None, Some, refl, sym, ap, ◌∙◌}
use Rattle.std.specs.Prelude.{slice_get}
use Rattle.std.specs.List.{list_all}
use Rattle.std.proofs.lemmas.Bool.{and_parts}
use Rattle.std.proofs.lemmas.Option.{get_or_from_slice_get}
use Rattle.base_core.specs.declared.ids.AttrNo.{AttrNo}
use Rattle.base_core.specs.declared.ids.ClassId.{ClassId}
use Rattle.base_core.specs.declared.value.Kind.{Kind}
use Rattle.base_core.specs.declared.value.Value.{Value}
use Rattle.base_core.specs.declared.value.Value.TheVariants as value
use Rattle.schema_core.specs.Tables.{is_null, kind_of_value, value_or_null}
use Rattle.class_types.specs.declared.mapped.Attribute.{Attribute}
use Rattle.class_mapping.specs.Mapped.{IsClass, Mapped, attribute_of, attributes_of, key_attributes, no_attribute}
use Rattle.class_mapping.proofs.Having.{Has, all_of, has_map}
use Rattle.object_arena.specs.Fit.{is_just_of_kind, key_fits, key_value_fits, value_fits}
use Rattle.mapping_laws.specs.Hierarchies.{HasHierarchies}
use Rattle.mapping_laws.proofs.Ties.{class_tables}
use Rattle.load_selects.specs.Branches.{discriminator_of}
use Rattle.load_filling.specs.Rows.{class_named, row_key, value_in}
use Rattle.load_rows.specs.Reading.{AreOfKinds, IsRowOf}
use Rattle.collection_selects.proofs.Rows.{each_passes, named_fits, of_key}
use Rattle.joined_rows.specs.declared.parts.Part.{Part}
use Rattle.joined_rows.specs.Parts.{values_from}
use Rattle.joined_rows.specs.Taking.{IsRowAt, are_given, further_keys}

-- a value that fits an attribute, and is not NULL
just_by : (attribute : Attribute) (found : Option Value) → value_fits attribute found ≡ true → not (is_null (value_or_null found)) ≡ true → is_just_of_kind attribute.kind (kind_of_value (value_or_null found)) ≡ true
just_by attribute None fits given = absurd cc
just_by attribute (Some value.Null) fits given = absurd cc
just_by attribute (Some (value.Bool b)) fits given = fits
just_by attribute (Some (value.Int n)) fits given = fits
just_by attribute (Some (value.Text s)) fits given = fits
just_by attribute (Some (value.Bytes s)) fits given = fits

given_fits : (mapped : Mapped) (class : ClassId) (values : List Value) → HasHierarchies mapped → IsClass mapped class → AreOfKinds mapped class values → are_given (row_key mapped class values) ≡ true
    → key_fits mapped class (row_key mapped class values) ≡ true
given_fits mapped class values has less kinds given =
    each_passes (key_value_fits mapped class) (value_in values) (key_attributes mapped class) (λ attr there.
    let at = (of_key mapped class attr (class_tables mapped class has less) there).at in
    let attribute : Attribute = (of_key mapped class attr (class_tables mapped class has less) there).attribute in
    let some = all_of (λ (v : Value). not (is_null v)) (row_key mapped class values) (value_in values attr) given (has_map (value_in values) (key_attributes mapped class) attr there) in
    ap (λ (a : Attribute). is_just_of_kind a.kind (kind_of_value (value_in values attr))) (get_or_from_slice_get (attributes_of mapped class) attr.0 attribute no_attribute at)
    ∙ just_by attribute (slice_get values attr.0) (kinds attr.0 attribute at) some)

is_keyed_row : (mapped : Mapped) (class : ClassId) (values : List Value) → HasHierarchies mapped → IsClass mapped class → AreOfKinds mapped class values → are_given (row_key mapped class values) ≡ true → IsRowOf mapped class values
unfolding class_named
is_keyed_row mapped class values has less kinds given = record {
  kinds = kinds;
  key = named_fits mapped class values (row_key mapped class values) (discriminator_of mapped class) has less (given_fits mapped class values has less kinds given);
}

-- so is what a row has of an option where it has the option's target
pub is_row_at : (mapped : Mapped) (row : List Value) (part : Part) → HasHierarchies mapped → IsClass mapped part.target → AreOfKinds mapped part.target (values_from part row) → IsRowAt mapped row part
is_row_at mapped row part has less kinds = λ there.
    is_keyed_row mapped part.target (values_from part row) has less kinds (and_parts (are_given (row_key mapped part.target (values_from part row))) (are_given (further_keys part row)) there).0
