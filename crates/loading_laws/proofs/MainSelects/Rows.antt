-- The object of a row asks for no more of it than the attributes of its class.
use Rattle.std.proofs.Common.{◌≡◌, ℕ, zero, suc, ◌<◌, Bool, List, [], ◌∷◌, length, map, find, take, Option, None, Some, Result, Ok, Err, refl, ap, ◌∙◌, arith}
use Rattle.std.specs.Prelude.{slice_get}
use Rattle.std.specs.Option.{option_and_then}
use Rattle.std.specs.List.{AllByRecursion, position}
use Rattle.std.proofs.lemmas.List.Elements.{recursion_from_All}
use Rattle.std.proofs.lemmas.List.Quantifiers.{position-Some}
use Rattle.base_core.specs.declared.ids.AttrNo.{AttrNo}
use Rattle.base_core.specs.declared.ids.ClassId.{ClassId}
use Rattle.base_core.specs.declared.ids.ObjId.{ObjId}
use Rattle.base_core.specs.declared.value.Value.{Value}
use Rattle.base_core.specs.declared.refusal.Refusal.{Refusal}
use Rattle.schema_core.specs.Tables.{value_or_null}
use Rattle.class_types.specs.declared.mapped.Attribute.{Attribute}
use Rattle.class_mapping.specs.Mapped.{Mapped, attributes_of, key_attributes, no_attribute, root_of, root_table}
use Rattle.class_mapping.proofs.MappingLemmas.{keys_inside}
use Rattle.object_arena.specs.Graph.{Graph, object_at}
use Rattle.object_arena.specs.Identity.{find_identity}
use Rattle.relations.specs.Parents.{is_column}
use Rattle.keeper_core.specs.Programs.{Run, quiet}
use Rattle.load_selects.specs.Branches.{branch, discriminator_of}
use Rattle.load_filling.specs.Filled.{Found}
use Rattle.load_filling.specs.Rows.{class_by, class_named, found_or_loaded, has_identity, loaded_as, row_key, row_object, value_in}
use Rattle.load_rows.specs.Loading.{Loading, filled, found_in_row, is_same_column, loading, take_row, taken_as, value_for}
use Rattle.joined_rows.specs.Parts.{own_values, width_of}

-- ---- values

-- among the first values each stands where it stood
taken_at : (values : List Value) (n i : ℕ) → i < n → slice_get (take n values) i ≡ slice_get values i
taken_at values zero i less = absurd (omega (arith, less))
taken_at [] (suc n) i less = refl
taken_at (v ∷ values) (suc n) zero less = refl
taken_at (v ∷ values) (suc n) (suc i) less = taken_at values n i (omega (arith, less))

found_at : (test : Attribute → Bool) (attributes : List Attribute) (values : List Value)
    → option_and_then (slice_get (take (length attributes) values)) (position test attributes) ≡ option_and_then (slice_get values) (position test attributes)
found_at test attributes values = by (position test attributes) refl
  where
    by : (found : Option ℕ) → position test attributes ≡ found → option_and_then (slice_get (take (length attributes) values)) found ≡ option_and_then (slice_get values) found
    by None is = refl
    by (Some i) is = taken_at values (length attributes) i (position-Some test attributes i no_attribute is).0

mapped_alike : {A B : Type 0} (f g : A → B) (xs : List A) → AllByRecursion (λ x. f x ≡ g x) xs → map f xs ≡ map g xs
mapped_alike f g [] alike = refl
mapped_alike f g (x ∷ xs) alike = ap (λ y. y ∷ map f xs) alike.0 ∙ ap (λ ys. g x ∷ ys) (mapped_alike f g xs alike.1)

keys_alike : (values : List Value) (n : ℕ) (keys : List AttrNo) → AllByRecursion (λ key. key.0 < n) keys → AllByRecursion (λ key. value_in (take n values) key ≡ value_in values key) keys
keys_alike values n [] inside = tt
keys_alike values n (key ∷ keys) inside = (ap value_or_null (taken_at values n key.0 inside.0), keys_alike values n keys inside.1)

-- ---- what a row tells

key_same : (mapped : Mapped) (class : ClassId) (values : List Value) → row_key mapped class (own_values mapped class values) ≡ row_key mapped class values
key_same mapped class values =
    mapped_alike (value_in (own_values mapped class values)) (value_in values) (key_attributes mapped class)
    (keys_alike values (width_of mapped class) (key_attributes mapped class)
    (recursion_from_All (λ (key : AttrNo). key.0 < width_of mapped class) (key_attributes mapped class) (keys_inside mapped.schema.tables (attributes_of mapped class))))

named_by : (mapped : Mapped) (class : ClassId) (values : List Value) (name : Option (List ℕ)) → class_by mapped class (own_values mapped class values) name ≡ class_by mapped class values name
named_by mapped class values None = refl
named_by mapped class values (Some name) =
    ap (λ (found : Option Value). find_in found) (found_at (is_column (root_table mapped class) name) (attributes_of mapped class) values)
  where
    find_in : Option Value → Option ClassId
    find_in found = find (has_identity mapped found) (branch mapped class)

named_same : (mapped : Mapped) (class : ClassId) (values : List Value) → class_named mapped class (own_values mapped class values) ≡ class_named mapped class values
unfolding class_named
named_same mapped class values = named_by mapped class values (discriminator_of mapped class)

object_same : (mapped : Mapped) (class : ClassId) (values : List Value) (graph : Graph) → row_object mapped class (own_values mapped class values) graph ≡ row_object mapped class values graph
unfolding row_object
object_same mapped class values graph =
    ap (λ (key : List Value). found_or_loaded mapped class (own_values mapped class values) graph (find_identity graph (root_of mapped class) key)) (key_same mapped class values)
    ∙ by (find_identity graph (root_of mapped class) (row_key mapped class values))
  where
    by : (found : Option ObjId) → found_or_loaded mapped class (own_values mapped class values) graph found ≡ found_or_loaded mapped class values graph found
    by (Some object) = refl
    by None =
        ap (λ (key : List Value). loaded_as mapped key graph (class_named mapped class (own_values mapped class values))) (key_same mapped class values)
        ∙ ap (loaded_as mapped (row_key mapped class values) graph) (named_same mapped class values)

found_same : (mapped : Mapped) (class : ClassId) (values : List Value) (other : ClassId) → found_in_row mapped class (own_values mapped class values) other ≡ found_in_row mapped class values other
found_same mapped class values other = by (attributes_of mapped other)
  where
    by : (attributes : List Attribute) → map (value_for mapped class (own_values mapped class values)) attributes ≡ map (value_for mapped class values) attributes
    by [] = refl
    by (attribute ∷ attributes) =
        ap (λ (one : Option Value). one ∷ map (value_for mapped class (own_values mapped class values)) attributes) (found_at (is_same_column attribute) (attributes_of mapped class) values)
        ∙ ap (λ (found : Found). value_for mapped class values attribute ∷ found) (by attributes)

-- the values of its class give the object of the whole row
pub row_same : (mapped : Mapped) (class : ClassId) (row : List Value) (own : Loading) → take_row mapped class (own_values mapped class row) own ≡ take_row mapped class row own
unfolding take_row
row_same mapped class row own = ap (taken_as mapped class (own_values mapped class row) own) (object_same mapped class row own.graph) ∙ by (row_object mapped class row own.graph)
  where
    by : (found : Result (ObjId × Graph) Refusal) → taken_as mapped class (own_values mapped class row) own found ≡ taken_as mapped class row own found
    by (Ok found) =
        let now : Loading = loading found.1 own.notes in
        ap (λ (values : Found). let run : Run Loading ObjId = quiet (Ok found.0) (filled found.0 values now) in run) (found_same mapped class row (object_at now.graph found.0).class)
    by (Err e) = refl
