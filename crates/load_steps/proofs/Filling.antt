-- A row fills some cell of an object that is made of it.
use Rattle.std.proofs.Common.{◌≡◌, inl, inr, ℕ, suc, ◌+◌, ◌<◌, ◌≤◌, ◌==◌, Bool, true, false, ◌||◌, cond, List, [], ◌∷◌, length, map, Option, None, Some, is_some, refl, sym, ap, ◌∙◌, arith}
use Rattle.std.specs.Prelude.{slice_get}
use Rattle.std.specs.List.{enumerate_from, list_any, position, position_or_len}
use Rattle.std.specs.Option.{option_and_then}
use Rattle.std.proofs.lemmas.Bool.{and_from, eq-eqb, lt-ltb}
use Rattle.std.proofs.lemmas.List.Folds.{find_at}
use Rattle.std.proofs.lemmas.Option.{slice_get-get_or, slice_get_within}
use Rattle.base_core.specs.declared.ids.ClassId.{ClassId}
use Rattle.base_core.specs.declared.value.Value.{Value}
use Rattle.base_core.specs.declared.value.Value.TheVariants as value
use Rattle.class_types.specs.declared.mapped.Attribute.{Attribute}
use Rattle.class_mapping.specs.Mapped.{Mapped, attributes_of}
use Rattle.class_mapping.proofs.Having.{Has, any_has, found_of}
use Rattle.mapping_laws.specs.Hierarchies.{HasHierarchies}
use Rattle.object_arena.specs.Graph.{expired_cell}
use Rattle.load_filling.specs.Filled.{Found, value_found, value_or_none}
use Rattle.load_rows.specs.Loading.{found_in_row, is_same_column, is_to_fill, value_for}
use Rattle.loading_laws.proofs.Loading.Inherited.{attribute_inherited}
use Rattle.loading_laws.proofs.Strategies.Standing.{named_under}
use Rattle.known_queries.proofs.Attributes.{some_attribute}
use Rattle.load_steps.proofs.Noted.{FillsMade}

-- ---- what a row has for it

value_there : (mapped : Mapped) (class : ClassId) (row : List Value) (attribute : Attribute) → length (attributes_of mapped class) ≤ length row → Has (attributes_of mapped class) attribute → is_some (value_for mapped class row attribute) ≡ true
value_there mapped class row attribute wide there =
    let attributes : List Attribute = attributes_of mapped class in
    let test : Attribute → Bool = is_same_column attribute in
    let itself : test attribute ≡ true = and_from (attribute.table.0 == attribute.table.0) (attribute.column.0 == attribute.column.0) (eq-eqb attribute.table.0 attribute.table.0 refl) (eq-eqb attribute.column.0 attribute.column.0 refl) in
    let found = found_of test attributes (any_has test attributes attribute there itself) in
    let place : ℕ = position_or_len test attributes in
    let at : slice_get attributes place ≡ Some found.0 = sym (find_at test attributes) ∙ found.1 in
    let within : place < length attributes = slice_get_within attributes place found.0 at in
    let first : position test attributes ≡ Some place = ap (λ (b : Bool). cond b (Some place) None) (lt-ltb place (length attributes) within) in
    ap (λ (o : Option ℕ). is_some (option_and_then (slice_get row) o)) first ∙ ap (λ (o : Option Value). is_some o) (slice_get-get_or row place value.Null (omega (arith, wide, within)))

some_filled : (found : Found) (f : Attribute → Option Value) (attributes : List Attribute) (k : ℕ) → ((i j : ℕ) → j ≡ k + i → value_found found j ≡ value_or_none (slice_get (map f attributes) i)) → (attribute : Attribute)
    → Has attributes attribute → is_some (f attribute) ≡ true → list_any (is_to_fill found) (enumerate_from k (map (λ one. expired_cell) attributes)) ≡ true
some_filled found f [] k told attribute there is = absurd there
some_filled found f (one ∷ attributes) k told attribute (inl e) is =
    let here : value_found found k ≡ f one = told 0 k (omega arith) in
    ap (λ (b : Bool). b || list_any (is_to_fill found) (enumerate_from (k + 1) (map (λ a. expired_cell) attributes))) (ap (λ (o : Option Value). is_some o) here ∙ ap (λ (a : Attribute). is_some (f a)) e ∙ is)
some_filled found f (one ∷ attributes) k told attribute (inr more) is =
    or_late (is_to_fill found (k, expired_cell)) (list_any (is_to_fill found) (enumerate_from (k + 1) (map (λ a. expired_cell) attributes)))
    (some_filled found f attributes (k + 1) (λ i j e. told (suc i) j (omega (arith, e))) attribute more is)
  where
    or_late : (a b : Bool) → b ≡ true → (a || b) ≡ true
    or_late true b e = refl
    or_late false b e = e

-- a row that has a value for each attribute of its class fills a cell of the object that is made of it
pub fills_made : (mapped : Mapped) (IsRow : ClassId → List Value → Type 0) → HasHierarchies mapped → ((class : ClassId) (row : List Value) → IsRow class row → length (attributes_of mapped class) ≤ length row) → FillsMade mapped IsRow
fills_made mapped IsRow has wide = λ class named row declared is names.
    let own = some_attribute mapped class has declared in
    let there : Has (attributes_of mapped named) own.0 = attribute_inherited mapped named class has declared (named_under mapped class named row has declared names) own.0 own.1 in
    some_filled (found_in_row mapped class row named) (value_for mapped class row) (attributes_of mapped named) 0
    (λ i j e. ap (λ (n : ℕ). value_or_none (slice_get (map (value_for mapped class row) (attributes_of mapped named)) n)) (let same : j ≡ i = omega (arith, e) in same)) own.0 there
    (value_there mapped class row own.0 (wide class row is) own.1)
