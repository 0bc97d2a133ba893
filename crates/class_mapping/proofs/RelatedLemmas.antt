-- The relationships of a valid mapping: partners stand in each other's place, and each has the keys of its side.
use Rattle.std.proofs.Common.{◌≡◌, ◌⊎◌, inl, inr, ℕ, ◌<◌, Bool, true, false, not, ◌&&◌, ◌||◌, List, [], ◌∷◌, ◌++◌, ◌∙◌, length, map, filter, get_or, ap, sym, refl, subst, Option, None, Some, is_some, ◌==◌, if◌then◌else◌, zero-add}
use Rattle.std.specs.Prelude.{slice_get}
use Rattle.std.specs.Option.{option_map}
use Rattle.std.specs.List.{enumerate_from, flat_map, list_all, list_any, position}
use Rattle.std.proofs.lemmas.Bool.{eq-eqb, eqb-true, or_left as or_here, or_right as or_there}
use Rattle.std.proofs.lemmas.List.Quantifiers.{position-Some}
use Rattle.std.proofs.lemmas.Option.{same_Some, slice_get-get_or, slice_get-map, slice_get_within}
use Rattle.base_core.specs.declared.ids.ClassId.{ClassId}
use Rattle.schema_core.specs.declared.table.TableSpec.{TableSpec}
use Rattle.schema_core.specs.Catalog.{same_name}
use Rattle.schema_core.specs.Declaration.{some_two}
use Rattle.schema_core.proofs.Names.{same_names}
use Rattle.class_types.specs.declared.declared.ClassSpec.{ClassSpec}
use Rattle.class_types.specs.declared.declared.RelationSpec.{RelationSpec}
use Rattle.class_types.specs.declared.mapped.Relation.{Relation}
use Rattle.class_layouts.specs.declared.classes.Classes.{Classes}
use Rattle.class_layouts.specs.declared.layout.Layout.{Layout}
use Rattle.class_layouts.specs.Columns.{layout_of as layout_on, layouts_of}
use Rattle.class_layouts.specs.Hierarchy.{has_class, line_of, line_or_none, no_class, place_of, relations_at, relations_in}
use Rattle.class_blocks.specs.declared.side.Side.{Side}
use Rattle.class_sides.specs.Sides.{layout_at, side_of, sides_at, sides_of}
use Rattle.class_sides.specs.Pairs.{differs, gives_name, is_class, is_opposite, is_partner, is_taken_in, is_target_in, same_secondary, same_side}
use Rattle.class_sides.specs.Linking as linking
use Rattle.class_sides.specs.Linking.{class_or, place_among, place_in, place_or_none}
use Rattle.class_mapping.specs.Lines.{AreLines, names_on}
use Rattle.class_mapping.specs.Mapped.{Mapped, list_or_none, relations_of}
use Rattle.class_mapping.specs.Related.{ArePartners}
use Rattle.class_mapping.specs.Valid.{is_paired}
use Rattle.class_mapping.proofs.Having.{Has, all_of, any_has, found_at_name, from_filter, from_flat, from_map, from_numbered, has_either, has_filter, has_flat, has_left, has_map, has_numbered, has_right, named_alike, none_of, one_of_name, some_of, true_false}
use Rattle.class_mapping.proofs.LineLemmas.{none_at}
use Rattle.class_mapping.proofs.Lists.{and_both, and_left, and_right, some_is}

-- ---- lists of names

map_append : {A B : Type 0} (f : A → B) (xs ys : List A) → map f (xs ++ ys) ≡ map f xs ++ map f ys
map_append f [] ys = refl
map_append f (x ∷ xs) ys = ap (λ zs. f x ∷ zs) (map_append f xs ys)

map_twice : {A B C : Type 0} (g : B → C) (f : A → B) (xs : List A) → map g (map f xs) ≡ map (λ x. g (f x)) xs
map_twice g f [] = refl
map_twice g f (x ∷ xs) = ap (λ zs. g (f x) ∷ zs) (map_twice g f xs)

-- ---- classes

pub same_class : (one other : ClassId) → (one.0 == other.0) ≡ true → one ≡ other
same_class one other h = ap (λ (n : ℕ). let class : ClassId = record { 0 = n } in class) (eqb-true one.0 other.0 h)

pub class_has : (line : List ClassId) (class : ClassId) → has_class line class.0 ≡ true → Has line class
class_has line class h =
    let found = some_of (λ (other : ClassId). other.0 == class.0) line h in
    subst (λ (c : ClassId). Has line c) (same_class found.0 class found.2) found.1

pub has_class_from : (line : List ClassId) (class : ClassId) (n : ℕ) → Has line class → class.0 ≡ n → has_class line n ≡ true
has_class_from line class n h e = any_has (λ (other : ClassId). other.0 == n) line class h (eq-eqb class.0 n e)

pub class_is : (o : Option ClassId) (class : ClassId) → is_class o class ≡ true → o ≡ Some class
class_is None class h = absurd cc
class_is (Some found) class h = ap (λ (c : ClassId). Some c) (same_class found class h)

pub is_class_of : (o : Option ClassId) (class : ClassId) → o ≡ Some class → is_class o class ≡ true
is_class_of o class e = ap (λ (found : Option ClassId). is_class found class) e ∙ eq-eqb class.0 class.0 refl

target_within : (o : Option ℕ) (n : ℕ) → ((i : ℕ) → o ≡ Some i → i < n) → (class : ClassId) → option_map (λ place. let c : ClassId = record { 0 = place } in c) o ≡ Some class → class.0 < n
target_within None n within class e = absurd cc
target_within (Some i) n within class e =
    let same : i ≡ class.0 = ap (λ (c : ClassId). c.0) (same_Some (record { 0 = i }) class e) in
    subst (λ (k : ℕ). k < n) same (within i refl)

line_here : (o : Option (List ClassId)) (line : List ClassId) → o ≡ Some line → o ≡ Some (line_or_none o)
line_here o line e = e ∙ ap (λ (l : List ClassId). Some l) (sym (ap line_or_none e))

-- ---- sides

abbrev pub layouts_in : Mapped → List Layout
layouts_in mapped = layouts_of mapped.schema.tables mapped.classes

abbrev pub sides_in : Mapped → List Side
sides_in mapped = sides_of mapped.schema.tables mapped.classes (layouts_in mapped)

-- a declared relationship as its class has it, and the backref that a declaration makes
abbrev pub own_in : Mapped → Side → Relation
own_in mapped = linking.own_relation mapped.schema.tables mapped.classes (sides_in mapped) (linking.all_names mapped.classes (sides_in mapped))

abbrev pub back_in : Mapped → Side → Relation
back_in mapped = linking.back_relation mapped.schema.tables mapped.classes (sides_in mapped) (linking.all_names mapped.classes (sides_in mapped))

-- the relationship is of a declaration in a class of the line, or the backref that one makes there
abbrev pub Came : Mapped → List ClassId → Relation → Type 0
Came mapped line relation =
    ((side : Side) × Has (sides_in mapped) side × (has_class line side.class.0 ≡ true) × (own_in mapped side ≡ relation))
    ⊎ ((side : Side) × Has (sides_in mapped) side × (side.spec.backref ≡ true) × (is_target_in side.target line ≡ true) × (back_in mapped side ≡ relation))

-- a side is of the block of a declared class
pub record IsFrom (mapped : Mapped) (side : Side) : Type 0 where
  pub class : side.class.0 < length mapped.classes.specs
  pub spec : Has (relations_at mapped.classes side.class.0) side.spec
  pub is : side ≡ side_of mapped.schema.tables mapped.classes (layouts_in mapped) side.class.0 side.spec

-- the declared partner of a side
pub record IsDeclared (side other : Side) : Type 0 where
  pub target : side.target ≡ Some other.class
  pub back : other.target ≡ Some side.class
  pub name : other.spec.name ≡ side.spec.partner
  pub partner : other.spec.partner ≡ side.spec.name
  pub declared : not other.spec.backref ≡ true
  pub secondary : same_secondary side.spec.secondary other.spec.secondary ≡ true
  pub opposite : is_opposite side other ≡ true

seven_parts : {A : Type 0} (one two three four five six seven : Bool) → (one && two && three && four && five && six && seven) ≡ true
    → (one ≡ true → two ≡ true → three ≡ true → four ≡ true → five ≡ true → six ≡ true → seven ≡ true → A) → A
seven_parts true true true true true true seven h f = f refl refl refl refl refl refl h
seven_parts true true true true true false seven h f = absurd cc
seven_parts true true true true false six seven h f = absurd cc
seven_parts true true true false five six seven h f = absurd cc
seven_parts true true false four five six seven h f = absurd cc
seven_parts true false three four five six seven h f = absurd cc
seven_parts false two three four five six seven h f = absurd cc

pub declared_partner : (side other : Side) → is_partner side other ≡ true → IsDeclared side other
declared_partner side other h =
    seven_parts (is_class side.target other.class) (same_name other.spec.name side.spec.partner) (not other.spec.backref) (same_name other.spec.partner side.spec.name)
    (is_class other.target side.class) (same_secondary side.spec.secondary other.spec.secondary) (is_opposite side other) h
    (λ a b c d e f g. record {
      target = class_is side.target other.class a;
      back = class_is other.target side.class e;
      name = same_names other.spec.name side.spec.partner b;
      partner = same_names other.spec.partner side.spec.name d;
      declared = c;
      secondary = f;
      opposite = g;
    })

swapped_partners : (mapped : Mapped) (relation other : Relation) → ArePartners mapped relation other → ArePartners mapped other relation
swapped_partners mapped relation other is = record { there = is.back; back = is.there; class = sym is.target; target = sym is.class }

module _ (mapped : Mapped) (lined : length mapped.classes.lines ≡ length mapped.classes.specs) (lines : AreLines mapped.schema.tables mapped.classes) where
  abbrev tables : List TableSpec
  tables = mapped.schema.tables

  abbrev classes : Classes
  classes = mapped.classes

  abbrev layouts : List Layout
  layouts = layouts_in mapped

  abbrev sides : List Side
  sides = sides_in mapped

  abbrev names : List (List (List ℕ))
  names = linking.all_names classes sides

  pub side_from : (side : Side) → Has sides side → IsFrom mapped side
  side_from side h =
      let placed = from_flat (sides_at tables classes layouts) (enumerate_from 0 classes.specs) side h in
      let place = from_numbered 0 classes.specs placed.0 placed.1 in
      let found = from_map (side_of tables classes layouts placed.0.0) placed.0.1.relations side placed.2 in
      let here : slice_get classes.specs placed.0.0 ≡ Some placed.0.1 = ap (slice_get classes.specs) (place.1 ∙ zero-add place.0) ∙ place.2 in
      subst (IsFrom mapped) found.2
      (record {
        class = slice_get_within classes.specs placed.0.0 placed.0.1 here;
        spec = subst (λ (o : Option ClassSpec). Has (relations_in o) found.0) (sym here) found.1;
        is = refl;
      })

  pub line_for : (class : ℕ) → class < length classes.specs → slice_get classes.lines class ≡ Some (line_of classes class)
  line_for class less =
      let within : class < length classes.lines = rw lined less in
      line_here (slice_get classes.lines class) (get_or classes.lines class []) (slice_get-get_or classes.lines class [] within)

  pub own_line : (class : ClassId) → class.0 < length classes.specs → Has (line_of classes class.0) class
  own_line class less =
      let within : class.0 < length classes.lines = rw lined less in
      class_has (line_of classes class.0) class (lines.own class.0 within)

  abbrev pairs_at : ClassId → List (ClassId × RelationSpec)
  pairs_at class = map (λ relation. (class, relation)) (relations_at classes class.0)

  pair_names : (line : List ClassId) → map (λ (pair : ClassId × RelationSpec). pair.1.name) (flat_map pairs_at line) ≡ names_on classes line
  pair_names [] = refl
  pair_names (class ∷ line) =
      map_append (λ (pair : ClassId × RelationSpec). pair.1.name) (pairs_at class) (flat_map pairs_at line)
      ∙ ap (λ (more : List (List ℕ)). map (λ (pair : ClassId × RelationSpec). pair.1.name) (pairs_at class) ++ more) (pair_names line)
      ∙ ap (λ (first : List (List ℕ)). first ++ names_on classes line) (map_twice (λ (pair : ClassId × RelationSpec). pair.1.name) (λ (relation : RelationSpec). (class, relation)) (relations_at classes class.0))

  -- two sides of the classes of a line that have one name are one
  pub one_side : (class : ℕ) → class < length classes.specs → (side other : Side) → Has sides side → Has sides other
      → has_class (line_of classes class) side.class.0 ≡ true → has_class (line_of classes class) other.class.0 ≡ true → side.spec.name ≡ other.spec.name → side ≡ other
  one_side class less side other h g inside within e =
      let line : List ClassId = line_of classes class in
      let apart : some_two same_name (names_on classes line) ≡ false = none_at (λ line. some_two same_name (names_on classes line)) classes.lines class line lines.named (line_for class less) in
      let one = side_from side h in
      let two = side_from other g in
      let first = has_flat pairs_at line side.class (side.class, side.spec) (class_has line side.class inside) (has_map (λ (relation : RelationSpec). (side.class, relation)) (relations_at classes side.class.0) side.spec one.spec) in
      let second = has_flat pairs_at line other.class (other.class, other.spec) (class_has line other.class within) (has_map (λ (relation : RelationSpec). (other.class, relation)) (relations_at classes other.class.0) other.spec two.spec) in
      let same = one_of_name (λ (pair : ClassId × RelationSpec). pair.1.name) (flat_map pairs_at line) (side.class, side.spec) (other.class, other.spec) (ap (some_two same_name) (pair_names line) ∙ apart) first second e in
      one.is ∙ ap (λ (pair : ClassId × RelationSpec). side_of tables classes layouts pair.0.0 pair.1) same ∙ sym two.is

  -- the class to which a side leads is declared
  pub target_declared : (side : Side) → Has sides side → (class : ClassId) → side.target ≡ Some class → class.0 < length classes.specs
  target_declared side h class e =
      target_within (place_of classes.specs side.spec.target) (length classes.specs)
      (λ i at. (position-Some (λ (spec : ClassSpec). same_name spec.name side.spec.target) classes.specs i no_class at).0) class
      (ap (λ (s : Side). s.target) (sym (side_from side h).is) ∙ e)

  pub layout_here : (class : ClassId) → class.0 < length classes.specs → layout_at layouts (Some class) ≡ Some (layout_on tables classes (line_of classes class.0))
  layout_here class less =
      slice_get-map (layout_on tables classes) classes.lines class.0 ∙ ap (option_map (layout_on tables classes)) (line_for class.0 less)

  -- ---- where a relationship of a class comes from

  abbrev own : Side → Relation
  own = own_in mapped

  abbrev back : Side → Relation
  back = back_in mapped

  abbrev list_on : List ClassId → List Relation
  list_on line = linking.relations_on tables classes sides names line

  pub target_in : (line : List ClassId) (o : Option ClassId) (class : ClassId) → is_class o class ≡ true → Has line class → is_target_in o line ≡ true
  target_in line None class h g = absurd cc
  target_in line (Some found) class h g = has_class_from line class found.0 g (sym (eqb-true found.0 class.0 h))

  came_at : (line : List ClassId) (class : ClassId) (relation : Relation) → Has line class
      → Has (map own (filter (linking.is_own class) sides)) relation ⊎ Has (map back (filter (linking.makes_back class) sides)) relation → Came mapped line relation
  came_at line class relation has (inl h) =
      let found = from_map own (filter (linking.is_own class) sides) relation h in
      let kept = from_filter (linking.is_own class) sides found.0 found.1 in
      inl (found.0, kept.0, has_class_from line class found.0.class.0 has (sym (eqb-true found.0.class.0 class.0 kept.1)), found.2)
  came_at line class relation has (inr h) =
      let found = from_map back (filter (linking.makes_back class) sides) relation h in
      let kept = from_filter (linking.makes_back class) sides found.0 found.1 in
      inr (
        found.0,
        kept.0,
        and_left found.0.spec.backref (is_class found.0.target class) kept.1,
        target_in line found.0.target class (and_right found.0.spec.backref (is_class found.0.target class) kept.1) has,
        found.2,
      )

  pub came : (line : List ClassId) (relation : Relation) → Has (list_on line) relation → Came mapped line relation
  came line relation h =
      let at = from_flat (linking.relations_at tables classes sides names) line relation h in
      came_at line at.0 relation at.1 (has_either (map own (filter (linking.is_own at.0) sides)) (map back (filter (linking.makes_back at.0) sides)) relation at.2)

  -- ---- the place of a name

  names_of_own : (class : ClassId) → map (λ (relation : Relation). relation.name) (linking.relations_at tables classes sides names class) ≡ linking.names_at sides class
  names_of_own class =
      map_append (λ (relation : Relation). relation.name) (map own (filter (linking.is_own class) sides)) (map back (filter (linking.makes_back class) sides))
      ∙ ap (λ (more : List (List ℕ)). map (λ (relation : Relation). relation.name) (map own (filter (linking.is_own class) sides)) ++ more) (map_twice (λ (relation : Relation). relation.name) back (filter (linking.makes_back class) sides))
      ∙ ap (λ (first : List (List ℕ)). first ++ map (λ side. side.spec.partner) (filter (linking.makes_back class) sides)) (map_twice (λ (relation : Relation). relation.name) own (filter (linking.is_own class) sides))

  pub names_of_list : (line : List ClassId) → map (λ (relation : Relation). relation.name) (list_on line) ≡ linking.names_on sides line
  names_of_list [] = refl
  names_of_list (class ∷ line) =
      map_append (λ (relation : Relation). relation.name) (linking.relations_at tables classes sides names class) (list_on line)
      ∙ ap (λ (more : List (List ℕ)). map (λ (relation : Relation). relation.name) (linking.relations_at tables classes sides names class) ++ more) (names_of_list line)
      ∙ ap (λ (first : List (List ℕ)). first ++ linking.names_on sides line) (names_of_own class)

  place_at : (class : ClassId) → class.0 < length classes.specs → (name : List ℕ) (n : ℕ)
      → position (λ other. same_name other name) (map (λ (relation : Relation). relation.name) (list_on (line_of classes class.0))) ≡ Some n → (place_in names class name).0 ≡ n
  place_at class less name n e =
      ap (λ (o : Option (List (List ℕ))). (place_among o name).0) (slice_get-map (linking.names_on sides) classes.lines class.0 ∙ ap (option_map (linking.names_on sides)) (line_for class.0 less))
      ∙ ap (λ (found : List (List ℕ)). (place_or_none (position (λ other. same_name other name) found)).0) (sym (names_of_list (line_of classes class.0)))
      ∙ ap (λ (o : Option ℕ). (place_or_none o).0) e

  -- a relationship of a class stands at its name's place, where no other one has the name
  found_in : (class : ClassId) → class.0 < length classes.specs → (name : List ℕ) (relation : Relation) → Has (list_on (line_of classes class.0)) relation → relation.name ≡ name
      → ((other : Relation) → Came mapped (line_of classes class.0) other → other.name ≡ name → other ≡ relation)
      → slice_get (list_on (line_of classes class.0)) (place_in names class name).0 ≡ Some relation
  found_in class less name relation has e alone =
      let line : List ClassId = line_of classes class.0 in
      let found = found_at_name (λ (r : Relation). r.name) (list_on line) relation name has e in
      ap (slice_get (list_on line)) (place_at class less name found.0 found.1)
      ∙ found.3
      ∙ ap (λ (r : Relation). Some r) (alone found.2 (came line found.2 found.4) found.5)

  pub list_for : (class : ClassId) → class.0 < length classes.specs → relations_of mapped class ≡ list_on (line_of classes class.0)
  list_for class less =
      ap list_or_none (slice_get-map (linking.relations_on tables classes sides names) classes.lines class.0 ∙ ap (option_map (linking.relations_on tables classes sides names)) (line_for class.0 less))

  -- what stands at the place of a name in the list of a class
  abbrev at_name : ClassId → List ℕ → Option Relation
  at_name class name = slice_get (relations_of mapped class) (place_in names class name).0

  module _ (differing : list_any (differs classes layouts sides) sides ≡ false) where
    -- the name of a backref is not taken
    pub not_taken : {A : Type 0} (class : ℕ) → class < length classes.specs → (side other : Side) → Has sides side → side.spec.backref ≡ true → is_target_in side.target (line_of classes class) ≡ true
        → Has sides other → gives_name (line_of classes class) side other ≡ true → A
    not_taken class less side other h backref inside g gives =
        let layout : Layout = layout_on tables classes (line_of classes class) in
        let placed = subst (λ (n : ℕ). Has (enumerate_from 0 layouts) (n, layout)) (zero-add class) (has_numbered 0 layouts class layout (layout_here (record { 0 = class }) less)) in
        true_false (differs classes layouts sides side)
        (ap (λ (b : Bool). if b then list_any (is_taken_in classes sides side) (enumerate_from 0 layouts) else not (list_any (is_partner side) sides)) backref
        ∙ any_has (is_taken_in classes sides side) (enumerate_from 0 layouts) (class, layout) placed
        (and_both (is_target_in side.target (line_of classes class)) _ inside
        (or_there (list_any (λ attribute. same_name attribute.name side.spec.partner) layout.attributes) (list_any (gives_name (line_of classes class) side) sides)
        (any_has (gives_name (line_of classes class) side) sides other g gives))))
        (none_of (differs classes layouts sides) sides side differing h)

    -- a declared relationship stands at its name's place in the list of its class
    pub found_own : (side : Side) → Has sides side → at_name side.class side.spec.name ≡ Some (own side)
    found_own side h =
        let from = side_from side h in
        let line : List ClassId = line_of classes side.class.0 in
        let class : Has line side.class = own_line side.class from.class in
        let stands : has_class line side.class.0 ≡ true = has_class_from line side.class side.class.0 class refl in
        let kept = has_filter (linking.is_own side.class) sides side h (eq-eqb side.class.0 side.class.0 refl) in
        let has = has_flat (linking.relations_at tables classes sides names) line side.class (own side) class
        (has_left (map own (filter (linking.is_own side.class) sides)) (map back (filter (linking.makes_back side.class) sides)) (own side) (has_map own (filter (linking.is_own side.class) sides) side kept)) in
        ap (λ (list : List Relation). slice_get list (place_in names side.class side.spec.name).0) (list_for side.class from.class)
        ∙ found_in side.class from.class side.spec.name (own side) has refl (λ other came e. own_alone side h from.class stands other came e)
      where
        own_alone : (side : Side) → Has sides side → side.class.0 < length classes.specs → has_class (line_of classes side.class.0) side.class.0 ≡ true
            → (other : Relation) → Came mapped (line_of classes side.class.0) other → other.name ≡ side.spec.name → other ≡ own side
        own_alone side h less stands other (inl found) e =
            sym found.3 ∙ ap own (one_side side.class.0 less found.0 side found.1 h found.2 stands (ap (λ (r : Relation). r.name) found.3 ∙ e))
        own_alone side h less stands other (inr found) e =
            not_taken side.class.0 less found.0 side found.1 found.2 found.3 h
            (or_here (has_class (line_of classes side.class.0) side.class.0 && same_name side.spec.name found.0.spec.partner) _
            (and_both (has_class (line_of classes side.class.0) side.class.0) (same_name side.spec.name found.0.spec.partner) stands
            (named_alike side.spec.name found.0.spec.partner (sym (ap (λ (r : Relation). r.name) found.4 ∙ e)))))

    pub back_apart : (class : ClassId) → class.0 < length classes.specs → (side : Side) → Has sides side → side.spec.backref ≡ true → is_target_in side.target (line_of classes class.0) ≡ true
        → (other : Side) → Has sides other → other.spec.backref ≡ true → is_target_in other.target (line_of classes class.0) ≡ true → other.spec.partner ≡ side.spec.partner
        → (b : Bool) → same_side side other ≡ b → other ≡ side
    back_apart class less side h backref inside other g backs within e true same =
        let from = side_from side h in
        let line : List ClassId = line_of classes side.class.0 in
        let stands : has_class line side.class.0 ≡ true = has_class_from line side.class side.class.0 (own_line side.class from.class) refl in
        let classed : side.class ≡ other.class = same_class side.class other.class (and_left (side.class.0 == other.class.0) (same_name side.spec.name other.spec.name) same) in
        one_side side.class.0 from.class other side g h
        (ap (λ (c : ClassId). has_class line c.0) (sym classed) ∙ stands) stands
        (sym (same_names side.spec.name other.spec.name (and_right (side.class.0 == other.class.0) (same_name side.spec.name other.spec.name) same)))
    back_apart class less side h backref inside other g backs within e false same =
        not_taken class.0 less side other h backref inside g
        (or_there (has_class (line_of classes class.0) other.class.0 && same_name other.spec.name side.spec.partner) _
        (four other.spec.backref (is_target_in other.target (line_of classes class.0)) (same_name other.spec.partner side.spec.partner) (same_side side other) backs within
        (named_alike other.spec.partner side.spec.partner e) same))
      where
        four : (a b c d : Bool) → a ≡ true → b ≡ true → c ≡ true → d ≡ false → (a && b && c && not d) ≡ true
        four true true true false p q r s = refl
        four true true true true p q r s = absurd cc
        four true true false d p q r s = absurd cc
        four true false c d p q r s = absurd cc
        four false b c d p q r s = absurd cc

    back_alone : (class : ClassId) → class.0 < length classes.specs → (side : Side) → Has sides side → side.spec.backref ≡ true → is_target_in side.target (line_of classes class.0) ≡ true
        → (other : Relation) → Came mapped (line_of classes class.0) other → other.name ≡ side.spec.partner → other ≡ back side
    back_alone class less side h backref inside other (inl found) e =
        not_taken class.0 less side found.0 h backref inside found.1
        (or_here (has_class (line_of classes class.0) found.0.class.0 && same_name found.0.spec.name side.spec.partner) _
        (and_both (has_class (line_of classes class.0) found.0.class.0) (same_name found.0.spec.name side.spec.partner) found.2
        (named_alike found.0.spec.name side.spec.partner (ap (λ (r : Relation). r.name) found.3 ∙ e))))
    back_alone class less side h backref inside other (inr found) e =
        sym found.4 ∙ ap back (back_apart class less side h backref inside found.0 found.1 found.2 found.3 (ap (λ (r : Relation). r.name) found.4 ∙ e) (same_side side found.0) refl)

    -- a backref stands at its name's place in the list of the target
    pub found_back : (side : Side) → Has sides side → side.spec.backref ≡ true → (class : ClassId) → side.target ≡ Some class → at_name class side.spec.partner ≡ Some (back side)
    found_back side h backref class e =
        let less = target_declared side h class e in
        let line : List ClassId = line_of classes class.0 in
        let here : Has line class = own_line class less in
        let inside : is_target_in side.target line ≡ true = target_in line side.target class (is_class_of side.target class e) here in
        let kept = has_filter (linking.makes_back class) sides side h (and_both side.spec.backref (is_class side.target class) backref (is_class_of side.target class e)) in
        let has = has_flat (linking.relations_at tables classes sides names) line class (back side) here
        (has_right (map own (filter (linking.is_own class) sides)) (map back (filter (linking.makes_back class) sides)) (back side) (has_map back (filter (linking.makes_back class) sides) side kept)) in
        ap (λ (list : List Relation). slice_get list (place_in names class side.spec.partner).0) (list_for class less)
        ∙ found_in class less side.spec.partner (back side) has refl (λ other came e. back_alone class less side h backref inside other came e)

    -- ---- partners

    -- two that name each other
    pub own_partners : (side other : Side) → Has sides side → Has sides other → IsDeclared side other → ArePartners mapped (own side) (own other)
    own_partners side other h g is = record {
      there =
          ap (λ (o : Option ClassId). at_name (class_or o side.class) side.spec.partner) is.target
          ∙ ap (at_name other.class) (sym is.name) ∙ found_own other g;
      back =
          ap (λ (o : Option ClassId). at_name (class_or o other.class) other.spec.partner) is.back
          ∙ ap (at_name side.class) is.partner ∙ found_own side h;
      class = ap (λ (o : Option ClassId). class_or o side.class) (sym is.target);
      target = ap (λ (o : Option ClassId). class_or o other.class) is.back;
    }

    -- a relationship and the backref that it makes
    pub back_partners : (side : Side) → Has sides side → side.spec.backref ≡ true → (class : ClassId) → side.target ≡ Some class → ArePartners mapped (own side) (back side)
    back_partners side h backref class e = record {
      there = ap (λ (o : Option ClassId). at_name (class_or o side.class) side.spec.partner) e ∙ found_back side h backref class e;
      back = found_own side h;
      class = refl;
      target = refl;
    }

    partner_by : (side : Side) → Has sides side → (backref : Bool) → side.spec.backref ≡ backref → (class : ClassId) → side.target ≡ Some class → is_paired sides side ≡ true
        → (other : Relation) × ArePartners mapped (own side) other
    partner_by side h true is class e paired = (back side, back_partners side h is class e)
    partner_by side h false is class e paired =
        let some = some_of (is_partner side) sides (ap (λ (b : Bool). b || list_any (is_partner side) sides) (sym is) ∙ paired) in
        (own some.0, own_partners side some.0 h some.1 (declared_partner side some.0 some.2))

    -- each relationship has its partner
    pub has_partner : list_all (λ side. is_some side.target) sides ≡ true → list_all (is_paired sides) sides ≡ true → (line : List ClassId) (relation : Relation) → Came mapped line relation
        → (other : Relation) × ArePartners mapped relation other
    has_partner led paired line relation (inl found) =
        let target = some_is found.0.target (all_of (λ side. is_some side.target) sides found.0 led found.1) in
        let partner = partner_by found.0 found.1 found.0.spec.backref refl target.0 target.1 (all_of (is_paired sides) sides found.0 paired found.1) in
        subst (λ (r : Relation). (other : Relation) × ArePartners mapped r other) found.3 partner
    has_partner led paired line relation (inr found) =
        let target = some_is found.0.target (all_of (λ side. is_some side.target) sides found.0 led found.1) in
        subst (λ (r : Relation). (other : Relation) × ArePartners mapped r other) found.4
        (own found.0, swapped_partners mapped (own found.0) (back found.0) (back_partners found.0 found.1 found.2 target.0 target.1))
