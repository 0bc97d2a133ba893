-- The pairs of a valid mapping: a foreign key serves one.
use Rattle.std.proofs.Common.{◌≡◌, ◌⊎◌, inl, inr, ℕ, ◌<◌, Bool, true, false, not, ◌&&◌, ◌||◌, List, [], ◌∷◌, ◌∙◌, length, get_or, ap, sym, refl, subst, Option, None, Some, is_some, is_none, ◌==◌, if◌then◌else◌}
use Rattle.std.specs.Prelude.{find, slice_get}
use Rattle.std.specs.List.{All, list_any, position}
use Rattle.std.proofs.lemmas.Bool.{eq-eqb, eqb-true, not-true}
use Rattle.std.specs.Option.{option_map}
use Rattle.std.proofs.lemmas.List.Quantifiers.{position-Some}
use Rattle.std.proofs.lemmas.List.Elements.{All-from_recursion}
use Rattle.std.proofs.lemmas.Option.{same_Some}
use Rattle.base_core.specs.declared.ids.ClassId.{ClassId}
use Rattle.base_core.specs.declared.ids.RelNo.{RelNo}
use Rattle.base_core.specs.declared.ids.TableId.{TableId}
use Rattle.schema_core.specs.declared.table.TableSpec.{TableSpec}
use Rattle.schema_core.specs.Catalog.{no_table, same_name}
use Rattle.schema_core.specs.Declaration.{some_two}
use Rattle.class_types.specs.declared.mapped.Relation.{Relation}
use Rattle.class_layouts.specs.declared.classes.Classes.{Classes}
use Rattle.class_layouts.specs.Columns.{is_table, named_table}
use Rattle.class_layouts.specs.declared.layout.Layout.{Layout}
use Rattle.class_layouts.specs.Hierarchy.{has_class, line_of}
use Rattle.class_blocks.specs.declared.side.Side.{Side}
use Rattle.class_sides.specs.Keys.{TableKey, allows, names_of, same_key}
use Rattle.class_sides.specs.Sides.{Ends, candidates, layout_at}
use Rattle.class_sides.specs.Pairs.{differ, fits, fits_mutual, is_of_target, is_partner, is_plain, is_served_by, join_of, leads_to, mutual_of, names_each_other, overlaps, same_secondary, shares}
use Rattle.class_sides.specs.Linking.{ends_on, far_key, far_or, key_or_none, near_key, near_or}
use Rattle.class_mapping.specs.Lines.{AreLines}
use Rattle.class_mapping.specs.Mapped.{IsClass, Mapped, partner_of, relations_of}
use Rattle.class_mapping.specs.Related.{AreApart, ArePartners, AreRelated, SharesKey, relation_at, share_key}
use Rattle.class_mapping.specs.Valid.{IsValid, covers, covers_both, holds_of, is_joined, is_paired, joins_ends}
use Rattle.class_mapping.proofs.Having.{Has, all_from, all_of, any_has, found_of, has_at, named_alike, none_of, some_of, true_false}
use Rattle.base_core.proofs.Tests.{or_first, or_then}
use Rattle.schema_core.proofs.Names.{same_names}
use Rattle.class_mapping.proofs.Lists.{and_both, and_every, and_left, and_right, or_left, or_right, and_three, three_parts}
use Rattle.class_mapping.proofs.RelatedLemmas.{Came, IsDeclared, back_in, back_partners, came, declared_partner, layouts_in, list_for, one_side as one_of, own_in, own_partners, side_from, sides_in}
use Rattle.class_mapping.proofs.RelatedJoins.{join_turned}
use Rattle.class_mapping.proofs.RelatedKeys.{both_covered, covered_found, each_related, find_has, found_ends, held, not_none, one_table, or_rest, plain_found, same_first, same_table, table_found, target_is}

-- ---- two of a list of which no two pass a test

two_apart : {A : Type 0} (test : A → A → Bool) (xs : List A) (x y : A) → some_two test xs ≡ false → Has xs x → Has xs y → (x ≡ y) ⊎ ((test y x ≡ false) ⊎ (test x y ≡ false))
two_apart test [] x y h g k = absurd g
two_apart test (z ∷ xs) x y h (inl p) (inl q) = inl (sym p ∙ q)
two_apart test (z ∷ xs) x y h (inl p) (inr k) =
    inr (inl (ap (λ a. test y a) (sym p) ∙ none_of (λ later. test later z) xs y (or_left (list_any (λ later. test later z) xs) (some_two test xs) h) k))
two_apart test (z ∷ xs) x y h (inr g) (inl q) =
    inr (inr (ap (λ a. test x a) (sym q) ∙ none_of (λ later. test later z) xs x (or_left (list_any (λ later. test later z) xs) (some_two test xs) h) g))
two_apart test (z ∷ xs) x y h (inr g) (inr k) = two_apart test xs x y (or_right (list_any (λ later. test later z) xs) (some_two test xs) h) g k

both_none : (one other : Option (List ℕ)) → is_none one ≡ true → is_none other ≡ true → same_secondary one other ≡ true
both_none None None h g = refl
both_none None (Some y) h g = absurd cc
both_none (Some x) other h g = absurd cc

same_keys : (one other : TableKey) → same_key one other ≡ true → one ≡ other
same_keys one other h =
    let table : one.0.0 ≡ other.0.0 = eqb-true one.0.0 other.0.0 (and_left (one.0.0 == other.0.0) (one.1 == other.1) h) in
    let number : one.1 ≡ other.1 = eqb-true one.1 other.1 (and_right (one.0.0 == other.0.0) (one.1 == other.1) h) in
    λ i. (record { 0 = table i }, number i)

key_itself : (key : TableKey) → same_key key key ≡ true
key_itself key = and_both (key.0.0 == key.0.0) (key.1 == key.1) (eq-eqb key.0.0 key.0.0 refl) (eq-eqb key.1 key.1 refl)

not_shared : (named shared : Bool) → (not named && shared) ≡ false → shared ≡ true → named ≡ true
not_shared true shared h g = refl
not_shared false true h g = absurd cc
not_shared false false h g = absurd cc

-- what two that name each other have
named_parts : {A : Type 0} (one two three four : Bool) → (not one && not two && three && four) ≡ true → (one ≡ false → two ≡ false → three ≡ true → A) → A
named_parts false false true true h f = f refl refl refl
named_parts false false true false h f = absurd cc
named_parts false false false four h f = absurd cc
named_parts false true three four h f = absurd cc
named_parts true two three four h f = absurd cc

is_none_some : {A B : Type 0} (o : Option A) (x : A) → o ≡ Some x → is_none o ≡ true → B
is_none_some None x e h = absurd cc
is_none_some (Some y) x e h = absurd cc

of_target_in : (classes : Classes) (o : Option ClassId) (target class : ClassId) → o ≡ Some target → is_of_target classes o class ≡ true → has_class (line_of classes target.0) class.0 ≡ true
of_target_in classes o target class e h = ap (λ (found : Option ClassId). is_of_target classes found class) (sym e) ∙ h

either_holds : (a b : Bool) → (a || b) ≡ true → (a ≡ true) ⊎ (b ≡ true)
either_holds true b h = inl refl
either_holds false b h = inr h

pub none_some : {A B : Type 0} (o : Option A) → o ≡ None → is_some o ≡ true → B
none_some None e h = absurd cc
none_some (Some x) e h = absurd cc

placed_at : (o : Option ℕ) (table : TableId) → option_map (λ place. let t : TableId = record { 0 = place } in t) o ≡ Some table → o ≡ Some table.0
placed_at None table e = absurd cc
placed_at (Some n) table e = ap (λ (t : TableId). Some t.0) (same_Some (record { 0 = n }) table e)

-- two names of one table are one
one_named : (tables : List TableSpec) (one other : Option (List ℕ)) (table : TableId) → named_table tables one ≡ Some table → named_table tables other ≡ Some table → same_secondary one other ≡ true
one_named tables None other table h g = absurd cc
one_named tables (Some one) None table h g = absurd cc
one_named tables (Some one) (Some other) table h g =
    let first = (position-Some (λ (spec : TableSpec). same_name spec.name one) tables table.0 no_table (placed_at (position (λ (spec : TableSpec). same_name spec.name one) tables) table h)).1 in
    let last = (position-Some (λ (spec : TableSpec). same_name spec.name other) tables table.0 no_table (placed_at (position (λ (spec : TableSpec). same_name spec.name other) tables) table g)).1 in
    named_alike one other (sym (same_names (get_or tables table.0 no_table).name one first) ∙ same_names (get_or tables table.0 no_table).name other last)

same_turned : (one other : Option (List ℕ)) → same_secondary one other ≡ true → is_none one ≡ true → same_secondary other one ≡ true
same_turned None None h g = refl
same_turned None (Some y) h g = absurd cc
same_turned (Some x) other h g = absurd cc

differ_turned : (one other : Bool) → differ one other ≡ true → differ other one ≡ true
differ_turned true true h = absurd cc
differ_turned true false h = refl
differ_turned false true h = refl
differ_turned false false h = absurd cc

-- a side is the declared partner of its own
turned_declared : (side other : Side) → side.spec.backref ≡ false → is_plain side ≡ true → IsDeclared side other → differ side.spec.many other.spec.many ≡ true → IsDeclared other side
turned_declared side other not_back plain is turned = record {
  target = is.back;
  back = is.target;
  name = sym is.partner;
  partner = sym is.name;
  declared = ap not not_back;
  secondary = same_turned side.spec.secondary other.spec.secondary is.secondary plain;
  opposite =
      ap (λ (b : Bool). if b then differ other.spec.many side.spec.many else other.spec.many && side.spec.many) (sym (same_first side.spec.secondary other.spec.secondary is.secondary) ∙ plain)
      ∙ differ_turned side.spec.many other.spec.many turned;
}

module _ (mapped : Mapped) (lined : length mapped.classes.lines ≡ length mapped.classes.specs) (lines : AreLines mapped.schema.tables mapped.classes)
    (valid : IsValid mapped.schema.tables mapped.classes (layouts_in mapped) (sides_in mapped)) where
  abbrev tables : List TableSpec
  tables = mapped.schema.tables

  abbrev classes : Classes
  classes = mapped.classes

  abbrev layouts : List Layout
  layouts = layouts_in mapped

  abbrev sides : List Side
  sides = sides_in mapped

  abbrev join : Side → TableKey
  join side = key_or_none (join_of tables classes sides side)

  -- a relationship without a secondary table is of such a side, and has its key
  record IsOf (relation : Relation) : Type 0 where
    pub side : Side
    pub has : Has sides side
    pub plain : is_plain side ≡ true
    pub key : relation.foreign ≡ join side
    pub is : (own_in mapped side ≡ relation) ⊎ ((side.spec.backref ≡ true) × (back_in mapped side ≡ relation))

  own_of : (relation : Relation) (side : Side) → Has sides side → own_in mapped side ≡ relation → is_none relation.far ≡ true → (plain : Bool) → is_plain side ≡ plain → IsOf relation
  own_of relation side h is near true plain = record {
    side = side;
    has = h;
    plain = plain;
    key = ap (λ (r : Relation). r.foreign) (sym is) ∙ ap (λ (ends : Option Ends). near_or ends (join side)) (plain_found mapped lined lines valid side h plain (ends_on sides side) (found_ends mapped lined lines valid side h));
    is = inl is;
  }
  own_of relation side h is near false many =
      let keys = covered_found mapped lined lines valid side h many (ends_on sides side) (found_ends mapped lined lines valid side h) in
      is_none_some relation.far keys.0.1 (ap (λ (r : Relation). r.far) (sym is) ∙ ap far_key keys.1) near

  back_of : (relation : Relation) (side : Side) → Has sides side → side.spec.backref ≡ true → back_in mapped side ≡ relation → is_none relation.far ≡ true → (plain : Bool) → is_plain side ≡ plain → IsOf relation
  back_of relation side h backref is near true plain = record {
    side = side;
    has = h;
    plain = plain;
    key = ap (λ (r : Relation). r.foreign) (sym is) ∙ ap (λ (ends : Option Ends). far_or ends (join side)) (plain_found mapped lined lines valid side h plain (ends_on sides side) (found_ends mapped lined lines valid side h));
    is = inr (backref, is);
  }
  back_of relation side h backref is near false many =
      let keys = covered_found mapped lined lines valid side h many (ends_on sides side) (found_ends mapped lined lines valid side h) in
      is_none_some relation.far keys.0.0 (ap (λ (r : Relation). r.far) (sym is) ∙ ap near_key keys.1) near

  is_of : (line : List ClassId) (relation : Relation) → Came mapped line relation → is_none relation.far ≡ true → IsOf relation
  is_of line relation (inl found) near = own_of relation found.0 found.1 found.3 near (is_plain found.0) refl
  is_of line relation (inr found) near = back_of relation found.0 found.1 found.2 found.4 near (is_plain found.0) refl

  -- two sides of one key share it
  shares_key : (one later : Side) → Has sides one → Has sides later → is_plain one ≡ true → is_plain later ≡ true → join one ≡ join later → shares tables classes sides one later ≡ true
  shares_key one later h g plain flat same =
      let first = held (joins_ends tables layouts one) (join_of tables classes sides one) (or_rest (not (is_plain one)) (holds_of (joins_ends tables layouts one) (join_of tables classes sides one)) (all_of (is_joined tables classes layouts sides) sides one valid.joined h) (ap not plain)) in
      let second = held (joins_ends tables layouts later) (join_of tables classes sides later) (or_rest (not (is_plain later)) (holds_of (joins_ends tables layouts later) (join_of tables classes sides later)) (all_of (is_joined tables classes layouts sides) sides later valid.joined g) (ap not flat)) in
      let key : second.0 ≡ first.0 = sym (ap key_or_none second.1) ∙ sym same ∙ ap key_or_none first.1 in
      let found = find_has (fits tables classes sides later) later.candidates second.0 second.1 in
      and_both (same_secondary one.spec.secondary later.spec.secondary) (is_some one.spec.secondary || is_served_by tables classes sides (join_of tables classes sides one) later)
      (both_none one.spec.secondary later.spec.secondary plain flat)
      (or_then (is_some one.spec.secondary) (is_served_by tables classes sides (join_of tables classes sides one) later)
      (ap (λ (o : Option TableKey). is_served_by tables classes sides o later) first.1
      ∙ any_has (λ key. same_key key first.0 && fits tables classes sides later key) later.candidates second.0 found.0
      (and_both (same_key second.0 first.0) (fits tables classes sides later second.0) (ap (λ (k : TableKey). same_key k first.0) key ∙ key_itself first.0) found.1)))

  -- one that a side and it name each other is its declared partner
  named_is : (one later partner : Side) → Has sides later → Has sides partner → IsDeclared one partner → leads_to classes one later ≡ true → later ≡ partner
  named_is one later partner g k is leads =
      let class = (side_from mapped lined lines partner k).class in
      let within : partner.class.0 < length classes.lines = rw lined class in
      let inside : has_class (line_of classes partner.class.0) later.class.0 ≡ true = of_target_in classes one.target partner.class later.class is.target (and_left (is_of_target classes one.target later.class) (same_name later.spec.name one.spec.partner) leads) in
      let name : later.spec.name ≡ partner.spec.name = same_names later.spec.name one.spec.partner (and_right (is_of_target classes one.target later.class) (same_name later.spec.name one.spec.partner) leads) ∙ sym is.name in
      one_of mapped lined lines partner.class.0 class later partner g k inside (lines.own partner.class.0 within) name

  partner_of_side : (side : Side) → Has sides side → side.spec.backref ≡ false → (other : Side) × Has sides other × (is_partner side other ≡ true)
  partner_of_side side h not_back = some_of (is_partner side) sides (ap (λ (b : Bool). b || list_any (is_partner side) sides) (sym not_back) ∙ all_of (is_paired sides) sides side valid.paired h)

  -- two sides that name each other are partners
  named_partners : (one later : Side) → Has sides one → Has sides later → names_each_other classes one later ≡ true → (one.spec.backref ≡ false) × (later.spec.backref ≡ false) × ArePartners mapped (own_in mapped one) (own_in mapped later)
  named_partners one later h g named =
      named_parts one.spec.backref later.spec.backref (leads_to classes one later) (leads_to classes later one) named
      (λ not_one not_later leads.
      let some = partner_of_side one h not_one in
      let is = declared_partner one some.0 some.2 in (
        not_one,
        not_later,
        subst (λ (s : Side). ArePartners mapped (own_in mapped one) (own_in mapped s)) (sym (named_is one later some.0 g some.1 is leads)) (own_partners mapped lined lines valid.differing one some.0 h some.1 is),
      ))

  abbrev Apart : Relation → Relation → Type 0
  Apart relation other = (other ≡ relation) ⊎ (partner_of mapped relation ≡ Some other)

  one_side_apart : (relation other : Relation) (side : Side) → Has sides side
      → (own_in mapped side ≡ relation) ⊎ ((side.spec.backref ≡ true) × (back_in mapped side ≡ relation))
      → (own_in mapped side ≡ other) ⊎ ((side.spec.backref ≡ true) × (back_in mapped side ≡ other)) → Apart relation other
  one_side_apart relation other side h (inl p) (inl q) = inl (sym q ∙ p)
  one_side_apart relation other side h (inl p) (inr q) =
      inr (ap (partner_of mapped) (sym p) ∙ (back_partners mapped lined lines valid.differing side h q.0 _ (target_is mapped lined lines valid side h)).there ∙ ap (λ (r : Relation). Some r) q.1)
  one_side_apart relation other side h (inr p) (inl q) =
      inr (ap (partner_of mapped) (sym p.1) ∙ (back_partners mapped lined lines valid.differing side h p.0 _ (target_is mapped lined lines valid side h)).back ∙ ap (λ (r : Relation). Some r) q)
  one_side_apart relation other side h (inr p) (inr q) = inl (sym q.1 ∙ p.1)

  own_only : (relation : Relation) (side : Side) → side.spec.backref ≡ false → (own_in mapped side ≡ relation) ⊎ ((side.spec.backref ≡ true) × (back_in mapped side ≡ relation)) → own_in mapped side ≡ relation
  own_only relation side not_back (inl p) = p
  own_only relation side not_back (inr p) = true_false side.spec.backref p.0 not_back

  abbrev IsSideOf : Side → Relation → Type 0
  IsSideOf side relation = (own_in mapped side ≡ relation) ⊎ ((side.spec.backref ≡ true) × (back_in mapped side ≡ relation))

  two_sides_apart : (relation other : Relation) (one two : Side) → Has sides one → Has sides two → IsSideOf one relation → IsSideOf two other
      → shares tables classes sides one two ≡ true → shares tables classes sides two one ≡ true
      → (one ≡ two) ⊎ ((overlaps tables classes sides two one ≡ false) ⊎ (overlaps tables classes sides one two ≡ false)) → Apart relation other
  two_sides_apart relation other one two h g is was first last (inl e) =
      one_side_apart relation other one h is (subst (λ (s : Side). IsSideOf s other) (sym e) was)
  two_sides_apart relation other one two h g is was first last (inr (inl bare)) =
      let are = named_partners one two h g (not_shared (names_each_other classes one two) (shares tables classes sides one two) bare first) in
      inr (ap (partner_of mapped) (sym (own_only relation one are.0 is)) ∙ are.2.there ∙ ap (λ (r : Relation). Some r) (own_only other two are.1 was))
  two_sides_apart relation other one two h g is was first last (inr (inr bare)) =
      let are = named_partners two one g h (not_shared (names_each_other classes two one) (shares tables classes sides two one) bare last) in
      inr (ap (partner_of mapped) (sym (own_only relation one are.1 is)) ∙ are.2.back ∙ ap (λ (r : Relation). Some r) (own_only other two are.0 was))

  -- a relationship over a secondary table is of a side that names the table
  record IsAcross (relation : Relation) : Type 0 where
    pub side : Side
    pub has : Has sides side
    pub many : is_plain side ≡ false
    pub table : is_table (named_table tables side.spec.secondary) relation.foreign.0 ≡ true
    pub is : IsSideOf side relation

  own_across : (relation : Relation) (side : Side) → Has sides side → own_in mapped side ≡ relation → is_some relation.far ≡ true → (plain : Bool) → is_plain side ≡ plain → IsAcross relation
  own_across relation side h is far true plain =
      let none = plain_found mapped lined lines valid side h plain (ends_on sides side) (found_ends mapped lined lines valid side h) in
      none_some relation.far (ap (λ (r : Relation). r.far) (sym is) ∙ ap far_key none) far
  own_across relation side h is far false many =
      let keys = covered_found mapped lined lines valid side h many (ends_on sides side) (found_ends mapped lined lines valid side h) in
      let foreign : relation.foreign ≡ keys.0.0 = ap (λ (r : Relation). r.foreign) (sym is) ∙ ap (λ (ends : Option Ends). near_or ends (join side)) keys.1 in
      record {
        side = side;
        has = h;
        many = many;
        table = ap (λ (key : TableKey). is_table (named_table tables side.spec.secondary) key.0) foreign ∙ named_first side keys.0 keys.2;
        is = inl is;
      }
    where
      named_first : (side : Side) (keys : Ends) → covers tables layouts side keys ≡ true → is_table (named_table tables side.spec.secondary) keys.0.0 ≡ true
      named_first side keys h = and_left (is_table (named_table tables side.spec.secondary) keys.0.0) (covers_both tables (layout_at layouts (Some side.class)) (layout_at layouts side.target) keys) h

  back_across : (relation : Relation) (side : Side) → Has sides side → side.spec.backref ≡ true → back_in mapped side ≡ relation → is_some relation.far ≡ true → (plain : Bool) → is_plain side ≡ plain → IsAcross relation
  back_across relation side h backref is far true plain =
      let none = plain_found mapped lined lines valid side h plain (ends_on sides side) (found_ends mapped lined lines valid side h) in
      none_some relation.far (ap (λ (r : Relation). r.far) (sym is) ∙ ap near_key none) far
  back_across relation side h backref is far false many =
      let keys = covered_found mapped lined lines valid side h many (ends_on sides side) (found_ends mapped lined lines valid side h) in
      let foreign : relation.foreign ≡ keys.0.1 = ap (λ (r : Relation). r.foreign) (sym is) ∙ ap (λ (ends : Option Ends). far_or ends (join side)) keys.1 in
      record {
        side = side;
        has = h;
        many = many;
        table = ap (λ (key : TableKey). is_table (named_table tables side.spec.secondary) key.0) foreign ∙ named_second side keys.0 keys.2;
        is = inr (backref, is);
      }
    where
      named_second : (side : Side) (keys : Ends) → covers tables layouts side keys ≡ true → is_table (named_table tables side.spec.secondary) keys.1.0 ≡ true
      named_second side keys h =
          ap (λ (table : TableId). is_table (named_table tables side.spec.secondary) table)
          (sym (one_table tables (layout_at layouts (Some side.class)) (layout_at layouts side.target) keys (both_covered mapped lined lines valid side keys h)))
          ∙ and_left (is_table (named_table tables side.spec.secondary) keys.0.0) (covers_both tables (layout_at layouts (Some side.class)) (layout_at layouts side.target) keys) h

  is_across : (line : List ClassId) (relation : Relation) → Came mapped line relation → is_some relation.far ≡ true → IsAcross relation
  is_across line relation (inl found) far = own_across relation found.0 found.1 found.3 far (is_plain found.0) refl
  is_across line relation (inr found) far = back_across relation found.0 found.1 found.2 found.4 far (is_plain found.0) refl

  shares_table : (one two : Side) → same_secondary one.spec.secondary two.spec.secondary ≡ true → is_plain one ≡ false → shares tables classes sides one two ≡ true
  shares_table one two same many =
      and_both (same_secondary one.spec.secondary two.spec.secondary) (is_some one.spec.secondary || is_served_by tables classes sides (join_of tables classes sides one) two) same
      (or_first (is_some one.spec.secondary) (is_served_by tables classes sides (join_of tables classes sides one) two) (not_none one.spec.secondary many))

  keys_apart : (relation other : Relation) → IsOf relation → IsOf other → relation.foreign ≡ other.foreign → Apart relation other
  keys_apart relation other first last key =
      let same : join first.side ≡ join last.side = sym first.key ∙ key ∙ last.key in
      two_sides_apart relation other first.side last.side first.has last.has first.is last.is
      (shares_key first.side last.side first.has last.has first.plain last.plain same)
      (shares_key last.side first.side last.has first.has last.plain first.plain (sym same))
      (two_apart (overlaps tables classes sides) sides first.side last.side valid.apart first.has last.has)

  tables_apart : (relation other : Relation) → IsAcross relation → IsAcross other → relation.foreign.0 ≡ other.foreign.0 → Apart relation other
  tables_apart relation other first last table =
      let one = table_found (named_table tables first.side.spec.secondary) relation.foreign.0 first.table ∙ ap (λ (t : TableId). Some t) table in
      let two = table_found (named_table tables last.side.spec.secondary) other.foreign.0 last.table in
      two_sides_apart relation other first.side last.side first.has last.has first.is last.is
      (shares_table first.side last.side (one_named tables first.side.spec.secondary last.side.spec.secondary other.foreign.0 one two) first.many)
      (shares_table last.side first.side (one_named tables last.side.spec.secondary first.side.spec.secondary other.foreign.0 two one) last.many)
      (two_apart (overlaps tables classes sides) sides first.side last.side valid.apart first.has last.has)

  either_apart : (relation other : Relation) (one two : List ClassId) → Came mapped one relation → Came mapped two other
      → ((is_none relation.far && is_none other.far && same_key relation.foreign other.foreign) ≡ true) ⊎ ((is_some relation.far && is_some other.far && (relation.foreign.0.0 == other.foreign.0.0)) ≡ true) → Apart relation other
  either_apart relation other one two first last (inl h) =
      three_parts (is_none relation.far) (is_none other.far) (same_key relation.foreign other.foreign) h
      (λ near close shared. keys_apart relation other (is_of one relation first near) (is_of two other last close) (same_keys relation.foreign other.foreign shared))
  either_apart relation other one two first last (inr h) =
      three_parts (is_some relation.far) (is_some other.far) (relation.foreign.0.0 == other.foreign.0.0) h
      (λ far away shared. tables_apart relation other (is_across one relation first far) (is_across two other last away) (same_table relation.foreign.0 other.foreign.0 shared))

  came_from : (class : ClassId) (place : RelNo) (relation : Relation) → IsClass mapped class → relation_at mapped class place ≡ Some relation → Came mapped (line_of classes class.0) relation
  came_from class place relation less here =
      came mapped lined lines (line_of classes class.0) relation
      (has_at _ place.0 relation (ap (λ (list : List Relation). slice_get list place.0) (sym (list_for mapped lined lines class less)) ∙ here))

  pub are_apart : AreApart mapped
  are_apart class place relation less here second next other within there one =
      either_apart relation other (line_of classes class.0) (line_of classes second.0) (came_from class place relation less here) (came_from second next other within there)
      (either_holds (is_none relation.far && is_none other.far && same_key relation.foreign other.foreign) (is_some relation.far && is_some other.far && (relation.foreign.0.0 == other.foreign.0.0)) one)

  -- ---- the key of two partners

  leads_there : (side other : Side) → Has sides other → side.target ≡ Some other.class → other.spec.name ≡ side.spec.partner → leads_to classes side other ≡ true
  leads_there side other g target name =
      let within : other.class.0 < length classes.lines = rw lined (side_from mapped lined lines other g).class in
      and_both (is_of_target classes side.target other.class) (same_name other.spec.name side.spec.partner)
      (ap (λ (o : Option ClassId). is_of_target classes o other.class) target ∙ lines.own other.class.0 within)
      (named_alike other.spec.name side.spec.partner name)

  -- the one that a side and it name each other
  mutual_is : (side other : Side) → Has sides side → Has sides other → side.spec.backref ≡ false → IsDeclared side other → mutual_of classes sides side ≡ Some other
  mutual_is side other h g not_back is =
      let named = and_every (not side.spec.backref) (not other.spec.backref) (leads_to classes side other) (leads_to classes other side)
      (ap not not_back) is.declared (leads_there side other g is.target is.name) (leads_there other side h is.back (sym is.partner)) in
      let found = found_of (names_each_other classes side) sides (any_has (names_each_other classes side) sides other g named) in
      named_parts side.spec.backref found.0.spec.backref (leads_to classes side found.0) (leads_to classes found.0 side) found.3
      (λ not_one not_later leads. found.1 ∙ ap (λ (s : Side). Some s) (named_is side found.0 other found.2 g is leads))

  join_by : (side : Side) → Has sides side → (other : Side) → mutual_of classes sides side ≡ Some other
      → join_of tables classes sides side
      ≡ find (λ key. allows other.spec.using (names_of tables key))
      (if side.spec.many then candidates tables side.spec.using (layout_at layouts side.target) (layout_at layouts (Some side.class)) else candidates tables side.spec.using (layout_at layouts (Some side.class)) (layout_at layouts side.target))
  join_by side h other found =
      let is = (side_from mapped lined lines side h).is in
      ap (λ (o : Option Side). find (fits_mutual tables o) side.candidates) found
      ∙ ap (λ (s : Side). find (fits_mutual tables (Some other)) s.candidates) is
      ∙ ap (λ (s : Side). find (fits_mutual tables (Some other)) (if side.spec.many then candidates tables side.spec.using (layout_at layouts s.target) (layout_at layouts (Some side.class)) else candidates tables side.spec.using (layout_at layouts (Some side.class)) (layout_at layouts s.target))) (sym is)

  one_join_of : (side other : Side) → Has sides side → Has sides other → side.spec.backref ≡ false → IsDeclared side other → IsDeclared other side → differ side.spec.many other.spec.many ≡ true
      → join_of tables classes sides side ≡ join_of tables classes sides other
  one_join_of side other h g not_back is back turned =
      join_by side h other (mutual_is side other h g not_back is)
      ∙ join_turned tables side.spec.using other.spec.using side.spec.many other.spec.many (layout_at layouts (Some side.class)) (layout_at layouts side.target) (layout_at layouts (Some other.class)) (layout_at layouts other.target)
      (ap (layout_at layouts) is.target) (ap (layout_at layouts) (sym is.back)) turned
      ∙ sym (join_by other g side (mutual_is other side g h (not-true other.spec.backref is.declared) back))

  own_key : (side : Side) → Has sides side → is_plain side ≡ true → (is_none (own_in mapped side).far ≡ true) × ((own_in mapped side).foreign ≡ join side)
  own_key side h plain =
      let none = plain_found mapped lined lines valid side h plain (ends_on sides side) (found_ends mapped lined lines valid side h) in
      (ap (λ (ends : Option Ends). is_none (far_key ends)) none, ap (λ (ends : Option Ends). near_or ends (join side)) none)

  back_key : (side : Side) → Has sides side → is_plain side ≡ true → (is_none (back_in mapped side).far ≡ true) × ((back_in mapped side).foreign ≡ join side)
  back_key side h plain =
      let none = plain_found mapped lined lines valid side h plain (ends_on sides side) (found_ends mapped lined lines valid side h) in
      (ap (λ (ends : Option Ends). is_none (near_key ends)) none, ap (λ (ends : Option Ends). far_or ends (join side)) none)

  shared_by : (relation other : Relation) → is_none other.far ≡ true → relation.foreign ≡ other.foreign → differ relation.many other.many ≡ true → share_key relation other ≡ true
  shared_by relation other near same turned =
      or_then (is_some relation.far) (is_none other.far && same_key relation.foreign other.foreign && differ relation.many other.many)
      (and_three (is_none other.far) (same_key relation.foreign other.foreign) (differ relation.many other.many) near
      (ap (λ (key : TableKey). same_key key other.foreign) same ∙ key_itself other.foreign) turned)

  -- a relationship and the backref that it makes
  back_shares : (side : Side) → Has sides side → is_plain side ≡ true → (share_key (own_in mapped side) (back_in mapped side) ≡ true) × (share_key (back_in mapped side) (own_in mapped side) ≡ true)
  back_shares side h plain =
      let own = own_key side h plain in
      let back = back_key side h plain in (
        shared_by (own_in mapped side) (back_in mapped side) back.0 (own.1 ∙ sym back.1) (ap (λ (b : Bool). differ side.spec.many (not b || not side.spec.many)) plain ∙ turns side.spec.many),
        shared_by (back_in mapped side) (own_in mapped side) own.0 (back.1 ∙ sym own.1) (ap (λ (b : Bool). differ (not b || not side.spec.many) side.spec.many) plain ∙ turned_back side.spec.many),
      )
    where
      turns : (b : Bool) → differ b (not b) ≡ true
      turns true = refl
      turns false = refl

      turned_back : (b : Bool) → differ (not b) b ≡ true
      turned_back true = refl
      turned_back false = refl

  own_shares : (side other : Side) → Has sides side → Has sides other → side.spec.backref ≡ false → is_partner side other ≡ true → is_plain side ≡ true → share_key (own_in mapped side) (own_in mapped other) ≡ true
  own_shares side other h g not_back partner plain =
      let is = declared_partner side other partner in
      let flat : is_plain other ≡ true = sym (same_first side.spec.secondary other.spec.secondary is.secondary) ∙ plain in
      let turned : differ side.spec.many other.spec.many ≡ true = ap (λ (b : Bool). if b then differ side.spec.many other.spec.many else side.spec.many && other.spec.many) (sym plain) ∙ is.opposite in
      let own = own_key side h plain in
      let back = own_key other g flat in
      let joined : join side ≡ join other = ap key_or_none (one_join_of side other h g not_back is (turned_declared side other not_back plain is turned) turned) in
      shared_by (own_in mapped side) (own_in mapped other) back.0 (own.1 ∙ joined ∙ sym back.1) turned

  partner_same : (relation other found : Relation) → partner_of mapped relation ≡ Some found → partner_of mapped relation ≡ Some other → found ≡ other
  partner_same relation other found e h = same_Some found other (sym e ∙ h)

  shares_own : (side : Side) → Has sides side → is_plain side ≡ true → (backref : Bool) → side.spec.backref ≡ backref → SharesKey mapped (own_in mapped side)
  shares_own side h plain true backref other e =
      subst (λ (r : Relation). share_key (own_in mapped side) r ≡ true)
      (partner_same (own_in mapped side) other (back_in mapped side) (back_partners mapped lined lines valid.differing side h backref _ (target_is mapped lined lines valid side h)).there e)
      (back_shares side h plain).0
  shares_own side h plain false not_back other e =
      let some = partner_of_side side h not_back in
      subst (λ (r : Relation). share_key (own_in mapped side) r ≡ true)
      (partner_same (own_in mapped side) other (own_in mapped some.0) (own_partners mapped lined lines valid.differing side some.0 h some.1 (declared_partner side some.0 some.2)).there e)
      (own_shares side some.0 h some.1 not_back some.2 plain)

  shares_is : (relation : Relation) → IsOf relation → SharesKey mapped relation
  shares_is relation from = shares_by relation from.side from.has from.plain from.is
    where
      shares_by : (relation : Relation) (side : Side) → Has sides side → is_plain side ≡ true → (own_in mapped side ≡ relation) ⊎ ((side.spec.backref ≡ true) × (back_in mapped side ≡ relation)) → SharesKey mapped relation
      shares_by relation side h plain (inl is) = subst (SharesKey mapped) is (shares_own side h plain side.spec.backref refl)
      shares_by relation side h plain (inr is) =
          subst (SharesKey mapped) is.1
          (λ other e.
          subst (λ (r : Relation). share_key (back_in mapped side) r ≡ true)
          (partner_same (back_in mapped side) other (own_in mapped side) (back_partners mapped lined lines valid.differing side h is.0 _ (target_is mapped lined lines valid side h)).back e)
          (back_shares side h plain).1)

  pub shares_any : (line : List ClassId) (relation : Relation) → Came mapped line relation → (near : Bool) → is_none relation.far ≡ near → SharesKey mapped relation
  shares_any line relation came true near = shares_is relation (is_of line relation came near)
  shares_any line relation came false far = λ other e. or_first (is_some relation.far) (is_none other.far && same_key relation.foreign other.foreign && differ relation.many other.many) (not_none relation.far far)

  each_shares : (class : ClassId) → IsClass mapped class → All (SharesKey mapped) (relations_of mapped class)
  each_shares class less =
      subst (All (SharesKey mapped)) (sym (list_for mapped lined lines class less))
      (All-from_recursion (SharesKey mapped) _ (all_from (SharesKey mapped) _ (λ relation has. shares_any (line_of classes class.0) relation (came mapped lined lines (line_of classes class.0) relation has) (is_none relation.far) refl)))

  pub are_related : AreRelated mapped
  are_related = record { each = each_related mapped lined lines valid; shared = each_shares; apart = are_apart }
