-- The keys and the cascades of the relationships of a valid mapping.
use Rattle.std.proofs.Common.{◌≡◌, ◌⊎◌, inl, inr, ℕ, ◌<◌, Bool, true, false, cond, not, ◌&&◌, ◌||◌, List, [], ◌∷◌, ◌∙◌, length, ap, sym, refl, subst, Option, None, Some, is_some, is_none, ◌==◌, if◌then◌else◌}
use Rattle.std.specs.Prelude.{find, get_or}
use Rattle.std.specs.Option.{option_map}
use Rattle.std.specs.List.{All, position}
use Rattle.std.proofs.lemmas.Bool.{eq-eqb, eqb-true}
use Rattle.std.proofs.lemmas.List.Elements.{All-from_recursion}
use Rattle.std.proofs.lemmas.List.Quantifiers.{position-Some}
use Rattle.std.proofs.lemmas.Option.{same_Some}
use Rattle.base_core.specs.declared.ids.ClassId.{ClassId}
use Rattle.base_core.specs.declared.ids.TableId.{TableId}
use Rattle.schema_core.specs.declared.table.TableSpec.{TableSpec}
use Rattle.schema_core.specs.Catalog.{no_table, same_name}
use Rattle.schema_core.proofs.Names.{same_names}
use Rattle.class_types.specs.declared.declared.ClassSpec.{ClassSpec}
use Rattle.class_types.specs.declared.mapped.Relation.{Relation}
use Rattle.class_layouts.specs.declared.classes.Classes.{Classes}
use Rattle.class_layouts.specs.declared.layout.Layout.{Layout}
use Rattle.class_layouts.specs.Columns.{columns_in, is_table, named_table}
use Rattle.class_layouts.specs.Faults.{cascade_or_default, foreigns_in, is_bad_cascade, maps_name}
use Rattle.class_layouts.specs.Hierarchy.{has_class, line_of}
use Rattle.class_blocks.specs.declared.side.Side.{Side}
use Rattle.class_sides.specs.Keys.{TableKey}
use Rattle.class_sides.specs.Sides.{Ends, ends_in, is_all_keys, layout_at, target_of}
use Rattle.class_sides.specs.Pairs.{is_partner, is_plain, join_of, same_secondary, same_side}
use Rattle.class_sides.specs.Linking.{class_or, ends_from, ends_on, far_key, far_or, is_same_pair, key_or_none, near_key, near_or, swapped_ends}
use Rattle.class_mapping.specs.Lines.{AreLines}
use Rattle.class_mapping.specs.Mapped.{IsClass, Mapped, layout_of, relations_of}
use Rattle.class_mapping.specs.Related.{IsRelated, has_keys, is_unmapped, orphans_rightly}
use Rattle.class_mapping.specs.Valid.{IsValid, covers, covers_both, holds_of, is_covered, is_joined, joins, joins_ends, refers_to_class}
use Rattle.class_mapping.proofs.Having.{Has, all_from, all_of, none_of}
use Rattle.class_mapping.proofs.Lists.{and_both, and_every, and_left, and_right, none_is, some_is}
use Rattle.class_mapping.proofs.RelatedLemmas.{Came, IsDeclared, back_in, came, declared_partner, has_partner, layout_here, layouts_in, list_for, one_side as one_of, own_in, same_class, side_from, sides_in, target_declared}

-- ---- tests

pub held : {A : Type 0} (good : A → Bool) (o : Option A) → holds_of good o ≡ true → (x : A) × (o ≡ Some x) × (good x ≡ true)
held good None h = absurd cc
held good (Some x) h = (x, refl, h)

pub or_rest : (a b : Bool) → (a || b) ≡ true → a ≡ false → b ≡ true
or_rest true b h e = absurd cc
or_rest false b h e = h

pub same_first : (one other : Option (List ℕ)) → same_secondary one other ≡ true → is_none one ≡ is_none other
same_first None None h = refl
same_first None (Some other) h = absurd cc
same_first (Some one) None h = absurd cc
same_first (Some one) (Some other) h = refl

find_if : {A : Type 0} (test : A → Bool) (b : Bool) (y : A) (xs : List A) (x : A) → test y ≡ b → cond b (Some y) (find test xs) ≡ Some x → (find test xs ≡ Some x → Has xs x × (test x ≡ true)) → Has (y ∷ xs) x × (test x ≡ true)
find_if test true y xs x is h more = (inl (same_Some y x h), ap test (sym (same_Some y x h)) ∙ is)
find_if test false y xs x is h more = let rest = more h in (inr rest.0, rest.1)

pub find_has : {A : Type 0} (test : A → Bool) (xs : List A) (x : A) → find test xs ≡ Some x → Has xs x × (test x ≡ true)
find_has test [] x h = absurd cc
find_has test (y ∷ xs) x h = find_if test (test y) y xs x refl h (find_has test xs x)

-- delete-orphan, with its bars
orphan_plain : (orphan delete many : Bool) → (orphan && (not delete || not many || false)) ≡ false → (not orphan || (delete && many && true)) ≡ true
orphan_plain true true true h = refl
orphan_plain true true false h = absurd cc
orphan_plain true false many h = absurd cc
orphan_plain false delete many h = refl

orphan_many : (orphan delete many rest : Bool) → (orphan && (not delete || not many || true)) ≡ false → (not orphan || rest) ≡ true
orphan_many false delete many rest h = refl
orphan_many true true true rest h = absurd cc
orphan_many true true false rest h = absurd cc
orphan_many true false many rest h = absurd cc

pub not_none : {A : Type 0} (o : Option A) → is_none o ≡ false → is_some o ≡ true
not_none None h = absurd cc
not_none (Some x) h = refl

none_not : {A : Type 0} (o : Option A) → is_none o ≡ true → is_some o ≡ false
none_not None h = refl
none_not (Some x) h = absurd cc

-- ---- the two keys, as the other side sees them

pub same_table : (one other : TableId) → (one.0 == other.0) ≡ true → one ≡ other
same_table one other h = ap (λ (n : ℕ). let table : TableId = record { 0 = n } in table) (eqb-true one.0 other.0 h)

pub one_table : (tables : List TableSpec) (near far : Option Layout) (ends : Ends) → covers_both tables near far ends ≡ true → ends.0.0 ≡ ends.1.0
one_table tables near far ends h =
    let a : Bool = ends.0.0.0 == ends.1.0.0 in
    let b : Bool = is_all_keys (columns_in tables ends.0.0) (foreigns_in tables ends.0.0) in
    let c : Bool = refers_to_class tables near ends.0 in
    same_table ends.0.0 ends.1.0 (and_left a b (and_left (a && b) c (and_left (a && b && c) (refers_to_class tables far ends.1) h)))

same_secondaries : (one other : Option (List ℕ)) → same_secondary one other ≡ true → one ≡ other
same_secondaries None None h = refl
same_secondaries None (Some other) h = absurd cc
same_secondaries (Some one) None h = absurd cc
same_secondaries (Some one) (Some other) h = ap (λ (name : List ℕ). Some name) (same_names one other h)

covers_swapped : (tables : List TableSpec) (near far : Option Layout) (one two : TableKey) → covers_both tables near far (one, two) ≡ true → covers_both tables far near (two, one) ≡ true
covers_swapped tables near far one two h =
    let a : Bool = one.0.0 == two.0.0 in
    let b : Bool = is_all_keys (columns_in tables one.0) (foreigns_in tables one.0) in
    let c : Bool = refers_to_class tables near one in
    let d : Bool = refers_to_class tables far two in
    four a b c d h
    (λ p q r s.
    let same = same_table one.0 two.0 p in
    four_both (eq-eqb two.0.0 one.0.0 (ap (λ (t : TableId). t.0) (sym same)))
    (ap (λ (t : TableId). is_all_keys (columns_in tables t) (foreigns_in tables t)) (sym same) ∙ q) s r)
  where
    four : {A : Type 0} (a b c d : Bool) → (a && b && c && d) ≡ true → (a ≡ true → b ≡ true → c ≡ true → d ≡ true → A) → A
    four true true true true h f = f refl refl refl refl
    four true true true false h f = absurd cc
    four true true false d h f = absurd cc
    four true false c d h f = absurd cc
    four false b c d h f = absurd cc

    four_both : {a b c d : Bool} → a ≡ true → b ≡ true → c ≡ true → d ≡ true → (a && b && c && d) ≡ true
    four_both {a = a} {b = b} {c = c} {d = d} p q r s = and_every a b c d p q r s

no_ends : (tables : List TableSpec) (specs : List ClassSpec) (secondary : Option (List ℕ)) (near far : Option Layout) → secondary ≡ None
    → (if maps_name specs secondary then None else ends_in tables (named_table tables secondary) near far) ≡ None
no_ends tables specs secondary near far e =
    ap (λ (name : Option (List ℕ)). if maps_name specs name then None else ends_in tables (named_table tables name) near far) e

-- ---- a secondary table is the one of its name, which no class has

name_found : (tables : List TableSpec) (name : List ℕ) (o : Option ℕ) (table : TableId) → position (λ spec. same_name spec.name name) tables ≡ o
    → option_map (λ place. let found : TableId = record { 0 = place } in found) o ≡ Some table → name ≡ (get_or tables table.0 no_table).name
name_found tables name None table e h = absurd cc
name_found tables name (Some place) table e h =
    let same : place ≡ table.0 = ap (λ (found : TableId). found.0) (same_Some (record { 0 = place }) table h) in
    let there = position-Some (λ (spec : TableSpec). same_name spec.name name) tables place no_table e in
    sym (same_names (get_or tables place no_table).name name there.1) ∙ ap (λ (n : ℕ). (get_or tables n no_table).name) same

pub named_as : (tables : List TableSpec) (name : Option (List ℕ)) (table : TableId) → named_table tables name ≡ Some table → name ≡ Some (get_or tables table.0 no_table).name
named_as tables None table e = absurd cc
named_as tables (Some name) table e = ap (λ (n : List ℕ). Some n) (name_found tables name (position (λ spec. same_name spec.name name) tables) table refl e)

pub table_found : (o : Option TableId) (table : TableId) → is_table o table ≡ true → o ≡ Some table
table_found None table h = absurd cc
table_found (Some found) table h = ap (λ (t : TableId). Some t) (same_table found table h)

ends_free : (free : Bool) (found : Option Ends) (ends : Ends) → (if free then None else found) ≡ Some ends → free ≡ false
ends_free true found ends h = absurd cc
ends_free false found ends h = refl

-- no class has the table of a name that none has
table_free : (tables : List TableSpec) (specs : List ClassSpec) (name : Option (List ℕ)) (table : TableId) → maps_name specs name ≡ false → is_table (named_table tables name) table ≡ true
    → maps_name specs (Some (get_or tables table.0 no_table).name) ≡ false
table_free tables specs name table free is =
    ap (maps_name specs) (sym (named_as tables name table (table_found (named_table tables name) table is))) ∙ free

-- ---- the keys of a relationship without a secondary table

target_here : (o : Option ClassId) (class target : ClassId) → o ≡ Some target → o ≡ Some (class_or o class)
target_here o class target e = e ∙ ap (λ (c : ClassId). Some c) (sym (ap (λ (found : Option ClassId). class_or found class) e))

joins_at : (mapped : Mapped) (many : Bool) (near far : Option Layout) (class target : ClassId) (key : TableKey) → near ≡ Some (layout_of mapped class) → far ≡ Some (layout_of mapped target)
    → (if many then joins mapped.schema.tables far near key else joins mapped.schema.tables near far key) ≡ true
    → joins mapped.schema.tables (Some (layout_of mapped (if many then target else class))) (Some (layout_of mapped (if many then class else target))) key ≡ true
joins_at mapped true near far class target key n f h =
    ap (λ (o : Option Layout). joins mapped.schema.tables o (Some (layout_of mapped class)) key) (sym f)
    ∙ ap (λ (o : Option Layout). joins mapped.schema.tables far o key) (sym n) ∙ h
joins_at mapped false near far class target key n f h =
    ap (λ (o : Option Layout). joins mapped.schema.tables o (Some (layout_of mapped target)) key) (sym n)
    ∙ ap (λ (o : Option Layout). joins mapped.schema.tables near o key) (sym f) ∙ h

joins_back : (mapped : Mapped) (many : Bool) (class target : ClassId) (key : TableKey)
    → joins mapped.schema.tables (Some (layout_of mapped (if many then target else class))) (Some (layout_of mapped (if many then class else target))) key ≡ true
    → joins mapped.schema.tables (Some (layout_of mapped (if not many then class else target))) (Some (layout_of mapped (if not many then target else class))) key ≡ true
joins_back mapped true class target key h = h
joins_back mapped false class target key h = h

covers_at : (mapped : Mapped) (near far : Option Layout) (class target : ClassId) (ends : Ends) → near ≡ Some (layout_of mapped class) → far ≡ Some (layout_of mapped target)
    → covers_both mapped.schema.tables near far ends ≡ true → covers_both mapped.schema.tables (Some (layout_of mapped class)) (Some (layout_of mapped target)) ends ≡ true
covers_at mapped near far class target ends n f h =
    ap (λ (o : Option Layout). covers_both mapped.schema.tables o (Some (layout_of mapped target)) ends) (sym n)
    ∙ ap (λ (o : Option Layout). covers_both mapped.schema.tables near o ends) (sym f) ∙ h

-- ---- the keys of a side, or those of its partner the other way round

abbrev pub Found : Mapped → Side → Option Ends → Type 0
Found mapped side ends = (ends ≡ side.ends) ⊎ ((other : Side) × Has (sides_in mapped) other × IsDeclared side other × (ends ≡ swapped_ends other.ends))

module _ (mapped : Mapped) (lined : length mapped.classes.lines ≡ length mapped.classes.specs) (lines : AreLines mapped.schema.tables mapped.classes)
    (valid : IsValid mapped.schema.tables mapped.classes (layouts_in mapped) (sides_in mapped)) where
  abbrev tables : List TableSpec
  tables = mapped.schema.tables

  abbrev classes : Classes
  classes = mapped.classes

  abbrev layouts : List Layout
  layouts = layouts_in mapped

  abbrev sides : List Side
  sides = sides_in mapped

  plain_ends : (side : Side) → Has sides side → is_plain side ≡ true → side.ends ≡ None
  plain_ends side h plain =
      ap (λ (s : Side). s.ends) (side_from mapped lined lines side h).is
      ∙ no_ends tables classes.specs side.spec.secondary (layout_at layouts (Some side.class)) (layout_at layouts (target_of classes.specs side.spec)) (none_is side.spec.secondary plain)

  covered_ends : (side : Side) → Has sides side → is_plain side ≡ false → (ends : Ends) × (side.ends ≡ Some ends) × (covers tables layouts side ends ≡ true)
  covered_ends side h many =
      held (covers tables layouts side) side.ends (or_rest (is_plain side) (holds_of (covers tables layouts side) side.ends) (all_of (is_covered tables layouts) sides side valid.covered h) many)

  found_same : (side other : Side) → Has sides side → Has sides other → is_same_pair side other ≡ true → (b : Bool) → same_side side other ≡ b → Found mapped side (if b then other.ends else swapped_ends other.ends)
  found_same side other h g pair true same =
      let from = side_from mapped lined lines side h in
      let within : side.class.0 < length classes.lines = rw lined from.class in
      let stands : has_class (line_of classes side.class.0) side.class.0 ≡ true = lines.own side.class.0 within in
      let inside : has_class (line_of classes side.class.0) other.class.0 ≡ true =
      ap (λ (c : ClassId). has_class (line_of classes side.class.0) c.0) (sym (same_class side.class other.class (and_left (side.class.0 == other.class.0) (same_name side.spec.name other.spec.name) same))) ∙ stands in
      inl (ap (λ (s : Side). s.ends) (one_of mapped lined lines side.class.0 from.class other side g h inside stands
      (sym (same_names side.spec.name other.spec.name (and_right (side.class.0 == other.class.0) (same_name side.spec.name other.spec.name) same)))))
  found_same side other h g pair false same =
      inr (other, g, declared_partner side other (and_right (not side.spec.backref) (is_partner side other) (or_rest (same_side side other) (not side.spec.backref && is_partner side other) pair same)), refl)

  found_by : (side : Side) → Has sides side → (first : Option Side) → find (is_same_pair side) sides ≡ first → Found mapped side (ends_from side first)
  found_by side h None e = inl refl
  found_by side h (Some first) e =
      let found = find_has (is_same_pair side) sides first e in
      found_same side first h found.0 found.1 (same_side side first) refl

  pub found_ends : (side : Side) → Has sides side → Found mapped side (ends_on sides side)
  found_ends side h = found_by side h (find (is_same_pair side) sides) refl

  pub plain_found : (side : Side) → Has sides side → is_plain side ≡ true → (ends : Option Ends) → Found mapped side ends → ends ≡ None
  plain_found side h plain ends (inl e) = e ∙ plain_ends side h plain
  plain_found side h plain ends (inr found) =
      found.3 ∙ ap swapped_ends (plain_ends found.0 found.1 (sym (same_first side.spec.secondary found.0.spec.secondary found.2.secondary) ∙ plain))

  pub both_covered : (side : Side) (keys : Ends) → covers tables layouts side keys ≡ true → covers_both tables (layout_at layouts (Some side.class)) (layout_at layouts side.target) keys ≡ true
  both_covered side keys h = and_right (is_table (named_table tables side.spec.secondary) keys.0.0) (covers_both tables (layout_at layouts (Some side.class)) (layout_at layouts side.target) keys) h

  turned_covers : (side other : Side) → IsDeclared side other → (one two : TableKey) → covers tables layouts other (one, two) ≡ true → covers tables layouts side (two, one) ≡ true
  turned_covers side other is one two h =
      let near : Option Layout = layout_at layouts (Some other.class) in
      let far : Option Layout = layout_at layouts other.target in
      let both : covers_both tables near far (one, two) ≡ true = both_covered other (one, two) h in
      and_both (is_table (named_table tables side.spec.secondary) two.0) (covers_both tables (layout_at layouts (Some side.class)) (layout_at layouts side.target) (two, one))
      (ap (λ (name : Option (List ℕ)). is_table (named_table tables name) two.0) (same_secondaries side.spec.secondary other.spec.secondary is.secondary)
      ∙ ap (λ (table : TableId). is_table (named_table tables other.spec.secondary) table) (sym (one_table tables near far (one, two) both))
      ∙ and_left (is_table (named_table tables other.spec.secondary) one.0) (covers_both tables near far (one, two)) h)
      (ap (λ (o : Option ClassId). covers_both tables (layout_at layouts o) (layout_at layouts side.target) (two, one)) (sym is.back)
      ∙ ap (λ (o : Option ClassId). covers_both tables far (layout_at layouts o) (two, one)) is.target
      ∙ covers_swapped tables near far one two both)

  pub covered_found : (side : Side) → Has sides side → is_plain side ≡ false → (ends : Option Ends) → Found mapped side ends → (keys : Ends) × (ends ≡ Some keys) × (covers tables layouts side keys ≡ true)
  covered_found side h many ends (inl e) = let keys = covered_ends side h many in (keys.0, e ∙ keys.1, keys.2)
  covered_found side h many ends (inr found) =
      let keys = covered_ends found.0 found.1 (sym (same_first side.spec.secondary found.0.spec.secondary found.2.secondary) ∙ many) in
      ((keys.0.1, keys.0.0), found.3 ∙ ap swapped_ends keys.1, turned_covers side found.0 found.2 keys.0.0 keys.0.1 keys.2)

  -- ---- a declared relationship, and the backref that it makes

  abbrev join : Side → TableKey
  join side = key_or_none (join_of tables classes sides side)

  abbrev own_with : Side → Option Ends → Relation
  own_with side ends = record (own_in mapped side) { foreign = near_or ends (join side); far = far_key ends }

  abbrev back_with : Side → Bool → Option Ends → Relation
  back_with side plain ends = record (back_in mapped side) { many = not plain || not side.spec.many; foreign = far_or ends (join side); far = near_key ends }

  pub target_is : (side : Side) → Has sides side → side.target ≡ Some (class_or side.target side.class)
  target_is side h = let found = some_is side.target (all_of (λ side. is_some side.target) sides side valid.led h) in target_here side.target side.class found.0 found.1

  target_less : (side : Side) → Has sides side → (class_or side.target side.class).0 < length classes.specs
  target_less side h = target_declared mapped lined lines side h (class_or side.target side.class) (target_is side h)

  near_layout : (side : Side) → Has sides side → layout_at layouts (Some side.class) ≡ Some (layout_of mapped side.class)
  near_layout side h = layout_here mapped lined lines side.class (side_from mapped lined lines side h).class

  far_layout : (side : Side) → Has sides side → layout_at layouts side.target ≡ Some (layout_of mapped (class_or side.target side.class))
  far_layout side h = ap (layout_at layouts) (target_is side h) ∙ layout_here mapped lined lines (class_or side.target side.class) (target_less side h)

  plain_joins : (side : Side) → Has sides side → is_plain side ≡ true
      → joins tables (Some (layout_of mapped (if side.spec.many then class_or side.target side.class else side.class))) (Some (layout_of mapped (if side.spec.many then side.class else class_or side.target side.class))) (join side) ≡ true
  plain_joins side h plain =
      let joined = or_rest (not (is_plain side)) (holds_of (joins_ends tables layouts side) (join_of tables classes sides side)) (all_of (is_joined tables classes layouts sides) sides side valid.joined h) (ap not plain) in
      let key = held (joins_ends tables layouts side) (join_of tables classes sides side) joined in
      subst (λ (k : TableKey). joins tables (Some (layout_of mapped (if side.spec.many then class_or side.target side.class else side.class))) (Some (layout_of mapped (if side.spec.many then side.class else class_or side.target side.class))) k ≡ true)
      (sym (ap key_or_none key.1))
      (joins_at mapped side.spec.many (layout_at layouts (Some side.class)) (layout_at layouts side.target) side.class (class_or side.target side.class) key.0 (near_layout side h) (far_layout side h) key.2)

  own_keys : (side : Side) → Has sides side → (plain : Bool) → is_plain side ≡ plain → has_keys mapped (own_in mapped side) (own_in mapped side).far ≡ true
  own_keys side h true plain =
      subst (λ (ends : Option Ends). has_keys mapped (own_with side ends) (far_key ends) ≡ true) (sym (plain_found side h plain (ends_on sides side) (found_ends side h))) (plain_joins side h plain)
  own_keys side h false many =
      let keys = covered_found side h many (ends_on sides side) (found_ends side h) in
      subst (λ (ends : Option Ends). has_keys mapped (own_with side ends) (far_key ends) ≡ true) (sym keys.1)
      (covers_at mapped (layout_at layouts (Some side.class)) (layout_at layouts side.target) side.class (class_or side.target side.class) keys.0 (near_layout side h) (far_layout side h) (both_covered side keys.0 keys.2))

  back_keys : (side : Side) → Has sides side → (plain : Bool) → is_plain side ≡ plain → has_keys mapped (back_in mapped side) (back_in mapped side).far ≡ true
  back_keys side h true plain =
      subst (λ (b : Bool). has_keys mapped (back_with side b (ends_on sides side)) (near_key (ends_on sides side)) ≡ true) (sym plain)
      (subst (λ (ends : Option Ends). has_keys mapped (back_with side true ends) (near_key ends) ≡ true) (sym (plain_found side h plain (ends_on sides side) (found_ends side h)))
      (joins_back mapped side.spec.many side.class (class_or side.target side.class) (join side) (plain_joins side h plain)))
  back_keys side h false many =
      let keys = covered_found side h many (ends_on sides side) (found_ends side h) in
      let covered = covers_at mapped (layout_at layouts (Some side.class)) (layout_at layouts side.target) side.class (class_or side.target side.class) keys.0 (near_layout side h) (far_layout side h) (both_covered side keys.0 keys.2) in
      subst (λ (ends : Option Ends). has_keys mapped (back_with side (is_plain side) ends) (near_key ends) ≡ true) (sym keys.1)
      (covers_swapped tables (Some (layout_of mapped side.class)) (Some (layout_of mapped (class_or side.target side.class))) keys.0.0 keys.0.1 covered)

  -- the name of a side's secondary table is that of no class
  side_free : (side : Side) → Has sides side → is_plain side ≡ false → maps_name classes.specs side.spec.secondary ≡ false
  side_free side h many =
      let keys = covered_ends side h many in
      ends_free (maps_name classes.specs side.spec.secondary) (ends_in tables (named_table tables side.spec.secondary) (layout_at layouts (Some side.class)) (layout_at layouts (target_of classes.specs side.spec))) keys.0
      (ap (λ (s : Side). s.ends) (sym (side_from mapped lined lines side h).is) ∙ keys.1)

  free_at : (side : Side) → Has sides side → is_plain side ≡ false → (keys : Ends) → covers tables layouts side keys ≡ true
      → maps_name classes.specs (Some (get_or tables keys.0.0.0 no_table).name) ≡ false
  free_at side h many keys covered =
      table_free tables classes.specs side.spec.secondary keys.0.0 (side_free side h many)
      (and_left (is_table (named_table tables side.spec.secondary) keys.0.0) (covers_both tables (layout_at layouts (Some side.class)) (layout_at layouts side.target) keys) covered)

  own_unmapped : (side : Side) → Has sides side → (plain : Bool) → is_plain side ≡ plain → is_unmapped mapped (own_in mapped side) ≡ true
  own_unmapped side h true plain =
      subst (λ (ends : Option Ends). is_unmapped mapped (own_with side ends) ≡ true) (sym (plain_found side h plain (ends_on sides side) (found_ends side h))) refl
  own_unmapped side h false many =
      let keys = covered_found side h many (ends_on sides side) (found_ends side h) in
      subst (λ (ends : Option Ends). is_unmapped mapped (own_with side ends) ≡ true) (sym keys.1) (ap not (free_at side h many keys.0 keys.2))

  back_unmapped : (side : Side) → Has sides side → (plain : Bool) → is_plain side ≡ plain → is_unmapped mapped (back_in mapped side) ≡ true
  back_unmapped side h true plain =
      subst (λ (ends : Option Ends). is_unmapped mapped (back_with side (is_plain side) ends) ≡ true) (sym (plain_found side h plain (ends_on sides side) (found_ends side h))) refl
  back_unmapped side h false many =
      let keys = covered_found side h many (ends_on sides side) (found_ends side h) in
      let one = one_table tables (layout_at layouts (Some side.class)) (layout_at layouts side.target) keys.0 (both_covered side keys.0 keys.2) in
      subst (λ (ends : Option Ends). is_unmapped mapped (back_with side (is_plain side) ends) ≡ true) (sym keys.1)
      (ap not (ap (λ (table : TableId). maps_name classes.specs (Some (get_or tables table.0 no_table).name)) (sym one) ∙ free_at side h many keys.0 keys.2))

  own_orphans : (side : Side) → Has sides side → (plain : Bool) → is_plain side ≡ plain → orphans_rightly (own_in mapped side) ≡ true
  own_orphans side h true plain =
      let cascade = cascade_or_default side.spec.cascade in
      subst (λ (ends : Option Ends). orphans_rightly (own_with side ends) ≡ true) (sym (plain_found side h plain (ends_on sides side) (found_ends side h)))
      (orphan_plain cascade.delete_orphan cascade.delete side.spec.many
      (ap (λ (b : Bool). cascade.delete_orphan && (not cascade.delete || not side.spec.many || b)) (sym (none_not side.spec.secondary plain))
      ∙ none_of (λ side. is_bad_cascade side.spec) sides side valid.orphans h))
  own_orphans side h false many =
      let cascade = cascade_or_default side.spec.cascade in
      orphan_many cascade.delete_orphan cascade.delete side.spec.many (cascade.delete && side.spec.many && is_none (own_in mapped side).far)
      (ap (λ (b : Bool). cascade.delete_orphan && (not cascade.delete || not side.spec.many || b)) (sym (not_none side.spec.secondary many))
      ∙ none_of (λ side. is_bad_cascade side.spec) sides side valid.orphans h)

  related : (line : List ClassId) (relation : Relation) → Came mapped line relation → IsRelated mapped relation
  related line relation (inl found) =
      let side : Side = found.0 in
      subst (IsRelated mapped) found.3
      (record {
        class = (side_from mapped lined lines side found.1).class;
        target = target_less side found.1;
        partner = has_partner mapped lined lines valid.differing valid.led valid.paired line (own_in mapped side) (inl (side, found.1, found.2, refl));
        keys = own_keys side found.1 (is_plain side) refl;
        unmapped = own_unmapped side found.1 (is_plain side) refl;
        orphans = own_orphans side found.1 (is_plain side) refl;
      })
  related line relation (inr found) =
      let side : Side = found.0 in
      subst (IsRelated mapped) found.4
      (record {
        class = target_less side found.1;
        target = (side_from mapped lined lines side found.1).class;
        partner = has_partner mapped lined lines valid.differing valid.led valid.paired line (back_in mapped side) (inr (side, found.1, found.2, found.3, refl));
        keys = back_keys side found.1 (is_plain side) refl;
        unmapped = back_unmapped side found.1 (is_plain side) refl;
        orphans = refl;
      })

  pub each_related : (class : ClassId) → IsClass mapped class → All (IsRelated mapped) (relations_of mapped class)
  each_related class less =
      subst (All (IsRelated mapped)) (sym (list_for mapped lined lines class less))
      (All-from_recursion (IsRelated mapped) _ (all_from (IsRelated mapped) _ (λ relation has. related (line_of classes class.0) relation (came mapped lined lines (line_of classes class.0) relation has))))
