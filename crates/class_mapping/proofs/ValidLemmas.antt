-- Declarations without a fault are valid.
use Rattle.std.proofs.Common.{◌≡◌, ℕ, ◌<◌, Bool, true, false, not, ◌&&◌, ◌||◌, List, [], ◌∷◌, ◌∙◌, length, ap, refl, Option, None, Some, if◌then◌else◌, zero-add}
use Rattle.std.specs.Prelude.{is_none, is_some, nat_lt, slice_get, ◌==◌}
use Rattle.std.specs.List.{All, enumerate_from, list_all, list_any}
use Rattle.std.proofs.lemmas.Bool.{or_left as or_here, or_right as or_there}
use Rattle.std.proofs.lemmas.List.Elements.{All-from_get_or, recursion_from_All}
use Rattle.std.proofs.lemmas.List.FromFn.{get_or-enumerate_from, length-enumerate_from}
use Rattle.std.proofs.lemmas.Option.{slice_get-get_or}
use Rattle.std.proofs.lemmas.Cmp.{nat_eq_equiv}
use Rattle.base_core.specs.declared.ids.TableId.{TableId}
use Rattle.base_core.specs.declared.refusal.ArgumentKind.{ArgumentKind}
use Rattle.schema_core.specs.declared.table.ForeignSpec.{ForeignSpec}
use Rattle.schema_core.specs.declared.table.TableSpec.{TableSpec}
use Rattle.schema_core.specs.Catalog.{same_name}
use Rattle.schema_core.specs.Declaration.{has_targets, some_two}
use Rattle.class_types.specs.declared.declared.ClassSpec.{ClassSpec}
use Rattle.class_types.specs.declared.declared.RelationSpec.{RelationSpec}
use Rattle.class_layouts.specs.declared.classes.Classes.{Classes}
use Rattle.class_layouts.specs.declared.layout.Layout.{Layout}
use Rattle.class_layouts.specs.Hierarchy.{line_of}
use Rattle.class_layouts.specs.Columns.{columns_in, is_table, named_table}
use Rattle.class_layouts.specs.Faults.{foreigns_in, is_bad_cascade, maps_name}
use Rattle.class_blocks.specs.declared.side.Side.{Side}
use Rattle.class_sides.specs.Keys.{allows, columns_at, is_inherited, is_tied, refers_into}
use Rattle.class_sides.specs.Sides.{Ends, candidates, ends_among, ends_by, ends_in, has_attribute, is_all_keys, key_at, layout_at, serves, side_of, sides_at, sides_of, table_candidates, target_of}
use Rattle.class_sides.specs.Pairs.{differs, fits, is_partner, is_plain, is_taken_in, join_of, lacks_join}
use Rattle.class_faults.specs.Faults.{fault_among, fault_of_keys, fault_of_pairs, inherits_badly, is_bad_secondary, misses_table, misses_target, misses_tie_in, owns_rightly}
use Rattle.class_mapping.specs.Valid.{IsValid, covers, covers_both, extends_rightly, holds_of, is_among, is_covered, is_joined, is_paired, is_tied_in, joins, joins_ends, owns_freely, refers_by}
use Rattle.class_mapping.proofs.Lists.{all_better, all_flat, all_good, all_kept, all_map, all_numbered, all_true, all_unless, and_both, and_every, and_four, and_left, and_right, and_three, covered_if, found_holds, joined_if, led_if, many_if, none_flat, none_map, none_numbered, or_right, paired_if}

-- ---- the keys that can serve a side

among_more : (x : TableId) (xs zs : List TableId) → list_all (is_among xs) zs ≡ true → list_all (is_among (x ∷ xs)) zs ≡ true
among_more x xs [] h = refl
among_more x xs (z ∷ zs) h =
    and_both (is_among (x ∷ xs) z) (list_all (is_among (x ∷ xs)) zs)
    (or_there (x.0 == z.0) (is_among xs z) (and_left (is_among xs z) (list_all (is_among xs) zs) h))
    (among_more x xs zs (and_right (is_among xs z) (list_all (is_among xs) zs) h))

among_itself : (xs : List TableId) → list_all (is_among xs) xs ≡ true
among_itself [] = refl
among_itself (x ∷ xs) =
    and_both (is_among (x ∷ xs) x) (list_all (is_among (x ∷ xs)) xs) (or_here (x.0 == x.0) (is_among xs x) (nat_eq_equiv.refl x.0)) (among_more x xs xs (among_itself xs))

abbrev no_foreign : ForeignSpec
no_foreign = record { columns = []; target = [] }

abbrev IsThere : List ForeignSpec → ℕ × ForeignSpec → Type 0
IsThere foreigns placed = slice_get foreigns placed.0 ≡ Some placed.1

numbered_there : (foreigns : List ForeignSpec) → All (IsThere foreigns) (enumerate_from 0 foreigns)
numbered_there foreigns =
    All-from_get_or (IsThere foreigns) (enumerate_from 0 foreigns) (0, no_foreign)
    (λ i less.
    let inside : i < length foreigns = rw (← length-enumerate_from 0 foreigns) less in
    rw (get_or-enumerate_from 0 foreigns i (0, no_foreign) inside) (rw (zero-add i) (slice_get-get_or foreigns i no_foreign inside)))

joins_there : (tables : List TableSpec) (child owner : Layout) (named : List (List ℕ)) (ranked : ℕ × TableId) (placed : ℕ × ForeignSpec) → is_among child.tables ranked.1 ≡ true
    → IsThere (foreigns_in tables ranked.1) placed → serves tables child owner.tables named ranked.0 ranked.1 placed.1 ≡ true
    → joins tables (Some child) (Some owner) (key_at ranked.1 placed) ≡ true
joins_there tables child owner named ranked placed among here kept =
    let foreigns : List ForeignSpec = foreigns_in tables ranked.1 in
    let shown : List (List ℕ) → Bool = list_all (has_attribute child.attributes ranked.1) in
    let parts : (refers_into tables placed.1 owner.tables ≡ true) × (shown placed.1.columns ≡ true) =
    and_four (refers_into tables placed.1 owner.tables) (not (is_inherited tables child.tables ranked.0 ranked.1 placed.1)) (shown placed.1.columns) (allows named placed.1.columns) kept in
    and_three (is_among child.tables ranked.1) (shown (columns_at (slice_get foreigns placed.0))) (refers_by tables owner.tables (slice_get foreigns placed.0)) among
    (ap (λ (found : Option ForeignSpec). shown (columns_at found)) here ∙ parts.1)
    (ap (λ (found : Option ForeignSpec). refers_by tables owner.tables found) here ∙ parts.0)

-- a key of a table of the many side
table_joins : (tables : List TableSpec) (child owner : Layout) (named : List (List ℕ)) (ranked : ℕ × TableId) → is_among child.tables ranked.1 ≡ true
    → list_all (joins tables (Some child) (Some owner)) (table_candidates tables child owner.tables named ranked) ≡ true
table_joins tables child owner named ranked among =
    let foreigns : List ForeignSpec = foreigns_in tables ranked.1 in
    all_kept (joins tables (Some child) (Some owner)) (key_at ranked.1)
    (λ placed. serves tables child owner.tables named ranked.0 ranked.1 placed.1) (IsThere foreigns)
    (λ placed here kept. joins_there tables child owner named ranked placed among here kept)
    (enumerate_from 0 foreigns) (recursion_from_All (IsThere foreigns) (enumerate_from 0 foreigns) (numbered_there foreigns))

candidates_join : (tables : List TableSpec) (named : List (List ℕ)) (many one : Option Layout) → list_all (joins tables many one) (candidates tables named many one) ≡ true
candidates_join tables named None one = refl
candidates_join tables named (Some child) None = refl
candidates_join tables named (Some child) (Some owner) =
    all_flat (joins tables (Some child) (Some owner)) (table_candidates tables child owner.tables named) (λ ranked. is_among child.tables ranked.1)
    (λ ranked among. table_joins tables child owner named ranked among)
    (enumerate_from 0 child.tables) (all_numbered (is_among child.tables) 0 child.tables (among_itself child.tables))

either_join : (many : Bool) (tables : List TableSpec) (named : List (List ℕ)) (own target : Option Layout)
    → list_all (λ key. if many then joins tables target own key else joins tables own target key)
    (if many then candidates tables named target own else candidates tables named own target) ≡ true
either_join true tables named own target = candidates_join tables named target own
either_join false tables named own target = candidates_join tables named own target

-- ---- the keys of secondary tables

-- they are of the table that is named
abbrev covers_of : List TableSpec → Option TableId → Option Layout → Option Layout → Ends → Bool
covers_of tables table near far ends = is_table table ends.0.0 && covers_both tables near far ends

abbrev fine : List TableSpec → Option TableId → Option Layout → Option Layout → Option Ends → Bool
fine tables table near far ends = is_none ends || holds_of (covers_of tables table near far) ends

first_covers : (tables : List TableSpec) (table : TableId) (near far : Layout) (one two : ForeignSpec) → foreigns_in tables table ≡ one ∷ two ∷ []
    → is_all_keys (columns_in tables table) (one ∷ two ∷ []) ≡ true → refers_into tables one near.tables ≡ true → refers_into tables two far.tables ≡ true
    → covers_both tables (Some near) (Some far) ((table, 0), (table, 1)) ≡ true
first_covers tables table near far one two e all p q =
    and_every _ _ _ _ (nat_eq_equiv.refl table.0)
    (ap (is_all_keys (columns_in tables table)) e ∙ all)
    (ap (λ (foreigns : List ForeignSpec). refers_by tables near.tables (slice_get foreigns 0)) e ∙ p)
    (ap (λ (foreigns : List ForeignSpec). refers_by tables far.tables (slice_get foreigns 1)) e ∙ q)

second_covers : (tables : List TableSpec) (table : TableId) (near far : Layout) (one two : ForeignSpec) → foreigns_in tables table ≡ one ∷ two ∷ []
    → is_all_keys (columns_in tables table) (one ∷ two ∷ []) ≡ true → refers_into tables two near.tables ≡ true → refers_into tables one far.tables ≡ true
    → covers_both tables (Some near) (Some far) ((table, 1), (table, 0)) ≡ true
second_covers tables table near far one two e all p q =
    and_every _ _ _ _ (nat_eq_equiv.refl table.0)
    (ap (is_all_keys (columns_in tables table)) e ∙ all)
    (ap (λ (foreigns : List ForeignSpec). refers_by tables near.tables (slice_get foreigns 1)) e ∙ p)
    (ap (λ (foreigns : List ForeignSpec). refers_by tables far.tables (slice_get foreigns 0)) e ∙ q)

-- a choice between two, or none
chosen : (p q r s : Bool) (good : Ends → Bool) (one two : Ends) → (p ≡ true → q ≡ true → good one ≡ true) → (r ≡ true → s ≡ true → good two ≡ true)
    → (is_none (if p && q then Some one else if r && s then Some two else None) || holds_of good (if p && q then Some one else if r && s then Some two else None)) ≡ true
chosen true true r s good one two f g = f refl refl
chosen true false true true good one two f g = g refl refl
chosen true false true false good one two f g = refl
chosen true false false s good one two f g = refl
chosen false q true true good one two f g = g refl refl
chosen false q true false good one two f g = refl
chosen false q false s good one two f g = refl

guarded : (a b : Bool) (good : Ends → Bool) (found : Option Ends) → (a ≡ true → (is_none found || holds_of good found) ≡ true)
    → (is_none (if a && b then found else None) || holds_of good (if a && b then found else None)) ≡ true
guarded true true good found f = f refl
guarded true false good found f = refl
guarded false b good found f = refl

unless_mapped : (a : Bool) (good : Ends → Bool) (found : Option Ends) → (is_none found || holds_of good found) ≡ true
    → (is_none (if a then None else found) || holds_of good (if a then None else found)) ≡ true
unless_mapped true good found h = refl
unless_mapped false good found h = h

among_covers : (tables : List TableSpec) (table : TableId) (near far : Layout) (foreigns : List ForeignSpec) → foreigns_in tables table ≡ foreigns
    → fine tables (Some table) (Some near) (Some far) (ends_among tables table foreigns near.tables far.tables) ≡ true
among_covers tables table near far [] e = refl
among_covers tables table near far (one ∷ []) e = refl
among_covers tables table near far (one ∷ two ∷ three ∷ more) e = refl
among_covers tables table near far (one ∷ two ∷ []) e =
    guarded (is_all_keys (columns_in tables table) (one ∷ two ∷ [])) _ (covers_of tables (Some table) (Some near) (Some far)) (ends_by tables table one two near.tables far.tables)
    (λ all.
    chosen (refers_into tables one near.tables) (refers_into tables two far.tables) (refers_into tables two near.tables) (refers_into tables one far.tables)
    (covers_of tables (Some table) (Some near) (Some far)) ((table, 0), (table, 1)) ((table, 1), (table, 0))
    (λ p q. and_both _ _ (nat_eq_equiv.refl table.0) (first_covers tables table near far one two e all p q))
    (λ p q. and_both _ _ (nat_eq_equiv.refl table.0) (second_covers tables table near far one two e all p q)))

in_covers : (tables : List TableSpec) (table : Option TableId) (near far : Option Layout) → fine tables table near far (ends_in tables table near far) ≡ true
in_covers tables None near far = refl
in_covers tables (Some table) None far = refl
in_covers tables (Some table) (Some near) None = refl
in_covers tables (Some table) (Some near) (Some far) = among_covers tables table near far (foreigns_in tables table) refl

ends_cover : (tables : List TableSpec) (specs : List ClassSpec) (secondary : Option (List ℕ)) (table : Option TableId) (near far : Option Layout)
    → fine tables table near far (if maps_name specs secondary then None else ends_in tables table near far) ≡ true
ends_cover tables specs secondary table near far =
    unless_mapped (maps_name specs secondary) (covers_of tables table near far) (ends_in tables table near far) (in_covers tables table near far)

-- ---- all declared relationships

side_joins : (tables : List TableSpec) (classes : Classes) (layouts : List Layout) (class : ℕ) (relation : RelationSpec)
    → list_all (joins_ends tables layouts (side_of tables classes layouts class relation)) (side_of tables classes layouts class relation).candidates ≡ true
side_joins tables classes layouts class relation =
    either_join relation.many tables relation.using (layout_at layouts (Some (record { 0 = class }))) (layout_at layouts (target_of classes.specs relation))

abbrev candidates_good : List TableSpec → List Layout → Side → Bool
candidates_good tables layouts side = list_all (joins_ends tables layouts side) side.candidates

abbrev ends_good : List TableSpec → List Layout → Side → Bool
ends_good tables layouts side = is_none side.ends || holds_of (covers tables layouts side) side.ends

side_covers : (tables : List TableSpec) (classes : Classes) (layouts : List Layout) (class : ℕ) (relation : RelationSpec)
    → ends_good tables layouts (side_of tables classes layouts class relation) ≡ true
side_covers tables classes layouts class relation =
    ends_cover tables classes.specs relation.secondary (named_table tables relation.secondary) (layout_at layouts (Some (record { 0 = class }))) (layout_at layouts (target_of classes.specs relation))

each_side : (p : Side → Bool) (tables : List TableSpec) (classes : Classes) (layouts : List Layout) → ((class : ℕ) (relation : RelationSpec) → p (side_of tables classes layouts class relation) ≡ true)
    → list_all p (sides_of tables classes layouts) ≡ true
each_side p tables classes layouts h =
    all_flat p (sides_at tables classes layouts) (λ placed. true)
    (λ placed _. all_map p (side_of tables classes layouts placed.0) (λ relation. h placed.0 relation) placed.1.relations)
    (enumerate_from 0 classes.specs) (all_true (enumerate_from 0 classes.specs))

all_joined : (tables : List TableSpec) (classes : Classes) (layouts : List Layout) (sides : List Side) → list_all (candidates_good tables layouts) sides ≡ true
    → list_any (lacks_join tables classes sides) sides ≡ false → list_all (is_joined tables classes layouts sides) sides ≡ true
all_joined tables classes layouts sides had h =
    all_better (lacks_join tables classes sides) (candidates_good tables layouts) (is_joined tables classes layouts sides)
    (λ side bad good.
    joined_if (is_plain side) (list_any (fits tables classes sides side) side.candidates) (holds_of (joins_ends tables layouts side) (join_of tables classes sides side)) bad
    (λ some. found_holds (fits tables classes sides side) (joins_ends tables layouts side) side.candidates some good))
    sides h had

all_covered : (tables : List TableSpec) (layouts : List Layout) (sides : List Side) → list_all (ends_good tables layouts) sides ≡ true
    → list_any is_bad_secondary sides ≡ false → list_all (is_covered tables layouts) sides ≡ true
all_covered tables layouts sides had h =
    all_better is_bad_secondary (ends_good tables layouts) (is_covered tables layouts)
    (λ side bad good. covered_if side.spec.secondary side.spec.many side.ends (covers tables layouts side) bad good)
    sides h had

all_collections : (sides : List Side) → list_any is_bad_secondary sides ≡ false → list_all (λ side. is_plain side || side.spec.many) sides ≡ true
all_collections sides h =
    all_good is_bad_secondary (λ side. is_plain side || side.spec.many) (λ side bad. many_if side.spec.secondary side.spec.many (is_none side.ends) bad) sides h

all_paired : (classes : Classes) (layouts : List Layout) (sides : List Side) → list_any (differs classes layouts sides) sides ≡ false → list_all (is_paired sides) sides ≡ true
all_paired classes layouts sides h =
    all_good (differs classes layouts sides) (is_paired sides)
    (λ side bad. paired_if side.spec.backref (list_any (is_taken_in classes sides side) (enumerate_from 0 layouts)) (list_any (is_partner side) sides) bad)
    sides h

all_led : (tables : List TableSpec) (sides : List Side) → list_any (misses_target tables) sides ≡ false → list_all (λ side. is_some side.target) sides ≡ true
all_led tables sides h =
    all_good (misses_target tables) (λ side. is_some side.target) (λ side bad. led_if side.target (misses_table tables side.spec.secondary) bad) sides h

-- ---- hierarchies

tied_from : (tables : List TableSpec) (found : Option Layout) → misses_tie_in tables found ≡ false → is_tied_in tables found ≡ true
tied_from tables None h = refl
tied_from tables (Some layout) h = all_unless (is_tied tables layout.tables) (enumerate_from 0 layout.tables) h

extends_if : (deep misses twice owned tied : Bool) → (deep || misses || twice || owned) ≡ false → (misses ≡ false → tied ≡ true) → (not deep && tied) ≡ true
extends_if true misses twice owned tied h f = absurd cc
extends_if false true twice owned tied h f = absurd cc
extends_if false false twice owned tied h f = f refl

all_extend : (tables : List TableSpec) (classes : Classes) (layouts : List Layout) → list_any (inherits_badly tables classes layouts) (enumerate_from 0 classes.specs) ≡ false
    → list_all (extends_rightly tables classes layouts) (enumerate_from 0 classes.specs) ≡ true
all_extend tables classes layouts h =
    all_good (inherits_badly tables classes layouts) (extends_rightly tables classes layouts)
    (λ placed bad.
    extends_if (nat_lt 16 (length (line_of classes placed.0))) (misses_tie_in tables (slice_get layouts placed.0)) (some_two same_name placed.1.owned)
    (list_any (λ name. not (owns_rightly tables classes placed.0 name)) placed.1.owned) (is_tied_in tables (slice_get layouts placed.0)) bad
    (λ k. tied_from tables (slice_get layouts placed.0) k))
    (enumerate_from 0 classes.specs) h

all_own : (tables : List TableSpec) (classes : Classes) (layouts : List Layout) → list_any (inherits_badly tables classes layouts) (enumerate_from 0 classes.specs) ≡ false
    → list_all (owns_freely tables classes) (enumerate_from 0 classes.specs) ≡ true
all_own tables classes layouts h =
    all_good (inherits_badly tables classes layouts) (owns_freely tables classes)
    (λ placed bad.
    all_unless (owns_rightly tables classes placed.0) placed.1.owned
    (or_right (nat_lt 16 (length (line_of classes placed.0)) || misses_tie_in tables (slice_get layouts placed.0) || some_two same_name placed.1.owned)
    (list_any (λ name. not (owns_rightly tables classes placed.0 name)) placed.1.owned) bad))
    (enumerate_from 0 classes.specs) h

-- ---- delete-orphan

abbrev orphan_spec : ClassSpec → Bool
orphan_spec spec = list_any is_bad_cascade spec.relations

abbrev orphan_side : Side → Bool
orphan_side side = is_bad_cascade side.spec

no_orphans : (tables : List TableSpec) (classes : Classes) (layouts : List Layout) → list_any orphan_spec classes.specs ≡ false → list_any orphan_side (sides_of tables classes layouts) ≡ false
no_orphans tables classes layouts h =
    none_flat orphan_side (sides_at tables classes layouts) (λ placed. orphan_spec placed.1)
    (λ placed k. none_map orphan_side (side_of tables classes layouts placed.0) placed.1.relations k)
    (enumerate_from 0 classes.specs) (none_numbered orphan_spec 0 classes.specs h)

-- ---- no fault

-- a choice that gives nothing: the test fails, and the rest gives nothing
pub split : (test : Bool) (kind : ArgumentKind) (rest : Option ArgumentKind) → (if test then Some kind else rest) ≡ None → (test ≡ false) × (rest ≡ None)
split true kind rest h = absurd cc
split false kind rest h = (refl, h)

both_fail : (has misses : Bool) → (not has || misses) ≡ false → (has ≡ true) × (misses ≡ false)
both_fail true misses h = (refl, h)
both_fail false misses h = absurd cc

valid_by : (tables : List TableSpec) (classes : Classes) (layouts : List Layout) (sides : List Side) → list_all (candidates_good tables layouts) sides ≡ true
    → list_all (ends_good tables layouts) sides ≡ true → list_any orphan_side sides ≡ false → fault_among tables classes layouts sides ≡ None → IsValid tables classes layouts sides
unfolding fault_among fault_of_keys fault_of_pairs
valid_by tables classes layouts sides joining covering orphans h =
    let one = split _ _ _ h in
    let two = split _ _ _ one.1 in
    let three = split _ _ _ two.1 in
    let four = split _ _ _ three.1 in
    let five = split _ _ _ four.1 in
    let six = split _ _ _ five.1 in
    let seven = split _ _ _ six.1 in
    let eight = split _ _ _ seven.1 in
    let nine = split _ _ _ eight.1 in
    let first = both_fail (has_targets tables) _ one.0 in
    record {
      targets = first.0;
      led = all_led tables sides first.1;
      tied = all_extend tables classes layouts two.0;
      owned = all_own tables classes layouts two.0;
      joined = all_joined tables classes layouts sides joining four.0;
      collections = all_collections sides three.0;
      covered = all_covered tables layouts sides covering three.0;
      apart = six.0;
      paired = all_paired classes layouts sides seven.0;
      differing = seven.0;
      orphans = orphans;
      keys = eight.0;
      posts = nine.0;
    }

-- declarations without a fault are valid
pub valid_from : (tables : List TableSpec) (classes : Classes) (layouts : List Layout) → list_any (λ spec. list_any is_bad_cascade spec.relations) classes.specs ≡ false
    → fault_among tables classes layouts (sides_of tables classes layouts) ≡ None → IsValid tables classes layouts (sides_of tables classes layouts)
valid_from tables classes layouts orphans h =
    valid_by tables classes layouts (sides_of tables classes layouts)
    (each_side (candidates_good tables layouts) tables classes layouts (side_joins tables classes layouts))
    (each_side (ends_good tables layouts) tables classes layouts (side_covers tables classes layouts))
    (no_orphans tables classes layouts orphans) h
