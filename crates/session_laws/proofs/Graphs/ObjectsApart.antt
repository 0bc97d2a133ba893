-- The rows that objects change and lose stand apart, since no two persistent objects have a row in common.
use Rattle.std.proofs.Common.{◌≡◌, ◌⊎◌, inl, inr, ℕ, zero, suc, ◌+◌, ◌<◌, ◌≤◌, Bool, true, false, cond, not, ◌==◌, List, [], ◌∷◌, length, map, refl, sym, subst, ap, ◌∙◌, arith}
use Rattle.std.proofs.lemmas.Bool.{eq-eqb}
use Rattle.std.proofs.lemmas.List.{map-append}
use Rattle.std.proofs.lemmas.List.Elements.{recursion_from_All}
use Rattle.std.specs.List.{AllByRecursion, filter, flat_map, list_any, range_with_len}
use Rattle.base_core.specs.declared.ids.ObjId.{ObjId}
use Rattle.base_core.specs.declared.ids.TableId.{TableId}
use Rattle.base_core.specs.declared.value.Value.{Value}
use Rattle.schema_core.specs.declared.changes.ChangedRow.{ChangedRow}
use Rattle.schema_core.specs.declared.changes.GoneRow.{GoneRow}
use Rattle.schema_core.specs.Declaration.{some_two}
use Rattle.schema_core.specs.DependencyOrder.{is_among}
use Rattle.class_mapping.specs.Mapped.{Mapped, tables_of}
use Rattle.class_mapping.proofs.Having.{Has, all_from, any_has, from_filter, from_flat, from_map, has_either, none_of, true_false}
use Rattle.class_mapping.proofs.Lists.{and_left, and_right, or_left, or_none, or_right}
use Rattle.object_arena.specs.Graph as graphs
use Rattle.object_arena.specs.Graph.{Graph, IsObject, is_persistent, object_at}
use Rattle.object_arena.specs.Identity.{id_of_place}
use Rattle.flush_order.specs.Orders.{place_of_gone}
use Rattle.flush_order.specs.Sorted.{Place, same_place}
use Rattle.flush_writes.specs.Writes.{place_of_changed}
use Rattle.object_rows.specs.declared.prepared.Prepared.{Prepared}
use Rattle.object_rows.specs.Rows as rows
use Rattle.object_rows.specs.Seen.{keeps_rows, object_ids}
use Rattle.object_rows.proofs.ObjectSteps.{all_made}
use Rattle.pair_rows.specs.Pairs.{lost_rows}
use Rattle.row_project.specs.Changes.{object_changes}
use Rattle.row_switches.proofs.Each.{all_filter, each_to}
use Rattle.session_laws.proofs.Plans.Differing.{Differ, IsNotIn, apart_both, apart_filter, apart_of}
use Rattle.session_laws.specs.Projects.{AreRowsApart}
use Rattle.session_laws.proofs.Projects.Apart.{differs, once_of}
use Rattle.session_laws.proofs.Projects.LateKeys.{each_has}
use Rattle.session_laws.specs.Graphs.{AreKeyed, HasRow, HasTablesOnce, key_held}

-- ---- objects that differ

-- no two have one number
abbrev Distinct : List ObjId → Type 0
Distinct [] = Unit {0}
Distinct (object ∷ objects) = AllByRecursion (λ (other : ObjId). object.0 ≡ other.0 → ⊥) objects × Distinct objects

distinct_once : (objects : List ObjId) → some_two (λ (one other : ObjId). one.0 == other.0) objects ≡ false → Distinct objects
distinct_once [] h = tt
distinct_once (object ∷ objects) h =
    let here = or_left (list_any (λ (later : ObjId). later.0 == object.0) objects) (some_two (λ (one other : ObjId). one.0 == other.0) objects) h in
    let rest = or_right (list_any (λ (later : ObjId). later.0 == object.0) objects) (some_two (λ (one other : ObjId). one.0 == other.0) objects) h in (
      all_from (λ (other : ObjId). object.0 ≡ other.0 → ⊥) objects
          (λ other has same. true_false (other.0 == object.0) (eq-eqb other.0 object.0 (sym same)) (none_of (λ (later : ObjId). later.0 == object.0) objects other here has)),
      distinct_once objects rest,
    )

-- numbers from one on are above those before it
pub above : (least first count : ℕ) → least ≤ first → AllByRecursion (λ (object : ObjId). least < object.0) (map id_of_place (range_with_len first count))
above least first zero h = tt
above least first (suc count) h = (omega (arith, h), above least (first + 1) count (omega (arith, h)))

distinct_ids : (first count : ℕ) → Distinct (map id_of_place (range_with_len first count))
distinct_ids first zero = tt
distinct_ids first (suc count) = (
  each_to (λ (object : ObjId). first + 1 < object.0) (λ (object : ObjId). first + 1 ≡ object.0 → ⊥) (λ object less same. omega (arith, less, same))
      (map id_of_place (range_with_len (first + 1) count)) (above (first + 1) (first + 1) count (omega arith)),
  distinct_ids (first + 1) count,
)

distinct_filter : (test : ObjId → Bool) (objects : List ObjId) → Distinct objects → Distinct (filter test objects)
distinct_filter test [] d = tt
distinct_filter test (object ∷ objects) d = by (test object) (distinct_filter test objects d.1)
  where
    by : (b : Bool) → Distinct (filter test objects) → Distinct (cond b (object ∷ filter test objects) (filter test objects))
    by true rest = (all_filter (λ (other : ObjId). object.0 ≡ other.0 → ⊥) test objects d.0, rest)
    by false rest = rest

-- ---- rows of objects that differ

differ_flat : {B : Type 0} (f : ObjId → List B) (place : B → Place) (objects : List ObjId) → Distinct objects → ((object : ObjId) → Has objects object → Differ (map place (f object)))
    → ((one other : ObjId) → Has objects one → Has objects other → (b c : B) → Has (f one) b → Has (f other) c → place b ≡ place c → one.0 ≡ other.0) → Differ (map place (flat_map f objects))
differ_flat f place [] d each same = tt
differ_flat f place (object ∷ objects) d each same =
    subst Differ (sym (map-append place (f object) (flat_map f objects)))
    (apart_both (map place (f object)) (map place (flat_map f objects)) (each object (inl refl))
    (differ_flat f place objects d.1 (λ other has. each other (inr has)) (λ one other has inside. same one other (inr has) (inr inside)))
    (all_from (λ p. IsNotIn p (map place (flat_map f objects))) (map place (f object)) (λ p has.
    let b = from_map place (f object) p has in
    all_from (λ (q : Place). q ≡ p → ⊥) (map place (flat_map f objects)) (λ q inside is.
    let c = from_map place (flat_map f objects) q inside in
    let other = from_flat f objects c.0 c.1 in
    each_has (λ (y : ObjId). object.0 ≡ y.0 → ⊥) objects other.0 d.0 other.1
    (same object other.0 (inl refl) (inr other.1) b.0 c.0 b.1 other.2 (b.2 ∙ sym is ∙ sym c.2))))))

-- rows of tables that differ
differ_tables : {B : Type 0} (place : B → Place) (g : TableId → B) → ((table : TableId) → (place (g table)).0 ≡ table) → (tables : List TableId) → some_two (λ (one other : TableId). one.0 == other.0) tables ≡ false → Differ (map place (map g tables))
differ_tables place g own [] h = tt
differ_tables place g own (table ∷ tables) h =
    let here = or_left (list_any (λ (later : TableId). later.0 == table.0) tables) (some_two (λ (one other : TableId). one.0 == other.0) tables) h in
    let rest = or_right (list_any (λ (later : TableId). later.0 == table.0) tables) (some_two (λ (one other : TableId). one.0 == other.0) tables) h in (
      all_from (λ (q : Place). q ≡ place (g table) → ⊥) (map place (map g tables)) (λ q has is.
          let b = from_map place (map g tables) q has in
          let other = from_map g tables b.0 b.1 in
          let same : other.0 ≡ table = sym (own other.0) ∙ ap (λ made. (place made).0) other.2 ∙ ap (λ (p : Place). p.0) (b.2 ∙ is) ∙ own table in
          true_false (other.0.0 == table.0) (eq-eqb other.0.0 table.0 (ap (λ (t : TableId). t.0) same)) (none_of (λ (later : TableId). later.0 == table.0) tables other.0 here other.1)),
      differ_tables place g own tables rest,
    )

pub none_from : {A : Type 0} (p : A → Bool) (xs : List A) → ((x : A) → Has xs x → p x ≡ false) → list_any p xs ≡ false
none_from p [] each = refl
none_from p (x ∷ xs) each = or_none (p x) (list_any p xs) (each x (inl refl)) (none_from p xs (λ y has. each y (inr has)))

pub among_of : (tables : List TableId) (table : TableId) → Has tables table → is_among tables table ≡ true
among_of tables table has = any_has (λ (other : TableId). other.0 == table.0) tables table has (eq-eqb table.0 table.0 refl)

module _ (mapped : Mapped) (graph : Graph) (prepared : Prepared) (tables : HasTablesOnce mapped) (keyed : AreKeyed mapped graph prepared) where
  -- a row of an object: of a table of its class, under its key
  abbrev pub IsRowOf : ObjId → Place → Type 0
  IsRowOf object place = (table : TableId) × HasRow mapped graph table object × (place ≡ (table, key_held graph object))

  pub one_object : (one other : ObjId) (p q : Place) → IsRowOf one p → IsRowOf other q → p ≡ q → one.0 ≡ other.0
  one_object one other p q a b same =
      let both : (a.0, key_held graph one) ≡ (b.0, key_held graph other) = sym a.2 ∙ same ∙ b.2 in
      let table : b.0 ≡ a.0 = sym (ap (λ (place : Place). place.0) both) in
      keyed.alone a.0 one other a.1 (subst (λ t. HasRow mapped graph t other) table b.1) (ap (λ (place : Place). place.1) both)

  -- ---- deleted rows

  deleted_row : (object : ObjId) (table : TableId) → Has prepared.deleted object → Has (tables_of mapped (object_at graph object).class) table → HasRow mapped graph table object
  deleted_row object table has inside = (
    each_has (IsObject graph) prepared.deleted object keyed.made has,
    each_has (λ (o : ObjId). is_persistent (object_at graph o).state ≡ true) prepared.deleted object keyed.standing has,
    among_of (tables_of mapped (object_at graph object).class) table inside,
  )

  pub gone_place : (object : ObjId) (row : GoneRow) → Has prepared.deleted object → Has (rows.rows_gone mapped graph object) row → IsRowOf object (place_of_gone mapped.schema row)
  gone_place object row has inside =
      let made = from_map (rows.gone_row mapped graph object) (tables_of mapped (object_at graph object).class) row inside in
      let stands = deleted_row object made.0 has made.1 in (
        made.0,
        stands,
        ap (place_of_gone mapped.schema) (sym made.2)
            ∙ ap (λ (key : List Value). (made.0, key)) (keyed.read object made.0 (any_has (λ (other : ObjId). other.0 == object.0) prepared.deleted object has (eq-eqb object.0 object.0 refl)) stands.2),
      )

  gone_differ : Differ (map (place_of_gone mapped.schema) (rows.gone_rows mapped graph prepared))
  unfolding rows.gone_rows
  gone_differ =
      differ_flat (rows.rows_gone mapped graph) (place_of_gone mapped.schema) prepared.deleted (distinct_once prepared.deleted keyed.once)
      (λ object has. differ_tables (place_of_gone mapped.schema) (rows.gone_row mapped graph object) (λ table. refl) (tables_of mapped (object_at graph object).class) (tables (object_at graph object).class))
      (λ one other has inside b c here there same. one_object one other (place_of_gone mapped.schema b) (place_of_gone mapped.schema c) (gone_place one b has here) (gone_place other c inside there) same)

  -- no pair is of a table of a class
  not_of_pair : (object : ObjId) (p : Place) (row : GoneRow) → IsRowOf object p → Has (lost_rows mapped graph prepared) row → place_of_gone mapped.schema row ≡ p → ⊥
  not_of_pair object p row is has same =
      let class = (object_at graph object).class in
      let table : is.0 ≡ row.name.table = sym (ap (λ (place : Place). place.0) (same ∙ is.2)) in
      true_false (is_among (tables_of mapped class) row.name.table) (ap (is_among (tables_of mapped class)) (sym table) ∙ is.1.2)
      (each_has (λ (r : GoneRow). is_among (tables_of mapped class) r.name.table ≡ false) (lost_rows mapped graph prepared) row (keyed.secondary class) has)

  all_gone_differ : Differ (map (place_of_gone mapped.schema) (object_changes mapped graph prepared).gone)
  unfolding rows.gone_rows
  all_gone_differ =
      let gone = rows.gone_rows mapped graph prepared in
      let lost = lost_rows mapped graph prepared in
      subst Differ (sym (map-append (place_of_gone mapped.schema) gone lost))
      (apart_both (map (place_of_gone mapped.schema) gone) (map (place_of_gone mapped.schema) lost) gone_differ (apart_of (place_of_gone mapped.schema) lost keyed.pairs)
      (all_from (λ p. IsNotIn p (map (place_of_gone mapped.schema) lost)) (map (place_of_gone mapped.schema) gone) (λ p has.
      let row = from_map (place_of_gone mapped.schema) gone p has in
      let object = from_flat (rows.rows_gone mapped graph) prepared.deleted row.0 row.1 in
      all_from (λ (q : Place). q ≡ p → ⊥) (map (place_of_gone mapped.schema) lost) (λ q inside is.
      let other = from_map (place_of_gone mapped.schema) lost q inside in
      not_of_pair object.0 (place_of_gone mapped.schema row.0) other.0 (gone_place object.0 row.0 object.1 object.2) other.1 (other.2 ∙ is ∙ sym row.2)))))

  -- ---- changed rows

  pub kept_place : (object : ObjId) (row : ChangedRow) → Has (filter (keeps_rows graph prepared) (object_ids graph)) object → Has (rows.rows_changed mapped graph prepared (rows.new_names mapped graph prepared) object) row
      → IsRowOf object (place_of_changed row)
  kept_place object row has inside =
      let kept = from_filter (keeps_rows graph prepared) (object_ids graph) object has in
      let names = rows.new_names mapped graph prepared in
      let list = tables_of mapped (object_at graph object).class in
      let one = from_filter rows.has_cells (map (rows.changed_row mapped graph prepared names object) list) row inside in
      let made = from_map (rows.changed_row mapped graph prepared names object) list row one.0 in (
        made.0,
        (
          each_has (IsObject graph) (object_ids graph) object (recursion_from_All (IsObject graph) (object_ids graph) (all_made graph (object_ids graph) refl)) kept.0,
          and_left (is_persistent (object_at graph object).state) (not (graphs.is_among prepared.deleted object)) kept.1,
          among_of list made.0 made.1,
        ),
        ap place_of_changed (sym made.2),
      )

  ids_differ : Distinct (object_ids graph)
  unfolding object_ids
  ids_differ = distinct_ids 0 (length graph.objects)

  changed_differ : Differ (map place_of_changed (rows.changed_rows mapped graph prepared))
  unfolding rows.changed_rows
  changed_differ =
      let names = rows.new_names mapped graph prepared in
      differ_flat (rows.rows_changed mapped graph prepared names) place_of_changed (filter (keeps_rows graph prepared) (object_ids graph)) (distinct_filter (keeps_rows graph prepared) (object_ids graph) ids_differ)
      (λ object has. apart_filter place_of_changed rows.has_cells (map (rows.changed_row mapped graph prepared names object) (tables_of mapped (object_at graph object).class))
      (differ_tables place_of_changed (rows.changed_row mapped graph prepared names object) (λ table. refl) (tables_of mapped (object_at graph object).class) (tables (object_at graph object).class)))
      (λ one other has inside b c here there same. one_object one other (place_of_changed b) (place_of_changed c) (kept_place one b has here) (kept_place other c inside there) same)

  -- ---- both

  not_both : (row : GoneRow) (other : ChangedRow) → Has (object_changes mapped graph prepared).gone row → Has (rows.changed_rows mapped graph prepared) other → place_of_gone mapped.schema row ≡ place_of_changed other → ⊥
  unfolding rows.gone_rows rows.changed_rows
  not_both row other has inside same =
      let kept = from_flat (rows.rows_changed mapped graph prepared (rows.new_names mapped graph prepared)) (filter (keeps_rows graph prepared) (object_ids graph)) other inside in
      let stands = kept_place kept.0 other kept.1 kept.2 in
      by kept.0 stands (from_filter (keeps_rows graph prepared) (object_ids graph) kept.0 kept.1).1 (has_either (rows.gone_rows mapped graph prepared) (lost_rows mapped graph prepared) row has)
    where
      no_more : (b : Bool) → not b ≡ true → b ≡ false
      no_more true h = absurd (cc)
      no_more false h = refl

      by : (object : ObjId) → IsRowOf object (place_of_changed other) → keeps_rows graph prepared object ≡ true → Has (rows.gone_rows mapped graph prepared) row ⊎ Has (lost_rows mapped graph prepared) row → ⊥
      by object stands keeps (inr pair) = not_of_pair object (place_of_changed other) row stands pair same
      by object stands keeps (inl own) =
          let gone = from_flat (rows.rows_gone mapped graph) prepared.deleted row own in
          let one : gone.0.0 ≡ object.0 = one_object gone.0 object (place_of_gone mapped.schema row) (place_of_changed other) (gone_place gone.0 row gone.1 gone.2) stands same in
          true_false (graphs.is_among prepared.deleted object)
          (any_has (λ (o : ObjId). o.0 == object.0) prepared.deleted gone.0 gone.1 (eq-eqb gone.0.0 object.0 one))
          (no_more (graphs.is_among prepared.deleted object) (and_right (is_persistent (object_at graph object).state) (not (graphs.is_among prepared.deleted object)) keeps))

  pub rows_apart : AreRowsApart mapped.schema (object_changes mapped graph prepared)
  rows_apart = record {
    changed = once_of place_of_changed (rows.changed_rows mapped graph prepared) changed_differ;
    gone = once_of (place_of_gone mapped.schema) (object_changes mapped graph prepared).gone all_gone_differ;
    both = none_from (λ (row : GoneRow). list_any (λ (other : ChangedRow). same_place (place_of_gone mapped.schema row) (place_of_changed other)) (rows.changed_rows mapped graph prepared)) (object_changes mapped graph prepared).gone
        (λ row has. none_from (λ (other : ChangedRow). same_place (place_of_gone mapped.schema row) (place_of_changed other)) (rows.changed_rows mapped graph prepared)
        (λ other inside. differs (place_of_gone mapped.schema row) (place_of_changed other) (not_both row other has inside)));
  }
