-- The names of new rows: each object's rows stand one behind another, each once, before the rows of pairs.
use Rattle.std.proofs.Common.{◌≡◌, ℕ, zero, suc, ◌+◌, ◌<◌, ◌≤◌, Bool, true, false, cond, ◌==◌, if◌then◌else◌, List, [], ◌∷◌, length, map, fold, get_or, Option, None, Some, refl, sym, ap, ◌∙◌, arith}
use Rattle.std.specs.Prelude.{slice_get}
use Rattle.std.specs.BTreeMap.{insert_entry}
use Rattle.std.specs.List.{count_by, enumerate_from, position, range_with_len}
use Rattle.std.specs.Map.{values_of}
use Rattle.std.specs.Ordering.{match_ordering}
use Rattle.std.specs.declared.cmp.Ordering.{Ordering}
use Rattle.std.specs.declared.cmp.Ordering.TheVariants.{Less, Equal, Greater}
use Rattle.std.proofs.lemmas.Bool.{and_from, and_parts, eq-eqb, eqb-true}
use Rattle.std.proofs.lemmas.List.{get_or-map, get_or_append_left, length-map, length-append}
use Rattle.std.proofs.lemmas.List.Sums.{sum_by-cons}
use Rattle.std.proofs.lemmas.List.FromFn.{get_or-enumerate_from, length-enumerate_from}
use Rattle.std.proofs.lemmas.List.Quantifiers.{position-Some}
use Rattle.std.proofs.lemmas.Option.{get_or_from_slice_get, slice_get-get_or, slice_get-map, slice_get_within}
use Rattle.base_core.specs.declared.ids.ObjId.{ObjId}
use Rattle.base_core.specs.declared.ids.TableId.{TableId}
use Rattle.schema_core.specs.declared.changes.RowChanges.{RowChanges}
use Rattle.base_core.specs.declared.refusal.RowName.{RowName}
use Rattle.class_mapping.specs.Mapped.{Mapped, tables_of}
use Rattle.class_mapping.proofs.Having.{from_map}
use Rattle.object_arena.specs.Graph.{Graph, object_at, rank_cmp}
use Rattle.object_arena.specs.Identity.{id_of_place}
use Rattle.flush_order.specs.Cells.{new_at, no_row}
use Rattle.object_rows.specs.declared.prepared.Prepared.{Prepared}
use Rattle.object_rows.specs.Places.{is_row_of}
use Rattle.object_rows.specs.Rows.{new_names, new_row, new_rows, row_name, rows_of}
use Rattle.object_rows.specs.Seen.{is_new, new_objects, object_ids, with_queued}
use Rattle.pair_rows.specs.Pairs.{made_rows}
use Rattle.row_project.specs.Changes.{object_changes}
use Rattle.session_laws.specs.Graphs.{HasTablesOnce}
use Rattle.session_laws.proofs.Graphs.Named.{two_places}
use Rattle.session_laws.proofs.Projects.Passing.{some_found}
use Rattle.session_laws.proofs.Projects.Apart.{none_given}
use Rattle.session_laws.proofs.Held.Columns.{not_same}
use Rattle.session_laws.proofs.Held.Once.{StandOnce, counted_once, flat_once}

-- ---- an object is new once

one_of : ObjId → ObjId → Bool
one_of object other = other.0 == object.0

-- what is put in among entries comes once more at most
entered_count : {K X : Type 0} (p : X → Bool) (cmp : K → K → Ordering) (es : List (K × X)) (k : K) (v : X) → count_by p (values_of (insert_entry cmp es k v)) ≤ (let here : ℕ = cond (p v) 1 0 in here + count_by p (values_of es))
entered_count p cmp [] k v = omega (arith, sum_by-cons (λ z. cond (p z) 1 0) v [])
entered_count {K = K} {X = X} p cmp (e ∷ es) k v = by (cmp k e.0) (entered_count p cmp es k v)
  where
    here : X → ℕ
    here x = cond (p x) 1 0

    by : (o : Ordering) → count_by p (values_of (insert_entry cmp es k v)) ≤ here v + count_by p (values_of es)
        → count_by p (values_of (match_ordering o ((k, v) ∷ e ∷ es) ((e.0, v) ∷ es) (e ∷ insert_entry cmp es k v))) ≤ here v + count_by p (values_of (e ∷ es))
    by Less more = omega (arith, sum_by-cons here v (values_of (e ∷ es)))
    by Equal more = omega (arith, sum_by-cons here v (values_of es), sum_by-cons here e.1 (values_of es))
    by Greater more = omega (arith, more, sum_by-cons here e.1 (values_of (insert_entry cmp es k v)), sum_by-cons here e.1 (values_of es))

-- the objects of a range of places
range_count : (object : ObjId) (n count : ℕ) → object.0 ≤ n → count_by (one_of object) (map id_of_place (range_with_len n count)) ≡ 0
unfolding one_of
range_count object n zero below = refl
range_count object n (suc count) below =
    let apart : (n + 1 == object.0) ≡ false = not_same (n + 1) object.0 (λ same. omega (arith, same, below)) in
    sum_by-cons (λ (z : ObjId). cond (z.0 == object.0) 1 0) (id_of_place n) (map id_of_place (range_with_len (n + 1) count))
    ∙ (λ i. (let here : ℕ = cond (apart i) 1 0 in here) + range_count object (n + 1) count (omega (arith, below)) i)

range_once : (object : ObjId) (n count : ℕ) → count_by (one_of object) (map id_of_place (range_with_len n count)) ≤ 1
unfolding one_of
range_once object n zero = omega arith
range_once object n (suc count) = by (n + 1 == object.0) refl (range_once object (n + 1) count) (sum_by-cons (λ (z : ObjId). cond (z.0 == object.0) 1 0) (id_of_place n) (map id_of_place (range_with_len (n + 1) count)))
  where
    by : (b : Bool) → (n + 1 == object.0) ≡ b → count_by (λ (z : ObjId). z.0 == object.0) (map id_of_place (range_with_len (n + 1) count)) ≤ 1
        → count_by (λ (z : ObjId). z.0 == object.0) (id_of_place n ∷ map id_of_place (range_with_len (n + 1) count)) ≡ (let here : ℕ = cond (n + 1 == object.0) 1 0 in here + count_by (λ (z : ObjId). z.0 == object.0) (map id_of_place (range_with_len (n + 1) count)))
        → count_by (λ (z : ObjId). z.0 == object.0) (id_of_place n ∷ map id_of_place (range_with_len (n + 1) count)) ≤ 1
    by true e rest split =
        let one : (let here : ℕ = cond (n + 1 == object.0) 1 0 in here ≡ 1) = ap (λ (b : Bool). let here : ℕ = cond b 1 0 in here) e in
        omega (arith, split, one, range_count object (n + 1) count (let same : n + 1 ≡ object.0 = eqb-true (n + 1) object.0 e in omega (arith, same)))
    by false e rest split =
        let none : (let here : ℕ = cond (n + 1 == object.0) 1 0 in here ≡ 0) = ap (λ (b : Bool). let here : ℕ = cond b 1 0 in here) e in
        omega (arith, split, none, rest)

module _ (mapped : Mapped) (graph : Graph) (prepared : Prepared) where
  queued_count : (object : ObjId) (queue : List ((ℕ × ℕ) × ObjId)) (ids : List ObjId) → count_by (one_of object) (values_of (fold (with_queued graph prepared) queue ids)) ≤ count_by (one_of object) (values_of queue) + count_by (one_of object) ids
  queued_count object queue [] = omega arith
  queued_count object queue (id ∷ ids) =
      let next = with_queued graph prepared queue id in
      omega (arith, queued_count object next ids, by (is_new graph prepared id), sum_by-cons (λ z. cond (one_of object z) 1 0) id ids)
    where
      by : (b : Bool) → count_by (one_of object) (values_of (if b then insert_entry rank_cmp queue ((object_at graph id).added, id.0) id else queue)) ≤ (let here : ℕ = cond (one_of object id) 1 0 in here + count_by (one_of object) (values_of queue))
      by true = entered_count (one_of object) rank_cmp queue ((object_at graph id).added, id.0) id
      by false = omega arith

  new_count : (object : ObjId) → count_by (one_of object) (new_objects graph prepared) ≤ 1
  unfolding new_objects object_ids
  new_count object = omega (arith, queued_count object [] (map id_of_place (range_with_len 0 (length graph.objects))), range_once object 0 (length graph.objects))

  same_object : ObjId → ObjId → Bool
  same_object one other = one.0 == other.0

  objects_once : StandOnce same_object (new_objects graph prepared)
  unfolding same_object one_of
  objects_once i j one other here there same =
      counted_once (λ (z : ObjId). z.0 == one.0) (new_objects graph prepared) i j one other (new_count one) here there (eq-eqb one.0 one.0 refl) (eq-eqb other.0 one.0 (sym (eqb-true one.0 other.0 same)))

  -- ---- each of its rows has a name

  abbrev names : List RowName
  names = new_names mapped graph prepared

  same_row : RowName → RowName → Bool
  same_row one other = is_row_of one.table one.object other

  module _ (tables : HasTablesOnce mapped) where
    rows_once : (object : ObjId) → StandOnce same_row (rows_of mapped graph object)
    unfolding same_row
    rows_once object i j one other here there same =
        let list = tables_of mapped (object_at graph object).class in
        let first = none_given (row_name object) (slice_get list i) one (sym (slice_get-map (row_name object) list i) ∙ here) in
        let second = none_given (row_name object) (slice_get list j) other (sym (slice_get-map (row_name object) list j) ∙ there) in
        let table : other.table.0 ≡ one.table.0 = eqb-true other.table.0 one.table.0 (and_parts (other.table.0 == one.table.0) (other.object.0 == one.object.0) same).0 in
        let tables_same : first.0.0 ≡ second.0.0 = ap (λ (r : RowName). r.table.0) first.2 ∙ sym table ∙ sym (ap (λ (r : RowName). r.table.0) second.2) in
        two_places (λ (t u : TableId). t.0 == u.0) list i j first.0 second.0 (tables (object_at graph object).class) first.1 second.1 (eq-eqb first.0.0 second.0.0 tables_same) (eq-eqb second.0.0 first.0.0 (sym tables_same))

    names_once : StandOnce same_row (new_names mapped graph prepared)
    unfolding new_names same_row same_object
    names_once =
        flat_once (rows_of mapped graph) same_row (new_objects graph prepared) (λ object has. rows_once object)
        (λ i j one other a b here there inside within same.
        let first = from_map (row_name one) (tables_of mapped (object_at graph one).class) a inside in
        let second = from_map (row_name other) (tables_of mapped (object_at graph other).class) b within in
        let object : b.object.0 ≡ a.object.0 = eqb-true b.object.0 a.object.0 (and_parts (b.table.0 == a.table.0) (b.object.0 == a.object.0) same).1 in
        objects_once i j one other here there (eq-eqb one.0 other.0 (ap (λ (r : RowName). r.object.0) first.2 ∙ sym object ∙ sym (ap (λ (r : RowName). r.object.0) second.2))))

    -- and is found at its place
    pub name_place : (q : ℕ) (row : RowName) → slice_get (new_names mapped graph prepared) q ≡ Some row → position (is_row_of row.table row.object) (new_names mapped graph prepared) ≡ Some q
    unfolding same_row
    name_place q row at = by (position (is_row_of row.table row.object) (new_names mapped graph prepared)) refl
      where
        itself : is_row_of row.table row.object row ≡ true
        itself = and_from (row.table.0 == row.table.0) (row.object.0 == row.object.0) (eq-eqb row.table.0 row.table.0 refl) (eq-eqb row.object.0 row.object.0 refl)

        by : (found : Option ℕ) → position (is_row_of row.table row.object) (new_names mapped graph prepared) ≡ found → found ≡ Some q
        by None e =
            absurd (some_found (is_row_of row.table row.object) (new_names mapped graph prepared) q row (slice_get_within (new_names mapped graph prepared) q row at)
            (ap (is_row_of row.table row.object) (get_or_from_slice_get (new_names mapped graph prepared) q row row at) ∙ itself) e)
        by (Some k) e =
            let found = position-Some (is_row_of row.table row.object) (new_names mapped graph prepared) k row e in
            ap (λ (n : ℕ). Some n) (sym (names_once q k row (get_or (new_names mapped graph prepared) k row) at (slice_get-get_or (new_names mapped graph prepared) k row found.0) found.1))

  -- ---- and stands at its place among the new rows

  abbrev first : RowChanges
  first = object_changes mapped graph prepared

  rows_long : length (new_rows mapped graph prepared) ≡ length (new_names mapped graph prepared)
  unfolding new_rows
  rows_long = length-map (enumerate_from 0 (new_names mapped graph prepared)) (new_row mapped graph prepared (new_names mapped graph prepared)) ∙ length-enumerate_from 0 (new_names mapped graph prepared)

  pub names_within : (q : ℕ) → q < length (new_names mapped graph prepared) → q < length (object_changes mapped graph prepared).fresh
  names_within q less = omega (arith, less, rows_long, length-append (new_rows mapped graph prepared) (made_rows mapped graph prepared))

  pub first_row : (q : ℕ) (row : RowName) → slice_get (new_names mapped graph prepared) q ≡ Some row → new_at (object_changes mapped graph prepared) q ≡ new_row mapped graph prepared (new_names mapped graph prepared) (q, row)
  unfolding new_rows
  first_row q row at =
      let made = new_row mapped graph prepared (new_names mapped graph prepared) in
      let less : q < length (new_names mapped graph prepared) = slice_get_within (new_names mapped graph prepared) q row at in
      let listed : q < length (enumerate_from 0 (new_names mapped graph prepared)) = omega (arith, less, length-enumerate_from 0 (new_names mapped graph prepared)) in
      let place : 0 + q ≡ q = omega arith in
      get_or_append_left (new_rows mapped graph prepared) (made_rows mapped graph prepared) no_row q (omega (arith, less, rows_long))
      ∙ get_or-map made (enumerate_from 0 (new_names mapped graph prepared)) q (0, row) no_row listed
      ∙ ap made (get_or-enumerate_from 0 (new_names mapped graph prepared) q (0, row) less)
      ∙ (λ i. made (place i, get_or_from_slice_get (new_names mapped graph prepared) q row row at i))
