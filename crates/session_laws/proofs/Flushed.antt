-- Nothing is left to write after success of a flush.
use Rattle.std.proofs.Common.{◌≡◌, ℕ, ◌<◌, ◌≤◌, Bool, true, false, cond, ◌&&◌, ◌||◌, ◌==◌, List, [], ◌∷◌, ◌++◌, length, map, get_or, Option, None, Some, refl, sym, ap, ◌∙◌, subst, ⊎_elim}
use Rattle.std.specs.Prelude.{Ok, fold, is_some, not, slice_get, unwrap_or, if◌then◌else◌}
use Rattle.std.specs.List.{enumerate_from, filter, filter_map, flat_map, position}
use Rattle.std.specs.Map.{values_of}
use Rattle.std.specs.Option.{option_and_then, option_map}
use Rattle.std.proofs.lemmas.Bool.{and_parts, cases_lt, eq-eqb, or_left, or_right}
use Rattle.std.proofs.lemmas.List.{get_or_past}
use Rattle.std.proofs.lemmas.Option.{slice_get-map, unwrap_or-slice_get}
use Rattle.base_core.specs.declared.ids.ObjId.{ObjId}
use Rattle.base_core.specs.declared.ids.RelNo.{RelNo}
use Rattle.base_core.specs.declared.ids.TableId.{TableId}
use Rattle.base_core.specs.declared.refusal.RowName.{RowName}
use Rattle.base_core.specs.declared.refusal.Warning.{Warning}
use Rattle.base_core.specs.declared.value.Value.{Value}
use Rattle.schema_core.specs.declared.changes.ChangedRow.{ChangedRow}
use Rattle.schema_core.specs.declared.changes.GoneRow.{GoneRow}
use Rattle.schema_core.specs.declared.changes.NewRow.{NewRow}
use Rattle.schema_core.specs.declared.changes.Planned.{Planned}
use Rattle.schema_core.specs.declared.changes.RowCell.{RowCell}
use Rattle.schema_core.specs.declared.changes.RowCell.TheVariants.{Given}
use Rattle.schema_core.specs.declared.changes.RowChanges.{RowChanges}
use Rattle.schema_core.specs.declared.table.ColumnSpec.{ColumnSpec}
use Rattle.schema_core.specs.Catalog.{Catalog}
use Rattle.schema_core.specs.DependencyOrder.{table_ids}
use Rattle.class_layouts.specs.Faults.{foreigns_in}
use Rattle.class_mapping.specs.Mapped.{Mapped, attribute_of, attributes_of, is_key_attribute, relations_of, tables_of}
use Rattle.object_arena.specs.declared.object.Cell.{Cell}
use Rattle.object_arena.specs.declared.object.Link.{Link}
use Rattle.object_arena.specs.declared.object.Link.TheVariants.{Unset, Unloaded, One, Many}
use Rattle.object_arena.specs.declared.object.Object.{Object}
use Rattle.object_arena.specs.declared.object.State.{State}
use Rattle.object_arena.specs.declared.object.State.TheVariants.{Transient, Pending, Persistent, Deleted, Detached}
use Rattle.object_arena.specs.Fit.{is_empty}
use Rattle.object_arena.specs.Graph.{Graph, Queue, is_among, is_pending, is_persistent, no_object, object_at, place_of, root_at}
use Rattle.object_arena.specs.Identity.{id_of_place, is_other}
use Rattle.object_rows.specs.Cells.{first_cell, is_by, linked_cell, or_first, put_cell, relation_cell}
use Rattle.object_rows.specs.Rows.{cell_change, cell_for, change_in, changed_cell, changed_row, changed_rows, columns_at, gone_rows, has_cells, in_column, is_at, new_names, new_row, new_rows, own_change, rows_changed, rows_of}
use Rattle.object_rows.specs.Seen.{changed_end, is_in_session, is_new, keeps_rows, link_of, new_objects, object_ids, with_queued}
use Rattle.object_rows.specs.Late.{late_keys}
use Rattle.row_order.specs.Places.{first_places, least_left, order, order_or_cycle}
use Rattle.flush_order.specs.Sorted.{sorted_numbers}
use Rattle.flush_plan.specs.Planning.{late_in, plan}
use Rattle.pair_rows.specs.Pairs.{Pair, as_set, first_rows, has_key, is_made, is_parted, lost_by, lost_from, lost_of, lost_pairs, lost_row, lost_rows, made_by, made_from, made_of, made_pairs, made_row, made_rows, members_added, members_before, members_removed, pair_of, relations_at, without}
use Rattle.row_project.specs.Warnings.{warnings}
use Rattle.row_project.specs.Changes.{object_changes, rows_lost}
use Rattle.row_partners.specs.Partners.{partners}
use Rattle.row_switches.specs.Switch.{with_switches}
use Rattle.object_records.proofs.Exact.{value_itself}
use Rattle.graph_flushed.specs.Flushed.{Written, deleted_object, graph_written, held_cell, held_or, kept_cell, kept_link, key_of, new_cell, new_object, new_value, object_flushed, object_in, prepared_links, staying_cell, staying_object, state_under, state_unless, value_come}
use Rattle.graph_flushed.specs.Keys.{new_holder}
use Rattle.graph_flushed.proofs.ObjectSteps.{flushed_at, flushed_long}
use Rattle.session_laws.specs.Flushed.{NoRowChanges, NoRowIsNew, NoStatementIsPlanned, nothing_prepared}

-- ---- lists of which nothing is left

nothing_mapped : {A B : Type 0} (f : A → Option B) (xs : List A) → ((x : A) → f x ≡ None) → filter_map f xs ≡ []
nothing_mapped f [] none = refl
nothing_mapped f (x ∷ xs) none = rw (none x) (nothing_mapped f xs none)

pub nothing_passes : {A B : Type 0} (test : B → Bool) (f : A → B) (xs : List A) → ((x : A) → test (f x) ≡ false) → filter test (map f xs) ≡ []
nothing_passes test f [] none = refl
nothing_passes test f (x ∷ xs) none = rw (none x) (nothing_passes test f xs none)

nothing_flat : {A B : Type 0} (f : A → List B) (test : A → Bool) (xs : List A) → ((x : A) → test x ≡ true → f x ≡ []) → flat_map f (filter test xs) ≡ []
nothing_flat f test [] none = refl
nothing_flat f test (x ∷ xs) none = by_test (test x) refl (nothing_flat f test xs none)
  where
    by_test : (b : Bool) → test x ≡ b → flat_map f (filter test xs) ≡ [] → flat_map f (cond b (x ∷ filter test xs) (filter test xs)) ≡ []
    by_test true is rest = ap (λ ys. ys ++ flat_map f (filter test xs)) (none x is) ∙ rest
    by_test false is rest = rest

first_none : {A : Type 0} (f : A → Option RowCell) (xs : List A) → ((x : A) → f x ≡ None) → first_cell (map f xs) ≡ None
first_none f [] none = refl
first_none f (x ∷ xs) none = ap (λ (o : Option RowCell). or_first o (first_cell (map f xs))) (none x) ∙ first_none f xs none

from_map : {A B : Type 0} (P : B → Type 0) (f : A → B) (xs : List A) (p : ℕ) (own : B) → slice_get (map f xs) p ≡ Some own → ((x : A) → P (f x)) → P own
from_map {A} P f xs p own at each = by_found (slice_get xs p) (sym (slice_get-map f xs p) ∙ at)
  where
    by_found : (found : Option A) → option_map f found ≡ Some own → P own
    by_found None is = absurd cc
    by_found (Some x) is = let same : f x ≡ own = cc in subst P same (each x)

-- ---- no object is pending

unless_settled : (b : Bool) → is_pending (state_unless b) ≡ false
unless_settled true = refl
unless_settled false = refl

under_settled : (written : Written) (object : ObjId) (identity : Option (List Value)) → is_pending (state_under written object identity) ≡ false
under_settled written object None = refl
under_settled written object (Some key) = unless_settled (is_other object (new_holder written.keys written.graph.roots (root_at written.graph object) key))

new_settled : (written : Written) (object : ObjId) (it : Object) (key : Option (List Value)) → is_pending (new_object written object key it).state ≡ false
new_settled written object it None = refl
new_settled written object it (Some key) = under_settled written object (Some key)

old_settled : (written : Written) (object : ObjId) (it : Object) (gone : Bool) → is_pending (if gone then deleted_object written object it else staying_object written object it).state ≡ false
old_settled written object it true = refl
old_settled written object it false = under_settled written object it.identity

pub settled_in : (written : Written) (object : ObjId) (it : Object) (state : State) → it.state ≡ state → is_pending (object_in state written object it).state ≡ false
settled_in written object it Transient is = ap is_pending is
settled_in written object it Pending is = new_settled written object it (key_of written object)
settled_in written object it Persistent is = old_settled written object it (is_among written.prepared.deleted object)
settled_in written object it Deleted is = ap is_pending is
settled_in written object it Detached is = ap is_pending is

-- what holds of each object after success, and of none, holds of each number
pub at_each : (P : Object → Type 0) (written : Written) (object : ObjId)
    → ((place : ℕ) → place < length written.graph.objects → P (object_flushed written (id_of_place place) (get_or written.graph.objects place no_object))) → P no_object → P (object_at (graph_written written) object)
at_each P written object each none =
    ⊎_elim (λ (inside : place_of object < length written.graph.objects). subst P (sym (flushed_at written (place_of object) inside)) (each (place_of object) inside))
    (λ (past : length written.graph.objects ≤ place_of object). subst P (sym (get_or_past (graph_written written).objects (place_of object) no_object (rw (flushed_long written) past))) none)
    (cases_lt (place_of object) (length written.graph.objects))

not_new : (written : Written) (object : ObjId) → is_new (graph_written written) nothing_prepared object ≡ false
not_new written object =
    ap (λ (b : Bool). b && not (is_among nothing_prepared.transient object))
    (at_each (λ (it : Object). is_pending it.state ≡ false) written object
    (λ place inside. settled_in written (id_of_place place) (get_or written.graph.objects place no_object) (get_or written.graph.objects place no_object).state refl) refl)

not_queued : (written : Written) (queue : Queue) (objects : List ObjId) → fold (with_queued (graph_written written) nothing_prepared) queue objects ≡ queue
not_queued written queue [] = refl
not_queued written queue (object ∷ objects) = rw (not_new written object) (not_queued written queue objects)

none_new : (written : Written) → new_objects (graph_written written) nothing_prepared ≡ []
unfolding new_objects
none_new written = ap values_of (not_queued written [] (object_ids (graph_written written)))

none_named : (written : Written) → new_names written.mapping (graph_written written) nothing_prepared ≡ []
unfolding new_names
none_named written = ap (flat_map (rows_of written.mapping (graph_written written))) (none_new written)

pub no_new_row : NoRowIsNew
unfolding new_rows
no_new_row written = ap (λ (names : List RowName). map (new_row written.mapping (graph_written written) nothing_prepared names) (enumerate_from 0 names)) (none_named written)

pub ruleset new_law = (no_new_row)

-- ---- no cell or link of a persistent object is changed

held_settled : (value : Value) → own_change (held_cell value).base (held_cell value).value ≡ None
held_settled value = ap (λ (b : Bool). if b then None else Some (Given value)) (value_itself value)

held_or_settled : (value : Option Value) (cell : Cell) → (value ≡ None → own_change cell.base cell.value ≡ None) → own_change (held_or value cell).base (held_or value cell).value ≡ None
held_or_settled None cell own = own refl
held_or_settled (Some value) cell own = held_settled value

kept_settled : (cell : Cell) → own_change (kept_cell cell).base (kept_cell cell).value ≡ None
kept_settled cell = held_or_settled cell.value cell (λ none. ap (own_change cell.base) none)

staying_settled : (is_key : Bool) (come : Option Value) (cell : Cell) → (let new : Cell = (if is_key then kept_cell cell else held_or come (kept_cell cell)) in own_change new.base new.value ≡ None)
staying_settled true come cell = kept_settled cell
staying_settled false come cell = held_or_settled come (kept_cell cell) (λ none. kept_settled cell)

-- ---- collections that have what they had

none_without : (members others : List ObjId) → ((object : ObjId) → is_among members object ≡ true → is_among others object ≡ true) → without others members ≡ []
none_without [] others stay = refl
none_without (member ∷ members) others stay =
    let there : is_among others member ≡ true = stay member (or_left (member.0 == member.0) (is_among members member) (eq-eqb member.0 member.0 refl)) in
    ap (λ (b : Bool). cond (not b) (member ∷ without others members) (without others members)) there
    ∙ none_without members others (λ object among. stay object (or_right (member.0 == object.0) (is_among members object) among))

unchanged : (members : List ObjId) → without members members ≡ []
unchanged members = none_without members members (λ object among. among)

-- a link of which nothing is changed
record IsQuietLink (link : Link) : Type 0 where
  end : changed_end link ≡ None
  added : members_added link ≡ []
  removed : members_removed link ≡ []

-- no cell of the object is changed, and no link
record IsQuiet (it : Object) : Type 0 where
  cells : (p : ℕ) (own : Cell) → slice_get it.cells p ≡ Some own → own_change own.base own.value ≡ None
  links : (relation : RelNo) → IsQuietLink (link_of it relation)

link_settled : (link : Link) → IsQuietLink (kept_link link)
link_settled Unset = record { end = refl; added = refl; removed = refl }
link_settled (Unloaded added removed) = record { end = refl; added = refl; removed = refl }
link_settled (One end changed) = record { end = refl; added = refl; removed = refl }
link_settled (Many members base) = record { end = refl; added = unchanged members; removed = unchanged members }

links_settled : (links : List Link) (n : ℕ) → IsQuietLink (get_or (map kept_link links) n Unset)
links_settled links n =
    subst IsQuietLink (sym (sym (unwrap_or-slice_get (map kept_link links) n Unset) ∙ ap (λ (o : Option Link). unwrap_or o Unset) (slice_get-map kept_link links n))) (by_found (slice_get links n))
  where
    by_found : (found : Option Link) → IsQuietLink (unwrap_or (option_map kept_link found) Unset)
    by_found None = record { end = refl; added = refl; removed = refl }
    by_found (Some link) = link_settled link

new_quiet : (written : Written) (object : ObjId) (it : Object) (key : Option (List Value)) → is_persistent (new_object written object key it).state ≡ true → IsQuiet (new_object written object key it)
new_quiet written object it None kept = absurd cc
new_quiet written object it (Some key) kept = record {
  cells = λ p own at. from_map (λ (cell : Cell). own_change cell.base cell.value ≡ None) (new_cell written object it.class key) (enumerate_from 0 it.cells) p own at (λ placed. held_settled (new_value written object it.class key placed));
  links = λ relation. links_settled (prepared_links written.prepared object it.links) relation.0;
}

old_quiet : (written : Written) (object : ObjId) (it : Object) (gone : Bool) → is_persistent (if gone then deleted_object written object it else staying_object written object it).state ≡ true
    → IsQuiet (if gone then deleted_object written object it else staying_object written object it)
old_quiet written object it true kept = absurd cc
old_quiet written object it false kept = record {
  cells = λ p own at.
      from_map (λ (cell : Cell). own_change cell.base cell.value ≡ None) (staying_cell written object it.class) (enumerate_from 0 it.cells) p own at
      (λ placed. staying_settled (is_key_attribute written.mapping it.class (record { 0 = placed.0 })) (value_come written object (attribute_of written.mapping it.class (record { 0 = placed.0 }))) placed.1);
  links = λ relation. links_settled (prepared_links written.prepared object it.links) relation.0;
}

gone_loud : {A : Type 0} (state own : State) → own ≡ state → is_persistent state ≡ false → is_persistent own ≡ true → A
gone_loud state own is left kept = absurd (let e : true ≡ false = sym kept ∙ ap is_persistent is ∙ left in cc)

quiet_in : (written : Written) (object : ObjId) (it : Object) (state : State) → it.state ≡ state → is_persistent (object_in state written object it).state ≡ true → IsQuiet (object_in state written object it)
quiet_in written object it Transient is kept = gone_loud Transient it.state is refl kept
quiet_in written object it Pending is kept = new_quiet written object it (key_of written object) kept
quiet_in written object it Persistent is kept = old_quiet written object it (is_among written.prepared.deleted object) kept
quiet_in written object it Deleted is kept = gone_loud Deleted it.state is refl kept
quiet_in written object it Detached is kept = gone_loud Detached it.state is refl kept

quiet_at : (written : Written) (object : ObjId) → is_persistent (object_at (graph_written written) object).state ≡ true → IsQuiet (object_at (graph_written written) object)
quiet_at written object =
    at_each (λ (it : Object). is_persistent it.state ≡ true → IsQuiet it) written object
    (λ place inside. quiet_in written (id_of_place place) (get_or written.graph.objects place no_object) (get_or written.graph.objects place no_object).state refl) (λ kept. absurd cc)

-- ---- no row changes

neither : {A : Type 0} (b : Bool) → (let none : Option A = None in if b then none else none) ≡ None
neither true = refl
neither false = refl

unlinked : (mapped : Mapped) (graph : Graph) (names : List RowName) (object : ObjId) (table : TableId) (name : List ℕ) → IsQuiet (object_at graph object) → linked_cell mapped graph nothing_prepared names object table name ≡ None
unlinked mapped graph names object table name quiet =
    first_none (relation_cell mapped graph nothing_prepared names object table name) (enumerate_from 0 (relations_of mapped (object_at graph object).class))
    (λ placed.
    ap (λ (put : Option (Option ObjId)). if is_by table placed.1 then put_cell mapped.schema graph nothing_prepared names name (slice_get (foreigns_in mapped.schema.tables table) placed.1.foreign.1) put else None)
    (quiet.links (record { 0 = placed.0 })).end
    ∙ neither (is_by table placed.1))

unchanged_in : (mapped : Mapped) (graph : Graph) (names : List RowName) (object : ObjId) (table : TableId) (name : List ℕ) (found : Option Cell) → IsQuiet (object_at graph object)
    → ((own : Cell) → found ≡ Some own → own_change own.base own.value ≡ None) → change_in mapped graph nothing_prepared names object table name found ≡ None
unchanged_in mapped graph names object table name None quiet same = refl
unchanged_in mapped graph names object table name (Some own) quiet same = ap (λ (linked : Option RowCell). cell_change linked own) (unlinked mapped graph names object table name quiet) ∙ same own refl

unchanged_at : (it : Object) (place : Option ℕ) (own : Cell) → IsQuiet it → option_and_then (slice_get it.cells) place ≡ Some own → own_change own.base own.value ≡ None
unchanged_at it None own quiet at = absurd cc
unchanged_at it (Some p) own quiet at = quiet.cells p own at

unchanged_cell : (mapped : Mapped) (graph : Graph) (names : List RowName) (object : ObjId) (table : TableId) (column : ℕ × ColumnSpec) → IsQuiet (object_at graph object) → changed_cell mapped graph nothing_prepared names object table column ≡ None
unchanged_cell mapped graph names object table column quiet =
    let it : Object = object_at graph object in
    ap (λ (change : Option RowCell). if column.1.key then None else in_column column.0 change)
    (unchanged_in mapped graph names object table column.1.name (cell_for mapped it table column.0) quiet (λ own at. unchanged_at it (position (is_at table column.0) (attributes_of mapped it.class)) own quiet at))
    ∙ neither column.1.key

no_row_kept : (mapped : Mapped) (graph : Graph) (names : List RowName) (object : ObjId) → IsQuiet (object_at graph object) → rows_changed mapped graph nothing_prepared names object ≡ []
no_row_kept mapped graph names object quiet =
    nothing_passes has_cells (changed_row mapped graph nothing_prepared names object) (tables_of mapped (object_at graph object).class)
    (λ table.
    ap (λ cells. not (is_empty cells))
    (nothing_mapped (changed_cell mapped graph nothing_prepared names object table) (enumerate_from 0 (columns_at mapped table)) (λ column. unchanged_cell mapped graph names object table column quiet)))

pub no_changed_row : NoRowChanges
unfolding changed_rows
no_changed_row written =
    let graph : Graph = graph_written written in
    nothing_flat (rows_changed written.mapping graph nothing_prepared (new_names written.mapping graph nothing_prepared)) (keeps_rows graph nothing_prepared) (object_ids graph)
    (λ object keeps.
    no_row_kept written.mapping graph (new_names written.mapping graph nothing_prepared) object
    (quiet_at written object (and_parts (is_persistent (object_at graph object).state) (not (is_among nothing_prepared.deleted object)) keeps).0))

-- ---- no pair is made or taken away

nothing_joined : {A B : Type 0} (f : A → List B) (xs : List A) → ((x : A) → f x ≡ []) → flat_map f xs ≡ []
nothing_joined f [] none = refl
nothing_joined f (x ∷ xs) none = ap (λ ys. ys ++ flat_map f xs) (none x) ∙ nothing_joined f xs none

none_passes : {A : Type 0} (xs : List A) → filter (λ x. false) xs ≡ []
none_passes [] = refl
none_passes (x ∷ xs) = none_passes xs

none_either : {A : Type 0} (b : Bool) (xs : List A) → (b ≡ true → xs ≡ []) → (if b then xs else []) ≡ []
none_either true xs none = none refl
none_either false xs none = refl

-- an object in the session is persistent then
standing : (written : Written) (object : ObjId) → is_in_session (graph_written written) nothing_prepared object ≡ true → is_persistent (object_at (graph_written written) object).state ≡ true
standing written object is =
    by (is_persistent (object_at (graph_written written) object).state) (ap (λ (b : Bool). is_persistent (object_at (graph_written written) object).state || b) (sym (not_new written object)) ∙ is)
  where
    by : (b : Bool) → (b || false) ≡ true → b ≡ true
    by true is = refl
    by false is = is

made_none : (written : Written) (object : ObjId) → made_of written.mapping (graph_written written) nothing_prepared object ≡ []
made_none written object =
    let graph : Graph = graph_written written in
    none_either (is_in_session graph nothing_prepared object) (flat_map (made_by graph nothing_prepared object) (relations_at written.mapping graph object))
    (λ is.
    nothing_joined (made_by graph nothing_prepared object) (relations_at written.mapping graph object)
    (λ placed.
    none_either (is_some placed.1.far) (made_from graph nothing_prepared object placed.1 (link_of (object_at graph object) (record { 0 = placed.0 })))
    (λ far.
    ap (λ (members : List ObjId). map (pair_of placed.1 object) (filter (is_made graph nothing_prepared object) members))
    ((quiet_at written object (standing written object is)).links (record { 0 = placed.0 })).added)))

lost_none : (written : Written) (object : ObjId) → lost_of written.mapping (graph_written written) nothing_prepared object ≡ []
lost_none written object =
    let graph : Graph = graph_written written in
    none_either (is_parted graph nothing_prepared object) (flat_map (lost_by graph nothing_prepared object) (relations_at written.mapping graph object))
    (λ is.
    nothing_joined (lost_by graph nothing_prepared object) (relations_at written.mapping graph object)
    (λ placed.
    let link : Link = link_of (object_at graph object) (record { 0 = placed.0 }) in
    let quiet : IsQuietLink link = (quiet_at written object (standing written object (and_parts (is_in_session graph nothing_prepared object) (has_key graph object) is).0)).links (record { 0 = placed.0 }) in
    none_either (is_some placed.1.far) (lost_from graph nothing_prepared object placed.1 link)
    (λ far.
    ap (λ (members : List ObjId). map (pair_of placed.1 object) members ++ map (pair_of placed.1 object) (filter (is_parted graph nothing_prepared) (members_removed link))) (none_passes (members_before link))
    ∙ ap (λ (members : List ObjId). map (pair_of placed.1 object) (filter (is_parted graph nothing_prepared) members)) quiet.removed)))

no_pair_made : (written : Written) → made_rows written.mapping (graph_written written) nothing_prepared ≡ []
unfolding made_rows made_pairs
no_pair_made written =
    ap (λ (pairs : List Pair). map (made_row written.mapping (graph_written written) (new_names written.mapping (graph_written written) nothing_prepared)) (as_set pairs))
    (nothing_joined (made_of written.mapping (graph_written written) nothing_prepared) (object_ids (graph_written written)) (made_none written))

no_pair_lost : (written : Written) → lost_rows written.mapping (graph_written written) nothing_prepared ≡ []
unfolding lost_rows lost_pairs
no_pair_lost written =
    ap (λ (pairs : List Pair). first_rows written.mapping.schema (map (lost_row written.mapping (graph_written written)) (as_set pairs)))
    (nothing_joined (lost_of written.mapping (graph_written written) nothing_prepared) (object_ids (graph_written written)) (lost_none written))

-- ---- no statement is planned

-- nothing is changed
abbrev no_change : List (TableId × ℕ) → List Warning → RowChanges
no_change post warnings = record { fresh = []; changed = []; gone = []; post = post; warnings = warnings }

none_gone : (mapped : Mapped) (graph : Graph) → gone_rows mapped graph nothing_prepared ≡ []
unfolding gone_rows
none_gone mapped graph = refl

nothing_changed : (written : Written) → object_changes written.mapping (graph_written written) nothing_prepared ≡ no_change (late_keys written.mapping) (warnings written.mapping (graph_written written) nothing_prepared)
nothing_changed written =
    let mapped : Mapped = written.mapping in
    let graph : Graph = graph_written written in
    let fresh : new_rows mapped graph nothing_prepared ++ made_rows mapped graph nothing_prepared ≡ [] =
    ap (λ rows. rows ++ made_rows mapped graph nothing_prepared) (no_new_row written) ∙ no_pair_made written in
    let gone : gone_rows mapped graph nothing_prepared ++ lost_rows mapped graph nothing_prepared ≡ [] =
    ap (λ rows. rows ++ lost_rows mapped graph nothing_prepared) (none_gone mapped graph) ∙ no_pair_lost written in
    ap (λ (rows : List NewRow). record {
      fresh = rows;
      changed = changed_rows mapped graph nothing_prepared;
      gone = rows_lost mapped graph nothing_prepared;
      post = late_keys mapped;
      warnings = warnings mapped graph nothing_prepared;
    }) fresh
    ∙ ap (λ (rows : List ChangedRow). record {
      fresh = [];
      changed = rows;
      gone = rows_lost mapped graph nothing_prepared;
      post = late_keys mapped;
      warnings = warnings mapped graph nothing_prepared;
    }) (no_changed_row written)
    ∙ ap (λ (rows : List GoneRow). record {
      fresh = [];
      changed = [];
      gone = rows;
      post = late_keys mapped;
      warnings = warnings mapped graph nothing_prepared;
    }) gone

no_switch : (mapped : Mapped) (graph : Graph) (post : List (TableId × ℕ)) (told : List Warning) → with_switches mapped graph (no_change post told) ≡ no_change post told
unfolding partners
no_switch mapped graph post told = refl

nothing_planned : (schema : Catalog) (post : List (TableId × ℕ)) (told : List Warning) → plan schema (no_change post told) ≡ Ok []
unfolding plan order_or_cycle order first_places least_left sorted_numbers
nothing_planned schema post told =
    ap (λ (late : List Planned). Ok (late ++ [])) (nothing_joined (late_in schema (no_change post told) []) (table_ids schema) (λ table. refl))

pub no_statement : NoStatementIsPlanned
no_statement written =
    let post : List (TableId × ℕ) = late_keys written.mapping in
    let told : List Warning = warnings written.mapping (graph_written written) nothing_prepared in
    ap (plan written.mapping.schema) (ap (with_switches written.mapping (graph_written written)) (nothing_changed written) ∙ no_switch written.mapping (graph_written written) post told)
    ∙ nothing_planned written.mapping.schema post told

pub ruleset changed_law = (no_changed_row)

pub ruleset planned_law = (no_statement)
