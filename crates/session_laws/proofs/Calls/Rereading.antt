-- A bulk statement keeps a session sound, since the objects of its table are to be read again; a query changes nothing.
use Rattle.std.proofs.Common.{◌≡◌, ◌≢◌, ◌<◌, Bool, true, false, ◌&&◌, List, length, Option, None, Some, Ok, Err, refl, sym, ap, ◌∙◌, arith}
use Rattle.std.specs.Prelude.{◌==◌}
use Rattle.std.specs.Cmp.Lexicographic.{as_long}
use Rattle.std.specs.List.{enumerate_from, list_any}
use Rattle.std.specs.Option.{option_and_then}
use Rattle.std.proofs.lemmas.List.{length-map}
use Rattle.base_core.specs.declared.ids.AttrNo.{AttrNo}
use Rattle.base_core.specs.declared.ids.ClassId.{ClassId}
use Rattle.base_core.specs.declared.ids.TableId.{TableId}
use Rattle.base_core.specs.declared.value.Value.{Value}
use Rattle.class_layouts.specs.Columns.{table_attributes}
use Rattle.class_types.specs.declared.mapped.Attribute.{Attribute}
use Rattle.class_layouts.specs.Hierarchy.{line_of}
use Rattle.std.proofs.lemmas.Option.{slice_get-get_or}
use Rattle.std.proofs.lemmas.Bool.{eq-eqb}
use Rattle.class_mapping.specs.Mapped.{Mapped, attribute_of, attributes_of, no_attribute, tables_of}
use Rattle.class_mapping.proofs.Having.{Has, any_has, from_flat, from_numbered, has_at, true_false}
use Rattle.mapping_laws.proofs.Attributes.{of_column}
use Rattle.expr_types.specs.declared.select.Bulk.{Bulk}
use Rattle.expr_types.specs.declared.select.Select.{Select}
use Rattle.keeper_core.specs.Calls as call
use Rattle.table_laws.proofs.Accepted.{bulk_legal}
use Rattle.object_arena.specs.declared.object.Cell.{Cell}
use Rattle.object_arena.specs.declared.object.Object.{Object}
use Rattle.object_arena.specs.Fit.{ObjectFits, cell_fits}
use Rattle.object_arena.specs.Graph.{is_persistent, no_object}
use Rattle.object_arena.specs.Identity.{is_identified}
use Rattle.keeper_core.specs.Store.{Store}
use Rattle.keeper_core.specs.Programs.{Event, ◌>>=◌, continue_from, give}
use Rattle.keeper_core.specs.Beside.{by_own, changes, on_store}
use Rattle.schema_core.specs.Tables.{Legal, Rows, Tables, row_under, rows_in}
use Rattle.sql_semantics.specs.Applied as applied
use Rattle.sql_semantics.specs.Plain.{IsPlainBulk}
use Rattle.session_scopes.specs.SessionState.{SessionState, with_notes}
use Rattle.session_calls.specs.Parts.{World}
use Rattle.session_statements.specs.Rewriting.{expired_if, graph_reread, is_reread, reread_of, session_reread}
use Rattle.session_statements.specs.Steps.{bulk, rows, send_bulk}
use Rattle.session_laws.specs.Sound.{IsFitting, IsFresh, IsMarkedRight, IsSendable, IsSound, KeepsSound, in_row, row_for}
use Rattle.session_laws.proofs.Sound.Changes.{changed_sound}
use Rattle.session_laws.proofs.Sound.Everyone.{KeepsHolders, each_changed, each_graph, expired_cells}
use Rattle.session_laws.proofs.Calls.Writing.{bulk_beside}

-- ---- an object that is to be read again

if_state : (is_read : Bool) (o : Object) → (expired_if is_read o).state ≡ o.state
if_state true o = refl
if_state false o = refl

if_identity : (is_read : Bool) (o : Object) → (expired_if is_read o).identity ≡ o.identity
if_identity true o = refl
if_identity false o = refl

if_identified : (is_read : Bool) (o : Object) → is_identified o ≡ true → is_identified (expired_if is_read o) ≡ true
if_identified true o is = is
if_identified false o is = is

if_marked : (is_read : Bool) (o : Object) → IsMarkedRight o → IsMarkedRight (expired_if is_read o)
if_marked true o right = right
if_marked false o right = right

reread_holders : (mapped : Mapped) (table : TableId) → KeepsHolders (reread_of mapped table)
reread_holders mapped table = record {
  persists = λ o is. sym (ap is_persistent (if_state (is_reread mapped table o) o)) ∙ is;
  identity = λ o is. if_identity (is_reread mapped table o) o;
  identified = λ o is. if_identified (is_reread mapped table o) o is;
}

-- ---- what is known of an object outside the written table

pub both_false : (a b : Bool) → (a && b) ≡ false → a ≡ true → b ≡ false
both_false true b is held = is
both_false false b is held = absurd cc

-- each attribute stands in a table of its class
own_table : (mapped : Mapped) (class : ClassId) (attr : AttrNo) → attr.0 < length (attributes_of mapped class) → Has (tables_of mapped class) (attribute_of mapped class attr).table
own_table mapped class attr less =
    let attribute : Attribute = attribute_of mapped class attr in
    let line : List ClassId = line_of mapped.classes class.0 in
    let has : Has (attributes_of mapped class) attribute = has_at (attributes_of mapped class) attr.0 attribute (slice_get-get_or (attributes_of mapped class) attr.0 no_attribute less) in
    let from = from_flat (table_attributes mapped.schema.tables mapped.classes line) (enumerate_from 0 (tables_of mapped class)) attribute has in
    let numbered = from_numbered 0 (tables_of mapped class) from.0 from.1 in
    has_at (tables_of mapped class) numbered.0 attribute.table (numbered.2 ∙ ap (λ (a : Attribute). Some a.table) (of_column mapped line from.0 attribute from.2).is)

row_same : (before after : Tables) (attribute : Attribute) (key : Option (List Value)) → rows_in after attribute.table ≡ rows_in before attribute.table → row_for after attribute key ≡ row_for before attribute key
row_same before after attribute None same = refl
row_same before after attribute (Some key) same = ap (λ (found : Option Rows). option_and_then (λ rows. row_under rows key) found) same

kept_fresh : (mapped : Mapped) (before after : Tables) (table : TableId) (o : Object) → ObjectFits mapped o → ((other : TableId) → other.0 ≢ table.0 → rows_in after other ≡ rows_in before other) → is_reread mapped table o ≡ false
    → IsFresh mapped before o → IsFresh mapped after o
kept_fresh mapped before after table o fits beside unread fresh = λ persists attr less base is.
    let attribute : Attribute = attribute_of mapped o.class attr in
    let own : Has (tables_of mapped o.class) attribute.table = own_table mapped o.class attr (omega (arith, less, as_long cell_fits (attributes_of mapped o.class) o.cells fits.cells)) in
    let none : list_any (λ (it : TableId). it.0 == table.0) (tables_of mapped o.class) ≡ false = both_false (is_persistent o.state) (list_any (λ (it : TableId). it.0 == table.0) (tables_of mapped o.class)) unread persists in
    let apart : attribute.table.0 ≢ table.0 =
    λ same. true_false (list_any (λ (it : TableId). it.0 == table.0) (tables_of mapped o.class)) (any_has (λ (it : TableId). it.0 == table.0) (tables_of mapped o.class) attribute.table own (eq-eqb attribute.table.0 table.0 same)) none in
    ap (in_row attribute) (row_same before after attribute o.identity (beside attribute.table apart)) ∙ fresh persists attr less base is

if_fresh : (mapped : Mapped) (before after : Tables) (table : TableId) (o : Object) (is_read : Bool) → ObjectFits mapped o → ((other : TableId) → other.0 ≢ table.0 → rows_in after other ≡ rows_in before other) → is_reread mapped table o ≡ is_read
    → IsFresh mapped before o → IsFresh mapped after (expired_if is_read o)
if_fresh mapped before after table o true fits beside at fresh = λ persists attr less base is. absurd (let h : None ≡ Some base = sym (ap (λ (c : Cell). c.base) (expired_cells o.cells attr.0)) ∙ is in cc)
if_fresh mapped before after table o false fits beside at fresh = kept_fresh mapped before after table o fits beside at fresh

-- ---- the call

-- the objects of the written table are to be read again, where the store has these tables
reread_sound : (table : TableId) (own : SessionState) (before : Store) (after : Tables) → IsFitting own → Legal own.mapping.schema after → ((other : TableId) → other.0 ≢ table.0 → rows_in after other ≡ rows_in before.tables other)
    → IsSound (record { own = own; store = before }) → IsSound (record { own = session_reread table own; store = record { tables = after; scopes = before.scopes } })
reread_sound table own before after ready legal beside sound =
    let change : Object → Object = reread_of own.mapping table in
    let IsHeld : Object → Type 0 = λ o. ObjectFits own.mapping o × IsFresh own.mapping before.tables o in
    changed_sound own (record { tables = after; scopes = before.scopes }) (graph_reread own.mapping table own.graph) ready.inside (length-map own.graph.objects change) refl
    (each_graph change own.graph (reread_holders own.mapping table) sound.graph)
    (each_changed IsHeld (IsFresh own.mapping after) change own.graph (λ place less. (ready.fit.objects place no_object less, sound.fresh place less))
    (λ o held. if_fresh own.mapping before.tables after table o (is_reread own.mapping table o) held.0 beside refl held.1))
    (each_changed IsMarkedRight IsMarkedRight change own.graph sound.marked (λ o right. if_marked (is_reread own.mapping table o) o right))
    legal sound.scopes

noted_sound : (events : List Event) (own : SessionState) (store : Store) → IsSound (record { own = own; store = store }) → IsSound (record { own = with_notes events own; store = store })
noted_sound events own store sound = record { graph = sound.graph; legal = sound.legal; fresh = sound.fresh; marked = sound.marked; scopes = sound.scopes; rest = sound.rest }

noted_fits : (events : List Event) (own : SessionState) → IsFitting own → IsFitting (with_notes events own)
noted_fits events own ready = record { inside = ready.inside; fit = ready.fit }

bulk_from : (outcome : applied.Outcome) (statement : Bulk) (w : World) → applied.bulk_outcome w.own.mapping.schema w.store.tables statement ≡ outcome → IsFitting w.own → IsPlainBulk w.own.mapping.schema statement → IsSound w
    → (let run = call.run_of_bulk statement outcome w.store in
    IsSound (continue_from run.events (record { own = with_notes run.events w.own; store = run.after }) run.answer (λ count. changes (session_reread (applied.table_of statement)) >>= λ u. give count)).after)
unfolding ◌>>=◌ changes give
bulk_from (Ok done) statement w is ready plain sound =
    let events = (call.run_of_bulk statement (Ok done) w.store).events in
    reread_sound (applied.table_of statement) (with_notes events w.own) w.store done.1 (noted_fits events w.own ready) (bulk_legal w.own.mapping.schema w.store.tables statement done.0 done.1 plain sound.legal is)
    (bulk_beside w.own.mapping.schema w.store.tables done.1 statement done.0 is) (noted_sound events w.own w.store sound)
bulk_from (Err refusal) statement w is ready plain sound = noted_sound (call.run_of_bulk statement (Err refusal) w.store).events w.own w.store sound

pub bulk_sound : (statement : Bulk) (w : World) → IsSendable statement w → IsSound w → IsSound (bulk statement w).after
unfolding bulk send_bulk by_own on_store call.bulk ◌>>=◌
bulk_sound statement w ready sound = bulk_from (applied.bulk_outcome w.own.mapping.schema w.store.tables statement) statement w refl ready.0 ready.1 sound

-- a query changes nothing, and is noted
pub rows_sound : (select : Select) → KeepsSound (rows select)
unfolding rows by_own on_store call.query
rows_sound select w sound = noted_sound (call.query w.own.mapping.schema select w.store).events w.own w.store sound
