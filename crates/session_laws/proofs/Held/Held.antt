-- After a flush that was accepted the cells of every persistent object hold what its rows hold.
use Rattle.std.proofs.Common.{◌≡◌, ℕ, ◌+◌, ◌-◌, ◌<◌, Bool, true, false, not, if◌then◌else◌, List, length, map, get_or, Option, None, Some, Ok, refl, sym, subst, ap, ◌∙◌, arith}
use Rattle.std.specs.Prelude.{is_some}
use Rattle.std.specs.List.{range_with_len}
use Rattle.std.proofs.lemmas.Bool.{and_parts}
use Rattle.base_core.specs.declared.ids.ObjId.{ObjId}
use Rattle.base_core.specs.declared.value.Value.{Value}
use Rattle.schema_core.specs.declared.changes.ChangedRow.{ChangedRow}
use Rattle.schema_core.specs.declared.changes.Planned.{Planned}
use Rattle.schema_core.specs.declared.changes.RowChanges.{RowChanges}
use Rattle.schema_core.specs.Catalog.{IsTable}
use Rattle.schema_core.specs.Tables.{Legal, Tables}
use Rattle.class_mapping.specs.Mapped.{Mapped}
use Rattle.object_arena.specs.Fit.{key_fits}
use Rattle.object_arena.specs.declared.object.Object.{Object}
use Rattle.object_arena.specs.declared.object.State.{State}
use Rattle.object_arena.specs.declared.object.State.TheVariants.{Transient, Pending, Persistent, Deleted, Detached}
use Rattle.object_arena.specs.Graph as graphs
use Rattle.object_arena.specs.Graph.{Graph, IsObject, is_persistent, no_object, object_at, place_of}
use Rattle.object_arena.specs.Identity.{id_of_place}
use Rattle.flush_plan.specs.Flushing.{Keys, Sofar, key_of_new, send_all}
use Rattle.flush_plan.specs.Planning.{plan}
use Rattle.graph_flushed.specs.Flushed.{Written, deleted_object, graph_written, key_of, new_object, object_flushed, object_in, staying_object, written_with}
use Rattle.graph_flushed.specs.Keys.{key_if_fit, new_key}
use Rattle.graph_flushed.proofs.ObjectSteps.{flushed_at}
use Rattle.object_rows.specs.declared.prepared.Prepared.{Prepared}
use Rattle.object_rows.specs.Seen.{is_new}
use Rattle.row_project.specs.Changes.{object_changes, project}
use Rattle.flush_order.specs.Ready.{IsInTable}
use Rattle.row_switches.proofs.Each.{each_to}
use Rattle.row_project.proofs.Range.{project_declared}
use Rattle.session_laws.specs.Plans.Laws.{before}
use Rattle.session_laws.proofs.Plans.Facts.{true_false}
use Rattle.session_laws.proofs.Plans.FlushLaw.{accepted_stated}
use Rattle.session_laws.proofs.Graphs.Projected.{all_projected}
use Rattle.session_laws.proofs.Held.After.{ArePlaced, all_are_placed, order_made}
use Rattle.session_laws.specs.Held.{AreHeld, FlushedObjectsHold, HoldsItsRows, IsWhollyKnown, NewObjectsHaveKeys, placed_object}
use Rattle.session_laws.proofs.Held.Done.{IsDone}
use Rattle.session_laws.proofs.Held.Given.{given, key_given, written}
use Rattle.session_laws.proofs.Held.New.{new_holds, new_keyed}
use Rattle.session_laws.proofs.Held.Stays.{staying_holds}

module _ (mapped : Mapped) (graph : Graph) (prepared : Prepared) (old : Tables) (held : AreHeld mapped graph prepared old) where
  abbrev first : RowChanges
  first = object_changes mapped graph prepared

  at_place : (object : ObjId) → IsObject graph object → placed_object graph (place_of object) ≡ object_at graph object
  at_place object made = refl

  within : (object : ObjId) → IsObject graph object → place_of object < length graph.objects
  within object made = omega (arith, made.0, made.1)

  known : (object : ObjId) → IsObject graph object → graphs.is_among prepared.deleted object ≡ true → IsWhollyKnown (object_at graph object)
  known object made among =
      let same : id_of_place (place_of object) ≡ object = ap (λ (n : ℕ). let id : ObjId = record { 0 = n } in id) (let at : place_of object + 1 ≡ object.0 = omega (arith, made.0) in at) in
      held.known (place_of object) (within object made) (ap (graphs.is_among prepared.deleted) same ∙ among)

  module _ (statements : List Planned) (sofar : Sofar) (planned : plan mapped.schema (project mapped graph prepared) ≡ Ok statements) (sent : send_all mapped.schema (project mapped graph prepared) (Ok (before old)) statements ≡ Ok sofar) (last : Legal mapped.schema sofar.tables) where
    abbrev order : List ℕ
    order = (order_made mapped.schema (project mapped graph prepared) statements planned).0

    put : ArePlaced mapped.schema old (project mapped graph prepared) order sofar.keys
    put =
        let projected = all_projected mapped graph prepared held.well held.own in
        all_are_placed mapped.schema old (project mapped graph prepared) order statements sofar held.sorted projected.gone_once (order_made mapped.schema (project mapped graph prepared) statements planned).1 planned sent

    done : IsDone mapped graph prepared old order put.placed sofar.tables
    done =
        let changes = project mapped graph prepared in
        let ordered = (order_made mapped.schema changes statements planned).1 in
        let projected = all_projected mapped graph prepared held.well held.own in
        record {
          well = held.well;
          classes = held.classes;
          legal = held.legal;
          last = last;
          own = held.own;
          holds = λ object made persists. held.holds (place_of object) (within object made) persists;
          keyed = λ object made persists. held.keyed (place_of object) (within object made) persists;
          known = known;
          stated = record {
            projected = projected;
            sorted = held.sorted;
            legal = held.legal;
            ordered = ordered;
            keys = put.puts;
            states = accepted_stated mapped.schema old changes order statements sofar projected held.sorted held.legal
                (each_to (IsInTable mapped.schema) (λ (row : ChangedRow). IsTable mapped.schema row.name.table) (λ row in_table. in_table.declared) changes.changed (project_declared mapped graph prepared held.well.related held.own.fit).changed)
                ordered planned sent;
          };
        }

    abbrev after : Written
    after = written mapped graph prepared old order put.placed sofar.tables done

    new_if : (object : ObjId) (key : List Value) → IsObject graph object → key_of after object ≡ Some key → is_new graph prepared object ≡ true
    new_if object key made e = by (is_new graph prepared object) refl (sym (key_given mapped graph prepared old order put.placed sofar.tables done object made) ∙ e)
      where
        own : List Value
        own = new_key mapped graph (project mapped graph prepared) (given mapped graph prepared old order put.placed sofar.tables done) object

        by : (b : Bool) → is_new graph prepared object ≡ b → (if b then key_if_fit (key_fits mapped (object_at graph object).class own) own else None) ≡ Some key → b ≡ true
        by true n e = refl
        by false n e = absurd (let wrong : None ≡ Some key = e in cc)

    new_one : (object : ObjId) → IsObject graph object → (key : Option (List Value)) → key_of after object ≡ key → is_persistent (new_object after object key (object_at graph object)).state ≡ true
        → HoldsItsRows mapped sofar.tables (new_object after object key (object_at graph object))
    new_one object made None e persists = absurd (true_false (sym persists))
    new_one object made (Some key) e persists = new_holds mapped graph prepared old order put.placed sofar.tables done object key made (new_if object key made e) e

    old_one : (object : ObjId) (gone : Bool) → IsObject graph object → is_persistent (object_at graph object).state ≡ true → graphs.is_among prepared.deleted object ≡ gone
        → is_persistent (if gone then deleted_object after object (object_at graph object) else staying_object after object (object_at graph object)).state ≡ true
        → HoldsItsRows mapped sofar.tables (if gone then deleted_object after object (object_at graph object) else staying_object after object (object_at graph object))
    old_one object true made was e persists = absurd (true_false (sym persists))
    old_one object false made was e persists = staying_holds mapped graph prepared old order put.placed sofar.tables done object made was e

    stays_out : (state own : State) → own ≡ state → is_persistent state ≡ false → is_persistent own ≡ true → ⊥
    stays_out state own is left persists = true_false (sym persists ∙ ap is_persistent is ∙ left)

    held_in : (object : ObjId) (state : State) → IsObject graph object → (object_at graph object).state ≡ state → is_persistent (object_in state after object (object_at graph object)).state ≡ true → HoldsItsRows mapped sofar.tables (object_in state after object (object_at graph object))
    held_in object Transient made is persists = absurd (stays_out Transient (object_at graph object).state is refl persists)
    held_in object Pending made is persists = new_one object made (key_of after object) refl persists
    held_in object Persistent made is persists = old_one object (graphs.is_among prepared.deleted object) made (ap is_persistent is) refl persists
    held_in object Deleted made is persists = absurd (stays_out Deleted (object_at graph object).state is refl persists)
    held_in object Detached made is persists = absurd (stays_out Detached (object_at graph object).state is refl persists)

    all_held : (given : List (List Value)) → given ≡ map (key_of_new sofar.keys) (range_with_len 0 (length (project mapped graph prepared).fresh)) → (place : ℕ) → place < length graph.objects
        → is_persistent (get_or (graph_written (written_with mapped prepared (project mapped graph prepared) given graph)).objects place no_object).state ≡ true
        → HoldsItsRows mapped sofar.tables (get_or (graph_written (written_with mapped prepared (project mapped graph prepared) given graph)).objects place no_object)
    all_held given is place less =
        let w : Written = written_with mapped prepared (project mapped graph prepared) given graph in
        let same : w ≡ after = ap (λ (keys : List (List Value)). written_with mapped prepared (project mapped graph prepared) keys graph) (is ∙ ap (λ (known : Keys). map (key_of_new known) (range_with_len 0 (length (project mapped graph prepared).fresh))) put.same) in
        let made : IsObject graph (id_of_place place) = (omega arith, omega (arith, less)) in
        let here : object_at graph (id_of_place place) ≡ get_or graph.objects place no_object = let at : place + 1 - 1 ≡ place = omega arith in ap (λ (n : ℕ). get_or graph.objects n no_object) at in
        subst (λ (it : Object). is_persistent it.state ≡ true → HoldsItsRows mapped sofar.tables it)
        (sym (ap (λ (v : Written). get_or (graph_written v).objects place no_object) same ∙ flushed_at after place less ∙ ap (object_flushed after (id_of_place place)) (sym here)))
        (held_in (id_of_place place) (object_at graph (id_of_place place)).state made refl)

    not_pending : (object : ObjId) (state : State) → graphs.is_pending state ≡ false → (object_at graph object).state ≡ state → is_new graph prepared object ≡ true → ⊥
    not_pending object state none is new =
        true_false (sym (and_parts (graphs.is_pending (object_at graph object).state) (not (graphs.is_among prepared.transient object)) new).0 ∙ ap graphs.is_pending is ∙ none)

    named : (object : ObjId) (key : Option (List Value)) → (new_object after object key (object_at graph object)).identity ≡ key
    named object None = refl
    named object (Some key) = refl

    keyed_in : (object : ObjId) (state : State) → IsObject graph object → (object_at graph object).state ≡ state → is_new graph prepared object ≡ true → is_some (object_in state after object (object_at graph object)).identity ≡ true
    keyed_in object Transient made is new = absurd (not_pending object Transient refl is new)
    keyed_in object Pending made is new =
        ap (λ (key : Option (List Value)). is_some key) (named object (key_of after object)) ∙ new_keyed mapped graph prepared old order put.placed sofar.tables done object made new
    keyed_in object Persistent made is new = absurd (not_pending object Persistent refl is new)
    keyed_in object Deleted made is new = absurd (not_pending object Deleted refl is new)
    keyed_in object Detached made is new = absurd (not_pending object Detached refl is new)

    all_keyed : (given : List (List Value)) → given ≡ map (key_of_new sofar.keys) (range_with_len 0 (length (project mapped graph prepared).fresh)) → (place : ℕ) → place < length graph.objects → is_new graph prepared (id_of_place place) ≡ true
        → is_some (get_or (graph_written (written_with mapped prepared (project mapped graph prepared) given graph)).objects place no_object).identity ≡ true
    all_keyed given is place less new =
        let w : Written = written_with mapped prepared (project mapped graph prepared) given graph in
        let same : w ≡ after = ap (λ (keys : List (List Value)). written_with mapped prepared (project mapped graph prepared) keys graph) (is ∙ ap (λ (known : Keys). map (key_of_new known) (range_with_len 0 (length (project mapped graph prepared).fresh))) put.same) in
        let made : IsObject graph (id_of_place place) = (omega arith, omega (arith, less)) in
        let here : object_at graph (id_of_place place) ≡ get_or graph.objects place no_object = let at : place + 1 - 1 ≡ place = omega arith in ap (λ (n : ℕ). get_or graph.objects n no_object) at in
        subst (λ (it : Object). is_some it.identity ≡ true)
        (sym (ap (λ (v : Written). get_or (graph_written v).objects place no_object) same ∙ flushed_at after place less ∙ ap (object_flushed after (id_of_place place)) (sym here)))
        (keyed_in (id_of_place place) (object_at graph (id_of_place place)).state made refl new)

pub flushed_held : FlushedObjectsHold
flushed_held mapped graph prepared old statements sofar given held planned sent last is place less persists =
    all_held mapped graph prepared old held statements sofar planned sent last given is place less persists

pub new_objects_keyed : NewObjectsHaveKeys
new_objects_keyed mapped graph prepared old statements sofar given held planned sent last is place less new =
    all_keyed mapped graph prepared old held statements sofar planned sent last given is place less new
