-- A flush of a session whose objects the tables tell, over a mapping of any form, leaves a sound session.
use Rattle.std.proofs.Common.{◌≡◌, ℕ, ◌<◌, true, ◌==◌, List, length, get_or, Option, Ok, Err, Result, is_some, refl, sym, ap, ◌∙◌, subst, arith}
use Rattle.std.proofs.lemmas.Bool.{eqb-true}
use Rattle.base_core.specs.declared.ids.ObjId.{ObjId}
use Rattle.base_core.specs.declared.refusal.Refusal.{Refusal}
use Rattle.base_core.specs.declared.value.Value.{Value}
use Rattle.schema_core.specs.Tables.{Legal, Tables}
use Rattle.class_types.specs.declared.mapped.Attribute.{Attribute}
use Rattle.class_mapping.specs.Mapped.{Mapped, attribute_of}
use Rattle.class_mapping.proofs.Having.{some_of}
use Rattle.object_arena.specs.declared.object.Object.{Object}
use Rattle.object_arena.specs.Graph.{is_among, is_persistent, no_object, object_at}
use Rattle.object_arena.specs.Identity.{id_of_place}
use Rattle.graph_flushed.specs.Flushed.{Written, graph_written}
use Rattle.graph_flushed.proofs.ObjectSteps.{flushed_long}
use Rattle.session_calls.specs.Parts.{World}
use Rattle.prepared_objects.specs.Known.{IsPrepared}
use Rattle.prepared_objects.specs.Leaving.{going, prepared_of}
use Rattle.session_acts.specs.Flush.{flush}
use Rattle.session_laws.specs.Flushes.{LeavesLegalTables, prepared_world}
use Rattle.session_laws.specs.Preparing.{IsReadable, PreparationsKnowAll, PreparationsLeaveReread}
use Rattle.session_laws.proofs.Flushes.Again.{here_at}
use Rattle.session_laws.proofs.Flushes.Flushing.{IsFlushDone, IsFlushSent, flush_sent}
use Rattle.session_laws.proofs.Flushes.Reading.{prepare_mapping}
use Rattle.session_laws.proofs.Preparing.{prepare_told, told_readable, told_sound}
use Rattle.session_laws.specs.Sound.{EachObject, IsFresh, IsSound, in_row, row_for}
use Rattle.session_laws.proofs.Held.Ascending.{ascending_sorted}
use Rattle.session_laws.specs.OwnRows.{ObjectsHaveOwnRows, StandInTables}
use Rattle.session_laws.proofs.OwnRows.Deleted.{going_known, going_made, going_once, going_persistent}
use Rattle.session_laws.proofs.OwnRows.Standing.{hierarchies}
use Rattle.session_laws.proofs.Projects.LateKeys.{each_has}
use Rattle.session_laws.specs.Held.{AreHeld, FlushedObjectsHold, HoldsItsRows, IsWhollyKnown, column_in, held_in}
use Rattle.session_laws.specs.SoundFlushes.{IsToldSession, RefusedFlushIsSound, ToldFlushIsSound, ToldFlushKeepsSound}
use Rattle.session_laws.proofs.SoundFlushes.Answered.{answered, in_row_is, is, left_legal, persists_there, row_is, written}

-- ---- what is known of an object

column_is : (tables : Tables) (attribute : Attribute) (identity : Option (List Value)) → is_some identity ≡ true → in_row attribute (row_for tables attribute identity) ≡ held_in tables attribute identity
column_is tables attribute identity there = in_row_is attribute (row_for tables attribute identity) ∙ ap (λ (row : Option (List Value)). column_in row attribute.column.0) (row_is tables attribute identity there)

fresh_holds : (mapped : Mapped) (tables : Tables) (object : Object) → is_persistent object.state ≡ true → is_some object.identity ≡ true → IsFresh mapped tables object → HoldsItsRows mapped tables object
fresh_holds mapped tables object persists there fresh attr base less e = sym (column_is tables (attribute_of mapped object.class attr) object.identity there) ∙ fresh persists attr less base e

holds_fresh : (mapped : Mapped) (tables : Tables) (object : Object) → (is_persistent object.state ≡ true → is_some object.identity ≡ true) → (is_persistent object.state ≡ true → HoldsItsRows mapped tables object) → IsFresh mapped tables object
holds_fresh mapped tables object there holds persists attr less base e = column_is tables (attribute_of mapped object.class attr) object.identity (there persists) ∙ holds persists attr base less e

-- what is known of persistent objects is what their rows hold
held_in_rows : (w : World) → IsSound w → (place : ℕ) → place < length w.own.graph.objects → is_persistent (get_or w.own.graph.objects place no_object).state ≡ true → HoldsItsRows w.own.mapping w.store.tables (get_or w.own.graph.objects place no_object)
held_in_rows w sound place less persists =
    let it : Object = get_or w.own.graph.objects place no_object in
    fresh_holds w.own.mapping w.store.tables it persists (persists_there it (sound.graph.identified place no_object less) persists) (sound.fresh place less)

-- a sound session of which all is known that is to be known of the objects that are to be deleted
pub stand : (w : World) → IsReadable w → IsSound w → IsPrepared w.own.mapping w.own.graph → StandInTables w.own.mapping w.own.graph (prepared_of w.own.mapping w.own.graph) w.store.tables
unfolding prepared_of
stand w can sound prepared = record {
  well = can.well;
  fit = can.fit;
  is = sound.graph;
  made = going_made w.own.mapping w.own.graph;
  standing = going_persistent w.own.mapping w.own.graph;
  once = going_once w.own.mapping w.own.graph;
  legal = sound.legal;
  holds = held_in_rows w sound;
  known = going_known w.own.mapping w.own.graph prepared;
}

module _ (w : World) (steady : IsToldSession w) (sound : IsSound w) (prepared : IsPrepared w.own.mapping w.own.graph) where
  abbrev mapped : Mapped
  mapped = w.own.mapping

  deleted_known : (place : ℕ) → place < length w.own.graph.objects → is_among (going mapped w.own.graph) (id_of_place place) ≡ true → IsWhollyKnown (get_or w.own.graph.objects place no_object)
  deleted_known place less among =
      let some = some_of (λ (other : ObjId). other.0 == (id_of_place place).0) (going mapped w.own.graph) among in
      let same : some.0 ≡ id_of_place place = ap (λ (n : ℕ). let id : ObjId = record { 0 = n } in id) (eqb-true some.0.0 (id_of_place place).0 some.2) in
      subst IsWhollyKnown (here_at w.own.graph place)
      (subst (λ (object : ObjId). IsWhollyKnown (object_at w.own.graph object)) same
      (each_has (λ (object : ObjId). IsWhollyKnown (object_at w.own.graph object)) (going mapped w.own.graph) some.0 (going_known mapped w.own.graph prepared) some.1))

  all_held : ObjectsHaveOwnRows → AreHeld mapped w.own.graph (prepared_of mapped w.own.graph) w.store.tables
  unfolding prepared_of
  all_held own = record {
    well = steady.well;
    classes = hierarchies mapped steady.well;
    legal = sound.legal;
    sorted = ascending_sorted w.store.tables steady.ascending.tables;
    own = own mapped w.own.graph (prepared_of mapped w.own.graph) w.store.tables (stand w (told_readable w steady sound) sound prepared);
    holds = held_in_rows w sound;
    keyed = steady.keyed;
    known = deleted_known;
  }

  held_at : FlushedObjectsHold → ObjectsHaveOwnRows → (now : World) (sent : IsFlushSent w now) (legal : Legal mapped.schema now.store.tables) → EachObject (IsFresh mapped now.store.tables) (graph_written (written w steady.inside sound now sent legal))
  held_at hold own now sent legal place less =
      let after : Written = written w steady.inside sound now sent legal in
      holds_fresh mapped now.store.tables (get_or (graph_written after).objects place no_object) (persists_there (get_or (graph_written after).objects place no_object) ((is w steady.inside sound now sent legal).identified place no_object less))
      (hold mapped w.own.graph (prepared_of mapped w.own.graph) w.store.tables sent.statements (record { tables = now.store.tables; keys = sent.keys }) sent.given (all_held own) sent.planned sent.sent legal sent.known place (omega (arith, less, flushed_long after)))

-- of the session behind its preparation
pub told_answered : PreparationsLeaveReread → PreparationsKnowAll → FlushedObjectsHold → ObjectsHaveOwnRows → LeavesLegalTables → ToldFlushIsSound
told_answered reads knows hold own leaves w steady sound is =
    let done : IsFlushDone w (flush w).after = flush_sent w is in
    let can : IsReadable w = told_readable w steady sound in
    let mid : World = prepared_world w in
    let told : IsToldSession mid = prepare_told reads w can steady in
    let stands : IsSound mid = told_sound reads w steady sound in
    let legal : Legal mid.own.mapping.schema (flush w).after.store.tables = subst (λ (m : Mapped). Legal m.schema (flush w).after.store.tables) (sym (prepare_mapping w)) (left_legal leaves w steady.ascending sound) in
    answered mid told.inside stands (flush w).after done.sent legal (held_at mid told stands (knows w can done.prepared) hold own (flush w).after done.sent legal)

pub told_keeps : ToldFlushIsSound → RefusedFlushIsSound → ToldFlushKeepsSound
told_keeps answers refused w steady sound = by (flush w).answer refl
  where
    by : (answer : Result (Unit {0}) Refusal) → (flush w).answer ≡ answer → IsSound (flush w).after
    by (Ok u) is = (answers w steady sound is).0
    by (Err e) is = refused w e steady.inside (told_readable w steady sound) sound is
