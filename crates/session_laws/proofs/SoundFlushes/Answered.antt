-- A flush that answered leaves a sound session.
use Rattle.std.proofs.Common.{◌≡◌, ◌≢◌, ℕ, ◌<◌, Bool, true, false, ◌&&◌, ◌||◌, if◌then◌else◌, List, [], ◌∷◌, length, map, get_or, Option, None, Some, refl, sym, ap, ◌∙◌, subst, arith}
use Rattle.std.specs.Prelude.{is_some}
use Rattle.std.specs.List.{AllByRecursion, enumerate_from, range_with_len}
use Rattle.std.proofs.lemmas.List.{length-map}
use Rattle.std.proofs.lemmas.List.FromFn.{length-enumerate_from, length-range_with_len}
use Rattle.base_core.specs.declared.ids.ObjId.{ObjId}
use Rattle.base_core.specs.declared.value.Value.{Value}
use Rattle.schema_core.specs.Tables.{AreAscending, Legal, Tables}
use Rattle.class_types.specs.declared.mapped.Attribute.{Attribute}
use Rattle.class_mapping.specs.Mapped.{Mapped}
use Rattle.object_arena.specs.declared.object.Object.{Object}
use Rattle.object_arena.specs.declared.object.State.{State}
use Rattle.object_arena.specs.declared.object.State.TheVariants.{Transient, Pending, Persistent, Deleted, Detached}
use Rattle.object_arena.specs.Graph.{Graph, is_among, is_persistent, no_object, root_at}
use Rattle.object_arena.specs.Identity.{IsGraph, id_of_place, is_identified, is_other}
use Rattle.flush_plan.specs.Stating.{row_at}
use Rattle.object_rows.specs.Rows.{key_or_none}
use Rattle.object_rows.specs.Seen.{object_ids}
use Rattle.graph_flushed.specs.Flushed.{Written, deleted_object, graph_written, kept_cell, key_of, new_cell, new_object, object_in, staying_cell, staying_object, state_under, state_unless, written_with}
use Rattle.graph_flushed.specs.Keys.{key_if_new, new_holder, new_keys}
use Rattle.graph_flushed.proofs.ObjectSteps.{flushed_at, flushed_long}
use Rattle.savepoints.specs.declared.scope.Scope.{Scope}
use Rattle.savepoints.specs.Scopes.{Framed}
use Rattle.session_parts.specs.Depths.{has_scope}
use Rattle.object_records.specs.Touched.{frames_touched_between}
use Rattle.session_scopes.specs.SessionState.{with_graph}
use Rattle.session_calls.specs.Parts.{World}
use Rattle.prepared_objects.specs.Leaving.{prepared_of, starts_deletes}
use Rattle.session_acts.specs.Flush.{flush}
use Rattle.session_acts.specs.Outcome.{changes_of}
use Rattle.session_laws.specs.Flushes.{LeavesLegalTables}
use Rattle.session_laws.proofs.Flushes.Again.{here_at, prepared_among}
use Rattle.session_laws.proofs.Flushes.Flushing.{IsFlushSent}
use Rattle.table_laws.specs.Legality.{AreSound, IsAscendingStore}
use Rattle.session_laws.specs.Sound.{AreSoundScopes, EachObject, IsFresh, IsMarkedRight, IsSettled, IsSound, IsWritten, RestIf, in_row, row_for}
use Rattle.session_laws.proofs.Sound.Changes.{changed_sound}
use Rattle.session_laws.proofs.Sound.Everyone.{identified_as}
use Rattle.session_laws.specs.Held.{column_in}
use Rattle.session_laws.proofs.SoundFlushes.One.{written_graph}

-- ---- what is known of an object

pub in_row_is : (attribute : Attribute) (row : Option (List Value)) → in_row attribute row ≡ column_in row attribute.column.0
in_row_is attribute None = refl
in_row_is attribute (Some row) = refl

pub row_is : (tables : Tables) (attribute : Attribute) (identity : Option (List Value)) → is_some identity ≡ true → row_for tables attribute identity ≡ row_at tables (attribute.table, key_or_none identity)
row_is tables attribute None there = absurd (let h : false ≡ true = there in cc)
row_is tables attribute (Some key) there = refl

pub persists_there : (object : Object) → is_identified object ≡ true → is_persistent object.state ≡ true → is_some object.identity ≡ true
persists_there object identified persists = by object.state refl persists
  where
    by : (state : State) → object.state ≡ state → is_persistent state ≡ true → is_some object.identity ≡ true
    by Transient is h = absurd cc
    by Pending is h = absurd cc
    by Persistent is h = identified_as object Persistent is refl identified
    by Deleted is h = absurd cc
    by Detached is h = absurd cc

-- ---- what success makes of an object

-- it is of the same class with as many cells, is not pending, and has no delete mark
pub record IsSettledFrom (old new : Object) : Type 0 where
  pub class : new.class ≡ old.class
  pub cells : length new.cells ≡ length old.cells
  pub settled : new.state ≢ Pending
  pub unmarked : new.marked ≡ false

under_settled : (written : Written) (object : ObjId) (identity : Option (List Value)) → state_under written object identity ≢ Pending
under_settled written object None is = absurd cc
under_settled written object (Some key) is = by (is_other object (new_holder written.keys written.graph.roots (root_at written.graph object) key)) is
  where
    by : (b : Bool) → state_unless b ≢ Pending
    by true is = absurd cc
    by false is = absurd cc

not_marked : (marked : Bool) → (marked ≡ true → ⊥) → marked ≡ false
not_marked true never = absurd (never refl)
not_marked false never = refl

module _ (written : Written) (object : ObjId) (it : Object) (right : IsMarkedRight it) where
  out_of_session : (state : State) → it.state ≡ state → is_persistent state ≡ false → it.marked ≡ false
  out_of_session state is left = not_marked it.marked (λ marked. let e : true ≡ false = sym (right marked) ∙ ap is_persistent is ∙ left in absurd cc)

  new_settled : (key : Option (List Value)) → it.state ≡ Pending → IsSettledFrom it (new_object written object key it)
  new_settled None is = record { class = refl; cells = refl; settled = λ e. absurd cc; unmarked = out_of_session Pending is refl }
  new_settled (Some key) is = record {
    class = refl;
    cells = length-map (enumerate_from 0 it.cells) (new_cell written object it.class key) ∙ length-enumerate_from 0 it.cells;
    settled = under_settled written object (Some key);
    unmarked = out_of_session Pending is refl;
  }

  old_settled : (gone : Bool) → (gone ≡ false → it.marked ≡ false) → IsSettledFrom it (if gone then deleted_object written object it else staying_object written object it)
  old_settled true stays = record { class = refl; cells = length-map it.cells kept_cell; settled = λ e. absurd cc; unmarked = refl }
  old_settled false stays = record {
    class = refl;
    cells = length-map (enumerate_from 0 it.cells) (staying_cell written object it.class) ∙ length-enumerate_from 0 it.cells;
    settled = under_settled written object it.identity;
    unmarked = stays refl;
  }

  other_settled : (state : State) → it.state ≡ state → is_persistent state ≡ false → state ≢ Pending → IsSettledFrom it (record it { links = (object_in Transient written object it).links })
  other_settled state is left settled = record { class = refl; cells = refl; settled = λ e. settled (sym is ∙ e); unmarked = out_of_session state is left }

  settled_in : (state : State) → it.state ≡ state → (is_among written.prepared.deleted object ≡ false → it.marked ≡ false) → IsSettledFrom it (object_in state written object it)
  settled_in Transient is stays = other_settled Transient is refl (λ e. absurd cc)
  settled_in Pending is stays = new_settled (key_of written object) is
  settled_in Persistent is stays = old_settled (is_among written.prepared.deleted object) stays
  settled_in Deleted is stays = other_settled Deleted is refl (λ e. absurd cc)
  settled_in Detached is stays = other_settled Detached is refl (λ e. absurd cc)

-- ---- the session

starts_legal : (mapped : Mapped) (graph : Graph) (frames : Framed) (scopes : List Scope) (starts : List Tables) → AllByRecursion AreAscending starts → AreSoundScopes mapped graph frames scopes starts → AllByRecursion (AreSound mapped.schema) starts
starts_legal mapped graph frames [] [] up sound = tt
starts_legal mapped graph frames [] (start ∷ starts) up sound = absurd sound
starts_legal mapped graph frames (scope ∷ scopes) [] up sound = tt
starts_legal mapped graph frames (scope ∷ scopes) (start ∷ starts) up sound = (record { legal = sound.0.legal; ascending = up.0 }, starts_legal mapped graph frames scopes starts up.1 sound.1)

pub left_legal : LeavesLegalTables → (w : World) → IsAscendingStore w.store → IsSound w → Legal w.own.mapping.schema (flush w).after.store.tables
left_legal leaves w ascending sound =
    (leaves w (record {
      tables = record { legal = sound.legal; ascending = ascending.tables };
      scopes = starts_legal w.own.mapping w.own.graph w.own.frames w.own.frames.scopes w.store.scopes ascending.scopes sound.scopes;
    })).tables.legal

module _ (w : World) (inside : 0 < length w.own.frames.scopes) (sound : IsSound w) (now : World) (sent : IsFlushSent w now) (legal : Legal w.own.mapping.schema now.store.tables) where
  abbrev mapped : Mapped
  mapped = w.own.mapping

  abbrev it_at : ℕ → Object
  it_at place = get_or w.own.graph.objects place no_object

  abbrev pub written : Written
  written = written_with mapped (prepared_of mapped w.own.graph) (changes_of w.own) sent.given w.own.graph

  keys_long : length written.keys ≡ length w.own.graph.objects
  unfolding new_keys object_ids
  keys_long =
      length-map (map id_of_place (range_with_len 0 (length w.own.graph.objects))) (key_if_new mapped w.own.graph (prepared_of mapped w.own.graph) (changes_of w.own) sent.given)
      ∙ length-map (range_with_len 0 (length w.own.graph.objects)) id_of_place
      ∙ length-range_with_len 0 (length w.own.graph.objects)

  pub is : IsGraph (graph_written written).objects (graph_written written).roots
  unfolding graph_written
  is = written_graph written sound.graph keys_long

  pub settled_at : (place : ℕ) → place < length w.own.graph.objects → IsSettledFrom (it_at place) (get_or (graph_written written).objects place no_object)
  settled_at place less =
      subst (IsSettledFrom (it_at place)) (sym (flushed_at written place less))
      (settled_in written (id_of_place place) (it_at place) (sound.marked place less) (it_at place).state refl
      (λ stays. not_marked (it_at place).marked (λ marked.
      let among : is_among (prepared_of mapped w.own.graph).deleted (id_of_place place) ≡ true =
      prepared_among mapped w.own.graph place less
      (ap starts_deletes (here_at w.own.graph place) ∙ (λ i. sound.marked place less marked i && (marked i || (it_at place).orphan))) in
      let e : true ≡ false = sym among ∙ stays in
      absurd cc)))

  module _ (fresh_at : EachObject (IsFresh w.own.mapping now.store.tables) (graph_written written)) where
    each_settled : EachObject IsSettled (graph_written written)
    each_settled place less = let from = settled_at place (omega (arith, less, flushed_long written)) in record { settled = from.settled; unmarked = from.unmarked }

    -- the session as it is put together
    stands : IsSound (record { own = with_graph (graph_written written) w.own; store = record { tables = now.store.tables; scopes = w.store.scopes } })
    unfolding graph_written
    stands =
        changed_sound w.own (record { tables = now.store.tables; scopes = w.store.scopes }) (graph_written written) (opened w.own.frames.scopes inside) (flushed_long written) refl is fresh_at
        (λ place less. λ marked. absurd (let e : false ≡ true = sym (each_settled place less).unmarked ∙ marked in cc)) legal sound.scopes
      where
        opened : (scopes : List Scope) → 0 < length scopes → has_scope scopes ≡ true
        opened [] inside = absurd (omega (arith, inside))
        opened (scope ∷ scopes) inside = refl

    -- and as it is
    pub answered : IsSound now × IsWritten now
    answered = (
      moved,
      subst (EachObject IsSettled) (sym sent.objects) each_settled,
    )
      where
        graph : now.own.graph ≡ graph_written written
        graph = sent.objects

        frames : now.own.frames ≡ frames_touched_between w.own.graph (graph_written written) w.own.frames
        frames = sent.touches ∙ ap (λ (g : Graph). frames_touched_between w.own.graph g w.own.frames) graph

        moved : IsSound now
        moved = record {
          graph = subst (λ (g : Graph). IsGraph g.objects g.roots) (sym graph) stands.graph;
          legal = subst (λ (m : Mapped). Legal m.schema now.store.tables) (sym sent.mapping) stands.legal;
          fresh = subst (λ (m : Mapped). EachObject (IsFresh m now.store.tables) now.own.graph) (sym sent.mapping) (subst (EachObject (IsFresh mapped now.store.tables)) (sym graph) stands.fresh);
          marked = subst (EachObject IsMarkedRight) (sym graph) stands.marked;
          scopes = subst (λ (m : Mapped). AreSoundScopes m now.own.graph now.own.frames now.own.frames.scopes now.store.scopes) (sym sent.mapping)
              (subst (λ (g : Graph). AreSoundScopes mapped g now.own.frames now.own.frames.scopes now.store.scopes) (sym graph)
              (subst (λ (f : Framed). AreSoundScopes mapped (graph_written written) f f.scopes now.store.scopes) (sym frames)
              (subst (λ (starts : List Tables). AreSoundScopes mapped (graph_written written) (frames_touched_between w.own.graph (graph_written written) w.own.frames) (frames_touched_between w.own.graph (graph_written written) w.own.frames).scopes starts) (sym sent.starts) stands.scopes)));
          rest = subst (λ (g : Graph). RestIf now.own.frames.scopes g) (sym graph) (subst (λ (f : Framed). RestIf f.scopes (graph_written written)) (sym frames) stands.rest);
        }
