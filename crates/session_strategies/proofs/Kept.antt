-- A flush that answers leaves nothing to flush.
use Rattle.std.proofs.Common.{◌≡◌, ◌<◌, Bool, true, false, List, [], ◌∷◌, get_or, length, map, Option, None, Some, if◌then◌else◌, refl, sym, ap, subst, ◌∙◌, arith}
use Rattle.std.specs.List.{AllByRecursion, enumerate_from}
use Rattle.base_core.specs.declared.ids.ObjId.{ObjId}
use Rattle.base_core.specs.declared.value.Value.{Value}
use Rattle.class_mapping.specs.Mapped.{attribute_of, is_key_attribute}
use Rattle.object_arena.specs.declared.object.Cell.{Cell}
use Rattle.object_arena.specs.declared.object.Link.{Link}
use Rattle.object_arena.specs.declared.object.Link.TheVariants.{Unset, Unloaded, One, Many}
use Rattle.object_arena.specs.declared.object.Object.{Object}
use Rattle.object_arena.specs.declared.object.State.{State}
use Rattle.object_arena.specs.declared.object.State.TheVariants.{Transient, Pending, Persistent, Deleted, Detached}
use Rattle.object_arena.specs.Graph.{is_among, is_persistent, no_object, object_at}
use Rattle.object_arena.specs.Identity.{id_of_place}
use Rattle.graph_flushed.specs.Flushed.{Written, deleted_object, graph_written, held_or, kept_cell, kept_link, key_of, new_cell, new_object, object_in, prepared_links, staying_cell, staying_object, value_come, written_with}
use Rattle.graph_flushed.proofs.ObjectSteps.{flushed_at, flushed_long}
use Rattle.session_calls.specs.Parts.{World}
use Rattle.session_calls.specs.Steps.{enter}
use Rattle.prepared_objects.specs.Leaving.{prepared_of, starts_deletes}
use Rattle.session_acts.specs.Flush.{flush}
use Rattle.session_acts.specs.Outcome.{changes_of}
use Rattle.session_acts.specs.Steps.{flush_now}
use Rattle.loading_laws.specs.Strategies.Filled.{Goes}
use Rattle.loading_laws.proofs.Strategies.Goes.{parted}
use Rattle.session_laws.specs.Flushes.{prepared_world}
use Rattle.session_laws.specs.Sound.{EachObject, IsMarkedRight, IsSettled}
use Rattle.session_laws.proofs.Flushes.Again.{here_at, none_starts}
use Rattle.session_laws.proofs.Flushes.Flushing.{IsFlushSent, flush_sent}
use Rattle.session_laws.proofs.Flushes.Reading.{prepare_marks}
use Rattle.session_laws.proofs.Health.Acts.{FlushWritesAll, enter_led}
use Rattle.session_strategies.specs.Asked.{written}
use Rattle.session_strategies.specs.Strategies.{FlushesLeaveNothing}
use Rattle.session_strategies.specs.Unwritten.{NothingIsLeft}

-- ---- cells and links

abbrev pub IsKeptCell : Cell → Type 0
IsKeptCell cell = kept_cell cell ≡ cell

abbrev pub IsKeptLink : Link → Type 0
IsKeptLink link = kept_link link ≡ link

or_kept : (value : Option Value) (cell : Cell) → (value ≡ None → IsKeptCell cell) → IsKeptCell (held_or value cell)
or_kept None cell own = own refl
or_kept (Some value) cell own = refl

cell_twice : (cell : Cell) → IsKeptCell (kept_cell cell)
cell_twice cell = or_kept cell.value cell (λ none. ap (λ (o : Option Value). held_or o cell) none)

link_twice : (link : Link) → IsKeptLink (kept_link link)
link_twice Unset = refl
link_twice (Unloaded added removed) = refl
link_twice (One end changed) = refl
link_twice (Many members base) = refl

every_map : {A B : Type 0} (P : B → Type 0) (f : A → B) (xs : List A) → ((x : A) → P (f x)) → AllByRecursion P (map f xs)
every_map P f [] each = tt
every_map P f (x ∷ xs) each = (each x, every_map P f xs each)

-- ---- an object that was written

-- where it is persistent
record IsKept (it : Object) : Type 0 where
  cells : is_persistent it.state ≡ true → AllByRecursion IsKeptCell it.cells
  links : is_persistent it.state ≡ true → AllByRecursion IsKeptLink it.links

module _ (done : Written) (object : ObjId) (it : Object) where
  new_kept : (key : Option (List Value)) → IsKept (new_object done object key it)
  new_kept None = record { cells = λ kept. absurd cc; links = λ kept. absurd cc }
  new_kept (Some key) = record {
    cells = λ kept. every_map IsKeptCell (new_cell done object it.class key) (enumerate_from 0 it.cells) (λ placed. refl);
    links = λ kept. every_map IsKeptLink kept_link (prepared_links done.prepared object it.links) link_twice;
  }

  staying : (is_key : Bool) (come : Option Value) (cell : Cell) → IsKeptCell (if is_key then kept_cell cell else held_or come (kept_cell cell))
  staying true come cell = cell_twice cell
  staying false come cell = or_kept come (kept_cell cell) (λ none. cell_twice cell)

  old_kept : (gone : Bool) → IsKept (if gone then deleted_object done object it else staying_object done object it)
  old_kept true = record { cells = λ kept. absurd cc; links = λ kept. absurd cc }
  old_kept false = record {
    cells = λ kept.
        every_map IsKeptCell (staying_cell done object it.class) (enumerate_from 0 it.cells)
        (λ placed. staying (is_key_attribute done.mapping it.class (record { 0 = placed.0 })) (value_come done object (attribute_of done.mapping it.class (record { 0 = placed.0 }))) placed.1);
    links = λ kept. every_map IsKeptLink kept_link (prepared_links done.prepared object it.links) link_twice;
  }

  outside : {A : Type 0} (state : State) → it.state ≡ state → is_persistent state ≡ false → is_persistent it.state ≡ true → A
  outside state is left kept = absurd (let never : true ≡ false = sym kept ∙ ap is_persistent is ∙ left in cc)

  kept_in : (state : State) → it.state ≡ state → IsKept (object_in state done object it)
  kept_in Transient is = record { cells = outside Transient is refl; links = outside Transient is refl }
  kept_in Pending is = new_kept (key_of done object)
  kept_in Persistent is = old_kept (is_among done.prepared.deleted object)
  kept_in Deleted is = record { cells = outside Deleted is refl; links = outside Deleted is refl }
  kept_in Detached is = record { cells = outside Detached is refl; links = outside Detached is refl }

all_kept : (done : Written) → EachObject IsSettled (graph_written done) → ((object : ObjId) → starts_deletes (object_at (graph_written done) object) ≡ false) → NothingIsLeft (graph_written done)
all_kept done settled stays = λ place less.
    let within : place < length done.graph.objects = omega (arith, less, flushed_long done) in
    let it : Object = get_or done.graph.objects place no_object in
    let kept : IsKept (get_or (graph_written done).objects place no_object) = subst IsKept (sym (flushed_at done place within)) (kept_in done (id_of_place place) it it.state refl) in
    record { settled = settled place less; stays = ap starts_deletes (sym (here_at (graph_written done) place)) ∙ stays (id_of_place place); cells = kept.cells; links = kept.links }

-- ---- the flush

pub nothing_left : FlushWritesAll → FlushesLeaveNothing
unfolding flush_now
nothing_left answers world hale is =
    let start : World = (enter world).after in
    let two = parted enter (λ (u : Unit {0}). flush) world tt (written world) (record { answer = is; leaves = refl }) in
    let flushed : Goes flush start tt (written world) = subst (λ (v : World). Goes flush v tt (written world)) (sym two.first.leaves) two.second in
    let inside = (enter_led world (record { fit = hale.keyed.fit; handled = hale.handled }) hale.healthy).told two.value two.first.answer in
    let mid : World = prepared_world start in
    let sent : IsFlushSent mid (flush start).after = (flush_sent start flushed.answer).sent in
    let done : Written = written_with mid.own.mapping (prepared_of mid.own.mapping mid.own.graph) (changes_of mid.own) sent.given mid.own.graph in
    let settled : EachObject IsSettled (graph_written done) = subst (EachObject IsSettled) {y = graph_written done} sent.objects (answers world.own.mapping start inside flushed.answer).1 in
    let marks : EachObject IsMarkedRight mid.own.graph = prepare_marks start inside.healthy.sound.marked in
    let objects : (flush start).after.own.graph ≡ graph_written done = sent.objects in
    let same : graph_written done ≡ (written world).own.graph = sym objects ∙ ap (λ (v : World). v.own.graph) flushed.leaves in
    subst NothingIsLeft {y = (written world).own.graph} same (all_kept done settled (none_starts mid.own.mapping mid.own.graph (changes_of mid.own) sent.given marks))
