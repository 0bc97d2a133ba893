-- What the reading before a flush leaves, object by object and load by load.
use Rattle.std.proofs.Common.{◌≡◌, inl, inr, ℕ, zero, suc, ◌<◌, Bool, true, false, not, List, [], ◌∷◌, length, Option, None, Some, Result, Ok, Err, IfOk, find, cond, refl, sym, ap, subst, ◌∙◌, arith}
use Rattle.std.specs.List.{AllByRecursion, enumerate_from}
use Rattle.std.proofs.lemmas.Bool.{and_parts}
use Rattle.std.proofs.lemmas.List.Elements.{recursion_from_All}
use Rattle.std.proofs.lemmas.Option.{slice_get_within}
use Rattle.base_core.specs.declared.ids.AttrNo.{AttrNo}
use Rattle.base_core.specs.declared.ids.ClassId.{ClassId}
use Rattle.base_core.specs.declared.ids.ObjId.{ObjId}
use Rattle.base_core.specs.declared.ids.RelNo.{RelNo}
use Rattle.base_core.specs.declared.refusal.Refusal.{Refusal}
use Rattle.base_core.specs.declared.value.Value.{Value}
use Rattle.class_types.specs.declared.mapped.Relation.{Relation}
use Rattle.class_mapping.specs.Mapped.{Mapped, relations_of}
use Rattle.class_mapping.specs.Related.{AreRelated}
use Rattle.class_mapping.proofs.Having.{Has, all_from, from_filter, from_numbered}
use Rattle.mapping_laws.specs.Hierarchies.{HasHierarchies}
use Rattle.keeper_core.specs.Beside.{changes}
use Rattle.keeper_core.specs.Programs.{Run, ◌>>=◌, each, give}
use Rattle.keeper_core.specs.Store.{Store}
use Rattle.object_arena.specs.declared.object.Object.{Object}
use Rattle.object_arena.specs.declared.object.State.{State}
use Rattle.object_arena.specs.declared.object.State.TheVariants.{Transient, Pending, Persistent, Deleted, Detached}
use Rattle.object_arena.specs.Graph.{Graph, IsObject, is_persistent, object_at, object_limit}
use Rattle.object_arena.proofs.TurnLemmas.{at_with}
use Rattle.object_rows.specs.Seen.{object_ids}
use Rattle.object_rows.proofs.ObjectSteps.{all_made}
use Rattle.pair_rows.specs.Pairs.{relations_at}
use Rattle.cascades.specs.Reaching.{reach_of}
use Rattle.prepared_objects.specs.Known.{is_read, lacks_link, next_unread}
use Rattle.prepared_objects.specs.Leaving.{going, reached}
use Rattle.load_rows.specs.Loading.{Loading}
use Rattle.load_calls.specs.Reading.{World}
use Rattle.load_calls.specs.Refreshing.{refresh}
use Rattle.load_targets.specs.Targets.{load_lazy}
use Rattle.load_preparing.specs.Preparing.{is_to_load, load_if, read_going, read_link, read_links, read_most, read_object, read_then, reread, reread_object}
use Rattle.loading_laws.proofs.Loaders.Frames.{graph_put}
use Rattle.load_steps.specs.Based.{AreReadOfTables, IsRowOfTables}
use Rattle.load_steps.specs.Loads.{CanLoad, Cells, IsLoadStage, IsStanding, Link, Load, after_load}
use Rattle.load_steps.specs.Noted.{AreNotedSince}
use Rattle.load_steps.specs.Rows.{AnswerRows}
use Rattle.load_steps.specs.Steps.{IsAnything, IsArena, Keeps, Left}
use Rattle.load_steps.proofs.Filling.{fills_made}
use Rattle.load_steps.proofs.Keeping.{keeps_all, keeps_at, keeps_by_own, keeps_from, keeps_tell, keeps_then}
use Rattle.load_steps.proofs.Loaded.{none_read, read_steps}
use Rattle.load_steps.proofs.Loads.{load_leaves, rows_of_tables}
use Rattle.load_steps.proofs.Noted.{noted_steps}
use Rattle.preparing_laws.specs.Laws.{ReadingsOnlyReread}
use Rattle.preparing_laws.specs.Reread.{AreRereadFrom}
use Rattle.preparing_laws.proofs.Noting.{reread_noted}
use Rattle.preparing_laws.proofs.Rereading.{all_read, all_then, class_still, fit_left, graph_left, none_reread, still_there}

-- ---- who is read

persistent_state : (state : State) → is_persistent state ≡ true → state ≡ Persistent
persistent_state Transient h = absurd cc
persistent_state Pending h = absurd cc
persistent_state Persistent h = refl
persistent_state Deleted h = absurd cc
persistent_state Detached h = absurd cc

pub found_has : {A : Type 0} (test : A → Bool) (xs : List A) (x : A) → find test xs ≡ Some x → Has xs x
found_has test [] x is = absurd cc
found_has {A = A} test (y ∷ xs) x is = by (test y) (found_has test xs x) is
  where
    by : (b : Bool) → (find test xs ≡ Some x → Has xs x) → cond b (Some y) (find test xs) ≡ Some x → Has (y ∷ xs) x
    by true more e = inl (let same : y ≡ x = cc in same)
    by false more e = inr (more e)

-- the object that is read next is persistent
pub next_standing : (mapped : Mapped) (graph : Graph) (object : ObjId) → next_unread mapped graph ≡ Some object → IsStanding graph object
unfolding next_unread going reached reach_of object_ids
next_standing mapped graph object is =
    let there = found_has (λ (other : ObjId). not (is_read mapped graph other)) (going mapped graph) object is in
    let kept = from_filter (λ (other : ObjId). is_persistent (object_at graph other).state) (reached mapped graph) object there in
    let one = from_filter _ (object_ids graph) object kept.0 in
    (each_has (IsObject graph) (object_ids graph) object (recursion_from_All (IsObject graph) (object_ids graph) (all_made graph (object_ids graph) refl)) one.0, persistent_state (object_at graph object).state kept.1)
  where
    each_has : {A : Type 0} (P : A → Type 0) (xs : List A) (x : A) → AllByRecursion P xs → Has xs x → P x
    each_has P [] x all has = absurd has
    each_has P (y ∷ xs) x all (inl same) = subst P same all.0
    each_has P (y ∷ xs) x all (inr more) = each_has P xs x all.1 more

module _ (mapped : Mapped) (store : Store) (start : Graph) (has : HasHierarchies mapped) (related : AreRelated mapped) (answers : AnswerRows mapped (IsRowOfTables mapped store.tables) (AreReadOfTables mapped store.tables) store.tables) where
  abbrev IsRow : ClassId → List Value → Type 0
  IsRow = IsRowOfTables mapped store.tables

  abbrev AreCells : ClassId → List AttrNo → List Value → List Value → Type 0
  AreCells = AreReadOfTables mapped store.tables

  -- ---- what the reading keeps

  pub record IsGoing (w : World) : Type 0 where
    pub arena : IsArena mapped w.own.graph
    pub kept : w.store ≡ store
    pub noted : AreNotedSince start w.own
    pub read : AreRereadFrom mapped store.tables start w.own.graph

  -- and what became of the objects by a step
  pub record IsMoved (w v : World) : Type 0 where
    pub going : IsGoing v
    pub since : AreRereadFrom mapped store.tables w.own.graph v.own.graph

  stage : (w : World) → IsGoing w → IsLoadStage mapped IsRow AreCells w
  stage w is = record { has = has; related = related; arena = is.arena; answers = subst (λ (s : Store). AnswerRows mapped IsRow AreCells s.tables) (sym is.kept) answers }

  pub load_goes : (load : Load) (w : World) → IsGoing w → CanLoad mapped IsRow AreCells w load → IsMoved w (after_load mapped load w)
  load_goes load w is can =
      let of = rows_of_tables mapped store.tables has in
      let noting = noted_steps mapped IsRow AreCells start has (fills_made mapped IsRow has (λ class row one. one.0.wide)) in
      let reading = read_steps mapped store.tables w.own.graph IsRow AreCells has (λ class row one. one.1) (λ class attrs key row one. one.1) in
      let noted = load_leaves of noting w (stage w is) is.noted load can in
      let read = load_leaves of reading w (stage w is) (none_read mapped store.tables w.own.graph) load can in
      let since = all_read mapped store.tables w.own.graph (after_load mapped load w).own.graph read.holds.is in
      record {
        going = record {
          arena = read.holds.arena;
          kept = read.store ∙ is.kept;
          noted = noted.holds.is;
          read = all_then mapped store.tables start w.own.graph (after_load mapped load w).own.graph is.read since;
        };
        since = since;
      }

  -- cells of an object are to be read again
  pub reread_goes : (object : ObjId) (w : World) → IsGoing w → IsObject w.own.graph object → IsMoved w (record { own = reread object w.own; store = w.store })
  reread_goes object w is made =
      let since = graph_left mapped store.tables w.own.graph object in
      record {
        going = record {
          arena = record {
            fit = fit_left mapped store.tables w.own.graph object is.arena.fit made;
            graph = graph_put w.own.graph object (reread_object (object_at w.own.graph object)) is.arena.graph refl refl;
          };
          kept = is.kept;
          noted = reread_noted start object w.own made is.noted;
          read = all_then mapped store.tables start w.own.graph (reread object w.own).graph is.read since;
        };
        since = since;
      }

  -- ---- an object

  module _ (object : ObjId) (class : ClassId) where
    record IsInside (w : World) : Type 0 where
      pub going : IsGoing w
      pub made : IsObject w.own.graph object
      pub of : (object_at w.own.graph object).class ≡ class

    inside_then : (w v : World) → IsInside w → IsMoved w v → IsInside v
    inside_then w v is moved = record {
      going = moved.going;
      made = still_there mapped store.tables w.own.graph v.own.graph object moved.since is.made;
      of = class_still mapped store.tables w.own.graph v.own.graph object moved.since is.made ∙ is.of;
    }

    any : {A : Type 0} (r : Result A Refusal) (w : World) → IfOk r (λ a. IsAnything a w)
    any (Ok a) w = tt
    any (Err e) w = tt

    -- a link that is to be read is loaded
    link_kept : (placed : ℕ × Relation) (u : Unit {0}) → placed.0 < length (relations_of mapped class) → Keeps IsInside IsInside IsAnything (read_link mapped object placed u)
    unfolding read_link give
    link_kept placed u less =
        keeps_by_own (λ own. load_if (is_to_load (object_at own.graph object) placed) mapped object placed)
        (λ own. keeps_at (load_if (is_to_load (object_at own.graph object) placed) mapped object placed) (λ w is. by own w is.0 is.1 (is_to_load (object_at own.graph object) placed) refl))
      where
        by : (own : Loading) (w : World) → IsInside w → w.own ≡ own → (b : Bool) → is_to_load (object_at own.graph object) placed ≡ b → Left IsInside IsAnything (load_if b mapped object placed w)
        by own w is same false asked = record { after = is; answer = tt }
        by own w is same true asked =
            let place : RelNo = record { 0 = placed.0 } in
            let state : (object_at w.own.graph object).state ≡ Persistent =
            ap (λ (o : Loading). (object_at o.graph object).state) same ∙ persistent_state (object_at own.graph object).state (and_parts (is_persistent (object_at own.graph object).state) (lacks_link (object_at own.graph object) placed) asked).0 in
            let within : placed.0 < length (relations_of mapped (object_at w.own.graph object).class) = subst (λ (c : ClassId). placed.0 < length (relations_of mapped c)) (sym is.of) less in
            let moved = load_goes (Link object place) w is.going ((is.made, state), within) in
            record { after = inside_then w (load_lazy mapped object place w).after is moved; answer = any (load_lazy mapped object place w).answer (load_lazy mapped object place w).after }

    abbrev IsPlaced : ℕ × Relation → Type 0
    IsPlaced placed = placed.0 < length (relations_of mapped class)

    pub all_placed : (relations : List Relation) → AllByRecursion (λ (placed : ℕ × Relation). placed.0 < length relations) (enumerate_from 0 relations)
    all_placed relations =
        all_from (λ (placed : ℕ × Relation). placed.0 < length relations) (enumerate_from 0 relations)
        (λ placed there. let at = from_numbered 0 relations placed there in let less = slice_get_within relations at.0 placed.1 at.2 in let number = at.1 in omega (arith, less, number))

    links_kept : Keeps IsInside IsInside IsAnything (read_links mapped object)
    unfolding read_links
    links_kept =
        keeps_by_own (λ own. each (read_link mapped object) tt (relations_at mapped own.graph object))
        (λ own. keeps_at (each (read_link mapped object) tt (relations_at mapped own.graph object))
        (λ w is.
        let same : relations_at mapped own.graph object ≡ enumerate_from 0 (relations_of mapped class) =
        ap (λ (c : ClassId). enumerate_from 0 (relations_of mapped c)) (ap (λ (o : Loading). (object_at o.graph object).class) (sym is.1) ∙ is.0.of) in
        subst (λ (list : List (ℕ × Relation)). Left IsInside IsAnything (each (read_link mapped object) tt list w)) (sym same)
        ((keeps_all IsPlaced (read_link mapped object) tt (enumerate_from 0 (relations_of mapped class)) link_kept (all_placed (relations_of mapped class))).left w is.0)))

    -- while it is persistent
    abbrev IsOn : World → Type 0
    IsOn w = IsInside w × ((object_at w.own.graph object).state ≡ Persistent)

    rereads : Keeps IsOn IsOn IsAnything (changes (reread object))
    unfolding changes
    rereads =
        keeps_at (changes (reread object))
        (λ w on. record {
          after = (
            inside_then w (record { own = reread object w.own; store = w.store }) on.0 (reread_goes object w on.0.going on.0.made),
            ap (λ (o : Object). o.state) (at_with w.own.graph object (reread_object (object_at w.own.graph object)) on.0.made) ∙ on.1,
          );
          answer = tt;
        })

    refreshes : Keeps IsOn IsInside IsAnything (refresh mapped object)
    refreshes =
        keeps_at (refresh mapped object)
        (λ w on. record {
          after = inside_then w (refresh mapped object w).after on.0 (load_goes (Cells object) w on.0.going (on.0.made, on.1));
          answer = any (refresh mapped object w).answer (refresh mapped object w).after;
        })

    object_kept : Keeps IsOn IsInside IsAnything (read_object mapped object)
    unfolding read_object
    object_kept =
        let last : World → Run World (Unit {0}) = refresh mapped object >>= λ u. read_links mapped object in
        keeps_then (changes (reread object)) (λ u. last) rereads (λ w on. on.0)
        (λ u. keeps_from last (keeps_then (refresh mapped object) (λ u. read_links mapped object) refreshes (λ w is. is) (λ u. keeps_from (read_links mapped object) links_kept (λ w is. is.0))) (λ w is. is.0))

  -- ---- all objects

  turn_kept : (more : World → Run World (Unit {0})) → Keeps IsGoing IsGoing IsAnything more → (own : Loading) (w : World) → IsGoing w → w.own ≡ own → (found : Option ObjId) → next_unread mapped own.graph ≡ found → Left IsGoing IsAnything (read_then mapped found more w)
  unfolding give
  turn_kept more kept own w is same None next = record { after = is; answer = tt }
  turn_kept more kept own w is same (Some object) next =
      let standing : IsStanding w.own.graph object = subst (λ (o : Loading). IsStanding o.graph object) (sym same) (next_standing mapped own.graph object next) in
      let class : ClassId = (object_at w.own.graph object).class in
      (keeps_then (read_object mapped object) (λ u. more) (object_kept object class) (λ v inside. inside.going) (λ u. keeps_from more kept (λ v both. both.0.going))).left w
      (record { going = is; made = standing.0; of = refl }, standing.1)

  pub most_kept : (most : ℕ) → Keeps IsGoing IsGoing IsAnything (read_most most mapped)
  unfolding read_most
  most_kept zero = keeps_tell tt
  most_kept (suc most) =
      keeps_by_own (λ own. read_then mapped (next_unread mapped own.graph) (read_most most mapped))
      (λ own. keeps_at (read_then mapped (next_unread mapped own.graph) (read_most most mapped)) (λ w is. turn_kept (read_most most mapped) (most_kept most) own w is.0 is.1 (next_unread mapped own.graph) refl))

pub only_reread : ReadingsOnlyReread
unfolding read_going
only_reread mapped w held =
    let start : Graph = w.own.graph in
    let begun : IsGoing mapped w.store start held.has held.related held.answers w = record { arena = held.arena; kept = refl; noted = λ object made. inr (record { made = made; same = refl }); read = none_reread mapped w.store.tables start } in
    let left = (most_kept mapped w.store start held.has held.related held.answers object_limit).left w begun in
    record { arena = left.after.arena; store = left.after.kept; noted = left.after.noted; read = left.after.read }
