-- Turn by turn one more object is read, until all are that are to be deleted.
use Rattle.std.proofs.Common.{◌≡◌, inl, inr, ℕ, zero, suc, ◌+◌, ◌<◌, ◌≤◌, Bool, true, false, not, ◌&&◌, List, [], ◌∷◌, length, filter, Option, None, Some, Result, Ok, IfOk, is_some, refl, sym, ap, subst, ◌∙◌, arith}
use Rattle.std.specs.Prelude.{slice_index_or}
use Rattle.std.specs.List.{AllByRecursion, enumerate_from, list_all, range_with_len}
use Rattle.std.proofs.lemmas.Bool.{and_from, and_left, and_parts, and_right}
use Rattle.std.proofs.lemmas.List.{length-map}
use Rattle.std.proofs.lemmas.List.Elements.{recursion_from_All}
use Rattle.std.proofs.lemmas.List.FromFn.{length-range_with_len}
use Rattle.base_core.specs.declared.ids.AttrNo.{AttrNo}
use Rattle.base_core.specs.declared.ids.ClassId.{ClassId}
use Rattle.base_core.specs.declared.ids.ObjId.{ObjId}
use Rattle.base_core.specs.declared.ids.RelNo.{RelNo}
use Rattle.base_core.specs.declared.refusal.Refusal.{Refusal}
use Rattle.base_core.specs.declared.value.Value.{Value}
use Rattle.schema_core.specs.Tables as held
use Rattle.sql_semantics.specs.Created.{bare}
use Rattle.sql_semantics.specs.Rows.{answer}
use Rattle.class_types.specs.declared.mapped.Relation.{Relation}
use Rattle.class_mapping.specs.Mapped.{Mapped, relations_of}
use Rattle.class_mapping.specs.Related.{AreRelated}
use Rattle.class_mapping.proofs.Having.{Has, all_of, from_filter}
use Rattle.mapping_laws.specs.Hierarchies.{HasHierarchies}
use Rattle.keeper_core.specs.Beside.{changes, on_own}
use Rattle.keeper_core.specs.Programs.{◌>>=◌, each}
use Rattle.keeper_core.specs.Store.{Store}
use Rattle.object_arena.specs.declared.object.Cell.{Cell}
use Rattle.object_arena.specs.declared.object.Link.{Link}
use Rattle.object_arena.specs.declared.object.Object.{Object}
use Rattle.object_arena.specs.declared.object.State.TheVariants.{Persistent}
use Rattle.object_arena.specs.Graph.{Graph, IsObject, cell_in, expired_cell, is_persistent, no_object, object_at, object_limit, place_of}
use Rattle.object_arena.specs.Identity.{id_of_place}
use Rattle.object_arena.proofs.FitLemmas.{fit_at, fit_cells}
use Rattle.object_arena.proofs.TurnLemmas.{at_with}
use Rattle.object_parts.specs.Links.{is_unloaded}
use Rattle.object_rows.specs.Seen.{object_ids}
use Rattle.object_rows.proofs.ObjectSteps.{all_made}
use Rattle.pair_rows.specs.Pairs.{relations_at}
use Rattle.cascades.specs.Reaching.{reach_of}
use Rattle.prepared_objects.specs.Known.{IsPrepared, has_links, is_known, is_read, is_read_for, lacks_link, next_unread}
use Rattle.prepared_objects.specs.Leaving.{going, reached}
use Rattle.load_selects.specs.Selects.{cells_select}
use Rattle.load_rows.specs.Loading.{Loading}
use Rattle.load_rows.specs.Links.{link_at, link_in}
use Rattle.load_rows.specs.Reading.{identity_key}
use Rattle.load_calls.specs.Reading.{World, read}
use Rattle.load_calls.specs.Refreshing.{expired_attrs, read_cells, refresh, refresh_cells, take_cells}
use Rattle.load_calls.proofs.RefreshLemmas.{are_attributes, own_key_fits}
use Rattle.load_targets.specs.Targets.{load_lazy}
use Rattle.load_preparing.specs.Preparing.{is_to_load, load_if, read_going, read_link, read_links, read_most, read_object, read_then, reread, reread_object}
use Rattle.loading_laws.specs.Strategies.Filled.{Goes}
use Rattle.loading_laws.proofs.Strategies.Goes.{by_own_goes, changed_to, given, on_own_goes, parted, read_goes}
use Rattle.load_steps.specs.Based.{AreReadOfTables, IsRowOfTables}
use Rattle.load_steps.specs.Loads.{Cells, IsStanding, Link as LinkOf}
use Rattle.load_steps.specs.Loaded.{IsReadLink, row_value}
use Rattle.load_steps.specs.Rows.{AnswerRows}
use Rattle.load_steps.specs.Steps.{IsArena}
use Rattle.load_steps.proofs.Loaded.{grown_long}
use Rattle.preparing_laws.specs.Done.{AnswerWideCells, ReadingsPrepare}
use Rattle.preparing_laws.specs.Reread.{AreRereadFrom, IsRereadCell, IsRereadFrom}
use Rattle.preparing_laws.proofs.Counting.{all_at, all_by, all_pass, all_places, found_passes, none_lacks, of_longer, one_more}
use Rattle.preparing_laws.proofs.Going.{IsGoing, IsMoved, all_placed, found_has, load_goes, next_standing, reread_goes}
use Rattle.preparing_laws.proofs.Known.{IsSettled, cells_settled, lazy_loaded, none_expired, take_known}
use Rattle.preparing_laws.proofs.Rereading.{all_then, class_still, none_reread, still_there}

-- ---- truth values

not_so : (b : Bool) → not b ≡ true → b ≡ false
not_so true e = absurd cc
not_so false e = refl

other_not : (a b : Bool) → a ≡ true → (a && b) ≡ false → b ≡ false
other_not true b e f = f
other_not false b e f = absurd cc

first_not : (a b : Bool) → b ≡ true → (a && b) ≡ false → a ≡ false
first_not true b e f = absurd (let never : true ≡ false = sym e ∙ f in cc)
first_not false b e f = refl

-- ---- objects that are read stay so

module _ (mapped : Mapped) (tables : held.Tables) where
  lack_stays : (was now : Object) → IsRereadFrom mapped tables was now → (placed : ℕ × Relation) → lacks_link was placed ≡ false → lacks_link now placed ≡ false
  lack_stays was now of placed has = by (of.links place)
    where
      place : RelNo
      place = record { 0 = placed.0 }

      by : IsReadLink (link_in was.links place) (link_in now.links place) → lacks_link now placed ≡ false
      by (inl same) = ap (λ (link : Link). is_read_for placed.1 && is_unloaded link) same ∙ has
      by (inr waits) = and_left (is_read_for placed.1) (is_unloaded (link_in now.links place)) (first_not (is_read_for placed.1) (is_unloaded (link_in was.links place)) waits has)

  links_stay : (was now : Object) → IsRereadFrom mapped tables was now → (list : List (ℕ × Relation)) → has_links was list ≡ true → has_links now list ≡ true
  links_stay was now of list has =
      all_by (λ (placed : ℕ × Relation). not (lacks_link now placed)) list
      (λ placed there. ap not (lack_stays was now of placed (not_so (lacks_link was placed) (all_of (λ (one : ℕ × Relation). not (lacks_link was one)) list placed has there))))

  cell_stays : (found : Option Value) (was now : Cell) → IsRereadCell found was now → is_known was ≡ true → is_known now ≡ true
  cell_stays found was now (inl (inl same)) known = ap is_known same ∙ known
  cell_stays found was now (inl (inr filled)) known = absurd (let never : true ≡ false = sym (and_parts (is_some was.value) (is_some was.base) known).0 ∙ ap is_some filled.expired in cc)
  cell_stays found was now (inr lost) known = absurd (let never : true ≡ false = sym (and_parts (is_some was.value) (is_some was.base) known).1 ∙ ap is_some lost.unknown in cc)

  cells_stay : (was now : Object) → IsRereadFrom mapped tables was now → list_all is_known was.cells ≡ true → list_all is_known now.cells ≡ true
  cells_stay was now of known = all_places is_known now.cells expired_cell at
    where
      at : (i : ℕ) → i < length now.cells → is_known (slice_index_or now.cells i expired_cell) ≡ true
      at i less =
          let attr : AttrNo = record { 0 = i } in
          let long = of.long in
          cell_stays (row_value mapped tables now attr) (cell_in was attr) (cell_in now attr) (of.cells attr less) (all_at is_known was.cells expired_cell i known (omega (arith, less, long)))

  links_of_class : (old new : Graph) → AreRereadFrom mapped tables old new → (object : ObjId) → IsObject old object → relations_at mapped old object ≡ relations_at mapped new object
  links_of_class old new all object made = ap (λ (class : ClassId). enumerate_from 0 (relations_of mapped class)) (sym (class_still mapped tables old new object all made))

  object_since : (old new : Graph) → AreRereadFrom mapped tables old new → (object : ObjId) → IsObject old object → IsRereadFrom mapped tables (object_at old object) (object_at new object)
  object_since old new all object made = all.read (place_of object) (let within : place_of object < length old.objects = omega (arith, made.0, made.1) in within)

  -- with these links
  is_so : (old new : Graph) → AreRereadFrom mapped tables old new → (object : ObjId) → IsObject old object → list_all is_known (object_at old object).cells ≡ true → has_links (object_at new object) (relations_at mapped old object) ≡ true → is_read mapped new object ≡ true
  is_so old new all object made known links =
      and_from (list_all is_known (object_at new object).cells) (has_links (object_at new object) (relations_at mapped new object)) (cells_stay (object_at old object) (object_at new object) (object_since old new all object made) known)
      (subst (λ (list : List (ℕ × Relation)). has_links (object_at new object) list ≡ true) (links_of_class old new all object made) links)

  read_stays : (old new : Graph) → AreRereadFrom mapped tables old new → (object : ObjId) → IsObject old object → is_read mapped old object ≡ true → is_read mapped new object ≡ true
  read_stays old new all object made is =
      let parts = and_parts (list_all is_known (object_at old object).cells) (has_links (object_at old object) (relations_at mapped old object)) is in
      is_so old new all object made parts.0 (links_stay (object_at old object) (object_at new object) (object_since old new all object made) (relations_at mapped old object) parts.1)

-- ---- how many are read

each_has : {A : Type 0} (P : A → Type 0) (xs : List A) (x : A) → AllByRecursion P xs → Has xs x → P x
each_has P [] x all there = absurd there
each_has P (y ∷ xs) x all (inl same) = subst P same all.0
each_has P (y ∷ xs) x all (inr more) = each_has P xs x all.1 more

ids_are_made : (graph : Graph) (object : ObjId) → Has (object_ids graph) object → IsObject graph object
ids_are_made graph object there = each_has (IsObject graph) (object_ids graph) object (recursion_from_All (IsObject graph) (object_ids graph) (all_made graph (object_ids graph) refl)) there

going_there : (mapped : Mapped) (graph : Graph) (object : ObjId) → Has (going mapped graph) object → Has (object_ids graph) object
unfolding going reached reach_of object_ids
going_there mapped graph object there =
    let kept = from_filter (λ (other : ObjId). is_persistent (object_at graph other).state) (reached mapped graph) object there in
    let one = from_filter _ (object_ids graph) object kept.0 in
    one.0

abbrev count : Mapped → Graph → ℕ
count mapped graph = length (filter (is_read mapped graph) (object_ids graph))

module _ (mapped : Mapped) where
  count_grows : (tables : held.Tables) (old new : Graph) → AreRereadFrom mapped tables old new → (object : ObjId) → Has (object_ids old) object → is_read mapped old object ≡ false → is_read mapped new object ≡ true → suc (count mapped old) ≤ count mapped new
  unfolding object_ids
  count_grows tables old new all object there lacks is =
      let long = grown_long old new all.grows in
      let here : suc (count mapped old) ≤ length (filter (is_read mapped new) (object_ids old)) =
      one_more (is_read mapped old) (is_read mapped new) (object_ids old) object there lacks is (λ other those so. read_stays mapped tables old new all other (ids_are_made old other those) so) in
      let more : length (filter (is_read mapped new) (object_ids old)) ≤ count mapped new = of_longer id_of_place (is_read mapped new) 0 (length old.objects) (length new.objects) long in
      omega (arith, here, more)

  -- where as many are read as there may be, all are
  all_read_then : (graph : Graph) → IsArena mapped graph → object_limit ≤ count mapped graph → IsPrepared mapped graph
  unfolding object_ids
  all_read_then graph arena enough =
      let few = arena.graph.few in
      let long : length (object_ids graph) ≡ length graph.objects = length-map (range_with_len 0 (length graph.objects)) id_of_place ∙ length-range_with_len 0 (length graph.objects) in
      let whole : length (object_ids graph) ≤ count mapped graph = omega (arith, long, few, enough) in
      let all = all_pass (is_read mapped graph) (object_ids graph) whole in
      all_by (is_read mapped graph) (going mapped graph) (λ object there. all_of (is_read mapped graph) (object_ids graph) object all (going_there mapped graph object there))

  none_left : (graph : Graph) → next_unread mapped graph ≡ None → IsPrepared mapped graph
  unfolding next_unread
  none_left graph none = none_lacks (is_read mapped graph) (going mapped graph) none

  next_lacks : (graph : Graph) (object : ObjId) → next_unread mapped graph ≡ Some object → (is_read mapped graph object ≡ false) × Has (object_ids graph) object
  unfolding next_unread
  next_lacks graph object is = (
    not_so (is_read mapped graph object) (found_passes (λ (other : ObjId). not (is_read mapped graph other)) (going mapped graph) object is),
    going_there mapped graph object (found_has (λ (other : ObjId). not (is_read mapped graph other)) (going mapped graph) object is),
  )

-- ---- one object

said : {A : Type 0} (Are : A → Type 0) (r : Result A Refusal) (a : A) → IfOk r Are → r ≡ Ok a → Are a
said {A = A} Are r a are e = subst (λ (s : Result A Refusal). IfOk s Are) e are

module _ (mapped : Mapped) (store : Store) (start : Graph) (has : HasHierarchies mapped) (related : AreRelated mapped) (answers : AnswerRows mapped (IsRowOfTables mapped store.tables) (AreReadOfTables mapped store.tables) store.tables)
    (wide : AnswerWideCells mapped store.tables) where
  abbrev Goingly : World → Type 0
  Goingly w = IsGoing mapped store start has related answers w

  abbrev Moved : World → World → Type 0
  Moved w v = IsMoved mapped store start has related answers w v

  stay_moved : (w : World) → Goingly w → Moved w w
  stay_moved w is = record { going = is; since = none_reread mapped store.tables w.own.graph }

  moved_then : (w m v : World) → Moved w m → Moved m v → Moved w v
  moved_then w m v p q = record { going = q.going; since = all_then mapped store.tables w.own.graph m.own.graph v.own.graph p.since q.since }

  module _ (object : ObjId) (class : ClassId) where
    record IsAt (w : World) : Type 0 where
      pub going : Goingly w
      pub made : IsObject w.own.graph object
      pub state : (object_at w.own.graph object).state ≡ Persistent
      pub of : (object_at w.own.graph object).class ≡ class

    at_then : (w v : World) → IsAt w → Moved w v → IsAt v
    at_then w v at moved = record {
      going = moved.going;
      made = still_there mapped store.tables w.own.graph v.own.graph object moved.since at.made;
      state = ap (λ (o : Object). o.state) (object_since mapped store.tables w.own.graph v.own.graph moved.since object at.made).rest ∙ at.state;
      of = class_still mapped store.tables w.own.graph v.own.graph object moved.since at.made ∙ at.of;
    }

    -- ---- its links

    link_goes : (placed : ℕ × Relation) (w v : World) (t u : Unit {0}) → IsAt w → placed.0 < length (relations_of mapped class) → Goes (read_link mapped object placed t) w u v → Moved w v × (lacks_link (object_at v.own.graph object) placed ≡ false)
    unfolding read_link
    link_goes placed w v t u at less g = by (is_to_load (object_at w.own.graph object) placed) refl (by_own_goes (λ (own : Loading). load_if (is_to_load (object_at own.graph object) placed) mapped object placed) w u v g)
      where
        by : (b : Bool) → is_to_load (object_at w.own.graph object) placed ≡ b → Goes (load_if b mapped object placed) w u v → Moved w v × (lacks_link (object_at v.own.graph object) placed ≡ false)
        by false refused go =
            let end = given tt u w v go in (
              subst (Moved w) end.1 (stay_moved w at.going),
              subst (λ (x : World). lacks_link (object_at x.own.graph object) placed ≡ false) end.1
                  (other_not (is_persistent (object_at w.own.graph object).state) (lacks_link (object_at w.own.graph object) placed) (ap is_persistent at.state) refused),
            )
        by true asked go =
            let place : RelNo = record { 0 = placed.0 } in
            let within : placed.0 < length (relations_of mapped (object_at w.own.graph object).class) = subst (λ (c : ClassId). placed.0 < length (relations_of mapped c)) (sym at.of) less in
            let moved : Moved w (load_lazy mapped object place w).after = load_goes mapped store start has related answers (LinkOf object place) w at.going ((at.made, at.state), within) in
            (subst (Moved w) go.leaves moved, and_right (is_read_for placed.1) (is_unloaded (link_at v.own.graph object place)) (lazy_loaded mapped object place w v u at.made.0 go))

    abbrev IsPlaced : ℕ × Relation → Type 0
    IsPlaced placed = placed.0 < length (relations_of mapped class)

    links_go : (list : List (ℕ × Relation)) (w v : World) (t u : Unit {0}) → IsAt w → AllByRecursion IsPlaced list → Goes (each (read_link mapped object) t list) w u v → Moved w v × (has_links (object_at v.own.graph object) list ≡ true)
    unfolding each
    links_go [] w v t u at all g = let end = given t u w v g in (subst (Moved w) end.1 (stay_moved w at.going), refl)
    links_go (placed ∷ list) w v t u at all g =
        let both = parted (read_link mapped object placed t) (λ (s : Unit {0}). each (read_link mapped object) s list) w u v g in
        let one = link_goes placed w both.between t both.value at all.0 both.first in
        let there = at_then w both.between at one.0 in
        let rest = links_go list both.between v both.value u there all.1 both.second in
        let since = object_since mapped store.tables both.between.own.graph v.own.graph rest.0.since object there.made in (
          moved_then w both.between v one.0 rest.0,
          and_from (not (lacks_link (object_at v.own.graph object) placed)) (has_links (object_at v.own.graph object) list)
              (ap not (lack_stays mapped store.tables (object_at both.between.own.graph object) (object_at v.own.graph object) since placed one.1)) rest.1,
        )

    -- ---- its cells

    refresh_goes : (w v : World) (u : Unit {0}) → IsAt w → AllByRecursion IsSettled (object_at w.own.graph object).cells → Goes (refresh mapped object) w u v → Moved w v × (list_all is_known (object_at v.own.graph object).cells ≡ true)
    unfolding refresh read_cells
    refresh_goes w v u at settled g = (
      subst (Moved w) g.leaves (load_goes mapped store start has related answers (Cells object) w at.going (at.made, at.state)),
      by (expired_attrs own) refl (by_own_goes (λ (l : Loading). refresh_cells mapped object (expired_attrs (object_at l.graph object))) w u v g),
    )
      where
        own : Object
        own = object_at w.own.graph object

        key : List Value
        key = identity_key w.own.graph object

        by : (attrs : List AttrNo) → expired_attrs own ≡ attrs → Goes (refresh_cells mapped object attrs) w u v → list_all is_known (object_at v.own.graph object).cells ≡ true
        by [] e go =
            let end = given tt u w v go in
            subst (λ (x : World). list_all is_known (object_at x.own.graph object).cells ≡ true) end.1 (none_expired 0 own.cells e settled)
        by (attr ∷ attrs) e go =
            let asked : List AttrNo = attr ∷ attrs in
            let both = parted (read_cells mapped object asked) (λ (rows : List (List Value)). on_own (take_cells object asked rows)) w u v go in
            let first = read_goes mapped.schema (cells_select mapped own.class asked key) w both.value both.between
            (by_own_goes (λ (l : Loading). read mapped.schema (cells_select mapped (object_at l.graph object).class asked (identity_key l.graph object))) w both.value both.between both.first) in
            let taken = on_own_goes (take_cells object asked both.value) both.between u v both.second in
            let fits = fit_at mapped w.own.graph object at.going.arena.fit at.made in
            let attributes = are_attributes mapped own.class own asked (sym (fit_cells mapped w.own.graph object at.going.arena.fit at.made)) (sym e) in
            let within : place_of object < length w.own.graph.objects = omega (arith, at.made.0, at.made.1) in
            let keyed = own_key_fits mapped w.own.graph object own fits refl at.state (at.going.arena.graph.identified (place_of object) no_object within) in
            let answered : answer mapped.schema (bare store.tables) (cells_select mapped own.class asked key) ≡ Ok both.value =
            ap (λ (s : Store). answer mapped.schema (bare s.tables) (cells_select mapped own.class asked key)) (sym at.going.kept) ∙ first.answered in
            let rows = said (AllByRecursion (λ (row : List Value). length asked ≤ length row)) (answer mapped.schema (bare store.tables) (cells_select mapped own.class asked key)) both.value (wide.cells own.class asked key fits.class attributes keyed) answered in
            let still : own ≡ object_at both.between.own.graph object = ap (λ (graph : Graph). object_at graph object) (sym first.graph) in
            take_known object asked both.value both.between.own v.own u (subst (λ (graph : Graph). IsObject graph object) (sym first.graph) at.made)
            (subst (λ (o : Object). AllByRecursion IsSettled o.cells) still settled) (ap expired_attrs (sym still) ∙ e) rows taken.goes

  -- ---- a turn

  turn_goes : (object : ObjId) (w v : World) (u : Unit {0}) → Goingly w → IsStanding w.own.graph object → Goes (read_object mapped object) w u v → Moved w v × (is_read mapped v.own.graph object ≡ true)
  unfolding read_object read_links
  turn_goes object w v u is standing g =
      let both = parted (changes (reread object)) (λ (s : Unit {0}). refresh mapped object >>= λ (t : Unit {0}). read_links mapped object) w u v g in
      let put = changed_to (reread object) w both.value both.between both.first in
      let one : Moved w both.between = subst (Moved w) put (reread_goes mapped store start has related answers object w is standing.0) in
      let settled : AllByRecursion IsSettled (object_at both.between.own.graph object).cells =
      subst (λ (x : World). AllByRecursion IsSettled (object_at x.own.graph object).cells) put
      (subst (λ (o : Object). AllByRecursion IsSettled o.cells) (sym (at_with w.own.graph object (reread_object (object_at w.own.graph object)) standing.0)) (cells_settled (object_at w.own.graph object).cells)) in
      let first = at_then object class w both.between (record { going = is; made = standing.0; state = standing.1; of = refl }) one in
      let more = parted (refresh mapped object) (λ (t : Unit {0}). read_links mapped object) both.between u v both.second in
      let two = refresh_goes object class both.between more.between more.value first settled more.first in
      let second = at_then object class both.between more.between first two.0 in
      let list = relations_at mapped more.between.own.graph object in
      let placed : AllByRecursion (IsPlaced object class) list =
      subst (λ (c : ClassId). AllByRecursion (IsPlaced object class) (enumerate_from 0 (relations_of mapped c))) (sym second.of) (all_placed mapped store start has related answers object class (relations_of mapped class)) in
      let three = links_go object class list more.between v tt u second placed (by_own_goes (λ (l : Loading). each (read_link mapped object) tt (relations_at mapped l.graph object)) more.between u v more.second) in (
        moved_then w both.between v one (moved_then both.between more.between v two.0 three.0),
        is_so mapped store.tables more.between.own.graph v.own.graph three.0.since object second.made two.1 three.1,
      )
    where
      class : ClassId
      class = (object_at w.own.graph object).class

  -- ---- all turns

  most_done : (most : ℕ) (w v : World) (u : Unit {0}) → Goingly w → object_limit ≤ most + count mapped w.own.graph → Goes (read_most most mapped) w u v → IsPrepared mapped v.own.graph
  unfolding read_most
  most_done zero w v u is enough g = let end = given tt u w v g in subst (λ (x : World). IsPrepared mapped x.own.graph) end.1 (all_read_then mapped w.own.graph is.arena (omega (arith, enough)))
  most_done (suc most) w v u is enough g =
      by (next_unread mapped w.own.graph) refl (λ (x : World) (is : Goingly x) (more : object_limit ≤ most + count mapped x.own.graph) (go : Goes (read_most most mapped) x u v). most_done most x v u is more go)
      (by_own_goes (λ (own : Loading). read_then mapped (next_unread mapped own.graph) (read_most most mapped)) w u v g)
    where
      by : (next : Option ObjId) → next_unread mapped w.own.graph ≡ next → ((x : World) → Goingly x → object_limit ≤ most + count mapped x.own.graph → Goes (read_most most mapped) x u v → IsPrepared mapped v.own.graph)
          → Goes (read_then mapped next (read_most most mapped)) w u v → IsPrepared mapped v.own.graph
      by None none later go = let end = given tt u w v go in subst (λ (x : World). IsPrepared mapped x.own.graph) end.1 (none_left mapped w.own.graph none)
      by (Some object) next later go =
          let both = parted (read_object mapped object) (λ (t : Unit {0}). read_most most mapped) w u v go in
          let turn = turn_goes object w both.between both.value is (next_standing mapped w.own.graph object next) both.first in
          let lacks = next_lacks mapped w.own.graph object next in
          let grown = count_grows mapped store.tables w.own.graph both.between.own.graph turn.0.since object lacks.1 lacks.0 turn.1 in
          later both.between turn.0.going (omega (arith, enough, grown)) both.second

pub readings_prepare_law : ReadingsPrepare
unfolding read_going
readings_prepare_law mapped w begun_from wide answered =
    let start : Graph = w.own.graph in
    let begun : IsGoing mapped w.store start begun_from.has begun_from.related begun_from.answers w = record { arena = begun_from.arena; kept = refl; noted = λ object made. inr (record { made = made; same = refl }); read = none_reread mapped w.store.tables start } in
    most_done mapped w.store start begun_from.has begun_from.related begun_from.answers wide object_limit w (read_most object_limit mapped w).after tt begun (omega arith) (record { answer = answered; leaves = refl })
