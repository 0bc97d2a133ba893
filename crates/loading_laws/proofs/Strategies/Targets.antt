-- A lazy load leads a many-to-one link to what its owner's foreign key says.
use Rattle.std.proofs.Common.{◌≡◌, ◌<◌, Bool, true, false, not, ◌&&◌, ◌||◌, List, [], ◌∷◌, filter, length, Option, None, Some, if◌then◌else◌, is_some, refl, sym, ap, subst, ◌∙◌}
use Rattle.std.specs.List.{list_any}
use Rattle.base_core.specs.declared.ids.ClassId.{ClassId}
use Rattle.base_core.specs.declared.ids.ObjId.{ObjId}
use Rattle.base_core.specs.declared.ids.RelNo.{RelNo}
use Rattle.base_core.specs.declared.value.Value.{Value}
use Rattle.schema_core.specs.Tables.{has_null, same_values}
use Rattle.sql_semantics.specs.Created.{bare}
use Rattle.sql_semantics.specs.Eval.{Row}
use Rattle.sql_semantics.specs.Rows.{answer}
use Rattle.class_types.specs.declared.mapped.Relation.{Relation}
use Rattle.class_mapping.specs.Mapped.{Mapped, root_of}
use Rattle.mapping_laws.proofs.Ties.{class_tables}
use Rattle.keeper_core.specs.Programs.{give}
use Rattle.keeper_core.specs.Beside.{by_own, changes, on_own}
use Rattle.object_arena.specs.declared.object.Link.{Link}
use Rattle.object_arena.specs.declared.object.Link.TheVariants.{Unset, Unloaded, One, Many}
use Rattle.object_arena.specs.Graph.{Graph, IsLink, IsObject, object_at, with_link}
use Rattle.object_arena.specs.Identity.{find_identity}
use Rattle.relations.specs.Mirror.{is_of}
use Rattle.load_columns.specs.Conditions.{has_values}
use Rattle.load_columns.specs.Placing.{from_root, root_key}
use Rattle.load_selects.specs.Selects.{class_rows, key_select}
use Rattle.load_filling.specs.Rows.{row_key}
use Rattle.load_rows.specs.Loading.{Loading, take_row}
use Rattle.load_rows.specs.Links.{end_filled, end_of, link_at, with_loaded}
use Rattle.load_calls.specs.Reading.{World, read}
use Rattle.load_targets.specs.ForeignKeys.{foreign_key, is_key_expired}
use Rattle.load_targets.specs.Targets.{find_or_load, found_or_load, if_of, load_end, load_key, load_target, read_target, refresh_if, refresh_key, take_first}
use Rattle.load_batches.specs.Batches.{is_unloaded}
use Rattle.load_ends.specs.Ends.{key_of}
use Rattle.loading_laws.specs.Answers.Answers.{IsKeyOf}
use Rattle.loading_laws.proofs.Answers.Filters.{rows_of_key}
use Rattle.loading_laws.specs.Strategies.Filled.{Goes, Stage}
use Rattle.loading_laws.specs.Strategies.Ends.{IsLed, IsManyToOne, IsPointing, LeadsToTarget, StandsIfAny, has_row, leads_by, leads_to_one}
use Rattle.loading_laws.specs.Strategies.Standing.{Keeps, Stands, Stays}
use Rattle.loading_laws.proofs.Strategies.Goes.{by_own_goes, changed_to, given, on_own_goes, parted, read_goes, row_taken}
use Rattle.loading_laws.proofs.Members.Ranks.{same_equal}
use Rattle.loading_laws.proofs.Members.RootKeys.{tells_keys}
use Rattle.loading_laws.proofs.Strategies.TargetKeys.{target_long}
use Rattle.loading_laws.proofs.Strategies.Standing.{found_stands, keeps_same, link_kept, link_put, made_later, stays_link}

-- ---- the filling of an end

-- the end that an unloaded link is given
end_put : (end : Option ObjId) (link : Link) → is_unloaded link ≡ true → end_of end link ≡ Some (One end false)
end_put end Unset h = absurd cc
end_put end (Unloaded added removed) h = refl
end_put end (One other changed) h = absurd cc
end_put end (Many members base) h = absurd cc

pub end_later : (root : ClassId) (old new : Graph) (key : List Value) (end : Option ObjId) → Stays old new → StandsIfAny root old key end → StandsIfAny root new key end
end_later root old new key None stays stands = tt
end_later root old new key (Some object) stays stands = stays.stand root key object stands

pub led_end : (mapped : Mapped) (relation : Relation) (place : RelNo) (owner : ObjId) (leads : Bool) (key : List Value) (end : Option ObjId) (own : Loading) → IsObject own.graph owner → IsLink own.graph owner place
    → is_unloaded (link_at own.graph owner place) ≡ true → is_some end ≡ leads → StandsIfAny (root_of mapped relation.target) own.graph key end
    → IsLed mapped relation leads key (end_filled owner place end own).graph (link_at (end_filled owner place end own).graph owner place)
unfolding end_filled
led_end mapped relation place owner leads key end own made held unloaded some stands =
    let after : Graph = with_link own.graph owner place (One end false) in
    let put : (with_loaded owner place (end_of end (link_at own.graph owner place)) own).graph ≡ after =
    ap (λ (link : Option Link). (with_loaded owner place link own).graph) (end_put end (link_at own.graph owner place) unloaded) in
    subst (λ (g : Graph). IsLed mapped relation leads key g (link_at g owner place)) (sym put)
    (record {
      end = end;
      link = link_put own.graph owner place (One end false) made held;
      some = some;
      stands = end_later (root_of mapped relation.target) own.graph after key end (stays_link own.graph owner place (One end false)) stands;
    })

-- an object of the map leads where its class fits
pub fitting_end : (mapped : Mapped) (class : ClassId) (graph : Graph) (key : List Value) (object : ObjId) → Stands (root_of mapped class) graph key object
    → (is_some (if_of graph mapped class object) ≡ is_of graph mapped class object) × StandsIfAny (root_of mapped class) graph key (if_of graph mapped class object)
fitting_end mapped class graph key object stands = by (is_of graph mapped class object)
  where
    by : (b : Bool) → (is_some (if b then Some object else None) ≡ b) × StandsIfAny (root_of mapped class) graph key (if b then Some object else None)
    by true = (refl, stands)
    by false = (refl, tt)

-- ---- the target

-- what was found: an object where the key leads to one
record IsFound (mapped : Mapped) (class : ClassId) (leads : Bool) (key : List Value) (w v : World) (end : Option ObjId) : Type 0 where
  some : is_some end ≡ leads
  stands : StandsIfAny (root_of mapped class) v.own.graph key end
  keeps : Keeps w.own.graph v.own.graph

first_passes : (test : List Value → Bool) (all : List Row) (row : Row) (rows : List Row) → filter test all ≡ row ∷ rows → (test row ≡ true) × (list_any test all ≡ true)
first_passes test [] row rows e = absurd cc
first_passes test (one ∷ all) row rows e = by (test one) refl e (first_passes test all row rows)
  where
    by : (b : Bool) → test one ≡ b → (if b then one ∷ filter test all else filter test all) ≡ row ∷ rows → (filter test all ≡ row ∷ rows → (test row ≡ true) × (list_any test all ≡ true)) → (test row ≡ true) × ((test one || list_any test all) ≡ true)
    by true is e more = let same : one ≡ row = cc in (ap test (sym same) ∙ is, ap (λ (b : Bool). b || list_any test all) is)
    by false is e more = let rest = more e in (rest.0, ap (λ (b : Bool). b || list_any test all) is ∙ rest.1)

none_passes : (test : List Value → Bool) (all : List Row) → filter test all ≡ [] → list_any test all ≡ false
none_passes test [] e = refl
none_passes test (one ∷ all) e = by (test one) refl e (none_passes test all)
  where
    by : (b : Bool) → test one ≡ b → (if b then one ∷ filter test all else filter test all) ≡ [] → (filter test all ≡ [] → list_any test all ≡ false) → (test one || list_any test all) ≡ false
    by true is e more = absurd cc
    by false is e more = ap (λ (b : Bool). b || list_any test all) is ∙ more e

module _ (mapped : Mapped) (relation : Relation) (all : List Row) (w : World) (one : IsManyToOne mapped relation) (stage : Stage mapped relation all w) (key : List Value) where
  abbrev class : ClassId
  class = relation.target

  abbrev Found : Bool → World → Option ObjId → Type 0
  Found leads v end = IsFound mapped class leads key w v end

  -- the first of the rows that were read
  first_taken : (rows : List Row) (between v : World) (end : Option ObjId) → rows ≡ filter (λ row. same_values (row_key mapped class row) key) all → between.own.graph ≡ w.own.graph
      → Goes (take_first mapped class rows) between.own end v.own → Found (has_row mapped class all key) v end
  unfolding take_first
  first_taken [] between v end are same g =
      let done = given None end between.own v.own g in
      let none : has_row mapped class all key ≡ false = none_passes (λ row. same_values (row_key mapped class row) key) all (sym are) in
      subst (λ (e : Option ObjId). Found (has_row mapped class all key) v e) done.0
      (record { some = sym none; stands = tt; keeps = subst (λ (h : Graph). Keeps h v.own.graph) same (subst (λ (own : Loading). Keeps between.own.graph own.graph) done.1 (keeps_same between.own.graph)) })
  first_taken (row ∷ rows) between v end are same g =
      let two = parted (take_row mapped class row) (λ (object : ObjId). give (Some object)) between.own end v.own g in
      let done = given (Some two.value) end two.between v.own two.second in
      let rooted : length between.own.graph.roots ≡ length between.own.graph.objects = subst (λ (h : Graph). length h.roots ≡ length h.objects) (sym same) stage.rooted in
      let taken = row_taken mapped class one.has.paired row between.own two.between two.value rooted two.first in
      let passes = first_passes (λ other. same_values (row_key mapped class other) key) all row rows (sym are) in
      let graph : two.between.graph ≡ v.own.graph = ap (λ (own : Loading). own.graph) done.1 in
      subst (λ (e : Option ObjId). Found (has_row mapped class all key) v e) done.0
      (record {
        some = sym passes.1;
        stands =
            subst (λ (k : List Value). Stands (root_of mapped class) v.own.graph k two.value) (same_equal (row_key mapped class row) key passes.0)
            (subst (λ (h : Graph). Stands (root_of mapped class) h (row_key mapped class row) two.value) graph taken.stands);
        keeps = subst (λ (h : Graph). Keeps h v.own.graph) same (subst (λ (h : Graph). Keeps between.own.graph h) graph taken.keeps);
      })

  key_loaded : (v : World) (end : Option ObjId) → IsKeyOf (root_key mapped class (from_root 0)) key → Goes (load_key mapped class key) w end v → Found (has_row mapped class all key) v end
  unfolding load_key key_select
  key_loaded v end is g =
      let select = class_rows mapped class (has_values (root_key mapped class (from_root 0)) key) in
      let two = parted (read mapped.schema select) (λ (rows : List Row). on_own (take_first mapped class rows)) w end v (record { answer = g.answer; leaves = g.leaves }) in
      let sent = read_goes mapped.schema select w two.value two.between two.first in
      let own = on_own_goes (take_first mapped class two.value) two.between end v two.second in
      let rows : two.value ≡ filter (λ row. same_values (row_key mapped class row) key) all =
      rows_of_key mapped class (bare w.store.tables) (root_key mapped class (from_root 0)) (row_key mapped class) key all two.value
      (tells_keys mapped class one.has (class_tables mapped class one.has one.related.target)) is stage.rows sent.answered in
      first_taken two.value two.between v end rows sent.graph own.goes

  found_by : (v : World) (end held : Option ObjId) → find_identity w.own.graph (root_of mapped class) key ≡ held → IsKeyOf (root_key mapped class (from_root 0)) key → Goes (found_or_load mapped class key w.own.graph held) w end v
      → Found (leads_by mapped relation all w.own.graph key held) v end
  found_by v end None e is g = key_loaded v end is g
  found_by v end (Some object) e is g =
      let done = given (if_of w.own.graph mapped class object) end w v g in
      let fits = fitting_end mapped class w.own.graph key object (found_stands w.own.graph (root_of mapped class) key object stage.rooted e) in
      subst (λ (u : World). Found (is_of w.own.graph mapped class object) u end) done.1
      (subst (λ (o : Option ObjId). Found (is_of w.own.graph mapped class object) w o) done.0 (record { some = fits.0; stands = fits.1; keeps = keeps_same w.own.graph }))

  found_end : (v : World) (end : Option ObjId) (null : Bool) → has_null key ≡ null → length (root_key mapped class (from_root 0)) ≡ length key
      → Goes (if null then give None else by_own (λ (own : Loading). found_or_load mapped class key own.graph (find_identity own.graph (root_of mapped class) key))) w end v
      → Found (not null && leads_by mapped relation all w.own.graph key (find_identity w.own.graph (root_of mapped class) key)) v end
  found_end v end true null long g =
      let done = given None end w v g in
      subst (λ (u : World). Found false u end) done.1 (subst (λ (o : Option ObjId). Found false w o) done.0 (record { some = refl; stands = tt; keeps = keeps_same w.own.graph }))
  found_end v end false null long g =
      let own = by_own_goes (λ (own : Loading). found_or_load mapped class key own.graph (find_identity own.graph (root_of mapped class) key)) w end v g in
      found_by v end (find_identity w.own.graph (root_of mapped class) key) refl (record { long = long; known = null }) own

-- ---- the load

pub lazy_leads : (mapped : Mapped) (relation : Relation) (place : RelNo) (owner : ObjId) (all : List Row) (w after : World) → IsManyToOne mapped relation → Stage mapped relation all w → IsPointing mapped relation place w.own.graph owner
    → Goes (load_target mapped relation owner place) w tt after → LeadsToTarget mapped relation place all w after owner
unfolding load_target refresh_key read_target find_or_load
lazy_leads mapped relation place owner all w after one stage pointing g =
    let key : List Value = key_of mapped relation w.own.graph owner in
    let leads : Bool = leads_to_one mapped relation all w.own.graph key in
    let two =
    parted (by_own (λ (own : Loading). refresh_if (is_key_expired mapped relation (object_at own.graph owner)) mapped owner)) (load_end mapped relation owner place) w tt after (record { answer = g.answer; leaves = g.leaves }) in
    let fresh = by_own_goes (λ (own : Loading). refresh_if (is_key_expired mapped relation (object_at own.graph owner)) mapped owner) w two.value two.between two.first in
    let still : w ≡ two.between = (given tt two.value w two.between (subst (λ (b : Bool). Goes (refresh_if b mapped owner) w two.value two.between) pointing.held fresh)).1 in
    let rest : Goes (load_end mapped relation owner place tt) w tt after = subst (λ (u : World). Goes (load_end mapped relation owner place tt) u tt after) (sym still) (record { answer = two.second.answer; leaves = two.second.leaves }) in
    let three =
    parted (by_own (λ (own : Loading). find_or_load mapped relation.target (foreign_key mapped relation (object_at own.graph owner)))) (λ (end : Option ObjId). changes (end_filled owner place end)) w tt after
    (record { answer = rest.answer; leaves = rest.leaves }) in
    let sought = by_own_goes (λ (own : Loading). find_or_load mapped relation.target (foreign_key mapped relation (object_at own.graph owner))) w three.value three.between three.first in
    let found =
    found_end mapped relation all w one stage key three.between three.value (has_null key) refl (target_long mapped relation (object_at w.own.graph owner) one) (record { answer = sought.answer; leaves = sought.leaves }) in
    let v : World = three.between in
    let end = changed_to (end_filled owner place three.value) v tt after three.second in
    let links = found.keeps.links owner pointing.made in
    let held : IsLink v.own.graph owner place = subst (λ (ls : List Link). place.0 < length ls) (sym links) pointing.has in
    let unloaded : is_unloaded (link_at v.own.graph owner place) ≡ true = ap is_unloaded (link_kept w.own.graph v.own.graph owner place found.keeps pointing.made) ∙ pointing.unloaded in
    subst (λ (u : World). IsLed mapped relation leads key u.own.graph (link_at u.own.graph owner place)) end
    (led_end mapped relation place owner leads key three.value v.own (made_later w.own.graph v.own.graph owner found.keeps.all pointing.made) held unloaded found.some found.stands)
