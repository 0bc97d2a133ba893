-- A select-in load leads many-to-one links to what their owners' foreign keys say.
use Rattle.std.proofs.Common.{◌≡◌, ◌⊎◌, inl, inr, ℕ, ◌<◌, ◌==◌, Bool, true, false, not, ◌&&◌, ◌||◌, List, [], ◌∷◌, ◌++◌, drop, filter, fold, length, map, Option, None, Some, Ok, if◌then◌else◌, is_none, is_some, refl, sym, ap, subst, ◌∙◌, arith}
use Rattle.std.specs.Prelude.{slice_index_or, slice_set}
use Rattle.std.specs.List.{All, AllByRecursion, flat_map, list_any}
use Rattle.std.specs.Option.{option_and_then, option_map}
use Rattle.std.proofs.lemmas.Bool.{and_parts, eqb-false, eqb-true}
use Rattle.std.proofs.lemmas.List.{get_or-set_other}
use Rattle.std.proofs.lemmas.List.Folds.{list_any-append}
use Rattle.std.proofs.lemmas.List.Elements.{All-drop, All-from_recursion, All-take, recursion_from_All}
use Rattle.base_core.specs.declared.ids.AttrNo.{AttrNo}
use Rattle.base_core.specs.declared.ids.ClassId.{ClassId}
use Rattle.base_core.specs.declared.ids.ObjId.{ObjId}
use Rattle.base_core.specs.declared.ids.RelNo.{RelNo}
use Rattle.base_core.specs.declared.value.Value.{Value}
use Rattle.base_core.proofs.Lists.{every_append}
use Rattle.base_core.proofs.Tests.{or_false}
use Rattle.schema_core.specs.Tables.{has_null, same_values, value_or_null}
use Rattle.sql_semantics.specs.Created.{bare}
use Rattle.sql_semantics.specs.Eval.{Row}
use Rattle.sql_semantics.specs.Rows.{answer}
use Rattle.class_types.specs.declared.mapped.Relation.{Relation}
use Rattle.class_mapping.specs.Mapped.{Mapped, root_of}
use Rattle.class_mapping.specs.Paired.{is_at_or_under}
use Rattle.class_mapping.proofs.Lists.{or_left, or_right}
use Rattle.mapping_laws.proofs.Ties.{class_tables}
use Rattle.keeper_core.specs.Beside.{on_own}
use Rattle.keeper_core.specs.Programs.{◌>>=◌, each, give}
use Rattle.keeper_core.specs.Store.{Store}
use Rattle.object_arena.specs.declared.object.Link.{Link}
use Rattle.object_arena.specs.declared.object.Link.TheVariants.{Unset}
use Rattle.object_arena.specs.declared.object.Object.{Object}
use Rattle.object_arena.specs.Graph.{Graph, IsLink, IsObject, is_among, no_object, object_at, place_of, with_link}
use Rattle.object_arena.specs.Identity.{find_identity}
use Rattle.object_arena.proofs.GraphLemmas.{same_equiv}
use Rattle.relations.specs.Mirror.{is_of}
use Rattle.load_columns.specs.declared.placing.SourceColumn.{SourceColumn}
use Rattle.load_columns.specs.Conditions.{has_one_of}
use Rattle.load_columns.specs.Placing.{from_root, root_key}
use Rattle.load_selects.specs.Selects.{class_rows, targets_select}
use Rattle.load_filling.specs.Rows.{row_key}
use Rattle.load_rows.specs.Loading.{Loading}
use Rattle.load_rows.specs.Reading.{identity_key}
use Rattle.load_rows.specs.Links.{end_filled, end_of, link_at, with_loaded}
use Rattle.load_calls.specs.Reading.{World, read}
use Rattle.load_calls.specs.Collections.{take_rows}
use Rattle.load_targets.specs.ForeignKeys.{foreign_attrs, foreign_key, is_key_expired, value_at, value_of}
use Rattle.load_targets.specs.Targets.{if_of, load_target}
use Rattle.load_batches.specs.Batches.{batch_at, batch_starts, is_unloaded}
use Rattle.load_ends.specs.Ends.{end_known, fill_owner, fill_owners, if_unloaded, is_wanted, key_of, known_end, load_each, load_ends, load_from, load_keys, load_unloaded, take_targets, unloaded, wanted_keys, with_first, with_key_of}
use Rattle.loading_laws.specs.Answers.Answers.{IsKeyOf}
use Rattle.loading_laws.proofs.Answers.Filters.{rows_of_keys}
use Rattle.loading_laws.specs.Strategies.Filled.{Goes, Stage}
use Rattle.loading_laws.specs.Strategies.Ends.{IsLed, IsManyToOne, IsPointing, LeadAlike, LeadsToTarget, StandsIfAny, has_row, leads_by, leads_to_one}
use Rattle.loading_laws.specs.Strategies.Standing.{Keeps, Stays}
use Rattle.loading_laws.proofs.Strategies.Batch.{held_loaded, one_waiting, or_assoc, or_true, some_in_a_batch, stays_loaded}
use Rattle.loading_laws.proofs.Strategies.Finding.{Gains, HoldsOn, Same, gains_none, gains_then, has_key_of, rows_gain, same_link, same_same, same_then}
use Rattle.loading_laws.proofs.Strategies.Goes.{by_own_goes, change_to, given, on_own_goes, parted, read_goes, rows_taken}
use Rattle.loading_laws.proofs.Strategies.KeyOrder.{key_of_stand}
use Rattle.loading_laws.proofs.Members.Ranks.{same_equal}
use Rattle.loading_laws.proofs.Members.RootKeys.{tells_keys}
use Rattle.loading_laws.proofs.Strategies.TargetKeys.{target_long}
use Rattle.loading_laws.proofs.Strategies.Standing.{found_stands, keeps_same, keeps_then, link_kept, made_later, stays_link, stays_same, stays_then}
use Rattle.loading_laws.proofs.Strategies.Targets.{end_later, fitting_end, lazy_leads, led_end}

-- ---- the keys that are read

-- a key among others is among them and one more
among_more : (keys : List (List Value)) (key other : List Value) (wanted : Bool) → list_any (same_values key) keys ≡ true → list_any (same_values key) (if wanted then with_first keys other else keys) ≡ true
among_more keys key other false there = there
among_more keys key other true there = by (list_any (same_values other) keys)
  where
    by : (b : Bool) → list_any (same_values key) (if b then keys else (keys ++ other ∷ [])) ≡ true
    by true = there
    by false = list_any-append (same_values key) keys (other ∷ []) ∙ ap (λ (b : Bool). b || list_any (same_values key) (other ∷ [])) there

pub among_first : (keys : List (List Value)) (key : List Value) → list_any (same_values key) (with_first keys key) ≡ true
among_first keys key = by (list_any (same_values key) keys) refl
  where
    by : (b : Bool) → list_any (same_values key) keys ≡ b → list_any (same_values key) (if b then keys else (keys ++ key ∷ [])) ≡ true
    by true is = is
    by false is =
        list_any-append (same_values key) keys (key ∷ []) ∙ ap (λ (b : Bool). b || list_any (same_values key) (key ∷ [])) is ∙ ap (λ (b : Bool). b || false) (same_equiv.refl key)

known_more : (P : List Value → Type 0) (keys : List (List Value)) (key : List Value) (wanted : Bool) → (wanted ≡ true → P key) → AllByRecursion P keys → AllByRecursion P (if wanted then with_first keys key else keys)
known_more P keys key false is all = all
known_more P keys key true is all = by (list_any (same_values key) keys)
  where
    by : (b : Bool) → AllByRecursion P (if b then keys else (keys ++ key ∷ []))
    by true = all
    by false = every_append P keys (key ∷ []) all (is refl, tt)

not_true : (b : Bool) → not b ≡ true → b ≡ false
not_true true e = absurd cc
not_true false e = refl

module _ (mapped : Mapped) (relation : Relation) (graph : Graph) (one : IsManyToOne mapped relation) where
  abbrev columns : List SourceColumn
  columns = root_key mapped relation.target (from_root 0)

  wanted_known : (owners : List ObjId) (keys : List (List Value)) → AllByRecursion (IsKeyOf columns) keys → AllByRecursion (IsKeyOf columns) (fold (with_key_of mapped relation graph) keys owners)
  wanted_known [] keys all = all
  wanted_known (owner ∷ owners) keys all =
      let key : List Value = key_of mapped relation graph owner in
      let held : Bool = is_none (find_identity graph (root_of mapped relation.target) key) in
      wanted_known owners (with_key_of mapped relation graph keys owner)
      (known_more (IsKeyOf columns) keys key (is_wanted mapped relation.target graph key)
      (λ wanted. record { long = target_long mapped relation (object_at graph owner) one; known = not_true (has_null key) (and_parts (not (has_null key)) held wanted).0 }) all)

  wanted_stays : (owners : List ObjId) (keys : List (List Value)) (key : List Value) → list_any (same_values key) keys ≡ true → list_any (same_values key) (fold (with_key_of mapped relation graph) keys owners) ≡ true
  wanted_stays [] keys key there = there
  wanted_stays (owner ∷ owners) keys key there =
      let other : List Value = key_of mapped relation graph owner in
      wanted_stays owners (with_key_of mapped relation graph keys owner) key (among_more keys key other (is_wanted mapped relation.target graph other) there)

  -- an owner's key, if it is wanted, is among them
  wanted_has : (owners : List ObjId) (owner : ObjId) (keys : List (List Value)) → is_among owners owner ≡ true → is_wanted mapped relation.target graph (key_of mapped relation graph owner) ≡ true
      → list_any (same_values (key_of mapped relation graph owner)) (fold (with_key_of mapped relation graph) keys owners) ≡ true
  wanted_has [] owner keys among wanted = absurd cc
  wanted_has (other ∷ owners) owner keys among wanted = by (other.0 == owner.0) refl (wanted_has owners owner (with_key_of mapped relation graph keys other))
    where
      by : (b : Bool) → (other.0 == owner.0) ≡ b
          → (is_among owners owner ≡ true → is_wanted mapped relation.target graph (key_of mapped relation graph owner) ≡ true → list_any (same_values (key_of mapped relation graph owner)) (fold (with_key_of mapped relation graph) (with_key_of mapped relation graph keys other) owners) ≡ true)
          → list_any (same_values (key_of mapped relation graph owner)) (fold (with_key_of mapped relation graph) (with_key_of mapped relation graph keys other) owners) ≡ true
      by true is more =
          let same : other ≡ owner = ap (λ (n : ℕ). let o : ObjId = record { 0 = n } in o) (eqb-true other.0 owner.0 is) in
          wanted_stays owners (with_key_of mapped relation graph keys other) (key_of mapped relation graph owner)
          (ap (λ (o : ObjId). list_any (same_values (key_of mapped relation graph owner)) (with_key_of mapped relation graph keys o)) same
          ∙ ap (λ (b : Bool). list_any (same_values (key_of mapped relation graph owner)) (if b then with_first keys (key_of mapped relation graph owner) else keys)) wanted ∙ among_first keys (key_of mapped relation graph owner))
      by false is more = more (sym (ap (λ (b : Bool). b || is_among owners owner) is) ∙ among) wanted

-- ---- rows that have one of some keys

any_kept : {A : Type 0} (t p : A → Bool) (xs : List A) → list_any t (filter p xs) ≡ true → list_any t xs ≡ true
any_kept t p [] h = h
any_kept t p (x ∷ xs) h = by (p x) h (any_kept t p xs)
  where
    past : (a b : Bool) → b ≡ true → (a || b) ≡ true
    past true b e = refl
    past false b e = e

    by : (b : Bool) → list_any t (if b then x ∷ filter p xs else filter p xs) ≡ true → (list_any t (filter p xs) ≡ true → list_any t xs ≡ true) → (t x || list_any t xs) ≡ true
    by false e more = past (t x) (list_any t xs) (more e)
    by true e more = here (t x) e
      where
        here : (a : Bool) → (a || list_any t (filter p xs)) ≡ true → (a || list_any t xs) ≡ true
        here true e = refl
        here false e = more e

pub any_same : {A : Type 0} (t p : A → Bool) (xs : List A) → ((x : A) → t x ≡ true → p x ≡ true) → list_any t (filter p xs) ≡ list_any t xs
any_same t p [] so = refl
any_same t p (x ∷ xs) so = by (t x) (p x) refl refl (any_same t p xs so)
  where
    by : (a b : Bool) → t x ≡ a → p x ≡ b → list_any t (filter p xs) ≡ list_any t xs → list_any t (if b then x ∷ filter p xs else filter p xs) ≡ (a || list_any t xs)
    by a true is passes more = ap (λ (c : Bool). c || list_any t (filter p xs)) is ∙ ap (λ (c : Bool). a || c) more
    by false false is passes more = more
    by true false is passes more = absurd (let never = sym passes ∙ so x is in cc)

-- what was asked for under the key, where it is known: surely a row's where the key was read
abbrev Told : Bool → Bool → Bool → Type 0
Told true asked row = asked ≡ row
Told false asked row = asked ≡ true → row ≡ true

told_sure : (asked now row : Bool) → asked ≡ row → (now ≡ true → row ≡ true) → (asked || now) ≡ row
told_sure true now row told less = told
told_sure false true row told less = sym (less refl)
told_sure false false row told less = told

told_now : (asked now row : Bool) → (asked ≡ true → row ≡ true) → now ≡ row → (asked || now) ≡ row
told_now true now row told is = sym (told refl)
told_now false now row told is = is

told_never : (asked now row : Bool) → (asked ≡ true → row ≡ true) → (now ≡ true → row ≡ true) → (asked || now) ≡ true → row ≡ true
told_never true now row told less e = told refl
told_never false now row told less e = less e

told_more : (sure among asked now row : Bool) → Told sure asked row → (now ≡ true → row ≡ true) → (among ≡ true → now ≡ row) → Told (sure || among) (asked || now) row
told_more true among asked now row told less is = told_sure asked now row told less
told_more false true asked now row told less is = told_now asked now row told (is refl)
told_more false false asked now row told less is = told_never asked now row told less

-- ---- batches

-- between two batches: objects and links are kept, and of the key is known what was read
record Between (mapped : Mapped) (relation : Relation) (all : List Row) (key : List Value) (w : World) (sure : Bool) (u : World) : Type 0 where
  keeps : Keeps w.own.graph u.own.graph
  rooted : length u.own.graph.roots ≡ length u.own.graph.objects
  store : u.store ≡ w.store
  asked : List Value → Bool
  gains : Gains mapped relation.target asked w.own.graph u.own.graph
  told : Told sure (asked key) (has_row mapped relation.target all key)

module _ (mapped : Mapped) (relation : Relation) (all : List Row) (key : List Value) (w : World) (one : IsManyToOne mapped relation) (stage : Stage mapped relation all w) where
  abbrev target_columns : List SourceColumn
  target_columns = root_key mapped relation.target (from_root 0)

  abbrev At : Bool → World → Type 0
  At sure u = Between mapped relation all key w sure u

  began : At false w
  began = record { keeps = keeps_same w.own.graph; rooted = stage.rooted; store = refl; asked = λ k. false; gains = gains_none mapped relation.target w.own.graph; told = λ e. absurd cc }

  -- a batch that reads some keys
  some_read : (sure : Bool) (u v : World) (keys : List (List Value)) → AllByRecursion (IsKeyOf target_columns) keys → At sure u
      → Goes (read mapped.schema (class_rows mapped relation.target (has_one_of target_columns keys)) >>= λ rows. on_own (take_targets mapped relation.target rows)) u tt v → At (sure || list_any (same_values key) keys) v
  some_read sure u v keys known at g =
      let select = class_rows mapped relation.target (has_one_of target_columns keys) in
      let two = parted (read mapped.schema select) (λ (rows : List Row). on_own (take_targets mapped relation.target rows)) u tt v g in
      let sent = read_goes mapped.schema select u two.value two.between two.first in
      let quiet = on_own_goes (take_targets mapped relation.target two.value) two.between tt v two.second in
      let taking = parted (take_rows mapped relation.target two.value) (λ (objects : List ObjId). give tt) two.between.own tt v.own quiet.goes in
      let done = given tt tt taking.between v.own taking.second in
      let rooted : length two.between.own.graph.roots ≡ length two.between.own.graph.objects = subst (λ (h : Graph). length h.roots ≡ length h.objects) (sym sent.graph) at.rooted in
      let taken = rows_taken mapped relation.target one.has.paired two.value two.between.own taking.value taking.between rooted taking.first in
      let gained = rows_gain mapped relation.target one.has one.related.target two.value two.between.own taking.value taking.between rooted taking.first in
      let last : taking.between.graph ≡ v.own.graph = ap (λ (own : Loading). own.graph) done.1 in
      let keeps : Keeps u.own.graph v.own.graph = subst (λ (h : Graph). Keeps h v.own.graph) sent.graph (subst (λ (h : Graph). Keeps two.between.own.graph h) last taken.keeps) in
      let now : List Value → Bool = has_key_of mapped relation.target one.has one.related.target two.value in
      let gains : Gains mapped relation.target now u.own.graph v.own.graph =
      subst (λ (h : Graph). Gains mapped relation.target now h v.own.graph) sent.graph (subst (λ (h : Graph). Gains mapped relation.target now two.between.own.graph h) last gained) in
      let answered : answer mapped.schema (bare w.store.tables) select ≡ Ok two.value = ap (λ (store : Store). answer mapped.schema (bare store.tables) select) (sym at.store) ∙ sent.answered in
      let has : List Value → Row → Bool = λ k row. same_values (row_key mapped relation.target row) k in
      let read_one : Row → Bool = λ row. list_any (same_values (row_key mapped relation.target row)) keys in
      let rows : two.value ≡ filter read_one all =
      rows_of_keys mapped relation.target (bare w.store.tables) target_columns (row_key mapped relation.target) keys all two.value (tells_keys mapped relation.target one.has (class_tables mapped relation.target one.has one.related.target)) known stage.rows answered in
      let there : now key ≡ list_any (has key) (filter read_one all) = ap (λ (rs : List Row). list_any (has key) rs) rows in
      record {
        keeps = keeps_then w.own.graph u.own.graph v.own.graph at.keeps keeps;
        rooted = subst (λ (h : Graph). length h.roots ≡ length h.objects) last taken.rooted;
        store = quiet.store ∙ sent.store ∙ at.store;
        asked = λ k. at.asked k || now k;
        gains = gains_then mapped relation.target at.asked now w.own.graph u.own.graph v.own.graph at.rooted at.gains gains;
        told =
            told_more sure (list_any (same_values key) keys) (at.asked key) (now key) (has_row mapped relation.target all key) at.told
            (λ e. any_kept (has key) read_one all (sym there ∙ e))
            (λ among.
            there
            ∙ any_same (has key) read_one all
            (λ row same. subst (λ (k : List Value). list_any (same_values k) keys ≡ true) (sym (same_equal (row_key mapped relation.target row) key same)) among));
      }

  one_batch : (sure : Bool) (u v : World) (keys : List (List Value)) → AllByRecursion (IsKeyOf target_columns) keys → At sure u → Goes (load_keys mapped relation.target keys) u tt v → At (sure || list_any (same_values key) keys) v
  unfolding load_keys targets_select
  one_batch sure u v [] known at g =
      let end = given tt tt u v (record { answer = g.answer; leaves = g.leaves }) in
      subst (λ (b : Bool). At b v) (sym (or_false sure)) (subst (λ (x : World). At sure x) end.1 at)
  one_batch sure u v (first ∷ more) known at g = some_read sure u v (first ∷ more) known at (record { answer = g.answer; leaves = g.leaves })

  each_batch : (keys : List (List Value)) (starts : List ℕ) (sure : Bool) (n : Unit {0}) (u v : World) → All (IsKeyOf target_columns) keys → At sure u → Goes (each (load_from mapped relation.target keys) n starts) u tt v
      → At (sure || list_any (λ start. list_any (same_values key) (batch_at keys start)) starts) v
  unfolding each
  each_batch keys [] sure n u v known at g =
      let end = given n tt u v g in subst (λ (b : Bool). At b v) (sym (or_false sure)) (subst (λ (x : World). At sure x) end.1 at)
  each_batch keys (start ∷ starts) sure n u v known at g =
      let two = parted (load_from mapped relation.target keys start n) (λ (m : Unit {0}). each (load_from mapped relation.target keys) m starts) u tt v g in
      let mine : List (List Value) = batch_at keys start in
      let all_known : All (IsKeyOf target_columns) mine = All-take (IsKeyOf target_columns) 500 (drop start keys) (All-drop (IsKeyOf target_columns) start keys known) in
      let step = one_batch sure u two.between mine (recursion_from_All (IsKeyOf target_columns) mine all_known) at two.first in
      subst (λ (b : Bool). At b v) (or_assoc sure (list_any (same_values key) mine) (list_any (λ start. list_any (same_values key) (batch_at keys start)) starts))
      (each_batch keys starts (sure || list_any (same_values key) mine) two.value two.between v known step two.second)

-- ---- the ends

-- the cells of a foreign key that are held go on to be
values_kept : (old new : Object) (attrs : List AttrNo) → list_any (λ attr. is_none (value_of old attr)) attrs ≡ false → ((attr : AttrNo) → HoldsOn attr old new) → map (value_at new) attrs ≡ map (value_at old) attrs
values_kept old new [] held on = refl
values_kept old new (attr ∷ attrs) held on =
    let here : Bool = is_none (value_of old attr) in
    let rest : Bool = list_any (λ a. is_none (value_of old a)) attrs in
    ap (λ (v : Value). v ∷ map (value_at new) attrs) (ap value_or_null (on attr (or_left here rest held))) ∙ ap (λ (vs : List Value). value_at old attr ∷ vs) (values_kept old new attrs (or_right here rest held) on)

key_kept : (mapped : Mapped) (relation : Relation) (old new : Object) → new.class ≡ old.class → is_key_expired mapped relation old ≡ false → ((attr : AttrNo) → HoldsOn attr old new) → foreign_key mapped relation new ≡ foreign_key mapped relation old
key_kept mapped relation old new class held on =
    ap (λ (own : ClassId). map (value_at new) (foreign_attrs mapped own relation)) class ∙ values_kept old new (foreign_attrs mapped old.class relation) held on

-- what the identity map has under the key of an owner
record Knows (mapped : Mapped) (relation : Relation) (owner : ObjId) (key : List Value) (leads : Bool) (graph : Graph) : Type 0 where
  is : key_of mapped relation graph owner ≡ key
  some : is_some (known_end mapped relation.target graph key) ≡ leads
  stands : StandsIfAny (root_of mapped relation.target) graph key (known_end mapped relation.target graph key)

module _ (mapped : Mapped) (relation : Relation) (all : List Row) (key : List Value) (start graph : Graph) (rooted : length graph.roots ≡ length graph.objects)
    (found : (object : ObjId) → find_identity start (root_of mapped relation.target) key ≡ Some object → find_identity graph (root_of mapped relation.target) key ≡ Some object)
    (classes : (object : ObjId) → find_identity start (root_of mapped relation.target) key ≡ Some object → (object_at graph object).class ≡ (object_at start object).class)
    (read_is : has_null key ≡ false → find_identity start (root_of mapped relation.target) key ≡ None → is_some (find_identity graph (root_of mapped relation.target) key) ≡ has_row mapped relation.target all key)
    (fits : (object : ObjId) → find_identity start (root_of mapped relation.target) key ≡ None → find_identity graph (root_of mapped relation.target) key ≡ Some object → is_of graph mapped relation.target object ≡ true) where
  abbrev class : ClassId
  class = relation.target

  abbrev root : ClassId
  root = root_of mapped class

  abbrev IsEnd : Bool → Option ObjId → Type 0
  IsEnd leads end = (is_some end ≡ leads) × StandsIfAny root graph key end

  end_read : (now : Option ObjId) → find_identity start root key ≡ None → find_identity graph root key ≡ now → is_some now ≡ has_row mapped class all key → IsEnd (has_row mapped class all key) (option_and_then (if_of graph mapped class) now)
  end_read None none is some = (some, tt)
  end_read (Some object) none is some =
      subst (IsEnd (has_row mapped class all key)) (sym (ap (λ (b : Bool). if b then Some object else None) (fits object none is))) (some, found_stands graph root key object rooted is)

  end_by : (held : Option ObjId) → has_null key ≡ false → find_identity start root key ≡ held → IsEnd (leads_by mapped relation all start key held) (option_and_then (if_of graph mapped class) (find_identity graph root key))
  end_by None known e = end_read (find_identity graph root key) e refl (read_is known e)
  end_by (Some object) known e =
      let here = found object e in
      let fit = fitting_end mapped class graph key object (found_stands graph root key object rooted here) in
      subst (λ (o : Option ObjId). IsEnd (is_of start mapped class object) (option_and_then (if_of graph mapped class) o)) (sym here)
      (fit.0 ∙ ap (λ (own : ClassId). is_at_or_under mapped own class) (classes object e), fit.1)

  -- the end that is known is the one to which the key leads
  end_is : (null : Bool) → has_null key ≡ null
      → IsEnd (not null && leads_by mapped relation all start key (find_identity start root key)) (if null then None else option_and_then (if_of graph mapped class) (find_identity graph root key))
  end_is true null = (refl, tt)
  end_is false null = end_by (find_identity start root key) null refl

-- ---- the filling of owners

-- a loaded link stays
led_stays : (mapped : Mapped) (relation : Relation) (leads : Bool) (key : List Value) (graph : Graph) (now : Link) (end : Option ObjId) → IsLed mapped relation leads key graph now → end_of end now ≡ None
led_stays mapped relation leads key graph now end led = ap (end_of end) led.link

-- the owner's link waits still or is led; surely where it is known to be
abbrev Waits : Mapped → Relation → RelNo → ObjId → Link → List Value → Bool → Bool → Graph → Type 0
Waits mapped relation place owner old key leads true graph = IsLed mapped relation leads key graph (link_at graph owner place)
Waits mapped relation place owner old key leads false graph = (link_at graph owner place ≡ old) ⊎ IsLed mapped relation leads key graph (link_at graph owner place)

led_later : (mapped : Mapped) (relation : Relation) (leads : Bool) (key : List Value) (old new : Graph) (before after : Link) → Stays old new → after ≡ before → IsLed mapped relation leads key old before → IsLed mapped relation leads key new after
led_later mapped relation leads key old new before after stays same led =
    record { end = led.end; link = same ∙ led.link; some = led.some; stands = end_later (root_of mapped relation.target) old new key led.end stays led.stands }

waits_later : (mapped : Mapped) (relation : Relation) (place : RelNo) (owner : ObjId) (old : Link) (key : List Value) (leads sure : Bool) (before after : Graph) → Stays before after → link_at after owner place ≡ link_at before owner place
    → Waits mapped relation place owner old key leads sure before → Waits mapped relation place owner old key leads sure after
waits_later mapped relation place owner old key leads true before after stays same led = led_later mapped relation leads key before after (link_at before owner place) (link_at after owner place) stays same led
waits_later mapped relation place owner old key leads false before after stays same (inl waits) = inl (same ∙ waits)
waits_later mapped relation place owner old key leads false before after stays same (inr led) = inr (led_later mapped relation leads key before after (link_at before owner place) (link_at after owner place) stays same led)

module _ (mapped : Mapped) (relation : Relation) (place : RelNo) (owner : ObjId) (key : List Value) (leads : Bool) (old : Link) (unloaded_old : is_unloaded old ≡ true) (mid : Graph) (rooted : length mid.roots ≡ length mid.objects) (made : IsObject mid owner)
    (knows : (graph : Graph) → Same mid graph → Knows mapped relation owner key leads graph) where
  record IsOn (sure : Bool) (graph : Graph) : Type 0 where
    same : Same mid graph
    stays : Stays mid graph
    held : IsLink graph owner place
    stand : Waits mapped relation place owner old key leads sure graph

  -- another owner's link
  other_led : (sure : Bool) (other : ObjId) (link : Option Link) (own : Loading) → (other.0 == owner.0) ≡ false → IsObject own.graph other → IsOn sure own.graph → IsOn sure (with_loaded other place link own).graph
  other_led sure other None own apart there on = on
  other_led sure other (Some link) own apart there on =
      let new : Object = record (object_at own.graph other) { links = slice_set (object_at own.graph other).links place.0 link } in
      let after : Graph = with_link own.graph other place link in
      let here : IsObject own.graph owner = made_later mid own.graph owner on.stays made in
      let no : other.0 ≡ owner.0 → ⊥ = eqb-false other.0 owner.0 apart in
      let links : (object_at after owner).links ≡ (object_at own.graph owner).links =
      ap (λ (o : Object). o.links) (get_or-set_other own.graph.objects (place_of other) (place_of owner) new no_object (λ same. no (omega (arith, same, here.0, there.0)))) in
      let stays : Stays own.graph after = stays_link own.graph other place link in
      record {
        same = same_then mid own.graph after on.same (same_link own.graph other place link);
        stays = stays_then mid own.graph after on.stays stays;
        held = subst (λ (ls : List Link). place.0 < length ls) (sym links) on.held;
        stand = waits_later mapped relation place owner old key leads sure own.graph after stays (ap (λ (ls : List Link). slice_index_or ls place.0 Unset) links) on.stand;
      }

  -- its own
  own_waiting : (own : Loading) → IsOn false own.graph → link_at own.graph owner place ≡ old → IsOn true (end_filled owner place (known_end mapped relation.target own.graph key) own).graph
  unfolding end_filled
  own_waiting own on waits =
      let end : Option ObjId = known_end mapped relation.target own.graph key in
      let link : Option Link = end_of end (link_at own.graph owner place) in
      let here : IsObject own.graph owner = made_later mid own.graph owner on.stays made in
      let known = knows own.graph on.same in
      record {
        same = same_loaded owner place link own on.same;
        stays = stays_then mid own.graph (with_loaded owner place link own).graph on.stays (stays_loaded owner place link own);
        held = held_loaded owner place link own here on.held;
        stand = led_end mapped relation place owner leads key end own here on.held (ap is_unloaded waits ∙ unloaded_old) known.some known.stands;
      }
    where
      same_loaded : (owner : ObjId) (place : RelNo) (link : Option Link) (own : Loading) → Same mid own.graph → Same mid (with_loaded owner place link own).graph
      same_loaded owner place None own same = same
      same_loaded owner place (Some link) own same = same_then mid own.graph (with_link own.graph owner place link) same (same_link own.graph owner place link)

  own_again : (sure : Bool) (own : Loading) → IsOn sure own.graph → IsLed mapped relation leads key own.graph (link_at own.graph owner place) → IsOn true (end_filled owner place (known_end mapped relation.target own.graph key) own).graph
  unfolding end_filled
  own_again sure own on led =
      subst (λ (link : Option Link). IsOn true (with_loaded owner place link own).graph)
      (sym (led_stays mapped relation leads key own.graph (link_at own.graph owner place) (known_end mapped relation.target own.graph key) led))
      (record { same = on.same; stays = on.stays; held = on.held; stand = led })

  own_either : (own : Loading) → IsOn false own.graph → ((link_at own.graph owner place ≡ old) ⊎ IsLed mapped relation leads key own.graph (link_at own.graph owner place))
      → IsOn true (end_filled owner place (known_end mapped relation.target own.graph key) own).graph
  own_either own on (inl waits) = own_waiting own on waits
  own_either own on (inr led) = own_again false own on led

  own_led : (sure : Bool) (own : Loading) → IsOn sure own.graph → IsOn true (end_filled owner place (known_end mapped relation.target own.graph key) own).graph
  own_led true own on = own_again true own on on.stand
  own_led false own on = own_either own on on.stand

  -- one owner after the other
  owner_step : (sure b : Bool) (other : ObjId) (own now : Loading) → (other.0 == owner.0) ≡ b → IsObject mid other → IsOn sure own.graph → end_known mapped relation place other own ≡ now → IsOn (sure || b) now.graph
  unfolding end_filled
  owner_step sure true other own now same there on is =
      let one : owner ≡ other = ap (λ (n : ℕ). let o : ObjId = record { 0 = n } in o) (sym (eqb-true other.0 owner.0 same)) in
      let done : IsOn true (end_filled owner place (known_end mapped relation.target own.graph (key_of mapped relation own.graph owner)) own).graph =
      subst (λ (k : List Value). IsOn true (end_filled owner place (known_end mapped relation.target own.graph k) own).graph) (sym (knows own.graph on.same).is) (own_led sure own on) in
      subst (λ (c : Bool). IsOn c now.graph) (sym (or_true sure))
      (subst (λ (u : Loading). IsOn true u.graph) is
      (subst (λ (o : ObjId). IsOn true (end_filled o place (known_end mapped relation.target own.graph (key_of mapped relation own.graph o)) own).graph) one done))
  owner_step sure false other own now apart there on is =
      subst (λ (c : Bool). IsOn c now.graph) (sym (or_false sure))
      (subst (λ (u : Loading). IsOn sure u.graph) is
      (other_led sure other (end_of (known_end mapped relation.target own.graph (key_of mapped relation own.graph other)) (link_at own.graph other place)) own apart (made_later mid own.graph other on.stays there) on))

  owners_go : (sure : Bool) (owners : List ObjId) (u : Unit {0}) (own now : Loading) → AllByRecursion (IsObject mid) owners → IsOn sure own.graph → Goes (each (fill_owner mapped relation place) u owners) own tt now → IsOn (sure || is_among owners owner) now.graph
  unfolding each
  owners_go sure [] u own now all_made on g =
      let end = given u tt own now g in subst (λ (c : Bool). IsOn c now.graph) (sym (or_false sure)) (subst (λ (v : Loading). IsOn sure v.graph) end.1 on)
  owners_go sure (other ∷ owners) u own now all_made on g =
      let two = parted (fill_owner mapped relation place other u) (λ (v : Unit {0}). each (fill_owner mapped relation place) v owners) own tt now g in
      let step = owner_step sure (other.0 == owner.0) other own two.between refl all_made.0 on (change_to (end_known mapped relation place other) own two.value two.between two.first) in
      subst (λ (c : Bool). IsOn c now.graph) (or_assoc sure (other.0 == owner.0) (is_among owners owner)) (owners_go (sure || (other.0 == owner.0)) owners two.value two.between now all_made.1 step two.second)

-- ---- the load

all_unloaded : (mapped : Mapped) (relation : Relation) (place : RelNo) (graph : Graph) (owners : List ObjId) → AllByRecursion (IsPointing mapped relation place graph) owners → flat_map (if_unloaded graph place) owners ≡ owners
all_unloaded mapped relation place graph [] all = refl
all_unloaded mapped relation place graph (owner ∷ owners) all =
    ap (λ (b : Bool). (if b then owner ∷ [] else []) ++ flat_map (if_unloaded graph place) owners) all.0.unloaded ∙ ap (λ (xs : List ObjId). owner ∷ xs) (all_unloaded mapped relation place graph owners all.1)

all_made : (mapped : Mapped) (relation : Relation) (place : RelNo) (old new : Graph) (owners : List ObjId) → Stays old new → AllByRecursion (IsPointing mapped relation place old) owners → AllByRecursion (IsObject new) owners
all_made mapped relation place old new [] stays all = tt
all_made mapped relation place old new (owner ∷ owners) stays all = (made_later old new owner stays all.0.made, all_made mapped relation place old new owners stays all.1)

known_key : (mapped : Mapped) (class : ClassId) (graph : Graph) (key : List Value) → has_null key ≡ false → find_identity graph (root_of mapped class) key ≡ None → is_wanted mapped class graph key ≡ true
known_key mapped class graph key given none = ap (λ (b : Bool). not b && is_none (find_identity graph (root_of mapped class) key)) given ∙ ap is_none none

module _ (mapped : Mapped) (relation : Relation) (place : RelNo) (owners : List ObjId) (owner : ObjId) (all : List Row) (w : World) (one : IsManyToOne mapped relation) (stage : Stage mapped relation all w)
    (pointing : AllByRecursion (IsPointing mapped relation place w.own.graph) owners) (among : is_among owners owner ≡ true) where
  abbrev own_key : List Value
  own_key = key_of mapped relation w.own.graph owner

  abbrev own_pointing : IsPointing mapped relation place w.own.graph owner
  own_pointing = one_waiting (IsPointing mapped relation place w.own.graph) owners owner pointing among

  abbrev asked_keys : List (List Value)
  asked_keys = fold (with_key_of mapped relation w.own.graph) [] owners

  abbrev leads_here : Bool
  leads_here = leads_to_one mapped relation all w.own.graph own_key

  -- after the reading, in each graph that finds the same
  knows_then : (u : World) → Between mapped relation all own_key w (list_any (λ start. list_any (same_values own_key) (batch_at asked_keys start)) (batch_starts (length asked_keys))) u → (graph : Graph) → Same u.own.graph graph
      → Knows mapped relation owner own_key leads_here graph
  knows_then u between graph same =
      let root : ClassId = root_of mapped relation.target in
      let start : Graph = w.own.graph in
      let rooted : length graph.roots ≡ length graph.objects = same.rooted ∙ between.rooted ∙ sym same.long in
      let all_asked : find_identity start root own_key ≡ None → has_null own_key ≡ false → list_any (λ first. list_any (same_values own_key) (batch_at asked_keys first)) (batch_starts (length asked_keys)) ≡ true = λ none given.
      some_in_a_batch (same_values own_key) asked_keys (wanted_has mapped relation start one owners owner [] among (known_key mapped relation.target start own_key given none)) in
      let end =
      end_is mapped relation all own_key start graph rooted
      (λ object e. same.found root own_key ∙ between.gains.found root own_key object e)
      (λ object e. same.classes object ∙ between.gains.classes object (found_stands start root own_key object stage.rooted e).0)
      (λ given none.
      ap is_some (same.found root own_key) ∙ between.gains.some own_key none
      ∙ subst (λ (b : Bool). Told b (between.asked own_key) (has_row mapped relation.target all own_key)) (all_asked none given) between.told)
      (λ object none e. ap (λ (own : ClassId). is_at_or_under mapped own relation.target) (same.classes object) ∙ between.gains.of own_key object none (sym (same.found root own_key) ∙ e)) (has_null own_key) refl in
      let cells : (attr : AttrNo) → HoldsOn attr (object_at start owner) (object_at graph owner) = λ attr held.
      let first = between.gains.cells owner own_pointing.made attr held in same.cells owner attr (ap is_none first ∙ held) ∙ first in
      record {
        is = key_kept mapped relation (object_at start owner) (object_at graph owner) (same.classes owner ∙ between.gains.classes owner own_pointing.made) own_pointing.held cells;
        some = end.0;
        stands = end.1;
      }

  loaded_ends : (after : World) → Goes (load_unloaded mapped relation place w.own.graph owners) w tt after → LeadsToTarget mapped relation place all w after owner
  unfolding load_each wanted_keys fill_owners
  loaded_ends after g =
      let starts : List ℕ = batch_starts (length asked_keys) in
      let two = parted (each (load_from mapped relation.target asked_keys) tt starts) (λ (u : Unit {0}). on_own (fill_owners mapped relation place owners)) w tt after (record { answer = g.answer; leaves = g.leaves }) in
      let u : World = two.between in
      let known : All (IsKeyOf (root_key mapped relation.target (from_root 0))) asked_keys =
      All-from_recursion (IsKeyOf (root_key mapped relation.target (from_root 0))) asked_keys (wanted_known mapped relation w.own.graph one owners [] tt) in
      let between = each_batch mapped relation all own_key w one stage asked_keys starts false tt w u known (began mapped relation all own_key w one stage) (subst (λ (n : Unit {0}). Goes (each (load_from mapped relation.target asked_keys) tt starts) w n u) refl two.first) in
      let quiet = on_own_goes (fill_owners mapped relation place owners) u tt after two.second in
      let links : (object_at u.own.graph owner).links ≡ (object_at w.own.graph owner).links = between.keeps.links owner own_pointing.made in
      let made : IsObject u.own.graph owner = made_later w.own.graph u.own.graph owner between.keeps.all own_pointing.made in
      let old : Link = link_at w.own.graph owner place in
      let end =
      owners_go mapped relation place owner own_key leads_here old own_pointing.unloaded u.own.graph between.rooted made (knows_then u between) false owners tt u.own after.own
      (all_made mapped relation place w.own.graph u.own.graph owners between.keeps.all pointing)
      (record {
        same = same_same u.own.graph;
        stays = stays_same u.own.graph;
        held = subst (λ (ls : List Link). place.0 < length ls) (sym links) own_pointing.has;
        stand = inl (link_kept w.own.graph u.own.graph owner place between.keeps own_pointing.made);
      })
      (record { answer = quiet.goes.answer; leaves = quiet.goes.leaves }) in
      subst (λ (c : Bool). Waits mapped relation place owner old own_key leads_here c after.own.graph) among end.stand

pub selectin_leads : (mapped : Mapped) (relation : Relation) (place : RelNo) (owners : List ObjId) (owner : ObjId) (all : List Row) (w after : World) → IsManyToOne mapped relation → Stage mapped relation all w
    → All (IsPointing mapped relation place w.own.graph) owners → is_among owners owner ≡ true → Goes (load_ends mapped relation place owners) w tt after → LeadsToTarget mapped relation place all w after owner
unfolding load_ends unloaded
selectin_leads mapped relation place owners owner all w after one stage pointing among g =
    let each_points = recursion_from_All (IsPointing mapped relation place w.own.graph) owners pointing in
    let is : flat_map (if_unloaded w.own.graph place) owners ≡ owners = all_unloaded mapped relation place w.own.graph owners each_points in
    let chosen = by_own_goes (λ (own : Loading). load_unloaded mapped relation place own.graph (flat_map (if_unloaded own.graph place) owners)) w tt after (record { answer = g.answer; leaves = g.leaves }) in
    loaded_ends mapped relation place owners owner all w one stage each_points among after (subst (λ (os : List ObjId). Goes (load_unloaded mapped relation place w.own.graph os) w tt after) is chosen)

-- ---- both lead alike

pub ends_alike : (root : ClassId) (one other : Graph) (key : List Value) (leads : Bool) (end same : Option ObjId) → is_some end ≡ leads → is_some same ≡ leads → StandsIfAny root one key end → StandsIfAny root other key same
    → option_map (identity_key one) end ≡ option_map (identity_key other) same
ends_alike root one other key leads None None p q h k = refl
ends_alike root one other key leads None (Some object) p q h k = absurd (let never = p ∙ sym q in cc)
ends_alike root one other key leads (Some object) None p q h k = absurd (let never = p ∙ sym q in cc)
ends_alike root one other key leads (Some object) (Some alike) p q h k = ap Some (key_of_stand root one key object h ∙ sym (key_of_stand root other key alike k))

pub lead_alike : (mapped : Mapped) (relation : Relation) (place : RelNo) (owners : List ObjId) (owner : ObjId) (all : List Row) (w lazy together : World) → IsManyToOne mapped relation → Stage mapped relation all w
    → All (IsPointing mapped relation place w.own.graph) owners → is_among owners owner ≡ true → Goes (load_target mapped relation owner place) w tt lazy → Goes (load_ends mapped relation place owners) w tt together
    → LeadAlike lazy.own.graph together.own.graph (link_at lazy.own.graph owner place) (link_at together.own.graph owner place)
lead_alike mapped relation place owners owner all w lazy together one stage pointing among g h =
    let own = one_waiting (IsPointing mapped relation place w.own.graph) owners owner (recursion_from_All (IsPointing mapped relation place w.own.graph) owners pointing) among in
    let first = lazy_leads mapped relation place owner all w lazy one stage own g in
    let other = selectin_leads mapped relation place owners owner all w together one stage pointing among h in
    let key : List Value = key_of mapped relation w.own.graph owner in
    record {
      end = first.end;
      same = other.end;
      one_link = first.link;
      other_link = other.link;
      alike = ends_alike (root_of mapped relation.target) lazy.own.graph together.own.graph key (leads_to_one mapped relation all w.own.graph key) first.end other.end first.some other.some first.stands other.stands;
    }
