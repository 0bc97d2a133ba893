-- Who stands for a key, and which links objects have: what the filling of cells and links leaves, and what a loaded object adds.
use Rattle.std.proofs.Common.{◌≡◌, inl, inr, ℕ, zero, suc, ◌+◌, ◌-◌, ◌<◌, ◌==◌, nat_lt, Bool, true, false, not, ◌&&◌, List, [], ◌∷◌, ◌++◌, length, get_or, Option, None, Some, Result, Ok, Err, if◌then◌else◌, refl, sym, ap, subst, ◌∙◌, arith}
use Rattle.std.specs.Prelude.{find, slice_index_or, slice_set}
use Rattle.std.specs.List.{position, zip}
use Rattle.std.specs.Option.{option_map}
use Rattle.std.proofs.Math.Seq.{get_or-append_seam}
use Rattle.std.proofs.lemmas.Bool.{and_parts}
use Rattle.std.proofs.lemmas.Bool.Decides.{nat_tests}
use Rattle.std.proofs.lemmas.List.{get_or-set_same, get_or_append_left, length-append, length-set}
use Rattle.base_core.specs.declared.ids.ClassId.{ClassId}
use Rattle.base_core.specs.declared.ids.ObjId.{ObjId}
use Rattle.base_core.specs.declared.ids.RelNo.{RelNo}
use Rattle.base_core.specs.declared.refusal.LimitKind.TheVariants.{Objects}
use Rattle.base_core.specs.declared.refusal.Refusal.{Refusal}
use Rattle.base_core.specs.declared.refusal.Refusal.TheVariants.{LimitReached}
use Rattle.base_core.specs.declared.value.Value.{Value}
use Rattle.schema_core.specs.Tables.{same_values}
use Rattle.class_mapping.specs.Mapped.{IsClass, Mapped, root_of}
use Rattle.class_mapping.proofs.Having.{Has, from_filter}
use Rattle.class_mapping.specs.Paired.{HasPairs, is_at_or_under}
use Rattle.mapping_laws.specs.Hierarchies.{HasHierarchies}
use Rattle.mapping_laws.proofs.Ties.{class_tables}
use Rattle.object_arena.specs.declared.object.Link.{Link}
use Rattle.object_arena.specs.declared.object.Link.TheVariants.{Unset}
use Rattle.object_arena.specs.declared.object.Object.{Object}
use Rattle.object_arena.specs.declared.object.State.{State}
use Rattle.object_arena.specs.Graph.{Graph, IsLink, IsObject, is_persistent, no_class_id, no_object, object_at, object_limit, place_of, root_at, with_link, with_object}
use Rattle.object_arena.specs.Identity.{find_identity, has_key, holds, holds_at, id_of_place}
use Rattle.object_arena.proofs.GraphLemmas.{same_equiv}
use Rattle.object_arena.proofs.HolderLemmas.{place_holds}
use Rattle.object_arena.proofs.TurnLemmas.{at_with}
use Rattle.collection_selects.proofs.Placed.{branch_under}
use Rattle.load_selects.specs.Branches.{branch, class_ids, discriminator_of, is_under}
use Rattle.load_filling.specs.Filled.{Found, filled_object, with_filled}
use Rattle.load_filling.specs.Loaded.{load, loaded_object, with_loaded}
use Rattle.load_filling.specs.Rows.{class_by, class_named, found_or_loaded, has_identity, loaded_as, row_key, row_object, value_named}
use Rattle.load_rows.specs.Links.{link_at}
use Rattle.loading_laws.specs.Strategies.Standing.{Keeps, Stands, Stays}

-- ---- a view of the items of a list, with one of them replaced

-- what holds of each item and itself, and of the replaced one and the new one, holds of what stands at each place before and after
pub set_related : {A : Type 0} (P : A → A → Type 0) (xs : List A) (i j : ℕ) (new d : A) → ((x : A) → P x x) → P (get_or xs i d) new → P (get_or xs j d) (get_or (slice_set xs i new) j d)
set_related P [] i j new d same e = same d
set_related P (x ∷ xs) zero zero new d same e = e
set_related P (x ∷ xs) zero (suc j) new d same e = same (get_or xs j d)
set_related P (x ∷ xs) (suc i) zero new d same e = same x
set_related P (x ∷ xs) (suc i) (suc j) new d same e = set_related P xs i j new d same e

set_view : {A B : Type 0} (f : A → B) (xs : List A) (i j : ℕ) (new d : A) → f new ≡ f (get_or xs i d) → f (get_or (slice_set xs i new) j d) ≡ f (get_or xs j d)
set_view f xs i j new d e = set_related (λ x y. f y ≡ f x) xs i j new d (λ x. refl) e

-- ---- what stays

pub stays_same : (graph : Graph) → Stays graph graph
stays_same graph = record { long = omega arith; stand = λ root key object h. h; identities = λ object h. refl }

pub keeps_same : (graph : Graph) → Keeps graph graph
keeps_same graph = record { all = stays_same graph; links = λ object h. refl }

pub made_later : (old new : Graph) (object : ObjId) → Stays old new → IsObject old object → IsObject new object
made_later old new object stays h = let long = stays.long in (h.0, omega (arith, long, h.1))

pub stays_then : (a b c : Graph) → Stays a b → Stays b c → Stays a c
stays_then a b c p q = record {
  long = let one = p.long in let two = q.long in omega (arith, one, two);
  stand = λ root key object h. q.stand root key object (p.stand root key object h);
  identities = λ object h. q.identities object (made_later a b object p h) ∙ p.identities object h;
}

pub keeps_then : (a b c : Graph) → Keeps a b → Keeps b c → Keeps a c
keeps_then a b c p q = record { all = stays_then a b c p.all q.all; links = λ object h. q.links object (made_later a b object p.all h) ∙ p.links object h }

-- another record of an object, of the same state and identity
pub stays_put : (graph : Graph) (object : ObjId) (new : Object) → new.state ≡ (object_at graph object).state → new.identity ≡ (object_at graph object).identity → Stays graph (with_object graph object new)
stays_put graph object new state identity =
    let long : length (slice_set graph.objects (place_of object) new) ≡ length graph.objects = length-set graph.objects (place_of object) new in
    record {
      long = omega (arith, long);
      stand = λ root key other h.
          let there : Object = get_or (slice_set graph.objects (place_of object) new) (place_of other) no_object in
          let same : there.state ≡ (object_at graph other).state = set_view (λ (o : Object). o.state) graph.objects (place_of object) (place_of other) new no_object state in
          let kept : there.identity ≡ (object_at graph other).identity = set_view (λ (o : Object). o.identity) graph.objects (place_of object) (place_of other) new no_object identity in (
            (h.0.0, omega (arith, long, h.0.1)),
            ap (λ (s : State). is_persistent s && ((root_at graph other).0 == root.0 && has_key key there.identity)) same
                ∙ ap (λ (k : Option (List Value)). is_persistent (object_at graph other).state && ((root_at graph other).0 == root.0 && has_key key k)) kept ∙ h.1,
          );
      identities = λ other h. set_view (λ (o : Object). o.identity) graph.objects (place_of object) (place_of other) new no_object identity;
    }

-- the filling of an object's cells
keeps_filled : (graph : Graph) (object : ObjId) (found : Found) → Keeps graph (with_filled graph object found)
unfolding with_filled
keeps_filled graph object found =
    let new : Object = filled_object found (object_at graph object) in
    record { all = stays_put graph object new refl refl; links = λ other h. set_view (λ (o : Object). o.links) graph.objects (place_of object) (place_of other) new no_object refl }

rooted_filled : (graph : Graph) (object : ObjId) (found : Found) → length graph.roots ≡ length graph.objects → length (with_filled graph object found).roots ≡ length (with_filled graph object found).objects
unfolding with_filled
rooted_filled graph object found rooted = rooted ∙ sym (length-set graph.objects (place_of object) (filled_object found (object_at graph object)))

-- ---- an object that is made

keeps_loaded : (mapped : Mapped) (class : ClassId) (key : List Value) (graph : Graph) → length graph.roots ≡ length graph.objects → Keeps graph (with_loaded mapped class key graph)
keeps_loaded mapped class key graph rooted =
    let new : Object = loaded_object mapped class key in
    let long : length (graph.objects ++ new ∷ []) ≡ length graph.objects + 1 = length-append graph.objects (new ∷ []) in
    record {
      all = record {
        long = omega (arith, long);
        stand = λ root k object h.
            let less : place_of object < length graph.objects = omega (arith, h.0.0, h.0.1) in
            let same : object_at (with_loaded mapped class key graph) object ≡ object_at graph object = get_or_append_left graph.objects (new ∷ []) no_object (place_of object) less in
            let own : root_at (with_loaded mapped class key graph) object ≡ root_at graph object = get_or_append_left graph.roots (root_of mapped class ∷ []) no_class_id (place_of object) (omega (arith, less, rooted)) in (
              (h.0.0, omega (arith, long, h.0.1)),
              ap (λ (o : Object). holds root k (o, root_at (with_loaded mapped class key graph) object)) same ∙ ap (λ (r : ClassId). holds root k (object_at graph object, r)) own ∙ h.1,
            );
        identities = λ object h. ap (λ (o : Object). o.identity) (get_or_append_left graph.objects (new ∷ []) no_object (place_of object) (omega (arith, h.0, h.1)));
      };
      links = λ object h. ap (λ (o : Object). o.links) (get_or_append_left graph.objects (new ∷ []) no_object (place_of object) (omega (arith, h.0, h.1)));
    }

pub itself : (n : ℕ) (b : Bool) → b ≡ true → (true && ((n == n) && b)) ≡ true
itself n b e = grind (arith, nat_tests)

loaded_stands : (mapped : Mapped) (class : ClassId) (key : List Value) (graph : Graph) → length graph.roots ≡ length graph.objects
    → Stands (root_of mapped class) (with_loaded mapped class key graph) key (record { 0 = length graph.objects + 1 })
loaded_stands mapped class key graph rooted =
    let new : Object = loaded_object mapped class key in
    let long : length (graph.objects ++ new ∷ []) ≡ length graph.objects + 1 = length-append graph.objects (new ∷ []) in
    let place : length graph.objects + 1 - 1 ≡ length graph.objects = omega arith in
    let at : get_or (graph.objects ++ new ∷ []) (length graph.objects + 1 - 1) no_object ≡ new = ap (λ n. get_or (graph.objects ++ new ∷ []) n no_object) place ∙ get_or-append_seam graph.objects new [] no_object in
    let own : get_or (graph.roots ++ root_of mapped class ∷ []) (length graph.objects + 1 - 1) no_class_id ≡ root_of mapped class =
    ap (λ n. get_or (graph.roots ++ root_of mapped class ∷ []) n no_class_id) (place ∙ sym rooted) ∙ get_or-append_seam graph.roots (root_of mapped class) [] no_class_id in (
      (omega arith, omega (arith, long)),
      ap (λ (o : Object). holds (root_of mapped class) key (o, get_or (graph.roots ++ root_of mapped class ∷ []) (length graph.objects + 1 - 1) no_class_id)) at
          ∙ ap (λ (r : ClassId). holds (root_of mapped class) key (new, r)) own ∙ itself (root_of mapped class).0 (same_values key key) (same_equiv.refl key),
    )

found_by : (graph : Graph) (root : ClassId) (key : List Value) (object : ObjId) (at : Option ℕ) → length graph.roots ≡ length graph.objects → position (holds root key) (zip graph.objects graph.roots) ≡ at → option_map id_of_place at ≡ Some object
    → Stands root graph key object
found_by graph root key object None rooted is h = absurd cc
found_by graph root key object (Some place) rooted is h =
    let there = place_holds graph.objects graph.roots root key place rooted is in
    let number : object.0 ≡ place + 1 = cc in
    let here : place ≡ place_of object = omega (arith, number) in
    ((omega (arith, number), omega (arith, number, there.0)), subst (λ (p : ℕ). holds_at graph.objects graph.roots root key p ≡ true) here there.1)

-- the object that the identity map has
pub found_stands : (graph : Graph) (root : ClassId) (key : List Value) (object : ObjId) → length graph.roots ≡ length graph.objects → find_identity graph root key ≡ Some object → Stands root graph key object
found_stands graph root key object rooted e = found_by graph root key object (position (holds root key) (zip graph.objects graph.roots)) rooted refl e

-- ---- the class that a row names

named_among : (test : ClassId → Bool) (classes : List ClassId) (class : ClassId) → find test classes ≡ Some class → Has classes class
named_among test [] class e = absurd cc
named_among test (one ∷ classes) class e = by (test one) e (λ more. named_among test classes class more)
  where
    by : (b : Bool) → (if b then Some one else find test classes) ≡ Some class → (find test classes ≡ Some class → Has classes class) → Has (one ∷ classes) class
    by true e more = inl cc
    by false e more = inr (more e)

-- a class of a branch is of the hierarchy of its head
branch_root : (mapped : Mapped) (class named : ClassId) → HasPairs mapped → Has (branch mapped class) named → root_of mapped named ≡ root_of mapped class
branch_root mapped class named has (inl e) = ap (root_of mapped) (sym e)
branch_root mapped class named has (inr h) =
    ap (λ (n : ℕ). let root : ClassId = record { 0 = n } in root)
    (has.rooted named class (and_parts (not (named.0 == class.0)) (is_at_or_under mapped named class) (from_filter (is_under mapped class) (class_ids mapped) named h).1).1)

same_class : (one other : ClassId) → ◌≡◌ {A = Option ClassId} (Some one) (Some other) → one ≡ other
same_class one other e = cc

named_by : (mapped : Mapped) (class named : ClassId) (values : List Value) (name : Option (List ℕ)) → HasPairs mapped → class_by mapped class values name ≡ Some named → root_of mapped named ≡ root_of mapped class
named_by mapped class named values None has e = ap (root_of mapped) (sym (same_class class named e))
named_by mapped class named values (Some name) has e = branch_root mapped class named has (named_among (has_identity mapped (value_named mapped class values name)) (branch mapped class) named e)

-- it is of the class's hierarchy
pub named_root : (mapped : Mapped) (class named : ClassId) (values : List Value) → HasPairs mapped → class_named mapped class values ≡ Some named → root_of mapped named ≡ root_of mapped class
unfolding class_named
named_root mapped class named values has e = named_by mapped class named values (discriminator_of mapped class) has e

-- it is the class or one below it
under_by : (mapped : Mapped) (class named : ClassId) (values : List Value) (name : Option (List ℕ)) → HasHierarchies mapped → IsClass mapped class → class_by mapped class values name ≡ Some named → is_at_or_under mapped named class ≡ true
under_by mapped class named values None has declared e = branch_under mapped class has declared (class_tables mapped class has declared) named (inl (same_class class named e))
under_by mapped class named values (Some name) has declared e = branch_under mapped class has declared (class_tables mapped class has declared) named (named_among (has_identity mapped (value_named mapped class values name)) (branch mapped class) named e)

pub named_under : (mapped : Mapped) (class named : ClassId) (values : List Value) → HasHierarchies mapped → IsClass mapped class → class_named mapped class values ≡ Some named → is_at_or_under mapped named class ≡ true
unfolding class_named
named_under mapped class named values has declared e = under_by mapped class named values (discriminator_of mapped class) has declared e

-- ---- the object of a row

-- the object of a row stands for its key
pub record IsTaken (mapped : Mapped) (class : ClassId) (row : List Value) (old new : Graph) (object : ObjId) : Type 0 where
  pub stands : Stands (root_of mapped class) new (row_key mapped class row) object
  pub keeps : Keeps old new
  pub rooted : length new.roots ≡ length new.objects

same_pair : {A B : Type 0} (x y : A × B) → ◌≡◌ {A = Result (A × B) Refusal} (Ok x) (Ok y) → x ≡ y
same_pair x y e = cc

module _ (mapped : Mapped) (class : ClassId) (row : List Value) (old : Graph) (has : HasPairs mapped) (rooted : length old.roots ≡ length old.objects) where
  loaded_taken : (named : ClassId) (found : ObjId × Graph) (b : Bool) → root_of mapped named ≡ root_of mapped class
      → (if b then Ok (record { 0 = length old.objects + 1 }, with_loaded mapped named (row_key mapped class row) old) else Err (LimitReached Objects)) ≡ Ok found → IsTaken mapped class row old found.1 found.0
  loaded_taken named found false root e = absurd cc
  loaded_taken named found true root e =
      let key : List Value = row_key mapped class row in
      let new : Object = loaded_object mapped named key in
      let is = same_pair (record { 0 = length old.objects + 1 }, with_loaded mapped named key old) found e in
      subst (λ (one : ObjId × Graph). IsTaken mapped class row old one.1 one.0) is
      (record {
        stands = subst (λ (r : ClassId). Stands r (with_loaded mapped named key old) key (record { 0 = length old.objects + 1 })) root (loaded_stands mapped named key old rooted);
        keeps = keeps_loaded mapped named key old rooted;
        rooted = length-append old.roots (root_of mapped named ∷ []) ∙ ap (λ n. n + 1) rooted ∙ sym (length-append old.objects (new ∷ []));
      })

  named_taken : (named : Option ClassId) (found : ObjId × Graph) → class_named mapped class row ≡ named → loaded_as mapped (row_key mapped class row) old named ≡ Ok found → IsTaken mapped class row old found.1 found.0
  unfolding load
  named_taken None found is e = absurd cc
  named_taken (Some named) found is e = loaded_taken named found (nat_lt (length old.objects) object_limit) (named_root mapped class named row has is) e

  object_taken : (holder : Option ObjId) (found : ObjId × Graph) → find_identity old (root_of mapped class) (row_key mapped class row) ≡ holder → found_or_loaded mapped class row old holder ≡ Ok found → IsTaken mapped class row old found.1 found.0
  object_taken None found is e = named_taken (class_named mapped class row) found refl e
  object_taken (Some object) found is e =
      subst (λ (one : ObjId × Graph). IsTaken mapped class row old one.1 one.0) (same_pair (object, old) found e)
      (record { stands = found_stands old (root_of mapped class) (row_key mapped class row) object rooted is; keeps = keeps_same old; rooted = rooted })

  pub row_object_taken : (found : ObjId × Graph) → row_object mapped class row old ≡ Ok found → IsTaken mapped class row old found.1 found.0
  unfolding row_object
  row_object_taken found e = object_taken (find_identity old (root_of mapped class) (row_key mapped class row)) found refl e

-- and is filled then
pub filled_taken : (mapped : Mapped) (class : ClassId) (row : List Value) (old mid : Graph) (object : ObjId) (found : Found) → IsTaken mapped class row old mid object → IsTaken mapped class row old (with_filled mid object found) object
filled_taken mapped class row old mid object found taken =
    let more = keeps_filled mid object found in
    record {
      stands = more.all.stand (root_of mapped class) (row_key mapped class row) object taken.stands;
      keeps = keeps_then old mid (with_filled mid object found) taken.keeps more;
      rooted = rooted_filled mid object found taken.rooted;
    }

-- ---- a link

pub stays_link : (graph : Graph) (object : ObjId) (place : RelNo) (link : Link) → Stays graph (with_link graph object place link)
stays_link graph object place link = stays_put graph object (record (object_at graph object) { links = slice_set (object_at graph object).links place.0 link }) refl refl

pub link_put : (graph : Graph) (object : ObjId) (place : RelNo) (link : Link) → IsObject graph object → IsLink graph object place → link_at (with_link graph object place link) object place ≡ link
link_put graph object place link made inside =
    ap (λ (o : Object). slice_index_or o.links place.0 Unset) (at_with graph object (record (object_at graph object) { links = slice_set (object_at graph object).links place.0 link }) made)
    ∙ get_or-set_same (object_at graph object).links place.0 link Unset inside

pub link_kept : (old new : Graph) (object : ObjId) (place : RelNo) → Keeps old new → IsObject old object → link_at new object place ≡ link_at old object place
link_kept old new object place keeps made = ap (λ (links : List Link). slice_index_or links place.0 Unset) (keeps.links object made)
