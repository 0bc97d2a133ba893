-- The identities of records are free when the records are put in.
use Rattle.std.proofs.Common.{◌≡◌, ◌≢◌, ℕ, ◌+◌, ◌-◌, ◌<◌, Bool, true, false, ◌&&◌, List, [], ◌∷◌, length, map, get_or, refl, sym, ap, ◌∙◌, subst, ⊎_elim, arith}
use Rattle.std.specs.Prelude.{not, Option, None, Some, slice_set, ◌==◌}
use Rattle.std.specs.List.{enumerate_from, position, zip}
use Rattle.std.specs.Option.{option_map, unwrap_or}
use Rattle.std.proofs.lemmas.Bool.{and_from, and_parts, cases_eq, eq-eqb}
use Rattle.std.proofs.lemmas.List.{same_lists, get_or-map, length-map}
use Rattle.base_core.specs.declared.ids.ClassId.{ClassId}
use Rattle.base_core.specs.declared.ids.ObjId.{ObjId}
use Rattle.base_core.specs.declared.value.Value.{Value}
use Rattle.object_arena.specs.declared.object.Object.{Object}
use Rattle.object_arena.specs.Every.{classes_of, each_placed}
use Rattle.object_arena.specs.Graph.{Graph, is_persistent, no_class_id, no_object, root_at, with_object}
use Rattle.object_arena.specs.Identity.{IsFree, IsOne, has_key, holds, holds_at, id_of_place, is_other, is_taken}
use Rattle.object_arena.proofs.GraphLemmas.{at_other, at_same, held_inside, same_equiv}
use Rattle.object_arena.proofs.HolderLemmas.{place_holds}
use Rattle.savepoints.proofs.BackLemmas.{each_at, each_long}
use Rattle.object_records.specs.Records.{CanFollow, CanReplace, record_at, with_records}
use Rattle.object_records.specs.Way.{ArePuttable, HoldNoMore, aside, aside_for, aside_if}
use Rattle.object_records.proofs.StateSteps.{aside_itself}

-- ---- who holds what

-- a persistent record holds its key at its place
pub held_own : (records : List Object) (roots : List ClassId) (root : ClassId) (key : List Value) (i : ℕ) (new : Object) → new ≡ get_or records i no_object → root ≡ get_or roots i no_class_id
    → is_persistent new.state ≡ true → new.identity ≡ Some key → holds_at records roots root key i ≡ true
held_own records roots root key i new at own is has =
    ap (λ (o : Object). holds root key (o, get_or roots i no_class_id)) (sym at)
    ∙ ap (λ (r : ClassId). holds r key (new, get_or roots i no_class_id)) own
    ∙ and_from (is_persistent new.state) (((get_or roots i no_class_id).0 == (get_or roots i no_class_id).0) && has_key key new.identity) is
    (and_from ((get_or roots i no_class_id).0 == (get_or roots i no_class_id).0) (has_key key new.identity) (eq-eqb (get_or roots i no_class_id).0 (get_or roots i no_class_id).0 refl)
    (ap (has_key key) has ∙ same_equiv.refl key))

none_found : (object : ObjId) (i : ℕ) (found : Option ℕ) → object.0 ≡ i + 1 → ((p : ℕ) → found ≡ Some p → p ≡ i) → is_other object (option_map id_of_place found) ≡ false
none_found object i None number only = refl
none_found object i (Some p) number only = let same : p + 1 ≡ object.0 = omega (arith, number, only p refl) in ap not (eq-eqb (p + 1) object.0 same)

-- what is held at one place alone is free for the object there
pub free_at : (now : Graph) (records : List Object) (object : ObjId) (key : List Value) (i : ℕ) → object.0 ≡ i + 1 → length now.roots ≡ length now.objects → HoldNoMore now records → IsOne records now.roots
    → holds_at records now.roots (root_at now object) key i ≡ true → is_taken now object key ≡ false
free_at now records object key i number rooted held one own =
    let root : ClassId = root_at now object in
    none_found object i (position (holds root key) (zip now.objects now.roots)) number
    (λ p at. one root key p i (held root key p (place_holds now.objects now.roots root key p rooted at).1) own)

free_under : (now : Graph) (object : ObjId) (identity : Option (List Value)) → ((key : List Value) → identity ≡ Some key → is_taken now object key ≡ false) → IsFree now object identity
free_under now object None free = tt
free_under now object (Some key) free = free key refl

-- a persistent record's identity is free, while nothing else is held than what the records hold
pub free_record : (now : Graph) (records : List Object) (i : ℕ) (new : Object) → new ≡ get_or records i no_object → length now.roots ≡ length now.objects → HoldNoMore now records → IsOne records now.roots
    → is_persistent new.state ≡ true → IsFree now (id_of_place i) new.identity
free_record now records i new at rooted held one is =
    let place : i + 1 - 1 ≡ i = omega arith in
    free_under now (id_of_place i) new.identity
    (λ key has. free_at now records (id_of_place i) key i refl rooted held one
    (held_own records now.roots (root_at now (id_of_place i)) key i new at (ap (λ (p : ℕ). get_or now.roots p no_class_id) place) is has))

-- ---- a record that was put in

pub held_more : (now new : Graph) (records : List Object) (i : ℕ) (it : Object) → i < length now.objects → it ≡ get_or records i no_object → new ≡ with_object now (id_of_place i) it → HoldNoMore now records → HoldNoMore new records
held_more now new records i it less at write held =
    let place : i + 1 - 1 ≡ i = omega arith in
    let there : new ≡ record { objects = slice_set now.objects i it; roots = now.roots } = write ∙ ap (λ (p : ℕ). record { objects = slice_set now.objects p it; roots = now.roots }) place in
    subst (λ (g : Graph). HoldNoMore g records) (sym there)
    (λ root key j has.
    ⊎_elim
    (λ (same : j ≡ i).
    let own : holds root key (it, get_or now.roots i no_class_id) ≡ true = sym (at_same now.objects now.roots root key i it less) ∙ subst (λ (k : ℕ). holds_at (slice_set now.objects i it) now.roots root key k ≡ true) same has in
    subst (λ (k : ℕ). holds_at records now.roots root key k ≡ true) (sym same) (ap (λ (o : Object). holds root key (o, get_or now.roots i no_class_id)) (sym at) ∙ own))
    (λ (other : j ≢ i). held root key j (sym (at_other now.objects now.roots root key i j it other) ∙ has))
    (cases_eq j i))

-- ---- the graph in which objects have stepped aside

aside_replaced : (old new : Object) (leaves : Bool) → leaves ≡ (is_persistent old.state && not (is_persistent new.state)) → CanReplace old new → CanReplace (aside_if leaves old) new
aside_replaced old new false is can = can
aside_replaced old new true is can = record {
  class = can.class;
  cells = can.cells;
  links = can.links;
  few_cells = can.few_cells;
  few_links = can.few_links;
  identified = can.identified;
  identity = λ was will. absurd cc;
}

aside_held : (root own : ClassId) (key : List Value) (old new : Object) (leaves : Bool) → leaves ≡ (is_persistent old.state && not (is_persistent new.state)) → CanReplace old new
    → holds root key (aside_if leaves old, own) ≡ true → holds root key (new, own) ≡ true
aside_held root own key old new true is can has = absurd cc
aside_held root own key old new false is can has =
    let parts = and_parts (is_persistent old.state) ((own.0 == root.0) && has_key key old.identity) has in
    let rest = and_parts (own.0 == root.0) (has_key key old.identity) parts.1 in
    let stays : is_persistent new.state ≡ true = stays_so (is_persistent old.state) (is_persistent new.state) (sym is) parts.0 in
    and_from (is_persistent new.state) ((own.0 == root.0) && has_key key new.identity) stays
    (and_from (own.0 == root.0) (has_key key new.identity) rest.0 (ap (has_key key) (can.identity parts.0 stays) ∙ rest.1))
  where
    stays_so : (a b : Bool) → (a && not b) ≡ false → a ≡ true → b ≡ true
    stays_so true true e h = refl
    stays_so true false e h = absurd cc
    stays_so false b e h = absurd cc

-- what an object comes to be, it comes to be from where it stands aside
record_then : (records : List (Option Object)) (n : ℕ) (objects : List Object)
    → map (λ placed. record_at records placed.0 placed.1) (enumerate_from n (map (λ placed. aside records placed.0 placed.1) (enumerate_from n objects))) ≡ map (λ placed. record_at records placed.0 placed.1) (enumerate_from n objects)
record_then records n [] = refl
record_then records n (o ∷ objects) =
    ap (λ (it : Object). it ∷ map (λ placed. record_at records placed.0 placed.1) (enumerate_from (n + 1) (map (λ placed. aside records placed.0 placed.1) (enumerate_from (n + 1) objects)))) (same_record (get_or records n None) o)
    ∙ ap (λ (os : List Object). record_at records n o ∷ os) (record_then records (n + 1) objects)
  where
    same_record : (record_there : Option Object) (object : Object) → unwrap_or record_there (aside_for (unwrap_or record_there object) object) ≡ unwrap_or record_there object
    same_record None object = aside_itself object
    same_record (Some new) object = refl

pub records_aside : (old now : Graph) (records : List (Option Object)) → now ≡ each_placed (aside records) old → with_records now records ≡ with_records old records
records_aside old now records is =
    ap (λ (g : Graph). with_records g records) is ∙ ap (λ (os : List Object). record { objects = os; roots = old.roots }) (record_then records 0 old.objects)

-- the objects that come to be can be put into it
pub aside_puttable : (old now : Graph) (records : List (Option Object)) → now ≡ each_placed (aside records) old → CanFollow old (with_records old records).objects → length old.roots ≡ length old.objects → ArePuttable now (with_records now records).objects
aside_puttable old now records is can rooted =
    let graph : Graph = each_placed (aside records) old in
    let objects : List Object = (with_records old records).objects in
    let new : ℕ → Object = λ place. get_or objects place no_object in
    let at : (place : ℕ) → place < length old.objects → get_or graph.objects place no_object ≡ aside_for (new place) (get_or old.objects place no_object) =
    λ place less.
    each_at (aside records) old place no_object no_object less
    ∙ ap (λ (o : Object). aside_for o (get_or old.objects place no_object)) (sym (each_at (record_at records) old place no_object no_object less)) in
    subst (ArePuttable now) (sym (ap (λ (g : Graph). g.objects) (records_aside old now records is)))
    (subst (λ (g : Graph). ArePuttable g objects) (sym is)
    (record {
      long = can.long ∙ sym (each_long (aside records) old);
      rooted = rooted ∙ sym (each_long (aside records) old);
      each = λ place less.
          let within : place < length old.objects = omega (arith, each_long (aside records) old, less) in
          subst (λ (o : Object). CanReplace o (new place)) (sym (at place within))
          (aside_replaced (get_or old.objects place no_object) (new place) (is_persistent (get_or old.objects place no_object).state && not (is_persistent (new place).state)) refl (can.each place within));
      one = can.one;
      held = λ root key place has.
          let inside : place < length graph.objects = held_within graph root key place has in
          let within : place < length old.objects = omega (arith, each_long (aside records) old, inside) in
          aside_held root (get_or old.roots place no_class_id) key (get_or old.objects place no_object) (new place)
          (is_persistent (get_or old.objects place no_object).state && not (is_persistent (new place).state)) refl (can.each place within)
          (ap (λ (o : Object). holds root key (o, get_or old.roots place no_class_id)) (sym (at place within)) ∙ has);
    }))
  where
    held_within : (graph : Graph) (root : ClassId) (key : List Value) (place : ℕ) → holds_at graph.objects graph.roots root key place ≡ true → place < length graph.objects
    held_within graph root key place has = held_inside graph.objects graph.roots root key place has

-- ---- classes

-- records of the objects' classes
same_classes : (old : Graph) (objects : List Object) → CanFollow old objects → map (λ (o : Object). o.class) objects ≡ map (λ (o : Object). o.class) old.objects
same_classes old objects can =
    same_lists (map (λ (o : Object). o.class) objects) (map (λ (o : Object). o.class) old.objects)
    (length-map objects (λ (o : Object). o.class) ∙ can.long ∙ sym (length-map old.objects (λ (o : Object). o.class)))
    (λ place d less.
    let within : place < length objects = rw (sym (length-map objects (λ (o : Object). o.class))) less in
    let inside : place < length old.objects = omega (arith, can.long, within) in
    get_or-map (λ (o : Object). o.class) objects place no_object d within ∙ (can.each place inside).class ∙ sym (get_or-map (λ (o : Object). o.class) old.objects place no_object d inside))

pub classes_put : (old new : Graph) (records : List (Option Object)) → CanFollow old (with_records old records).objects → new ≡ with_records old records → classes_of new ≡ classes_of old
unfolding classes_of
classes_put old new records can is =
    ap (λ (g : Graph). (map (λ (o : Object). o.class) g.objects, g.roots)) is ∙ ap (λ (classes : List ClassId). (classes, old.roots)) (same_classes old (with_records old records).objects can)

-- the records were put in where objects stood aside
pub put_aside : (old now new : Graph) (records : List (Option Object)) → now ≡ each_placed (aside records) old → new ≡ with_records now records → new ≡ with_records old records
put_aside old now new records is write = write ∙ records_aside old now records is

pub ruleset frees = (aside_puttable, classes_put, put_aside)
