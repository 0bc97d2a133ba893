-- What success makes of the objects can follow them, and no two of them have one root and one key.
use Rattle.std.proofs.Common.{◌≡◌, ℕ, ◌+◌, ◌-◌, ◌<◌, ◌≤◌, Bool, true, false, ◌&&◌, List, length, map, get_or, Option, None, Some, ◌⊎◌, inl, inr, refl, sym, ap, ◌∙◌, subst, ⊎_elim, arith}
use Rattle.std.specs.Prelude.{cond, nat_lt, not, is_some, ◌==◌, if◌then◌else◌}
use Rattle.std.specs.List.{All, enumerate_from, position, position_or_len, zip}
use Rattle.std.specs.Option.{option_map}
use Rattle.std.specs.Cmp.{Equal-is}
use Rattle.std.proofs.lemmas.Bool.{and_from, and_parts, cases_lt, eq-eqb, eqb-true}
use Rattle.std.proofs.lemmas.Bool.Decides.{nat_tests}
use Rattle.std.proofs.lemmas.List.{length-map}
use Rattle.std.proofs.lemmas.List.FromFn.{length-enumerate_from}
use Rattle.std.proofs.lemmas.List.Sums.{fails_before_first}
use Rattle.std.proofs.lemmas.Slice.Zip.{get_or-zip, length-zip}
use Rattle.base_core.specs.declared.ids.ClassId.{ClassId}
use Rattle.base_core.specs.declared.ids.ObjId.{ObjId}
use Rattle.base_core.specs.declared.value.Value.{Value}
use Rattle.base_core.specs.Order.{values_cmp}
use Rattle.base_core.proofs.Exact.{exact_values}
use Rattle.schema_core.specs.Tables.{same_values}
use Rattle.object_arena.specs.declared.object.Cell.{Cell}
use Rattle.object_arena.specs.declared.object.Link.{Link}
use Rattle.object_arena.specs.declared.object.Object.{Object}
use Rattle.object_arena.specs.declared.object.State.{State}
use Rattle.object_arena.specs.declared.object.State.TheVariants.{Transient, Pending, Persistent, Deleted, Detached}
use Rattle.object_arena.specs.Graph.{has_identity, is_among, is_persistent, no_class_id, no_object, root_at}
use Rattle.object_arena.specs.Identity.{IsGraph, IsOne, has_key, holds, holds_at, id_of_place, is_identified, is_other}
use Rattle.object_arena.specs.Index.{number_of}
use Rattle.object_arena.proofs.GraphLemmas.{held_inside, same_equiv}
use Rattle.object_rows.specs.declared.prepared.Prepared.{Prepared}
use Rattle.object_rows.specs.Seen.{is_cleared}
use Rattle.object_records.specs.Records.{CanFollow, CanReplace}
use Rattle.graph_flushed.specs.Flushed.{Written, deleted_object, graph_written, key_of, kept_cell, kept_link, kept_links, new_cell, new_object, object_flushed, object_in, other_object, prepared_link, prepared_links, state_under, state_unless, staying_cell, staying_object}
use Rattle.graph_flushed.specs.Keys.{Keys, is_given, new_holder}
use Rattle.graph_flushed.specs.Ready.{IsNarrow}
use Rattle.graph_flushed.proofs.ObjectSteps.{flushed_at, flushed_long}

-- ---- as many cells and links

placed_cells : (change : ℕ × Cell → Cell) (cells : List Cell) → length (map change (enumerate_from 0 cells)) ≡ length cells
placed_cells change cells = length-map (enumerate_from 0 cells) change ∙ length-enumerate_from 0 cells

pub prepared_long : (prepared : Prepared) (object : ObjId) (links : List Link) → length (prepared_links prepared object links) ≡ length links
prepared_long prepared object links = length-map (enumerate_from 0 links) (λ placed. prepared_link (is_cleared prepared object (record { 0 = placed.0 })) placed.1) ∙ length-enumerate_from 0 links

pub kept_long : (prepared : Prepared) (object : ObjId) (links : List Link) → length (kept_links prepared object links) ≡ length links
kept_long prepared object links = length-map (prepared_links prepared object links) kept_link ∙ prepared_long prepared object links

-- ---- a record in the place of another

unless_there : (b : Bool) → has_identity (state_unless b) ≡ true
unless_there true = refl
unless_there false = refl

identified_there : (state : State) (identity : Option (List Value)) → has_identity state ≡ true → is_some identity ≡ true → (if has_identity state then is_some identity else not (is_some identity)) ≡ true
identified_there state identity has there = ap (λ (b : Bool). if b then is_some identity else not (is_some identity)) has ∙ there

under_there : (written : Written) (object : ObjId) (identity : Option (List Value)) → has_identity (state_under written object identity) ≡ true
under_there written object None = refl
under_there written object (Some key) = unless_there (is_other object (new_holder written.keys written.graph.roots (root_at written.graph object) key))

-- an identified object in a state that has an identity has one
some_there : (it : Object) → has_identity it.state ≡ true → is_identified it ≡ true → is_some it.identity ≡ true
some_there it has identified = sym (ap (λ (b : Bool). if b then is_some it.identity else not (is_some it.identity)) has) ∙ identified

new_replaces : (written : Written) (object : ObjId) (it : Object) (key : Option (List Value)) → it.state ≡ Pending → IsNarrow (new_object written object key it) → CanReplace it (new_object written object key it)
new_replaces written object it None pending narrow = record {
  class = refl;
  cells = refl;
  links = prepared_long written.prepared object it.links;
  few_cells = narrow.0;
  few_links = narrow.1;
  identified = refl;
  identity = λ was will. absurd cc;
}
new_replaces written object it (Some key) pending narrow = record {
  class = refl;
  cells = placed_cells (new_cell written object it.class key) it.cells;
  links = kept_long written.prepared object it.links;
  few_cells = narrow.0;
  few_links = narrow.1;
  identified = identified_there (state_under written object (Some key)) (Some key) (under_there written object (Some key)) refl;
  identity = λ was will. let none : is_persistent it.state ≡ false = ap is_persistent pending in absurd cc;
}

old_replaces : (written : Written) (object : ObjId) (it : Object) (gone : Bool) → it.state ≡ Persistent → is_identified it ≡ true
    → IsNarrow (if gone then deleted_object written object it else staying_object written object it) → CanReplace it (if gone then deleted_object written object it else staying_object written object it)
old_replaces written object it true persistent identified narrow = record {
  class = refl;
  cells = length-map it.cells kept_cell;
  links = kept_long written.prepared object it.links;
  few_cells = narrow.0;
  few_links = narrow.1;
  identified = some_there it (ap has_identity persistent) identified;
  identity = λ was will. refl;
}
old_replaces written object it false persistent identified narrow = record {
  class = refl;
  cells = placed_cells (staying_cell written object it.class) it.cells;
  links = kept_long written.prepared object it.links;
  few_cells = narrow.0;
  few_links = narrow.1;
  identified = identified_there (state_under written object it.identity) it.identity (under_there written object it.identity) (some_there it (ap has_identity persistent) identified);
  identity = λ was will. refl;
}

other_replaces : (written : Written) (object : ObjId) (it : Object) → is_identified it ≡ true → IsNarrow (record it { links = prepared_links written.prepared object it.links }) → CanReplace it (record it { links = prepared_links written.prepared object it.links })
other_replaces written object it identified narrow = record {
  class = refl;
  cells = refl;
  links = prepared_long written.prepared object it.links;
  few_cells = narrow.0;
  few_links = narrow.1;
  identified = identified;
  identity = λ was will. refl;
}

replaces_in : (written : Written) (object : ObjId) (it : Object) (state : State) → it.state ≡ state → is_identified it ≡ true → IsNarrow (object_in state written object it) → CanReplace it (object_in state written object it)
replaces_in written object it Transient is identified narrow = other_replaces written object it identified narrow
replaces_in written object it Pending is identified narrow = new_replaces written object it (key_of written object) is narrow
replaces_in written object it Persistent is identified narrow = old_replaces written object it (is_among written.prepared.deleted object) is identified narrow
replaces_in written object it Deleted is identified narrow = other_replaces written object it identified narrow
replaces_in written object it Detached is identified narrow = other_replaces written object it identified narrow

-- ---- who has a key afterwards

same_key : (own key : List Value) → same_values own key ≡ true → own ≡ key
same_key own key h = exact_values own key ((Equal-is (values_cmp own key)).0 h)

-- the new object that has the key, and where there is none the object held it before
abbrev Held : Written → ClassId → List Value → ObjId → Object → Type 0
Held written root key object it =
    (new_holder written.keys written.graph.roots root key ≡ Some object)
    ⊎ ((new_holder written.keys written.graph.roots root key ≡ None) × (holds root key (it, root_at written.graph object) ≡ true))

other_none : (object : ObjId) (found : Option ObjId) → is_other object found ≡ false → (found ≡ None) ⊎ (found ≡ Some object)
other_none object None free = inl refl
other_none object (Some other) free = inr (ap (λ (n : ℕ). let id : ObjId = record { 0 = n } in Some id) (eqb-true other.0 object.0 (not_not (other.0 == object.0) free)))
  where
    not_not : (b : Bool) → not b ≡ false → b ≡ true
    not_not true h = refl
    not_not false h = absurd cc

unless_kept : (b : Bool) → is_persistent (state_unless b) ≡ true → b ≡ false
unless_kept true h = absurd cc
unless_kept false h = refl

under_kept : (written : Written) (object : ObjId) (key : List Value) → is_persistent (state_under written object (Some key)) ≡ true
    → (new_holder written.keys written.graph.roots (root_at written.graph object) key ≡ None) ⊎ (new_holder written.keys written.graph.roots (root_at written.graph object) key ≡ Some object)
under_kept written object key kept =
    other_none object (new_holder written.keys written.graph.roots (root_at written.graph object) key)
    (unless_kept (is_other object (new_holder written.keys written.graph.roots (root_at written.graph object) key)) kept)

-- a new object is found under its key
given_found : (keys : Keys) (roots : List ClassId) (i : ℕ) (key : List Value) → length roots ≡ length keys → i < length keys → get_or keys i None ≡ Some key → new_holder keys roots (get_or roots i no_class_id) key ≡ None → ⊥
given_found keys roots i key rooted less at none =
    let root : ClassId = get_or roots i no_class_id in
    let long : i < length roots = omega (arith, rooted, less) in
    let given : is_given root key (get_or (zip keys roots) i (None, no_class_id)) ≡ true =
    ap (is_given root key) (get_or-zip keys roots i (None, no_class_id) less long)
    ∙ ap (λ (k : Option (List Value)). is_given root key (k, root)) at
    ∙ and_from (root.0 == root.0) (same_values key key) (eq-eqb root.0 root.0 refl) (same_equiv.refl key) in
    let e : Some (id_of_place (position_or_len (is_given root key) (zip keys roots))) ≡ None = sym (passes_somewhere (zip keys roots) i (is_given root key) (omega (arith, length-zip keys roots, less, long)) given) ∙ none in
    cc
  where
    passes_somewhere : (all : List (Option (List Value) × ClassId)) (i : ℕ) (test : Option (List Value) × ClassId → Bool) → i < length all → test (get_or all i (None, no_class_id)) ≡ true
        → option_map id_of_place (position test all) ≡ Some (id_of_place (position_or_len test all))
    passes_somewhere all i test less passes =
        let low : position_or_len test all ≤ i =
        ⊎_elim (λ (past : i < position_or_len test all). absurd (let e : true ≡ false = sym passes ∙ fails_before_first test all i (None, no_class_id) past in cc)) (λ h. h) (cases_lt i (position_or_len test all)) in
        let inside : nat_lt (position_or_len test all) (length all) ≡ true = grind (arith, nat_tests) in
        ap (λ (b : Bool). option_map id_of_place (cond b (Some (position_or_len test all)) None)) inside

class_same : (own root : ClassId) → (own.0 == root.0) ≡ true → own ≡ root
class_same own root h = ap (λ (n : ℕ). let id : ClassId = record { 0 = n } in id) (eqb-true own.0 root.0 h)

new_held : (written : Written) (i : ℕ) (root : ClassId) (key : List Value) (it : Object) (own : Option (List Value)) → length written.graph.roots ≡ length written.keys → i < length written.keys → get_or written.keys i None ≡ own
    → holds root key (new_object written (id_of_place i) own it, get_or written.graph.roots i no_class_id) ≡ true → Held written root key (id_of_place i) it
new_held written i root key it None rooted less at has = absurd cc
new_held written i root key it (Some given) rooted less at has =
    let object : ObjId = id_of_place i in
    let own : ClassId = get_or written.graph.roots i no_class_id in
    let place : i + 1 - 1 ≡ i = omega arith in
    let parts = and_parts (is_persistent (state_under written object (Some given))) (own.0 == root.0 && same_values given key) has in
    let rest = and_parts (own.0 == root.0) (same_values given key) parts.1 in
    let roots : root_at written.graph object ≡ root = ap (λ (p : ℕ). get_or written.graph.roots p no_class_id) place ∙ class_same own root rest.0 in
    let same : new_holder written.keys written.graph.roots (root_at written.graph object) given ≡ new_holder written.keys written.graph.roots root key =
    ap (λ (r : ClassId). new_holder written.keys written.graph.roots r given) roots ∙ ap (new_holder written.keys written.graph.roots root) (same_key given key rest.1) in
    ⊎_elim
    (λ (none : new_holder written.keys written.graph.roots (root_at written.graph object) given ≡ None).
    absurd (given_found written.keys written.graph.roots i given rooted less at (sym (ap (λ (r : ClassId). new_holder written.keys written.graph.roots r given) (ap (λ (p : ℕ). get_or written.graph.roots p no_class_id) place)) ∙ none)))
    (λ (found : new_holder written.keys written.graph.roots (root_at written.graph object) given ≡ Some object). inl (sym same ∙ found))
    (under_kept written object given parts.0)

staying_held : (written : Written) (i : ℕ) (root : ClassId) (key : List Value) (it : Object) (identity : Option (List Value)) → it.identity ≡ identity → it.state ≡ Persistent
    → (is_persistent (state_under written (id_of_place i) identity) && ((get_or written.graph.roots i no_class_id).0 == root.0 && has_key key identity)) ≡ true → Held written root key (id_of_place i) it
staying_held written i root key it None is persistent has =
    let parts = and_parts true ((get_or written.graph.roots i no_class_id).0 == root.0 && false) has in
    let none : false ≡ true = (and_parts ((get_or written.graph.roots i no_class_id).0 == root.0) false parts.1).1 in
    absurd cc
staying_held written i root key it (Some own_key) is persistent has =
    let object : ObjId = id_of_place i in
    let own : ClassId = get_or written.graph.roots i no_class_id in
    let place : i + 1 - 1 ≡ i = omega arith in
    let parts = and_parts (is_persistent (state_under written object (Some own_key))) (own.0 == root.0 && same_values own_key key) has in
    let rest = and_parts (own.0 == root.0) (same_values own_key key) parts.1 in
    let roots : root_at written.graph object ≡ root = ap (λ (p : ℕ). get_or written.graph.roots p no_class_id) place ∙ class_same own root rest.0 in
    let same : new_holder written.keys written.graph.roots (root_at written.graph object) own_key ≡ new_holder written.keys written.graph.roots root key =
    ap (λ (r : ClassId). new_holder written.keys written.graph.roots r own_key) roots ∙ ap (new_holder written.keys written.graph.roots root) (same_key own_key key rest.1) in
    let held : holds root key (it, root_at written.graph object) ≡ true =
    ap (λ (r : ClassId). holds root key (it, r)) (ap (λ (p : ℕ). get_or written.graph.roots p no_class_id) place)
    ∙ and_from (is_persistent it.state) (own.0 == root.0 && has_key key it.identity) (ap is_persistent persistent)
    (and_from (own.0 == root.0) (has_key key it.identity) rest.0 (ap (has_key key) is ∙ rest.1)) in
    ⊎_elim
    (λ (none : new_holder written.keys written.graph.roots (root_at written.graph object) own_key ≡ None). inr (sym same ∙ none, held))
    (λ (found : new_holder written.keys written.graph.roots (root_at written.graph object) own_key ≡ Some object). inl (sym same ∙ found))
    (under_kept written object own_key parts.0)

left_held : (written : Written) (i : ℕ) (root own : ClassId) (key : List Value) (it other : Object) → is_persistent other.state ≡ false → holds root key (other, own) ≡ true → Held written root key (id_of_place i) it
left_held written i root own key it other left has = absurd (let e : false ≡ true = sym left ∙ (and_parts (is_persistent other.state) (own.0 == root.0 && has_key key other.identity) has).0 in cc)

old_held : (written : Written) (i : ℕ) (root : ClassId) (key : List Value) (it : Object) (gone : Bool) → it.state ≡ Persistent
    → holds root key (if gone then deleted_object written (id_of_place i) it else staying_object written (id_of_place i) it, get_or written.graph.roots i no_class_id) ≡ true → Held written root key (id_of_place i) it
old_held written i root key it true persistent has = absurd cc
old_held written i root key it false persistent has = staying_held written i root key it it.identity refl persistent has

held_in : (written : Written) (i : ℕ) (root : ClassId) (key : List Value) (it : Object) (state : State) → length written.graph.roots ≡ length written.keys → i < length written.keys → it.state ≡ state
    → holds root key (object_in state written (id_of_place i) it, get_or written.graph.roots i no_class_id) ≡ true → Held written root key (id_of_place i) it
held_in written i root key it Transient rooted less is has = left_held written i root (get_or written.graph.roots i no_class_id) key it (other_object written (id_of_place i) it) (ap is_persistent is) has
held_in written i root key it Pending rooted less is has =
    let place : i + 1 - 1 ≡ i = omega arith in
    new_held written i root key it (key_of written (id_of_place i)) rooted less (ap (λ (p : ℕ). get_or written.keys p None) (sym place)) has
held_in written i root key it Persistent rooted less is has = old_held written i root key it (is_among written.prepared.deleted (id_of_place i)) is has
held_in written i root key it Deleted rooted less is has = left_held written i root (get_or written.graph.roots i no_class_id) key it (other_object written (id_of_place i) it) (ap is_persistent is) has
held_in written i root key it Detached rooted less is has = left_held written i root (get_or written.graph.roots i no_class_id) key it (other_object written (id_of_place i) it) (ap is_persistent is) has

one_holder : (written : Written) (root : ClassId) (key : List Value) (i j : ℕ) (a b : Object) → ((one : holds root key (a, root_at written.graph (id_of_place i)) ≡ true) → holds root key (b, root_at written.graph (id_of_place j)) ≡ true → i ≡ j)
    → Held written root key (id_of_place i) a → Held written root key (id_of_place j) b → i ≡ j
one_holder written root key i j a b old (inl one) (inl two) = let e : i + 1 ≡ j + 1 = ap number_of (sym one ∙ two) in omega (arith, e)
one_holder written root key i j a b old (inl one) (inr two) = absurd (let e : Some (id_of_place i) ≡ None = sym one ∙ two.0 in cc)
one_holder written root key i j a b old (inr one) (inl two) = absurd (let e : None ≡ Some (id_of_place j) = sym one.0 ∙ two in cc)
one_holder written root key i j a b old (inr one) (inr two) = old one.1 two.1

-- ---- all objects

objects_one : (written : Written) → IsGraph written.graph.objects written.graph.roots → length written.keys ≡ length written.graph.objects → IsOne (graph_written written).objects written.graph.roots
objects_one written graph long root key i j has other =
    let place : (k : ℕ) → k + 1 - 1 ≡ k = λ k. omega arith in
    let old : ℕ → Object = λ k. get_or written.graph.objects k no_object in
    let inside : (k : ℕ) → holds_at (graph_written written).objects written.graph.roots root key k ≡ true → k < length written.graph.objects =
    λ k held. omega (arith, held_inside (graph_written written).objects written.graph.roots root key k held, flushed_long written) in
    let held : (k : ℕ) → holds_at (graph_written written).objects written.graph.roots root key k ≡ true → Held written root key (id_of_place k) (old k) =
    λ k is. held_in written k root key (old k) (old k).state (graph.rooted ∙ sym long) (omega (arith, inside k is, long)) refl
    (ap (λ (o : Object). holds root key (o, get_or written.graph.roots k no_class_id)) (sym (flushed_at written k (inside k is))) ∙ is) in
    let before : (k : ℕ) → holds root key (old k, root_at written.graph (id_of_place k)) ≡ true → holds_at written.graph.objects written.graph.roots root key k ≡ true =
    λ k is. ap (λ (p : ℕ). holds root key (old k, get_or written.graph.roots p no_class_id)) (sym (place k)) ∙ is in
    one_holder written root key i j (old i) (old j) (λ a b. graph.one root key i j (before i a) (before j b)) (held i has) (held j other)

pub can_follow : (written : Written) (objects : List Object) → objects ≡ (graph_written written).objects → IsGraph written.graph.objects written.graph.roots → length written.keys ≡ length written.graph.objects → All IsNarrow objects → CanFollow written.graph objects
can_follow written objects is graph long narrow = record {
  long = ap (λ (os : List Object). length os) is ∙ flushed_long written;
  each = λ place less.
      let it : Object = get_or written.graph.objects place no_object in
      let new : get_or objects place no_object ≡ object_flushed written (id_of_place place) it = ap (λ (os : List Object). get_or os place no_object) is ∙ flushed_at written place less in
      let within : place < length objects = omega (arith, less, flushed_long written, ap (λ (os : List Object). length os) is) in
      subst (CanReplace it) (sym new)
      (replaces_in written (id_of_place place) it it.state refl (graph.identified place no_object less) (subst IsNarrow new (narrow place no_object within)));
  one = subst (λ (os : List Object). IsOne os written.graph.roots) (sym is) (objects_one written graph long);
}

pub ruleset follows = (can_follow)
