-- Objects in the order of their keys.
use Rattle.std.proofs.Common.{◌≡◌, ◌==◌, true, ◌&&◌, List, [], ◌∷◌, fold, map, Option, None, Some, refl, sym, ap, subst, ◌∙◌}
use Rattle.std.specs.Prelude.{unwrap_or}
use Rattle.std.specs.BTreeMap.{insert_entry}
use Rattle.std.specs.List.{All, AllByRecursion}
use Rattle.std.specs.Map.{values_of}
use Rattle.std.specs.declared.cmp.Ordering.{Ordering}
use Rattle.std.specs.declared.cmp.Ordering.TheVariants.{Less, Equal, Greater}
use Rattle.std.specs.Ordering.{match_ordering}
use Rattle.std.proofs.lemmas.Bool.{and_parts}
use Rattle.std.proofs.lemmas.List.Elements.{All-from_recursion}
use Rattle.base_core.specs.declared.ids.ClassId.{ClassId}
use Rattle.base_core.specs.declared.ids.ObjId.{ObjId}
use Rattle.base_core.specs.declared.value.Value.{Value}
use Rattle.base_core.specs.Order.{values_cmp}
use Rattle.base_core.proofs.Exact.{exact_values}
use Rattle.schema_core.specs.Tables.{same_values}
use Rattle.class_mapping.specs.Mapped.{Mapped, root_of}
use Rattle.object_arena.specs.Graph.{Graph, is_persistent, object_at, root_at}
use Rattle.object_arena.specs.Identity.{has_key}
use Rattle.load_filling.specs.Rows.{row_key}
use Rattle.load_rows.specs.Reading.{identity_key}
use Rattle.load_rows.specs.Links.{in_key_order, with_key as with_object}
use Rattle.loading_laws.proofs.Members.Ranks.{same_equal}
use Rattle.loading_laws.specs.Strategies.Filled.{keys_in_order, with_key}
use Rattle.loading_laws.specs.Strategies.Standing.{Stands}
use Rattle.loading_laws.proofs.Strategies.Goes.{StandFor}

abbrev Entries : Type 0
Entries = List (List Value × ObjId)

abbrev Keys : Type 0
Keys = List (List Value × Unit {0})

-- ---- entries and keys alone

keys_by : (key : List Value) (object : ObjId) (e : List Value × ObjId) (es : Entries) (k : List Value × Unit {0}) (ks : Keys) (o : Ordering) → e.0 ≡ k.0 → map (λ (x : List Value × ObjId). x.0) es ≡ map (λ (x : List Value × Unit {0}). x.0) ks
    → map (λ (x : List Value × ObjId). x.0) (insert_entry values_cmp es key object) ≡ map (λ (x : List Value × Unit {0}). x.0) (insert_entry values_cmp ks key tt)
    → map (λ (x : List Value × ObjId). x.0) (match_ordering o ((key, object) ∷ e ∷ es) ((e.0, object) ∷ es) (e ∷ insert_entry values_cmp es key object))
    ≡ map (λ (x : List Value × Unit {0}). x.0) (match_ordering o ((key, tt) ∷ k ∷ ks) ((k.0, tt) ∷ ks) (k ∷ insert_entry values_cmp ks key tt))
keys_by key object e es k ks Less same rest more = ap (λ (x : List Value). key ∷ x ∷ map (λ (x : List Value × ObjId). x.0) es) same ∙ ap (λ (xs : List (List Value)). key ∷ k.0 ∷ xs) rest
keys_by key object e es k ks Equal same rest more = ap (λ (x : List Value). x ∷ map (λ (x : List Value × ObjId). x.0) es) same ∙ ap (λ (xs : List (List Value)). k.0 ∷ xs) rest
keys_by key object e es k ks Greater same rest more = ap (λ (x : List Value). x ∷ map (λ (x : List Value × ObjId). x.0) (insert_entry values_cmp es key object)) same ∙ ap (λ (xs : List (List Value)). k.0 ∷ xs) more

first_same : (x y : List Value) (xs ys : List (List Value)) → (x ∷ xs) ≡ (y ∷ ys) → x ≡ y
first_same x y xs ys e = cc

rest_same : (x y : List Value) (xs ys : List (List Value)) → (x ∷ xs) ≡ (y ∷ ys) → xs ≡ ys
rest_same x y xs ys e = cc

keys_put : (key : List Value) (object : ObjId) (es : Entries) (ks : Keys) → map (λ (x : List Value × ObjId). x.0) es ≡ map (λ (x : List Value × Unit {0}). x.0) ks
    → map (λ (x : List Value × ObjId). x.0) (insert_entry values_cmp es key object) ≡ map (λ (x : List Value × Unit {0}). x.0) (insert_entry values_cmp ks key tt)
keys_put key object [] [] same = refl
keys_put key object [] (k ∷ ks) same = absurd cc
keys_put key object (e ∷ es) [] same = absurd cc
keys_put key object (e ∷ es) (k ∷ ks) same =
    let first : e.0 ≡ k.0 = first_same e.0 k.0 (map (λ (x : List Value × ObjId). x.0) es) (map (λ (x : List Value × Unit {0}). x.0) ks) same in
    let rest = rest_same e.0 k.0 (map (λ (x : List Value × ObjId). x.0) es) (map (λ (x : List Value × Unit {0}). x.0) ks) same in
    keys_by key object e es k ks (values_cmp key e.0) first rest (keys_put key object es ks rest)
    ∙ ap (λ (x : List Value). map (λ (x : List Value × Unit {0}). x.0) (match_ordering (values_cmp key x) ((key, tt) ∷ k ∷ ks) ((k.0, tt) ∷ ks) (k ∷ insert_entry values_cmp ks key tt))) first

-- the keys of the entries of objects are their keys in order
keys_folded : (graph : Graph) (objects : List ObjId) (es : Entries) (ks : Keys) → map (λ (x : List Value × ObjId). x.0) es ≡ map (λ (x : List Value × Unit {0}). x.0) ks
    → map (λ (x : List Value × ObjId). x.0) (fold (with_object graph) es objects) ≡ map (λ (x : List Value × Unit {0}). x.0) (fold with_key ks (map (identity_key graph) objects))
keys_folded graph [] es ks same = same
keys_folded graph (object ∷ objects) es ks same = keys_folded graph objects (with_object graph es object) (with_key ks (identity_key graph object)) (keys_put (identity_key graph object) object es ks same)

-- ---- each entry has its object's key

abbrev AreNamed : Graph → Entries → Type 0
AreNamed graph es = AllByRecursion (λ (e : List Value × ObjId). identity_key graph e.1 ≡ e.0) es

named_by : (graph : Graph) (object : ObjId) (e : List Value × ObjId) (es : Entries) (o : Ordering) → values_cmp (identity_key graph object) e.0 ≡ o → AreNamed graph (e ∷ es) → AreNamed graph (insert_entry values_cmp es (identity_key graph object) object)
    → AreNamed graph (match_ordering o ((identity_key graph object, object) ∷ e ∷ es) ((e.0, object) ∷ es) (e ∷ insert_entry values_cmp es (identity_key graph object) object))
named_by graph object e es Less is all more = (refl, all)
named_by graph object e es Equal is all more = (exact_values (identity_key graph object) e.0 is, all.1)
named_by graph object e es Greater is all more = (all.0, more)

named_put : (graph : Graph) (object : ObjId) (es : Entries) → AreNamed graph es → AreNamed graph (with_object graph es object)
named_put graph object [] all = (refl, tt)
named_put graph object (e ∷ es) all = named_by graph object e es (values_cmp (identity_key graph object) e.0) refl all (named_put graph object es all.1)

named_folded : (graph : Graph) (objects : List ObjId) (es : Entries) → AreNamed graph es → AreNamed graph (fold (with_object graph) es objects)
named_folded graph [] es all = all
named_folded graph (object ∷ objects) es all = named_folded graph objects (with_object graph es object) (named_put graph object es all)

named_values : (graph : Graph) (es : Entries) → AreNamed graph es → map (identity_key graph) (map (λ (x : List Value × ObjId). x.1) es) ≡ map (λ (x : List Value × ObjId). x.0) es
named_values graph [] all = refl
named_values graph (e ∷ es) all = ap (λ (x : List Value). x ∷ map (identity_key graph) (map (λ (x : List Value × ObjId). x.1) es)) all.0 ∙ ap (λ (xs : List (List Value)). e.0 ∷ xs) (named_values graph es all.1)

-- the keys of objects in key order are their keys in order, each once
pub ordered_keys : (graph : Graph) (objects : List ObjId) → map (identity_key graph) (in_key_order graph objects) ≡ keys_in_order (map (identity_key graph) objects)
unfolding in_key_order keys_in_order
ordered_keys graph objects = named_values graph (fold (with_object graph) [] objects) (named_folded graph objects [] tt) ∙ keys_folded graph objects [] [] refl

-- ---- what is said of each object is said in key order

abbrev EachValue : (ObjId → Type 0) → Entries → Type 0
EachValue P es = AllByRecursion (λ (e : List Value × ObjId). P e.1) es

each_by : (P : ObjId → Type 0) (key : List Value) (object : ObjId) (e : List Value × ObjId) (es : Entries) (o : Ordering) → P object → EachValue P (e ∷ es) → EachValue P (insert_entry values_cmp es key object)
    → EachValue P (match_ordering o ((key, object) ∷ e ∷ es) ((e.0, object) ∷ es) (e ∷ insert_entry values_cmp es key object))
each_by P key object e es Less one all more = (one, all)
each_by P key object e es Equal one all more = (one, all.1)
each_by P key object e es Greater one all more = (all.0, more)

each_put : (P : ObjId → Type 0) (key : List Value) (object : ObjId) (es : Entries) → P object → EachValue P es → EachValue P (insert_entry values_cmp es key object)
each_put P key object [] one all = (one, tt)
each_put P key object (e ∷ es) one all = each_by P key object e es (values_cmp key e.0) one all (each_put P key object es one all.1)

each_folded : (P : ObjId → Type 0) (graph : Graph) (objects : List ObjId) (es : Entries) → AllByRecursion P objects → EachValue P es → EachValue P (fold (with_object graph) es objects)
each_folded P graph [] es more all = all
each_folded P graph (object ∷ objects) es more all = each_folded P graph objects (with_object graph es object) more.1 (each_put P (identity_key graph object) object es more.0 all)

each_of_values : (P : ObjId → Type 0) (es : Entries) → EachValue P es → AllByRecursion P (map (λ (x : List Value × ObjId). x.1) es)
each_of_values P [] all = tt
each_of_values P (e ∷ es) all = (all.0, each_of_values P es all.1)

pub ordered_all : (P : ObjId → Type 0) (graph : Graph) (objects : List ObjId) → AllByRecursion P objects → All P (in_key_order graph objects)
unfolding in_key_order
ordered_all P graph objects all = All-from_recursion P (values_of (fold (with_object graph) [] objects)) (each_of_values P (fold (with_object graph) [] objects) (each_folded P graph objects [] all tt))

-- ---- keys of rows and of the objects that stand for them

key_by : (key : List Value) (identity : Option (List Value)) → has_key key identity ≡ true → same_values (unwrap_or identity []) key ≡ true
key_by key None h = absurd cc
key_by key (Some own) h = h

pub key_of_stand : (root : ClassId) (graph : Graph) (key : List Value) (object : ObjId) → Stands root graph key object → identity_key graph object ≡ key
key_of_stand root graph key object h =
    let o = object_at graph object in
    same_equal (identity_key graph object) key
    (key_by key o.identity (and_parts ((root_at graph object).0 == root.0) (has_key key o.identity) (and_parts (is_persistent o.state) ((root_at graph object).0 == root.0 && has_key key o.identity) h.1).1).1)

pub keys_of_stand : (mapped : Mapped) (class : ClassId) (graph : Graph) (rows : List (List Value)) (objects : List ObjId) → StandFor mapped class graph rows objects → map (identity_key graph) objects ≡ map (row_key mapped class) rows
keys_of_stand mapped class graph [] [] h = refl
keys_of_stand mapped class graph [] (object ∷ objects) h = absurd h
keys_of_stand mapped class graph (row ∷ rows) [] h = absurd h
keys_of_stand mapped class graph (row ∷ rows) (object ∷ objects) h =
    ap (λ (x : List Value). x ∷ map (identity_key graph) objects) (key_of_stand (root_of mapped class) graph (row_key mapped class row) object h.0)
    ∙ ap (λ (xs : List (List Value)). row_key mapped class row ∷ xs) (keys_of_stand mapped class graph rows objects h.1)

-- each object stands for its own key
pub stand_each : (mapped : Mapped) (class : ClassId) (graph : Graph) (rows : List (List Value)) (objects : List ObjId) → StandFor mapped class graph rows objects
    → AllByRecursion (λ object. Stands (root_of mapped class) graph (identity_key graph object) object) objects
stand_each mapped class graph [] [] h = tt
stand_each mapped class graph [] (object ∷ objects) h = absurd h
stand_each mapped class graph (row ∷ rows) [] h = absurd h
stand_each mapped class graph (row ∷ rows) (object ∷ objects) h =
    (subst (λ (key : List Value). Stands (root_of mapped class) graph key object) (sym (key_of_stand (root_of mapped class) graph (row_key mapped class row) object h.0)) h.0, stand_each mapped class graph rows objects h.1)
