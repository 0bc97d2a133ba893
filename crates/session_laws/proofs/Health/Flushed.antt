-- Success of a flush leaves objects with the keys that they hold.
use Rattle.std.proofs.Common.{◌≡◌, ℕ, ◌+◌, ◌<◌, zero, suc, Bool, true, false, List, [], ◌∷◌, length, map, get_or, Option, None, Some, refl, sym, ap, ◌∙◌, subst, arith}
use Rattle.std.specs.Prelude.{if◌then◌else◌, is_some}
use Rattle.std.specs.List.{enumerate_from}
use Rattle.std.proofs.lemmas.Bool.{and_from, and_parts}
use Rattle.base_core.specs.declared.ids.AttrNo.{AttrNo}
use Rattle.base_core.specs.declared.ids.ObjId.{ObjId}
use Rattle.base_core.specs.declared.value.Value.{Value}
use Rattle.class_mapping.specs.Mapped.{attribute_of, is_key_attribute}
use Rattle.object_arena.specs.declared.object.Cell.{Cell}
use Rattle.object_arena.specs.declared.object.Object.{Object}
use Rattle.object_arena.specs.declared.object.State.{State}
use Rattle.object_arena.specs.declared.object.State.TheVariants.{Transient, Pending, Persistent, Deleted, Detached}
use Rattle.object_arena.specs.Graph.{expired_cell, has_identity, is_among, no_object, root_at}
use Rattle.object_arena.specs.Identity.{id_of_place, is_other}
use Rattle.graph_flushed.specs.Flushed.{Written, deleted_object, graph_written, held_or, kept_cell, key_of, new_cell, new_object, object_flushed, object_in, staying_cell, staying_object, state_under, state_unless, value_come}
use Rattle.graph_flushed.specs.Keys.{new_holder}
use Rattle.graph_flushed.proofs.ObjectSteps.{flushed_at, flushed_long}
use Rattle.session_laws.specs.Sound.{EachObject}
use Rattle.session_laws.specs.Health.Health.{HoldsItsKey, is_named, is_named_in}
use Rattle.session_laws.proofs.Health.Named.{named_each}
use Rattle.session_laws.proofs.Health.Objects.{IsEven, never_true}

-- ---- a cell

kept_even : (value : Option Value) (cell : Cell) → IsEven cell → IsEven (held_or value cell)
kept_even None cell even = even
kept_even (Some value) cell even = refl

-- ---- cells, each changed as its place says

each_even : (change : ℕ × Cell → Cell) (cells : List Cell) (n i : ℕ) → ((cell : Cell) → IsEven cell → IsEven (change (n + i, cell))) → IsEven (get_or cells i expired_cell) → IsEven (get_or (map change (enumerate_from n cells)) i expired_cell)
each_even change [] n i stays even = refl
each_even change (cell ∷ cells) n zero stays even = ap (λ (k : ℕ). (change (k, cell)).value) (omega arith) ∙ stays cell even ∙ ap (λ (k : ℕ). (change (k, cell)).base) (omega arith)
each_even change (cell ∷ cells) n (suc i) stays even =
    each_even change cells (n + 1) i (subst (λ (k : ℕ). (c : Cell) → IsEven c → IsEven (change (k, c))) (let e : n + suc i ≡ n + 1 + i = omega arith in e) stays) even

all_even : (change : ℕ × Cell → Cell) (cells : List Cell) (n i : ℕ) → ((k : ℕ) (cell : Cell) → IsEven (change (k, cell))) → IsEven (get_or (map change (enumerate_from n cells)) i expired_cell)
all_even change [] n i held = refl
all_even change (cell ∷ cells) n zero held = held n cell
all_even change (cell ∷ cells) n (suc i) held = all_even change cells (n + 1) i held

gone_even : (cells : List Cell) (i : ℕ) → IsEven (get_or cells i expired_cell) → IsEven (get_or (map kept_cell cells) i expired_cell)
gone_even [] i even = refl
gone_even (cell ∷ cells) zero even = kept_even cell.value cell even
gone_even (cell ∷ cells) (suc i) even = gone_even cells i even

-- ---- an object

under_named : (written : Written) (object : ObjId) (identity : Option (List Value)) → has_identity (state_under written object identity) ≡ true
under_named written object None = refl
under_named written object (Some key) = by (is_other object (new_holder written.keys written.graph.roots (root_at written.graph object) key))
  where
    by : (b : Bool) → has_identity (state_unless b) ≡ true
    by true = refl
    by false = refl

module _ (written : Written) (object : ObjId) (it : Object) (keyed : HoldsItsKey written.mapping it) where
  new_keyed : (key : Option (List Value)) → HoldsItsKey written.mapping (new_object written object key it)
  new_keyed None = λ named. absurd cc
  new_keyed (Some key) = λ named attr own. all_even (new_cell written object it.class key) it.cells 0 attr.0 (λ k cell. refl)

  stays_even : (attr : AttrNo) → is_key_attribute written.mapping it.class attr ≡ true → (cell : Cell) → IsEven cell → IsEven (staying_cell written object it.class (0 + attr.0, cell))
  stays_even attr key cell even =
      let at : is_key_attribute written.mapping it.class (record { 0 = 0 + attr.0 }) ≡ true = ap (λ (n : ℕ). is_key_attribute written.mapping it.class (record { 0 = n })) (let e : 0 + attr.0 ≡ attr.0 = omega arith in e) ∙ key in
      subst (λ (b : Bool). IsEven (if b then kept_cell cell else held_or (value_come written object (attribute_of written.mapping it.class (record { 0 = 0 + attr.0 }))) (kept_cell cell))) (sym at) (kept_even cell.value cell even)

  persists_named : it.state ≡ Persistent → is_some it.identity ≡ true → is_named it.state it.identity ≡ true
  persists_named at some = ap (λ (s : State). is_named s it.identity) at ∙ some

  old_keyed : (gone : Bool) → it.state ≡ Persistent → HoldsItsKey written.mapping (if gone then deleted_object written object it else staying_object written object it)
  old_keyed true at = λ named attr key. gone_even it.cells attr.0 (keyed (persists_named at named) attr key)
  old_keyed false at = λ named attr key.
      each_even (staying_cell written object it.class) it.cells 0 attr.0 (stays_even attr key)
      (keyed (persists_named at (and_parts (has_identity (state_under written object it.identity)) (is_some it.identity) named).1) attr key)

  in_keyed : (state : State) → it.state ≡ state → HoldsItsKey written.mapping (object_in state written object it)
  in_keyed Transient at = keyed
  in_keyed Pending at = new_keyed (key_of written object)
  in_keyed Persistent at = old_keyed (is_among written.prepared.deleted object) at
  in_keyed Deleted at = keyed
  in_keyed Detached at = keyed

-- who had an identity has one then
module _ (written : Written) (object : ObjId) (it : Object) where
  old_named : (gone : Bool) → is_some it.identity ≡ true
      → (let now : Object = (if gone then deleted_object written object it else staying_object written object it) in is_named now.state now.identity ≡ true)
  old_named true some = some
  old_named false some = and_from (has_identity (state_under written object it.identity)) (is_some it.identity) (under_named written object it.identity) some

  in_named : (state : State) → it.state ≡ state → is_named it.state it.identity ≡ true → is_named (object_in state written object it).state (object_in state written object it).identity ≡ true
  in_named Transient at named = named
  in_named Pending at named = never_true (is_named it.state it.identity) (ap (λ (s : State). is_named s it.identity) at) named
  in_named Persistent at named = old_named (is_among written.prepared.deleted object) (and_parts (has_identity it.state) (is_some it.identity) named).1
  in_named Deleted at named = named
  in_named Detached at named = named

-- ---- the objects of a session

pub flushed_keyed : (written : Written) → EachObject (HoldsItsKey written.mapping) written.graph → EachObject (HoldsItsKey written.mapping) (graph_written written)
flushed_keyed written all place less =
    let inside : place < length written.graph.objects = omega (arith, less, flushed_long written) in
    let it : Object = get_or written.graph.objects place no_object in
    subst (HoldsItsKey written.mapping) (sym (flushed_at written place inside)) (in_keyed written (id_of_place place) it (all place inside) it.state refl)

pub flushed_named : (written : Written) (place : ℕ) → is_named_in written.graph place ≡ true → is_named_in (graph_written written) place ≡ true
flushed_named written =
    named_each written.graph (graph_written written) (λ place it. object_flushed written (id_of_place place) it) (λ place less. flushed_at written place less)
    (λ place it at named. in_named written (id_of_place place) it it.state refl named)
