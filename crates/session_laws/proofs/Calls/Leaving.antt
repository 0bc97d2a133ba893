-- A session whose objects leave it stays sound, orderly and fitting, and the objects are there still.
use Rattle.std.proofs.Common.{◌≡◌, ◌≤◌, ◌<◌, ℕ, Bool, true, false, List, [], ◌∷◌, length, refl, sym, ap, ◌∙◌, subst, ⊎_elim}
use Rattle.std.specs.Prelude.{if◌then◌else◌}
use Rattle.std.proofs.lemmas.Bool.{cases_lt}
use Rattle.std.proofs.lemmas.List.{length-set, set_past}
use Rattle.base_core.specs.declared.ids.ClassId.{ClassId}
use Rattle.base_core.specs.declared.ids.ObjId.{ObjId}
use Rattle.class_mapping.specs.Mapped.{Mapped}
use Rattle.cascades.specs.declared.closures.Flag.TheVariants.{Expunge}
use Rattle.cascades.specs.Closures.{closure_of}
use Rattle.keeper_core.specs.Beside.{changes}
use Rattle.keeper_core.specs.Programs.{◌>>=◌}
use Rattle.keeper_core.specs.Store.{Store}
use Rattle.object_arena.specs.declared.object.Object.{Object}
use Rattle.object_arena.specs.Graph.{Graph, no_object, object_at, place_of, with_object}
use Rattle.object_arena.specs.Identity.{IsGraph, is_identified}
use Rattle.object_arena.proofs.GraphLemmas.{graph_left}
use Rattle.object_arena.proofs.TurnLemmas.{with_same}
use Rattle.schema_core.specs.Tables.{Tables}
use Rattle.session_parts.specs.Depths.{has_scope}
use Rattle.session_parts.specs.Ends.{object_left}
use Rattle.session_scopes.specs.SessionState.{SameObjects, SessionState}
use Rattle.session_calls.specs.Parts.{checked}
use Rattle.session_calls.specs.Steps.{enter}
use Rattle.session_calls.proofs.Joining.{same_itself, same_more}
use Rattle.session_objects.specs.Leaving.{all_expunged, expunge_fault, expunged_at, expunged_object, session_expunged, with_expunged}
use Rattle.session_objects.specs.Steps.{expunge, expunge_inside}
use Rattle.session_objects.specs.Taking.{is_inside}
use Rattle.table_laws.specs.Legality.{Keeps}
use Rattle.session_laws.specs.Health.Health.{HoldsItsKey, IsOrderlySession, IsTidy, is_named}
use Rattle.session_laws.specs.Sound.{IsFresh, IsMarkedRight, IsSound, KeepsSoundOf}
use Rattle.session_laws.specs.Whole.{IsKeyed}
use Rattle.session_laws.proofs.Calls.Adding.{still_open}
use Rattle.session_laws.proofs.Health.Named.{each_with}
use Rattle.session_laws.proofs.Health.Objects.{left_keyed, left_named}
use Rattle.session_laws.proofs.Health.Programs.{enter_tidy, tidy_changes, tidy_checked, tidy_then}
use Rattle.session_laws.proofs.Health.Sessions.{put_orderly}
use Rattle.session_laws.proofs.Sound.Changes.{changed_sound}
use Rattle.session_laws.proofs.Sound.Ending.{left_holders, left_persists, not_both}
use Rattle.session_laws.proofs.Sound.Programs.{checked_then, entered_then}
use Rattle.session_laws.proofs.Whole.Keyed.{its_fit, object_keyed}
use Rattle.session_laws.proofs.Whole.Linked.{with_one}
use Rattle.session_laws.proofs.Whole.Refit.{FitsIn, left_fits}

-- ---- one object

-- what holds of it, and of one that has left, holds of it where it leaves if it is in the session
by_leaving : (P : Object → Type 0) (o : Object) → P o → P (object_left o) → P (expunged_object o)
by_leaving P o stays left = by (is_inside o.state)
  where
    by : (inside : Bool) → P (if inside then object_left o else o)
    by true = left
    by false = stays

expunged_class : (o : Object) → (expunged_object o).class ≡ o.class
expunged_class o = by_leaving (λ x. x.class ≡ o.class) o refl refl

expunged_fits : (mapped : Mapped) (roots : List ClassId) (o : Object) → FitsIn mapped roots o → FitsIn mapped roots (expunged_object o)
expunged_fits mapped roots o fits = by_leaving (FitsIn mapped roots) o fits (left_fits mapped roots o fits)

expunged_key : (mapped : Mapped) (o : Object) → HoldsItsKey mapped o → HoldsItsKey mapped (expunged_object o)
expunged_key mapped o keyed = by_leaving (HoldsItsKey mapped) o keyed (left_keyed mapped o keyed)

expunged_named : (o : Object) → is_named o.state o.identity ≡ true → is_named (expunged_object o).state (expunged_object o).identity ≡ true
expunged_named o named = by_leaving (λ x. is_named x.state x.identity ≡ true) o named (left_named o.state o.identity ∙ named)

expunged_fresh : (mapped : Mapped) (tables : Tables) (o : Object) → IsFresh mapped tables o → IsFresh mapped tables (expunged_object o)
expunged_fresh mapped tables o fresh = by_leaving (IsFresh mapped tables) o fresh (λ persists. not_both _ (left_persists o.state) persists)

expunged_marked : (o : Object) → IsMarkedRight o → IsMarkedRight (expunged_object o)
expunged_marked o right = by_leaving IsMarkedRight o right (λ marked. absurd cc)

-- ---- the graph

expunged_graph : (graph : Graph) (object : ObjId) → IsGraph graph.objects graph.roots → IsGraph (expunged_at graph object).objects (expunged_at graph object).roots
expunged_graph graph object is =
    let p : ℕ = place_of object in
    let o : Object = object_at graph object in
    ⊎_elim
    (λ (less : p < length graph.objects).
    by_leaving (λ x. IsGraph (with_object graph object x).objects graph.roots) o (subst (λ (g : Graph). IsGraph g.objects g.roots) (sym (with_same graph object)) is)
    (graph_left graph.objects graph.roots p (object_left o) less is (left_holders.identified o (is.identified p no_object less)) (left_persists o.state)))
    (λ (past : length graph.objects ≤ p). subst (λ objects. IsGraph objects graph.roots) (sym (set_past graph.objects p (expunged_object o) past)) is)
    (cases_lt p (length graph.objects))

-- ---- objects, one after another

-- what each of them that leaves keeps they all keep
pub all_keep : (P : SessionState → Type 0) → ((object : ObjId) (own : SessionState) → P own → P (with_expunged object own)) → (objects : List ObjId) (own : SessionState) → P own → P (all_expunged objects own)
all_keep P one [] own has = has
all_keep P one (object ∷ objects) own has = all_keep P one objects (with_expunged object own) (one object own has)

pub closure_keeps : (P : SessionState → Type 0) → ((object : ObjId) (own : SessionState) → P own → P (with_expunged object own)) → (object : ObjId) (own : SessionState) → P own → P (session_expunged object own)
unfolding session_expunged
closure_keeps P one object own has = all_keep P one (closure_of Expunge own.mapping own.graph object) own has

-- ---- objects that fit

one_keyed : (object : ObjId) (own : SessionState) → IsKeyed own → IsKeyed (with_expunged object own)
one_keyed object own keyed =
    let o : Object = object_at own.graph object in
    object_keyed object (expunged_object o) own (expunged_class o) (λ less. expunged_fits own.mapping own.graph.roots o (its_fit object own keyed less)) keyed

pub expunged_keyed : (object : ObjId) (own : SessionState) → IsKeyed own → IsKeyed (session_expunged object own)
expunged_keyed object own keyed = closure_keeps IsKeyed one_keyed object own keyed

-- they are there still
pub expunged_same : (object : ObjId) (own : SessionState) → SameObjects own (session_expunged object own)
expunged_same object own =
    closure_keeps (SameObjects own)
    (λ one now same. same_more same (with_one now one (expunged_object (object_at now.graph one)) (expunged_class (object_at now.graph one)))) object own (same_itself own)

-- ---- an orderly session

one_orderly : (object : ObjId) (own : SessionState) → IsOrderlySession own → IsOrderlySession (with_expunged object own)
one_orderly object own orderly =
    let o : Object = object_at own.graph object in
    put_orderly object (expunged_object o) own (λ less. expunged_key own.mapping o (orderly.objects (place_of object) less)) (expunged_named o) orderly

pub expunge_tidy : (object : ObjId) → Keeps IsTidy (expunge object)
unfolding expunge
expunge_tidy object =
    tidy_then enter (λ u. expunge_inside object) enter_tidy
    (λ u. tidy_then (checked (expunge_fault object)) (λ u. changes (session_expunged object)) (tidy_checked (expunge_fault object))
    (λ u. tidy_changes (session_expunged object) (λ own orderly. closure_keeps IsOrderlySession one_orderly object own orderly)))

-- ---- a sound session

-- in a transaction, over a store
record IsSoundInside (store : Store) (own : SessionState) : Type 0 where
  opened : has_scope own.frames.scopes ≡ true
  sound : IsSound (record { own = own; store = store })

one_sound : (store : Store) (object : ObjId) (own : SessionState) → IsSoundInside store own → IsSoundInside store (with_expunged object own)
one_sound store object own inside =
    let o : Object = object_at own.graph object in
    let new : Object = expunged_object o in
    let sound = inside.sound in
    record {
      opened = still_open (expunged_at own.graph object) own inside.opened;
      sound =
          changed_sound own store (expunged_at own.graph object) inside.opened (length-set own.graph.objects (place_of object) new) refl (expunged_graph own.graph object sound.graph)
          (each_with (IsFresh own.mapping store.tables) own.graph object new sound.fresh (λ less. expunged_fresh own.mapping store.tables o (sound.fresh (place_of object) less)))
          (each_with IsMarkedRight own.graph object new sound.marked (λ less. expunged_marked o (sound.marked (place_of object) less))) sound.legal sound.scopes;
    }

pub expunge_sound : KeepsSoundOf expunge
unfolding expunge changes
expunge_sound object w made sound =
    entered_then (λ u. expunge_inside object) w sound
    (λ u v graph opened entered.
    checked_then (expunge_fault object) (λ u. changes (session_expunged object)) v entered
    (λ u none. (closure_keeps (IsSoundInside v.store) (one_sound v.store) object v.own (record { opened = opened; sound = entered })).sound))
