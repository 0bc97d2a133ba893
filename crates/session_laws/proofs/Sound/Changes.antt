-- A session whose objects change inside the scopes in progress is sound still, where they hold what the store has.
use Rattle.std.proofs.Common.{◌≡◌, ◌≢◌, ℕ, ◌<◌, ◌≤◌, true, false, List, [], ◌∷◌, length, get_or, ⊎_elim, refl, sym, ap, ◌∙◌, subst, arith}
use Rattle.std.proofs.lemmas.Bool.{cases_eq}
use Rattle.std.proofs.lemmas.List.{get_or-set_other, get_or-set_same, length-set}
use Rattle.base_core.specs.declared.ids.ClassId.{ClassId}
use Rattle.base_core.specs.declared.ids.ObjId.{ObjId}
use Rattle.class_mapping.specs.Mapped.{Mapped}
use Rattle.object_arena.specs.declared.object.Object.{Object}
use Rattle.object_arena.specs.Graph.{Graph, IsObject, no_object, object_at, place_of, with_object}
use Rattle.object_arena.specs.Identity.{IsGraph}
use Rattle.keeper_core.specs.Store.{Store}
use Rattle.savepoints.specs.declared.scope.Scope.{Scope}
use Rattle.savepoints.specs.Scopes.{Framed, is_touched, standing_at}
use Rattle.schema_core.specs.Tables.{Legal, Tables}
use Rattle.session_parts.specs.Depths.{has_scope}
use Rattle.session_scopes.specs.SessionState.{SessionState, with_graph}
use Rattle.object_records.specs.Touched.{frames_touched_between}
use Rattle.session_laws.specs.Sound.{AreApart, AreSoundScopes, EachObject, IsAsAtStart, IsFresh, IsMarkedRight, IsSound, RestIf}
use Rattle.session_laws.proofs.Sound.Touches.{IsLeft, between_scopes, left_alone}

-- ---- the scopes

-- an object that is untouched now in a scope up to a depth was so before, and has the record that it had
unfoldable pub IsLater : ℕ → Graph → Graph → Framed → Framed → Type 0
IsLater most old new before after = (depth place : ℕ) → 1 ≤ depth → depth ≤ most → place < length new.objects → is_touched after depth place ≡ false → IsLeft old new before depth place

pub scopes_kept : (mapped : Mapped) (old new : Graph) (before after : Framed) (most : ℕ) → length new.objects ≡ length old.objects → new.roots ≡ old.roots → IsLater most old new before after → (scopes : List Scope) (starts : List Tables) → length scopes ≤ most
    → AreSoundScopes mapped old before scopes starts → AreSoundScopes mapped new after scopes starts
unfolding IsLater
scopes_kept mapped old new before after most long roots later [] [] few sound = tt
scopes_kept mapped old new before after most long roots later [] (tables ∷ starts) few sound = absurd sound
scopes_kept mapped old new before after most long roots later (scope ∷ scopes) [] few sound = absurd sound
scopes_kept mapped old new before after most long roots later (scope ∷ scopes) (tables ∷ starts) few sound = (
  record {
    legal = sound.0.legal;
    few = omega (arith, long, sound.0.few);
    settled = sound.0.settled;
    identified = sound.0.identified;
    apart = subst (λ (r : List ClassId). AreApart r scope) (sym roots) sound.0.apart;
    untouched = λ place less is.
        let left = later (length (scope ∷ scopes)) place (omega arith) few less is in
        subst (IsAsAtStart mapped tables (standing_at scope place)) left.same (sound.0.untouched place (omega (arith, long, less)) left.untouched);
  },
  scopes_kept mapped old new before after most long roots later scopes starts (omega (arith, few)) sound.1,
)

pub rest_inside : (scopes : List Scope) (graph : Graph) → has_scope scopes ≡ true → RestIf scopes graph
rest_inside [] graph is = absurd cc
rest_inside (scope ∷ scopes) graph is = tt

-- other objects, of which each holds what the store has then
pub changed_sound : (own : SessionState) (store : Store) (graph : Graph) → has_scope own.frames.scopes ≡ true → length graph.objects ≡ length own.graph.objects → graph.roots ≡ own.graph.roots → IsGraph graph.objects graph.roots
    → EachObject (IsFresh own.mapping store.tables) graph → EachObject IsMarkedRight graph → Legal own.mapping.schema store.tables → AreSoundScopes own.mapping own.graph own.frames own.frames.scopes store.scopes
    → IsSound (record { own = with_graph graph own; store = store })
unfolding IsLater
changed_sound own store graph opened long roots is fresh marked legal starts =
    let after : Framed = frames_touched_between own.graph graph own.frames in
    let scopes : after.scopes ≡ own.frames.scopes = between_scopes own.graph graph own.frames in
    record {
      graph = is;
      legal = legal;
      fresh = fresh;
      marked = marked;
      scopes = subst (λ (s : List Scope). AreSoundScopes own.mapping graph after s store.scopes) (sym scopes)
          (scopes_kept own.mapping own.graph graph own.frames after (length own.frames.scopes) long roots
          (λ depth place low high less untouched. left_alone own.graph graph own.frames depth place low high (omega (arith, long, less)) untouched)
          own.frames.scopes store.scopes (omega arith) starts);
      rest = subst (λ (s : List Scope). RestIf s graph) (sym scopes) (rest_inside own.frames.scopes graph opened);
    }

-- ---- one object

-- what holds of each object, and of the record that is put in
each_put : (P : Object → Type 0) (graph : Graph) (object : ObjId) (new : Object) → IsObject graph object → EachObject P graph → P new → EachObject P (with_object graph object new)
each_put P graph object new made all one place less =
    let within : place_of object < length graph.objects = omega (arith, made.0, made.1) in
    ⊎_elim
    (λ (same : place ≡ place_of object). subst P (sym (ap (λ (p : ℕ). get_or (with_object graph object new).objects p no_object) same ∙ get_or-set_same graph.objects (place_of object) new no_object within)) one)
    (λ (other : place ≢ place_of object). subst P (sym (get_or-set_other graph.objects (place_of object) place new no_object other)) (all place (omega (arith, less, length-set graph.objects (place_of object) new))))
    (cases_eq place (place_of object))

-- one object gets a record that holds what the store has
pub one_changed : (own : SessionState) (store : Store) (object : ObjId) (new : Object) → has_scope own.frames.scopes ≡ true → IsObject own.graph object → IsGraph (with_object own.graph object new).objects own.graph.roots
    → IsFresh own.mapping store.tables new → IsMarkedRight new → IsSound (record { own = own; store = store }) → IsSound (record { own = with_graph (with_object own.graph object new) own; store = store })
one_changed own store object new opened made is fresh marked sound =
    changed_sound own store (with_object own.graph object new) opened (length-set own.graph.objects (place_of object) new) refl is
    (each_put (IsFresh own.mapping store.tables) own.graph object new made sound.fresh fresh)
    (each_put IsMarkedRight own.graph object new made sound.marked marked) sound.legal sound.scopes

pub object_of : (P : Object → Type 0) (graph : Graph) (object : ObjId) → IsObject graph object → EachObject P graph → P (object_at graph object)
object_of P graph object made all = all (place_of object) (omega (arith, made.0, made.1))
