-- A session that has taken in a load is sound, orderly and keyed where it was so before, and goes on.
use Rattle.std.proofs.Common.{◌≡◌, ◌⊎◌, inl, inr, ℕ, ◌-◌, ◌<◌, ◌≤◌, true, false, List, [], ◌∷◌, length, get_or, refl, sym, ap, ◌∙◌, subst, ⊎_elim, arith}
use Rattle.std.specs.List.{All}
use Rattle.std.proofs.lemmas.Bool.{cases_lt}
use Rattle.std.proofs.lemmas.List.{get_or_append_left, get_or_past}
use Rattle.base_core.specs.declared.ids.ClassId.{ClassId}
use Rattle.base_core.specs.declared.value.Value.{Value}
use Rattle.class_mapping.specs.Mapped.{Mapped}
use Rattle.schema_core.specs.Tables.{Tables}
use Rattle.object_arena.specs.Every.{classes_of}
use Rattle.object_arena.specs.Fit.{IsFit}
use Rattle.object_arena.specs.Graph.{Graph, no_class_id}
use Rattle.object_arena.specs.Identity.{holds}
use Rattle.keeper_core.specs.Store.{Store}
use Rattle.load_filling.specs.Growing.{Grows}
use Rattle.load_rows.specs.Loading.{Loading}
use Rattle.savepoints.specs.declared.scope.Scope.{Scope}
use Rattle.savepoints.specs.declared.scope.Standing.{Standing}
use Rattle.savepoints.specs.Scopes.{Framed, HasKeys, is_touched, made_since, standing_at}
use Rattle.session_parts.specs.Depths.{has_scope}
use Rattle.session_scopes.specs.Loads.{frames_filled, with_loaded}
use Rattle.session_scopes.specs.SessionState.{GoesOn, SessionState, depth_in}
use Rattle.session_scopes.proofs.GrownLemmas.{grown_long, keys_grown, there_grown}
use Rattle.session_laws.specs.Scopes.{object_in}
use Rattle.session_laws.specs.Sound.{AreApart, AreSoundScopes, IsAsAtStart, IsFresh, IsMarkedRight, IsSound, RestIf, as_object}
use Rattle.session_laws.specs.Health.Health.{AreNamedSince, HoldsItsKey, IsOrderlySession, is_named_in}
use Rattle.session_laws.specs.Whole.{IsKeyed}
use Rattle.session_laws.specs.Loads.{IsLoadedBy, IsNotedAt}
use Rattle.preparing_laws.specs.Reread.{IsRereadCell}
use Rattle.session_laws.proofs.Sound.Changes.{rest_inside}
use Rattle.session_laws.proofs.Sound.Touches.{not_true, other_answer}
use Rattle.session_laws.proofs.Health.Named.{named_inside, named_more}
use Rattle.session_laws.proofs.Loads.Objects.{each_loaded, made_fresh, made_keyed, made_marked, read_fresh, read_keyed, read_marked, read_named}
use Rattle.session_laws.proofs.Loads.Touched.{filled_scopes, filled_stays, noted_touched}

-- ---- graphs that grow

-- the roots of the objects that there were
root_stays : (old new : Graph) (place : ℕ) → Grows old new → place < length old.roots → get_or new.roots place no_class_id ≡ get_or old.roots place no_class_id
unfolding classes_of
root_stays old new place grows less = ap (λ (roots : List ClassId). get_or roots place no_class_id) grows.rooted ∙ get_or_append_left old.roots grows.roots no_class_id place less

-- ---- the scopes

-- an object that was made since a scope's start held no key then
held_inside : (scope : Scope) (root own : ClassId) (key : List Value) (place : ℕ) → holds root key (as_object (standing_at scope place), own) ≡ true → place < length scope.standings
held_inside scope root own key place held =
    ⊎_elim
    (λ (inside : place < length scope.standings). inside)
    (λ (past : length scope.standings ≤ place).
    absurd (let h : false ≡ true = sym (ap (λ (s : Standing). holds root key (as_object s, own)) (get_or_past scope.standings place made_since past)) ∙ held in cc))
    (cases_lt place (length scope.standings))

-- no two objects held one key then, for the roots of those that there were stay
apart_grown : (old new : Graph) (scope : Scope) → Grows old new → length old.roots ≡ length old.objects → length scope.standings ≤ length old.objects → AreApart old.roots scope → AreApart new.roots scope
apart_grown old new scope grows rooted few apart root key i j one other =
    apart root key i j (before i one) (before j other)
  where
    before : (place : ℕ) → holds root key (as_object (standing_at scope place), get_or new.roots place no_class_id) ≡ true → holds root key (as_object (standing_at scope place), get_or old.roots place no_class_id) ≡ true
    before place held =
        let inside : place < length scope.standings = held_inside scope root (get_or new.roots place no_class_id) key place held in
        subst (λ (own : ClassId). holds root key (as_object (standing_at scope place), own) ≡ true) (root_stays old new place grows (omega (arith, inside, few, rooted))) held

-- an object that is untouched now was so before, and is as it was
untouched_loaded : (mapped : Mapped) (held tables : Tables) (old : Graph) (own : Loading) (frames : Framed) (depth place : ℕ) (start : Standing) → 1 ≤ depth → depth ≤ length frames.scopes
    → (place < length old.objects → is_touched frames depth place ≡ false → IsAsAtStart mapped tables start (object_in old place)) → IsLoadedBy IsRereadCell mapped held old own
    → place < length own.graph.objects → is_touched (frames_filled own.graph own.notes frames) depth place ≡ false → IsAsAtStart mapped tables start (object_in own.graph place)
untouched_loaded mapped held tables old own frames depth place start low high was loaded less is = by (loaded.noted place less)
  where
    by : IsNotedAt own.notes place ⊎ ((place < length old.objects) × (object_in own.graph place ≡ object_in old place)) → IsAsAtStart mapped tables start (object_in own.graph place)
    by (inl noted) = absurd (other_answer (is_touched (frames_filled own.graph own.notes frames) depth place) is (noted_touched own.graph own.notes frames depth place low high noted))
    by (inr same) =
        let untouched : is_touched frames depth place ≡ false =
        not_true (is_touched frames depth place) (λ before. other_answer (is_touched (frames_filled own.graph own.notes frames) depth place) is (filled_stays own.graph own.notes frames depth place low high before)) in
        subst (IsAsAtStart mapped tables start) (sym same.1) (was same.0 untouched)

module _ (mapped : Mapped) (held : Tables) (old : Graph) (own : Loading) (frames : Framed) (loaded : IsLoadedBy IsRereadCell mapped held old own) (rooted : length old.roots ≡ length old.objects) where
  scopes_loaded : (scopes : List Scope) (starts : List Tables) → length scopes ≤ length frames.scopes → AreSoundScopes mapped old frames scopes starts → AreSoundScopes mapped own.graph (frames_filled own.graph own.notes frames) scopes starts
  scopes_loaded [] [] few sound = tt
  scopes_loaded [] (tables ∷ starts) few sound = absurd sound
  scopes_loaded (scope ∷ scopes) [] few sound = absurd sound
  scopes_loaded (scope ∷ scopes) (tables ∷ starts) few sound = (
    record {
      legal = sound.0.legal;
      few = omega (arith, grown_long old own.graph loaded.grows, sound.0.few);
      settled = sound.0.settled;
      identified = sound.0.identified;
      apart = apart_grown old own.graph scope loaded.grows rooted sound.0.few sound.0.apart;
      untouched = λ place less is. untouched_loaded mapped held tables old own frames (length (scope ∷ scopes)) place (standing_at scope place) (omega arith) few (sound.0.untouched place) loaded less is;
    },
    scopes_loaded scopes starts (omega (arith, few)) sound.1,
  )

-- ---- sound sessions

pub loaded_sound : (own : SessionState) (store : Store) (after : Loading) → has_scope own.frames.scopes ≡ true → IsLoadedBy IsRereadCell own.mapping store.tables own.graph after → IsSound (record { own = own; store = store }) → IsSound (record { own = with_loaded after own; store = store })
loaded_sound own store after opened loaded sound =
    let frames : Framed = frames_filled after.graph after.notes own.frames in
    let same : frames.scopes ≡ own.frames.scopes = filled_scopes after.graph after.notes own.frames in
    record {
      graph = loaded.graph;
      legal = sound.legal;
      fresh = each_loaded own.mapping store.tables (IsFresh own.mapping store.tables) own.graph after (λ was now read. read_fresh own.mapping store.tables was now read) (λ now made. made_fresh own.mapping store.tables now made) loaded sound.fresh;
      marked = each_loaded own.mapping store.tables IsMarkedRight own.graph after (λ was now read identified. read_marked own.mapping store.tables was now read) (λ now made identified. made_marked own.mapping store.tables now made) loaded sound.marked;
      scopes = subst (λ (s : List Scope). AreSoundScopes own.mapping after.graph frames s store.scopes) (sym same)
          (scopes_loaded own.mapping store.tables own.graph after own.frames loaded sound.graph.rooted own.frames.scopes store.scopes (omega arith) sound.scopes);
      rest = subst (λ (s : List Scope). RestIf s after.graph) (sym same) (rest_inside own.frames.scopes after.graph opened);
    }

-- ---- orderly sessions

-- who had an identity has it
named_loaded : (mapped : Mapped) (tables : Tables) (old : Graph) (own : Loading) → IsLoadedBy IsRereadCell mapped tables old own → (place : ℕ) → is_named_in old place ≡ true → is_named_in own.graph place ≡ true
named_loaded mapped tables old own loaded place is = read_named mapped tables (object_in old place) (object_in own.graph place) (loaded.read place (named_inside old place is)) is

pub loaded_orderly : (tables : Tables) (after : Loading) (own : SessionState) → IsLoadedBy IsRereadCell own.mapping tables own.graph after → IsOrderlySession own → IsOrderlySession (with_loaded after own)
loaded_orderly tables after own loaded orderly =
    let frames : Framed = frames_filled after.graph after.notes own.frames in
    record {
      well = orderly.well;
      objects = each_loaded own.mapping tables (HoldsItsKey own.mapping) own.graph after (λ was now read identified. read_keyed own.mapping tables was now read) (λ now made identified. made_keyed own.mapping tables now made) loaded orderly.objects;
      named = subst (λ (s : List Scope). AreNamedSince (is_named_in after.graph) s) (sym (filled_scopes after.graph after.notes own.frames))
          (named_more (is_named_in own.graph) (is_named_in after.graph) own.frames.scopes (named_loaded own.mapping tables own.graph after loaded) orderly.named);
    }

-- ---- sessions whose objects fit

pub loaded_keyed : (after : Loading) (own : SessionState) → IsFit own.mapping after.graph → Grows own.graph after.graph → IsKeyed own → IsKeyed (with_loaded after own)
loaded_keyed after own fit grows keyed = record {
  well = keyed.well;
  fit = fit;
  keys = subst (λ (s : List Scope). All (HasKeys own.mapping after.graph) s) (sym (filled_scopes after.graph after.notes own.frames))
      (λ k d less. keys_grown own.mapping own.graph after.graph (get_or own.frames.scopes k d) grows (keyed.keys k d less));
}

pub loaded_goes_on : (after : Loading) (own : SessionState) → Grows own.graph after.graph → GoesOn own (with_loaded after own)
loaded_goes_on after own grows = record { mapping = refl; there = there_grown own.graph after.graph grows; drawn = omega arith }

-- each savepoint in progress has its handle
pub loaded_handled : (after : Loading) (own : SessionState) → length own.drawn.handles ≡ depth_in own.failed own.frames.scopes - 1
    → length own.drawn.handles ≡ depth_in own.failed (with_loaded after own).frames.scopes - 1
loaded_handled after own handled = subst (λ (s : List Scope). length own.drawn.handles ≡ depth_in own.failed s - 1) (sym (filled_scopes after.graph after.notes own.frames)) handled
