-- A whole session stays whole where objects of it are expired.
use Rattle.std.proofs.Common.{◌≡◌, ◌-◌, Bool, true, false, List, [], ◌∷◌, length, Option, None, Some, refl, sym, ap, ◌∙◌, subst, arith}
use Rattle.std.specs.Prelude.{unwrap_or}
use Rattle.std.specs.List.{AllByRecursion}
use Rattle.std.proofs.lemmas.List.{length-set}
use Rattle.base_core.specs.declared.ids.ClassId.{ClassId}
use Rattle.base_core.specs.declared.ids.ObjId.{ObjId}
use Rattle.base_core.specs.declared.value.Value.{Value}
use Rattle.schema_core.specs.Tables.{Tables}
use Rattle.class_mapping.specs.Mapped.{Mapped}
use Rattle.object_arena.specs.declared.object.Cell.{Cell}
use Rattle.object_arena.specs.declared.object.Object.{Object}
use Rattle.object_arena.specs.declared.object.State.{State}
use Rattle.object_arena.specs.declared.object.State.TheVariants.{Persistent}
use Rattle.object_arena.specs.Graph.{Graph, IsObject, is_persistent, no_object, object_at, place_of, with_object}
use Rattle.object_parts.specs.Expired.{expired_if}
use Rattle.cascades.specs.declared.closures.Flag.TheVariants.{RefreshExpire}
use Rattle.cascades.specs.Closures.{closure_of}
use Rattle.keeper_core.specs.Store.{Store}
use Rattle.savepoints.specs.declared.scope.Scope.{Scope}
use Rattle.session_parts.specs.Depths.{has_scope}
use Rattle.load_steps.specs.Based.{AreReadOfTables}
use Rattle.load_steps.specs.Loads.{Load}
use Rattle.loading_laws.proofs.Loaders.Frames.{graph_put}
use Rattle.loading_laws.proofs.Strategies.Standing.{set_related}
use Rattle.session_scopes.specs.SessionState.{SessionState, depth_in}
use Rattle.session_scopes.proofs.SessionLemmas.{goes_more, goes_on}
use Rattle.session_calls.specs.Parts.{World}
use Rattle.session_loads.specs.Expiring.{all_expired, session_expired, with_expired}
use Rattle.session_loads.specs.Rows.{all_attrs, attrs_of}
use Rattle.session_laws.specs.Sound.{IsFresh, IsMarkedRight, IsSettled, IsWritten}
use Rattle.session_laws.specs.Whole.{IsHale}
use Rattle.session_laws.proofs.Health.Named.{each_with}
use Rattle.session_laws.proofs.Health.Sessions.{if_keyed, if_named, if_settled, put_orderly}
use Rattle.session_laws.proofs.Sound.Changes.{changed_sound}
use Rattle.session_laws.proofs.Sound.Everyone.{expired_cells}
use Rattle.session_laws.proofs.Sound.Touches.{between_scopes}
use Rattle.session_laws.proofs.Whole.Inside.{IsWithin}
use Rattle.session_laws.proofs.Whole.Keyed.{its_fit, object_keyed}
use Rattle.session_laws.proofs.Whole.Linked.{with_one}
use Rattle.session_laws.proofs.Whole.Refit.{FitsIn, expired_fits}
use Rattle.session_load_laws.specs.Loads.{MayLoad}

-- ---- one record

-- of which class an object is, in which state and under which key
abbrev pub Held : Type 0
Held = ClassId × State × Option (List Value)

abbrev pub held : Object → Held
held object = (object.class, object.state, object.identity)

if_held : (is_read : Bool) (o : Object) → held (expired_if is_read o) ≡ held o
if_held true o = refl
if_held false o = refl

if_fresh : (mapped : Mapped) (tables : Tables) (is_read : Bool) (o : Object) → IsFresh mapped tables o → IsFresh mapped tables (expired_if is_read o)
if_fresh mapped tables true o fresh = λ persists attr less base is. absurd (let h : None ≡ Some base = sym (ap (λ (c : Cell). c.base) (expired_cells o.cells attr.0)) ∙ is in cc)
if_fresh mapped tables false o fresh = fresh

if_marked : (is_read : Bool) (o : Object) → IsMarkedRight o → IsMarkedRight (expired_if is_read o)
if_marked true o right = right
if_marked false o right = right

if_fits : (mapped : Mapped) (roots : List ClassId) (is_read : Bool) (o : Object) → FitsIn mapped roots o → FitsIn mapped roots (expired_if is_read o)
if_fits mapped roots true o fits = expired_fits mapped roots o fits
if_fits mapped roots false o fits = fits

-- ---- one object of a session

pub one_within : (first : SessionState) (store : Store) (object : ObjId) (own : SessionState) → IsWithin first (record { own = own; store = store }) → IsWithin first (record { own = with_expired object own; store = store })
one_within first store object own it =
    let o : Object = object_at own.graph object in
    let is_read : Bool = is_persistent o.state in
    let new : Object = expired_if is_read o in
    let graph : Graph = with_object own.graph object new in
    let same : held new ≡ held o = if_held is_read o in
    let class : new.class ≡ o.class = ap (λ (h : Held). h.0) same in
    let hale : IsHale (record { own = own; store = store }) = it.hale in
    let sound = hale.healthy.sound in
    let orderly = hale.healthy.tidy.own in
    let scopes : (with_expired object own).frames.scopes ≡ own.frames.scopes = between_scopes own.graph graph own.frames in
    record {
      hale = record {
        healthy = record {
          sound =
              changed_sound own store graph it.opened (length-set own.graph.objects (place_of object) new) refl
              (graph_put own.graph object new sound.graph (ap (λ (h : Held). h.1) same) (ap (λ (h : Held). h.2) same))
              (each_with (IsFresh own.mapping store.tables) own.graph object new sound.fresh (λ less. if_fresh own.mapping store.tables is_read o (sound.fresh (place_of object) less)))
              (each_with IsMarkedRight own.graph object new sound.marked (λ less. if_marked is_read o (sound.marked (place_of object) less))) sound.legal sound.scopes;
          tidy = record {
            own = put_orderly object new own (λ less. if_keyed own.mapping is_read o (orderly.objects (place_of object) less)) (if_named is_read o) orderly;
            ascending = hale.healthy.tidy.ascending;
          };
        };
        keyed = object_keyed object new own class (λ less. if_fits own.mapping own.graph.roots is_read o (its_fit object own hale.keyed less)) hale.keyed;
        handled = subst (λ (s : List Scope). length own.drawn.handles ≡ depth_in own.failed s - 1) (sym scopes) hale.handled;
      };
      opened = subst (λ (s : List Scope). has_scope s ≡ true) (sym scopes) it.opened;
      awake = it.awake;
      goes = goes_more it.goes (goes_on (with_one own object new class));
    }

-- a whole session in its transaction of which nothing is to be written, that has gone on from a first one
pub record IsWrittenWithin (first : SessionState) (w : World) : Type 0 where
  pub within : IsWithin first w
  pub written : IsWritten w

one_written : (first : SessionState) (store : Store) (object : ObjId) (own : SessionState) → IsWrittenWithin first (record { own = own; store = store }) → IsWrittenWithin first (record { own = with_expired object own; store = store })
one_written first store object own it =
    let o : Object = object_at own.graph object in
    let is_read : Bool = is_persistent o.state in
    record { within = one_within first store object own it.within; written = each_with IsSettled own.graph object (expired_if is_read o) it.written (λ less. if_settled is_read o (it.written (place_of object) less)) }

-- ---- rows of an object

-- what is persistent so, and these are rows of all its cells that the tables have
pub record IsFillable (mapped : Mapped) (tables : Tables) (rows : List (List Value)) (of : Held) : Type 0 where
  pub persistent : of.1 ≡ Persistent
  pub read : AllByRecursion (AreReadOfTables mapped tables of.0 (all_attrs mapped of.0) (unwrap_or of.2 [])) rows

-- the object has been made, and may be filled by these rows
pub record MayFill (object : ObjId) (rows : List (List Value)) (mapped : Mapped) (tables : Tables) (graph : Graph) : Type 0 where
  pub made : IsObject graph object
  pub fills : IsFillable mapped tables rows (held (object_at graph object))

-- so it may take them
pub may_take : (object : ObjId) (rows : List (List Value)) (w : World) → MayFill object rows w.own.mapping w.store.tables w.own.graph → MayLoad (Load.Taken object (attrs_of w.own.mapping w.own.graph object) rows) w
may_take object rows w may = ((may.made, may.fills.persistent), may.fills.read)

-- and it goes on to be so where an object is expired
one_fills : (object other : ObjId) (rows : List (List Value)) (tables : Tables) (own : SessionState) → MayFill object rows own.mapping tables own.graph → MayFill object rows own.mapping tables (with_expired other own).graph
one_fills object other rows tables own may =
    let o : Object = object_at own.graph other in
    let new : Object = expired_if (is_persistent o.state) o in
    let graph : Graph = with_object own.graph other new in
    let same : held (object_at graph object) ≡ held (object_at own.graph object) =
    set_related (λ (x y : Object). held y ≡ held x) own.graph.objects (place_of other) (place_of object) new no_object (λ x. refl) (if_held (is_persistent o.state) o) in
    let last = may.made.1 in
    record { made = (may.made.0, omega (arith, last, length-set own.graph.objects (place_of other) new)); fills = subst (IsFillable own.mapping tables rows) (sym same) may.fills }

-- ---- an object, and those that hang on it

each_expired : (P : SessionState → Type 0) → ((object : ObjId) (own : SessionState) → P own → P (with_expired object own)) → (objects : List ObjId) (own : SessionState) → P own → P (all_expired objects own)
each_expired P step [] own is = is
each_expired P step (object ∷ objects) own is = each_expired P step objects (with_expired object own) (step object own is)

pub closure_expired : (P : SessionState → Type 0) → ((object : ObjId) (own : SessionState) → P own → P (with_expired object own)) → (object : ObjId) (own : SessionState) → P own → P (session_expired object own)
unfolding session_expired
closure_expired P step object own is = each_expired P step (closure_of RefreshExpire own.mapping own.graph object) own is

-- a written session in which an object may be filled
pub record IsToFill (first : SessionState) (object : ObjId) (rows : List (List Value)) (w : World) : Type 0 where
  pub written : IsWrittenWithin first w
  pub fills : MayFill object rows w.own.mapping w.store.tables w.own.graph

-- stays so where objects are expired
pub expired_still : (first : SessionState) (object : ObjId) (rows : List (List Value)) (store : Store) (other : ObjId) (own : SessionState) → IsToFill first object rows (record { own = own; store = store })
    → IsToFill first object rows (record { own = session_expired other own; store = store })
expired_still first object rows store other own is =
    closure_expired (λ (now : SessionState). IsToFill first object rows (record { own = now; store = store }))
    (λ one now it. record { written = one_written first store one now it.written; fills = one_fills object one rows store.tables now it.fills }) other own is
