-- A link that is not loaded is read by a session's call, where nothing is left to flush: the lazy load alone.
use Rattle.std.proofs.Common.{◌≡◌, ℕ, zero, suc, Bool, true, false, List, [], ◌∷◌, get_or, Option, refl, sym, ap, subst, ◌∙◌}
use Rattle.std.specs.Prelude.{slice_get}
use Rattle.base_core.specs.declared.ids.ObjId.{ObjId}
use Rattle.base_core.specs.declared.ids.RelNo.{RelNo}
use Rattle.base_core.specs.declared.refusal.Refusal.{Refusal}
use Rattle.class_mapping.specs.Mapped.{Mapped}
use Rattle.keeper_core.specs.Beside.{by_own}
use Rattle.keeper_core.specs.Programs.{Run, ◌>>=◌, give}
use Rattle.object_arena.specs.declared.object.Link.{Link}
use Rattle.object_arena.specs.declared.object.Link.TheVariants.{Unset, Unloaded, One, Many}
use Rattle.object_arena.specs.Graph.{Graph, object_at}
use Rattle.object_parts.specs.Links.{is_unloaded}
use Rattle.relations.specs.Mirror as mirror
use Rattle.load_rows.specs.Links.{link_at}
use Rattle.load_calls.specs.Reading as loads
use Rattle.load_targets.specs.Targets.{load_lazy}
use Rattle.loading_laws.specs.Strategies.Filled.{Goes}
use Rattle.loading_laws.proofs.Strategies.Goes.{given, parted}
use Rattle.session_scopes.specs.Loads.{on_load}
use Rattle.session_scopes.specs.SessionState.{SessionState}
use Rattle.session_calls.specs.Parts.{World, checked}
use Rattle.session_calls.specs.Steps.{enter}
use Rattle.session_links.specs.declared.reading.Related.{Related}
use Rattle.session_acts.specs.Flush.{flush}
use Rattle.session_loads.specs.Asking.{is_unloaded_in, link_fault}
use Rattle.session_loads.specs.Reads.{fetch_link, fill_attached, fill_link, if_asked, load_link, read_related, related_in, tell_related, write_and_fill}
use Rattle.session_laws.specs.Loads.{loading_of}
use Rattle.session_laws.proofs.Sound.Programs.{checked_same}
use Rattle.session_laws.proofs.Whole.Inside.{IsWithin, enter_still}
use Rattle.session_strategies.specs.Unwritten.{NothingIsLeft}
use Rattle.session_strategies.specs.Strategies.{IsSame}
use Rattle.session_strategies.proofs.Again.{flush_same}

-- whether a link waits, as a session asks of it
asked_as : (links : List Link) (n : ℕ) → mirror.is_unloaded (slice_get links n) ≡ is_unloaded (get_or links n Unset)
asked_as [] n = refl
asked_as (Unset ∷ links) zero = refl
asked_as (Unloaded added removed ∷ links) zero = refl
asked_as (One end changed ∷ links) zero = refl
asked_as (Many members base ∷ links) zero = refl
asked_as (link ∷ links) (suc n) = asked_as links n

-- what a check that passed leaves
passed : {B : Type 0} (fault : SessionState → Option Refusal) (next : Unit {0} → World → Run World B) (w : World) (b : B) (x : World) → Goes (checked fault >>= next) w b x → Goes (next tt) w b x
passed fault next w b x g =
    let two = parted (checked fault) next w b x g in
    subst (λ (v : World). Goes (next tt) v b x) (sym two.first.leaves ∙ checked_same fault w) two.second

-- the lazy load of the session's objects, which the session took in
pub record IsLazyLoad (object : ObjId) (place : RelNo) (v x : World) : Type 0 where
  pub now : loads.World
  pub loaded : Goes (load_lazy v.own.mapping object place) (loading_of v) tt now
  pub graph : x.own.graph ≡ now.own.graph
  pub store : x.store ≡ now.store
  pub mapping : x.own.mapping ≡ v.own.mapping

module _ (object : ObjId) (place : RelNo) where
  asked_goes : (m : World → Run World (Unit {0})) (w x : World) (asked : Bool) → asked ≡ true → Goes (if_asked asked m) w tt x → Goes m w tt x
  asked_goes m w x true is g = g
  asked_goes m w x false is g = absurd cc

  unasked_same : (m : World → Run World (Unit {0})) (w x : World) (asked : Bool) → asked ≡ false → Goes (if_asked asked m) w tt x → w ≡ x
  unasked_same m w x true is g = absurd cc
  unasked_same m w x false is g = (given tt tt w x (record { answer = g.answer; leaves = g.leaves })).1

  load_goes : (v x : World) → Goes (load_link object place) v tt x → IsLazyLoad object place v x
  unfolding by_own on_load
  load_goes v x g = record {
    now = (load_lazy v.own.mapping object place (loading_of v)).after;
    loaded = record { answer = g.answer; leaves = refl };
    graph = sym (ap (λ (u : World). u.own.graph) g.leaves);
    store = sym (ap (λ (u : World). u.store) g.leaves);
    mapping = sym (ap (λ (u : World). u.own.mapping) g.leaves);
  }

  -- the same in a session with the same objects
  from_same : (w v x : World) → IsSame w v → IsLazyLoad object place v x → IsLazyLoad object place w x
  from_same w v x same is =
      let start : loading_of v ≡ loading_of w = λ i. record { own = record { graph = same.graph i; notes = [] }; store = same.store i } in
      record {
        now = is.now;
        loaded = subst (λ (u : loads.World). Goes (load_lazy w.own.mapping object place) u tt is.now) start (subst (λ (m : Mapped). Goes (load_lazy m object place) (loading_of v) tt is.now) same.mapping is.loaded);
        graph = is.graph;
        store = is.store;
        mapping = is.mapping ∙ same.mapping;
      }

  unloaded_as : (w : World) → is_unloaded_in object place w.own ≡ is_unloaded (link_at w.own.graph object place)
  unloaded_as w = asked_as (object_at w.own.graph object).links place.0

  -- the transaction is in progress
  pub inside_goes : (first : SessionState) (w : World) (related : Related) (x : World) → IsWithin first w → Goes (read_related object place) w related x → Goes (tell_related object place) w related x
  unfolding read_related give
  inside_goes first w related x it g =
      let begun = parted enter (λ (u : Unit {0}). tell_related object place) w related x (record { answer = g.answer; leaves = g.leaves }) in
      let same : begun.between ≡ w = sym begun.first.leaves ∙ ap (λ (run : Run World (Unit {0})). run.after) (enter_still first w it) in
      subst (λ (v : World). Goes (tell_related object place) v related x) same begun.second

  -- what is told of the link changes nothing
  fetched : (w : World) (related : Related) (x : World) → Goes (tell_related object place) w related x → Goes (fetch_link object place) w tt x
  unfolding tell_related by_own give
  fetched w related x g =
      let after_check = passed (link_fault object place) (λ u. fetch_link object place >>= λ u. by_own (λ session. give (related_in object place session))) w related x (record { answer = g.answer; leaves = g.leaves }) in
      let told = parted (fetch_link object place) (λ (u : Unit {0}). by_own (λ (session : SessionState). give (related_in object place session))) w related x after_check in
      let end : told.between ≡ x = (given (related_in object place told.between.own) related told.between x (record { answer = told.second.answer; leaves = told.second.leaves })).1 in
      subst (λ (v : World). Goes (fetch_link object place) w tt v) end (record { answer = told.first.answer; leaves = told.first.leaves })

  -- a link that is loaded is not read
  pub loaded_stays : (w : World) (related : Related) (x : World) → is_unloaded (link_at w.own.graph object place) ≡ false → Goes (tell_related object place) w related x → w ≡ x
  unfolding fetch_link by_own
  loaded_stays w related x loaded g =
      let found = fetched w related x g in
      unasked_same (write_and_fill object place) w x (is_unloaded_in object place w.own) (unloaded_as w ∙ loaded) (record { answer = found.answer; leaves = found.leaves })

  pub read_goes : (w : World) (related : Related) (x : World) → NothingIsLeft w.own.graph → is_unloaded (link_at w.own.graph object place) ≡ true → Goes (tell_related object place) w related x → IsLazyLoad object place w x
  unfolding fetch_link fill_attached fill_link by_own
  read_goes w related x nothing waits g =
      let unloaded : is_unloaded_in object place w.own ≡ true = unloaded_as w ∙ waits in
      let found = fetched w related x g in
      let asked : Goes (write_and_fill object place) w tt x = asked_goes (write_and_fill object place) w x (is_unloaded_in object place w.own) unloaded (record { answer = found.answer; leaves = found.leaves }) in
      -- the flush, which leaves the objects as they are
      let flushed = parted flush (λ (u : Unit {0}). fill_attached object place) w tt x asked in
      let kept : IsSame w flushed.between = subst (IsSame w) flushed.first.leaves (flush_same w nothing flushed.first.answer) in
      let still : is_unloaded_in object place flushed.between.own ≡ true = ap (λ (graph : Graph). mirror.is_unloaded (mirror.link_at graph object place)) kept.graph ∙ unloaded in
      -- the load
      let attached = passed (link_fault object place) (λ u. fill_link object place) flushed.between tt x (record { answer = flushed.second.answer; leaves = flushed.second.leaves }) in
      let filled = asked_goes (load_link object place) flushed.between x (is_unloaded_in object place flushed.between.own) still (record { answer = attached.answer; leaves = attached.leaves }) in
      from_same w flushed.between x kept (load_goes flushed.between x filled)
