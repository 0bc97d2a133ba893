-- A session's call that asks for objects is the flush and a load behind it.
use Rattle.std.proofs.Common.{◌≡◌, List, [], Ok, refl, sym, ap, subst, ◌∙◌}
use Rattle.base_core.specs.declared.ids.ObjId.{ObjId}
use Rattle.expr_types.specs.declared.select.ObjectQuery.{ObjectQuery}
use Rattle.class_mapping.specs.Mapped.{Mapped}
use Rattle.keeper_core.specs.Beside.{by_own}
use Rattle.keeper_core.specs.Programs.{Run, ◌>>=◌, each, give}
use Rattle.main_selects.specs.MainSelect.{main_select}
use Rattle.load_calls.specs.Reading as loads
use Rattle.load_queries.specs.Queries.{load_select}
use Rattle.load_queries.specs.Joined.{load_joined}
use Rattle.load_queries.specs.Selectin as load_queries
use Rattle.load_queries.specs.Selectin.{load_objects, load_options}
use Rattle.loading_laws.specs.Strategies.Filled.{Goes}
use Rattle.loading_laws.proofs.MainSelects.Unjoined.{plain_query}
use Rattle.loading_laws.proofs.Strategies.Goes.{given, parted}
use Rattle.session_scopes.specs.Loads.{on_load, with_loaded}
use Rattle.session_calls.specs.Parts.{World}
use Rattle.session_acts.specs.Flush.{flush}
use Rattle.session_acts.specs.Steps.{flush_now}
use Rattle.session_calls.specs.Steps.{enter}
use Rattle.session_loads.specs.Queries.{load_query, select_objects}
use Rattle.session_laws.specs.Loads.{loading_of}
use Rattle.session_laws.specs.Preparing.{PreparationsLeaveReread}
use Rattle.session_laws.specs.Whole.{IsHale}
use Rattle.session_laws.proofs.Health.Acts.{FlushLeavesSound, FlushWritesAll, IsLed, led_then}
use Rattle.session_laws.proofs.Whole.Inside.{IsWithin, enter_within, flush_within}
use Rattle.session_strategies.specs.Asked.{by_joins, by_selects, lazily, written}
use Rattle.session_strategies.proofs.Programs.{goes_same, goes_then}

-- ---- the flush

pub written_led : PreparationsLeaveReread → FlushLeavesSound → FlushWritesAll → (world : World) → IsHale world → IsLed IsHale (IsWithin world.own) (flush_now world)
unfolding flush_now
written_led reads keeps answers world hale = led_then IsHale (IsWithin world.own) (IsWithin world.own) enter (λ u. flush) world (enter_within world hale) (λ u it. flush_within reads keeps answers world.own (enter world).after it)

-- ---- the load

-- a session that takes in what a load made of its objects
abbrev pub taking : loads.World → World → World
taking now world = record { own = with_loaded now.own world.own; store = now.store }

-- the flush answered, and so did the load, which the session took in
pub record IsLoaded (query : ObjectQuery) (world : World) (objects : List ObjId) (after : World) : Type 0 where
  pub flushed : (flush_now world).answer ≡ Ok tt
  pub now : loads.World
  pub loaded : Goes (load_queries.load_query (written world).own.mapping query) (loading_of (written world)) objects now
  pub is : taking now (written world) ≡ after

pub call_loads : (query : ObjectQuery) (world : World) (objects : List ObjId) (after : World) → Goes (select_objects query) world objects after → IsLoaded query world objects after
unfolding select_objects by_own on_load
call_loads query world objects after g =
    let two = parted flush_now (λ (u : Unit {0}). load_query query) world objects after (record { answer = g.answer; leaves = g.leaves }) in
    let asked : Goes (load_query query) (written world) objects after = subst (λ (v : World). Goes (load_query query) v objects after) (sym two.first.leaves) two.second in
    record {
      flushed = two.first.answer;
      now = (load_queries.load_query (written world).own.mapping query (loading_of (written world))).after;
      loaded = record { answer = asked.answer; leaves = refl };
      is = asked.leaves;
    }

-- and so the call answers where both do
pub call_of : (query : ObjectQuery) (world : World) (objects : List ObjId) (now : loads.World) → (flush_now world).answer ≡ Ok tt → Goes (load_queries.load_query (written world).own.mapping query) (loading_of (written world)) objects now
    → Goes (select_objects query) world objects (taking now (written world))
unfolding select_objects by_own on_load
call_of query world objects now flushed loaded =
    let asked : Goes (load_query query) (written world) objects (taking now (written world)) = record { answer = loaded.answer; leaves = ap (λ (u : loads.World). taking u (written world)) loaded.leaves } in
    let whole = goes_then flush_now (λ (u : Unit {0}). load_query query) world (written world) tt (record { answer = flushed; leaves = refl }) objects (taking now (written world)) asked in
    record { answer = whole.answer; leaves = whole.leaves }

-- ---- each strategy's load

module _ (mapped : Mapped) (query : ObjectQuery) (w : loads.World) (objects : List ObjId) (v : loads.World) where
  -- without select-in options nothing more is read
  options_none : (m : loads.World → Run loads.World (List ObjId)) → Goes (m >>= λ (found : List ObjId). (load_options mapped query.class found [] >>= λ (u : Unit {0}). give found)) w objects v → Goes m w objects v
  unfolding load_options each
  options_none m g =
      let one = parted m (λ (found : List ObjId). load_options mapped query.class found [] >>= λ (u : Unit {0}). give found) w objects v g in
      let two = parted (load_options mapped query.class one.value []) (λ (u : Unit {0}). give one.value) one.between objects v one.second in
      let none = given tt two.value one.between two.between (record { answer = two.first.answer; leaves = two.first.leaves }) in
      let end = given one.value objects two.between v two.second in
      subst (λ (x : loads.World). Goes m w objects x) (none.1 ∙ end.1) (subst (λ (found : List ObjId). Goes m w found one.between) end.0 one.first)

  pub own_loaded : Goes (load_queries.load_query mapped (lazily query)) w objects v → Goes (load_select mapped query) w objects v
  unfolding load_objects load_select
  own_loaded g =
      let same = goes_same (load_queries.load_query mapped (lazily query)) (load_objects mapped (lazily query)) w v objects (plain_query mapped (lazily query) w refl) g in
      options_none (load_select mapped query) (record { answer = same.answer; leaves = same.leaves })

  pub joined_loaded : Goes (load_queries.load_query mapped (by_joins query)) w objects v → Goes (load_joined mapped query) w objects v
  unfolding load_queries.load_query load_joined main_select
  joined_loaded g = options_none (load_joined mapped query) (record { answer = g.answer; leaves = g.leaves })

  pub together_loaded : Goes (load_queries.load_query mapped (by_selects query)) w objects v → Goes (load_objects mapped query) w objects v
  unfolding load_objects load_select
  together_loaded g =
      let same = goes_same (load_queries.load_query mapped (by_selects query)) (load_objects mapped (by_selects query)) w v objects (plain_query mapped (by_selects query) w refl) g in
      record { answer = same.answer; leaves = same.leaves }
