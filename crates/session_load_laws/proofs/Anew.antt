-- An object of a whole session is read anew, and the session stays whole.
use Rattle.std.proofs.Common.{◌≡◌, List, [], ◌∷◌, Result, Ok, Err, IfOk, refl, sym, ap, ◌∙◌, subst}
use Rattle.std.specs.List.{AllByRecursion}
use Rattle.base_core.specs.declared.ids.AttrNo.{AttrNo}
use Rattle.base_core.specs.declared.ids.ObjId.{ObjId}
use Rattle.base_core.specs.declared.refusal.Refusal.{Refusal}
use Rattle.base_core.specs.declared.refusal.Refusal.TheVariants.{ObjectDeletedError}
use Rattle.base_core.specs.declared.value.Value.{Value}
use Rattle.class_mapping.specs.Mapped.{Mapped}
use Rattle.keeper_core.specs.Beside.{by_own, changes, on_store}
use Rattle.keeper_core.specs.Programs.{Event, Run, ◌>>=◌, continue_from, give, refuse}
use Rattle.keeper_core.specs.Store.{Store}
use Rattle.object_arena.specs.Graph.{Graph, IsObject, object_at}
use Rattle.object_parts.proofs.Expiries.{persistent_is}
use Rattle.load_rows.specs.Reading.{identity_key}
use Rattle.load_calls.specs.Reading as loads
use Rattle.load_calls.specs.Refreshing.{read_cells}
use Rattle.load_steps.specs.Based.{AreReadOfTables}
use Rattle.load_steps.specs.Loads.{IsStanding, Load}
use Rattle.ranked_rows.specs.Laws.{MainSelectsAnswerTableRows, OwnSelectsAnswerTableRows, SelectsAnswerTableRows}
use Rattle.session_scopes.specs.Loads.{on_load}
use Rattle.session_scopes.specs.SessionState.{SessionState}
use Rattle.session_calls.specs.Parts.{World, checked}
use Rattle.session_calls.specs.Steps.{enter}
use Rattle.session_acts.specs.Flush.{flush}
use Rattle.session_loads.specs.Asking.{is_persistent_in, persistence_fault}
use Rattle.session_loads.specs.Expiring.{session_expired}
use Rattle.session_loads.specs.Reads.{fill_anew, read_anew, refresh, refresh_inside, refresh_written}
use Rattle.session_loads.specs.Rows.{attrs_of, fill_row, if_there, read_row}
use Rattle.session_loads.proofs.RowLemmas.{all_attributes}
use Rattle.session_laws.specs.Loads.{loading_of}
use Rattle.session_laws.specs.Preparing.{PreparationsLeaveReread}
use Rattle.session_laws.specs.Sound.{EachObject, IsSettled}
use Rattle.session_laws.specs.Whole.{IsHale}
use Rattle.session_laws.proofs.Health.Acts.{FlushLeavesSound, FlushWritesAll, IsInside, IsLed, flush_led, led_checked, led_then, some_scopes}
use Rattle.session_laws.proofs.Whole.Inside.{IsWithin}
use Rattle.session_load_laws.specs.Loads.{LoadsLeaveLoaded, MayLoad}
use Rattle.session_load_laws.proofs.Expiring.{IsToFill, IsWrittenWithin, MayFill, expired_still, may_take}
use Rattle.session_load_laws.proofs.Going.{IsGoing, enter_going, flush_going, going_of, loaded_going, passed}
use Rattle.session_load_laws.proofs.Laws.{cells_told, leaves_law}

abbrev Rows : Type 0
Rows = List (List Value)

-- ---- the row is read

there_after : (object : ObjId) (events : List Event) (v : loads.World) (r : Result Rows Refusal) → (continue_from events v r (λ rows. if_there object rows)).after ≡ v
unfolding give refuse
there_after object events v (Ok []) = refl
there_after object events v (Ok (row ∷ rows)) = refl
there_after object events v (Err e) = refl

there_told : (object : ObjId) (events : List Event) (v : loads.World) (r : Result Rows Refusal) (rows : Rows) → (continue_from events v r (λ rows. if_there object rows)).answer ≡ Ok rows → r ≡ Ok rows
unfolding give refuse
there_told object events v (Ok []) rows is = absurd (let never : Err (ObjectDeletedError object) ≡ Ok rows = is in cc)
there_told object events v (Ok (row ∷ more)) rows is = is
there_told object events v (Err e) rows is = absurd (let never : Err e ≡ Ok rows = is in cc)

-- no object changes
cells_graph : (mapped : Mapped) (object : ObjId) (attrs : List AttrNo) (w : loads.World) → (read_cells mapped object attrs w).after.own.graph ≡ w.own.graph
unfolding read_cells by_own loads.read on_store
cells_graph mapped object attrs w = refl

module _ (mapped : Mapped) (object : ObjId) (w : loads.World) where
  abbrev cells : Run loads.World Rows
  cells = read_cells mapped object (attrs_of mapped w.own.graph object) w

  row_after : (read_row mapped object w).after ≡ cells.after
  unfolding read_row ◌>>=◌ by_own
  row_after = there_after object cells.events cells.after cells.answer

  row_told : (rows : Rows) → (read_row mapped object w).answer ≡ Ok rows → cells.answer ≡ Ok rows
  unfolding read_row ◌>>=◌ by_own
  row_told rows is = there_told object cells.events cells.after cells.answer rows is

  row_graph : (read_row mapped object w).after.own.graph ≡ w.own.graph
  row_graph = ap (λ (u : loads.World). u.own.graph) row_after ∙ cells_graph mapped object (attrs_of mapped w.own.graph object) w

-- ---- programs

-- what goes on from an answer that is known
on_from : {A B : Type 0} (P R : World → Type 0) (events : List Event) (v : World) (r : Result A Refusal) (next : A → World → Run World B) → P v → ((a : A) → r ≡ Ok a → IsLed P R (next a v)) → IsLed P R (continue_from events v r next)
on_from P R events v (Ok a) next here later = let led = later a refl in record { here = led.here; told = led.told }
on_from P R events v (Err e) next here later = record { here = here; told = λ b is. absurd cc }

led_on : {A B : Type 0} (P R : World → Type 0) (m : World → Run World A) (next : A → World → Run World B) (w : World) → P (m w).after → ((a : A) → (m w).answer ≡ Ok a → IsLed P R (next a (m w).after)) → IsLed P R ((m >>= next) w)
unfolding ◌>>=◌
led_on P R m next w here later = on_from P R (m w).events (m w).after (m w).answer next here later

module _ (selects : SelectsAnswerTableRows) (owns : OwnSelectsAnswerTableRows) (mains : MainSelectsAnswerTableRows) (reads : PreparationsLeaveReread) (keeps : FlushLeavesSound) (answers : FlushWritesAll) (first : SessionState) (object : ObjId) (made : IsObject first.graph object) where
  -- in the transaction
  abbrev Within : World → Type 0
  Within = IsWithin first

  -- and nothing is to be written
  abbrev Written : World → Type 0
  Written = IsWrittenWithin first

  -- it has gone on, whatever was answered
  abbrev Going : World → Type 0
  Going = IsGoing first

  -- the object is persistent
  record IsReady (w : World) : Type 0 where
    written : Written w
    standing : IsStanding w.own.graph object

  law : LoadsLeaveLoaded
  law = leaves_law selects owns mains

  -- ---- what was read is taken

  filled_led : (rows : Rows) (v : World) → IsToFill first object rows v → IsLed Going Within (by_own (λ session. on_load (fill_row session.mapping object rows)) v)
  unfolding by_own fill_row
  filled_led rows v it = loaded_going law (Load.Taken object (attrs_of v.own.mapping v.own.graph object) rows) (fill_row v.own.mapping object rows) first v refl (may_take object rows v it.fills) it.written.within

  anew_led : (rows : Rows) (v : World) → IsToFill first object rows v → IsLed Going Within (fill_anew object rows v)
  unfolding changes
  anew_led rows v it =
      let still : IsToFill first object rows (changes (session_expired object) v).after = expired_still first object rows v.store object v.own it in
      led_then Going (IsToFill first object rows) Within (changes (session_expired object)) (λ u. by_own (λ session. on_load (fill_row session.mapping object rows))) v
      (record { here = going_of still.written.within; told = λ u is. still }) (λ u again. filled_led rows (changes (session_expired object) v).after again)

  -- ---- the row is read

  module _ (w : World) (it : IsReady w) where
    abbrev attrs : List AttrNo
    attrs = attrs_of w.own.mapping w.own.graph object

    may : MayLoad (Load.Rows object attrs) w
    may = (it.standing, all_attributes w.own.mapping (object_at w.own.graph object).class)

    row_led : IsLed Going Within (on_load (read_row w.own.mapping object) w)
    row_led = loaded_going law (Load.Rows object attrs) (read_row w.own.mapping object) first w (row_after w.own.mapping object (loading_of w)) may it.written.within

    same_store : (read_row w.own.mapping object (loading_of w)).after.store ≡ w.store
    same_store = ap (λ (u : loads.World). u.store) (row_after w.own.mapping object (loading_of w)) ∙ (law (Load.Rows object attrs) w may it.written.within.hale).1

    -- it is of the tables
    rows_fill : (rows : Rows) → (read_row w.own.mapping object (loading_of w)).answer ≡ Ok rows → MayFill object rows w.own.mapping w.store.tables w.own.graph
    rows_fill rows is =
        let AreRows : Rows → Type 0 = AllByRecursion (AreReadOfTables w.own.mapping w.store.tables (object_at w.own.graph object).class attrs (identity_key w.own.graph object)) in
        record {
          made = it.standing.0;
          fills = record {
            persistent = it.standing.1;
            read = subst (λ (r : Result Rows Refusal). IfOk r AreRows) (row_told w.own.mapping object (loading_of w) rows is) (cells_told selects owns mains w it.written.within.hale object attrs may);
          };
        }

    -- and stays so, for only the statement was noted
    row_ready : (rows : Rows) → (on_load (read_row w.own.mapping object) w).answer ≡ Ok rows → IsToFill first object rows (on_load (read_row w.own.mapping object) w).after
    unfolding on_load
    row_ready rows is =
        let now : Graph = (read_row w.own.mapping object (loading_of w)).after.own.graph in
        let same : now ≡ w.own.graph = row_graph w.own.mapping object (loading_of w) in
        record {
          written = record { within = row_led.told rows is; written = subst (EachObject IsSettled) (sym same) it.written.written };
          fills = subst (λ (store : Store). MayFill object rows w.own.mapping store.tables now) (sym same_store)
              (subst (λ (graph : Graph). MayFill object rows w.own.mapping w.store.tables graph) (sym same) (rows_fill rows is));
        }

  read_led : (w : World) → IsReady w → IsLed Going Within (read_anew object w)
  unfolding read_anew by_own
  read_led w it =
      led_on Going Within (by_own (λ session. on_load (read_row session.mapping object))) (λ rows. fill_anew object rows) w (row_led w it).here
      (λ rows is. anew_led rows (on_load (read_row w.own.mapping object) w).after (row_ready w it rows is))

  -- ---- what is asked, and the flush

  written_led : (w : World) → Written w → IsLed Going Within (refresh_written object w)
  unfolding refresh_written
  written_led w it =
      led_then Going IsReady Within (checked (persistence_fault object)) (λ u. read_anew object) w
      (led_checked Going IsReady (persistence_fault object) w (going_of it.within)
      (λ none. record { written = it; standing = ((it.within.goes.there object made).0, persistent_is (object_at w.own.graph object).state (passed (is_persistent_in object w.own) _ none)) }))
      (λ u ready. read_led (checked (persistence_fault object) w).after ready)

  flush_written : (w : World) → Within w → IsLed Going Written (flush w)
  flush_written w it =
      let going = flush_going reads keeps answers first w it in
      let inside : IsInside w.own.mapping w =
      record { healthy = it.hale.healthy; fit = it.hale.keyed.fit; well = record { handled = it.hale.handled; well = it.awake }; inside = some_scopes w.own.frames.scopes it.opened; same = refl } in
      let done = flush_led reads keeps answers w.own.mapping w inside in
      record { here = going.here; told = λ u is. record { within = going.told u is; written = (done.told u is).committable.written } }

  pub inside_led : (w : World) → Within w → IsLed Going Within (refresh_inside object w)
  unfolding refresh_inside
  inside_led w it =
      led_then Going Within Within (checked (persistence_fault object)) (λ u. flush >>= λ u. refresh_written object) w (led_checked Going Within (persistence_fault object) w (going_of it) (λ none. it))
      (λ u again.
      let v : World = (checked (persistence_fault object) w).after in
      led_then Going Written Within flush (λ u. refresh_written object) v (flush_written v again) (λ u done. written_led (flush v).after done))

-- ---- the call

pub refresh_hale : SelectsAnswerTableRows → OwnSelectsAnswerTableRows → MainSelectsAnswerTableRows → PreparationsLeaveReread → FlushLeavesSound → FlushWritesAll → (object : ObjId) (w : World) → IsObject w.own.graph object → IsHale w → IsGoing w.own (refresh object w).after
unfolding refresh
refresh_hale selects owns mains reads keeps answers object w made hale =
    (led_then (IsGoing w.own) (IsWithin w.own) (IsWithin w.own) enter (λ u. refresh_inside object) w (enter_going w hale) (λ u it. inside_led selects owns mains reads keeps answers w.own object made (enter w).after it)).here
