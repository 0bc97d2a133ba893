-- Each savepoint in progress has a handle, whatever is called.
use Rattle.std.proofs.Common.{◌≡◌, ℕ, ◌+◌, ◌-◌, ◌<◌, ◌≤◌, zero, suc, Bool, true, false, not, ◌&&◌, ◌==◌, List, [], ◌∷◌, length, drop, Option, None, Some, Result, Ok, Err, refl, sym, ap, ◌∙◌, subst, arith, length-drop}
use Rattle.std.proofs.lemmas.Bool.Decides.{nat_tests}
use Rattle.std.proofs.lemmas.List.Quantifiers.{position-Some}
use Rattle.base_core.specs.declared.ids.AttrNo.{AttrNo}
use Rattle.base_core.specs.declared.ids.ClassId.{ClassId}
use Rattle.base_core.specs.declared.ids.ObjId.{ObjId}
use Rattle.base_core.specs.declared.ids.RelNo.{RelNo}
use Rattle.base_core.specs.Counts.{one_more}
use Rattle.base_core.specs.declared.refusal.Refusal.{Refusal}
use Rattle.base_core.specs.declared.refusal.Refusal.TheVariants.{PendingRollbackError}
use Rattle.base_core.specs.declared.value.Value.{Value}
use Rattle.class_types.specs.Rules.{Rules}
use Rattle.expr_types.specs.declared.select.Bulk.{Bulk}
use Rattle.expr_types.specs.declared.select.Select.{Select}
use Rattle.keeper_core.specs.Calls as call
use Rattle.table_laws.specs.Legality.{Keeps}
use Rattle.object_arena.specs.Graph.{Graph, key_fault, make, object_at, value_fault, with_link, with_object, with_value}
use Rattle.graph_flushed.specs.Flushed.{graph_flushed}
use Rattle.object_records.specs.declared.kept.Held.{Held}
use Rattle.object_records.specs.Kept.{held_in}
use Rattle.object_rows.specs.declared.prepared.Prepared.{Prepared}
use Rattle.load_rows.specs.Loading.{Loading}
use Rattle.load_preparing.specs.Preparing.{read_going}
use Rattle.prepared_objects.specs.Leaving.{prepared_of}
use Rattle.keeper_core.specs.Programs.{Event, Run, ◌>>=◌, continue_from, give, refuse, undo_on_refusal, with_undo}
use Rattle.keeper_core.specs.Beside.{by_own, changes, on_own, on_store}
use Rattle.keeper_core.specs.Store.{Store}
use Rattle.relations.specs.declared.calls.LinkCall.{LinkCall}
use Rattle.relations.specs.declared.change.Change.{Change}
use Rattle.relations.specs.declared.change.LinkPut.{LinkPut}
use Rattle.relations.specs.Calls.{child_of, link_change}
use Rattle.relations.specs.Mirror.{with_orphan}
use Rattle.savepoints.specs.declared.scope.Scope.{Scope}
use Rattle.savepoints.specs.Scopes.{begun_at, scope_released}
use Rattle.sql_semantics.specs.Applied.{table_of}
use Rattle.session_scopes.specs.Changes.{changed_unless, delete_fault, deletion_marked, value_put}
use Rattle.session_scopes.specs.Handles.{place_of_handle}
use Rattle.session_scopes.specs.Keeping.{session_given_back}
use Rattle.session_scopes.specs.Loads.{on_load, with_loaded}
use Rattle.session_scopes.specs.Making as making
use Rattle.session_scopes.specs.Scoping.{session_committed, session_failed, session_nested, session_released, session_restored, session_rolled_back}
use Rattle.session_scopes.specs.SessionState.{SessionState, depth_in, depth_of, in_transaction, with_graph, with_notes}
use Rattle.session_scopes.proofs.SessionLemmas.{around_scopes}
use Rattle.keeper_core.specs.declared.notes.Note.{Note}
use Rattle.session_calls.specs.Parts.{World, checked, fault_if, roll_back_scope}
use Rattle.session_calls.specs.Steps.{begin_unless, close, delete, enter, go_back_if, pending_fault, roll_back_place, rollback, rollback_handle, set_cell, set_fitting}
use Rattle.session_calls.proofs.Acting.{no_scope_open, some_scope_open}
use Rattle.session_acts.specs.Savepoints.{begin_savepoint, check_handle, commit_transaction, commit_whole, enter_nested, handle_fault, limit_fault, release_handle, release_many, release_one}
use Rattle.session_objects.specs.Leaving.{expunged_at, session_expunged}
use Rattle.session_objects.specs.Steps.{add, expunge}
use Rattle.session_objects.specs.Taking.{added_then, coming_objects, session_added, session_joined, session_taken, taken_under, unmarked}
use Rattle.session_links.specs.Linking.{change_fault, coming_along, session_by, session_changed, session_linked, session_orphaned, session_put}
use Rattle.session_links.specs.Steps.{change_inside, change_link}
use Rattle.session_statements.specs.Rewriting.{graph_reread}
use Rattle.session_statements.specs.Steps as statements
use Rattle.session_tables.specs.declared.tables.TableChange.{TableChange}
use Rattle.session_tables.specs.Steps.{change_all}
use Rattle.session_acts.specs.Flush.{flush, give_up, give_up_to, prepare, write_loaded, write_objects}
use Rattle.session_acts.specs.Steps as acts
use Rattle.session_acts.specs.Steps.{flush_now}
use Rattle.session_laws.specs.Loads.{loading_of}
use Rattle.session_laws.proofs.Calls.Leaving.{closure_keeps}
use Rattle.session_laws.proofs.Loads.Sessions.{loaded_handled}
use Rattle.session_laws.proofs.Loads.Touched.{filled_scopes}
use Rattle.session_laws.proofs.Sound.Beginning.{entered_open}
use Rattle.session_laws.proofs.Sound.Touches.{between_scopes}
use Rattle.session_objects.specs.ValueSteps.{cell_kept, given_fault, made_unless, set_inside, set_judged, set_valid, valid_made, value_invalid}
use Rattle.session_laws.proofs.Health.Acts.{IsLed, begun_handled, led_checked, led_then}
use Rattle.session_laws.proofs.Whole.Keeping as keeping
use Rattle.session_laws.proofs.Whole.Keeping.{Holds, goes}

-- each savepoint in progress has a handle
abbrev pub HasHandles : SessionState → Type 0
HasHandles own = length own.drawn.handles ≡ depth_of own - 1

-- so it is, and no rollback is awaited
pub record IsCalm (own : SessionState) : Type 0 where
  pub handles : HasHandles own
  pub well : own.failed ≡ false

-- so it is in the transaction
record IsDeep (own : SessionState) : Type 0 where
  calm : IsCalm own
  inside : 0 < length own.frames.scopes

abbrev pub Handled : World → Type 0
Handled world = HasHandles world.own

-- ---- what each step leaves

handles_noted : (notes : List Note) (own : SessionState) → HasHandles own → HasHandles (record own { notes = notes })
handles_noted notes own has = has

calm_noted : (notes : List Note) (own : SessionState) → IsCalm own → IsCalm (record own { notes = notes })
calm_noted notes own calm = record { handles = calm.handles; well = calm.well }

deep_noted : (notes : List Note) (own : SessionState) → IsDeep own → IsDeep (record own { notes = notes })
deep_noted notes own deep = record { calm = calm_noted notes own deep.calm; inside = deep.inside }

handles_with : (graph : Graph) (own : SessionState) → HasHandles own → HasHandles (with_graph graph own)
handles_with graph own has = has ∙ ap (λ (scopes : List Scope). depth_in own.failed scopes - 1) (sym (between_scopes own.graph graph own.frames))

calm_with : (graph : Graph) (own : SessionState) → IsCalm own → IsCalm (with_graph graph own)
calm_with graph own calm = record { handles = handles_with graph own calm.handles; well = calm.well }

deep_with : (graph : Graph) (own : SessionState) → IsDeep own → IsDeep (with_graph graph own)
deep_with graph own deep = record { calm = calm_with graph own deep.calm; inside = subst (λ (scopes : List Scope). 0 < length scopes) (sym (between_scopes own.graph graph own.frames)) deep.inside }

calm_read : (after : Loading) (own : SessionState) → IsCalm own → IsCalm (with_loaded after own)
calm_read after own calm = record { handles = loaded_handled after own calm.handles; well = calm.well }

deep_read : (after : Loading) (own : SessionState) → IsDeep own → IsDeep (with_loaded after own)
deep_read after own deep = record { calm = calm_read after own deep.calm; inside = subst (λ (scopes : List Scope). 0 < length scopes) (sym (filled_scopes after.graph after.notes own.frames)) deep.inside }

noted : (events : List Event) (own : SessionState) → HasHandles own → HasHandles (with_notes events own)
noted events own has = has

unless_handles : (fault : Option Refusal) (graph : Graph) (own : SessionState) → HasHandles own → HasHandles (changed_unless fault graph own).after
unless_handles None graph own has = handles_with graph own has
unless_handles (Some fault) graph own has = has

-- so many scopes are left
left_long : (depth : ℕ) (own : SessionState) → length (session_restored depth own).frames.scopes ≡ length own.frames.scopes - (length own.frames.scopes - (depth - 1))
left_long depth own = ap length (around_scopes depth own.frames) ∙ length-drop (length own.frames.scopes - (depth - 1)) own.frames.scopes

released_long : (own : SessionState) → length (session_released own).frames.scopes ≡ length own.frames.scopes - (length own.frames.scopes - (length own.frames.scopes - 1))
unfolding scope_released
released_long own = length-drop (length own.frames.scopes - (length own.frames.scopes - 1)) own.frames.scopes

long_when : (own : SessionState) → IsCalm own → length own.drawn.handles ≡ length own.frames.scopes - 1
long_when own calm = calm.handles ∙ ap (λ (failed : Bool). depth_in failed own.frames.scopes - 1) calm.well

released_calm : (own : SessionState) → IsCalm own → IsCalm (session_released own)
released_calm own calm =
    let now : SessionState = session_released own in
    let handles : length now.drawn.handles ≡ length own.drawn.handles - 1 = length-drop 1 own.drawn.handles in
    let scopes = released_long own in
    let fewer : length now.drawn.handles ≡ length now.frames.scopes - 1 = omega (arith, handles, scopes, long_when own calm) in
    record { handles = fewer ∙ ap (λ (failed : Bool). depth_in failed now.frames.scopes - 1) (sym calm.well); well = calm.well }

failed_handles : (own : SessionState) → IsCalm own → HasHandles (session_failed own)
failed_handles own calm = omega (arith, left_long (length own.frames.scopes) own, long_when own calm)

nested_handles : (own : SessionState) → IsDeep own → HasHandles (session_nested own)
nested_handles own deep =
    let long = long_when own deep.calm in
    let more : length own.drawn.handles + 1 ≡ length own.frames.scopes = omega (arith, long, deep.inside) in
    let both : length (session_nested own).drawn.handles ≡ length (session_nested own).frames.scopes - 1 = omega (arith, more) in
    both ∙ ap (λ (failed : Bool). depth_in failed (session_nested own).frames.scopes - 1) (sym deep.calm.well)

committed_handles : (own : SessionState) → length own.drawn.handles ≡ 0 → HasHandles (session_committed own)
committed_handles own none = none ∙ by own.failed
  where
    by : (failed : Bool) → 0 ≡ depth_in failed [] - 1
    by true = refl
    by false = refl

-- ---- the transaction begins

well_of : (failed : Bool) → fault_if failed PendingRollbackError ≡ None → failed ≡ false
well_of true none = absurd cc
well_of false none = refl

begun_calm : (begun : Bool) (w : World) → in_transaction w.own ≡ begun → w.own.failed ≡ false → Handled w → IsCalm (begin_unless begun w).after.own
unfolding ◌>>=◌ give changes on_store call.begin
begun_calm true w is well handled = record { handles = handled; well = well }
begun_calm false w is well handled = record { handles = begun_handled w.own.failed w.own.frames.scopes (begun_at w.own.graph) (length w.own.drawn.handles) well (no_scope_open w.own.frames.scopes is) handled; well = well }

begun_led : (v : World) → Handled v → v.own.failed ≡ false → IsLed Handled (Holds IsCalm) (by_own (λ session. begin_unless (in_transaction session)) v)
unfolding by_own
begun_led v handled well = let done = begun_calm (in_transaction v.own) v refl well handled in record { here = done.handles; told = λ u is. done }

pub enter_calm : (w : World) → Handled w → IsLed Handled (Holds IsCalm) (enter w)
unfolding enter
enter_calm w handled =
    led_then Handled (λ v. Handled v × (v.own.failed ≡ false)) (Holds IsCalm) (checked pending_fault) (λ u. by_own (λ session. begin_unless (in_transaction session))) w
    (led_checked Handled (λ v. Handled v × (v.own.failed ≡ false)) pending_fault w handled (λ none. (handled, well_of w.own.failed none)))
    (λ u both. begun_led (checked pending_fault w).after both.0 both.1)

enter_deep : (w : World) → Handled w → IsLed Handled (Holds IsDeep) (enter w)
enter_deep w handled =
    let led = enter_calm w handled in
    record { here = led.here; told = λ u is. record { calm = led.told u is; inside = some_scope_open (enter w).after.own.frames.scopes (entered_open w u is) } }

entered : Keeps Handled enter
entered = record { kept = λ w handled. (enter_calm w handled).here }

joined : {A B : Type 0} (m : World → Run World A) (next : A → World → Run World B) → Keeps Handled m → ((a : A) → Keeps Handled (next a)) → Keeps Handled (m >>= next)
joined m next first later = keeping.joined HasHandles noted m next first later

asked : (fault : SessionState → Option Refusal) → Keeps Handled (checked fault)
asked fault = keeping.asked HasHandles noted fault

owned : {A : Type 0} (m : SessionState → Run SessionState A) → ((own : SessionState) → HasHandles own → HasHandles (m own).after) → Keeps Handled (on_own m)
owned m stays = keeping.owned HasHandles noted m stays

-- ---- calls without a flush

mark_stays : (object : ObjId) (own : SessionState) → HasHandles own → HasHandles (deletion_marked object own).after
unfolding deletion_marked
mark_stays object own has = unless_handles (delete_fault (object_at own.graph object)) (with_object own.graph object (record (object_at own.graph object) { marked = true })) own has

pub delete_handled : (object : ObjId) → Keeps Handled (delete object)
unfolding delete
delete_handled object = joined enter (λ u. on_own (deletion_marked object)) entered (λ u. owned (deletion_marked object) (mark_stays object))

joins_stay : (objects : List ObjId) (own : SessionState) → HasHandles own → HasHandles (session_joined objects own)
joins_stay [] own has = has
joins_stay (object ∷ objects) own has =
    joins_stay objects (session_taken object own) (handles_with (with_object own.graph object (taken_under (one_more own.added) (object_at own.graph object))) (record own { added = added_then (object_at own.graph object).state own.added }) has)

added_stays : (object : ObjId) (own : SessionState) → HasHandles own → HasHandles (session_added object own)
added_stays object own has =
    let now : SessionState = session_joined (coming_objects own.mapping own.graph object) own in
    handles_with (unmarked now.graph object) now (joins_stay (coming_objects own.mapping own.graph object) own has)

pub add_handled : (object : ObjId) → Keeps Handled (add object)
add_handled object = keeping.adds HasHandles noted entered object (added_stays object)

expunge_stays : (object : ObjId) (own : SessionState) → HasHandles own → HasHandles (session_expunged object own)
expunge_stays object own has = closure_keeps HasHandles (λ one now. handles_with (expunged_at now.graph one) now) object own has

pub expunge_handled : (object : ObjId) → Keeps Handled (expunge object)
expunge_handled object = keeping.expunges HasHandles noted entered object (expunge_stays object)

put_handles : (put : Option LinkPut) (own : SessionState) → HasHandles own → HasHandles (session_put put own)
put_handles None own has = has
put_handles (Some put) own has = handles_with (with_link own.graph put.object put.relation put.link) own has

orphan_handles : (object : ObjId) (orphan : Option Bool) (own : SessionState) → HasHandles own → HasHandles (session_orphaned object orphan own)
orphan_handles object None own has = has
orphan_handles object (Some orphan) own has = handles_with (with_orphan own.graph object (Some orphan)) own has

by_change : (owner : ObjId) (place : RelNo) (call : LinkCall) (own : SessionState) (found : Result Change Refusal) → HasHandles own → HasHandles (session_by owner place call own found)
by_change owner place call own (Err fault) has = has
by_change owner place call own (Ok change) has =
    let marked : SessionState = session_orphaned (child_of owner call) change.orphan own in
    let left : SessionState = session_put change.left marked in
    let joins : SessionState = session_put change.joined left in
    joins_stay (coming_along own owner place call change) (session_linked (child_of owner call) change own)
    (put_handles change.own joins (put_handles change.joined left (put_handles change.left marked (orphan_handles (child_of owner call) change.orphan own has))))

changed_stays : (owner : ObjId) (place : RelNo) (call : LinkCall) (own : SessionState) → HasHandles own → HasHandles (session_changed owner place call own)
unfolding session_changed
changed_stays owner place call own has = by_change owner place call own (link_change own.graph own.mapping owner place call) has

pub link_handled : (owner : ObjId) (place : RelNo) (call : LinkCall) → Keeps Handled (change_link owner place call)
unfolding change_link
link_handled owner place call =
    joined enter (λ u. change_inside owner place call) entered
    (λ u.
    joined (checked (change_fault owner place call)) (λ u. changes (session_changed owner place call)) (asked (change_fault owner place call))
    (λ u. keeping.changed HasHandles noted (session_changed owner place call) (changed_stays owner place call)))

pub tables_handled : (change : TableChange) → Keeps Handled (change_all change)
tables_handled change = keeping.tables HasHandles noted change

pub close_handled : Keeps Handled close
close_handled = keeping.closes HasHandles noted (λ own has. let none : length (drop (length own.drawn.handles) own.drawn.handles) ≡ length own.drawn.handles - length own.drawn.handles = length-drop (length own.drawn.handles) own.drawn.handles in omega (arith, none))

-- ---- values

put_stays : (object : ObjId) (attr : AttrNo) (value : Value) (own : SessionState) → HasHandles own → HasHandles (value_put object attr value own).after
unfolding value_put
put_stays object attr value own has = unless_handles (key_fault own.mapping (object_at own.graph object) attr) (with_value own.graph object attr value) own has

fitting_handled : (object : ObjId) (attr : AttrNo) (value : Value) → Keeps Handled (set_fitting object attr value)
fitting_handled object attr value = joined enter (λ u. on_own (value_put object attr value)) entered (λ u. owned (value_put object attr value) (put_stays object attr value))

cell_handled : (object : ObjId) (attr : AttrNo) (value : Value) → Keeps Handled (set_cell object attr value)
unfolding set_cell
cell_handled object attr value =
    let fault : SessionState → Option Refusal = λ session. value_fault session.mapping (object_at session.graph object) attr value in
    joined (checked fault) (λ u. set_fitting object attr value) (asked fault) (λ u. fitting_handled object attr value)

pub set_handled : (rules : Rules) (object : ObjId) (attr : AttrNo) (value : Value) → Keeps Handled (set_valid rules object attr value)
unfolding set_valid
set_handled rules object attr value =
    joined (checked (value_invalid rules object attr value)) (λ u. set_judged object attr value) (asked (value_invalid rules object attr value))
    (λ u.
    joined enter (λ u. set_inside object attr value) entered
    (λ u. joined (checked (cell_kept object attr)) (λ u. set_cell object attr value) (asked (cell_kept object attr)) (λ u. cell_handled object attr value)))

made_stays : (fault : Option Refusal) (given : List (AttrNo × Value)) (own : SessionState) (made : Result (ObjId × Graph) Refusal) → HasHandles own → HasHandles (making.made_unless fault given own made).after
made_stays (Some fault) given own made has = has
made_stays None given own (Ok made) has = has
made_stays None given own (Err full) has = has

object_stays : (fault : Option Refusal) (class : ClassId) (given : List (AttrNo × Value)) (own : SessionState) → HasHandles own → HasHandles (made_unless fault class given own).after
unfolding making.object_made
object_stays (Some fault) class given own has = has
object_stays None class given own has = made_stays (making.first_given_fault own.mapping class given) given own (make own.graph own.mapping class) has

pub make_handled : (rules : Rules) (class : ClassId) (given : List (AttrNo × Value)) (w : World) → Handled w → Handled (on_own (valid_made rules class given) w).after
unfolding on_own valid_made
make_handled rules class given w handled = object_stays (given_fault rules w.own.mapping class given) class given w.own handled

-- ---- rollbacks

-- a step of the store, and where it answers two of the session
twice : (events : List Event) (v : World) (r : Result (Unit {0}) Refusal) (f g : SessionState → SessionState) → Handled v → HasHandles (g (f v.own))
    → Handled (let run : Run World (Unit {0}) = continue_from events v r (λ u. changes f) in continue_from run.events run.after run.answer (λ u. changes g)).after
unfolding changes
twice events v (Ok u) f g handled done = done
twice events v (Err e) f g handled done = handled

-- a scope is gone back to, or was before, and so many savepoints have ended
back_handled : (inside : Bool) (depth count : ℕ) (w : World) → Handled w → (inside ≡ true → length w.own.drawn.handles - count ≡ length w.own.frames.scopes - (length w.own.frames.scopes - (depth - 1)) - 1)
    → (inside ≡ false → length w.own.drawn.handles - count ≡ length w.own.frames.scopes - 1) → Handled ((go_back_if inside depth >>= λ u. changes (session_rolled_back count)) w).after
unfolding ◌>>=◌ on_store give changes
back_handled true depth count w handled gone stayed =
    let run : Run Store (Unit {0}) = roll_back_scope depth w.store in
    let v : World = record { own = with_notes run.events w.own; store = run.after } in
    twice run.events v run.answer (session_restored depth) (session_rolled_back count) handled
    (length-drop count w.own.drawn.handles ∙ gone refl ∙ ap (λ (n : ℕ). n - 1) (sym (left_long depth v.own)))
back_handled false depth count w handled gone stayed = length-drop count w.own.drawn.handles ∙ stayed refl

pub rollback_handled : (w : World) → Handled w → Handled (rollback w).after
unfolding rollback by_own
rollback_handled w handled =
    let count : ℕ = length w.own.drawn.handles in
    back_handled (in_transaction w.own) 1 count w handled (λ is. omega arith) (λ is. let none : length w.own.frames.scopes ≡ 0 = ap length (no_scope_open w.own.frames.scopes is) in omega (arith, none))

place_handled : (handle : ℕ) (failed : Bool) (place : Option ℕ) (w : World) → w.own.failed ≡ failed → place_of_handle w.own.drawn handle ≡ place → length w.own.drawn.handles ≡ depth_in failed w.own.frames.scopes - 1 → Handled w
    → Handled (roll_back_place failed (length w.own.drawn.handles) place w).after
unfolding refuse
place_handled handle failed None w state at long handled = handled
place_handled handle false (Some place) w state at long handled =
    let inside : place < length w.own.drawn.handles = (position-Some (λ other. other == handle) w.own.drawn.handles place 0 at).0 in
    back_handled (not (false && (place == 0))) (length w.own.drawn.handles - place + 1) (place + 1) w handled (λ is. omega (arith, inside, long)) (λ is. absurd cc)
place_handled handle true (Some place) w state at long handled =
    let inside : place < length w.own.drawn.handles = (position-Some (λ other. other == handle) w.own.drawn.handles place 0 at).0 in
    back_handled (not (true && (place == 0))) (length w.own.drawn.handles - place + 1) (place + 1) w handled (λ is. let later : 0 < place = grind (arith, nat_tests) in omega (arith, inside, long, later))
    (λ is. let first : place ≡ 0 = grind (arith, nat_tests) in omega (arith, inside, long, first))

pub handle_handled : (handle : ℕ) (w : World) → Handled w → Handled (rollback_handle handle w).after
unfolding rollback_handle by_own
handle_handled handle w handled = place_handled handle w.own.failed (place_of_handle w.own.drawn handle) w refl refl handled handled

-- ---- the flush

guarded : {A : Type 0} (P Q : World → Type 0) (m : World → Run World A) (undo : World → Run World (Unit {0})) (w : World) → Q (m w).after → ((v : World) → Q v → P v) → ((v : World) → Q v → P (undo v).after) → IsLed P Q (with_undo m undo w)
unfolding with_undo refuse
guarded {A = A} P Q m undo w done still back = by (m w).events (m w).after (m w).answer done
  where
    by : (events : List Event) (v : World) (r : Result A Refusal) → Q v → IsLed P Q (undo_on_refusal events v r undo)
    by events v (Ok a) q = record { here = still v q; told = λ b is. q }
    by events v (Err e) q =
        let led : IsLed P Q ((undo >>= λ u. refuse {A = A} e) v) =
        led_then P P Q undo (λ u. refuse {A = A} e) v (record { here = back v q; told = λ u is. back v q }) (λ u gone. record { here = gone; told = λ b is. absurd cc }) in
        record { here = led.here; told = led.told }

-- the session changes
changing : (Q : SessionState → Type 0) (f : SessionState → SessionState) (x : World) → HasHandles (f x.own) → Q (f x.own) → IsLed Handled (Holds Q) (changes f x)
unfolding changes
changing Q f x here told = record { here = here; told = λ u is. told }

given_up : (v : World) → IsCalm v.own → Handled (give_up v).after
unfolding give_up by_own
given_up v calm =
    let scope : ℕ = length v.own.frames.scopes in
    let there : IsCalm (on_store with_notes (roll_back_scope scope) v).after.own = (keeping.noted IsCalm (λ events own c. calm_noted _ own c) (roll_back_scope scope)).kept v calm in
    (led_then Handled (Holds IsCalm) Handled (on_store with_notes (roll_back_scope scope)) (λ u. changes session_failed) v (record { here = there.handles; told = λ u is. there })
    (λ u c.
    let x : World = (on_store with_notes (roll_back_scope scope) v).after in
    let done : HasHandles (session_failed x.own) = failed_handles x.own c in
    changing HasHandles session_failed x done done)).here

-- what was kept of the objects is given back first
gave_up : (held : List Held) (v : World) → IsCalm v.own → Handled (give_up_to held v).after
unfolding give_up_to changes ◌>>=◌
gave_up held v calm = given_up (record { own = session_given_back held v.own; store = v.store }) (record { handles = calm.handles; well = calm.well })

module _ (P : SessionState → Type 0) (again : (notes : List Note) (own : SessionState) → P own → P (record own { notes = notes })) (other : (graph : Graph) (own : SessionState) → P own → P (with_graph graph own)) (read : (after : Loading) (own : SessionState) → P own → P (with_loaded after own)) (calm : (own : SessionState) → P own → IsCalm own) where
  prepared_led : (w : World) → P w.own → P (prepare w).after.own
  unfolding prepare by_own on_load
  prepared_led w has = read (read_going w.own.mapping (loading_of w)).after.own w.own has

  loaded_led : (w : World) → P w.own → P (write_loaded w).after.own
  unfolding write_loaded by_own
  loaded_led w has =
      let prepared : Prepared = prepared_of w.own.mapping w.own.graph in
      keeping.prepared_written P P (λ events own p. again _ own p) (λ rows own p. again _ own p) (λ own p. p) prepared (λ rows keys own p. other (graph_flushed own.mapping prepared rows keys own.graph) own p) w has

  objects_led : (w : World) → P w.own → P (write_objects w).after.own
  unfolding write_objects
  objects_led w has = goes (Holds P) prepare (λ u. write_loaded) w (prepared_led w has) (λ u. loaded_led (prepare w).after (prepared_led w has))

  flush_led : (w : World) → P w.own → IsLed Handled (Holds P) (flush w)
  unfolding flush by_own
  flush_led w has =
      guarded Handled (Holds P) write_objects (give_up_to (held_in w.own.graph)) w (objects_led w has) (λ v p. (calm v.own p).handles) (λ v p. gave_up (held_in w.own.graph) v (calm v.own p))

  -- what is asked, the flush, and an act behind it
  acted : {A : Type 0} (asks : World → Run World (Unit {0})) (act : World → Run World A) (w : World) → IsLed Handled (Holds P) (asks w) → ((v : World) → P v.own → Handled (act v).after) → Handled ((asks >>= λ u. (flush >>= λ u. act)) w).after
  acted asks act w first later =
      (led_then Handled (Holds P) Handled asks (λ u. flush >>= λ u. act) w first
      (λ u p.
      let v : World = (asks w).after in
      led_then Handled (Holds P) Handled flush (λ u. act) v (flush_led v p) (λ u q. let done = later (flush v).after q in record { here = done; told = λ a is. done }))).here

pub calm_led : (w : World) → IsCalm w.own → IsLed Handled (Holds IsCalm) (flush w)
calm_led w calm = flush_led IsCalm calm_noted calm_with calm_read (λ own c. c) w calm

now_led : (w : World) → Handled w → IsLed Handled (Holds IsCalm) (flush_now w)
unfolding flush_now
now_led w handled = led_then Handled (Holds IsCalm) (Holds IsCalm) enter (λ u. flush) w (enter_calm w handled) (λ u calm. calm_led (enter w).after calm)

pub flush_handled : (w : World) → Handled w → Handled (flush_now w).after
flush_handled w handled = (now_led w handled).here

-- ---- what is done behind it

-- so many savepoints are in progress, and no rollback is awaited
record HasSo (count : ℕ) (own : SessionState) : Type 0 where
  calm : IsCalm own
  few : length own.drawn.handles ≤ count

one_less : (count : ℕ) (v : World) → HasSo (suc count) v.own → IsLed Handled (Holds (HasSo count)) (release_one v)
unfolding release_one
one_less count v so =
    let there : HasSo (suc count) (on_store with_notes call.release v).after.own = (keeping.noted (HasSo (suc count)) (λ events own s. record { calm = calm_noted _ own s.calm; few = s.few }) call.release).kept v so in
    led_then Handled (Holds (HasSo (suc count))) (Holds (HasSo count)) (on_store with_notes call.release) (λ u. changes session_released) v (record { here = there.calm.handles; told = λ u is. there })
    (λ u s.
    let x : World = (on_store with_notes call.release v).after in
    let calm : IsCalm (session_released x.own) = released_calm x.own s.calm in
    let long : length (session_released x.own).drawn.handles ≡ length x.own.drawn.handles - 1 = length-drop 1 x.own.drawn.handles in
    changing (HasSo count) session_released x calm.handles (record { calm = calm; few = omega (arith, long, s.few) }))

all_released : (count : ℕ) (v : World) → HasSo count v.own → IsLed Handled (Holds (HasSo 0)) (release_many count v)
unfolding release_many give
all_released zero v so = record { here = so.calm.handles; told = λ u is. so }
all_released (suc count) v so = led_then Handled (Holds (HasSo count)) (Holds (HasSo 0)) release_one (λ u. release_many count) v (one_less count v so) (λ u s. all_released count (release_one v).after s)

transaction_handled : (v : World) → HasSo 0 v.own → Handled (commit_transaction v).after
unfolding commit_transaction
transaction_handled v so =
    let there : HasSo 0 (on_store with_notes call.commit v).after.own = (keeping.noted (HasSo 0) (λ events own s. record { calm = calm_noted _ own s.calm; few = s.few }) call.commit).kept v so in
    (led_then Handled (Holds (HasSo 0)) Handled (on_store with_notes call.commit) (λ u. changes session_committed) v (record { here = there.calm.handles; told = λ u is. there })
    (λ u s.
    let x : World = (on_store with_notes call.commit v).after in
    let none : length x.own.drawn.handles ≡ 0 = omega (arith, s.few) in
    let done : HasHandles (session_committed x.own) = committed_handles x.own none in
    changing HasHandles session_committed x done done)).here

whole_committed : (v : World) → IsCalm v.own → Handled (commit_whole v).after
unfolding commit_whole by_own
whole_committed v calm =
    let count : ℕ = length v.own.drawn.handles in
    (led_then Handled (Holds (HasSo 0)) Handled (release_many count) (λ u. commit_transaction) v (all_released count v (record { calm = calm; few = omega arith }))
    (λ u so. let done = transaction_handled (release_many count v).after so in record { here = done; told = λ u is. done })).here

pub commit_handled : (w : World) → Handled w → Handled (acts.commit w).after
unfolding acts.commit
commit_handled w handled =
    (led_then Handled (Holds IsCalm) Handled flush_now (λ u. commit_whole) w (now_led w handled) (λ u calm. let done = whole_committed (flush_now w).after calm in record { here = done; told = λ u is. done })).here

nests : (x : World) → IsDeep x.own → Handled ((changes session_nested >>= λ u. by_own (λ session. give session.drawn.drawn)) x).after
unfolding changes ◌>>=◌ by_own give
nests x deep = nested_handles x.own deep

begin_handled : (v : World) → IsDeep v.own → Handled (begin_savepoint v).after
unfolding begin_savepoint
begin_handled v deep =
    let there : IsDeep (on_store with_notes call.savepoint v).after.own = (keeping.noted IsDeep (λ events own d. deep_noted _ own d) call.savepoint).kept v deep in
    (led_then Handled (Holds IsDeep) Handled (on_store with_notes call.savepoint) (λ u. changes session_nested >>= λ u. by_own (λ session. give session.drawn.drawn)) v (record { here = there.calm.handles; told = λ u is. there })
    (λ u d. let done = nests (on_store with_notes call.savepoint v).after d in record { here = done; told = λ n is. done })).here

nested_asked : (w : World) → Handled w → IsLed Handled (Holds IsDeep) (enter_nested w)
unfolding enter_nested
nested_asked w handled =
    led_then Handled (Holds IsDeep) (Holds IsDeep) enter (λ u. checked limit_fault) w (enter_deep w handled) (λ u deep. led_checked Handled (Holds IsDeep) limit_fault (enter w).after deep.calm.handles (λ none. deep))

pub nested_handled : (w : World) → Handled w → Handled (acts.begin_nested w).after
unfolding acts.begin_nested
nested_handled w handled = acted IsDeep deep_noted deep_with deep_read (λ own d. d.calm) enter_nested begin_savepoint w (nested_asked w handled) begin_handled

handle_asked : (handle : ℕ) (w : World) → Handled w → IsLed Handled (Holds IsCalm) (check_handle handle w)
unfolding check_handle
handle_asked handle w handled =
    led_then Handled (Holds IsCalm) (Holds IsCalm) (checked pending_fault) (λ u. checked (handle_fault handle)) w
    (led_checked Handled (Holds IsCalm) pending_fault w handled (λ none. record { handles = handled; well = well_of w.own.failed none }))
    (λ u calm. led_checked Handled (Holds IsCalm) (handle_fault handle) (checked pending_fault w).after calm.handles (λ none. calm))

handle_released : (handle : ℕ) (v : World) → IsCalm v.own → Handled (release_handle handle v).after
unfolding release_handle by_own
handle_released handle v calm = ((keeping.place_released IsCalm (λ events own c. calm_noted _ own c) released_calm (place_of_handle v.own.drawn handle)).kept v calm).handles

pub handle_committed : (handle : ℕ) (w : World) → Handled w → Handled (acts.commit_handle handle w).after
unfolding acts.commit_handle
handle_committed handle w handled = acted IsCalm calm_noted calm_with calm_read (λ own c. c) (check_handle handle) (release_handle handle) w (handle_asked handle w handled) (handle_released handle)

pub rows_handled : (select : Select) (w : World) → Handled w → Handled (acts.rows select w).after
unfolding acts.rows
rows_handled select w handled =
    (led_then Handled (Holds IsCalm) Handled flush_now (λ u. statements.rows select) w (now_led w handled)
    (λ u calm. let done = (keeping.asks_rows HasHandles noted select).kept (flush_now w).after calm.handles in record { here = done; told = λ r is. done })).here

bulk_asked : (statement : Bulk) (w : World) → Handled w → IsLed Handled (Holds IsCalm) (statements.enter_bulk statement w)
unfolding statements.enter_bulk
bulk_asked statement w handled =
    led_then Handled (Holds IsCalm) (Holds IsCalm) enter (λ u. checked (statements.update_fault statement)) w (enter_calm w handled)
    (λ u calm. led_checked Handled (Holds IsCalm) (statements.update_fault statement) (enter w).after calm.handles (λ none. calm))

pub bulk_handled : (statement : Bulk) (w : World) → Handled w → Handled (acts.bulk statement w).after
unfolding acts.bulk
bulk_handled statement w handled =
    acted IsCalm calm_noted calm_with calm_read (λ own c. c) (statements.enter_bulk statement) (statements.bulk statement) w (bulk_asked statement w handled)
    (λ v calm. (keeping.sends_bulk HasHandles noted statement (λ own has. handles_with (graph_reread own.mapping (table_of statement) own.graph) own has)).kept v calm.handles)
