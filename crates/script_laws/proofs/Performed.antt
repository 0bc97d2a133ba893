-- Every line of a script keeps a session whole, and what names stand for.
use Rattle.std.proofs.Common.{◌≡◌, ◌≤◌, ℕ, ◌+◌, Bool, true, false, List, [], ◌∷◌, length, get_or, Option, None, Some, Result, Ok, Err, refl, sym, ap, ◌∙◌, subst, arith}
use Rattle.std.specs.Prelude.{if◌then◌else◌, nat_lt}
use Rattle.std.specs.List.{AllByRecursion}
use Rattle.std.proofs.lemmas.List.{get_or_at, length-append}
use Rattle.std.proofs.lemmas.List.Elements.{recursion_from_All}
use Rattle.base_core.specs.declared.ids.AttrNo.{AttrNo}
use Rattle.base_core.specs.declared.ids.ClassId.{ClassId}
use Rattle.base_core.specs.declared.ids.ObjId.{ObjId}
use Rattle.base_core.specs.declared.ids.TableId.{TableId}
use Rattle.base_core.specs.declared.refusal.LimitKind.TheVariants.{Objects}
use Rattle.base_core.specs.declared.refusal.Refusal.{Refusal}
use Rattle.base_core.specs.declared.refusal.Refusal.TheVariants.{LimitReached}
use Rattle.base_core.specs.declared.value.Value.{Value}
use Rattle.class_types.specs.Rules.{Rules}
use Rattle.class_mapping.specs.Mapped.{IsAttribute, IsClass}
use Rattle.keeper_core.specs.Calls as call
use Rattle.table_laws.specs.Legality.{Keeps}
use Rattle.table_laws.proofs.EachJoin.{keeps_each, keeps_give, keeps_then}
use Rattle.object_arena.specs.Graph.{Graph, fresh_object, make, no_object, object_at, object_limit, place_of, with_fresh, with_object}
use Rattle.object_arena.proofs.ClassLemmas.{classes_set}
use Rattle.keeper_core.specs.Programs.{Event, Run, ◌>>=◌, continue_from, give}
use Rattle.keeper_core.specs.Beside.{by_own, changes, on_own, on_store}
use Rattle.keeper_core.specs.Store.{Store}
use Rattle.schema_core.specs.DependencyOrder.{table_ids}
use Rattle.session_scopes.specs.Making.{first_given_fault, made_unless as object_unless, object_made, object_with}
use Rattle.session_scopes.specs.Scoping.{session_nested}
use Rattle.session_scopes.specs.SessionState.{AreThereStill, GoesOn, IsMadeOf, SessionState, with_notes}
use Rattle.session_scopes.proofs.SessionLemmas.{there_made, there_still}
use Rattle.session_calls.specs.Parts.{World}
use Rattle.session_calls.proofs.Joining.{goes_itself}
use Rattle.session_acts.specs.Flush.{flush}
use Rattle.session_acts.specs.Steps as acts
use Rattle.session_tables.specs.Dump.{Filled, scan_each, scan_one, scan_tables}
use Rattle.relations.specs.declared.calls.LinkCall.TheVariants.{Append, Remove, Set}
use Rattle.session_links.specs.Reading.{AreToldMade}
use Rattle.session_links.specs.declared.reading.Related.{Related}
use Rattle.session_links.specs.declared.reading.Related.TheVariants.{Many, One}
use Rattle.load_queries.specs.Selectin.{IsOption}
use Rattle.session_loads.specs.Queries.{select_objects}
use Rattle.session_loads.specs.Reads.{change_collection, expire, get, read_cell, read_related, refresh}
use Rattle.session_load_laws.specs.Readings.{GetsTellMade, IsPlace, LinksTellMade, QueriesTellMade, Reading, ReadingsGoOn, ReadingsKeepWhole}
use Rattle.session_acts.specs.Savepoints.{begin_savepoint, enter_nested}
use Rattle.session_tables.specs.declared.tables.TableChange.TheVariants.{Create, Drop}
use Rattle.session_objects.specs.ValueSteps.{given_fault, made_unless, valid_made}
use Rattle.shell_parts.specs.declared.names.Bound.TheVariants.{Object as OneObject, Saved}
use Rattle.command_resolve.specs.declared.answer.Answer.{Answer}
use Rattle.command_resolve.specs.declared.answer.Answer.TheVariants as answer
use Rattle.command_resolve.specs.declared.resolved.Resolved.{Resolved}
use Rattle.command_resolve.specs.declared.resolved.Resolved.TheVariants as resolved
use Rattle.command_names.specs.Standing.{IsDrawn, IsOfDeclared, IsThere}
use Rattle.command_names.specs.Terms.{Bindings}
use Rattle.session_perform.specs.Performing.{IsReady, as_it_is, link_shown, program_of_resolved, telling}
use Rattle.session_perform.proofs.Sendable.{plain_but_for_keys}
use Rattle.shell_stage.specs.declared.stage.Stage.TheVariants.{Configured}
use Rattle.shell_stage.specs.Stages.{AreBound}
use Rattle.shell_stage.proofs.Bindings.{bound_same, bound_stays}
use Rattle.session_laws.specs.Health.Calls.{Call, after_call}
use Rattle.session_laws.specs.Preparing.{PreparationsLeaveReread}
use Rattle.session_laws.proofs.Health.Objects.{class_left}
use Rattle.session_laws.specs.Whole.{CallsKeepWhole, IsCallOf, IsHale}
use Rattle.session_laws.proofs.Whole.Keeping.{Holds}
use Rattle.session_laws.proofs.Whole.Programs as keeps
use Rattle.session_laws.proofs.Whole.Reads.{reads_bulk, reads_entered, reads_handle, reads_nested}
use Rattle.session_laws.proofs.Whole.Since.{IsKeyedSince, since_steps}
use Rattle.script_laws.specs.Lines.{LinesKeepWhole}
use Rattle.script_laws.proofs.Linked.{end_made, link_declared, link_there}
use Rattle.script_laws.proofs.Resolved.{Asks}

-- ---- what is told of an answer changes nothing

told_from : {A : Type 0} (P : World → Type 0) (events : List Event) (v : World) (r : Result A Refusal) (tell : A → Answer) → P v → P (continue_from events v r (λ a. give (tell a))).after
unfolding give
told_from P events v (Ok a) tell here = here
told_from P events v (Err e) tell here = here

told_after : {A : Type 0} (P : World → Type 0) (tell : A → Answer) (m : World → Run World A) (w : World) → P (m w).after → P (telling tell m w).after
unfolding ◌>>=◌
told_after P tell m w here = told_from P (m w).events (m w).after (m w).answer tell here

answered_from : {A : Type 0} (events : List Event) (v : World) (r : Result A Refusal) (tell : A → Answer) (a : Answer) → (continue_from events v r (λ a. give (tell a))).answer ≡ Ok a → (x : A) × (r ≡ Ok x) × (tell x ≡ a)
unfolding give
answered_from events v (Ok x) tell a is = (x, refl, cc)
answered_from events v (Err e) tell a is = absurd cc

told_answer : {A : Type 0} (tell : A → Answer) (m : World → Run World A) (w : World) (a : Answer) → (telling tell m w).answer ≡ Ok a → (x : A) × ((m w).answer ≡ Ok x) × (tell x ≡ a)
unfolding ◌>>=◌
told_answer tell m w a is = answered_from (m w).events (m w).after (m w).answer tell a is

-- ---- the tables are told as they are

module _ (P : Store → Type 0) where
  scanned : (table : TableId) (tables : Filled) → Keeps P (scan_one table tables)
  unfolding scan_one call.scan give
  scanned table tables = keeps_then P (call.scan table) _ (record { kept = λ w here. here }) (λ w rows here is. keeps_give P _)

  all_scanned : (order : List TableId) → AllByRecursion (λ table. (tables : Filled) → Keeps P (scan_one table tables)) order
  all_scanned [] = tt
  all_scanned (table ∷ order) = (scanned table, all_scanned order)

dump_hale : (w : World) → IsHale w → IsHale (scan_tables w).after
unfolding scan_tables scan_each by_own on_store
dump_hale w hale =
    let P : Store → Type 0 = λ store. IsHale (record { own = w.own; store = store }) in
    let order : List TableId = table_ids w.own.mapping.schema in
    (keeps_each P scan_one [] order (all_scanned P order)).kept w.store hale

dump_goes_on : (w : World) → GoesOn w.own (scan_tables w).after.own
unfolding scan_tables by_own on_store
dump_goes_on w = goes_itself w.own

-- ---- an object is made

record IsMaking (class : ClassId) (own : SessionState) (run : Run SessionState ObjId) : Type 0 where
  mapping : run.after.mapping ≡ own.mapping
  stay : AreThereStill own.graph run.after.graph
  drawn : own.drawn.drawn ≤ run.after.drawn.drawn
  made : (object : ObjId) → run.answer ≡ Ok object → IsMadeOf run.after.graph object class

not_made : (class : ClassId) (own : SessionState) (run : Run SessionState ObjId) (e : Refusal) → run.answer ≡ Err e → run.after ≡ own → IsMaking class own run
not_made class own run e refused same = record {
  mapping = ap (λ (s : SessionState). s.mapping) same;
  stay = λ object there. rw same (there, refl);
  drawn = rw same (omega arith);
  made = λ object is. absurd (let no : (let r : Result ObjId Refusal = Err e in r ≡ Ok object) = sym refused ∙ is in cc);
}

module _ (class : ClassId) (cells : List (AttrNo × Value)) (own : SessionState) where
  abbrev wider : Graph
  wider = with_fresh own.graph own.mapping class

  abbrev new_id : ObjId
  new_id = record { 0 = length own.graph.objects + 1 }

  abbrev now : Graph
  now = with_object wider new_id (object_with (object_at wider new_id) cells)

  made_now : (object : ObjId) → new_id ≡ object → IsMadeOf now object class
  made_now object same =
      let same_classes = classes_set wider now new_id (object_with (object_at wider new_id) cells) (class_left (object_at wider new_id) cells) refl in
      let fresh : object_at wider new_id ≡ fresh_object own.mapping class =
      ap (λ (p : ℕ). get_or wider.objects p no_object) (let e : place_of new_id ≡ length own.graph.objects = omega arith in e)
      ∙ get_or_at own.graph.objects (fresh_object own.mapping class) [] no_object (length own.graph.objects) refl in
      let long : length wider.objects ≡ length own.graph.objects + 1 = length-append own.graph.objects (fresh_object own.mapping class ∷ []) in
      subst (λ (o : ObjId). IsMadeOf now o class) same (there_made own.mapping wider now new_id class (omega arith, omega (arith, long)) fresh same_classes)

  room_makes : (room : Bool) (fault : Option Refusal) → IsMaking class own (object_unless fault cells own (if room then Ok (new_id, wider) else Err (LimitReached Objects)))
  room_makes room (Some fault) = not_made class own _ fault refl refl
  room_makes false None = not_made class own _ (LimitReached Objects) refl refl
  room_makes true None = record {
    mapping = refl;
    stay = there_still own.mapping own.graph wider now class refl (classes_set wider now new_id (object_with (object_at wider new_id) cells) (class_left (object_at wider new_id) cells) refl);
    drawn = omega arith;
    made = λ object is. made_now object (let same : new_id ≡ object = cc in same);
  }

  unless_makes : (fault : Option Refusal) → IsMaking class own (made_unless fault class cells own)
  unfolding object_made make
  unless_makes (Some fault) = not_made class own _ fault refl refl
  unless_makes None = room_makes (nat_lt (length own.graph.objects) object_limit) (first_given_fault own.mapping class cells)

  makes : (rules : Rules) → IsMaking class own (valid_made rules class cells own)
  unfolding valid_made
  makes rules = unless_makes (given_fault rules own.mapping class cells)

-- ---- a savepoint begins

-- the number that is answered is that of a savepoint that has begun
abbrev Draws : (World → Run World ℕ) → Type 0
Draws m = (w : World) (number : ℕ) → (m w).answer ≡ Ok number → IsDrawn (m w).after.own.drawn.drawn number

draws_from : {A : Type 0} (events : List Event) (v : World) (r : Result A Refusal) (next : A → World → Run World ℕ) → ((a : A) → Draws (next a)) → (number : ℕ) → (continue_from events v r next).answer ≡ Ok number → IsDrawn (continue_from events v r next).after.own.drawn.drawn number
draws_from events v (Ok a) next draws number is = draws a v number is
draws_from events v (Err e) next draws number is = absurd cc

draws_then : {A : Type 0} (m : World → Run World A) (next : A → World → Run World ℕ) → ((a : A) → Draws (next a)) → Draws (m >>= next)
unfolding ◌>>=◌
draws_then m next draws w number is = draws_from (m w).events (m w).after (m w).answer next draws number is

handle_drawn : Draws (changes session_nested >>= λ u. by_own (λ session. give session.drawn.drawn))
unfolding ◌>>=◌ changes by_own give
handle_drawn w number is =
    let same : w.own.drawn.drawn + 1 ≡ number = cc in
    (omega (arith, same), omega (arith, same))

nested_drawn : Draws acts.begin_nested
unfolding acts.begin_nested begin_savepoint
nested_drawn =
    draws_then enter_nested (λ u. flush >>= λ u. begin_savepoint)
    (λ u. draws_then flush (λ u. begin_savepoint) (λ u. draws_then (on_store with_notes call.savepoint) (λ u. (changes session_nested >>= λ u. by_own (λ session. give session.drawn.drawn))) (λ u. handle_drawn)))

-- ---- each case of a line

-- what is to be bound is there
abbrev pub IsBound : SessionState → Answer → Type 0
IsBound session (answer.Bind name thing) = IsThere session.graph session.drawn.drawn thing × IsOfDeclared session.mapping thing
IsBound session other = Unit {0}

-- a session is left whole, what names stand for is there still, and what is to be bound is there
pub record IsLeft (names : Bindings) (run : Run World Answer) : Type 0 where
  pub hale : IsHale run.after
  pub bound : AreBound (Configured run.after.own) names
  pub told : (a : Answer) → run.answer ≡ Ok a → IsBound run.after.own a

-- the laws of calls that read rows into objects, a flush among them
pub record ReadingLaws : Type 0 where
  pub prepares : PreparationsLeaveReread
  pub whole : ReadingsKeepWhole
  pub goes : ReadingsGoOn
  pub keys : GetsTellMade
  pub queries : QueriesTellMade
  pub links : LinksTellMade

-- what was read can be bound
bound_link : (v : World) → IsHale v → (name : List ℕ) (related : Related) → AreToldMade v.own.graph related → IsBound v.own (answer.Bind name (link_shown v.own.graph related))
bound_link v hale name related made =
    (link_there v.own.mapping v.own.graph v.own.drawn.drawn hale.keyed.fit related made, link_declared v.own.mapping v.own.graph v.own.drawn.drawn hale.keyed.fit related made)

module _ (law : CallsKeepWhole) (reads : ReadingLaws) (rules : Rules) (names : Bindings) where
  called : (call : Call) (w : World) → IsHale w → IsCallOf call w → IsHale (after_call rules call w)
  called call w hale of = law rules (call ∷ []) w hale (of, tt)

  told_left : {A : Type 0} (tell : A → Answer) (m : World → Run World A) (w : World) → ((own : SessionState) (a : A) → IsBound own (tell a)) → AreBound (Configured w.own) names → IsHale (m w).after → GoesOn w.own (m w).after.own → IsLeft names (telling tell m w)
  told_left tell m w binds bound hale same = record {
    hale = told_after IsHale tell m w hale;
    bound = told_after (λ v. AreBound (Configured v.own) names) tell m w (bound_same names w.own (m w).after.own same bound);
    told = λ a is. let from = told_answer tell m w a is in subst (IsBound (telling tell m w).after.own) from.2 (binds (telling tell m w).after.own from.0);
  }

  kept_left : {A : Type 0} (tell : A → Answer) (m : World → Run World A) (w : World) → ((own : SessionState) (a : A) → IsBound own (tell a)) → IsHale w → AreBound (Configured w.own) names → IsHale (m w).after → Keeps (Holds (IsKeyedSince w.own)) m → IsLeft names (telling tell m w)
  kept_left tell m w binds before bound hale keeps = told_left tell m w binds bound hale (keeps.kept w (record { keyed = before.keyed; same = goes_itself w.own })).same

  -- a call that flushes: what it keeps of a session is told of each
  flushed_left : {A : Type 0} (tell : A → Answer) (m : World → Run World A) (w : World) → ((own : SessionState) (a : A) → IsBound own (tell a)) → IsHale w → AreBound (Configured w.own) names → IsHale (m w).after
      → (IsKeyedSince w.own w.own → IsKeyedSince w.own (m w).after.own) → IsLeft names (telling tell m w)
  flushed_left tell m w binds before bound hale keeps = told_left tell m w binds bound hale (keeps (record { keyed = before.keyed; same = goes_itself w.own })).same

  -- an object is made, and bound
  made_left : (name : List ℕ) (class : ClassId) (cells : List (AttrNo × Value)) (w : World) → IsHale w → Asks w.own.mapping w.own.graph (resolved.New name class cells) → AreBound (Configured w.own) names → IsLeft names (program_of_resolved rules (resolved.New name class cells) w)
  unfolding on_own
  made_left name class cells w hale asks bound =
      let m : World → Run World ObjId = on_own (valid_made rules class cells) in
      let tell : ObjId → Answer = λ object. answer.Bind name (OneObject object class) in
      let making = makes class cells w.own rules in
      record {
        hale = told_after IsHale tell m w (called (Call.Make class cells) w hale asks);
        bound = told_after (λ v. AreBound (Configured v.own) names) tell m w (bound_stays names w.own (m w).after.own making.mapping making.stay making.drawn bound);
        told = λ a is.
            let from = told_answer tell m w a is in
            let there : IsBound (m w).after.own (tell from.0) = (making.made from.0 from.1, subst (λ mapped. IsClass mapped class) (sym making.mapping) asks.0) in
            subst (IsBound (telling tell m w).after.own) from.2 (told_after (λ v. IsBound v.own (tell from.0)) tell m w there);
      }

  -- a savepoint begins, and is bound
  nested_left : (name : List ℕ) (w : World) → IsHale w → AreBound (Configured w.own) names → IsLeft names (program_of_resolved rules (resolved.BeginNested name) w)
  nested_left name w hale bound =
      let m : World → Run World ℕ = acts.begin_nested in
      let tell : ℕ → Answer = λ handle. answer.Bind name (Saved handle) in
      let same = (keeps.begins_nested (IsKeyedSince w.own) (since_steps w.own) w (reads_nested reads.prepares w hale) (record { keyed = hale.keyed; same = goes_itself w.own })).same in
      record {
        hale = told_after IsHale tell m w (called Call.BeginNested w hale tt);
        bound = told_after (λ v. AreBound (Configured v.own) names) tell m w (bound_same names w.own (m w).after.own same bound);
        told = λ a is.
            let from = told_answer tell m w a is in
            let there : IsBound (m w).after.own (tell from.0) = (nested_drawn w from.0 from.1, tt) in
            subst (IsBound (telling tell m w).after.own) from.2 (told_after (λ v. IsBound v.own (tell from.0)) tell m w there);
      }

  -- what was read is shown, or bound
  shown_from : {A : Type 0} (events : List Event) (v : World) (r : Result A Refusal) (tell : A → SessionState → Answer) → ((a : A) → r ≡ Ok a → IsBound v.own (tell a v.own)) → IsHale v → AreBound (Configured v.own) names → IsLeft names (continue_from events v r (λ a. as_it_is (tell a)))
  unfolding by_own give
  shown_from events v (Ok a) tell binds hale bound = record { hale = hale; bound = bound; told = λ b is. subst (IsBound v.own) (let same : tell a v.own ≡ b = cc in same) (binds a refl) }
  shown_from events v (Err e) tell binds hale bound = record { hale = hale; bound = bound; told = λ b is. absurd cc }

  read_left : {A : Type 0} (m : World → Run World A) (tell : A → SessionState → Answer) (w : World) → AreBound (Configured w.own) names → IsHale (m w).after → GoesOn w.own (m w).after.own
      → ((a : A) → (m w).answer ≡ Ok a → IsBound (m w).after.own (tell a (m w).after.own)) → IsLeft names ((m >>= λ a. as_it_is (tell a)) w)
  unfolding ◌>>=◌
  read_left m tell w bound hale goes binds = shown_from (m w).events (m w).after (m w).answer tell binds hale (bound_same names w.own (m w).after.own goes bound)

  as_it_was : (a : Answer) (w : World) → ((own : SessionState) → IsBound own a) → IsHale w → AreBound (Configured w.own) names → IsLeft names (give a w)
  unfolding give
  as_it_was a w binds hale bound = record { hale = hale; bound = bound; told = λ b is. subst (IsBound w.own) (let same : a ≡ b = cc in same) (binds w.own) }

  module _ (w : World) (hale : IsHale w) (bound : AreBound (Configured w.own) names) where
    abbrev P : SessionState → Type 0
    P = IsKeyedSince w.own

    abbrev steps : keeps.AreSteps P
    steps = since_steps w.own

    has_attribute : (object : ObjId) (attr : AttrNo) (class : ClassId) → IsMadeOf w.own.graph object class → IsAttribute w.own.mapping class attr → IsAttribute w.own.mapping (object_at w.own.graph object).class attr
    has_attribute object attr class made inside = subst (λ (c : ClassId). IsAttribute w.own.mapping c attr) (sym made.1) inside

    pub line_left : (line : Resolved) → Asks w.own.mapping w.own.graph line → IsLeft names (program_of_resolved rules line w)
    unfolding by_own
    line_left resolved.CreateAll asks = kept_left _ _ w (λ own a. tt) hale bound (called (Call.ChangeTables Create) w hale tt) (keeps.changes_tables P steps Create)
    line_left resolved.DropAll asks = kept_left _ _ w (λ own a. tt) hale bound (called (Call.ChangeTables Drop) w hale tt) (keeps.changes_tables P steps Drop)
    line_left resolved.Dump asks = told_left answer.Tables scan_tables w (λ own a. tt) bound (dump_hale w hale) (dump_goes_on w)
    line_left (resolved.New name class cells) asks = made_left name class cells w hale asks bound
    line_left (resolved.Get name class key) asks =
        let after = reads.whole (Reading.Key class key) w asks hale in
        read_left (get class key) (λ found session. answer.Bind name (link_shown session.graph (One found))) w bound after (reads.goes (Reading.Key class key) w asks hale)
        (λ found is. bound_link (get class key w).after after name (One found) (end_made (get class key w).after.own.graph found (reads.keys class key found w asks hale is)))
    line_left (resolved.Objects name query) asks =
        let after = reads.whole (Reading.Objects query) w asks hale in
        read_left (select_objects query) (λ objects session. answer.Bind name (link_shown session.graph (Many objects))) w bound after (reads.goes (Reading.Objects query) w asks hale)
        (λ objects is. bound_link (select_objects query w).after after name (Many objects) (reads.queries query objects w asks hale is))
    line_left (resolved.Related name object relation) asks =
        let place : IsPlace object relation w.own = record { made = asks.0; there = asks.1 } in
        let after = reads.whole (Reading.Link object relation) w place hale in
        read_left (read_related object relation) (λ related session. answer.Bind name (link_shown session.graph related)) w bound after (reads.goes (Reading.Link object relation) w place hale)
        (λ related is. bound_link (read_related object relation w).after after name related (reads.links object relation related w place hale is))
    line_left (resolved.BeginNested name) asks = nested_left name w hale bound
    line_left (resolved.SetCell object attr value) asks =
        let inside = has_attribute object attr asks.0 asks.1 asks.2 in
        told_left _ _ w (λ own a. tt) bound (called (Call.Set object attr value) w hale (asks.1.0, inside))
        (keeps.sets P steps object attr value rules w inside (record { keyed = hale.keyed; same = goes_itself w.own })).same
    line_left (resolved.ChangeLink owner relation (Set end)) asks =
        told_left _ _ w (λ own a. tt) bound (called (Call.ChangeLink owner relation (Set end)) w hale asks) (keeps.links P steps owner relation (Set end) w asks (record { keyed = hale.keyed; same = goes_itself w.own })).same
    line_left (resolved.ChangeLink owner relation (Append member)) asks =
        told_left _ (change_collection owner relation (Append member)) w (λ own a. tt) bound (reads.whole (Reading.Change owner relation (Append member)) w asks hale) (reads.goes (Reading.Change owner relation (Append member)) w asks hale)
    line_left (resolved.ChangeLink owner relation (Remove member)) asks =
        told_left _ (change_collection owner relation (Remove member)) w (λ own a. tt) bound (reads.whole (Reading.Change owner relation (Remove member)) w asks hale) (reads.goes (Reading.Change owner relation (Remove member)) w asks hale)
    line_left (resolved.Add object) asks = kept_left _ _ w (λ own a. tt) hale bound (called (Call.Add object) w hale asks) (keeps.adds P steps object)
    line_left (resolved.Delete object) asks = kept_left _ _ w (λ own a. tt) hale bound (called (Call.Delete object) w hale asks) (keeps.deletes P steps object)
    line_left (resolved.Expunge object) asks = kept_left _ _ w (λ own a. tt) hale bound (called (Call.Expunge object) w hale asks) (keeps.expunges P steps object)
    line_left (resolved.Expire object) asks =
        told_left _ (expire object) w (λ own a. tt) bound (reads.whole (Reading.Expiry object) w asks hale) (reads.goes (Reading.Expiry object) w asks hale)
    line_left (resolved.Refresh object) asks =
        told_left _ (refresh object) w (λ own a. tt) bound (reads.whole (Reading.Anew object) w asks hale) (reads.goes (Reading.Anew object) w asks hale)
    line_left (resolved.Show thing) asks = as_it_was (answer.Thing thing) w (λ own. tt) hale bound
    line_left (resolved.ShowCell object attr) asks =
        told_left answer.Value (read_cell object attr) w (λ own a. tt) bound (reads.whole (Reading.Cell object attr) w asks hale) (reads.goes (Reading.Cell object attr) w asks hale)
    line_left (resolved.ShowLink object relation) asks =
        let place : IsPlace object relation w.own = record { made = asks.0; there = asks.1 } in
        read_left (read_related object relation) (λ related session. answer.Thing (link_shown session.graph related)) w bound (reads.whole (Reading.Link object relation) w place hale) (reads.goes (Reading.Link object relation) w place hale) (λ related is. tt)
    line_left (resolved.State object) asks = as_it_was (answer.State (object_at w.own.graph object).state) w (λ own. tt) hale bound
    line_left (resolved.Same object other) asks = as_it_was _ w (λ own. tt) hale bound
    line_left resolved.Flush asks = flushed_left _ _ w (λ own a. tt) hale bound (called Call.Flush w hale tt) (keeps.flushes P steps w (reads_entered reads.prepares w hale))
    line_left (resolved.Commit None) asks = flushed_left _ _ w (λ own a. tt) hale bound (called Call.Commit w hale tt) (keeps.commits P steps w (reads_entered reads.prepares w hale))
    line_left (resolved.Commit (Some handle)) asks =
        flushed_left _ _ w (λ own a. tt) hale bound (called (Call.CommitHandle handle) w hale tt) (keeps.commits_handle P steps handle w (reads_handle reads.prepares handle w hale))
    line_left (resolved.Rollback None) asks = kept_left _ _ w (λ own a. tt) hale bound (called Call.Rollback w hale tt) (keeps.rolls_back P steps)
    line_left (resolved.Rollback (Some handle)) asks = kept_left _ _ w (λ own a. tt) hale bound (called (Call.RollbackHandle handle) w hale tt) (keeps.rolls_back_to P steps handle)
    line_left resolved.Close asks = kept_left _ _ w (λ own a. tt) hale bound (called Call.Close w hale tt) (keeps.closes P steps)
    line_left (resolved.Rows select) asks = flushed_left answer.Rows _ w (λ own a. tt) hale bound (called (Call.Rows select) w hale tt) (keeps.asks_rows P steps select w (reads_entered reads.prepares w hale))
    line_left (resolved.Bulk statement) asks =
        flushed_left answer.Count _ w (λ own a. tt) hale bound (called (Call.Write statement) w hale asks) (keeps.sends_bulk P steps statement w (reads_bulk reads.prepares statement w hale))

-- ---- lines of which all that they name is there

ready_asks : (own : SessionState) (line : Resolved) → IsReady own line → Asks own.mapping own.graph line
ready_asks own (resolved.New name class cells) ready = (ready.0, recursion_from_All (λ (one : AttrNo × Value). IsAttribute own.mapping class one.0) cells ready.1)
ready_asks own (resolved.SetCell object attr value) ready = ((object_at own.graph object).class, (ready.0.0, refl), ready.0.1)
ready_asks own (resolved.ChangeLink owner relation change) ready = record { made = ready.0.0; there = ready.0.1.0; form = ready.0.1.1; end = ready.1 }
ready_asks own (resolved.Add object) ready = ready
ready_asks own (resolved.Delete object) ready = ready
ready_asks own (resolved.Expunge object) ready = ready
ready_asks own (resolved.Expire object) ready = ready
ready_asks own (resolved.Get name class key) ready = ready.0
ready_asks own (resolved.Objects name query) ready =
    (ready.1, recursion_from_All (IsOption own.mapping query.class) query.joined ready.0.joined, recursion_from_All (IsOption own.mapping query.class) query.selectin ready.0.selectin)
ready_asks own (resolved.Related name object relation) ready = ready
ready_asks own (resolved.Refresh object) ready = ready
ready_asks own (resolved.ShowCell object attr) ready = ready.0
ready_asks own (resolved.ShowLink object relation) ready = ready
ready_asks own (resolved.Bulk statement) ready = plain_but_for_keys own.mapping.schema statement ready.0 ready.1
ready_asks own _ ready = tt

pub lines_law : CallsKeepWhole → ReadingLaws → LinesKeepWhole
lines_law law reads rules line w hale ready = (line_left law reads rules [] w hale ((λ name thing is. absurd cc), (λ name thing is. absurd cc)) line (ready_asks w.own line ready)).hale
