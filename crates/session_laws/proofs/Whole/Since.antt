-- What sessions keep in each step: that their objects fit, and that the objects that were there are there still.
use Rattle.std.proofs.Common.{◌≡◌, ◌≤◌, ℕ, true, List, length, Option, None, Some, refl, arith}
use Rattle.std.specs.List.{AllByRecursion}
use Rattle.base_core.specs.declared.ids.AttrNo.{AttrNo}
use Rattle.base_core.specs.declared.ids.ClassId.{ClassId}
use Rattle.base_core.specs.declared.ids.ObjId.{ObjId}
use Rattle.base_core.specs.declared.refusal.Refusal.{Refusal}
use Rattle.base_core.specs.declared.value.Value.{Value}
use Rattle.class_types.specs.Rules.{Rules}
use Rattle.class_mapping.specs.Mapped.{IsAttribute, IsClass}
use Rattle.object_arena.specs.declared.object.Object.{Object}
use Rattle.object_arena.specs.Every.{classes_of}
use Rattle.object_arena.specs.Graph.{Graph, cell_in, cell_put, object_at, with_object, with_value}
use Rattle.object_arena.proofs.ClassLemmas.{classes_set}
use Rattle.graph_flushed.specs.Flushed.{graph_flushed, written_with}
use Rattle.keeper_core.specs.Beside.{on_own}
use Rattle.session_parts.specs.Ends.{object_committed, object_left, object_unmarked}
use Rattle.session_scopes.specs.Changes.{changed_unless, delete_fault, deletion_marked, value_put}
use Rattle.session_scopes.specs.Scoping.{session_restored}
use Rattle.session_scopes.specs.SessionState.{GoesOn, SameObjects, SessionState}
use Rattle.session_scopes.proofs.SessionLemmas.{goes_more, goes_on}
use Rattle.session_calls.specs.Parts.{World}
use Rattle.session_calls.proofs.Joining.{same_itself, same_more}
use Rattle.session_objects.specs.Taking.{coming_objects, session_added, session_joined}
use Rattle.session_statements.specs.Rewriting.{graph_reread, is_reread, reread_of}
use Rattle.session_objects.specs.ValueSteps.{given_fault, made_unless, valid_made}
use Rattle.session_laws.proofs.Calls.Leaving.{expunged_keyed, expunged_same}
use Rattle.session_laws.proofs.Health.Fits.{classes_written}
use Rattle.session_laws.specs.Whole.{IsKeyed}
use Rattle.session_laws.proofs.OwnRows.Standing.{hierarchies}
use Rattle.session_laws.proofs.Loads.Sessions.{loaded_goes_on, loaded_keyed}
use Rattle.session_laws.proofs.Whole.Keyed.{added_keyed, begun_keyed, closed_keyed, committed_keyed, flushed_keyed, given_keyed, if_class, made_keyed, mark_keyed, nested_keyed, released_keyed, reread_keyed, restored_keyed, value_keyed}
use Rattle.session_laws.proofs.Whole.Linked.{changed_keyed, changed_same, joined_same, regraphed, with_one}
use Rattle.session_laws.proofs.Whole.Programs.{AreSteps}
use Rattle.session_laws.proofs.Whole.Refit.{classes_all, committed_class, restored_refit}

-- ---- objects that fit, and keys

same_keys : (own now : SessionState) → now.mapping ≡ own.mapping → now.graph ≡ own.graph → now.frames.scopes ≡ own.frames.scopes → IsKeyed own → IsKeyed now
same_keys own now mapping graph scopes keyed = record { well = rw mapping keyed.well; fit = rw mapping (rw graph keyed.fit); keys = rw mapping (rw graph (rw scopes keyed.keys)) }

pub keyed_steps : AreSteps IsKeyed
keyed_steps = record {
  notes = λ events own keyed. same_keys own _ refl refl refl keyed;
  warned = λ rows own keyed. same_keys own _ refl refl refl keyed;
  begun = begun_keyed;
  nested = nested_keyed;
  released = released_keyed;
  restored = restored_keyed;
  failed = λ own keyed. same_keys (session_restored (length own.frames.scopes) own) _ refl refl refl (restored_keyed (length own.frames.scopes) own keyed);
  rolled = λ count own keyed. same_keys own _ refl refl refl keyed;
  committed = committed_keyed;
  closed = closed_keyed;
  pairs = λ own keyed. (hierarchies own.mapping keyed.well).paired;
  flushed = flushed_keyed;
  given = given_keyed;
  reread = reread_keyed;
  added = added_keyed;
  expunged = expunged_keyed;
  linked = changed_keyed;
  marked = mark_keyed;
  put = value_keyed;
  loaded = loaded_keyed;
}

made_by : (fault : Option Refusal) (class : ClassId) (given : List (AttrNo × Value)) (own : SessionState) → IsClass own.mapping class → AllByRecursion (λ (one : AttrNo × Value). IsAttribute own.mapping class one.0) given → IsKeyed own → IsKeyed (made_unless fault class given own).after
made_by None class given own declared attributes keyed = made_keyed class given own declared attributes keyed
made_by (Some fault) class given own declared attributes keyed = keyed

pub make_keyed : (rules : Rules) (class : ClassId) (given : List (AttrNo × Value)) (w : World) → IsClass w.own.mapping class → AllByRecursion (λ (one : AttrNo × Value). IsAttribute w.own.mapping class one.0) given → IsKeyed w.own → IsKeyed (on_own (valid_made rules class given) w).after.own
unfolding on_own valid_made
make_keyed rules class given w declared attributes keyed = made_by (given_fault rules w.own.mapping class given) class given w.own declared attributes keyed

-- ---- the objects are there still

-- the objects fit, and all that were there at first are there still, of their classes
pub record IsKeyedSince (first own : SessionState) : Type 0 where
  pub keyed : IsKeyed own
  pub same : GoesOn first own

pub added_same : (object : ObjId) (own : SessionState) → SameObjects own (session_added object own)
added_same object own =
    let joined : SessionState = session_joined (coming_objects own.mapping own.graph object) own in
    same_more (joined_same (coming_objects own.mapping own.graph object) own) (with_one joined object (object_unmarked (object_at joined.graph object)) refl)

unless_same : (fault : Option Refusal) (graph : Graph) (own : SessionState) → classes_of graph ≡ classes_of own.graph → SameObjects own (changed_unless fault graph own).after
unless_same None graph own same = regraphed own graph same
unless_same (Some fault) graph own same = same_itself own

marked_same : (object : ObjId) (own : SessionState) → SameObjects own (deletion_marked object own).after
unfolding deletion_marked
marked_same object own =
    let new : Object = record (object_at own.graph object) { marked = true } in
    unless_same (delete_fault (object_at own.graph object)) (with_object own.graph object new) own (classes_set own.graph (with_object own.graph object new) object new refl refl)

put_same : (object : ObjId) (attr : AttrNo) (value : Value) (own : SessionState) → SameObjects own (value_put object attr value own).after
unfolding value_put
put_same object attr value own =
    let o : Object = object_at own.graph object in
    let new : Object = cell_put o attr (record (cell_in o attr) { value = Some value }) in
    unless_same _ (with_value own.graph object attr value) own (classes_set own.graph (with_value own.graph object attr value) object new refl refl)

module _ (first : SessionState) where
  went_on : (own now : SessionState) → IsKeyedSince first own → (IsKeyed own → IsKeyed now) → SameObjects own now → IsKeyedSince first now
  went_on own now since keeps same = record { keyed = keeps since.keyed; same = goes_more since.same (goes_on same) }

  stays : (own now : SessionState) → IsKeyedSince first own → (IsKeyed own → IsKeyed now) → now.mapping ≡ own.mapping → now.graph ≡ own.graph → own.drawn.drawn ≤ now.drawn.drawn → IsKeyedSince first now
  stays own now since keeps mapping graph drawn = went_on own now since keeps (record { mapping = mapping; classes = rw graph refl; drawn = drawn })

  restored_since : (depth : ℕ) (own : SessionState) → IsKeyedSince first own → IsKeyedSince first (session_restored depth own)
  restored_since depth own since =
      went_on own (session_restored depth own) since (restored_keyed depth own)
      (record { mapping = refl; classes = (restored_refit depth own.frames own.graph own.mapping since.keyed.fit since.keyed.keys).same; drawn = omega arith })

  pub since_steps : AreSteps (IsKeyedSince first)
  since_steps = record {
    notes = λ events own since. stays own _ since (keyed_steps.notes events own) refl refl (omega arith);
    warned = λ rows own since. stays own _ since (keyed_steps.warned rows own) refl refl (omega arith);
    begun = λ own since. stays own _ since (begun_keyed own) refl refl (omega arith);
    nested = λ own since. stays own _ since (nested_keyed own) refl refl (omega arith);
    released = λ own since. stays own _ since (released_keyed own) refl refl (omega arith);
    restored = λ depth own since. restored_since depth own since;
    failed = λ own since.
        let inner : SessionState = session_restored (length own.frames.scopes) own in
        stays inner _ (restored_since (length own.frames.scopes) own since) (same_keys inner _ refl refl refl) refl refl (omega arith);
    rolled = λ count own since. stays own _ since (keyed_steps.rolled count own) refl refl (omega arith);
    committed = λ own since. went_on own _ since (committed_keyed own) (record { mapping = refl; classes = classes_all object_committed own.graph (λ o. committed_class o.state o); drawn = omega arith });
    closed = λ own since. went_on own _ since (closed_keyed own) (record { mapping = refl; classes = classes_all object_left own.graph (λ o. refl); drawn = omega arith });
    pairs = λ own since. keyed_steps.pairs own since.keyed;
    given = λ before own back same given was since. went_on own _ since (given_keyed before own back same given was.keyed) (record { mapping = refl; classes = given.same; drawn = omega arith });
    flushed = λ prepared rows keys own clear since.
        went_on own _ since (flushed_keyed prepared rows keys own clear) (regraphed own (graph_flushed own.mapping prepared rows keys own.graph) (classes_written (written_with own.mapping prepared rows keys own.graph)));
    reread = λ table own since.
        went_on own _ since (reread_keyed table own) (regraphed own (graph_reread own.mapping table own.graph) (classes_all (reread_of own.mapping table) own.graph (λ o. if_class (is_reread own.mapping table o) o)));
    added = λ object own since. went_on own _ since (added_keyed object own) (added_same object own);
    expunged = λ object own since. went_on own _ since (expunged_keyed object own) (expunged_same object own);
    linked = λ owner place call own on since. went_on own _ since (changed_keyed owner place call own on) (changed_same owner place call own on since.keyed);
    marked = λ object own since. went_on own _ since (mark_keyed object own) (marked_same object own);
    put = λ object attr value own inside none since. went_on own _ since (value_keyed object attr value own inside none) (put_same object attr value own);
    loaded = λ after own fit grows since. record { keyed = loaded_keyed after own fit grows since.keyed; same = goes_more since.same (loaded_goes_on after own grows) };
  }
