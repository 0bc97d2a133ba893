-- What becomes of a session leaves its objects fitting, and their keys at the start of each scope.
use Rattle.std.proofs.Common.{◌≡◌, ℕ, ◌+◌, ◌-◌, ◌<◌, ◌≤◌, Bool, true, false, List, [], ◌∷◌, ◌++◌, append_assoc, drop, length, get_or, Option, None, Some, Ok, Err, ⊎_elim, refl, sym, ap, ◌∙◌, subst, arith}
use Rattle.std.specs.Prelude.{if◌then◌else◌, nat_lt}
use Rattle.std.specs.List.{All, AllByRecursion}
use Rattle.std.proofs.lemmas.Bool.{and_from, and_parts, cases_lt}
use Rattle.std.proofs.lemmas.List.{append-nil, get_or_at}
use Rattle.std.proofs.lemmas.List.Elements.{All-cons, All-nil, recursion_from_All}
use Rattle.base_core.specs.Counts.{one_more}
use Rattle.base_core.specs.declared.ids.AttrNo.{AttrNo}
use Rattle.base_core.specs.declared.ids.ClassId.{ClassId}
use Rattle.base_core.specs.declared.ids.ObjId.{ObjId}
use Rattle.base_core.specs.declared.ids.TableId.{TableId}
use Rattle.base_core.specs.declared.refusal.LimitKind.TheVariants.{Objects}
use Rattle.base_core.specs.declared.refusal.Refusal.{Refusal}
use Rattle.base_core.specs.declared.refusal.Refusal.TheVariants.{LimitReached, TypeMismatch}
use Rattle.base_core.specs.declared.value.Kind.{Kind}
use Rattle.base_core.specs.declared.value.Value.{Value}
use Rattle.schema_core.specs.Catalog.{same_kind}
use Rattle.schema_core.specs.Refusals.{kind_fault}
use Rattle.schema_core.specs.Tables.{kind_of_value}
use Rattle.schema_core.specs.declared.changes.RowChanges.{RowChanges}
use Rattle.class_mapping.specs.Mapped.{IsAttribute, IsClass, Mapped, attribute_of, attributes_of, no_attribute}
use Rattle.object_arena.specs.declared.object.Cell.{Cell}
use Rattle.object_arena.specs.declared.object.Object.{Object}
use Rattle.object_arena.specs.declared.object.State.{State}
use Rattle.object_arena.specs.declared.object.State.TheVariants.{Transient, Pending, Persistent, Deleted, Detached}
use Rattle.object_arena.specs.Every.{classes_of}
use Rattle.object_arena.specs.Fit.{IsFit, cell_fits, is_of_kind, links_fit, value_fits}
use Rattle.object_arena.specs.Graph.{Graph, cell_in, cell_put, either_fault, expired_object, fresh_object, key_fault, make, no_object, object_at, object_limit, place_of, value_fault, with_fresh, with_object, with_value}
use Rattle.object_arena.proofs.FitLemmas.{fit_fresh}
use Rattle.object_arena.proofs.LinkLemmas.{links_grown}
use Rattle.object_arena.proofs.PartLemmas.{pointwise_at, pointwise_set}
use Rattle.object_rows.specs.declared.prepared.Prepared.{Prepared}
use Rattle.graph_flushed.specs.Fitting.{AreClearable}
use Rattle.graph_flushed.specs.Flushed.{graph_flushed, written_with}
use Rattle.load_filling.specs.Growing.{Grows}
use Rattle.savepoints.specs.Scopes.{HasKeys, begun_at, scope_released}
use Rattle.savepoints.proofs.KeyLemmas.{all_kept, all_made, keys_begun, keys_left}
use Rattle.session_parts.specs.Ends.{object_committed, object_left, object_unmarked}
use Rattle.session_scopes.specs.Changes.{changed_unless, delete_fault, deletion_marked, value_put}
use Rattle.session_scopes.specs.Making.{first_given_fault, given_fault, made_unless, object_made, object_with, unwritten_cell}
use Rattle.session_scopes.specs.Scoping.{session_begun, session_closed, session_committed, session_nested, session_released, session_restored}
use Rattle.session_scopes.specs.SessionState.{SessionState, with_graph}
use Rattle.session_scopes.proofs.SessionLemmas.{around_scopes}
use Rattle.session_objects.specs.Taking.{added_then, changed_values, coming_objects, object_taken, session_added, session_joined, session_taken, taken_under}
use Rattle.session_objects.proofs.TakingLemmas.{changed_fit}
use Rattle.session_statements.specs.Rewriting.{expired_if, graph_reread, is_reread, reread_of, session_reread}
use Rattle.session_acts.specs.Flush.{session_flushed}
use Rattle.session_laws.proofs.Sound.Touches.{between_scopes}
use Rattle.session_laws.proofs.Calls.Making.{made}
use Rattle.session_laws.proofs.Health.Fits.{classes_written, flushed_fit}
use Rattle.session_laws.proofs.Health.Objects.{class_left}
use Rattle.session_laws.specs.Scopes.{object_in}
use Rattle.session_laws.specs.Whole.{IsKeyed}
use Rattle.session_laws.proofs.Flushes.GivenBack.{IsGivenBack}
use Rattle.session_laws.proofs.Whole.Refit.{FitsIn, IsRefit, committed_class, committed_fits, expired_fits, fits_each, left_fits, refit, refit_all, refit_with, restored_refit}

-- ---- other objects

pub graph_keyed : (graph : Graph) (own : SessionState) → IsRefit own.mapping own.graph graph → IsKeyed own → IsKeyed (with_graph graph own)
graph_keyed graph own change keyed = record {
  well = keyed.well;
  fit = change.fit;
  keys = subst (All (HasKeys own.mapping graph)) (sym (between_scopes own.graph graph own.frames)) (all_kept own.mapping own.graph graph own.frames.scopes change.same keyed.keys);
}

pub object_keyed : (object : ObjId) (new : Object) (own : SessionState) → new.class ≡ (object_at own.graph object).class → (place_of object < length own.graph.objects → FitsIn own.mapping own.graph.roots new) → IsKeyed own → IsKeyed (with_graph (with_object own.graph object new) own)
object_keyed object new own class one keyed = graph_keyed (with_object own.graph object new) own (refit_with own.mapping own.graph object new keyed.fit class one) keyed

pub its_fit : (object : ObjId) (own : SessionState) → IsKeyed own → place_of object < length own.graph.objects → FitsIn own.mapping own.graph.roots (object_at own.graph object)
its_fit object own keyed less = fits_each own.mapping own.graph keyed.fit (place_of object) less

unless_keyed : (fault : Option Refusal) (graph : Graph) (own : SessionState) → IsKeyed own → (fault ≡ None → IsKeyed (with_graph graph own)) → IsKeyed (changed_unless fault graph own).after
unless_keyed None graph own keyed later = later refl
unless_keyed (Some fault) graph own keyed later = keyed

-- ---- values of their attributes' kinds

kind_taken : (wanted : Kind) (found : Option Kind) → kind_fault wanted found ≡ None → is_of_kind wanted found ≡ true
kind_taken wanted None none = refl
kind_taken wanted (Some found) none = by (same_kind wanted found) none
  where
    by : (same : Bool) → (if same then None else Some (TypeMismatch wanted found)) ≡ None → same ≡ true
    by true none = refl
    by false none = absurd cc

put_fits : (mapped : Mapped) (roots : List ClassId) (o : Object) (attr : AttrNo) (cell : Cell) → FitsIn mapped roots o → IsAttribute mapped o.class attr → cell_fits (attribute_of mapped o.class attr) cell ≡ true → FitsIn mapped roots (cell_put o attr cell)
put_fits mapped roots o attr cell fits inside good = record {
  own = record {
    class = fits.own.class;
    cells = pointwise_set cell_fits (attributes_of mapped o.class) o.cells attr.0 cell no_attribute fits.own.cells good inside;
    identity = fits.own.identity;
    links = fits.own.links;
  };
  links = fits.links;
}

pub value_keyed : (object : ObjId) (attr : AttrNo) (value : Value) (own : SessionState) → IsAttribute own.mapping (object_at own.graph object).class attr → value_fault own.mapping (object_at own.graph object) attr value ≡ None → IsKeyed own → IsKeyed (value_put object attr value own).after
unfolding value_put
value_keyed object attr value own inside none keyed =
    let o : Object = object_at own.graph object in
    let put : Cell = record (cell_in o attr) { value = Some value } in
    unless_keyed (key_fault own.mapping o attr) (with_value own.graph object attr value) own keyed
    (λ free.
    object_keyed object (cell_put o attr put) own refl
    (λ less.
    let fits = its_fit object own keyed less in
    let attribute = attribute_of own.mapping o.class attr in
    let old = pointwise_at cell_fits (attributes_of own.mapping o.class) o.cells attr.0 no_attribute _ fits.own.cells inside in
    put_fits own.mapping own.graph.roots o attr put fits inside
    (and_from (value_fits attribute (Some value)) (value_fits attribute (cell_in o attr).base) (kind_taken attribute.kind (kind_of_value value) none)
    (and_parts (value_fits attribute (cell_in o attr).value) (value_fits attribute (cell_in o attr).base) old).1)) keyed)

both_none : (first second : Option Refusal) → either_fault first second ≡ None → (first ≡ None) × (second ≡ None)
both_none None second none = (refl, none)
both_none (Some fault) second none = absurd cc

given_fits : (mapped : Mapped) (roots : List ClassId) (o : Object) (given : List (AttrNo × Value)) → FitsIn mapped roots o → AllByRecursion (λ (one : AttrNo × Value). IsAttribute mapped o.class one.0) given → first_given_fault mapped o.class given ≡ None → FitsIn mapped roots (object_with o given)
given_fits mapped roots o [] fits all none = fits
given_fits mapped roots o (one ∷ others) fits all none =
    let both = both_none (given_fault mapped o.class one) (first_given_fault mapped o.class others) none in
    let attribute = attribute_of mapped o.class one.0 in
    given_fits mapped roots (cell_put o one.0 (unwritten_cell one.1)) others
    (put_fits mapped roots o one.0 (unwritten_cell one.1) fits all.0 (and_from (value_fits attribute (Some one.1)) true (kind_taken attribute.kind (kind_of_value one.1) both.0) refl)) all.1 both.1

-- ---- marks

pub mark_keyed : (object : ObjId) (own : SessionState) → IsKeyed own → IsKeyed (deletion_marked object own).after
unfolding deletion_marked
mark_keyed object own keyed =
    let o : Object = object_at own.graph object in
    unless_keyed (delete_fault o) (with_object own.graph object (record o { marked = true })) own keyed
    (λ none. object_keyed object (record o { marked = true }) own refl (λ less. let fits = its_fit object own keyed less in record { own = record { class = fits.own.class; cells = fits.own.cells; identity = fits.own.identity; links = fits.own.links }; links = fits.links }) keyed)

-- ---- an object is made

new_keyed : (class : ClassId) (given : List (AttrNo × Value)) (own : SessionState) → IsClass own.mapping class → AllByRecursion (λ (one : AttrNo × Value). IsAttribute own.mapping class one.0) given → first_given_fault own.mapping class given ≡ None → IsKeyed own
    → IsKeyed (record own { graph = made own.mapping class given own.graph })
new_keyed class given own declared attributes none keyed =
    let wider : Graph = with_fresh own.graph own.mapping class in
    let id : ObjId = record { 0 = length own.graph.objects + 1 } in
    let now : Graph = made own.mapping class given own.graph in
    let fit : IsFit own.mapping wider = fit_fresh own.mapping own.graph wider class declared refl keyed.fit in
    let o : Object = object_at wider id in
    let fresh : o ≡ fresh_object own.mapping class =
    ap (λ (p : ℕ). get_or wider.objects p no_object) (let e : length own.graph.objects + 1 - 1 ≡ length own.graph.objects = omega arith in e)
    ∙ get_or_at own.graph.objects (fresh_object own.mapping class) [] no_object (length own.graph.objects) refl in
    let change : IsRefit own.mapping wider now =
    refit_with own.mapping wider id (object_with o given) fit (class_left o given)
    (λ less. given_fits own.mapping wider.roots o given (fits_each own.mapping wider fit (place_of id) less)
    (subst (λ (c : ClassId). AllByRecursion (λ (one : AttrNo × Value). IsAttribute own.mapping c one.0) given) (sym (ap (λ (x : Object). x.class) fresh)) attributes)
    (ap (λ (x : Object). first_given_fault own.mapping x.class given) fresh ∙ none)) in
    record {
      well = keyed.well;
      fit = change.fit;
      keys = all_kept own.mapping wider now own.frames.scopes change.same (all_made own.mapping own.graph wider class own.frames.scopes refl keyed.keys);
    }

room_keyed : (room : Bool) (fault : Option Refusal) (class : ClassId) (given : List (AttrNo × Value)) (own : SessionState) → first_given_fault own.mapping class given ≡ fault → IsClass own.mapping class → AllByRecursion (λ (one : AttrNo × Value). IsAttribute own.mapping class one.0) given → IsKeyed own
    → IsKeyed (made_unless fault given own (if room then Ok (record { 0 = length own.graph.objects + 1 }, with_fresh own.graph own.mapping class) else Err (LimitReached Objects))).after
room_keyed room (Some fault) class given own at declared attributes keyed = keyed
room_keyed false None class given own at declared attributes keyed = keyed
room_keyed true None class given own at declared attributes keyed = new_keyed class given own declared attributes at keyed

pub made_keyed : (class : ClassId) (given : List (AttrNo × Value)) (own : SessionState) → IsClass own.mapping class → AllByRecursion (λ (one : AttrNo × Value). IsAttribute own.mapping class one.0) given → IsKeyed own → IsKeyed (object_made class given own).after
unfolding object_made make
made_keyed class given own declared attributes keyed = room_keyed (nat_lt (length own.graph.objects) object_limit) (first_given_fault own.mapping class given) class given own refl declared attributes keyed

-- ---- objects come in

taken_fits : (mapped : Mapped) (roots : List ClassId) (state : State) (number : ℕ) (o : Object) → FitsIn mapped roots o → FitsIn mapped roots (object_taken state number o)
taken_fits mapped roots Transient number o fits = record { own = record { class = fits.own.class; cells = fits.own.cells; identity = refl; links = fits.own.links }; links = fits.links }
taken_fits mapped roots Pending number o fits = fits
taken_fits mapped roots Persistent number o fits = fits
taken_fits mapped roots Deleted number o fits = fits
taken_fits mapped roots Detached number o fits =
    let changed = changed_fit mapped o fits.own in
    let begun : Object = record o { state = Persistent; marked = false } in
    let stood : FitsIn mapped roots begun = record { own = record { class = fits.own.class; cells = fits.own.cells; identity = fits.own.identity; links = fits.own.links }; links = fits.links } in
    given_fits mapped roots (expired_object begun) (changed_values 0 o.cells) (expired_fits mapped roots begun stood)
    (recursion_from_All (λ (one : AttrNo × Value). IsAttribute mapped o.class one.0) (changed_values 0 o.cells) changed.0) changed.1

pub taken_class : (state : State) (number : ℕ) (o : Object) → (object_taken state number o).class ≡ o.class
taken_class Transient number o = refl
taken_class Pending number o = refl
taken_class Persistent number o = refl
taken_class Deleted number o = refl
taken_class Detached number o = class_left (expired_object (record o { state = Persistent; marked = false })) (changed_values 0 o.cells)

one_keyed : (object : ObjId) (own : SessionState) → IsKeyed own → IsKeyed (session_taken object own)
one_keyed object own keyed =
    let o : Object = object_at own.graph object in
    let number : ℕ = one_more own.added in
    object_keyed object (taken_under number o) (record own { added = added_then o.state own.added }) (taken_class o.state number o) (λ less. taken_fits own.mapping own.graph.roots o.state number o (its_fit object own keyed less))
    (record { well = keyed.well; fit = keyed.fit; keys = keyed.keys })

pub all_joined : (objects : List ObjId) (own : SessionState) → IsKeyed own → IsKeyed (session_joined objects own)
all_joined [] own keyed = keyed
all_joined (object ∷ objects) own keyed = all_joined objects (session_taken object own) (one_keyed object own keyed)

pub added_keyed : (object : ObjId) (own : SessionState) → IsKeyed own → IsKeyed (session_added object own)
added_keyed object own keyed =
    let joined : SessionState = session_joined (coming_objects own.mapping own.graph object) own in
    let all : IsKeyed joined = all_joined (coming_objects own.mapping own.graph object) own keyed in
    object_keyed object (object_unmarked (object_at joined.graph object)) joined refl (λ less. let fits = its_fit object joined all less in record { own = record { class = fits.own.class; cells = fits.own.cells; identity = fits.own.identity; links = fits.own.links }; links = fits.links }) all

-- ---- the objects were written, or are to be read again

pub flushed_keyed : (prepared : Prepared) (rows : RowChanges) (keys : List (List Value)) (own : SessionState) → AreClearable own.mapping own.graph prepared → IsKeyed own → IsKeyed (session_flushed prepared rows keys own)
flushed_keyed prepared rows keys own clearable keyed =
    graph_keyed (graph_flushed own.mapping prepared rows keys own.graph) own
    (record { fit = flushed_fit own.mapping own.graph prepared rows keys keyed.well clearable keyed.fit; same = classes_written (written_with own.mapping prepared rows keys own.graph) }) keyed

-- ---- what was read is given back

-- links that fit go on to fit where more objects were made
links_longer : (mapped : Mapped) (roots more : List ClassId) (o : Object) → links_fit mapped roots o ≡ true → links_fit mapped (roots ++ more) o ≡ true
links_longer mapped roots [] o fits = ap (λ (all : List ClassId). links_fit mapped all o) (append-nil roots) ∙ fits
links_longer mapped roots (root ∷ more) o fits =
    ap (λ (all : List ClassId). links_fit mapped all o) (sym (append_assoc roots (root ∷ []) more)) ∙ links_longer mapped (roots ++ root ∷ []) more o (links_grown mapped roots root o fits)

fits_longer : (mapped : Mapped) (old mid : Graph) (o : Object) → Grows old mid → FitsIn mapped old.roots o → FitsIn mapped mid.roots o
unfolding classes_of
fits_longer mapped old mid o grows fits = record {
  own = fits.own;
  links = ap (λ (all : List ClassId). links_fit mapped all o) grows.rooted ∙ links_longer mapped old.roots grows.roots o fits.links;
}

pub given_keyed : (before own : SessionState) (back : Graph) → own.mapping ≡ before.mapping → IsGivenBack before.graph own.graph back → IsKeyed before → IsKeyed own → IsKeyed (record own { graph = back })
given_keyed before own back same given was keyed =
    let fit : IsFit own.mapping before.graph = subst (λ (mapped : Mapped). IsFit mapped before.graph) (sym same) was.fit in
    let change : IsRefit own.mapping own.graph back =
    refit own.mapping own.graph back keyed.fit given.same given.roots
    (λ place less.
    let inside : place < length own.graph.objects = omega (arith, less, given.long) in
    ⊎_elim
    (λ (there : place < length before.graph.objects). subst (FitsIn own.mapping own.graph.roots) (sym (given.there place there)) (fits_longer own.mapping before.graph own.graph (object_in before.graph place) given.grows (fits_each own.mapping before.graph fit place there)))
    (λ (past : length before.graph.objects ≤ place). subst (FitsIn own.mapping own.graph.roots) (sym (given.since place past inside)) (fits_each own.mapping own.graph keyed.fit place inside))
    (cases_lt place (length before.graph.objects))) in
    record { well = keyed.well; fit = change.fit; keys = all_kept own.mapping own.graph back own.frames.scopes change.same keyed.keys }

if_fits : (mapped : Mapped) (roots : List ClassId) (is_read : Bool) (o : Object) → FitsIn mapped roots o → FitsIn mapped roots (expired_if is_read o)
if_fits mapped roots true o fits = expired_fits mapped roots o fits
if_fits mapped roots false o fits = fits

pub if_class : (is_read : Bool) (o : Object) → (expired_if is_read o).class ≡ o.class
if_class true o = refl
if_class false o = refl

pub reread_keyed : (table : TableId) (own : SessionState) → IsKeyed own → IsKeyed (session_reread table own)
reread_keyed table own keyed =
    graph_keyed (graph_reread own.mapping table own.graph) own
    (refit_all own.mapping own.graph (reread_of own.mapping table) keyed.fit (λ o. if_class (is_reread own.mapping table o) o) (λ o fits. if_fits own.mapping own.graph.roots (is_reread own.mapping table o) o fits)) keyed

-- ---- scopes begin and end

pub begun_keyed : (own : SessionState) → IsKeyed own → IsKeyed (session_begun own)
begun_keyed own keyed = record { well = keyed.well; fit = keyed.fit; keys = All-cons (HasKeys own.mapping own.graph) (begun_at own.graph) own.frames.scopes (keys_begun own.mapping own.graph keyed.fit) keyed.keys }

pub nested_keyed : (own : SessionState) → IsKeyed own → IsKeyed (session_nested own)
nested_keyed own keyed = record { well = keyed.well; fit = keyed.fit; keys = All-cons (HasKeys own.mapping own.graph) (begun_at own.graph) own.frames.scopes (keys_begun own.mapping own.graph keyed.fit) keyed.keys }

pub released_keyed : (own : SessionState) → IsKeyed own → IsKeyed (session_released own)
unfolding scope_released
released_keyed own keyed = record {
  well = keyed.well;
  fit = keyed.fit;
  keys = keys_left own.mapping own.graph (length own.frames.scopes - (length own.frames.scopes - 1)) own.frames.scopes (drop (length own.frames.scopes - (length own.frames.scopes - 1)) own.frames.scopes) refl keyed.keys;
}

pub restored_keyed : (depth : ℕ) (own : SessionState) → IsKeyed own → IsKeyed (session_restored depth own)
restored_keyed depth own keyed =
    let now : SessionState = session_restored depth own in
    let change : IsRefit own.mapping own.graph now.graph = restored_refit depth own.frames own.graph own.mapping keyed.fit keyed.keys in
    record {
      well = keyed.well;
      fit = change.fit;
      keys = all_kept own.mapping own.graph now.graph now.frames.scopes change.same
          (keys_left own.mapping own.graph (length own.frames.scopes - (depth - 1)) own.frames.scopes now.frames.scopes (around_scopes depth own.frames) keyed.keys);
    }

pub closed_keyed : (own : SessionState) → IsKeyed own → IsKeyed (session_closed own)
closed_keyed own keyed =
    let change = refit_all own.mapping own.graph object_left keyed.fit (λ o. refl) (λ o fits. left_fits own.mapping own.graph.roots o fits) in
    record { well = keyed.well; fit = change.fit; keys = All-nil (HasKeys own.mapping (session_closed own).graph) }

pub committed_keyed : (own : SessionState) → IsKeyed own → IsKeyed (session_committed own)
committed_keyed own keyed =
    let change = refit_all own.mapping own.graph object_committed keyed.fit (λ o. committed_class o.state o) (λ o fits. committed_fits own.mapping own.graph.roots o.state o fits) in
    record { well = keyed.well; fit = change.fit; keys = All-nil (HasKeys own.mapping (session_committed own).graph) }
