-- The links that are loaded together, by their kind, and those of a query.
use Rattle.std.proofs.Common.{◌≡◌, Bool, true, false, List, [], ◌∷◌, slice_get, None, Some, Result, Ok, Err, if◌then◌else◌, refl, sym, ap, subst, ◌∙◌}
use Rattle.std.proofs.lemmas.Option.{same_Some}
use Rattle.base_core.specs.declared.ids.ClassId.{ClassId}
use Rattle.base_core.specs.declared.ids.ObjId.{ObjId}
use Rattle.base_core.specs.declared.ids.RelNo.{RelNo}
use Rattle.base_core.specs.declared.refusal.Refusal.{Refusal}
use Rattle.expr_types.specs.declared.select.ObjectQuery.{ObjectQuery}
use Rattle.class_types.specs.declared.mapped.Relation.{Relation}
use Rattle.class_mapping.specs.Mapped.{Mapped}
use Rattle.object_arena.specs.Fit.{relation_of}
use Rattle.object_arena.specs.Graph.{Graph, object_at}
use Rattle.keeper_core.specs.Beside.{Beside, moment_beside}
use Rattle.keeper_core.specs.Moment.{Moment, Reaches, Runs}
use Rattle.keeper_core.specs.Programs.{Run, each, give}
use Rattle.keeper_core.specs.Store.{Store}
use Rattle.keeper_core.proofs.Lifting.{chosen}
use Rattle.keeper_core.proofs.Sequence.{done, reaches_start, then_err, then_ok}
use Rattle.keeper_core.specs.declared.notes.Note.{Note}
use Rattle.load_rows.specs.Loading.{Loading, loading}
use Rattle.load_batches.specs.Batches.{load_members}
use Rattle.load_ends.specs.Ends.{load_ends}
use Rattle.load_queries.specs.Joined.{load_joined}
use Rattle.load_queries.specs.Queries.{load_select}
use Rattle.load_queries.specs.Selectin.{load_objects, load_option, load_options, load_query, load_selectin, load_together, owners_among, with_options}

-- a program of this result ran from there to here
abbrev Loads : {K : Type 0} → (K → Moment Store) → (Beside Loading → Run (Beside Loading) (Unit {0})) → Loading × K → Result (Unit {0}) Refusal → Loading × K → Type 0
Loads moment m old r new = Runs (moment_beside moment) (λ (u : Unit {0}). u) m old r new

-- ---- one link of several objects

-- collections were loaded
pub collections_loaded : {K : Type 0} (moment : K → Moment Store) (mapped : Mapped) (relation : Relation) (place : RelNo) (owners : List ObjId) {own now : Loading} {old new : K} {r : Result (Unit {0}) Refusal} → relation.many ≡ true
    → Loads moment (load_members mapped relation place owners) (own, old) r (now, new) → Loads moment (load_together mapped relation place owners) (own, old) r (now, new)
collections_loaded moment mapped relation place owners {own = own} {now = now} {old = old} {new = new} {r = r} many p =
    subst (λ (b : Bool). Loads moment (if b then load_members mapped relation place owners else load_ends mapped relation place owners) (own, old) r (now, new)) (sym many) p

-- links with one end were
pub ends_loaded : {K : Type 0} (moment : K → Moment Store) (mapped : Mapped) (relation : Relation) (place : RelNo) (owners : List ObjId) {own now : Loading} {old new : K} {r : Result (Unit {0}) Refusal} → relation.many ≡ false
    → Loads moment (load_ends mapped relation place owners) (own, old) r (now, new) → Loads moment (load_together mapped relation place owners) (own, old) r (now, new)
ends_loaded moment mapped relation place owners {own = own} {now = now} {old = old} {new = new} {r = r} one p =
    subst (λ (b : Bool). Loads moment (if b then load_members mapped relation place owners else load_ends mapped relation place owners) (own, old) r (now, new)) (sym one) p

-- there is no owner
pub no_owners : {K : Type 0} (moment : K → Moment Store) (mapped : Mapped) (place : RelNo) (owners : List ObjId) (own : Loading) (keeper : K) → slice_get owners 0 ≡ None
    → Loads moment (load_selectin mapped place owners) (own, keeper) (Ok tt) (own, keeper)
unfolding load_selectin
no_owners moment mapped place [] own keeper none = done refl
no_owners moment mapped place (first ∷ more) own keeper none = absurd cc

-- the first owner has the relationship
pub owners_loaded : {K : Type 0} (moment : K → Moment Store) (mapped : Mapped) (relation : Relation) (place : RelNo) (owners : List ObjId) (first : ObjId) (graph : Graph) {before : List Note} {now : Loading} {old new : K} {r : Result (Unit {0}) Refusal}
    → slice_get owners 0 ≡ Some first → relation ≡ relation_of mapped (object_at graph first).class place → Loads moment (load_together mapped relation place owners) (loading graph before, old) r (now, new)
    → Loads moment (load_selectin mapped place owners) (loading graph before, old) r (now, new)
unfolding load_selectin
owners_loaded moment mapped relation place [] first graph at is p = absurd cc
owners_loaded moment mapped relation place (one ∷ more) first graph {before = before} {now = now} {old = old} {new = new} {r = r} at is p =
    chosen moment (λ own. load_together mapped (relation_of mapped (object_at own.graph one).class place) place (one ∷ more))
    (subst (λ (named : Relation). Loads moment (load_together mapped named place (one ∷ more)) (loading graph before, old) r (now, new))
    (is ∙ ap (λ (o : ObjId). relation_of mapped (object_at graph o).class place) (sym (same_Some one first at))) p)

-- ---- the links of a query

-- the owners among objects have the relationship
pub option_loaded : {K : Type 0} (moment : K → Moment Store) (mapped : Mapped) (class : ClassId) (objects : List ObjId) (relation : Relation) (place : RelNo) (owners shown : List ObjId) (graph : Graph) {before : List Note} {now : Loading} {old new : K} {r : Result (Unit {0}) Refusal}
    → relation ≡ relation_of mapped class place → owners ≡ owners_among mapped class graph objects → shown ≡ owners
    → Loads moment (load_together mapped relation place shown) (loading graph before, old) r (now, new)
    → Loads moment (load_option mapped class objects place tt) (loading graph before, old) r (now, new)
option_loaded moment mapped class objects relation place owners shown graph {before = before} {now = now} {old = old} {new = new} {r = r} is among seen p =
    chosen moment (λ own. load_together mapped (relation_of mapped class place) place (owners_among mapped class own.graph objects))
    (subst (λ (named : Relation). Loads moment (load_together mapped named place (owners_among mapped class graph objects)) (loading graph before, old) r (now, new)) is
    (subst (λ (xs : List ObjId). Loads moment (load_together mapped relation place xs) (loading graph before, old) r (now, new)) (seen ∙ among) p))

pub options_start : {K : Type 0} (moment : K → Moment Store) (mapped : Mapped) (class : ClassId) (objects : List ObjId) (places : List RelNo) (own : Loading) (keeper : K)
    → Reaches (moment_beside moment) (load_options mapped class objects places) (own, keeper) (each (load_option mapped class objects) tt places) (own, keeper)
unfolding load_options
options_start moment mapped class objects places own keeper = reaches_start

-- the same of the objects and places that are named so
as_named : {K : Type 0} (moment : K → Moment Store) (mapped : Mapped) (query : ObjectQuery) (objects shown : List ObjId) (places : List RelNo) {own now : Loading} {old new : K} {r : Result (Unit {0}) Refusal} → shown ≡ objects → places ≡ query.selectin
    → Loads moment (load_options mapped query.class shown places) (own, old) r (now, new) → Loads moment (load_options mapped query.class objects query.selectin) (own, old) r (now, new)
as_named moment mapped query objects shown places {own = own} {now = now} {old = old} {new = new} {r = r} seen named p =
    subst (λ (xs : List RelNo). Loads moment (load_options mapped query.class objects xs) (own, old) r (now, new)) named
    (subst (λ (xs : List ObjId). Loads moment (load_options mapped query.class xs places) (own, old) r (now, new)) seen p)

-- the query's select or one of its rows was refused
pub objects_refused : {K : Type 0} (moment : K → Moment Store) (mapped : Mapped) (query : ObjectQuery) {own now : Loading} {old new : K} (e : Refusal)
    → Runs (moment_beside moment) (λ (xs : List ObjId). xs) (load_select mapped query) (own, old) (Err e) (now, new)
    → Runs (moment_beside moment) (λ (xs : List ObjId). xs) (load_objects mapped query) (own, old) (Err e) (now, new)
unfolding load_objects
objects_refused moment mapped query e p = then_err (with_options mapped query) p

-- a link's load was refused
pub options_refused : {K : Type 0} (moment : K → Moment Store) (mapped : Mapped) (query : ObjectQuery) (objects shown : List ObjId) (places : List RelNo) {own mid now : Loading} {old kept new : K} (e : Refusal) → shown ≡ objects → places ≡ query.selectin
    → Runs (moment_beside moment) (λ (xs : List ObjId). xs) (load_select mapped query) (own, old) (Ok objects) (mid, kept)
    → Loads moment (load_options mapped query.class shown places) (mid, kept) (Err e) (now, new)
    → Runs (moment_beside moment) (λ (xs : List ObjId). xs) (load_objects mapped query) (own, old) (Err e) (now, new)
unfolding load_objects
options_refused moment mapped query objects shown places {mid = mid} {now = now} {kept = kept} {new = new} e seen named p q =
    then_ok (with_options mapped query) p (then_err (λ _. give objects) (as_named moment mapped query objects shown places seen named q))

-- the objects and their links were loaded
pub objects_loaded : {K : Type 0} (moment : K → Moment Store) (mapped : Mapped) (query : ObjectQuery) (objects shown : List ObjId) (places : List RelNo) {own mid now : Loading} {old kept new : K} → shown ≡ objects → places ≡ query.selectin
    → Runs (moment_beside moment) (λ (xs : List ObjId). xs) (load_select mapped query) (own, old) (Ok objects) (mid, kept)
    → Loads moment (load_options mapped query.class shown places) (mid, kept) (Ok tt) (now, new)
    → Runs (moment_beside moment) (λ (xs : List ObjId). xs) (load_objects mapped query) (own, old) (Ok objects) (now, new)
unfolding load_objects
objects_loaded moment mapped query objects shown places {mid = mid} {now = now} {kept = kept} {new = new} seen named p q =
    then_ok (with_options mapped query) p (then_ok (λ _. give objects) (as_named moment mapped query objects shown places seen named q) (done refl))

-- ---- a query with options of both kinds

-- its main select or one of its rows was refused
pub whole_refused : {K : Type 0} (moment : K → Moment Store) (mapped : Mapped) (query : ObjectQuery) {own now : Loading} {old new : K} (e : Refusal)
    → Runs (moment_beside moment) (λ (xs : List ObjId). xs) (load_joined mapped query) (own, old) (Err e) (now, new)
    → Runs (moment_beside moment) (λ (xs : List ObjId). xs) (load_query mapped query) (own, old) (Err e) (now, new)
unfolding load_query
whole_refused moment mapped query e p = then_err (with_options mapped query) p

-- a link's load behind it was refused
pub further_refused : {K : Type 0} (moment : K → Moment Store) (mapped : Mapped) (query : ObjectQuery) (objects shown : List ObjId) (places : List RelNo) {own mid now : Loading} {old kept new : K} (e : Refusal) → shown ≡ objects → places ≡ query.selectin
    → Runs (moment_beside moment) (λ (xs : List ObjId). xs) (load_joined mapped query) (own, old) (Ok objects) (mid, kept)
    → Loads moment (load_options mapped query.class shown places) (mid, kept) (Err e) (now, new)
    → Runs (moment_beside moment) (λ (xs : List ObjId). xs) (load_query mapped query) (own, old) (Err e) (now, new)
unfolding load_query
further_refused moment mapped query objects shown places {mid = mid} {now = now} {kept = kept} {new = new} e seen named p q =
    then_ok (with_options mapped query) p (then_err (λ _. give objects) (as_named moment mapped query objects shown places seen named q))

-- the objects and all their links were loaded
pub whole_loaded : {K : Type 0} (moment : K → Moment Store) (mapped : Mapped) (query : ObjectQuery) (objects shown : List ObjId) (places : List RelNo) {own mid now : Loading} {old kept new : K} → shown ≡ objects → places ≡ query.selectin
    → Runs (moment_beside moment) (λ (xs : List ObjId). xs) (load_joined mapped query) (own, old) (Ok objects) (mid, kept)
    → Loads moment (load_options mapped query.class shown places) (mid, kept) (Ok tt) (now, new)
    → Runs (moment_beside moment) (λ (xs : List ObjId). xs) (load_query mapped query) (own, old) (Ok objects) (now, new)
unfolding load_query
whole_loaded moment mapped query objects shown places {mid = mid} {now = now} {kept = kept} {new = new} seen named p q =
    then_ok (with_options mapped query) p (then_ok (λ _. give objects) (as_named moment mapped query objects shown places seen named q) (done refl))
