-- The reading of a many-to-one link, put together of its parts.
use Rattle.std.proofs.Common.{◌≡◌, ◌<◌, Bool, true, false, List, length, Option, Some, Result, Ok, Err, IfErr, IfOk, IsErrAnd, OnOk, if◌then◌else◌, refl, sym, ap, subst, ◌∙◌}
use Rattle.std.proofs.lemmas.Option.{slice_get-get_or}
use Rattle.base_core.specs.declared.ids.AttrNo.{AttrNo}
use Rattle.base_core.specs.declared.ids.ClassId.{ClassId}
use Rattle.base_core.specs.declared.ids.ObjId.{ObjId}
use Rattle.base_core.specs.declared.ids.RelNo.{RelNo}
use Rattle.base_core.specs.declared.value.Value.{Value}
use Rattle.base_core.specs.declared.refusal.Refusal.{Refusal}
use Rattle.base_core.specs.declared.refusal.Refusal.TheVariants.{Memory, ObjectDeletedError}
use Rattle.schema_core.specs.Tables.{has_null}
use Rattle.class_types.specs.declared.mapped.Relation.{Relation}
use Rattle.class_mapping.specs.Mapped.{IsClass, Mapped, attributes_of, relations_of}
use Rattle.class_mapping.specs.Related.{AreRelated, IsRelated}
use Rattle.object_arena.specs.declared.object.Object.{Object}
use Rattle.object_arena.specs.Every.{classes_of}
use Rattle.object_arena.specs.Fit.{ObjectFits, key_fits, no_relation, relation_of}
use Rattle.object_arena.specs.Graph.{Graph, object_at}
use Rattle.keeper_core.specs.Beside.{changes, moment_beside}
use Rattle.keeper_core.specs.Moment.{Moment, Runs}
use Rattle.keeper_core.specs.Store.{Store}
use Rattle.keeper_core.proofs.Lifting.{chosen, then_ends}
use Rattle.keeper_core.proofs.Sequence.{done, then_err, then_ok}
use Rattle.keeper_core.specs.declared.notes.Note.{Note}
use Rattle.mapping_laws.specs.Hierarchies.{HasHierarchies}
use Rattle.load_filling.specs.Growing.{Grows}
use Rattle.load_filling.proofs.LoadedLemmas.{grows_same}
use Rattle.load_rows.specs.Loading.{Loading, loading}
use Rattle.load_rows.specs.Links.{end_filled}
use Rattle.load_calls.specs.Refreshing.{IsShownDeleted, Scene, refresh}
use Rattle.load_calls.proofs.ReadLemmas.{passed_refusal}
use Rattle.load_calls.specs.Collections.{load_collection}
use Rattle.load_calls.specs.Refusals.{CanRefuseRows}
use Rattle.load_calls.proofs.CollectionLemmas.{related_at}
use Rattle.load_targets.specs.ForeignKeys.{foreign_attrs, foreign_key, is_expired_among, is_key_expired, values_at}
use Rattle.load_targets.specs.Targets.{find_or_load, load_by, load_end, load_lazy, load_target, read_target, refresh_if, refresh_key}
use Rattle.load_targets.proofs.KeyLemmas.{one_without, target_key_fits}

abbrev End : Type 0
End = Option ObjId

-- ---- the foreign key

-- whether a cell of it is expired is asked of the object's record
pub expired_is : (mapped : Mapped) (relation : Relation) (graph : Graph) (object : ObjId) (own : Object) (attrs : List AttrNo) (b : Bool) → own ≡ object_at graph object → attrs ≡ foreign_attrs mapped own.class relation
    → b ≡ is_expired_among attrs own → is_key_expired mapped relation (object_at graph object) ≡ b
expired_is mapped relation graph object own attrs b is named asked =
    sym (asked ∙ ap (λ (xs : List AttrNo). is_expired_among xs own) named ∙ ap (λ (o : Object). is_key_expired mapped relation o) is)

-- asked of the slice of a list
pub asked_by : (slice attrs : List AttrNo) (own : Object) (b : Bool) → slice ≡ attrs → b ≡ is_expired_among slice own → b ≡ is_expired_among attrs own
asked_by slice attrs own b seen asked = asked ∙ ap (λ (xs : List AttrNo). is_expired_among xs own) seen

pub key_is : {E : Type 0} (mapped : Mapped) (relation : Relation) (graph : Graph) (object : ObjId) (own : Object) (attrs shown : List AttrNo) (r : Result (List Value) E) → own ≡ object_at graph object → attrs ≡ foreign_attrs mapped own.class relation
    → shown ≡ attrs → IfOk r (λ values. values ≡ values_at shown own) → IfOk r (λ key. key ≡ foreign_key mapped relation (object_at graph object))
key_is mapped relation graph object own attrs shown (Ok values) is named seen read =
    read ∙ ap (λ (xs : List AttrNo). values_at xs own) (seen ∙ named) ∙ ap (λ (o : Object). foreign_key mapped relation o) is
key_is mapped relation graph object own attrs shown (Err e) is named seen read = tt

pub class_told : {A E : Type 0} (mapped : Mapped) (class : ClassId) (r : Result A E) → IsClass mapped class → IfOk r (λ _. IsClass mapped class)
class_told mapped class (Ok x) less = less
class_told mapped class (Err e) less = tt

-- without a NULL it is a key of the target
pub key_told : {E : Type 0} (mapped : Mapped) (relation : Relation) (graph : Graph) (object : ObjId) (place : RelNo) (own : Object) (r : Result (List Value) E) → HasHierarchies mapped → AreRelated mapped → ObjectFits mapped own → own ≡ object_at graph object
    → length own.cells ≡ length (attributes_of mapped own.class) → place.0 < length (relations_of mapped (object_at graph object).class) → relation ≡ relation_of mapped (object_at graph object).class place → relation.many ≡ false
    → IfOk r (λ key. key ≡ foreign_key mapped relation (object_at graph object)) → IfOk r (λ key. has_null key ≡ false → key_fits mapped relation.target key ≡ true)
key_told mapped relation graph object place own (Ok key) has related fits is long within which one read = λ given.
    let class : ClassId = (object_at graph object).class in
    let own_key : key ≡ foreign_key mapped relation own = read ∙ ap (λ (o : Object). foreign_key mapped relation o) (sym is) in
    let less : IsClass mapped class = subst (λ (o : Object). IsClass mapped o.class) is fits.class in
    let there : IsRelated mapped relation = subst (IsRelated mapped) (sym which) (related_at mapped class place related less within) in
    let at = slice_get-get_or (relations_of mapped class) place.0 no_relation within ∙ ap (λ (x : Relation). Some x) (sym which) in
    ap (key_fits mapped relation.target) own_key
    ∙ target_key_fits mapped relation own has there one (one_without mapped class place.0 relation has there at one) fits long (ap has_null (sym own_key) ∙ given)
key_told mapped relation graph object place own (Err e) has related fits is long within which one read = tt

-- ---- the object's own cells

key_by : {K : Type 0} (moment : K → Moment Store) (mapped : Mapped) (relation : Relation) (object : ObjId) (graph : Graph) (b : Bool) {before : List Note} {now : Loading} {old new : K} {r : Result (Unit {0}) Refusal}
    → is_key_expired mapped relation (object_at graph object) ≡ b
    → Runs (moment_beside moment) (λ (u : Unit {0}). u) (refresh_if b mapped object) (loading graph before, old) r (now, new)
    → Runs (moment_beside moment) (λ (u : Unit {0}). u) (refresh_key mapped relation object) (loading graph before, old) r (now, new)
unfolding refresh_key
key_by moment mapped relation object graph b {before = before} {now = now} {old = old} {new = new} {r = r} is p =
    chosen moment (λ own. refresh_if (is_key_expired mapped relation (object_at own.graph object)) mapped object)
    (subst (λ (c : Bool). Runs (moment_beside moment) (λ (u : Unit {0}). u) (refresh_if c mapped object) (loading graph before, old) r (now, new)) (sym is) p)

-- no cell of the foreign key is expired
pub key_held : {K : Type 0} (moment : K → Moment Store) (mapped : Mapped) (relation : Relation) (object : ObjId) (graph : Graph) {before : List Note} {keeper : K} → is_key_expired mapped relation (object_at graph object) ≡ false
    → Runs (moment_beside moment) (λ (u : Unit {0}). u) (refresh_key mapped relation object) (loading graph before, keeper) (Ok tt) (loading graph before, keeper)
key_held moment mapped relation object graph is = key_by moment mapped relation object graph false is (done refl)

-- one is, and the expired cells are read
pub key_refreshed : {K : Type 0} (moment : K → Moment Store) (mapped : Mapped) (relation : Relation) (object : ObjId) (graph : Graph) {before : List Note} {now : Loading} {old new : K} {r : Result (Unit {0}) Refusal}
    → is_key_expired mapped relation (object_at graph object) ≡ true
    → Runs (moment_beside moment) (λ (u : Unit {0}). u) (refresh mapped object) (loading graph before, old) r (now, new)
    → Runs (moment_beside moment) (λ (u : Unit {0}). u) (refresh_key mapped relation object) (loading graph before, old) r (now, new)
key_refreshed moment mapped relation object graph is p = key_by moment mapped relation object graph true is p

-- objects of the same classes are there still
pub same_grow : (old new : Graph) → classes_of new ≡ classes_of old → Grows old new
same_grow old new same = let first = grows_same old old refl in record {
  classes = first.classes;
  roots = first.roots;
  longer = ap (λ p. p.0) same ∙ first.longer;
  rooted = ap (λ p. p.1) same ∙ first.rooted;
}

-- ---- the target

pub target_read : {K : Type 0} (moment : K → Moment Store) (mapped : Mapped) (relation : Relation) (object : ObjId) (graph : Graph) (key : List Value) {before : List Note} {now : Loading} {old new : K} {r : Result End Refusal}
    → key ≡ foreign_key mapped relation (object_at graph object)
    → Runs (moment_beside moment) (λ (end : End). end) (find_or_load mapped relation.target key) (loading graph before, old) r (now, new)
    → Runs (moment_beside moment) (λ (end : End). end) (read_target mapped relation object) (loading graph before, old) r (now, new)
unfolding read_target
target_read moment mapped relation object graph key {before = before} {now = now} {old = old} {new = new} {r = r} is p =
    chosen moment (λ own. find_or_load mapped relation.target (foreign_key mapped relation (object_at own.graph object)))
    (subst (λ (k : List Value). Runs (moment_beside moment) (λ (end : End). end) (find_or_load mapped relation.target k) (loading graph before, old) r (now, new)) is p)

-- ---- the link

abbrev IsLoad : {K : Type 0} → (K → Moment Store) → Mapped → Relation → ObjId → RelNo → Loading × K → Result (Unit {0}) Refusal → Loading × K → Type 0
IsLoad moment mapped relation object place old r new = Runs (moment_beside moment) (λ (u : Unit {0}). u) (load_target mapped relation object place) old r new

-- the target was read, and the link leads to it
target_by : {K : Type 0} (moment : K → Moment Store) (mapped : Mapped) (relation : Relation) (object : ObjId) (place : RelNo) (end : End) {own mid taken now : Loading} {old kept new : K} {r : Result (Unit {0}) Refusal}
    → Runs (moment_beside moment) (λ (u : Unit {0}). u) (refresh_key mapped relation object) (own, old) (Ok tt) (mid, kept)
    → Runs (moment_beside moment) (λ (end : End). end) (read_target mapped relation object) (mid, kept) (Ok end) (taken, new)
    → OnOk r (now ≡ end_filled object place end taken) → IfErr r (λ e. e ≡ Memory) → IsLoad moment mapped relation object place (own, old) r (now, new)
unfolding load_target
target_by moment mapped relation object place end p q is cause = then_ok (load_end mapped relation object place) p (then_ends moment (end_filled object place) q is cause)

end_refused : {K : Type 0} (moment : K → Moment Store) (mapped : Mapped) (relation : Relation) (object : ObjId) (place : RelNo) {own mid now : Loading} {old kept new : K} {e : Refusal}
    → Runs (moment_beside moment) (λ (u : Unit {0}). u) (refresh_key mapped relation object) (own, old) (Ok tt) (mid, kept)
    → Runs (moment_beside moment) (λ (end : End). end) (read_target mapped relation object) (mid, kept) (Err e) (now, new)
    → IsLoad moment mapped relation object place (own, old) (Err e) (now, new)
unfolding load_target
end_refused moment mapped relation object place p q = then_ok (load_end mapped relation object place) p (then_err (λ end. changes (end_filled object place end)) q)

cells_refused : {K : Type 0} (moment : K → Moment Store) (mapped : Mapped) (relation : Relation) (object : ObjId) (place : RelNo) {own now : Loading} {old new : K} {e : Refusal}
    → Runs (moment_beside moment) (λ (u : Unit {0}). u) (refresh_key mapped relation object) (own, old) (Err e) (now, new)
    → IsLoad moment mapped relation object place (own, old) (Err e) (now, new)
unfolding load_target
cells_refused moment mapped relation object place p = then_err (load_end mapped relation object place) p

-- the same of a relationship that is the one at the place
as_named : {K : Type 0} (moment : K → Moment Store) (mapped : Mapped) (relation which : Relation) (object : ObjId) (place : RelNo) {own now : Loading} {old new : K} {r : Result (Unit {0}) Refusal} → relation ≡ which
    → IsLoad moment mapped relation object place (own, old) r (now, new) → IsLoad moment mapped which object place (own, old) r (now, new)
as_named moment mapped relation which object place {own = own} {now = now} {old = old} {new = new} {r = r} same p =
    subst (λ (one : Relation). IsLoad moment mapped one object place (own, old) r (now, new)) same p

pub target_loaded : {K : Type 0} (moment : K → Moment Store) (mapped : Mapped) (relation which : Relation) (object : ObjId) (place : RelNo) (end : End) {own mid taken now : Loading} {old kept new : K} {r : Result (Unit {0}) Refusal} → relation ≡ which
    → Runs (moment_beside moment) (λ (u : Unit {0}). u) (refresh_key mapped relation object) (own, old) (Ok tt) (mid, kept)
    → Runs (moment_beside moment) (λ (end : End). end) (read_target mapped relation object) (mid, kept) (Ok end) (taken, new)
    → OnOk r (now ≡ end_filled object place end taken) → IfErr r (λ e. e ≡ Memory) → IsLoad moment mapped which object place (own, old) r (now, new)
target_loaded moment mapped relation which object place end same p q is cause = as_named moment mapped relation which object place same (target_by moment mapped relation object place end p q is cause)

pub target_refused : {K : Type 0} (moment : K → Moment Store) (mapped : Mapped) (relation which : Relation) (object : ObjId) (place : RelNo) {own mid now : Loading} {old kept new : K} (e : Refusal) → relation ≡ which
    → Runs (moment_beside moment) (λ (u : Unit {0}). u) (refresh_key mapped relation object) (own, old) (Ok tt) (mid, kept)
    → Runs (moment_beside moment) (λ (end : End). end) (read_target mapped relation object) (mid, kept) (Err e) (now, new)
    → IsLoad moment mapped which object place (own, old) (Err e) (now, new)
target_refused moment mapped relation which object place e same p q = as_named moment mapped relation which object place same (end_refused moment mapped relation object place p q)

pub refresh_refused : {K : Type 0} (moment : K → Moment Store) (mapped : Mapped) (relation which : Relation) (object : ObjId) (place : RelNo) {own now : Loading} {old new : K} (e : Refusal) → relation ≡ which
    → Runs (moment_beside moment) (λ (u : Unit {0}). u) (refresh_key mapped relation object) (own, old) (Err e) (now, new)
    → IsLoad moment mapped which object place (own, old) (Err e) (now, new)
refresh_refused moment mapped relation which object place e same p = as_named moment mapped relation which object place same (cells_refused moment mapped relation object place p)

-- ---- any link

lazy_by : {K : Type 0} (moment : K → Moment Store) (mapped : Mapped) (graph : Graph) (object : ObjId) (place : RelNo) (b : Bool) {before : List Note} {now : Loading} {old new : K} {r : Result (Unit {0}) Refusal}
    → (relation_of mapped (object_at graph object).class place).many ≡ b
    → Runs (moment_beside moment) (λ (u : Unit {0}). u) (if b then load_collection mapped (relation_of mapped (object_at graph object).class place) object place else load_target mapped (relation_of mapped (object_at graph object).class place) object place)
    (loading graph before, old) r (now, new)
    → Runs (moment_beside moment) (λ (u : Unit {0}). u) (load_lazy mapped object place) (loading graph before, old) r (now, new)
unfolding load_lazy
lazy_by moment mapped graph object place b {before = before} {now = now} {old = old} {new = new} {r = r} is p =
    let relation : Relation = relation_of mapped (object_at graph object).class place in
    chosen moment (λ own. load_by mapped (relation_of mapped (object_at own.graph object).class place) object place)
    (subst (λ (c : Bool). Runs (moment_beside moment) (λ (u : Unit {0}). u) (if c then load_collection mapped relation object place else load_target mapped relation object place) (loading graph before, old) r (now, new)) (sym is) p)

pub collection_chosen : {K : Type 0} (moment : K → Moment Store) (mapped : Mapped) (graph : Graph) (object : ObjId) (place : RelNo) {before : List Note} {now : Loading} {old new : K} {r : Result (Unit {0}) Refusal}
    → (relation_of mapped (object_at graph object).class place).many ≡ true
    → Runs (moment_beside moment) (λ (u : Unit {0}). u) (load_collection mapped (relation_of mapped (object_at graph object).class place) object place) (loading graph before, old) r (now, new)
    → Runs (moment_beside moment) (λ (u : Unit {0}). u) (load_lazy mapped object place) (loading graph before, old) r (now, new)
collection_chosen moment mapped graph object place is p = lazy_by moment mapped graph object place true is p

pub end_chosen : {K : Type 0} (moment : K → Moment Store) (mapped : Mapped) (graph : Graph) (object : ObjId) (place : RelNo) {before : List Note} {now : Loading} {old new : K} {r : Result (Unit {0}) Refusal}
    → (relation_of mapped (object_at graph object).class place).many ≡ false
    → Runs (moment_beside moment) (λ (u : Unit {0}). u) (load_target mapped (relation_of mapped (object_at graph object).class place) object place) (loading graph before, old) r (now, new)
    → Runs (moment_beside moment) (λ (u : Unit {0}). u) (load_lazy mapped object place) (loading graph before, old) r (now, new)
end_chosen moment mapped graph object place is p = lazy_by moment mapped graph object place false is p

-- ---- refusals

-- what refuses rows never says that an object was deleted
rows_show : (mapped : Mapped) (object : ObjId) (old new : Scene) (graph : Graph) (e : Refusal) → CanRefuseRows mapped graph e → IsShownDeleted mapped object old new e
rows_show mapped object old new graph (ObjectDeletedError deleted) h = absurd h
rows_show mapped object old new graph e h = tt

pub refused_show : {A : Type 0} (mapped : Mapped) (object : ObjId) (old new : Scene) (graph : Graph) (r : Result A Refusal) → IfErr r (CanRefuseRows mapped graph) → IfErr r (IsShownDeleted mapped object old new)
refused_show mapped object old new graph (Ok x) h = tt
refused_show mapped object old new graph (Err e) h = rows_show mapped object old new graph e h

pub passed_show : {A : Type 0} (mapped : Mapped) (object : ObjId) (old new : Scene) (graph : Graph) (e : Refusal) (r : Result A Refusal) → IsErrAnd r (λ d. d ≡ e) → CanRefuseRows mapped graph e → IfErr r (IsShownDeleted mapped object old new)
passed_show mapped object old new graph e r passed h = passed_refusal (IsShownDeleted mapped object old new) e r passed (rows_show mapped object old new graph e h)
