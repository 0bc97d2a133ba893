-- Records are the same exactly where they are equal.
use Rattle.std.proofs.Common.{◌≡◌, ℕ, ◌==◌, Bool, true, false, ◌&&◌, List, [], ◌∷◌, Option, None, Some, IsTrue, ◌↔◌, refl, sym, ap, ◌∙◌, subst, arith}
use Rattle.std.proofs.lemmas.Bool.Decides.{nat_tests}
use Rattle.std.specs.Cmp.{eq_by_cmp_equiv}
use Rattle.std.specs.Ordering.{is_eq}
use Rattle.std.specs.declared.cmp.Ordering.{Ordering}
use Rattle.std.specs.declared.cmp.Ordering.TheVariants.{Less, Equal, Greater}
use Rattle.std.specs.Cmp.Lexicographic.{pointwise}
use Rattle.base_core.specs.declared.ids.ClassId.{ClassId}
use Rattle.base_core.specs.declared.ids.ObjId.{ObjId}
use Rattle.base_core.specs.declared.value.Value.{Value}
use Rattle.base_core.specs.Order.{same_value, value_cmp, values_cmp}
use Rattle.base_core.specs.OrderLaws.{value_cmp_total}
use Rattle.base_core.proofs.Exact.{exact_value, exact_values, values_total}
use Rattle.base_core.proofs.Tests.{and_then}
use Rattle.schema_core.specs.Tables.{same_values}
use Rattle.object_arena.specs.declared.object.Cell.{Cell}
use Rattle.object_arena.specs.declared.object.Link.{Link}
use Rattle.object_arena.specs.declared.object.Link.TheVariants.{Unset, Unloaded, One, Many}
use Rattle.object_arena.specs.declared.object.Object.{Object}
use Rattle.object_arena.specs.declared.object.State.{State}
use Rattle.object_arena.specs.declared.object.State.TheVariants.{Transient, Pending, Persistent, Deleted, Detached}
use Rattle.object_records.specs.Same.{both_alike, same_bool, same_cell, same_id, same_link, same_object, same_standing, same_state}

-- ---- what agrees is equal

first : (a b : Bool) → (a && b) ≡ true → a ≡ true
first true b h = refl
first false b h = h

tie : (o : Ordering) → is_eq o ≡ true → o ≡ Equal
tie Less h = absurd cc
tie Equal h = refl
tie Greater h = absurd cc

pub value_is : (a b : Value) → same_value a b ≡ true → a ≡ b
value_is a b h = exact_value a b (tie (value_cmp a b) h)

key_is : (a b : List Value) → same_values a b ≡ true → a ≡ b
key_is a b h = exact_values a b (tie (values_cmp a b) h)

pub option_is : {A : Type 0} (alike : A → A → Bool) → ((a b : A) → alike a b ≡ true → a ≡ b) → (o p : Option A) → both_alike alike o p ≡ true → o ≡ p
option_is alike is None None h = refl
option_is alike is None (Some b) h = absurd cc
option_is alike is (Some a) None h = absurd cc
option_is alike is (Some a) (Some b) h = ap Some (is a b h)

list_is : {A : Type 0} (alike : A → A → Bool) → ((a b : A) → alike a b ≡ true → a ≡ b) → (xs ys : List A) → pointwise alike xs ys ≡ true → xs ≡ ys
list_is alike is [] [] h = refl
list_is alike is [] (y ∷ ys) h = absurd cc
list_is alike is (x ∷ xs) [] h = absurd cc
list_is alike is (x ∷ xs) (y ∷ ys) h =
    ap (λ z. z ∷ xs) (is x y (first (alike x y) (pointwise alike xs ys) h)) ∙ ap (λ zs. y ∷ zs) (list_is alike is xs ys (and_then (alike x y) (pointwise alike xs ys) h))

pub bool_is : (a b : Bool) → same_bool a b ≡ true → a ≡ b
bool_is true b h = sym h
bool_is false true h = absurd cc
bool_is false false h = refl

number_is : (a b : ℕ) → (a == b) ≡ true → a ≡ b
number_is a b h = grind (arith, nat_tests)

id_is : (a b : ObjId) → same_id a b ≡ true → a ≡ b
id_is a b h = ap (λ (n : ℕ). record { 0 = n }) (number_is a.0 b.0 h)

class_is : (a b : ClassId) → (a.0 == b.0) ≡ true → a ≡ b
class_is a b h = ap (λ (n : ℕ). record { 0 = n }) (number_is a.0 b.0 h)

state_is : (a b : State) → same_state a b ≡ true → a ≡ b
state_is Transient Transient h = refl
state_is Pending Pending h = refl
state_is Persistent Persistent h = refl
state_is Deleted Deleted h = refl
state_is Detached Detached h = refl
state_is Transient Pending h = absurd cc
state_is Transient Persistent h = absurd cc
state_is Transient Deleted h = absurd cc
state_is Transient Detached h = absurd cc
state_is Pending Transient h = absurd cc
state_is Pending Persistent h = absurd cc
state_is Pending Deleted h = absurd cc
state_is Pending Detached h = absurd cc
state_is Persistent Transient h = absurd cc
state_is Persistent Pending h = absurd cc
state_is Persistent Deleted h = absurd cc
state_is Persistent Detached h = absurd cc
state_is Deleted Transient h = absurd cc
state_is Deleted Pending h = absurd cc
state_is Deleted Persistent h = absurd cc
state_is Deleted Detached h = absurd cc
state_is Detached Transient h = absurd cc
state_is Detached Pending h = absurd cc
state_is Detached Persistent h = absurd cc
state_is Detached Deleted h = absurd cc

cell_is : (a b : Cell) → same_cell a b ≡ true → a ≡ b
cell_is a b h =
    ap (λ (v : Option Value). record { value = v; base = a.base }) (option_is same_value value_is a.value b.value (first (both_alike same_value a.value b.value) (both_alike same_value a.base b.base) h))
    ∙ ap (λ (v : Option Value). record { value = b.value; base = v }) (option_is same_value value_is a.base b.base (and_then (both_alike same_value a.value b.value) (both_alike same_value a.base b.base) h))

ids_are : (xs ys : List ObjId) → pointwise same_id xs ys ≡ true → xs ≡ ys
ids_are = list_is same_id id_is

pub link_is : (a b : Link) → same_link a b ≡ true → a ≡ b
link_is Unset Unset h = refl
link_is (Unloaded added removed) (Unloaded more less) h =
    ap (λ xs. Unloaded xs removed) (ids_are added more (first (pointwise same_id added more) (pointwise same_id removed less) h))
    ∙ ap (Unloaded more) (ids_are removed less (and_then (pointwise same_id added more) (pointwise same_id removed less) h))
link_is (One end changed) (One other new) h =
    ap (λ e. One e changed) (option_is same_id id_is end other (first (both_alike same_id end other) (same_bool changed new) h))
    ∙ ap (One other) (bool_is changed new (and_then (both_alike same_id end other) (same_bool changed new) h))
link_is (Many members base) (Many others before) h =
    ap (λ xs. Many xs base) (ids_are members others (first (pointwise same_id members others) (pointwise same_id base before) h))
    ∙ ap (Many others) (ids_are base before (and_then (pointwise same_id members others) (pointwise same_id base before) h))
link_is Unset (Unloaded added removed) h = absurd cc
link_is Unset (One end changed) h = absurd cc
link_is Unset (Many members base) h = absurd cc
link_is (Unloaded added removed) Unset h = absurd cc
link_is (Unloaded added removed) (One end changed) h = absurd cc
link_is (Unloaded added removed) (Many members base) h = absurd cc
link_is (One end changed) Unset h = absurd cc
link_is (One end changed) (Unloaded added removed) h = absurd cc
link_is (One end changed) (Many members base) h = absurd cc
link_is (Many members base) Unset h = absurd cc
link_is (Many members base) (Unloaded added removed) h = absurd cc
link_is (Many members base) (One end changed) h = absurd cc

object_is : (a b : Object) → same_object a b ≡ true → a ≡ b
unfolding same_object
object_is a b h =
    let cells = pointwise same_cell a.cells b.cells in
    let links = pointwise same_link a.links b.links in
    let marks = same_bool a.marked b.marked && same_bool a.orphan b.orphan in
    let added = (a.added == b.added) && marks in
    let identity = both_alike same_values a.identity b.identity && added in
    let state = same_state a.state b.state && identity in
    let stands = first (same_standing a b) (cells && links) h in
    let rest = and_then (same_standing a b) (cells && links) h in
    let h1 = and_then (a.class.0 == b.class.0) state stands in
    let h2 = and_then (same_state a.state b.state) identity h1 in
    let h3 = and_then (both_alike same_values a.identity b.identity) added h2 in
    let h4 = and_then (a.added == b.added) marks h3 in
    path a b
    (class_is a.class b.class (first (a.class.0 == b.class.0) state stands))
    (state_is a.state b.state (first (same_state a.state b.state) identity h1))
    (option_is same_values key_is a.identity b.identity (first (both_alike same_values a.identity b.identity) added h2))
    (number_is a.added b.added (first (a.added == b.added) marks h3))
    (bool_is a.marked b.marked (first (same_bool a.marked b.marked) (same_bool a.orphan b.orphan) h4))
    (bool_is a.orphan b.orphan (and_then (same_bool a.marked b.marked) (same_bool a.orphan b.orphan) h4))
    (list_is same_cell cell_is a.cells b.cells (first cells links rest))
    (list_is same_link link_is a.links b.links (and_then cells links rest))
  where
    path : (x y : Object) → x.class ≡ y.class → x.state ≡ y.state → x.identity ≡ y.identity → x.added ≡ y.added → x.marked ≡ y.marked → x.orphan ≡ y.orphan → x.cells ≡ y.cells → x.links ≡ y.links → x ≡ y
    path x y p q r s t u v w =
        ap (λ (k : ClassId). record x { class = k }) p ∙ ap (λ (k : State). record (record x { class = y.class }) { state = k }) q
        ∙ ap (λ (k : Option (List Value)). record (record x { class = y.class; state = y.state }) { identity = k }) r
        ∙ ap (λ (k : ℕ). record (record x { class = y.class; state = y.state; identity = y.identity }) { added = k }) s
        ∙ ap (λ (k : Bool). record (record y { orphan = x.orphan; cells = x.cells; links = x.links }) { marked = k }) t
        ∙ ap (λ (k : Bool). record (record y { cells = x.cells; links = x.links }) { orphan = k }) u
        ∙ ap (λ (k : List Cell). record (record y { links = x.links }) { cells = k }) v ∙ ap (λ (k : List Link). record y { links = k }) w

-- ---- what is equal agrees

and_both : (a b : Bool) → a ≡ true → b ≡ true → (a && b) ≡ true
and_both true b h g = g
and_both false b h g = h

option_itself : {A : Type 0} (alike : A → A → Bool) → ((a : A) → alike a a ≡ true) → (o : Option A) → both_alike alike o o ≡ true
option_itself alike itself None = refl
option_itself alike itself (Some a) = itself a

list_itself : {A : Type 0} (alike : A → A → Bool) → ((a : A) → alike a a ≡ true) → (xs : List A) → pointwise alike xs xs ≡ true
list_itself alike itself [] = refl
list_itself alike itself (x ∷ xs) = and_both (alike x x) (pointwise alike xs xs) (itself x) (list_itself alike itself xs)

pub bool_itself : (a : Bool) → same_bool a a ≡ true
bool_itself true = refl
bool_itself false = refl

number_itself : (n : ℕ) → (n == n) ≡ true
number_itself n = grind (arith, nat_tests)

state_itself : (a : State) → same_state a a ≡ true
state_itself Transient = refl
state_itself Pending = refl
state_itself Persistent = refl
state_itself Deleted = refl
state_itself Detached = refl

pub value_itself : (a : Value) → same_value a a ≡ true
value_itself a = (eq_by_cmp_equiv value_cmp_total).refl a

key_itself : (a : List Value) → same_values a a ≡ true
key_itself a = (eq_by_cmp_equiv values_total).refl a

cell_itself : (a : Cell) → same_cell a a ≡ true
cell_itself a = and_both (both_alike same_value a.value a.value) (both_alike same_value a.base a.base) (option_itself same_value value_itself a.value) (option_itself same_value value_itself a.base)

ids_itself : (xs : List ObjId) → pointwise same_id xs xs ≡ true
ids_itself = list_itself same_id (λ a. number_itself a.0)

pub link_itself : (a : Link) → same_link a a ≡ true
link_itself Unset = refl
link_itself (Unloaded added removed) = and_both (pointwise same_id added added) (pointwise same_id removed removed) (ids_itself added) (ids_itself removed)
link_itself (One end changed) = and_both (both_alike same_id end end) (same_bool changed changed) (option_itself same_id (λ a. number_itself a.0) end) (bool_itself changed)
link_itself (Many members base) = and_both (pointwise same_id members members) (pointwise same_id base base) (ids_itself members) (ids_itself base)

pub object_itself : (a : Object) → same_object a a ≡ true
unfolding same_object
object_itself a =
    let marks = same_bool a.marked a.marked && same_bool a.orphan a.orphan in
    let added = (a.added == a.added) && marks in
    let identity = both_alike same_values a.identity a.identity && added in
    let state = same_state a.state a.state && identity in
    let cells = pointwise same_cell a.cells a.cells in
    let links = pointwise same_link a.links a.links in
    and_both (same_standing a a) (cells && links)
    (and_both (a.class.0 == a.class.0) state (number_itself a.class.0)
    (and_both (same_state a.state a.state) identity (state_itself a.state)
    (and_both (both_alike same_values a.identity a.identity) added (option_itself same_values key_itself a.identity)
    (and_both (a.added == a.added) marks (number_itself a.added)
    (and_both (same_bool a.marked a.marked) (same_bool a.orphan a.orphan) (bool_itself a.marked) (bool_itself a.orphan))))))
    (and_both cells links (list_itself same_cell cell_itself a.cells) (list_itself same_link link_itself a.links))

-- the test tells whether the records are equal
pub records_same : (a b : Object) (r : Bool) → r ≡ same_object a b → IsTrue r ↔ (a ≡ b)
records_same a b r is = ((λ h. object_is a b (sym is ∙ h)), (λ same. is ∙ subst (λ (c : Object). same_object a c ≡ true) same (object_itself a)))

pub ruleset records = (records_same)
