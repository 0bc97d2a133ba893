-- Objects hold their keys as their cells and their states change.
use Rattle.std.proofs.Common.{◌≡◌, ◌≢◌, ℕ, ◌+◌, suc, Bool, true, false, not, ◌&&◌, List, [], ◌∷◌, get_or, Option, None, Some, ⊎_elim, refl, sym, ap, ◌∙◌, arith}
use Rattle.std.specs.Prelude.{if◌then◌else◌, is_some}
use Rattle.std.proofs.lemmas.Bool.{and_from, and_parts, cases_eq}
use Rattle.std.proofs.lemmas.List.{get_or-set_other}
use Rattle.base_core.specs.declared.ids.AttrNo.{AttrNo}
use Rattle.base_core.specs.declared.ids.ClassId.{ClassId}
use Rattle.base_core.specs.declared.refusal.Refusal.{Refusal}
use Rattle.base_core.specs.declared.refusal.Refusal.TheVariants.{InvalidRequestError}
use Rattle.base_core.specs.declared.refusal.RequestKind.TheVariants.{KeyChange}
use Rattle.base_core.specs.declared.value.Value.{Value}
use Rattle.class_mapping.specs.Mapped.{Mapped, is_key_attribute}
use Rattle.object_arena.specs.declared.object.Cell.{Cell}
use Rattle.object_arena.specs.declared.object.Object.{Object}
use Rattle.object_arena.specs.declared.object.State.{State}
use Rattle.object_arena.specs.declared.object.State.TheVariants.{Transient, Pending, Persistent, Deleted, Detached}
use Rattle.object_arena.specs.Graph.{cell_in, cell_put, expired_cell, expired_object, has_identity, key_fault, kept_identity, put_back_object}
use Rattle.session_parts.specs.Ends.{left_state, object_committed_in, object_left}
use Rattle.session_scopes.specs.Making.{object_with, unwritten_cell}
use Rattle.session_objects.specs.Taking.{changed_values, is_value_changed, object_taken, returned_object, with_changed}
use Rattle.session_objects.proofs.TakingLemmas.{identity_left, state_left}
use Rattle.session_laws.proofs.Sound.Everyone.{expired_cells}
use Rattle.session_laws.proofs.Calls.Rereading.{both_false}
use Rattle.object_records.proofs.Exact.{value_itself}
use Rattle.session_laws.specs.Health.Health.{HoldsItsKey, is_named}

-- the cell holds what its row holds, or nothing is known of it
abbrev pub IsEven : Cell → Type 0
IsEven cell = cell.value ≡ cell.base

pub never_true : {A : Type 0} (b : Bool) → b ≡ false → b ≡ true → A
never_true b left right = absurd (let h : false ≡ true = sym left ∙ right in cc)

-- ---- a value in a cell

passes : (b : Bool) (e : Refusal) → (if b then Some e else None) ≡ None → b ≡ false
passes true e h = absurd cc
passes false e h = refl

beside : (o : Object) (attr other : AttrNo) (cell : Cell) → other.0 ≢ attr.0 → cell_in (cell_put o attr cell) other ≡ cell_in o other
beside o attr other cell apart = get_or-set_other o.cells attr.0 other.0 cell expired_cell apart

pub set_keyed : (mapped : Mapped) (o : Object) (attr : AttrNo) (value : Value) → key_fault mapped o attr ≡ None → HoldsItsKey mapped o → HoldsItsKey mapped (cell_put o attr (record (cell_in o attr) { value = Some value }))
set_keyed mapped o attr value free keyed = λ named other key.
    let put : Cell = record (cell_in o attr) { value = Some value } in
    let some : is_some o.identity ≡ true = (and_parts (has_identity o.state) (is_some o.identity) named).1 in
    let out : is_key_attribute mapped o.class attr ≡ false = both_false (is_some o.identity) (is_key_attribute mapped o.class attr) (passes (is_some o.identity && is_key_attribute mapped o.class attr) (InvalidRequestError KeyChange) free) some in
    ⊎_elim
    (λ (same : other.0 ≡ attr.0). never_true (is_key_attribute mapped o.class attr) out (sym (ap (λ (n : ℕ). is_key_attribute mapped o.class (record { 0 = n })) same) ∙ key))
    (λ (apart : other.0 ≢ attr.0).
    let same : cell_in (cell_put o attr put) other ≡ cell_in o other = beside o attr other put apart in
    ap (λ (c : Cell). c.value) same ∙ keyed named other key ∙ sym (ap (λ (c : Cell). c.base) same))
    (cases_eq other.0 attr.0)

-- ---- an object that is to be read again

expired_even : (o : Object) (attr : AttrNo) → IsEven (cell_in (expired_object o) attr)
expired_even o attr = ap (λ (c : Cell). c.value) (expired_cells o.cells attr.0) ∙ sym (ap (λ (c : Cell). c.base) (expired_cells o.cells attr.0))

pub expired_keyed : (mapped : Mapped) (o : Object) → HoldsItsKey mapped (expired_object o)
expired_keyed mapped o = λ named attr key. expired_even o attr

pub committed_keyed : (mapped : Mapped) (state : State) (o : Object) → o.state ≡ state → HoldsItsKey mapped o → HoldsItsKey mapped (object_committed_in state o)
committed_keyed mapped Transient o at keyed = keyed
committed_keyed mapped Pending o at keyed = keyed
committed_keyed mapped Persistent o at keyed = expired_keyed mapped o
committed_keyed mapped Deleted o at keyed = λ named attr key. keyed (ap (λ (s : State). is_named s o.identity) at ∙ named) attr key
committed_keyed mapped Detached o at keyed = keyed

-- ---- an object that has left the session

pub left_named : (state : State) (identity : Option (List Value)) → is_named (left_state state) (kept_identity (left_state state) identity) ≡ is_named state identity
left_named Transient identity = refl
left_named Pending identity = refl
left_named Persistent identity = refl
left_named Deleted identity = refl
left_named Detached identity = refl

pub left_keyed : (mapped : Mapped) (o : Object) → HoldsItsKey mapped o → HoldsItsKey mapped (object_left o)
left_keyed mapped o keyed = λ named attr key. keyed (sym (left_named o.state o.identity) ∙ named) attr key

-- ---- an object that is made

pub made_keyed : (mapped : Mapped) (o : Object) → o.state ≡ Transient → HoldsItsKey mapped o
made_keyed mapped o transient = λ named. never_true (is_named o.state o.identity) (ap (λ (s : State). is_named s o.identity) transient) named

-- ---- an object that comes in

-- the cell at a place gets no value, where it holds what its row holds
one_kept : (place : ℕ) (value base : Option Value) (rest : List (AttrNo × Value)) (o : Object) (attr : AttrNo) → (attr.0 ≡ place → value ≡ base) → ((x : Object) → cell_in x attr ≡ cell_in o attr → cell_in (object_with x rest) attr ≡ cell_in o attr)
    → cell_in (object_with o (with_changed place value base rest)) attr ≡ cell_in o attr
one_kept place None base rest o attr even later = later o refl
one_kept place (Some value) base rest o attr even later = by (is_value_changed value base) refl
  where
    by : (b : Bool) → is_value_changed value base ≡ b → cell_in (object_with o (if b then (record { 0 = place }, value) ∷ rest else rest)) attr ≡ cell_in o attr
    by false is = later o refl
    by true is =
        later (cell_put o (record { 0 = place }) (unwritten_cell value))
        (beside o (record { 0 = place }) attr (unwritten_cell value) (λ same.
        never_true (is_value_changed value base) (ap (is_value_changed value) (sym (even same)) ∙ ap not (value_itself value)) is))

values_kept : (cells : List Cell) (place : ℕ) (o : Object) (attr : AttrNo) → ((k : ℕ) → attr.0 ≡ place + k → IsEven (get_or cells k expired_cell)) → cell_in (object_with o (changed_values place cells)) attr ≡ cell_in o attr
values_kept [] place o attr even = refl
values_kept (cell ∷ cells) place o attr even =
    one_kept place cell.value cell.base (changed_values (place + 1) cells) o attr (λ same. even 0 (omega (arith, same)))
    (λ x is. values_kept cells (place + 1) x attr (λ k at. even (suc k) (omega (arith, at))) ∙ is)

pub class_left : (o : Object) (given : List (AttrNo × Value)) → (object_with o given).class ≡ o.class
class_left o [] = refl
class_left o (one ∷ others) = class_left (cell_put o one.0 (unwritten_cell one.1)) others

returned_keyed : (mapped : Mapped) (o : Object) → o.state ≡ Detached → HoldsItsKey mapped o → HoldsItsKey mapped (returned_object o)
returned_keyed mapped o at keyed = λ named attr key.
    let begun : Object = expired_object (record o { state = Persistent; marked = false }) in
    let values : List (AttrNo × Value) = changed_values 0 o.cells in
    let some : is_some o.identity ≡ true = ap (λ (k : Option (List Value)). is_some k) (sym (identity_left begun values)) ∙ (and_parts (has_identity (returned_object o).state) (is_some (returned_object o).identity) named).1 in
    let own : is_named o.state o.identity ≡ true = ap (λ (s : State). is_named s o.identity) at ∙ some in
    let even : IsEven (cell_in o attr) = keyed own attr (ap (λ (c : ClassId). is_key_attribute mapped c attr) (sym (class_left begun values)) ∙ key) in
    let same : cell_in (returned_object o) attr ≡ cell_in begun attr =
    values_kept o.cells 0 begun attr (λ k at.
    let here : attr.0 ≡ k = omega (arith, at) in
    sym (ap (λ (n : ℕ). (get_or o.cells n expired_cell).value) here) ∙ even ∙ ap (λ (n : ℕ). (get_or o.cells n expired_cell).base) here) in
    ap (λ (c : Cell). c.value) same ∙ expired_even (record o { state = Persistent; marked = false }) attr ∙ sym (ap (λ (c : Cell). c.base) same)

pub taken_keyed : (mapped : Mapped) (state : State) (number : ℕ) (o : Object) → o.state ≡ state → HoldsItsKey mapped o → HoldsItsKey mapped (object_taken state number o)
taken_keyed mapped Transient number o at keyed = λ named. absurd cc
taken_keyed mapped Pending number o at keyed = keyed
taken_keyed mapped Persistent number o at keyed = keyed
taken_keyed mapped Deleted number o at keyed = keyed
taken_keyed mapped Detached number o at keyed = returned_keyed mapped o at keyed

-- who had an identity has it then
pub taken_named : (state : State) (number : ℕ) (o : Object) → o.state ≡ state → is_named o.state o.identity ≡ true → is_named (object_taken state number o).state (object_taken state number o).identity ≡ true
taken_named Transient number o at named = never_true (is_named o.state o.identity) (ap (λ (s : State). is_named s o.identity) at) named
taken_named Pending number o at named = named
taken_named Persistent number o at named = named
taken_named Deleted number o at named = named
taken_named Detached number o at named =
    let begun : Object = expired_object (record o { state = Persistent; marked = false }) in
    let values : List (AttrNo × Value) = changed_values 0 o.cells in
    and_from (has_identity (returned_object o).state) (is_some (returned_object o).identity) (ap has_identity (state_left begun values))
    (ap (λ (k : Option (List Value)). is_some k) (identity_left begun values) ∙ (and_parts (has_identity o.state) (is_some o.identity) named).1)

-- ---- an object that goes back

pub back_class : (o : Object) (state : State) (identity : Option (List Value)) → (put_back_object o state identity).class ≡ o.class
back_class o Transient identity = refl
back_class o Pending identity = refl
back_class o Persistent identity = refl
back_class o Deleted identity = refl
back_class o Detached identity = refl

pub back_cells : (o : Object) (state : State) (identity : Option (List Value)) → has_identity state ≡ true → (put_back_object o state identity).cells ≡ o.cells
back_cells o Transient identity named = absurd cc
back_cells o Pending identity named = absurd cc
back_cells o Persistent identity named = refl
back_cells o Deleted identity named = refl
back_cells o Detached identity named = refl
