-- A class that is pushed behind the others, is judged there, and is taken back where it has a fault.
use Rattle.std.proofs.Common.{◌≡◌, ℕ, List, [], ◌∷◌, ◌++◌, ◌∙◌, length, take, ap, sym, refl, Option, None, Some, Result, Ok, Err}
use Rattle.std.specs.Prelude.{slice_get}
use Rattle.base_core.specs.declared.ids.ClassId.{ClassId}
use Rattle.base_core.specs.declared.refusal.ArgumentKind.{ArgumentKind}
use Rattle.base_core.specs.declared.refusal.Refusal.{Refusal}
use Rattle.base_core.specs.declared.refusal.Refusal.TheVariants.{ArgumentError}
use Rattle.schema_core.specs.declared.table.TableSpec.{TableSpec}
use Rattle.class_types.specs.Rules.{Rules}
use Rattle.class_types.specs.declared.declared.ClassSpec.{ClassSpec}
use Rattle.class_layouts.specs.declared.classes.Classes.{Classes}
use Rattle.class_layouts.specs.Hierarchy.{line_of, line_or_none, new_line, with_class}
use Rattle.class_layouts.specs.Faults.{class_fault, fault_at, fault_of, first_fault}
use Rattle.class_layouts.specs.Declaring.{declare, declared_unless}

get_last : {A : Type 0} (xs : List A) (x : A) → slice_get (xs ++ x ∷ []) (length xs) ≡ Some x
get_last [] x = refl
get_last (y ∷ xs) x = get_last xs x

take_last : {A : Type 0} (xs : List A) (x : A) → take (length xs) (xs ++ x ∷ []) ≡ xs
take_last [] x = refl
take_last (y ∷ xs) x = ap (λ ys. y ∷ ys) (take_last xs x)

line_last : (classes : Classes) (spec : ClassSpec) → length classes.lines ≡ length classes.specs → line_of (with_class classes spec) (length classes.specs) ≡ new_line classes spec
line_last classes spec h =
    ap line_or_none (ap (slice_get (classes.lines ++ new_line classes spec ∷ [])) (sym h) ∙ get_last classes.lines (new_line classes spec))

-- the fault of the class that stands last is that of its declaration
pub fault_last : (rules : Rules) (tables : List TableSpec) (classes : Classes) (spec : ClassSpec) → length classes.lines ≡ length classes.specs
    → fault_at rules tables (with_class classes spec) (length classes.specs) ≡ class_fault rules tables classes spec
fault_last rules tables classes spec h =
    let whole : Classes = with_class classes spec in
    let n : ℕ = length classes.specs in
    ap (fault_of rules tables whole n) (get_last classes.specs spec)
    ∙ ap (λ others. first_fault rules tables others whole spec (line_of whole n)) (take_last classes.specs spec)
    ∙ ap (first_fault rules tables classes.specs whole spec) (line_last classes spec h)

abbrev pushed_with : Classes → ClassSpec → List ClassId → Classes
pushed_with classes spec line = record { specs = classes.specs ++ spec ∷ []; lines = classes.lines ++ line ∷ [] }

is_with : (classes : Classes) (spec : ClassSpec) (line : List ClassId) (pushed : Classes) → line ≡ new_line classes spec → pushed ≡ pushed_with classes spec line → pushed ≡ with_class classes spec
is_with classes spec line pushed l p = p ∙ ap (pushed_with classes spec) l

judged : (rules : Rules) (tables : List TableSpec) (classes : Classes) (spec : ClassSpec) (pushed : Classes) (count : ℕ) (fault : Option ArgumentKind) → length classes.lines ≡ length classes.specs → pushed ≡ with_class classes spec → count ≡ length classes.specs
    → fault ≡ fault_at rules tables pushed count → class_fault rules tables classes spec ≡ fault
judged rules tables classes spec pushed count fault h p n f =
    sym (f ∙ ap (λ whole. fault_at rules tables whole count) p ∙ ap (fault_at rules tables (with_class classes spec)) n ∙ fault_last rules tables classes spec h)

pub declare_ok : (rules : Rules) (tables : List TableSpec) (classes : Classes) (spec : ClassSpec) (line : List ClassId) (pushed : Classes) (count : ℕ) → length classes.lines ≡ length classes.specs → line ≡ new_line classes spec → pushed ≡ pushed_with classes spec line → count ≡ length classes.specs
    → None ≡ fault_at rules tables pushed count → declare rules tables classes spec ≡ Ok (tt, pushed)
declare_ok rules tables classes spec line pushed count h l p n f =
    let whole : pushed ≡ with_class classes spec = is_with classes spec line pushed l p in
    ap (λ fault. declared_unless fault classes spec) (judged rules tables classes spec pushed count None h whole n f)
    ∙ sym (ap (λ (now : Classes). let r : Result (Unit {0} × Classes) Refusal = Ok (tt, now) in r) whole)

taken_back : (classes : Classes) (spec : ClassSpec) (pushed : Classes) (count : ℕ) → length classes.lines ≡ length classes.specs → pushed ≡ with_class classes spec → count ≡ length classes.specs
    → let back : Classes = record { specs = take count pushed.specs; lines = take count pushed.lines } in back ≡ classes
taken_back classes spec pushed count h p n =
    ap (λ (now : Classes). let back : Classes = record { specs = take count now.specs; lines = take count now.lines } in back) p
    ∙ ap (λ k. let back : Classes = record { specs = take k (classes.specs ++ spec ∷ []); lines = take k (classes.lines ++ new_line classes spec ∷ []) } in back) n
    ∙ ap (λ specs. let back : Classes = record { specs = specs; lines = take (length classes.specs) (classes.lines ++ new_line classes spec ∷ []) } in back) (take_last classes.specs spec)
    ∙ ap (λ k. let back : Classes = record { specs = classes.specs; lines = take k (classes.lines ++ new_line classes spec ∷ []) } in back) (sym h)
    ∙ ap (λ lines. let back : Classes = record { specs = classes.specs; lines = lines } in back) (take_last classes.lines (new_line classes spec))

pub declare_err : (rules : Rules) (tables : List TableSpec) (classes : Classes) (spec : ClassSpec) (line : List ClassId) (pushed popped : Classes) (count : ℕ) (fault : ArgumentKind) → length classes.lines ≡ length classes.specs → line ≡ new_line classes spec → pushed ≡ pushed_with classes spec line
    → (let back : Classes = record { specs = take count pushed.specs; lines = take count pushed.lines } in popped ≡ back) → count ≡ length classes.specs
    → Some fault ≡ fault_at rules tables pushed count → (popped ≡ classes) × (declare rules tables classes spec ≡ Err (ArgumentError fault))
declare_err rules tables classes spec line pushed popped count fault h l p b n f =
    let whole : pushed ≡ with_class classes spec = is_with classes spec line pushed l p in
    (b ∙ taken_back classes spec pushed count h whole n, ap (λ found. declared_unless found classes spec) (judged rules tables classes spec pushed count (Some fault) h whole n f))
