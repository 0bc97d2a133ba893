-- The key that a line gives fits its class.
use Rattle.std.proofs.Common.{arith, ◌≡◌, ◌==◌, ℕ, suc, Bool, true, false, not, ◌&&◌, ◌||◌, if◌then◌else◌, List, [], ◌∷◌, length, Option, None, Some, refl, sym, ap, ◌∙◌}
use Rattle.std.proofs.lemmas.Bool.{eqb-true}
use Rattle.std.specs.Cmp.Lexicographic.{pointwise}
use Rattle.base_core.specs.declared.ids.AttrNo.{AttrNo}
use Rattle.base_core.specs.declared.ids.ClassId.{ClassId}
use Rattle.base_core.specs.declared.refusal.Refusal.{Refusal}
use Rattle.base_core.specs.declared.refusal.Refusal.TheVariants.{TypeMismatch}
use Rattle.base_core.specs.declared.value.Kind.{Kind}
use Rattle.base_core.specs.declared.value.Kind.TheVariants as kinds
use Rattle.base_core.specs.declared.value.Value.{Value}
use Rattle.base_core.specs.declared.value.Value.TheVariants as values
use Rattle.schema_core.specs.Catalog.{same_kind}
use Rattle.schema_core.specs.Refusals.{kind_fault}
use Rattle.schema_core.specs.Tables.{has_null, is_null, kind_of_value}
use Rattle.class_mapping.specs.Mapped.{Mapped, attribute_of, key_attributes}
use Rattle.object_arena.specs.Fit.{is_just_of_kind, key_fits, key_value_fits}
use Rattle.command_names.specs.Attributes.{first_of_two, value_fault}
use Rattle.command_resolve.specs.Resolving.{is_whole_key, parts_fault}

some≢none : {A : Type 0} {x : A} → Some x ≡ None → ⊥
some≢none is = cc

true≢false : true ≡ false → ⊥
true≢false is = cc

same_by : (wanted found : Kind) (same : Bool) → (if same then None else Some (TypeMismatch wanted found)) ≡ None → same ≡ true
same_by wanted found true is = refl
same_by wanted found false is = absurd (some≢none is)

-- a value that is not NULL and has no fault is of the kind
fits_by : (wanted : Kind) (value : Value) → is_null value ≡ false → kind_fault wanted (kind_of_value value) ≡ None → is_just_of_kind wanted (kind_of_value value) ≡ true
fits_by wanted values.Null null is = absurd (true≢false null)
fits_by wanted (values.Bool b) null is = same_by wanted kinds.Boolean (same_kind wanted kinds.Boolean) is
fits_by wanted (values.Int n) null is = same_by wanted kinds.Integer (same_kind wanted kinds.Integer) is
fits_by wanted (values.Text t) null is = same_by wanted kinds.Text (same_kind wanted kinds.Text) is
fits_by wanted (values.Bytes b) null is = same_by wanted kinds.Bytes (same_kind wanted kinds.Bytes) is

first_none : (first second : Option Refusal) → first_of_two first second ≡ None → first ≡ None
first_none None second is = refl
first_none (Some e) second is = absurd (some≢none is)

second_none : (first second : Option Refusal) → first_of_two first second ≡ None → second ≡ None
second_none None second is = is
second_none (Some e) second is = absurd (some≢none is)

neither : (a b : Bool) → a || b ≡ false → (a ≡ false) × (b ≡ false)
neither true b is = absurd (true≢false is)
neither false b is = (refl, is)

one_less : (n m : ℕ) → suc n ≡ suc m → n ≡ m
one_less n m is = omega (arith, is)

parts_fit : (mapped : Mapped) (class : ClassId) (attrs : List AttrNo) (cells : List Value) → length cells ≡ length attrs → has_null cells ≡ false → parts_fault mapped class attrs cells ≡ None
    → pointwise (key_value_fits mapped class) attrs cells ≡ true
parts_fit mapped class [] [] long null is = refl
parts_fit mapped class [] (value ∷ cells) long null is = absurd (omega (arith, long))
parts_fit mapped class (attr ∷ attrs) [] long null is = absurd (omega (arith, long))
parts_fit mapped class (attr ∷ attrs) (value ∷ cells) long null is =
    let nulls = neither (is_null value) (has_null cells) null in
    let first = first_none (value_fault mapped class attr value) (parts_fault mapped class attrs cells) is in
    let others = second_none (value_fault mapped class attr value) (parts_fault mapped class attrs cells) is in
    ap (λ (b : Bool). b && pointwise (key_value_fits mapped class) attrs cells) (fits_by (attribute_of mapped class attr).kind value nulls.0 first)
    ∙ parts_fit mapped class attrs cells (one_less (length cells) (length attrs) long) nulls.1 others

both_true : (a b : Bool) → a && b ≡ true → (a ≡ true) × (b ≡ true)
both_true true true is = (refl, refl)
both_true true false is = absurd (true≢false (sym is))
both_true false b is = absurd (true≢false (sym is))

not_true : (b : Bool) → not b ≡ true → b ≡ false
not_true true is = absurd (true≢false (sym is))
not_true false is = refl

-- a whole key without a fault fits
pub key_of_line : (mapped : Mapped) (class : ClassId) (key : List Value) → is_whole_key mapped class key ≡ true → parts_fault mapped class (key_attributes mapped class) key ≡ None → key_fits mapped class key ≡ true
key_of_line mapped class key whole is =
    let parts = both_true (length key == length (key_attributes mapped class)) (not (has_null key)) whole in
    parts_fit mapped class (key_attributes mapped class) key (eqb-true (length key) (length (key_attributes mapped class)) parts.0) (not_true (has_null key) parts.1) is
