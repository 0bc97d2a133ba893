-- An `and` of an `and`, and an `or` of an `or`, mean what one list means.
use Rattle.std.proofs.Common.{◌≡◌, Bool, List, [], ◌∷◌, ◌++◌, map, Option, Ok, Err, refl, sym, ap, ◌∙◌}
use Rattle.std.proofs.lemmas.List.{map-append, append_assoc, append-nil}
use Rattle.base_core.specs.declared.value.Value.{Value}
use Rattle.expr_types.specs.declared.expr.Expr.{Expr, out-Expr}
use Rattle.expr_types.specs.declared.expr.Expr.TheOpen.{Expr-F}
use Rattle.expr_types.specs.declared.expr.Expr.TheVariants as expr
use Rattle.expr_types.specs.Normal.{joined_parts, and_parts, and_parts_at, or_parts, or_parts_at}
use Rattle.sql_semantics.specs.Checked.{Checked, ◌>>=◌}
use Rattle.sql_semantics.specs.Truth.{truth_of, value_of, and3, or3, all3, any3}
use Rattle.sql_semantics.specs.Eval.{Place, Meaning, meaning_of, truth, all_from}
use Rattle.sql_semantics.proofs.Equations.{evaluated-And, evaluated-Or}
use Rattle.sql_semantics.proofs.Truths.{and3_assoc, and3_true, or3_assoc, or3_false}
use Rattle.expr_types.proofs.Folds.{whole_is}
use Rattle.select_laws.proofs.Forms.{and_parts_by, or_parts_by}
use Rattle.select_laws.proofs.Negations.{truth_value}

pub bind_same : {A B : Type 0} (r : Checked A) (f g : A → Checked B) → ((v : A) → f v ≡ g v) → (r >>= f) ≡ (r >>= g)
bind_same (Ok v) f g h = h v
bind_same (Err e) f g h = refl

pub bind_assoc : {A B C : Type 0} (r : Checked A) (f : A → Checked B) (g : B → Checked C) → ((r >>= f) >>= g) ≡ (r >>= λ v. f v >>= g)
bind_assoc (Ok v) f g = refl
bind_assoc (Err e) f g = refl

from_append : (p : Place) (done : List Value) (ms ns : List Meaning) → all_from p done (ms ++ ns) ≡ (all_from p done ms >>= λ vs. all_from p vs ns)
from_append p done [] ns = refl
from_append p done (m ∷ ms) ns =
    bind_same (m p) _ _ (λ v. from_append p (done ++ v ∷ []) ms ns) ∙ sym (bind_assoc (m p) (λ v. all_from p (done ++ v ∷ []) ms) (λ vs. all_from p vs ns))

from_onto : (p : Place) (xs ys : List Value) (ms : List Meaning) → all_from p (xs ++ ys) ms ≡ (all_from p ys ms >>= λ vs. Ok (xs ++ vs))
from_onto p xs ys [] = refl
from_onto p xs ys (m ∷ ms) =
    bind_same (m p) _ _ (λ v. ap (λ zs. all_from p zs ms) (append_assoc xs ys (v ∷ [])) ∙ from_onto p xs (ys ++ v ∷ []) ms)
    ∙ sym (bind_assoc (m p) (λ v. all_from p (ys ++ v ∷ []) ms) (λ vs. Ok (xs ++ vs)))

from_none : (p : Place) (xs : List Value) (ms : List Meaning) → all_from p xs ms ≡ (all_from p [] ms >>= λ vs. Ok (xs ++ vs))
from_none p xs ms = ap (λ zs. all_from p zs ms) (sym (append-nil xs)) ∙ from_onto p xs [] ms

-- ---- `and`

all3_append : (xs ys : List (Option Bool)) → all3 (xs ++ ys) ≡ and3 (all3 xs) (all3 ys)
all3_append [] ys = refl
all3_append (x ∷ xs) ys = ap (and3 x) (all3_append xs ys) ∙ sym (and3_assoc x (all3 xs) (all3 ys))

abbrev and_of : List Value → Option Bool
and_of vs = all3 (map truth_of vs)

and_append : (xs ys : List Value) → and_of (xs ++ ys) ≡ and3 (and_of xs) (and_of ys)
and_append xs ys = ap all3 (map-append truth_of xs ys) ∙ all3_append (map truth_of xs) (map truth_of ys)

and_one : (ys : List Value) (t : Option Bool) → and_of (ys ++ value_of t ∷ []) ≡ and3 (and_of ys) t
and_one ys t = and_append ys (value_of t ∷ []) ∙ ap (and3 (and_of ys)) (and3_true (truth_of (value_of t)) ∙ truth_value t)

abbrev and_finish : List Value → Checked Value
and_finish vs = truth (and_of vs)

and_rest : (r : Checked (List Value)) (xs ys : List Value) (k l : List Value → Checked Value) → and_of xs ≡ and_of ys → ((vs ws : List Value) → and_of vs ≡ and_of ws → k vs ≡ l ws) →
    ((r >>= λ ws. Ok (xs ++ ws)) >>= k) ≡ ((r >>= and_finish) >>= λ v. l (ys ++ v ∷ []))
and_rest (Ok ws) xs ys k l e h =
    h (xs ++ ws) (ys ++ value_of (and_of ws) ∷ []) (and_append xs ws ∙ ap (λ t. and3 t (and_of ws)) e ∙ sym (and_one ys (and_of ws)))
and_rest (Err f) xs ys k l e h = refl

and_alone : (r : Checked Value) (xs ys : List Value) (k l : List Value → Checked Value) → and_of xs ≡ and_of ys → ((vs ws : List Value) → and_of vs ≡ and_of ws → k vs ≡ l ws) →
    ((r >>= λ v. Ok (xs ++ v ∷ [])) >>= k) ≡ (r >>= λ v. l (ys ++ v ∷ []))
and_alone (Ok v) xs ys k l e h = h (xs ++ v ∷ []) (ys ++ v ∷ []) (and_append xs (v ∷ []) ∙ ap (λ t. and3 t (and_of (v ∷ []))) e ∙ sym (and_append ys (v ∷ [])))
and_alone (Err f) xs ys k l e h = refl

and_parts_same : (n : Expr) (x : Expr-F Expr) → out-Expr n ≡ x → (p : Place) (xs ys : List Value) (k l : List Value → Checked Value) → and_of xs ≡ and_of ys →
    ((vs ws : List Value) → and_of vs ≡ and_of ws → k vs ≡ l ws) → (all_from p xs (map meaning_of (and_parts_at n x)) >>= k) ≡ (meaning_of n p >>= λ v. l (ys ++ v ∷ []))
and_parts_same n (Expr-F.And es) is p xs ys k l e h =
    ap (λ r. r >>= k) (from_none p xs (map meaning_of es)) ∙ and_rest (all_from p [] (map meaning_of es)) xs ys k l e h
    ∙ ap (λ (r : Checked Value). r >>= λ v. l (ys ++ v ∷ [])) (sym (ap (λ m. m p) (ap meaning_of (whole_is n (Expr-F.And es) is ∙ expr.rolls-And es) ∙ evaluated-And es)))
and_parts_same n level is p xs ys k l e h = and_alone (meaning_of n p) xs ys k l e h

and_flat : (p : Place) (ns : List Expr) (xs ys : List Value) → and_of xs ≡ and_of ys →
    (all_from p xs (map meaning_of (joined_parts and_parts ns)) >>= and_finish) ≡ (all_from p ys (map meaning_of ns) >>= and_finish)
and_flat p [] xs ys e = ap truth e
and_flat p (n ∷ ns) xs ys e =
    ap (λ ms. all_from p xs ms >>= and_finish) (map-append meaning_of (and_parts n) (joined_parts and_parts ns))
    ∙ ap (λ r. r >>= and_finish) (from_append p xs (map meaning_of (and_parts n)) (map meaning_of (joined_parts and_parts ns)))
    ∙ bind_assoc (all_from p xs (map meaning_of (and_parts n))) (λ vs. all_from p vs (map meaning_of (joined_parts and_parts ns))) and_finish
    ∙ ap (λ (es : List Expr). all_from p xs (map meaning_of es) >>= λ vs. all_from p vs (map meaning_of (joined_parts and_parts ns)) >>= and_finish) (and_parts_by n)
    ∙ and_parts_same n (out-Expr n) refl p xs ys (λ vs. all_from p vs (map meaning_of (joined_parts and_parts ns)) >>= and_finish) (λ ws. all_from p ws (map meaning_of ns) >>= and_finish) e (and_flat p ns)
    ∙ sym (bind_assoc (meaning_of n p) (λ v. all_from p (ys ++ v ∷ []) (map meaning_of ns)) and_finish)

pub and_same : (p : Place) (ns : List Expr) → meaning_of (expr.And (joined_parts and_parts ns)) p ≡ meaning_of (expr.And ns) p
and_same p ns = ap (λ m. m p) (evaluated-And (joined_parts and_parts ns)) ∙ and_flat p ns [] [] refl ∙ sym (ap (λ m. m p) (evaluated-And ns))

-- ---- `or`

any3_append : (xs ys : List (Option Bool)) → any3 (xs ++ ys) ≡ or3 (any3 xs) (any3 ys)
any3_append [] ys = refl
any3_append (x ∷ xs) ys = ap (or3 x) (any3_append xs ys) ∙ sym (or3_assoc x (any3 xs) (any3 ys))

abbrev or_of : List Value → Option Bool
or_of vs = any3 (map truth_of vs)

or_append : (xs ys : List Value) → or_of (xs ++ ys) ≡ or3 (or_of xs) (or_of ys)
or_append xs ys = ap any3 (map-append truth_of xs ys) ∙ any3_append (map truth_of xs) (map truth_of ys)

or_one : (ys : List Value) (t : Option Bool) → or_of (ys ++ value_of t ∷ []) ≡ or3 (or_of ys) t
or_one ys t = or_append ys (value_of t ∷ []) ∙ ap (or3 (or_of ys)) (or3_false (truth_of (value_of t)) ∙ truth_value t)

abbrev or_finish : List Value → Checked Value
or_finish vs = truth (or_of vs)

or_rest : (r : Checked (List Value)) (xs ys : List Value) (k l : List Value → Checked Value) → or_of xs ≡ or_of ys → ((vs ws : List Value) → or_of vs ≡ or_of ws → k vs ≡ l ws) →
    ((r >>= λ ws. Ok (xs ++ ws)) >>= k) ≡ ((r >>= or_finish) >>= λ v. l (ys ++ v ∷ []))
or_rest (Ok ws) xs ys k l e h =
    h (xs ++ ws) (ys ++ value_of (or_of ws) ∷ []) (or_append xs ws ∙ ap (λ t. or3 t (or_of ws)) e ∙ sym (or_one ys (or_of ws)))
or_rest (Err f) xs ys k l e h = refl

or_alone : (r : Checked Value) (xs ys : List Value) (k l : List Value → Checked Value) → or_of xs ≡ or_of ys → ((vs ws : List Value) → or_of vs ≡ or_of ws → k vs ≡ l ws) →
    ((r >>= λ v. Ok (xs ++ v ∷ [])) >>= k) ≡ (r >>= λ v. l (ys ++ v ∷ []))
or_alone (Ok v) xs ys k l e h = h (xs ++ v ∷ []) (ys ++ v ∷ []) (or_append xs (v ∷ []) ∙ ap (λ t. or3 t (or_of (v ∷ []))) e ∙ sym (or_append ys (v ∷ [])))
or_alone (Err f) xs ys k l e h = refl

or_parts_same : (n : Expr) (x : Expr-F Expr) → out-Expr n ≡ x → (p : Place) (xs ys : List Value) (k l : List Value → Checked Value) → or_of xs ≡ or_of ys →
    ((vs ws : List Value) → or_of vs ≡ or_of ws → k vs ≡ l ws) → (all_from p xs (map meaning_of (or_parts_at n x)) >>= k) ≡ (meaning_of n p >>= λ v. l (ys ++ v ∷ []))
or_parts_same n (Expr-F.Or es) is p xs ys k l e h =
    ap (λ r. r >>= k) (from_none p xs (map meaning_of es)) ∙ or_rest (all_from p [] (map meaning_of es)) xs ys k l e h
    ∙ ap (λ (r : Checked Value). r >>= λ v. l (ys ++ v ∷ [])) (sym (ap (λ m. m p) (ap meaning_of (whole_is n (Expr-F.Or es) is ∙ expr.rolls-Or es) ∙ evaluated-Or es)))
or_parts_same n level is p xs ys k l e h = or_alone (meaning_of n p) xs ys k l e h

or_flat : (p : Place) (ns : List Expr) (xs ys : List Value) → or_of xs ≡ or_of ys →
    (all_from p xs (map meaning_of (joined_parts or_parts ns)) >>= or_finish) ≡ (all_from p ys (map meaning_of ns) >>= or_finish)
or_flat p [] xs ys e = ap truth e
or_flat p (n ∷ ns) xs ys e =
    ap (λ ms. all_from p xs ms >>= or_finish) (map-append meaning_of (or_parts n) (joined_parts or_parts ns))
    ∙ ap (λ r. r >>= or_finish) (from_append p xs (map meaning_of (or_parts n)) (map meaning_of (joined_parts or_parts ns)))
    ∙ bind_assoc (all_from p xs (map meaning_of (or_parts n))) (λ vs. all_from p vs (map meaning_of (joined_parts or_parts ns))) or_finish
    ∙ ap (λ (es : List Expr). all_from p xs (map meaning_of es) >>= λ vs. all_from p vs (map meaning_of (joined_parts or_parts ns)) >>= or_finish) (or_parts_by n)
    ∙ or_parts_same n (out-Expr n) refl p xs ys (λ vs. all_from p vs (map meaning_of (joined_parts or_parts ns)) >>= or_finish) (λ ws. all_from p ws (map meaning_of ns) >>= or_finish) e (or_flat p ns)
    ∙ sym (bind_assoc (meaning_of n p) (λ v. all_from p (ys ++ v ∷ []) (map meaning_of ns)) or_finish)

pub or_same : (p : Place) (ns : List Expr) → meaning_of (expr.Or (joined_parts or_parts ns)) p ≡ meaning_of (expr.Or ns) p
or_same p ns = ap (λ m. m p) (evaluated-Or (joined_parts or_parts ns)) ∙ or_flat p ns [] [] refl ∙ sym (ap (λ m. m p) (evaluated-Or ns))
