-- What is made of the operands of a level, and the levels of expressions under more sources.
use Rattle.std.proofs.Common.{◌≡◌, ℕ, ◌+◌, ◌-◌, Bool, true, false, if◌then◌else◌, List, [], ◌∷◌, ◌++◌, length, map, refl, sym, ap, ◌∙◌, arith, append_assoc}
use Rattle.std.specs.Prelude.{nat_lt, slice_get}
use Rattle.std.specs.List.{AllByRecursion}
use Rattle.std.proofs.lemmas.Bool.{ltb-false, ltb-true}
use Rattle.base_core.proofs.Lists.{get_after, get_before}
use Rattle.expr_types.specs.declared.expr.Expr.{Expr, roll-Expr}
use Rattle.expr_types.specs.declared.expr.Expr.TheOpen.{Expr-F}
use Rattle.expr_types.specs.declared.expr.Expr.TheFolds.{fold-Expr, fold-roll-Expr, map-Expr}
use Rattle.expr_types.specs.declared.expr.Expr.TheVariants as expr
use Rattle.expr_types.specs.Level.{aggregate_level, has_aggregate, operands}
use Rattle.expr_types.proofs.Folds.{bare, by_levels}
use Rattle.sql_semantics.specs.Rows.{exists_tables, flat, own_table}
use Rattle.main_selects.specs.Shifted.{shift_level, shifted, shifted_place}

-- ---- operands

pub every_one : {A : Type 0} (P : A → Type 0) → ((x : A) → P x) → (xs : List A) → AllByRecursion P xs
every_one P each [] = tt
every_one P each (x ∷ xs) = (each x, every_one P each xs)

two_alike : {A B : Type 0} (of : A → A → B) (a b c d : A) → a ≡ c → b ≡ d → of a b ≡ of c d
two_alike of a b c d p q = ap (λ x. of x b) p ∙ ap (λ x. of c x) q

lists_alike : {A B C : Type 0} (f : B → C) (g : A → B) (h : A → C) (es : List A) → AllByRecursion (λ e. f (g e) ≡ h e) es → map f (map g es) ≡ map h es
lists_alike f g h [] p = refl
lists_alike f g h (e ∷ es) p = ap (λ x. x ∷ map f (map g es)) p.0 ∙ ap (λ xs. h e ∷ xs) (lists_alike f g h es p.1)

-- two functions, the one after the other, make of a level what a third one makes of it where they do so of each operand
pub levels_alike : {A B C : Type 0} (f : B → C) (g : A → B) (h : A → C) (y : Expr-F A) → AllByRecursion (λ e. f (g e) ≡ h e) (operands y) → map-Expr B C f (map-Expr A B g y) ≡ map-Expr A C h y
levels_alike f g h (Expr-F.Column s c) p = refl
levels_alike f g h (Expr-F.Lit v) p = refl
levels_alike f g h (Expr-F.Compare op a b) p = two_alike (λ x y. Expr-F.Compare op x y) (f (g a)) (f (g b)) (h a) (h b) p.0 p.1.0
levels_alike f g h (Expr-F.IsNull n a) p = ap (λ x. Expr-F.IsNull n x) p.0
levels_alike f g h (Expr-F.And es) p = ap (λ xs. Expr-F.And xs) (lists_alike f g h es p)
levels_alike f g h (Expr-F.Or es) p = ap (λ xs. Expr-F.Or xs) (lists_alike f g h es p)
levels_alike f g h (Expr-F.Not a) p = ap (λ x. Expr-F.Not x) p.0
levels_alike f g h (Expr-F.Arith op a b) p = two_alike (λ x y. Expr-F.Arith op x y) (f (g a)) (f (g b)) (h a) (h b) p.0 p.1.0
levels_alike f g h (Expr-F.Neg a) p = ap (λ x. Expr-F.Neg x) p.0
levels_alike f g h (Expr-F.Concat a b) p = two_alike (λ x y. Expr-F.Concat x y) (f (g a)) (f (g b)) (h a) (h b) p.0 p.1.0
levels_alike f g h (Expr-F.Like n a b) p = two_alike (λ x y. Expr-F.Like n x y) (f (g a)) (f (g b)) (h a) (h b) p.0 p.1.0
levels_alike f g h (Expr-F.Ilike n a b) p = two_alike (λ x y. Expr-F.Ilike n x y) (f (g a)) (f (g b)) (h a) (h b) p.0 p.1.0
levels_alike f g h (Expr-F.InList n a vs) p = ap (λ x. Expr-F.InList n x vs) p.0
levels_alike f g h (Expr-F.Between n a b c) p =
    two_alike (λ x y. Expr-F.Between n x y (f (g c))) (f (g a)) (f (g b)) (h a) (h b) p.0 p.1.0 ∙ ap (λ x. Expr-F.Between n (h a) (h b) x) p.1.1.0
levels_alike f g h (Expr-F.Distinct n a b) p = two_alike (λ x y. Expr-F.Distinct n x y) (f (g a)) (f (g b)) (h a) (h b) p.0 p.1.0
levels_alike f g h (Expr-F.Call k es) p = ap (λ xs. Expr-F.Call k xs) (lists_alike f g h es p)
levels_alike f g h Expr-F.CountAll p = refl
levels_alike f g h (Expr-F.Exists n o a) p = ap (λ x. Expr-F.Exists n o x) p.0

pub map_twice : {A B C : Type 0} (f : B → C) (g : A → B) (x : Expr-F A) → map-Expr B C f (map-Expr A B g x) ≡ map-Expr A C (λ a. f (g a)) x
map_twice f g x = levels_alike f g (λ a. f (g a)) x (every_one (λ a. f (g a) ≡ f (g a)) (λ a. refl) (operands x))

-- what two functions make alike of each operand they make alike of the level
pub same_below : {P : Expr → Type 0} {C : Type 0} (f g : Expr → C) (y : Expr-F ((e : Expr) × P e)) → AllByRecursion (λ k. f k.0 ≡ g k.0) (operands y) → map-Expr Expr C f (bare y) ≡ map-Expr Expr C g (bare y)
same_below f g y p = levels_alike f (λ k. k.0) (λ k. g k.0) y p ∙ sym (levels_alike g (λ k. k.0) (λ k. g k.0) y (every_one (λ k. g k.0 ≡ g k.0) (λ k. refl) (operands y)))

-- ---- more sources

-- a level whose column names its source under more sources
abbrev pub moved : {A : Type 0} → ℕ → ℕ → Expr-F A → Expr-F A
moved own more (Expr-F.Column source column) = Expr-F.Column (shifted_place own more source) column
moved own more level = level

shift_is : (own more : ℕ) (x : Expr-F Expr) → shift_level own more x ≡ roll-Expr (moved own more x)
shift_is own more (Expr-F.Column s c) = sym (expr.rolls-Column (shifted_place own more s) c)
shift_is own more x = refl

-- an expression under more sources, by its level
pub shifted_rolled : (own more : ℕ) (x : Expr-F Expr) → shifted own more (roll-Expr x) ≡ roll-Expr (moved own more (map-Expr Expr Expr (shifted own more) x))
unfolding shifted
shifted_rolled own more x = fold-roll-Expr Expr (shift_level own more) x ∙ shift_is own more (map-Expr Expr Expr (shifted own more) x)

moved_map : {A B : Type 0} (own more : ℕ) (f : A → B) (x : Expr-F A) → map-Expr A B f (moved own more x) ≡ moved own more (map-Expr A B f x)
moved_map own more f (Expr-F.Column s c) = refl
moved_map own more f x = refl

-- a fold of it, by its level
pub fold_moved : {A : Type 0} (step : Expr-F A → A) (own more : ℕ) (x : Expr-F Expr)
    → fold-Expr A step (shifted own more (roll-Expr x)) ≡ step (moved own more (map-Expr Expr A (λ e. fold-Expr A step (shifted own more e)) x))
fold_moved {A = A} step own more x =
    ap (fold-Expr A step) (shifted_rolled own more x) ∙ fold-roll-Expr A step (moved own more (map-Expr Expr Expr (shifted own more) x))
    ∙ ap step (moved_map own more (fold-Expr A step) (map-Expr Expr Expr (shifted own more) x)) ∙ ap (λ y. step (moved own more y)) (map_twice (fold-Expr A step) (shifted own more) x)

-- what asks for no source stays
pub fold_stays : {A : Type 0} (step : Expr-F A → A) (own more : ℕ) → ((x : Expr-F A) → step (moved own more x) ≡ step x) → (e : Expr) → fold-Expr A step (shifted own more e) ≡ fold-Expr A step e
fold_stays {A = A} step own more blind =
    by_levels (λ e. fold-Expr A step (shifted own more e) ≡ fold-Expr A step e)
    (λ y. fold_moved step own more (bare y) ∙ blind (map-Expr Expr A (λ e. fold-Expr A step (shifted own more e)) (bare y))
    ∙ ap step (same_below (λ e. fold-Expr A step (shifted own more e)) (fold-Expr A step) y (every_one (λ k. fold-Expr A step (shifted own more k.0) ≡ fold-Expr A step k.0) (λ k. k.1) (operands y)))
    ∙ sym (fold-roll-Expr A step (bare y)))

place_stays : (own source : ℕ) → shifted_place own 0 source ≡ source
place_stays own source = by (nat_lt source own)
  where
    by : (b : Bool) → (if b then source else (source + 0)) ≡ source
    by true = refl
    by false = omega arith

moved_none : {A : Type 0} (own : ℕ) (x : Expr-F A) → moved own 0 x ≡ x
moved_none own (Expr-F.Column s c) = ap (λ n. Expr-F.Column n c) (place_stays own s)
moved_none own x = refl

-- under no more sources an expression stays
pub unshifted : (own : ℕ) (e : Expr) → shifted own 0 e ≡ e
unshifted own =
    by_levels (λ e. shifted own 0 e ≡ e)
    (λ y. shifted_rolled own 0 (bare y) ∙ ap (λ x. roll-Expr (moved own 0 x)) (levels_alike (shifted own 0) (λ k. k.0) (λ k. k.0) y (every_one (λ k. shifted own 0 k.0 ≡ k.0) (λ k. k.1) (operands y)))
    ∙ ap roll-Expr (moved_none own (bare y)))

-- ---- what asks for no source

pub aggregates_stay : (own more : ℕ) (e : Expr) → has_aggregate (shifted own more e) ≡ has_aggregate e
unfolding has_aggregate
aggregates_stay own more = fold_stays aggregate_level own more blind
  where
    blind : (x : Expr-F Bool) → aggregate_level (moved own more x) ≡ aggregate_level x
    blind (Expr-F.Column s c) = refl
    blind x = refl

pub tables_stay : (own more : ℕ) (e : Expr) → exists_tables (shifted own more e) ≡ exists_tables e
unfolding exists_tables
tables_stay own more = fold_stays (λ level. own_table level ++ flat (operands level)) own more blind
  where
    blind : (x : Expr-F (List ℕ)) → own_table (moved own more x) ++ flat (operands (moved own more x)) ≡ own_table x ++ flat (operands x)
    blind (Expr-F.Column s c) = refl
    blind x = refl

-- ---- places

-- what stands in one of the first or last places stands there with more between them
pub get_shifted : {A : Type 0} (own extra inner : List A) (source : ℕ) → slice_get (own ++ (extra ++ inner)) (shifted_place (length own) (length extra) source) ≡ slice_get (own ++ inner) source
get_shifted {A = A} own extra inner source = by (nat_lt source (length own)) refl
  where
    by : (b : Bool) → nat_lt source (length own) ≡ b → slice_get (own ++ (extra ++ inner)) (if b then source else (source + length extra)) ≡ slice_get (own ++ inner) source
    by true is = let less = ltb-true source (length own) is in get_before own (extra ++ inner) source less ∙ sym (get_before own inner source less)
    by false is =
        let above = ltb-false source (length own) is in
        let k : ℕ = source - length own in
        let here : source ≡ length own + k = omega (arith, above) in
        let there : source + length extra ≡ length own + (length extra + k) = omega (arith, above) in
        ap (slice_get (own ++ (extra ++ inner))) there ∙ get_after own (extra ++ inner) (length extra + k) ∙ get_after extra inner k ∙ sym (get_after own inner k) ∙ sym (ap (slice_get (own ++ inner)) here)

pub between : {A : Type 0} (own extra inner : List A) (x : A) → (own ++ (extra ++ inner)) ++ x ∷ [] ≡ own ++ (extra ++ (inner ++ x ∷ []))
between own extra inner x = append_assoc own (extra ++ inner) (x ∷ []) ∙ ap (λ xs. own ++ xs) (append_assoc extra inner (x ∷ []))
