-- A fold that says the same of the normal form as of the expression.
use Rattle.std.proofs.Common.{◌≡◌, Bool, true, false, not, ◌&&◌, List, [], ◌∷◌, ◌++◌, map, Option, Some, None, refl, sym, ap, ◌∙◌}
use Rattle.std.proofs.Math.Bool.{and-true}
use Rattle.std.proofs.lemmas.List.{map-append, append_assoc}
use Rattle.std.proofs.lemmas.List.Folds.{list_all-append}
use Rattle.std.specs.List.{list_all}
use Rattle.base_core.specs.declared.value.Value.{Value}
use Rattle.expr_types.specs.declared.expr.CompareOp.{CompareOp}
use Rattle.expr_types.specs.declared.expr.Func.TheVariants.{Lower}
use Rattle.expr_types.specs.declared.expr.Origin.{Origin}
use Rattle.expr_types.specs.declared.expr.Expr.{Expr, out-Expr, roll-Expr}
use Rattle.expr_types.specs.declared.expr.Expr.TheOpen.{Expr-F}
use Rattle.expr_types.specs.declared.expr.Expr.TheVariants as expr
use Rattle.expr_types.specs.declared.expr.Expr.TheFolds.{fold-Expr}
use Rattle.expr_types.specs.Level.{operands, scope_below}
use Rattle.expr_types.specs.Normal.{normal, negation_of_level, like_by, joined_parts, and_parts, and_parts_at, or_parts, or_parts_at, lower_argument, opposite}
use Rattle.expr_types.proofs.Folds.{fold-Compare, fold-IsNull, fold-And, fold-Or, fold-Not, fold-Arith, fold-Neg, fold-Concat, fold-Like, fold-Ilike, fold-InList, fold-Between, fold-Distinct, fold-Call, fold-Exists, bare, by_levels, whole_is}
use Rattle.expr_normal.proofs.Steps.{normal-Column, normal-Lit, normal-Compare, normal-IsNull, normal-And, normal-Or, normal-Not, normal-Arith, normal-Neg, normal-Concat, normal-Like, normal-Ilike, normal-InList, normal-Between, normal-Distinct, normal-Call, normal-CountAll, normal-Exists}
use Rattle.select_laws.proofs.Forms.{and_parts_by, liked_is, lowered_whole, negated_is, or_parts_by}

-- one level says the same of what the normal form makes of it
pub record Keeps (A : Type 0) (step : Expr-F A → A) : Type 0 where
  pub ands : (xs ys zs : List A) → step (Expr-F.And (xs ++ step (Expr-F.And ys) ∷ zs)) ≡ step (Expr-F.And (xs ++ ys ++ zs))
  pub ors : (xs ys zs : List A) → step (Expr-F.Or (xs ++ step (Expr-F.Or ys) ∷ zs)) ≡ step (Expr-F.Or (xs ++ ys ++ zs))
  pub nots : (a : A) → step (Expr-F.Not (step (Expr-F.Not a))) ≡ a
  pub compares : (op : CompareOp) (a b : A) → step (Expr-F.Compare (opposite op) a b) ≡ step (Expr-F.Not (step (Expr-F.Compare op a b)))
  pub nulls : (g : Bool) (a : A) → step (Expr-F.IsNull (not g) a) ≡ step (Expr-F.Not (step (Expr-F.IsNull g a)))
  pub likes : (g : Bool) (a b : A) → step (Expr-F.Like (not g) a b) ≡ step (Expr-F.Not (step (Expr-F.Like g a b)))
  pub ilikes : (g : Bool) (a b : A) → step (Expr-F.Ilike (not g) a b) ≡ step (Expr-F.Not (step (Expr-F.Ilike g a b)))
  pub lists : (g : Bool) (a : A) (vs : List Value) → step (Expr-F.InList (not g) a vs) ≡ step (Expr-F.Not (step (Expr-F.InList g a vs)))
  pub ranges : (g : Bool) (a low high : A) → step (Expr-F.Between (not g) a low high) ≡ step (Expr-F.Not (step (Expr-F.Between g a low high)))
  pub distincts : (g : Bool) (a b : A) → step (Expr-F.Distinct (not g) a b) ≡ step (Expr-F.Not (step (Expr-F.Distinct g a b)))
  pub exist : (g : Bool) (o : Origin) (a : A) → step (Expr-F.Exists (not g) o a) ≡ step (Expr-F.Not (step (Expr-F.Exists g o a)))
  pub lowers : (g : Bool) (a b : A) → step (Expr-F.Ilike g a b) ≡ step (Expr-F.Like g (step (Expr-F.Call Lower (a ∷ []))) (step (Expr-F.Call Lower (b ∷ []))))

module _ (A : Type 0) (step : Expr-F A → A) (keeps : Keeps A step) where
  abbrev told : Expr → A
  told = fold-Expr A step

  flat_and_at : (n : Expr) (x : Expr-F Expr) → out-Expr n ≡ x → (ns : List Expr) (done : List A)
      → ((d : List A) → step (Expr-F.And (d ++ map told (joined_parts and_parts ns))) ≡ step (Expr-F.And (d ++ map told ns)))
      → step (Expr-F.And (done ++ map told (and_parts_at n x ++ joined_parts and_parts ns))) ≡ step (Expr-F.And (done ++ told n ∷ map told ns))
  flat_and_at n (Expr-F.And es) is ns done h =
      ap (λ l. step (Expr-F.And (done ++ l))) (map-append told es (joined_parts and_parts ns))
      ∙ ap (λ l. step (Expr-F.And l)) (sym (append_assoc done (map told es) (map told (joined_parts and_parts ns))))
      ∙ h (done ++ map told es)
      ∙ sym (keeps.ands done (map told es) (map told ns))
      ∙ ap (λ v. step (Expr-F.And (done ++ v ∷ map told ns))) (sym (fold-And A step es) ∙ ap told (sym (whole_is n (Expr-F.And es) is ∙ expr.rolls-And es)))
  flat_and_at n level is ns done h =
      ap (λ l. step (Expr-F.And l)) (sym (append_assoc done (told n ∷ []) (map told (joined_parts and_parts ns))))
      ∙ h (done ++ told n ∷ [])
      ∙ ap (λ l. step (Expr-F.And l)) (append_assoc done (told n ∷ []) (map told ns))

  flat_and : (ns : List Expr) (done : List A) → step (Expr-F.And (done ++ map told (joined_parts and_parts ns))) ≡ step (Expr-F.And (done ++ map told ns))
  flat_and [] done = refl
  flat_and (n ∷ ns) done =
      ap (λ ps. step (Expr-F.And (done ++ map told (ps ++ joined_parts and_parts ns)))) (and_parts_by n)
      ∙ flat_and_at n (out-Expr n) refl ns done (flat_and ns)

  flat_or_at : (n : Expr) (x : Expr-F Expr) → out-Expr n ≡ x → (ns : List Expr) (done : List A)
      → ((d : List A) → step (Expr-F.Or (d ++ map told (joined_parts or_parts ns))) ≡ step (Expr-F.Or (d ++ map told ns)))
      → step (Expr-F.Or (done ++ map told (or_parts_at n x ++ joined_parts or_parts ns))) ≡ step (Expr-F.Or (done ++ told n ∷ map told ns))
  flat_or_at n (Expr-F.Or es) is ns done h =
      ap (λ l. step (Expr-F.Or (done ++ l))) (map-append told es (joined_parts or_parts ns))
      ∙ ap (λ l. step (Expr-F.Or l)) (sym (append_assoc done (map told es) (map told (joined_parts or_parts ns))))
      ∙ h (done ++ map told es)
      ∙ sym (keeps.ors done (map told es) (map told ns))
      ∙ ap (λ v. step (Expr-F.Or (done ++ v ∷ map told ns))) (sym (fold-Or A step es) ∙ ap told (sym (whole_is n (Expr-F.Or es) is ∙ expr.rolls-Or es)))
  flat_or_at n level is ns done h =
      ap (λ l. step (Expr-F.Or l)) (sym (append_assoc done (told n ∷ []) (map told (joined_parts or_parts ns))))
      ∙ h (done ++ told n ∷ [])
      ∙ ap (λ l. step (Expr-F.Or l)) (append_assoc done (told n ∷ []) (map told ns))

  flat_or : (ns : List Expr) (done : List A) → step (Expr-F.Or (done ++ map told (joined_parts or_parts ns))) ≡ step (Expr-F.Or (done ++ map told ns))
  flat_or [] done = refl
  flat_or (n ∷ ns) done =
      ap (λ ps. step (Expr-F.Or (done ++ map told (ps ++ joined_parts or_parts ns)))) (or_parts_by n)
      ∙ flat_or_at n (out-Expr n) refl ns done (flat_or ns)

  back : (n e : Expr) (v : A) → n ≡ e → told e ≡ v → step (Expr-F.Not v) ≡ step (Expr-F.Not (told n))
  back n e v is h = ap (λ w. step (Expr-F.Not w)) (sym h ∙ ap told (sym is))

  told_negated : (n : Expr) (x : Expr-F Expr) → out-Expr n ≡ x → told (negation_of_level n x) ≡ step (Expr-F.Not (told n))
  told_negated n (Expr-F.Compare op a b) is =
      fold-Compare A step (opposite op) a b ∙ keeps.compares op (told a) (told b)
      ∙ back n (expr.Compare op a b) _ (whole_is n (Expr-F.Compare op a b) is ∙ expr.rolls-Compare op a b) (fold-Compare A step op a b)
  told_negated n (Expr-F.IsNull g a) is =
      fold-IsNull A step (not g) a ∙ keeps.nulls g (told a)
      ∙ back n (expr.IsNull g a) _ (whole_is n (Expr-F.IsNull g a) is ∙ expr.rolls-IsNull g a) (fold-IsNull A step g a)
  told_negated n (Expr-F.Like g a b) is =
      fold-Like A step (not g) a b ∙ keeps.likes g (told a) (told b)
      ∙ back n (expr.Like g a b) _ (whole_is n (Expr-F.Like g a b) is ∙ expr.rolls-Like g a b) (fold-Like A step g a b)
  told_negated n (Expr-F.Ilike g a b) is =
      fold-Ilike A step (not g) a b ∙ keeps.ilikes g (told a) (told b)
      ∙ back n (expr.Ilike g a b) _ (whole_is n (Expr-F.Ilike g a b) is ∙ expr.rolls-Ilike g a b) (fold-Ilike A step g a b)
  told_negated n (Expr-F.InList g a vs) is =
      fold-InList A step (not g) a vs ∙ keeps.lists g (told a) vs
      ∙ back n (expr.InList g a vs) _ (whole_is n (Expr-F.InList g a vs) is ∙ expr.rolls-InList g a vs) (fold-InList A step g a vs)
  told_negated n (Expr-F.Between g a low high) is =
      fold-Between A step (not g) a low high ∙ keeps.ranges g (told a) (told low) (told high)
      ∙ back n (expr.Between g a low high) _ (whole_is n (Expr-F.Between g a low high) is ∙ expr.rolls-Between g a low high) (fold-Between A step g a low high)
  told_negated n (Expr-F.Distinct g a b) is =
      fold-Distinct A step (not g) a b ∙ keeps.distincts g (told a) (told b)
      ∙ back n (expr.Distinct g a b) _ (whole_is n (Expr-F.Distinct g a b) is ∙ expr.rolls-Distinct g a b) (fold-Distinct A step g a b)
  told_negated n (Expr-F.Exists g o a) is =
      fold-Exists A step (not g) o a ∙ keeps.exist g o (told a)
      ∙ back n (expr.Exists g o a) _ (whole_is n (Expr-F.Exists g o a) is ∙ expr.rolls-Exists g o a) (fold-Exists A step g o a)
  told_negated n (Expr-F.Not a) is =
      sym (keeps.nots (told a)) ∙ back n (expr.Not a) _ (whole_is n (Expr-F.Not a) is ∙ expr.rolls-Not a) (fold-Not A step a)
  told_negated n level is = fold-Not A step n

  told_liked : (g : Bool) (a b : Expr) (s t : Option Expr) → lower_argument a ≡ s → lower_argument b ≡ t → told (like_by g a b s t) ≡ step (Expr-F.Like g (told a) (told b))
  told_liked g a b (Some x) (Some y) es et =
      fold-Ilike A step g x y ∙ keeps.lowers g (told x) (told y)
      ∙ ap (λ v. step (Expr-F.Like g v (step (Expr-F.Call Lower (told y ∷ []))))) (sym (ap told (lowered_whole a x es) ∙ fold-Call A step Lower (x ∷ [])))
      ∙ ap (λ v. step (Expr-F.Like g (told a) v)) (sym (ap told (lowered_whole b y et) ∙ fold-Call A step Lower (y ∷ [])))
  told_liked g a b (Some x) None es et = fold-Like A step g a b
  told_liked g a b None t es et = fold-Like A step g a b

  abbrev Known : Type 0
  Known = (e : Expr) × (told (normal e) ≡ told e)

  abbrev plain : List Known → List Expr
  plain = map (λ k. k.0)

  each_told : (ks : List Known) → map told (map normal (plain ks)) ≡ map told (plain ks)
  each_told [] = refl
  each_told (k ∷ ks) = ap (λ v. v ∷ map told (map normal (plain ks))) k.1 ∙ ap (λ l. told k.0 ∷ l) (each_told ks)

  via : (x e : Expr) → x ≡ e → told (normal e) ≡ told e → told (normal x) ≡ told x
  via x e is h = ap (λ z. told (normal z)) is ∙ h ∙ ap told (sym is)

  level : (y : Expr-F Known) → told (normal (roll-Expr (bare y))) ≡ told (roll-Expr (bare y))
  level (Expr-F.Column s c) = via _ _ (expr.rolls-Column s c) (ap told (normal-Column s c))
  level (Expr-F.Lit v) = via _ _ (expr.rolls-Lit v) (ap told (normal-Lit v))
  level Expr-F.CountAll = via _ _ expr.rolls-CountAll (ap told normal-CountAll)
  level (Expr-F.And es) =
      via _ _ (expr.rolls-And (plain es))
      (ap told (normal-And (plain es)) ∙ fold-And A step (joined_parts and_parts (map normal (plain es))) ∙ flat_and (map normal (plain es)) []
      ∙ ap (λ l. step (Expr-F.And l)) (each_told es) ∙ sym (fold-And A step (plain es)))
  level (Expr-F.Or es) =
      via _ _ (expr.rolls-Or (plain es))
      (ap told (normal-Or (plain es)) ∙ fold-Or A step (joined_parts or_parts (map normal (plain es))) ∙ flat_or (map normal (plain es)) []
      ∙ ap (λ l. step (Expr-F.Or l)) (each_told es) ∙ sym (fold-Or A step (plain es)))
  level (Expr-F.Call f es) =
      via _ _ (expr.rolls-Call f (plain es))
      (ap told (normal-Call f (plain es)) ∙ fold-Call A step f (map normal (plain es)) ∙ ap (λ l. step (Expr-F.Call f l)) (each_told es) ∙ sym (fold-Call A step f (plain es)))
  level (Expr-F.Not a) =
      via _ _ (expr.rolls-Not a.0)
      (ap told (normal-Not a.0 ∙ negated_is (normal a.0)) ∙ told_negated (normal a.0) (out-Expr (normal a.0)) refl ∙ ap (λ v. step (Expr-F.Not v)) a.1 ∙ sym (fold-Not A step a.0))
  level (Expr-F.Like g a b) =
      via _ _ (expr.rolls-Like g a.0 b.0)
      (ap told (normal-Like g a.0 b.0 ∙ liked_is g (normal a.0) (normal b.0)) ∙ told_liked g (normal a.0) (normal b.0) (lower_argument (normal a.0)) (lower_argument (normal b.0)) refl refl
      ∙ ap (λ v. step (Expr-F.Like g v (told (normal b.0)))) a.1 ∙ ap (λ v. step (Expr-F.Like g (told a.0) v)) b.1 ∙ sym (fold-Like A step g a.0 b.0))
  level (Expr-F.Compare op a b) =
      via _ _ (expr.rolls-Compare op a.0 b.0)
      (ap told (normal-Compare op a.0 b.0) ∙ fold-Compare A step op (normal a.0) (normal b.0) ∙ ap (λ v. step (Expr-F.Compare op v (told (normal b.0)))) a.1 ∙ ap (λ v. step (Expr-F.Compare op (told a.0) v)) b.1 ∙ sym (fold-Compare A step op a.0 b.0))
  level (Expr-F.IsNull g a) =
      via _ _ (expr.rolls-IsNull g a.0)
      (ap told (normal-IsNull g a.0) ∙ fold-IsNull A step g (normal a.0) ∙ ap (λ v. step (Expr-F.IsNull g v)) a.1 ∙ sym (fold-IsNull A step g a.0))
  level (Expr-F.Arith op a b) =
      via _ _ (expr.rolls-Arith op a.0 b.0)
      (ap told (normal-Arith op a.0 b.0) ∙ fold-Arith A step op (normal a.0) (normal b.0) ∙ ap (λ v. step (Expr-F.Arith op v (told (normal b.0)))) a.1 ∙ ap (λ v. step (Expr-F.Arith op (told a.0) v)) b.1 ∙ sym (fold-Arith A step op a.0 b.0))
  level (Expr-F.Neg a) =
      via _ _ (expr.rolls-Neg a.0)
      (ap told (normal-Neg a.0) ∙ fold-Neg A step (normal a.0) ∙ ap (λ v. step (Expr-F.Neg v)) a.1 ∙ sym (fold-Neg A step a.0))
  level (Expr-F.Concat a b) =
      via _ _ (expr.rolls-Concat a.0 b.0)
      (ap told (normal-Concat a.0 b.0) ∙ fold-Concat A step (normal a.0) (normal b.0) ∙ ap (λ v. step (Expr-F.Concat v (told (normal b.0)))) a.1 ∙ ap (λ v. step (Expr-F.Concat (told a.0) v)) b.1 ∙ sym (fold-Concat A step a.0 b.0))
  level (Expr-F.Ilike g a b) =
      via _ _ (expr.rolls-Ilike g a.0 b.0)
      (ap told (normal-Ilike g a.0 b.0) ∙ fold-Ilike A step g (normal a.0) (normal b.0) ∙ ap (λ v. step (Expr-F.Ilike g v (told (normal b.0)))) a.1 ∙ ap (λ v. step (Expr-F.Ilike g (told a.0) v)) b.1 ∙ sym (fold-Ilike A step g a.0 b.0))
  level (Expr-F.InList g a vs) =
      via _ _ (expr.rolls-InList g a.0 vs)
      (ap told (normal-InList g a.0 vs) ∙ fold-InList A step g (normal a.0) vs ∙ ap (λ v. step (Expr-F.InList g v vs)) a.1 ∙ sym (fold-InList A step g a.0 vs))
  level (Expr-F.Between g a low high) =
      via _ _ (expr.rolls-Between g a.0 low.0 high.0)
      (ap told (normal-Between g a.0 low.0 high.0) ∙ fold-Between A step g (normal a.0) (normal low.0) (normal high.0) ∙ ap (λ v. step (Expr-F.Between g v (told (normal low.0)) (told (normal high.0)))) a.1 ∙ ap (λ v. step (Expr-F.Between g (told a.0) v (told (normal high.0)))) low.1 ∙ ap (λ v. step (Expr-F.Between g (told a.0) (told low.0) v)) high.1 ∙ sym (fold-Between A step g a.0 low.0 high.0))
  level (Expr-F.Distinct g a b) =
      via _ _ (expr.rolls-Distinct g a.0 b.0)
      (ap told (normal-Distinct g a.0 b.0) ∙ fold-Distinct A step g (normal a.0) (normal b.0) ∙ ap (λ v. step (Expr-F.Distinct g v (told (normal b.0)))) a.1 ∙ ap (λ v. step (Expr-F.Distinct g (told a.0) v)) b.1 ∙ sym (fold-Distinct A step g a.0 b.0))
  level (Expr-F.Exists g o a) =
      via _ _ (expr.rolls-Exists g o a.0)
      (ap told (normal-Exists g o a.0) ∙ fold-Exists A step g o (normal a.0) ∙ ap (λ v. step (Expr-F.Exists g o v)) a.1 ∙ sym (fold-Exists A step g o a.0))

  -- what the fold says of the normal form is what it says of the expression
  pub kept : (e : Expr) → told (normal e) ≡ told e
  kept = by_levels (λ e. told (normal e) ≡ told e) level

-- ---- a test of every level

-- the test of one level does not mind what the normal form makes of it
pub record KeepsTest (S : Type 0) (test : S → Expr-F (S → Bool) → Bool) : Type 0 where
  pub ands : (s : S) (xs : List (S → Bool)) → test s (Expr-F.And xs) ≡ true
  pub ors : (s : S) (xs : List (S → Bool)) → test s (Expr-F.Or xs) ≡ true
  pub nots : (s : S) (a : S → Bool) → test s (Expr-F.Not a) ≡ true
  pub likes : (s : S) (g : Bool) (a b : S → Bool) → test s (Expr-F.Like g a b) ≡ true
  pub ilikes : (s : S) (g : Bool) (a b : S → Bool) → test s (Expr-F.Ilike g a b) ≡ true
  pub lowers : (s : S) (a : S → Bool) → test s (Expr-F.Call Lower (a ∷ [])) ≡ true
  pub compares : (s : S) (op : CompareOp) (a b : S → Bool) → test s (Expr-F.Compare (opposite op) a b) ≡ test s (Expr-F.Compare op a b)
  pub nulls : (s : S) (g : Bool) (a : S → Bool) → test s (Expr-F.IsNull (not g) a) ≡ test s (Expr-F.IsNull g a)
  pub lists : (s : S) (g : Bool) (a : S → Bool) (vs : List Value) → test s (Expr-F.InList (not g) a vs) ≡ test s (Expr-F.InList g a vs)
  pub ranges : (s : S) (g : Bool) (a low high : S → Bool) → test s (Expr-F.Between (not g) a low high) ≡ test s (Expr-F.Between g a low high)
  pub distincts : (s : S) (g : Bool) (a b : S → Bool) → test s (Expr-F.Distinct (not g) a b) ≡ test s (Expr-F.Distinct g a b)
  pub exist : (s : S) (g : Bool) (o : Origin) (a : S → Bool) → test s (Expr-F.Exists (not g) o a) ≡ test s (Expr-F.Exists g o a)

abbrev pub is_column : {A : Type 0} → Expr-F A → Bool
is_column (Expr-F.Column source column) = true
is_column level = false

-- nor does one that holds at every level but at columns
module _ (S : Type 0) (test : S → Expr-F (S → Bool) → Bool) (holds : (s : S) (level : Expr-F (S → Bool)) → is_column level ≡ false → test s level ≡ true) where
  alike : (s : S) (a b : Expr-F (S → Bool)) → is_column a ≡ false → is_column b ≡ false → test s a ≡ test s b
  alike s a b first second = holds s a first ∙ sym (holds s b second)

  pub at_columns : KeepsTest S test
  at_columns = record {
    ands = λ s xs. holds s (Expr-F.And xs) refl;
    ors = λ s xs. holds s (Expr-F.Or xs) refl;
    nots = λ s a. holds s (Expr-F.Not a) refl;
    likes = λ s g a b. holds s (Expr-F.Like g a b) refl;
    ilikes = λ s g a b. holds s (Expr-F.Ilike g a b) refl;
    lowers = λ s a. holds s (Expr-F.Call Lower (a ∷ [])) refl;
    compares = λ s op a b. alike s (Expr-F.Compare (opposite op) a b) (Expr-F.Compare op a b) refl refl;
    nulls = λ s g a. alike s (Expr-F.IsNull (not g) a) (Expr-F.IsNull g a) refl refl;
    lists = λ s g a vs. alike s (Expr-F.InList (not g) a vs) (Expr-F.InList g a vs) refl refl;
    ranges = λ s g a low high. alike s (Expr-F.Between (not g) a low high) (Expr-F.Between g a low high) refl refl;
    distincts = λ s g a b. alike s (Expr-F.Distinct (not g) a b) (Expr-F.Distinct g a b) refl refl;
    exist = λ s g o a. alike s (Expr-F.Exists (not g) o a) (Expr-F.Exists g o a) refl refl;
  }

abbrev pub every_step : {S : Type 0} → (S → Origin → S) → (S → Expr-F (S → Bool) → Bool) → Expr-F (S → Bool) → S → Bool
every_step enter test level scope = test scope level && list_all (λ holds. holds (scope_below enter scope level)) (operands level)

only : (b c : Bool) → b ≡ true → (b && c) ≡ c
only b c e = ap (λ x. x && c) e

under : (t u v q : Bool) → t ≡ v → u ≡ true → (t && q) ≡ (u && ((v && q) && true))
under t u v q e f = ap (λ b. b && q) e ∙ sym (only u ((v && q) && true) f ∙ and-true (v && q))

lowered_pair : (p q : Bool) → (p && (q && true)) ≡ ((p && true) && ((q && true) && true))
lowered_pair p q = ap (λ b. p && b) (sym (and-true (q && true))) ∙ ap (λ b. b && ((q && true) && true)) (sym (and-true p))

all_flat : {X : Type 0} (p : X → Bool) (xs ys zs : List X) (m : X) → p m ≡ list_all p ys → list_all p (xs ++ m ∷ zs) ≡ list_all p (xs ++ ys ++ zs)
all_flat p [] ys zs m e = ap (λ b. b && list_all p zs) e ∙ sym (list_all-append p ys zs)
all_flat p (x ∷ xs) ys zs m e = ap (λ b. p x && b) (all_flat p xs ys zs m e)

module _ (S : Type 0) (enter : S → Origin → S) (test : S → Expr-F (S → Bool) → Bool) (k : KeepsTest S test) where
  abbrev step : Expr-F (S → Bool) → S → Bool
  step = every_step enter test

  joined_at : (s : S) (t u v : Bool) (xs ys zs : List (S → Bool)) (m : S → Bool) → t ≡ true → u ≡ true → v ≡ true → m s ≡ (v && list_all (λ holds. holds s) ys)
      → (t && list_all (λ holds. holds s) (xs ++ m ∷ zs)) ≡ (u && list_all (λ holds. holds s) (xs ++ ys ++ zs))
  joined_at s t u v xs ys zs m e f h is =
      only t _ e ∙ all_flat (λ holds. holds s) xs ys zs m (is ∙ only v _ h) ∙ sym (only u _ f)

  pub every_keeps : Keeps (S → Bool) step
  every_keeps = record {
    ands = λ xs ys zs i s. joined_at s _ _ _ xs ys zs (step (Expr-F.And ys)) (k.ands s (xs ++ step (Expr-F.And ys) ∷ zs)) (k.ands s (xs ++ ys ++ zs)) (k.ands s ys) refl i;
    ors = λ xs ys zs i s. joined_at s _ _ _ xs ys zs (step (Expr-F.Or ys)) (k.ors s (xs ++ step (Expr-F.Or ys) ∷ zs)) (k.ors s (xs ++ ys ++ zs)) (k.ors s ys) refl i;
    nots = λ a i s. (only _ _ (k.nots s (step (Expr-F.Not a))) ∙ and-true (step (Expr-F.Not a) s) ∙ only _ _ (k.nots s a) ∙ and-true (a s)) i;
    compares = λ op a b i s. under _ _ _ (a s && (b s && true)) (k.compares s op a b) (k.nots s (step (Expr-F.Compare op a b))) i;
    nulls = λ g a i s. under _ _ _ (a s && true) (k.nulls s g a) (k.nots s (step (Expr-F.IsNull g a))) i;
    likes = λ g a b i s. under _ _ _ (a s && (b s && true)) (k.likes s (not g) a b ∙ sym (k.likes s g a b)) (k.nots s (step (Expr-F.Like g a b))) i;
    ilikes = λ g a b i s. under _ _ _ (a s && (b s && true)) (k.ilikes s (not g) a b ∙ sym (k.ilikes s g a b)) (k.nots s (step (Expr-F.Ilike g a b))) i;
    lists = λ g a vs i s. under _ _ _ (a s && true) (k.lists s g a vs) (k.nots s (step (Expr-F.InList g a vs))) i;
    ranges = λ g a low high i s. under _ _ _ (a s && (low s && (high s && true))) (k.ranges s g a low high) (k.nots s (step (Expr-F.Between g a low high))) i;
    distincts = λ g a b i s. under _ _ _ (a s && (b s && true)) (k.distincts s g a b) (k.nots s (step (Expr-F.Distinct g a b))) i;
    exist = λ g o a i s. under _ _ _ (a (enter s o) && true) (k.exist s g o a) (k.nots s (step (Expr-F.Exists g o a))) i;
    lowers = λ g a b i s. (only _ _ (k.ilikes s g a b) ∙ lowered_pair (a s) (b s)
        ∙ sym (only _ _ (k.likes s g (step (Expr-F.Call Lower (a ∷ []))) (step (Expr-F.Call Lower (b ∷ []))))
        ∙ ap (λ c. c && (step (Expr-F.Call Lower (b ∷ [])) s && true)) (only _ _ (k.lowers s a))
        ∙ ap (λ c. (a s && true) && (c && true)) (only _ _ (k.lowers s b)))) i;
  }
