-- Of the lists with the same ties in the same order, one is sorted.
use Rattle.std.proofs.Common.{◌≡◌, Bool, true, false, cond, not, ◌&&◌, List, [], ◌∷◌, refl, sym, ap, ◌∙◌}
use Rattle.std.specs.List.{filter}
use Rattle.std.specs.declared.cmp.Ordering.{Ordering}
use Rattle.std.specs.declared.cmp.Ordering.TheVariants.{Less}
use Rattle.std.specs.Cmp.{IsTotalOrder}
use Rattle.select_laws.proofs.Insertion.{less, tied, tied_self, is_less, none_tied, Rises, all_below}

same_first : {A : Type 0} (x y : A) (xs ys : List A) → x ∷ xs ≡ y ∷ ys → x ≡ y
same_first x y xs ys e = cc

same_rest : {A : Type 0} (b : Bool) (x y : A) (xs ys : List A) → cond b (x ∷ xs) xs ≡ cond b (y ∷ ys) ys → xs ≡ ys
same_rest true x y xs ys e = cc
same_rest false x y xs ys e = e

not_empty : {A B : Type 0} (x : A) (xs : List A) → [] ≡ x ∷ xs → B
not_empty x xs e = absurd (cc)

both_tests : (a b : Bool) → a ≡ false → b ≡ false → (not a && not b) ≡ true
both_tests a b e f = rw (e, f) refl

module _ {K X : Type 0} (R : K → K → Ordering) (o : IsTotalOrder R) where
  first_kept : (y : K × X) (ys : List (K × X)) → filter (tied R o y) (y ∷ ys) ≡ y ∷ filter (tied R o y) ys
  first_kept y ys = ap (λ b. cond b (y ∷ filter (tied R o y) ys) (filter (tied R o y) ys)) (tied_self R o y)

  not_first : (b : Bool) (y z : K × X) (zs rest : List (K × X)) → less R o y z ≡ b → Rises R o (z ∷ zs) → filter (tied R o y) (z ∷ zs) ≡ y ∷ rest → b ≡ false
  not_first true y z zs rest e h f =
      let under : R y.0 z.0 ≡ Less = is_less (R y.0 z.0) e in
      not_empty y rest (sym (none_tied R o y y (tied_self R o y) (z ∷ zs) (under, all_below R o y z under zs h.0)) ∙ f)
  not_first false y z zs rest e h f = refl

  pub one_list : (ys zs : List (K × X)) → Rises R o ys → Rises R o zs → ((w : K × X) → filter (tied R o w) ys ≡ filter (tied R o w) zs) → ys ≡ zs
  one_list [] [] a b h = refl
  one_list [] (z ∷ zs) a b h = not_empty z (filter (tied R o z) zs) (h z ∙ first_kept z zs)
  one_list (y ∷ ys) [] a b h = not_empty y (filter (tied R o y) ys) (sym (h y) ∙ first_kept y ys)
  one_list (y ∷ ys) (z ∷ zs) a b h =
      let up : less R o y z ≡ false = not_first (less R o y z) y z zs (filter (tied R o y) ys) refl b (sym (h y) ∙ first_kept y ys) in
      let down : less R o z y ≡ false = not_first (less R o z y) z y ys (filter (tied R o z) zs) refl a (h z ∙ first_kept z zs) in
      let tie : tied R o y z ≡ true = both_tests (less R o y z) (less R o z y) up down in
      let kept : y ∷ filter (tied R o y) ys ≡ z ∷ filter (tied R o y) zs =
      sym (first_kept y ys) ∙ h y ∙ ap (λ b. cond b (z ∷ filter (tied R o y) zs) (filter (tied R o y) zs)) tie in
      let same : y ≡ z = same_first y z (filter (tied R o y) ys) (filter (tied R o y) zs) kept in
      let rest = one_list ys zs a.1 b.1 (λ w. same_rest (tied R o w y) y z (filter (tied R o w) ys) (filter (tied R o w) zs)
      (h w ∙ ap (λ v. cond (tied R o w v) (z ∷ filter (tied R o w) zs) (filter (tied R o w) zs)) (sym same))) in
      ap (λ v. v ∷ ys) same ∙ ap (λ l. z ∷ l) rest
