-- What a walk has come to, after one object and after many.
use Rattle.std.proofs.Common.{◌≡◌, ◌≢◌, ℕ, ◌+◌, ◌<◌, Bool, true, false, ◌||◌, cond, List, [], ◌∷◌, ◌++◌, length, set, zero, suc, refl, sym, ap, ◌∙◌, subst, ⊎_elim, ◌⊎◌, inl, inr, arith}
use Rattle.std.specs.Prelude.{◌==◌}
use Rattle.std.specs.Ordering.{nat_cmp}
use Rattle.std.specs.Cmp.{unsigned_tied}
use Rattle.std.specs.BTreeMap.{is_at}
use Rattle.std.proofs.lemmas.Bool.{cases_Bool, cases_eq, eqb-true, eq-eqb, or_left, or_right}
use Rattle.std.proofs.lemmas.List.{get_or-set_other, get_or-set_same}
use Rattle.std.proofs.lemmas.List.Folds.{list_any-append}
use Rattle.base_core.specs.declared.ids.ObjId.{ObjId}
use Rattle.cascades.specs.Closures.{is_among}
use Rattle.cascades.specs.Walks.{Comes, count_left, id_of_number, is_in, is_marked}

pub or_cases : (a b : Bool) → (a || b) ≡ true → (a ≡ true) ⊎ (b ≡ true)
or_cases true b h = inl refl
or_cases false b h = inr h

pub clash : {P : Type 0} (b : Bool) → b ≡ true → b ≡ false → P
clash b present absent = absurd (let e : true ≡ false = sym present ∙ absent in cc)

-- an object among one is it
pub among_one : (object other : ObjId) → is_among (other ∷ []) object ≡ true → object.0 ≡ other.0
among_one object other h = ⊎_elim (λ (same : (object.0 == other.0) ≡ true). eqb-true object.0 other.0 same) (λ (none : false ≡ true). absurd cc) (or_cases (object.0 == other.0) false h)

pub among_left : (xs ys : List ObjId) (object : ObjId) → is_among xs object ≡ true → is_among (xs ++ ys) object ≡ true
among_left xs ys object h = list_any-append (λ other. object.0 == other.0) xs ys ∙ or_left (is_among xs object) (is_among ys object) h

pub among_right : (xs ys : List ObjId) (object : ObjId) → is_among ys object ≡ true → is_among (xs ++ ys) object ≡ true
among_right xs ys object h = list_any-append (λ other. object.0 == other.0) xs ys ∙ or_right (is_among xs object) (is_among ys object) h

pub among_split : (xs ys : List ObjId) (object : ObjId) → is_among (xs ++ ys) object ≡ true → (is_among xs object ≡ true) ⊎ (is_among ys object ≡ true)
among_split xs ys object h = or_cases (is_among xs object) (is_among ys object) (sym (list_any-append (λ other. object.0 == other.0) xs ys) ∙ h)

-- ---- the walk came to no object

pub comes_none : (reached : ℕ → Bool) (waiting : List ObjId) → Comes reached reached waiting waiting []
comes_none reached waiting = record {
  kept = λ number h. h;
  all = λ object h. absurd (let e : false ≡ true = h in cc);
  only = λ number present absent. clash (reached number) present absent;
  waits = λ number present absent. clash (reached number) present absent;
  still = λ object h. h;
  held = λ object present absent. clash (is_among waiting object) present absent;
}

-- ---- to one object

-- it had come there
pub comes_again : (reached : ℕ → Bool) (waiting : List ObjId) (object : ObjId) → reached object.0 ≡ true → Comes reached reached waiting waiting (object ∷ [])
comes_again reached waiting object there = record {
  kept = λ number h. h;
  all = λ other h. subst (λ (n : ℕ). reached n ≡ true) (sym (among_one other object h)) there;
  only = λ number present absent. clash (reached number) present absent;
  waits = λ number present absent. clash (reached number) present absent;
  still = λ other h. h;
  held = λ other present absent. clash (is_among waiting other) present absent;
}

one_among : (object : ObjId) (number : ℕ) → number ≡ object.0 → is_among (object ∷ []) (id_of_number number) ≡ true
one_among object number same = or_left (number == object.0) false (eq-eqb number object.0 same)

cond_true : (b rest : Bool) → rest ≡ true → cond b true rest ≡ true
cond_true true rest h = refl
cond_true false rest h = h

cond_own : (b rest : Bool) → b ≡ true → cond b true rest ≡ true
cond_own true rest h = refl
cond_own false rest h = absurd cc

cond_only : (b rest : Bool) → cond b true rest ≡ true → rest ≡ false → b ≡ true
cond_only true rest h absent = refl
cond_only false rest h absent = clash rest h absent

-- what has been reached when a number is put in
abbrev pub Puts : (old new : ℕ → Bool) → ℕ → Type 0
Puts old new key = (number : ℕ) → new number ≡ cond (key == number) true (old number)

-- it came there first
pub comes_first : (old new : ℕ → Bool) (waited waiting : List ObjId) (object : ObjId) → Puts old new object.0 → waiting ≡ waited ++ object ∷ [] → Comes old new waited waiting (object ∷ [])
comes_first old new waited waiting object puts is =
    subst (λ (ws : List ObjId). Comes old new waited ws (object ∷ [])) (sym is)
    (record {
      kept = λ number h. puts number ∙ cond_true (object.0 == number) (old number) h;
      all = λ other h. at_it other.0 (among_one other object h);
      only = λ number present absent. one_among object number (its number present absent);
      waits = λ number present absent. among_right waited (object ∷ []) (id_of_number number) (one_among object number (its number present absent));
      still = λ other h. among_left waited (object ∷ []) other h;
      held = λ other present absent.
          ⊎_elim
          (λ (before : is_among waited other ≡ true). clash (is_among waited other) before absent)
          (λ (now : is_among (object ∷ []) other ≡ true). at_it other.0 (among_one other object now))
          (among_split waited (object ∷ []) other present);
    })
  where
    at_it : (number : ℕ) → number ≡ object.0 → new number ≡ true
    at_it number same = puts number ∙ cond_own (object.0 == number) (old number) (eq-eqb object.0 number (sym same))

    its : (number : ℕ) → new number ≡ true → old number ≡ false → number ≡ object.0
    its number present absent = sym (eqb-true object.0 number (cond_only (object.0 == number) (old number) (sym (puts number) ∙ present) absent))

-- a mark is put
pub puts_mark : (marks : List Bool) (key : ℕ) → key < length marks → Puts (is_marked marks) (is_marked (set marks key true)) key
puts_mark marks key less number =
    ⊎_elim
    (λ (same : number ≡ key).
    ap (is_marked (set marks key true)) same ∙ get_or-set_same marks key true false less ∙ sym (cond_own (key == number) (is_marked marks number) (eq-eqb key number (sym same))))
    (λ (other : number ≢ key). get_or-set_other marks key number true false other ∙ by (key == number) refl other)
    (cases_eq number key)
  where
    by : (b : Bool) → (key == number) ≡ b → number ≢ key → is_marked marks number ≡ cond b true (is_marked marks number)
    by true same other = absurd (other (sym (eqb-true key number same)))
    by false same other = refl

-- one mark less is left
pub one_less : (marks : List Bool) (number : ℕ) → number < length marks → is_marked marks number ≡ false → count_left (set marks number true) + 1 ≡ count_left marks
one_less [] number less absent = absurd (omega (arith, less))
one_less (true ∷ marks) zero less absent = absurd (let e : true ≡ false = absent in cc)
one_less (false ∷ marks) zero less absent = refl
one_less (true ∷ marks) (suc number) less absent = one_less marks number (omega (arith, less)) absent
one_less (false ∷ marks) (suc number) less absent = ap (λ (n : ℕ). n + 1) (one_less marks number (omega (arith, less)) absent)

-- a number is put into a set
pub puts_number : (old new : List ℕ) (key : ℕ) → ((number : ℕ) → is_in new number ≡ cond (is_at (nat_cmp key) number) true (is_in old number)) → Puts (is_in old) (is_in new) key
puts_number old new key inserts number = inserts number ∙ ap (λ (b : Bool). cond b true (is_in old number)) (unsigned_tied key number)

-- ---- to objects, and then to more

pub comes_more : (old mid new : ℕ → Bool) (waited between waiting xs ys : List ObjId) → Comes old mid waited between xs → Comes mid new between waiting ys → Comes old new waited waiting (xs ++ ys)
comes_more old mid new waited between waiting xs ys first second = record {
  kept = λ number h. second.kept number (first.kept number h);
  all = λ object h.
      ⊎_elim
      (λ (left : is_among xs object ≡ true). second.kept object.0 (first.all object left))
      (λ (right : is_among ys object ≡ true). second.all object right)
      (among_split xs ys object h);
  only = λ number present absent.
      ⊎_elim
      (λ (there : mid number ≡ true). among_left xs ys (id_of_number number) (first.only number there absent))
      (λ (later : mid number ≡ false). among_right xs ys (id_of_number number) (second.only number present later))
      (cases_Bool (mid number));
  waits = λ number present absent.
      ⊎_elim
      (λ (there : mid number ≡ true). second.still (id_of_number number) (first.waits number there absent))
      (λ (later : mid number ≡ false). second.waits number present later)
      (cases_Bool (mid number));
  still = λ object h. second.still object (first.still object h);
  held = λ object present absent.
      ⊎_elim
      (λ (there : is_among between object ≡ true). second.kept object.0 (first.held object there absent))
      (λ (later : is_among between object ≡ false). second.held object present later)
      (cases_Bool (is_among between object));
}
