-- No relationship of a class of a valid mapping stands at two places of its list.
use Rattle.std.proofs.Common.{◌≡◌, ◌⊎◌, inl, inr, ℕ, zero, suc, ◌+◌, ◌<◌, Bool, true, false, cond, not, ◌&&◌, List, [], ◌∷◌, ◌++◌, ◌∙◌, length, map, filter, ap, sym, refl, subst, Option, Some, ◌==◌, zero-add, arith}
use Rattle.std.specs.Prelude.{slice_get}
use Rattle.std.specs.List.{enumerate_from, flat_map, list_any}
use Rattle.std.proofs.lemmas.Bool.{eq-eqb, eqb-true, or_left as or_here, or_right as or_there}
use Rattle.std.proofs.lemmas.Option.{same_Some, slice_get_within}
use Rattle.base_core.specs.declared.ids.ClassId.{ClassId}
use Rattle.schema_core.specs.declared.table.TableSpec.{TableSpec}
use Rattle.schema_core.specs.Catalog.{same_name}
use Rattle.schema_core.specs.Declaration.{some_two}
use Rattle.schema_core.proofs.Names.{same_names}
use Rattle.class_types.specs.declared.declared.ClassSpec.{ClassSpec}
use Rattle.class_types.specs.declared.declared.RelationSpec.{RelationSpec}
use Rattle.class_types.specs.declared.mapped.Relation.{Relation}
use Rattle.class_layouts.specs.declared.classes.Classes.{Classes}
use Rattle.class_layouts.specs.declared.layout.Layout.{Layout}
use Rattle.class_layouts.specs.Hierarchy.{has_class, line_of, relations_in}
use Rattle.class_blocks.specs.declared.side.Side.{Side}
use Rattle.class_sides.specs.Sides.{side_of, sides_at}
use Rattle.class_sides.specs.Pairs.{differs, is_class, is_target_in, same_side}
use Rattle.class_sides.specs.Linking as linking
use Rattle.class_mapping.specs.Lines.{AreLines, names_at, names_on, is_same_class}
use Rattle.class_mapping.specs.Mapped.{Mapped}
use Rattle.class_mapping.proofs.Having.{Has, any_has, from_filter, from_flat, from_map, from_numbered, has_at, has_either, has_map, named_alike, none_of, true_false, two_before}
use Rattle.class_mapping.proofs.LineLemmas.{none_at}
use Rattle.class_mapping.proofs.Lists.{and_both, and_left, and_right, none_append, none_map, or_left, or_none, or_right}
use Rattle.class_mapping.proofs.RelatedLemmas.{back_apart, class_is, has_class_from, is_class_of, layouts_in, line_for, names_of_list, not_taken, one_side, own_line, same_class, sides_in, target_in}

-- ---- no two of a list pass a test

false_by : (b : Bool) → (b ≡ true → ⊥) → b ≡ false
false_by true f = absurd (f refl)
false_by false f = refl

pub none_by : {A : Type 0} (p : A → Bool) (xs : List A) → ((x : A) → Has xs x → p x ≡ false) → list_any p xs ≡ false
none_by p [] f = refl
none_by p (x ∷ xs) f = or_none (p x) (list_any p xs) (f x (inl refl)) (none_by p xs (λ y h. f y (inr h)))

two_append : {A : Type 0} (test : A → A → Bool) (xs ys : List A) → some_two test xs ≡ false → some_two test ys ≡ false → ((x y : A) → Has xs x → Has ys y → test y x ≡ false) → some_two test (xs ++ ys) ≡ false
two_append test [] ys p q f = q
two_append test (x ∷ xs) ys p q f =
    or_none (list_any (λ later. test later x) (xs ++ ys)) (some_two test (xs ++ ys))
    (none_append (λ later. test later x) xs ys (or_left (list_any (λ later. test later x) xs) (some_two test xs) p) (none_by (λ later. test later x) ys (λ y h. f x y (inl refl) h)))
    (two_append test xs ys (or_right (list_any (λ later. test later x) xs) (some_two test xs) p) q (λ a b h g. f a b (inr h) g))

-- where no two of a list are near, and the images of two that are apart pass no test
two_flat : {A B : Type 0} (test : B → B → Bool) (near : A → A → Bool) (f : A → List B) (xs : List A) → some_two near xs ≡ false → ((x : A) → Has xs x → some_two test (f x) ≡ false)
    → ((x y : A) → Has xs x → Has xs y → near y x ≡ false → (a b : B) → Has (f x) a → Has (f y) b → test b a ≡ false) → some_two test (flat_map f xs) ≡ false
two_flat test near f [] p q g = refl
two_flat test near f (x ∷ xs) p q g =
    two_append test (f x) (flat_map f xs) (q x (inl refl))
    (two_flat test near f xs (or_right (list_any (λ later. near later x) xs) (some_two near xs) p) (λ y h. q y (inr h)) (λ y z h k. g y z (inr h) (inr k)))
    (λ a b h k.
    let from = from_flat f xs b k in
    g x from.0 (inl refl) (inr from.1) (none_of (λ later. near later x) xs from.0 (or_left (list_any (λ later. near later x) xs) (some_two near xs) p) from.1) a b h from.2)

two_filter : {A : Type 0} (test : A → A → Bool) (keep : A → Bool) (xs : List A) → some_two test xs ≡ false → some_two test (filter keep xs) ≡ false
two_filter test keep [] h = refl
two_filter test keep (x ∷ xs) h = by (keep x) (two_filter test keep xs (or_right (list_any (λ later. test later x) xs) (some_two test xs) h))
  where
    by : (b : Bool) → some_two test (filter keep xs) ≡ false → some_two test (cond b (x ∷ filter keep xs) (filter keep xs)) ≡ false
    by true rest =
        or_none (list_any (λ later. test later x) (filter keep xs)) (some_two test (filter keep xs))
        (none_by (λ later. test later x) (filter keep xs) (λ y k. none_of (λ later. test later x) xs y (or_left (list_any (λ later. test later x) xs) (some_two test xs) h) (from_filter keep xs y k).0)) rest
    by false rest = rest

two_map : {A B : Type 0} (test : A → A → Bool) (other : B → B → Bool) (f : A → B) (xs : List A) → some_two test xs ≡ false → ((x y : A) → Has xs x → Has xs y → test y x ≡ false → other (f y) (f x) ≡ false)
    → some_two other (map f xs) ≡ false
two_map test other f [] h g = refl
two_map test other f (x ∷ xs) h g =
    or_none (list_any (λ later. other later (f x)) (map f xs)) (some_two other (map f xs))
    (none_map (λ later. other later (f x)) f xs
    (none_by (λ y. other (f y) (f x)) xs (λ y k. g x y (inl refl) (inr k) (none_of (λ later. test later x) xs y (or_left (list_any (λ later. test later x) xs) (some_two test xs) h) k))))
    (two_map test other f xs (or_right (list_any (λ later. test later x) xs) (some_two test xs) h) (λ y z k l. g y z (inr k) (inr l)))

none_unmap : {A B : Type 0} (p : B → Bool) (f : A → B) (xs : List A) → list_any p (map f xs) ≡ false → list_any (λ x. p (f x)) xs ≡ false
none_unmap p f [] h = refl
none_unmap p f (x ∷ xs) h = or_none (p (f x)) (list_any (λ y. p (f y)) xs) (or_left (p (f x)) (list_any p (map f xs)) h) (none_unmap p f xs (or_right (p (f x)) (list_any p (map f xs)) h))

two_unmap : {A B : Type 0} (test : B → B → Bool) (f : A → B) (xs : List A) → some_two test (map f xs) ≡ false → some_two (λ one other. test (f one) (f other)) xs ≡ false
two_unmap test f [] h = refl
two_unmap test f (x ∷ xs) h =
    or_none (list_any (λ later. test (f later) (f x)) xs) (some_two (λ one other. test (f one) (f other)) xs)
    (none_unmap (λ later. test later (f x)) f xs (or_left (list_any (λ later. test later (f x)) (map f xs)) (some_two test (map f xs)) h))
    (two_unmap test f xs (or_right (list_any (λ later. test later (f x)) (map f xs)) (some_two test (map f xs)) h))

two_after : (xs ys : List (List ℕ)) → some_two same_name (xs ++ ys) ≡ false → some_two same_name ys ≡ false
two_after [] ys h = h
two_after (x ∷ xs) ys h = two_after xs ys (or_right (list_any (λ later. same_name later x) (xs ++ ys)) (some_two same_name (xs ++ ys)) h)

part_once : (f : ClassId → List (List ℕ)) (line : List ClassId) (class : ClassId) → some_two same_name (flat_map f line) ≡ false → Has line class → some_two same_name (f class) ≡ false
part_once f [] class h g = absurd g
part_once f (other ∷ line) class h (inl e) = subst (λ (c : ClassId). some_two same_name (f c) ≡ false) e (two_before (f other) (flat_map f line) h)
part_once f (other ∷ line) class h (inr g) = part_once f line class (two_after (f other) (flat_map f line) h) g

-- what has a name of its own stands at one place
one_place : {A : Type 0} (f : A → List ℕ) (xs : List A) (i j : ℕ) (x : A) → some_two same_name (map f xs) ≡ false → slice_get xs i ≡ Some x → slice_get xs j ≡ Some x → i ≡ j
one_place f [] i j x h p q = absurd cc
one_place f (y ∷ xs) zero zero x h p q = refl
one_place f (y ∷ xs) zero (suc j) x h p q =
    true_false (list_any (λ later. same_name later (f y)) (map f xs))
    (any_has (λ later. same_name later (f y)) (map f xs) (f x) (has_map f xs x (has_at xs j x q)) (named_alike (f x) (f y) (ap f (sym (same_Some y x p)))))
    (or_left (list_any (λ later. same_name later (f y)) (map f xs)) (some_two same_name (map f xs)) h)
one_place f (y ∷ xs) (suc i) zero x h p q =
    true_false (list_any (λ later. same_name later (f y)) (map f xs))
    (any_has (λ later. same_name later (f y)) (map f xs) (f x) (has_map f xs x (has_at xs i x p)) (named_alike (f x) (f y) (ap f (sym (same_Some y x q)))))
    (or_left (list_any (λ later. same_name later (f y)) (map f xs)) (some_two same_name (map f xs)) h)
one_place f (y ∷ xs) (suc i) (suc j) x h p q = ap suc (one_place f xs i j x (or_right (list_any (λ later. same_name later (f y)) (map f xs)) (some_two same_name (map f xs)) h) p q)

numbers_once : {A : Type 0} (n : ℕ) (xs : List A) → some_two (λ one other. one.0 == other.0) (enumerate_from n xs) ≡ false
numbers_once n [] = refl
numbers_once n (x ∷ xs) =
    or_none (list_any (λ later. later.0 == n) (enumerate_from (n + 1) xs)) (some_two (λ one other. one.0 == other.0) (enumerate_from (n + 1) xs))
    (none_by (λ later. later.0 == n) (enumerate_from (n + 1) xs)
    (λ placed h.
    let from = from_numbered (n + 1) xs placed h in
    let later : placed.0 ≡ n + 1 + from.0 = from.1 in
    false_by (placed.0 == n) (λ e. let same : placed.0 ≡ n = eqb-true placed.0 n e in absurd (omega (arith, later, same)))))
    (numbers_once (n + 1) xs)

none_of_two : (a b : Bool) → b ≡ false → (a && b) ≡ false
none_of_two true b h = h
none_of_two false b h = refl

first_of_two : (a b : Bool) → a ≡ false → (a && b) ≡ false
first_of_two true b h = absurd cc
first_of_two false b h = refl

rest_false : (a b : Bool) → a ≡ true → (a && b) ≡ false → b ≡ false
rest_false true b e h = h
rest_false false b e h = absurd cc

module _ (mapped : Mapped) (lined : length mapped.classes.lines ≡ length mapped.classes.specs) (lines : AreLines mapped.schema.tables mapped.classes) where
  abbrev tables : List TableSpec
  tables = mapped.schema.tables

  abbrev classes : Classes
  classes = mapped.classes

  abbrev layouts : List Layout
  layouts = layouts_in mapped

  abbrev sides : List Side
  sides = sides_in mapped

  -- ---- no two sides are of one class and one name

  block_once : (placed : ℕ × ClassSpec) → Has (enumerate_from 0 classes.specs) placed → some_two same_name (map (λ relation. relation.name) placed.1.relations) ≡ false
  block_once placed h =
      let place = from_numbered 0 classes.specs placed h in
      let here : slice_get classes.specs placed.0 ≡ Some placed.1 = ap (slice_get classes.specs) (place.1 ∙ zero-add place.0) ∙ place.2 in
      let class : ClassId = record { 0 = placed.0 } in
      let less : placed.0 < length classes.specs = slice_get_within classes.specs placed.0 placed.1 here in
      ap (λ (o : Option ClassSpec). some_two same_name (map (λ (relation : RelationSpec). relation.name) (relations_in o))) (sym here)
      ∙ part_once (names_at classes) (line_of classes placed.0) class
      (none_at (λ line. some_two same_name (names_on classes line)) classes.lines placed.0 (line_of classes placed.0) lines.named (line_for mapped lined lines placed.0 less))
      (own_line mapped lined lines class less)

  sides_once : some_two same_side sides ≡ false
  sides_once =
      two_flat same_side (λ one other. one.0 == other.0) (sides_at tables classes layouts) (enumerate_from 0 classes.specs) (numbers_once 0 classes.specs)
      (λ placed h.
      two_map (λ one other. same_name one.name other.name) same_side (side_of tables classes layouts placed.0) placed.1.relations (two_unmap same_name (λ relation. relation.name) placed.1.relations (block_once placed h))
      (λ x y p q e. none_of_two (placed.0 == placed.0) (same_name y.name x.name) e))
      (λ x y p q apart a b h g.
      let one = from_map (side_of tables classes layouts x.0) x.1.relations a h in
      let two = from_map (side_of tables classes layouts y.0) y.1.relations b g in
      first_of_two (b.class.0 == a.class.0) (same_name b.spec.name a.spec.name)
      (ap (λ (s : Side). s.class.0 == a.class.0) (sym two.2) ∙ ap (λ (s : Side). y.0 == s.class.0) (sym one.2) ∙ apart))

  module _ (differing : list_any (differs classes layouts sides) sides ≡ false) where
    -- a name that a class gives: that of a declared relationship, or of a backref
    abbrev GivesOwn : ClassId → List ℕ → Type 0
    GivesOwn class name = (side : Side) × Has sides side × (side.class ≡ class) × (side.spec.name ≡ name)

    abbrev GivesBack : ClassId → List ℕ → Type 0
    GivesBack class name = (side : Side) × Has sides side × (side.spec.backref ≡ true) × (side.target ≡ Some class) × (side.spec.partner ≡ name)

    gives_own : (class : ClassId) (name : List ℕ) → Has (map (λ side. side.spec.name) (filter (linking.is_own class) sides)) name → GivesOwn class name
    gives_own class name h =
        let found = from_map (λ (side : Side). side.spec.name) (filter (linking.is_own class) sides) name h in
        let kept = from_filter (linking.is_own class) sides found.0 found.1 in
        (found.0, kept.0, same_class found.0.class class kept.1, found.2)

    gives_back : (class : ClassId) (name : List ℕ) → Has (map (λ side. side.spec.partner) (filter (linking.makes_back class) sides)) name → GivesBack class name
    gives_back class name h =
        let found = from_map (λ (side : Side). side.spec.partner) (filter (linking.makes_back class) sides) name h in
        let kept = from_filter (linking.makes_back class) sides found.0 found.1 in
        (found.0, kept.0, and_left found.0.spec.backref (is_class found.0.target class) kept.1, class_is found.0.target class (and_right found.0.spec.backref (is_class found.0.target class) kept.1), found.2)

    gives : (class : ClassId) (name : List ℕ) → Has (linking.names_at sides class) name → GivesOwn class name ⊎ GivesBack class name
    gives class name h =
        by (has_either (map (λ (side : Side). side.spec.name) (filter (linking.is_own class) sides)) (map (λ (side : Side). side.spec.partner) (filter (linking.makes_back class) sides)) name h)
      where
        by : Has (map (λ side. side.spec.name) (filter (linking.is_own class) sides)) name ⊎ Has (map (λ side. side.spec.partner) (filter (linking.makes_back class) sides)) name → GivesOwn class name ⊎ GivesBack class name
        by (inl own) = inl (gives_own class name own)
        by (inr back) = inr (gives_back class name back)

    module _ (class : ClassId) (less : class.0 < length classes.specs) where
      abbrev line : List ClassId
      line = line_of classes class.0

      stands : (x : ClassId) (side : Side) → Has line x → side.class ≡ x → has_class line side.class.0 ≡ true
      stands x side h e = has_class_from line x side.class.0 h (ap (λ (c : ClassId). c.0) (sym e))

      leads_in : (x : ClassId) (side : Side) → Has line x → side.target ≡ Some x → is_target_in side.target line ≡ true
      leads_in x side h e = target_in mapped lined lines line side.target x (is_class_of side.target x e) h

      -- no declared relationship has the name of a backref
      own_back : (x y : ClassId) (a b : List ℕ) → Has line x → Has line y → GivesOwn x a → GivesBack y b → b ≡ a → ⊥
      own_back x y a b h g own back e =
          not_taken mapped lined lines differing class.0 less back.0 own.0 back.1 back.2 (leads_in y back.0 g back.3) own.1
          (or_here (has_class line own.0.class.0 && same_name own.0.spec.name back.0.spec.partner) _
          (and_both (has_class line own.0.class.0) (same_name own.0.spec.name back.0.spec.partner) (stands x own.0 h own.2)
          (named_alike own.0.spec.name back.0.spec.partner (own.3 ∙ sym e ∙ sym back.4))))

      clash : (x y : ClassId) (a b : List ℕ) → Has line x → Has line y → GivesOwn x a ⊎ GivesBack x a → GivesOwn y b ⊎ GivesBack y b → b ≡ a → y ≡ x
      clash x y a b h g (inl one) (inl other) e =
          sym other.2
          ∙ ap (λ (s : Side). s.class) (sym (one_side mapped lined lines class.0 less one.0 other.0 one.1 other.1 (stands x one.0 h one.2) (stands y other.0 g other.2) (one.3 ∙ sym e ∙ sym other.3)))
          ∙ one.2
      clash x y a b h g (inl one) (inr other) e = absurd (own_back x y a b h g one other e)
      clash x y a b h g (inr one) (inl other) e = absurd (own_back y x b a g h other one (sym e))
      clash x y a b h g (inr one) (inr other) e =
          let same = back_apart mapped lined lines differing class less one.0 one.1 one.2 (leads_in x one.0 h one.3) other.0 other.1 other.2 (leads_in y other.0 g other.3) (other.4 ∙ e ∙ sym one.4) (same_side one.0 other.0) refl in
          same_Some y x (sym other.3 ∙ ap (λ (s : Side). s.target) same ∙ one.3)

      apart_names : (x y : ClassId) → Has line x → Has line y → is_same_class y x ≡ false → (a b : List ℕ) → Has (linking.names_at sides x) a → Has (linking.names_at sides y) b → same_name b a ≡ false
      apart_names x y h g apart a b p q =
          false_by (same_name b a)
          (λ e. true_false (is_same_class y x) (eq-eqb y.0 x.0 (ap (λ (c : ClassId). c.0) (clash x y a b h g (gives x a p) (gives y b q) (same_names b a e)))) apart)

      own_once : (x : ClassId) → some_two same_name (map (λ side. side.spec.name) (filter (linking.is_own x) sides)) ≡ false
      own_once x =
          two_map same_side same_name (λ side. side.spec.name) (filter (linking.is_own x) sides) (two_filter same_side (linking.is_own x) sides sides_once)
          (λ one other h g e.
          rest_false (other.class.0 == one.class.0) (same_name other.spec.name one.spec.name)
          (eq-eqb other.class.0 one.class.0
          (eqb-true other.class.0 x.0 (from_filter (linking.is_own x) sides other g).1 ∙ sym (eqb-true one.class.0 x.0 (from_filter (linking.is_own x) sides one h).1))) e)

      four : (a b c d : Bool) → a ≡ true → b ≡ true → c ≡ true → d ≡ false → (a && b && c && not d) ≡ true
      four true true true false p q r s = refl
      four true true true true p q r s = absurd cc
      four true true false d p q r s = absurd cc
      four true false c d p q r s = absurd cc
      four false b c d p q r s = absurd cc

      back_once : (x : ClassId) → Has line x → some_two same_name (map (λ side. side.spec.partner) (filter (linking.makes_back x) sides)) ≡ false
      back_once x inside =
          two_map same_side same_name (λ side. side.spec.partner) (filter (linking.makes_back x) sides) (two_filter same_side (linking.makes_back x) sides sides_once)
          (λ one other h g e.
          let first = from_filter (linking.makes_back x) sides one h in
          let second = from_filter (linking.makes_back x) sides other g in
          false_by (same_name other.spec.partner one.spec.partner)
          (λ n.
          not_taken mapped lined lines differing class.0 less other one second.0 (and_left other.spec.backref (is_class other.target x) second.1)
          (leads_in x other inside (class_is other.target x (and_right other.spec.backref (is_class other.target x) second.1))) first.0
          (or_there (has_class line one.class.0 && same_name one.spec.name other.spec.partner) _
          (four one.spec.backref (is_target_in one.target line) (same_name one.spec.partner other.spec.partner) (same_side other one) (and_left one.spec.backref (is_class one.target x) first.1)
          (leads_in x one inside (class_is one.target x (and_right one.spec.backref (is_class one.target x) first.1)))
          (named_alike one.spec.partner other.spec.partner (sym (same_names other.spec.partner one.spec.partner n))) e))))

      names_once : some_two same_name (linking.names_on sides line) ≡ false
      names_once =
          two_flat same_name is_same_class (linking.names_at sides) line
          (none_at (λ line. some_two is_same_class line) classes.lines class.0 line lines.once (line_for mapped lined lines class.0 less))
          (λ x h.
          two_append same_name (map (λ (side : Side). side.spec.name) (filter (linking.is_own x) sides)) (map (λ (side : Side). side.spec.partner) (filter (linking.makes_back x) sides)) (own_once x) (back_once x h)
          (λ a b p q. false_by (same_name b a) (λ e. own_back x x a b h h (gives_own x a p) (gives_back x b q) (same_names b a e))))
          (λ x y h g apart a b p q. apart_names x y h g apart a b p q)

      -- a relationship stands at one place
      pub stands_once : (i j : ℕ) (relation : Relation) → slice_get (linking.relations_on tables classes sides (linking.all_names classes sides) line) i ≡ Some relation
          → slice_get (linking.relations_on tables classes sides (linking.all_names classes sides) line) j ≡ Some relation → i ≡ j
      stands_once i j relation p q =
          one_place (λ (r : Relation). r.name) (linking.relations_on tables classes sides (linking.all_names classes sides) line) i j relation
          (ap (some_two same_name) (names_of_list mapped lined lines line) ∙ names_once) p q
