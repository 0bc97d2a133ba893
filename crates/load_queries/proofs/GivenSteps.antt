-- What rows give to owners, under the numbers of these in a map.
use Rattle.std.proofs.Common.{◌≡◌, ℕ, ◌+◌, ◌<◌, ◌==◌, Bool, true, false, cond, if◌then◌else◌, List, [], ◌∷◌, ◌++◌, length, get_or, drop, Option, None, Some, refl, sym, ap, ◌∙◌, append_assoc, append-nil}
use Rattle.std.specs.BTreeMap.{BTreeMap, get, is_at}
use Rattle.std.specs.Cmp.{unsigned_tied}
use Rattle.std.specs.List.{All, AllByRecursion, cons_option}
use Rattle.std.specs.Option.{unwrap_or}
use Rattle.std.specs.Ordering.{nat_cmp}
use Rattle.std.proofs.lemmas.Bool.{eqb-true}
use Rattle.std.proofs.lemmas.List.{drop_more}
use Rattle.std.proofs.lemmas.List.Elements.{All-from_recursion, filter_map-append, recursion_from_All}
use Rattle.base_core.specs.declared.ids.ClassId.{ClassId}
use Rattle.base_core.specs.declared.ids.ObjId.{ObjId}
use Rattle.class_mapping.specs.Mapped.{Mapped, root_of}
use Rattle.object_arena.specs.Fit.{end_fits, is_of_root}
use Rattle.joined_rows.specs.declared.parts.Part.{Part}
use Rattle.object_parts.specs.declared.answers.Taken.{Taken}
use Rattle.joined_rows.specs.Taking.{IsMember, member_at}
use Rattle.load_queries.specs.Joined.{GiveMembers, given_by, given_to, objects_at}

abbrev Map : Type 0
Map = BTreeMap ℕ (List ObjId)

-- ---- one row more

abbrev one_option : ℕ → Taken → Bool → List ObjId
one_option number one own = cons_option (if own then member_at one.members number else None) []

none_by : (b : Bool) (member : Option ObjId) → member ≡ None → cons_option (if b then member else None) [] ≡ []
none_by true member none = ap (λ m. cons_option m []) none
none_by false member none = refl

-- a row without a member of the option gives nothing
pub none_given : (given : Map) (number : ℕ) (one : Taken) (owner : ObjId) → member_at one.members number ≡ None → objects_at given owner.0 ≡ objects_at given owner.0 ++ given_to number (one ∷ []) owner
none_given given number one owner none =
    sym (append-nil (objects_at given owner.0)) ∙ ap (λ xs. objects_at given owner.0 ++ xs) (sym (none_by (one.owner.0 == owner.0) (member_at one.members number) none))

more_by : (given taken new : Map) (number : ℕ) (one : Taken) (member : ObjId) (more : List ObjId) (owner : ObjId) (b : Bool) → (one.owner.0 == owner.0) ≡ b → member_at one.members number ≡ Some member
    → get nat_cmp taken owner.0 ≡ cond b None (get nat_cmp given owner.0) → get nat_cmp new owner.0 ≡ cond b (Some more) (get nat_cmp taken owner.0) → more ≡ objects_at given one.owner.0 ++ member ∷ []
    → objects_at new owner.0 ≡ objects_at given owner.0 ++ given_to number (one ∷ []) owner
more_by given taken new number one member more owner true same has t n pushed =
    ap (λ o. unwrap_or o []) n ∙ pushed ∙ ap (λ k. objects_at given k ++ member ∷ []) (eqb-true one.owner.0 owner.0 same)
    ∙ ap (λ xs. objects_at given owner.0 ++ xs) (sym (ap (one_option number one) same ∙ ap (λ m. cons_option m []) has))
more_by given taken new number one member more owner false same has t n pushed =
    ap (λ o. unwrap_or o []) (n ∙ t) ∙ sym (append-nil (objects_at given owner.0)) ∙ ap (λ xs. objects_at given owner.0 ++ xs) (sym (ap (one_option number one) same))

-- what a row gives goes behind what its owner was given
pub given_more : (given taken new : Map) (number : ℕ) (one : Taken) (member : ObjId) (more : List ObjId) → member_at one.members number ≡ Some member
    → ((n : ℕ) → get nat_cmp taken n ≡ cond (is_at (nat_cmp one.owner.0) n) None (get nat_cmp given n)) → ((n : ℕ) → get nat_cmp new n ≡ cond (is_at (nat_cmp one.owner.0) n) (Some more) (get nat_cmp taken n))
    → more ≡ objects_at given one.owner.0 ++ member ∷ [] → (owner : ObjId) → objects_at new owner.0 ≡ objects_at given owner.0 ++ given_to number (one ∷ []) owner
given_more given taken new number one member more has t n pushed owner =
    let tied : is_at (nat_cmp one.owner.0) owner.0 ≡ (one.owner.0 == owner.0) = unsigned_tied one.owner.0 owner.0 in
    more_by given taken new number one member more owner (one.owner.0 == owner.0) refl has
    (t owner.0 ∙ ap (λ b. cond b None (get nat_cmp given owner.0)) tied) (n owner.0 ∙ ap (λ b. cond b (Some more) (get nat_cmp taken owner.0)) tied) pushed

-- the loop over rows
pub given_left : (old new : Map) (number : ℕ) (taken : List Taken) (i : ℕ) (one : Taken) → i < length taken → one ≡ get_or taken i one
    → ((owner : ObjId) → objects_at new owner.0 ≡ objects_at old owner.0 ++ given_to number (one ∷ []) owner)
    → ((owner : ObjId) → objects_at old owner.0 ++ given_to number (drop i taken) owner ≡ given_to number taken owner)
    → (owner : ObjId) → objects_at new owner.0 ++ given_to number (drop (i + 1) taken) owner ≡ given_to number taken owner
given_left old new number taken i one less is step left owner =
    let rest : List Taken = drop (i + 1) taken in
    ap (λ xs. xs ++ given_to number rest owner) (step owner)
    ∙ append_assoc (objects_at old owner.0) (given_to number (one ∷ []) owner) (given_to number rest owner)
    ∙ ap (λ xs. objects_at old owner.0 ++ xs) (sym (filter_map-append (given_by number owner) (one ∷ []) rest))
    ∙ ap (λ ys. objects_at old owner.0 ++ given_to number ys owner) (sym (drop_more taken i one less ∙ ap (λ y. y ∷ rest) (sym is)))
    ∙ left owner

-- ---- the hierarchy of what is given

given_every : (mapped : Mapped) (roots : List ClassId) (number : ℕ) (part : Part) (taken : List Taken) (owner : ObjId) → AllByRecursion (λ one. IsMember mapped roots part (member_at one.members number)) taken
    → AllByRecursion (λ object. is_of_root roots (root_of mapped part.target) object ≡ true) (given_to number taken owner)
given_every mapped roots number part [] owner all = tt
given_every mapped roots number part (one ∷ taken) owner all = by (one.owner.0 == owner.0) (member_at one.members number) all.0 (given_every mapped roots number part taken owner all.1)
  where
    root : ClassId
    root = root_of mapped part.target

    rest : List ObjId
    rest = given_to number taken owner

    by : (b : Bool) (member : Option ObjId) → end_fits roots root member ≡ true → AllByRecursion (λ object. is_of_root roots root object ≡ true) rest
        → AllByRecursion (λ object. is_of_root roots root object ≡ true) (cons_option (if b then member else None) rest)
    by true (Some object) fits more = (fits, more)
    by true None fits more = more
    by false member fits more = more

-- what an owner is given for an option is of its target's hierarchy
pub given_all : (mapped : Mapped) (roots : List ClassId) (number : ℕ) (part : Part) (taken : List Taken) (owner : ObjId) → GiveMembers mapped roots (number, part) taken
    → All (λ object. is_of_root roots (root_of mapped part.target) object ≡ true) (given_to number taken owner)
given_all mapped roots number part taken owner give =
    All-from_recursion (λ object. is_of_root roots (root_of mapped part.target) object ≡ true) (given_to number taken owner)
    (given_every mapped roots number part taken owner (recursion_from_All (λ one. IsMember mapped roots part (member_at one.members number)) taken give.all))
