-- What a query's main select leaves: the objects of its rows, and the links of its joined options.
use Rattle.std.proofs.Common.{◌≡◌, ℕ, zero, suc, ◌+◌, ◌==◌, ◌&&◌, Bool, true, false, List, [], ◌∷◌, ◌++◌, map, Option, None, Some, if◌then◌else◌, refl, sym, ap, subst, arith, append_assoc, append-nil}
use Rattle.std.specs.Prelude.{filter, filter_map, slice_get}
use Rattle.std.specs.List.{AllByRecursion, cons_option, enumerate_from}
use Rattle.std.proofs.lemmas.Bool.{and_parts}
use Rattle.std.proofs.lemmas.List.Elements.{All-from_recursion, recursion_from_All}
use Rattle.std.proofs.lemmas.Option.{same_Some}
use Rattle.base_core.proofs.Lists.{every_append}
use Rattle.base_core.specs.declared.ids.AttrNo.{AttrNo}
use Rattle.base_core.specs.declared.ids.ClassId.{ClassId}
use Rattle.base_core.specs.declared.ids.ObjId.{ObjId}
use Rattle.base_core.specs.declared.ids.RelNo.{RelNo}
use Rattle.base_core.specs.declared.value.Value.{Value}
use Rattle.expr_types.specs.declared.select.ObjectQuery.{ObjectQuery}
use Rattle.class_types.specs.declared.mapped.Relation.{Relation}
use Rattle.class_mapping.specs.Mapped.{IsClass, Mapped, root_of}
use Rattle.class_mapping.specs.Related.{AreRelated, IsRelated}
use Rattle.keeper_core.specs.Beside.{on_own}
use Rattle.keeper_core.specs.Programs.{◌>>=◌, each, give}
use Rattle.keeper_core.specs.Store.{Store}
use Rattle.object_arena.specs.Fit.{relation_of}
use Rattle.object_arena.specs.Graph.{Graph, is_persistent, object_at, root_at}
use Rattle.object_arena.specs.Identity.{has_key}
use Rattle.main_selects.specs.MainSelect.{main_select}
use Rattle.joined_rows.specs.declared.parts.Part.{Part}
use Rattle.joined_rows.specs.Parts.{own_values, part_at, parts_from, parts_of, values_from}
use Rattle.joined_rows.specs.Taking as joined
use Rattle.load_rows.specs.Loading.{Loading, take_row}
use Rattle.load_calls.specs.Reading.{read}
use Rattle.load_calls.proofs.CollectionLemmas.{related_at}
use Rattle.load_ends.specs.Ends.{IsChild}
use Rattle.load_queries.specs.Joined.{IsPartOf, answered, fill_option, fill_options, fill_owner, fill_owners, fill_taken, given_by, given_to, is_many, link_filled, load_joined, owners_among, take_answers}
use Rattle.load_queries.specs.Selectin.{IsOption, IsOwnerOf, with_options}
use Rattle.load_queries.proofs.FirstSteps.{firsts_all}
use Rattle.load_queries.proofs.OwnerLemmas.{owner_under}
use Rattle.object_parts.specs.declared.answers.Taken.{Taken}
use Rattle.object_parts.specs.Lists.{firsts}
use Rattle.relations.specs.Mirror.{is_of}
use Rattle.loading_laws.proofs.Loading.First.{persistent_one}
use Rattle.load_steps.specs.Rows.{AnswerRows, AnswersJoined, IsJoinedOf}
use Rattle.load_steps.specs.Steps.{AreFound, AreLoadSteps, Holds, IsAnything, IsEnd, IsFound, IsOver, Keeps}
use Rattle.load_steps.proofs.Keeping.{keeps_all, keeps_at, keeps_change, keeps_each, keeps_from, keeps_give, keeps_given, keeps_less, keeps_own, keeps_then}
use Rattle.load_steps.proofs.Lasting.{AreOfMapping, IsSince, Lasts, With, child_since, ended_holds, found_since, members_holds, since_same, since_then, steps_with}
use Rattle.load_steps.proofs.Lazily.{select_keeps}
use Rattle.load_steps.proofs.Queries.{options_with}
use Rattle.load_steps.proofs.Rows.{row_keeps_with}

-- ---- what rows give

end_last : (root : ClassId) (end : Option ObjId) → Lasts (λ graph. IsEnd graph root end)
end_last root None = λ old new since is. tt
end_last root (Some object) = λ old new since is. found_since root object old new since is

module _ (mapped : Mapped) where
  -- each part has an object of its target's hierarchy, or none
  abbrev AreEnds : Graph → List Part → List (Option ObjId) → Type 0
  AreEnds graph [] [] = Unit {0}
  AreEnds graph (part ∷ parts) (member ∷ members) = IsEnd graph (root_of mapped part.target) member × AreEnds graph parts members
  AreEnds graph parts members = ⊥

  ends_last : (parts : List Part) (members : List (Option ObjId)) → Lasts (λ graph. AreEnds graph parts members)
  ends_last [] [] = λ old new since are. tt
  ends_last [] (member ∷ members) = λ old new since are. are
  ends_last (part ∷ parts) [] = λ old new since are. are
  ends_last (part ∷ parts) (member ∷ members) = λ old new since are. (end_last (root_of mapped part.target) member old new since are.0, ends_last parts members old new since are.1)

  ends_more : (graph : Graph) (parts : List Part) (members : List (Option ObjId)) (part : Part) (member : Option ObjId) → AreEnds graph parts members → IsEnd graph (root_of mapped part.target) member → AreEnds graph (parts ++ part ∷ []) (members ++ member ∷ [])
  ends_more graph [] [] part member are is = (is, tt)
  ends_more graph [] (one ∷ members) part member are is = absurd are
  ends_more graph (one ∷ parts) [] part member are is = absurd are
  ends_more graph (one ∷ parts) (other ∷ members) part member are is = (are.0, ends_more graph parts members part member are.1 is)

  end_at : (graph : Graph) (parts : List Part) (members : List (Option ObjId)) (number : ℕ) (part : Part) → AreEnds graph parts members → slice_get parts number ≡ Some part → IsEnd graph (root_of mapped part.target) (joined.member_at members number)
  end_at graph [] members number part are at = absurd cc
  end_at graph (one ∷ parts) [] number part are at = absurd are
  end_at graph (one ∷ parts) (member ∷ members) zero part are at = subst (λ (p : Part). IsEnd graph (root_of mapped p.target) member) (same_Some one part at) are.0
  end_at graph (one ∷ parts) (member ∷ members) (suc number) part are at = end_at graph parts members number part are.1 at

  module _ (class : ClassId) (parts : List Part) where
    -- the object of a row, and those of its parts
    abbrev IsTakenOf : Graph → Taken → Type 0
    IsTakenOf graph one = IsFound graph (root_of mapped class) one.owner × AreEnds graph parts one.members

    abbrev AllTaken : List Taken → Graph → Type 0
    AllTaken taken graph = AllByRecursion (IsTakenOf graph) taken

    taken_last : (taken : List Taken) → Lasts (AllTaken taken)
    taken_last [] = λ old new since all. tt
    taken_last (one ∷ taken) = λ old new since all. ((found_since (root_of mapped class) one.owner old new since all.0.0, ends_last parts one.members old new since all.0.1), taken_last taken old new since all.1)

    -- what all rows give an owner for an option
    given_found : (graph : Graph) (number : ℕ) (part : Part) (owner : ObjId) (taken : List Taken) → slice_get parts number ≡ Some part → AllTaken taken graph → AreFound graph (root_of mapped part.target) (given_to number taken owner)
    given_found graph number part owner [] at all = tt
    given_found graph number part owner (one ∷ taken) at all = by (one.owner.0 == owner.0) (joined.member_at one.members number) (end_at graph parts one.members number part all.0.1 at) (given_found graph number part owner taken at all.1)
      where
        by : (b : Bool) (member : Option ObjId) → IsEnd graph (root_of mapped part.target) member → AreFound graph (root_of mapped part.target) (filter_map (given_by number owner) taken)
            → AreFound graph (root_of mapped part.target) (cons_option (if b then member else None) (filter_map (given_by number owner) taken))
        by true None is rest = rest
        by true (Some object) is rest = (is, rest)
        by false member is rest = rest

    owners_found : (graph : Graph) (taken : List Taken) → AllTaken taken graph → AreFound graph (root_of mapped class) (map (λ one. one.owner) taken)
    owners_found graph [] all = tt
    owners_found graph (one ∷ taken) all = (all.0.0, owners_found graph taken all.1)

    answered_found : (graph : Graph) (taken : List Taken) → AllTaken taken graph → AreFound graph (root_of mapped class) (answered taken)
    answered_found graph taken all =
        let root : ClassId = root_of mapped class in
        let objects : List ObjId = map (λ (one : Taken). one.owner) taken in
        recursion_from_All (IsFound graph root) (firsts objects) (firsts_all (IsFound graph root) objects (All-from_recursion (IsFound graph root) objects (owners_found graph taken all)))

-- ---- taking

module _ {mapped : Mapped} {IsRow : ClassId → List Value → Type 0} {IsCells : ClassId → List AttrNo → List Value → List Value → Type 0} (of : AreOfMapping mapped IsRow IsCells) where
  module _ {P : Loading → Type 0} (steps : AreLoadSteps mapped IsRow IsCells P) (class : ClassId) (declared : IsClass mapped class) (parts : List Part) where
    -- what a row has of an option's target is a row of it
    abbrev IsPartRow : List Value → Part → Type 0
    IsPartRow row part = IsClass mapped part.target × (joined.has_target mapped part row ≡ true → IsRow part.target (values_from part row))

    -- what is asked of a row
    abbrev IsWhole : List Value → Type 0
    IsWhole row = IsRow class (own_values mapped class row) × AllByRecursion (IsPartRow row) parts

    -- the object of a part, with what lasts
    part_keeps : (Q : Graph → Type 0) → Lasts Q → (row : List Value) (part : Part) → IsPartRow row part
        → Keeps (λ own. Holds mapped P own × Q own.graph) (λ own. Holds mapped P own × Q own.graph) (λ member own. IsEnd own.graph (root_of mapped part.target) member) (joined.take_member mapped row part)
    unfolding joined.take_member
    part_keeps Q lasts row part is = by (joined.has_target mapped part row) refl
      where
        by : (b : Bool) → joined.has_target mapped part row ≡ b
            → Keeps (λ own. Holds mapped P own × Q own.graph) (λ own. Holds mapped P own × Q own.graph) (λ member own. IsEnd own.graph (root_of mapped part.target) member) (joined.member_if mapped row part b)
        by true there =
            keeps_then (take_row mapped part.target (values_from part row)) (λ object. give (Some object)) (row_keeps_with of Q lasts steps part.target (values_from part row) is.0 (is.1 there)) (λ own h. h)
            (λ object. keeps_give (Some object))
        by false none = keeps_from (give None) (keeps_give None) (λ own h. (h, tt))

    next_keeps : (Q : Graph → Type 0) → Lasts Q → (row : List Value) (done : List Part) (part : Part) (members : List (Option ObjId)) → IsPartRow row part
        → Keeps (λ own. (Holds mapped P own × Q own.graph) × AreEnds mapped own.graph done members) (λ own. Holds mapped P own × Q own.graph) (λ found own. AreEnds mapped own.graph (done ++ part ∷ []) found)
        (joined.take_next mapped row part members)
    next_keeps Q lasts row done part members is =
        let Both : Graph → Type 0 = λ graph. Q graph × AreEnds mapped graph done members in
        let both : Lasts Both = λ old new since has. (lasts old new since has.0, ends_last mapped done members old new since has.1) in
        keeps_then (joined.take_member mapped row part) (λ member. give (members ++ member ∷ []))
        (keeps_from (joined.take_member mapped row part) (part_keeps Both both row part is) (λ own h. (h.0.0, (h.0.1, h.1))))
        (λ own h. (h.0, h.1.0))
        (λ member. keeps_from (give (members ++ member ∷ [])) (keeps_give (members ++ member ∷ [])) (λ own h. ((h.0.0, h.0.1.0), ends_more mapped own.graph done members part member h.0.1.1 h.1)))

    parts_keep : (Q : Graph → Type 0) → Lasts Q → (row : List Value) (done more : List Part) (members : List (Option ObjId)) → AllByRecursion (IsPartRow row) more
        → Keeps (λ own. (Holds mapped P own × Q own.graph) × AreEnds mapped own.graph done members) (λ own. Holds mapped P own × Q own.graph) (λ found own. AreEnds mapped own.graph (done ++ more) found)
        (each (joined.take_next mapped row) members more)
    unfolding each
    parts_keep Q lasts row done [] members are =
        keeps_from (give members) (keeps_give members) (λ own h. (h.0, subst (λ (all : List Part). AreEnds mapped own.graph all members) (sym (append-nil done)) h.1))
    parts_keep Q lasts row done (part ∷ more) members are =
        keeps_then (joined.take_next mapped row part members) (λ found. each (joined.take_next mapped row) found more) (next_keeps Q lasts row done part members are.0) (λ own h. h)
        (λ found. keeps_less (each (joined.take_next mapped row) found more) (parts_keep Q lasts row (done ++ part ∷ []) more found are.1) (λ own h. h)
        (λ all own h ends. subst (λ (ps : List Part). AreEnds mapped own.graph ps all) (append_assoc done (part ∷ []) more) ends))

    -- the objects of all parts of a row
    all_parts : (Q : Graph → Type 0) → Lasts Q → (row : List Value) → AllByRecursion (IsPartRow row) parts
        → Keeps (λ own. Holds mapped P own × Q own.graph) (λ own. Holds mapped P own × Q own.graph) (λ found own. AreEnds mapped own.graph parts found) (joined.take_members mapped parts row)
    unfolding joined.take_members
    all_parts Q lasts row are = keeps_from (each (joined.take_next mapped row) [] parts) (parts_keep Q lasts row [] parts [] are) (λ own h. (h, tt))

    with_owner : (Q : Graph → Type 0) → Lasts Q → (row : List Value) (owner : ObjId) → AllByRecursion (IsPartRow row) parts
        → Keeps (λ own. (Holds mapped P own × Q own.graph) × IsFound own.graph (root_of mapped class) owner) (λ own. Holds mapped P own × Q own.graph) (λ one own. IsTakenOf mapped class parts own.graph one)
        (joined.take_members mapped parts row >>= λ members. give (joined.taken_with owner members))
    with_owner Q lasts row owner are =
        let root : ClassId = root_of mapped class in
        let Here : Graph → Type 0 = λ graph. Q graph × IsFound graph root owner in
        let here : Lasts Here = λ old new since h. (lasts old new since h.0, found_since root owner old new since h.1) in
        keeps_then (joined.take_members mapped parts row) (λ members. give (joined.taken_with owner members))
        (keeps_from (joined.take_members mapped parts row) (all_parts Here here row are) (λ own h. (h.0.0, (h.0.1, h.1))))
        (λ own h. (h.0, h.1.0))
        (λ members. keeps_from (give (joined.taken_with owner members)) (keeps_give (joined.taken_with owner members)) (λ own h. ((h.0.0, h.0.1.0), (h.0.1.1, h.1))))

    owner_keeps : (Q : Graph → Type 0) → Lasts Q → (row : List Value) → IsWhole row
        → Keeps (λ own. Holds mapped P own × Q own.graph) (λ own. Holds mapped P own × Q own.graph) (λ one own. IsTakenOf mapped class parts own.graph one) (joined.take_owner mapped class parts row)
    unfolding joined.take_owner
    owner_keeps Q lasts row is =
        keeps_then (take_row mapped class (own_values mapped class row)) (λ owner. joined.take_members mapped parts row >>= λ members. give (joined.taken_with owner members))
        (row_keeps_with of Q lasts steps class (own_values mapped class row) declared is.0) (λ own h. h) (λ owner. with_owner Q lasts row owner is.1)

    one_keeps : (row : List Value) (taken : List Taken) → IsWhole row
        → Keeps (λ own. Holds mapped P own × AllTaken mapped class parts taken own.graph) (Holds mapped P) (λ found own. AllTaken mapped class parts found own.graph) (joined.take_one mapped class parts row taken)
    one_keeps row taken is =
        let with_one : Taken → List Taken = λ one. taken ++ one ∷ [] in
        keeps_then (joined.take_owner mapped class parts row) (λ one. give (with_one one)) (owner_keeps (AllTaken mapped class parts taken) (taken_last mapped class parts taken) row is) (λ own h. h.0)
        (λ one. keeps_from (give (with_one one)) (keeps_give (with_one one)) (λ own h. (h.0.0, every_append (IsTakenOf mapped class parts own.graph) taken (one ∷ []) h.0.1 (h.1, tt))))

    taken_keep : (rows : List (List Value)) → AllByRecursion IsWhole rows → Keeps (Holds mapped P) (Holds mapped P) (λ taken own. AllTaken mapped class parts taken own.graph) (joined.take_joined mapped class parts rows)
    unfolding joined.take_joined
    taken_keep rows are = keeps_from (each (joined.take_one mapped class parts) [] rows) (keeps_each IsWhole (joined.take_one mapped class parts) [] rows one_keeps are) (λ own h. (h, tt))

  -- ---- links

  module _ {P : Loading → Type 0} (steps : AreLoadSteps mapped IsRow IsCells P) (related : AreRelated mapped) (class : ClassId) (declared : IsClass mapped class) (parts : List Part) (taken : List Taken) (start : Graph)
      (since : (own : Loading) → P own → IsSince start own.graph) (given : (own : Loading) → P own → AllTaken mapped class parts taken own.graph) where
    -- an owner of the class
    abbrev IsOwned : ObjId → Type 0
    IsOwned owner = IsFound start (root_of mapped class) owner × (is_of start mapped class owner ≡ true)

    -- an option of the parts
    abbrev IsOptionOf : ℕ × Part → Type 0
    IsOptionOf option = (slice_get parts option.0 ≡ Some option.1) × IsPartOf mapped class option.1

    child_of : (place : RelNo) (owner : ObjId) → IsOption mapped class place → IsOwned owner → IsChild mapped start (relation_of mapped class place) place owner
    child_of place owner inside is =
        let own = object_at start owner in
        let holding = and_parts (is_persistent own.state) ((root_at start owner).0 == (root_of mapped class).0 && has_key is.0.key own.identity) is.0.stands.1 in
        let owned : IsOwnerOf mapped start class owner = record { made = is.0.stands.0; persistent = persistent_one own.state holding.0; under = is.1 } in
        let all = owner_under mapped start class place owner of.has.paired inside owned in
        record { made = all.made; within = all.within; is = all.is }

    first_end : (graph : Graph) (root : ClassId) (objects : List ObjId) → AreFound graph root objects → IsEnd graph root (slice_get objects 0)
    first_end graph root [] found = tt
    first_end graph root (object ∷ objects) found = found.0

    link_holds : (option : ℕ × Part) (owner : ObjId) (own : Loading) (many : Bool) → (relation_of mapped class option.1.place).many ≡ many → IsOptionOf option → IsOwned owner → Holds mapped P own
        → Holds mapped P (link_filled many owner option.1.place (given_to option.0 taken owner) own)
    link_holds option owner own many is at owned h =
        let place : RelNo = option.1.place in
        let relation : Relation = relation_of mapped class place in
        let whole : IsRelated mapped relation = related_at mapped class place related declared at.1.within in
        let child = child_since mapped relation place owner start own.graph (since own h.is) (child_of place owner at.1.within owned) in
        let objects : List ObjId = given_to option.0 taken owner in
        let found : AreFound own.graph (root_of mapped relation.target) objects =
        subst (λ (target : ClassId). AreFound own.graph (root_of mapped target) objects) at.1.target (given_found mapped class parts own.graph option.0 option.1 owner taken at.0 (given own h.is)) in
        by many is whole child found
      where
        by : (b : Bool) → (relation_of mapped class option.1.place).many ≡ b → IsRelated mapped (relation_of mapped class option.1.place) → IsChild mapped own.graph (relation_of mapped class option.1.place) option.1.place owner
            → AreFound own.graph (root_of mapped (relation_of mapped class option.1.place).target) (given_to option.0 taken owner) → Holds mapped P (link_filled b owner option.1.place (given_to option.0 taken owner) own)
        by true many whole child found = members_holds of steps (relation_of mapped class option.1.place) option.1.place owner (given_to option.0 taken owner) own whole many child found h
        by false single whole child found =
            ended_holds of steps (relation_of mapped class option.1.place) option.1.place owner (slice_get (given_to option.0 taken owner) 0) own whole single child
            (first_end own.graph (root_of mapped (relation_of mapped class option.1.place).target) (given_to option.0 taken owner) found) h

    option_keeps : (owners : List ObjId) → AllByRecursion IsOwned owners → (option : ℕ × Part) (u : Unit {0}) → IsOptionOf option → Keeps (Holds mapped P) (Holds mapped P) IsAnything (fill_option mapped class taken owners option u)
    unfolding fill_option
    option_keeps owners owned option u at =
        keeps_all IsOwned (fill_owner mapped class taken option) tt owners
        (λ owner v is. keeps_change (link_filled (is_many mapped class option.1.place) owner option.1.place (given_to option.0 taken owner))
        (λ own h. link_holds option owner own (is_many mapped class option.1.place) refl at is h))
        owned

    options_keep : (owners : List ObjId) → AllByRecursion IsOwned owners → AllByRecursion IsOptionOf (enumerate_from 0 parts) → Keeps (Holds mapped P) (Holds mapped P) IsAnything (fill_options mapped class parts taken owners)
    unfolding fill_options
    options_keep owners owned at = keeps_all IsOptionOf (fill_option mapped class taken owners) tt (enumerate_from 0 parts) (option_keeps owners owned) at

-- each option stands at its number
numbered : (mapped : Mapped) (class : ClassId) (all : List Part) (k : ℕ) (parts : List Part) → ((i j : ℕ) → j ≡ k + i → slice_get all j ≡ slice_get parts i) → AllByRecursion (IsPartOf mapped class) parts
    → AllByRecursion (λ (option : ℕ × Part). (slice_get all option.0 ≡ Some option.1) × IsPartOf mapped class option.1) (enumerate_from k parts)
numbered mapped class all k [] same of = tt
numbered mapped class all k (part ∷ parts) same of =
    ((same 0 k (omega arith), of.0), numbered mapped class all (k + 1) parts (λ i j e. same (suc i) j (omega (arith, e))) of.1)

-- the parts of options are those of the class's relationships
parts_are : (mapped : Mapped) (class : ClassId) (first : ℕ) (places : List RelNo) → AllByRecursion (IsOption mapped class) places → AllByRecursion (IsPartOf mapped class) (parts_from mapped class first places)
parts_are mapped class first [] inside = tt
parts_are mapped class first (place ∷ places) inside = (record { within = inside.0; target = refl }, parts_are mapped class (part_at mapped class place first).end places inside.1)

-- those of a class, of objects that are found
owned_among : (mapped : Mapped) (class : ClassId) (graph : Graph) (objects : List ObjId) → AreFound graph (root_of mapped class) objects
    → AllByRecursion (λ owner. IsFound graph (root_of mapped class) owner × (is_of graph mapped class owner ≡ true)) (owners_among mapped class graph objects)
owned_among mapped class graph [] found = tt
owned_among mapped class graph (object ∷ objects) found = by (is_of graph mapped class object) refl (owned_among mapped class graph objects found.1)
  where
    by : (b : Bool) → is_of graph mapped class object ≡ b → AllByRecursion (λ owner. IsFound graph (root_of mapped class) owner × (is_of graph mapped class owner ≡ true)) (filter (is_of graph mapped class) objects)
        → AllByRecursion (λ owner. IsFound graph (root_of mapped class) owner × (is_of graph mapped class owner ≡ true)) (if b then object ∷ filter (is_of graph mapped class) objects else filter (is_of graph mapped class) objects)
    by true is rest = ((found.0, is), rest)
    by false is rest = rest

-- rows as they are asked for
rows_whole : (mapped : Mapped) (IsRow : ClassId → List Value → Type 0) (class : ClassId) (parts : List Part) (rows : List (List Value)) → AllByRecursion (λ part. IsClass mapped part.target) parts → AllByRecursion (IsJoinedOf mapped IsRow class parts) rows
    → AllByRecursion (λ row. IsRow class (own_values mapped class row) × AllByRecursion (λ part. IsClass mapped part.target × (joined.has_target mapped part row ≡ true → IsRow part.target (values_from part row))) parts) rows
rows_whole mapped IsRow class parts [] targets are = tt
rows_whole mapped IsRow class parts (row ∷ rows) targets are = ((are.0.own, both parts targets are.0.options), rows_whole mapped IsRow class parts rows targets are.1)
  where
    both : (some : List Part) → AllByRecursion (λ part. IsClass mapped part.target) some → AllByRecursion (λ part. joined.has_target mapped part row ≡ true → IsRow part.target (values_from part row)) some
        → AllByRecursion (λ part. IsClass mapped part.target × (joined.has_target mapped part row ≡ true → IsRow part.target (values_from part row))) some
    both [] targets has = tt
    both (part ∷ some) targets has = ((targets.0, has.0), both some targets.1 has.1)

targets_declared : (mapped : Mapped) (class : ClassId) (parts : List Part) → AreRelated mapped → IsClass mapped class → AllByRecursion (IsPartOf mapped class) parts → AllByRecursion (λ part. IsClass mapped part.target) parts
targets_declared mapped class [] related declared are = tt
targets_declared mapped class (part ∷ parts) related declared are =
    (subst (IsClass mapped) (sym are.0.target) (related_at mapped class part.place related declared are.0.within).target, targets_declared mapped class parts related declared are.1)

-- ---- the load

module _ {mapped : Mapped} {IsRow : ClassId → List Value → Type 0} {IsCells : ClassId → List AttrNo → List Value → List Value → Type 0} {P : Loading → Type 0} (of : AreOfMapping mapped IsRow IsCells)
    (related : AreRelated mapped) (steps : AreLoadSteps mapped IsRow IsCells P) (store : Store) (answers : AnswerRows mapped IsRow IsCells store.tables) (query : ObjectQuery) (declared : IsClass mapped query.class)
    (places : AllByRecursion (IsOption mapped query.class) query.joined) where
  abbrev parts : List Part
  parts = parts_of mapped query.class query.joined

  of_class : AllByRecursion (IsPartOf mapped query.class) (parts_of mapped query.class query.joined)
  unfolding parts_of
  of_class = parts_are mapped query.class _ query.joined places

  -- the links of the owners that rows gave
  filled_with : (taken : List Taken) → Keeps (λ own. Holds mapped P own × AllTaken mapped query.class parts taken own.graph) (Holds mapped (With P (AllTaken mapped query.class parts taken))) IsAnything (fill_owners mapped query.class parts taken (answered taken))
  unfolding fill_owners
  filled_with taken =
      let Q : Graph → Type 0 = AllTaken mapped query.class parts taken in
      let lasts : Lasts Q = taken_last mapped query.class parts taken in
      keeps_at (fill_owners mapped query.class parts taken (answered taken))
      (λ own h.
      let start : Graph = own.graph in
      let found = answered_found mapped query.class parts start taken h.1 in
      let more = steps_with of (IsSince start) (λ old new since was. since_then start old new was since) (steps_with of Q lasts steps) in
      let left = (options_keep of more related query.class declared parts taken start (λ o p. p.1) (λ o p. p.0.1) (owners_among mapped query.class start (answered taken)) (owned_among mapped query.class start (answered taken) found)
      (numbered mapped query.class parts 0 parts (λ i j e. let same : j ≡ i = omega (arith, e) in ap (slice_get parts) same) of_class)).left own (record { arena = h.0.arena; is = ((h.0.is, h.1), since_same start) }) in
      record { after = record { arena = left.after.arena; is = left.after.is.0 }; answer = left.answer })

  -- and what is answered
  taken_filled : (taken : List Taken) → Keeps (λ own. Holds mapped P own × AllTaken mapped query.class parts taken own.graph) (Holds mapped P) (λ objects own. AreFound own.graph (root_of mapped query.class) objects) (fill_taken mapped query.class parts taken)
  taken_filled taken =
      keeps_then (fill_owners mapped query.class parts taken (answered taken)) (λ u. give (answered taken)) (filled_with taken)
      (λ own h. record { arena = h.arena; is = h.is.0 })
      (λ u. keeps_from (give (answered taken)) (keeps_give (answered taken)) (λ own h. (record { arena = h.0.arena; is = h.0.is.0 }, answered_found mapped query.class parts own.graph taken h.0.is.1)))

  answers_taken : (rows : List (List Value)) → AllByRecursion (IsJoinedOf mapped IsRow query.class parts) rows
      → Keeps (Holds mapped P) (Holds mapped P) (λ objects own. AreFound own.graph (root_of mapped query.class) objects) (take_answers mapped query.class parts rows)
  unfolding take_answers
  answers_taken rows all =
      let class : ClassId = query.class in
      keeps_then (joined.take_joined mapped class parts rows) (fill_taken mapped class parts)
      (taken_keep of steps class declared parts rows (rows_whole mapped IsRow class parts rows (targets_declared mapped class parts related declared of_class) all)) (λ own h. h) taken_filled

  pub joined_load : AnswersJoined mapped IsRow store.tables query → Keeps (IsOver mapped P store) (IsOver mapped P store) (λ objects w. AreFound w.own.graph (root_of mapped query.class) objects) (load_joined mapped query)
  unfolding load_joined
  joined_load are =
      keeps_then (read mapped.schema (main_select mapped query)) (λ rows. on_own (take_answers mapped query.class parts rows))
      (select_keeps of steps store answers (main_select mapped query) (AllByRecursion (IsJoinedOf mapped IsRow query.class parts)) are) (λ w over. over)
      (λ rows. keeps_given (on_own (take_answers mapped query.class parts rows)) (λ all. keeps_own mapped (take_answers mapped query.class parts rows) (answers_taken rows all)))

  -- and then the links at the places that it names besides
  pub query_load : AllByRecursion (IsOption mapped query.class) query.selectin → AnswersJoined mapped IsRow store.tables query
      → Keeps (IsOver mapped P store) (IsOver mapped P store) (λ objects w. AreFound w.own.graph (root_of mapped query.class) objects) (load_joined mapped query >>= with_options mapped query)
  query_load inside are = keeps_then (load_joined mapped query) (with_options mapped query) (joined_load are) (λ w over. over) (options_with of related store answers steps query declared inside)
