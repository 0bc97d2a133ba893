-- What a line asks for names what is there, where the names stand for what is there.
use Rattle.std.proofs.Common.{◌≡◌, ◌<◌, ℕ, Bool, true, false, List, [], ◌∷◌, ◌++◌, length, Option, None, Some, Ok, IfOk, refl, sym, ap, subst}
use Rattle.std.specs.Prelude.{IsTrue, if◌then◌else◌, is_none, slice_get}
use Rattle.std.specs.List.{AllByRecursion}
use Rattle.std.proofs.lemmas.List.Elements.{recursion_from_All}
use Rattle.std.proofs.lemmas.Option.{get_or_from_slice_get, slice_get_within}
use Rattle.base_core.specs.declared.ids.AttrNo.{AttrNo}
use Rattle.base_core.specs.declared.ids.ClassId.{ClassId}
use Rattle.base_core.specs.declared.ids.ObjId.{ObjId}
use Rattle.base_core.specs.declared.ids.RelNo.{RelNo}
use Rattle.base_core.specs.declared.refusal.Refusal.{Refusal}
use Rattle.base_core.specs.declared.value.Value.{Value}
use Rattle.class_mapping.specs.Mapped.{IsAttribute, IsClass, Mapped, relations_of}
use Rattle.class_mapping.specs.Related.{AreRelated}
use Rattle.mapping_laws.specs.Hierarchies.{HasHierarchies}
use Rattle.object_arena.specs.Graph.{Graph, IsObject, object_at as object_of_graph}
use Rattle.sql_semantics.specs.Checked.{Checked, ◌>>=◌}
use Rattle.session_scopes.specs.SessionState.{IsMadeOf}
use Rattle.session_acts.specs.Steps.{IsPlainButForKeys}
use Rattle.script_types.specs.declared.command.Command.{Command}
use Rattle.script_types.specs.declared.command.Command.TheVariants as line
use Rattle.script_types.specs.declared.command.Term.{Term}
use Rattle.shell_parts.specs.declared.names.Bound.{Bound}
use Rattle.shell_parts.specs.declared.names.Bound.TheVariants.{Nothing, Object, Objects, Saved}
use Rattle.shell_parts.specs.Bindings.{bound_to}
use Rattle.command_names.specs.declared.members.Member.{Member}
use Rattle.command_names.specs.declared.members.Member.TheVariants.{Attribute as OfAttribute, One, Many}
use Rattle.command_resolve.specs.declared.resolved.Resolved.{Resolved}
use Rattle.command_resolve.specs.declared.resolved.Resolved.TheVariants as resolved
use Rattle.command_names.specs.Attributes.{Cells, Giving, as_link, attribute_given, attribute_named, cells_behind, cells_fault, cells_of, class_named, IsMember, IsRelation, is_given, link_named, member_named, unless_fault, value_fault}
use Rattle.command_resolve.specs.Resolving.{Ends, ends_of, id_of_term, resolve, resolved_get, resolved_key, resolved_new, resolved_objects, resolved_related, resolved_related_at, resolved_same, resolved_set, resolved_set_at, resolved_show, resolved_show_at, resolved_statement, set_by, show_by}
use Rattle.command_names.specs.Standing.{AreThere, IsThere}
use Rattle.command_resolve.specs.Standing.{HasRelation}
use Rattle.expr_types.specs.declared.select.ObjectQuery.{ObjectQuery}
use Rattle.load_queries.specs.Selectin.{IsOption}
use Rattle.query_names.specs.Queries.{resolved_query}
use Rattle.query_names.specs.Sources.{as_relation, relation_named}
use Rattle.known_queries.specs.Known.{ReadsJoined}
use Rattle.query_names.proofs.Meant.{attribute_is, class_is, found, given, member_is, same_Ok}
use Rattle.query_names.proofs.Readable.{IsReadable as IsOfTables, resolved_known}
use Rattle.script_types.specs.declared.select.SynQuery.{SynQuery}
use Rattle.command_names.specs.Terms.{Bindings, Named, found_or_unknown, found_or_wrong, handle_if_named, object_at, object_of, shown_of, wrong_kind}
use Rattle.base_core.specs.Answers.{Gives}
use Rattle.expr_types.specs.declared.select.Bulk.{Bulk}
use Rattle.relations.specs.declared.calls.LinkCall.{LinkCall}
use Rattle.relations.specs.Calls.{end_of, is_of_collection}
use Rattle.relations.specs.Keys.{IsEnd}
use Rattle.relations.specs.declared.calls.LinkCall.TheVariants.{Append, Remove, Set}
use Rattle.sayable_lines.specs.Sayable.{IsSayable}
use Rattle.schema_core.specs.Tables.{kind_of_value}
use Rattle.script_types.specs.declared.select.SynBulk.{SynBulk}
use Rattle.script_resolve.specs.Bulks.{resolved_bulk}
use Rattle.script_resolve.specs.Sayable.{is_sayable_bulk}
use Rattle.script_resolve.specs.Selects.{resolved_select}
use Rattle.script_resolve.proofs.Whole.{bulk_fits, bulk_once}
use Rattle.session_laws.specs.LinkCalls.{IsLinkCall}
use Rattle.session_perform.proofs.Sendable.{plain_but_for_keys}

-- the rows of a query are known by the tables, and its options are relationships of its class
abbrev pub IsReadable : Mapped → ObjectQuery → Type 0
IsReadable mapped query = ReadsJoined mapped query × AllByRecursion (IsOption mapped query.class) query.joined × AllByRecursion (IsOption mapped query.class) query.selectin

-- what a line is asked of a session, so that it stays whole
abbrev pub Asks : Mapped → Graph → Resolved → Type 0
Asks mapped graph (resolved.New name class cells) = IsClass mapped class × AllByRecursion (λ (one : AttrNo × Value). IsAttribute mapped class one.0) cells
Asks mapped graph (resolved.SetCell object attr value) = (class : ClassId) × IsMadeOf graph object class × IsAttribute mapped class attr
Asks mapped graph (resolved.ChangeLink owner relation call) = IsLinkCall mapped graph owner relation call
Asks mapped graph (resolved.Add object) = IsObject graph object
Asks mapped graph (resolved.Delete object) = IsObject graph object
Asks mapped graph (resolved.Expunge object) = IsObject graph object
Asks mapped graph (resolved.Expire object) = IsObject graph object
Asks mapped graph (resolved.Get name class key) = IsClass mapped class
Asks mapped graph (resolved.Objects name query) = IsReadable mapped query
Asks mapped graph (resolved.Related name object relation) = HasRelation mapped graph object relation
Asks mapped graph (resolved.Refresh object) = IsObject graph object
Asks mapped graph (resolved.ShowCell object attr) = IsObject graph object
Asks mapped graph (resolved.ShowLink object relation) = HasRelation mapped graph object relation
Asks mapped graph (resolved.Bulk statement) = IsPlainButForKeys mapped.schema statement
Asks mapped graph other = Unit {0}

-- ---- answers that were given

found_there : {A : Type 0} (o : Option A) (a : A) → found_or_wrong o ≡ Ok a → o ≡ Some a
found_there None a is = absurd cc
found_there (Some b) a is = ap (λ c. Some c) (same_Ok b a is)

passes : {A : Type 0} (fault : Option Refusal) (a b : A) → unless_fault fault a ≡ Ok b → a ≡ b
passes None a b is = same_Ok a b is
passes (Some e) a b is = absurd cc

-- ---- classes and their members

module _ (mapped : Mapped) (class : ClassId) where
  given_attribute : (before : List Giving) (name : List ℕ) (attr : AttrNo) → attribute_given mapped class before name ≡ Ok attr → IsAttribute mapped class attr
  given_attribute before name attr is =
      let one = given (attribute_named mapped class name) (λ attr. (if is_given before name then wrong_kind else Ok attr)) attr is in
      subst (IsAttribute mapped class) (first (is_given before name) one.0 one.2) (attribute_is mapped class name one.0 one.1)
    where
      first : (again : Bool) (own : AttrNo) → (let r : Checked AttrNo = if again then wrong_kind else Ok own in r ≡ Ok attr) → own ≡ attr
      first true own is = absurd cc
      first false own is = same_Ok own attr is

  cells_are : (before rest : List Giving) (cells : Cells) → cells_behind mapped class before rest ≡ Ok cells → AllByRecursion (λ (one : AttrNo × Value). IsAttribute mapped class one.0) cells
  cells_are before [] cells is = subst (AllByRecursion (λ (one : AttrNo × Value). IsAttribute mapped class one.0)) (same_Ok [] cells is) tt
  cells_are before (giving ∷ rest) cells is =
      let one = given (attribute_given mapped class before giving.0) (λ attr. cells_behind mapped class (before ++ giving ∷ []) rest >>= λ more. Ok ((attr, giving.1) ∷ more)) cells is in
      let two = given (cells_behind mapped class (before ++ giving ∷ []) rest) (λ more. Ok ((one.0, giving.1) ∷ more)) cells one.2 in
      subst (AllByRecursion (λ (one : AttrNo × Value). IsAttribute mapped class one.0)) (same_Ok ((one.0, giving.1) ∷ two.0) cells two.2)
      (given_attribute before giving.0 one.0 one.1, cells_are (before ++ giving ∷ []) rest two.0 two.1)

  relation_of : (many : Bool) (member : Member) (relation : RelNo) → IsMember mapped class member → as_link many member ≡ Ok relation → IsRelation mapped class relation many
  relation_of many (OfAttribute attr) relation has is = absurd cc
  relation_of true (One own) relation has is = absurd cc
  relation_of false (One own) relation has is = subst (λ (r : RelNo). IsRelation mapped class r false) (same_Ok own relation is) has
  relation_of true (Many own) relation has is = subst (λ (r : RelNo). IsRelation mapped class r true) (same_Ok own relation is) has
  relation_of false (Many own) relation has is = absurd cc

  link_named_is : (many : Bool) (name : List ℕ) (relation : RelNo) → link_named mapped many class name ≡ Ok relation → IsRelation mapped class relation many
  link_named_is many name relation is =
      let one = given (member_named mapped class name) (as_link many) relation is in relation_of many one.0 relation (member_is mapped class name one.0 one.1) one.2

-- ---- what names stand for

module _ (mapped : Mapped) (has : HasHierarchies mapped) (relations : AreRelated mapped) (graph : Graph) (drawn : ℕ) (names : Bindings) (there : AreThere graph drawn names) where
  abbrev Made : Named → Type 0
  Made named = IsMadeOf graph named.0 named.1

  at_index : (index : Option ℕ) (thing : Bound) (named : Named) → IsThere graph drawn thing → object_at index thing ≡ Ok named → Made named
  at_index None Nothing named is at = absurd cc
  at_index None (Object object class) named is at = subst Made (same_Ok (object, class) named at) is
  at_index None (Objects members) named is at = absurd cc
  at_index None (Saved number) named is at = absurd cc
  at_index (Some place) Nothing named is at = absurd cc
  at_index (Some place) (Object object class) named is at = absurd cc
  at_index (Some place) (Objects members) named is at =
      let here : slice_get members place ≡ Some named = found_there (slice_get members place) named at in
      subst Made (get_or_from_slice_get members place named named here) (is place named (slice_get_within members place named here))
  at_index (Some place) (Saved number) named is at = absurd cc

  of_term : (term : Term) (named : Named) → object_of names term ≡ Ok named → Made named
  of_term term named is =
      let one = given (found_or_unknown term.name (bound_to names term.name)) (object_at term.index) named is in
      at_index term.index one.0 named (there term.name one.0 (found term.name (bound_to names term.name) one.0 one.1)) one.2

  of_id : (term : Term) (object : ObjId) → id_of_term names term ≡ Ok object → IsObject graph object
  of_id term object is =
      let one = given (object_of names term) (λ named. Ok named.0) object is in
      subst (IsObject graph) (same_Ok one.0.0 object one.2) (of_term term one.0 one.1).0

  -- ---- each line

  abbrev Fits : Resolved → Type 0
  Fits asked = Asks mapped graph asked

  new_line : (name class : List ℕ) (cells : List Giving) (asked : Resolved) → resolved_new mapped name class cells ≡ Ok asked → Fits asked
  new_line name class cells asked is =
      let one = given (class_named mapped class) (λ class. (cells_of mapped class cells >>= λ found. Ok (resolved.New name class found))) asked is in
      let two = given (cells_of mapped one.0 cells) (λ found. Ok (resolved.New name one.0 found)) asked one.2 in
      let three = given (cells_behind mapped one.0 [] cells) (λ found. unless_fault (cells_fault mapped one.0 found) found) two.0 two.1 in
      subst Fits (same_Ok (resolved.New name one.0 two.0) asked two.2) (
        class_is mapped class one.0 one.1,
        subst (AllByRecursion (λ (one-2 : AttrNo × Value). IsAttribute mapped one.0 one-2.0)) (passes (cells_fault mapped one.0 three.0) three.0 two.0 three.2) (cells_are mapped one.0 [] cells three.0 three.1),
      )

  link_call : (named : Named) (relation : RelNo) (call : LinkCall) → Made named → IsRelation mapped named.1 relation (is_of_collection call) → IsEnd graph (end_of call) → Fits (resolved.ChangeLink named.0 relation call)
  link_call named relation call made is end =
      let own : IsRelation mapped (object_of_graph graph named.0).class relation (is_of_collection call) = subst (λ (class : ClassId). IsRelation mapped class relation (is_of_collection call)) (sym made.1) is in
      record { made = made.0; there = own.0; form = own.1; end = end }

  none_line : (named : Named) (relation : RelNo) (value : Value) (wrong : Bool) (asked : Resolved) → Made named → IsRelation mapped named.1 relation false
      → (let r : Checked Resolved = if wrong then Ok (resolved.ChangeLink named.0 relation (Set None)) else wrong_kind in r ≡ Ok asked) → Fits asked
  none_line named relation value true asked made less is = subst Fits (same_Ok (resolved.ChangeLink named.0 relation (Set None)) asked is) (link_call named relation (Set None) made less tt)
  none_line named relation value false asked made less is = absurd cc

  set_line_by : (named : Named) (value : Value) (member : Member) (asked : Resolved) → Made named → IsMember mapped named.1 member → set_by mapped named value member ≡ Ok asked → Fits asked
  set_line_by named value (OfAttribute attr) asked made has is = subst Fits (passes (value_fault mapped named.1 attr value) (resolved.SetCell named.0 attr value) asked is) (named.1, made, has)
  set_line_by named value (One relation) asked made has is = none_line named relation value (is_none (kind_of_value value)) asked made has is
  set_line_by named value (Many relation) asked made has is = absurd cc

  set_line : (term : Term) (member : List ℕ) (value : Value) (asked : Resolved) → resolved_set mapped names term member value ≡ Ok asked → Fits asked
  set_line term member value asked is =
      let one = given (object_of names term) (resolved_set_at mapped member value) asked is in
      let two = given (member_named mapped one.0.1 member) (set_by mapped one.0 value) asked one.2 in
      set_line_by one.0 value two.0 asked (of_term term one.0 one.1) (member_is mapped one.0.1 member two.0 two.1) two.2

  relation_there : (named : Named) (relation : RelNo) → Made named → relation.0 < length (relations_of mapped named.1) → HasRelation mapped graph named.0 relation
  relation_there named relation made less = (made.0, subst (λ (class : ClassId). relation.0 < length (relations_of mapped class)) (sym made.1) less)

  get_line : (name class : List ℕ) (key : List Value) (asked : Resolved) → resolved_get mapped name class key ≡ Ok asked → Fits asked
  get_line name class key asked is =
      let one = given (class_named mapped class) (λ class. (resolved_key mapped class key >>= λ key. Ok (resolved.Get name class key))) asked is in
      let two = given (resolved_key mapped one.0 key) (λ key. Ok (resolved.Get name one.0 key)) asked one.2 in
      subst Fits (same_Ok (resolved.Get name one.0 two.0) asked two.2) (class_is mapped class one.0 one.1)

  related_by : (named : Named) (member : Member) (relation : RelNo) → Made named → IsMember mapped named.1 member → as_relation member ≡ Ok relation → HasRelation mapped graph named.0 relation
  related_by named (OfAttribute attr) relation made has is = absurd cc
  related_by named (One place) relation made has is = subst (HasRelation mapped graph named.0) (same_Ok place relation is) (relation_there named place made has.0)
  related_by named (Many place) relation made has is = subst (HasRelation mapped graph named.0) (same_Ok place relation is) (relation_there named place made has.0)

  related_line : (name : List ℕ) (term : Term) (member : List ℕ) (asked : Resolved) → resolved_related mapped names name term member ≡ Ok asked → Fits asked
  related_line name term member asked is =
      let one = given (object_of names term) (resolved_related_at mapped name member) asked is in
      let two = given (relation_named mapped one.0.1 member) (λ relation. Ok (resolved.Related name one.0.0 relation)) asked one.2 in
      let three = given (member_named mapped one.0.1 member) as_relation two.0 two.1 in
      subst Fits (same_Ok (resolved.Related name one.0.0 two.0) asked two.2) (related_by one.0 three.0 two.0 (of_term term one.0 one.1) (member_is mapped one.0.1 member three.0 three.1) three.2)

  of_tables : (query : ObjectQuery) → IsOfTables mapped query → IsReadable mapped query
  of_tables query is =
      (is.0, recursion_from_All (IsOption mapped query.class) query.joined is.0.places, recursion_from_All (IsOption mapped query.class) query.selectin is.1)

  objects_line : (name : List ℕ) (written : SynQuery) (asked : Resolved) → resolved_objects mapped name written ≡ Ok asked → Fits asked
  objects_line name written asked is =
      let one = given (resolved_query mapped written) (λ query. Ok (resolved.Objects name query)) asked is in
      subst Fits (same_Ok (resolved.Objects name one.0) asked one.2)
      (of_tables one.0 (subst (λ (r : Checked ObjectQuery). IfOk r (IsOfTables mapped)) one.1 (resolved_known mapped has relations written)))

  show_line_by : (named : Named) (member : Member) → Made named → IsMember mapped named.1 member → Fits (show_by named.0 member)
  show_line_by named (OfAttribute attr) made has = made.0
  show_line_by named (One relation) made has = relation_there named relation made has.0
  show_line_by named (Many relation) made has = relation_there named relation made has.0

  show_line : (term : Term) (member : List ℕ) (asked : Resolved) → resolved_show mapped names term member ≡ Ok asked → Fits asked
  show_line term member asked is =
      let one = given (object_of names term) (resolved_show_at mapped member) asked is in
      let two = given (member_named mapped one.0.1 member) (λ found. Ok (show_by one.0.0 found)) asked one.2 in
      subst Fits (same_Ok (show_by one.0.0 two.0) asked two.2) (show_line_by one.0 two.0 (of_term term one.0 one.1) (member_is mapped one.0.1 member two.0 two.1))

  -- the ends of a link are those of an object that has it
  change_line : (many : Bool) (term : Term) (member : List ℕ) (other : Term) (call : ObjId → LinkCall) (asked : Resolved) → ((end : ObjId) → is_of_collection (call end) ≡ many) → ((end : ObjId) → end_of (call end) ≡ Some end)
      → (ends_of mapped names many term member other >>= λ ends. Ok (resolved.ChangeLink ends.0 ends.1 (call ends.2))) ≡ Ok asked → Fits asked
  change_line many term member other call asked form names_it is =
      let one = given (ends_of mapped names many term member other) (λ ends. Ok (resolved.ChangeLink ends.0 ends.1 (call ends.2))) asked is in
      let two = given (object_of names term) (λ owner. (link_named mapped many owner.1 member >>= λ relation. (id_of_term names other >>= λ end. Ok (owner.0, relation, end)))) one.0 one.1 in
      let three = given (link_named mapped many two.0.1 member) (λ relation. (id_of_term names other >>= λ end. Ok (two.0.0, relation, end))) one.0 two.2 in
      let four = given (id_of_term names other) (λ end. Ok (two.0.0, three.0, end)) one.0 three.2 in
      let ends : Ends = (two.0.0, three.0, four.0) in
      subst Fits (same_Ok (resolved.ChangeLink one.0.0 one.0.1 (call one.0.2)) asked one.2)
      (subst (λ (e : Ends). Fits (resolved.ChangeLink e.0 e.1 (call e.2))) (same_Ok ends one.0 four.2)
      (link_call two.0 three.0 (call four.0) (of_term term two.0 two.1)
      (subst (IsRelation mapped two.0.1 three.0) (sym (form four.0)) (link_named_is mapped two.0.1 many member three.0 three.1))
      (subst (IsEnd graph) (sym (names_it four.0)) (of_id other four.0 four.1))))

  -- a line that is of one object
  one_object : (term : Term) (call : ObjId → Resolved) (asked : Resolved) → ((object : ObjId) → IsObject graph object → Fits (call object)) → (id_of_term names term >>= λ object. Ok (call object)) ≡ Ok asked → Fits asked
  one_object term call asked fits is =
      let one = given (id_of_term names term) (λ object. Ok (call object)) asked is in subst Fits (same_Ok (call one.0) asked one.2) (fits one.0 (of_id term one.0 one.1))

  -- a line of which nothing is asked
  free : {A : Type 0} (m : Checked A) (call : A → Resolved) (asked : Resolved) → ((a : A) → Fits (call a)) → (m >>= λ a. Ok (call a)) ≡ Ok asked → Fits asked
  free m call asked fits is = let one = given m (λ a. Ok (call a)) asked is in subst Fits (same_Ok (call one.0) asked one.2) (fits one.0)

  plain : (call asked : Resolved) → Fits call → (let one : Checked Resolved = Ok call in one ≡ Ok asked) → Fits asked
  plain call asked fits is = subst Fits (same_Ok call asked is) fits

  bulk_line : (written : SynBulk) (asked : Resolved) → IsTrue (is_sayable_bulk written) → resolved_statement mapped written ≡ Ok asked → Fits asked
  bulk_line written asked sayable is =
      let one = given (resolved_bulk mapped.schema written) (λ statement. Ok (resolved.Bulk statement)) asked is in
      let told : Gives (λ (x : Bulk). x) (Ok one.0) (resolved_bulk mapped.schema written) = one.1 in
      subst Fits (same_Ok (resolved.Bulk one.0) asked one.2)
      (plain_but_for_keys mapped.schema one.0 (bulk_fits mapped.schema written (Ok one.0) told sayable) (bulk_once mapped.schema written (Ok one.0) told))

  same_line : (term other : Term) (asked : Resolved) → resolved_same names term other ≡ Ok asked → Fits asked
  same_line term other asked is =
      let one = given (id_of_term names term) (λ first. (id_of_term names other >>= λ second. Ok (resolved.Same first second))) asked is in
      free (id_of_term names other) (λ second. resolved.Same one.0 second) asked (λ second. tt) one.2

  pub asks_what_is_there : (command : Command) (asked : Resolved) → IsSayable command → resolve mapped names command ≡ Ok asked → Fits asked
  asks_what_is_there line.CreateAll asked sayable is = plain resolved.CreateAll asked tt is
  asks_what_is_there line.DropAll asked sayable is = plain resolved.DropAll asked tt is
  asks_what_is_there line.Dump asked sayable is = plain resolved.Dump asked tt is
  asks_what_is_there (line.New name class cells) asked sayable is = new_line name class cells asked is
  asks_what_is_there (line.Get name class key) asked sayable is = get_line name class key asked is
  asks_what_is_there (line.Objects name query) asked sayable is = objects_line name query asked is
  asks_what_is_there (line.Related name term member) asked sayable is = related_line name term member asked is
  asks_what_is_there (line.Refresh term) asked sayable is = one_object term resolved.Refresh asked (λ object made. made) is
  asks_what_is_there (line.BeginNested name) asked sayable is = plain (resolved.BeginNested name) asked tt is
  asks_what_is_there (line.SetValue term member value) asked sayable is = set_line term member value asked is
  asks_what_is_there (line.SetTerm term member other) asked sayable is = change_line false term member other (λ end. Set (Some end)) asked (λ end. refl) (λ end. refl) is
  asks_what_is_there (line.Append term member other) asked sayable is = change_line true term member other Append asked (λ end. refl) (λ end. refl) is
  asks_what_is_there (line.Remove term member other) asked sayable is = change_line true term member other Remove asked (λ end. refl) (λ end. refl) is
  asks_what_is_there (line.Add term) asked sayable is = one_object term resolved.Add asked (λ object made. made) is
  asks_what_is_there (line.Delete term) asked sayable is = one_object term resolved.Delete asked (λ object made. made) is
  asks_what_is_there (line.Expunge term) asked sayable is = one_object term resolved.Expunge asked (λ object made. made) is
  asks_what_is_there (line.Expire term) asked sayable is = one_object term resolved.Expire asked (λ object made. made) is
  asks_what_is_there (line.Show term) asked sayable is = free (shown_of names term) resolved.Show asked (λ thing. tt) is
  asks_what_is_there (line.ShowMember term member) asked sayable is = show_line term member asked is
  asks_what_is_there (line.State term) asked sayable is = one_object term resolved.State asked (λ object made. tt) is
  asks_what_is_there (line.Same term other) asked sayable is = same_line term other asked is
  asks_what_is_there line.Flush asked sayable is = plain resolved.Flush asked tt is
  asks_what_is_there (line.Commit name) asked sayable is = free (handle_if_named names name) resolved.Commit asked (λ number. tt) is
  asks_what_is_there (line.Rollback name) asked sayable is = free (handle_if_named names name) resolved.Rollback asked (λ number. tt) is
  asks_what_is_there line.Close asked sayable is = plain resolved.Close asked tt is
  asks_what_is_there (line.Rows written) asked sayable is = free (resolved_select mapped.schema written) resolved.Rows asked (λ select. tt) is
  asks_what_is_there (line.Bulk written) asked sayable is = bulk_line written asked sayable is
  asks_what_is_there _ asked sayable is = absurd cc
