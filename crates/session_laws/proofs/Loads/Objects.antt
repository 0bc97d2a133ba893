-- What holds of an object of which a load has read, and of one that it has made.
use Rattle.std.proofs.Common.{◌≡◌, inl, inr, ℕ, ◌<◌, ◌≤◌, zero, suc, true, List, [], ◌∷◌, length, map, get_or, Option, None, Some, refl, sym, ap, ◌∙◌, ⊎_elim, arith}
use Rattle.std.specs.Prelude.{if◌then◌else◌, is_some, not, unwrap_or}
use Rattle.std.proofs.lemmas.Bool.{cases_lt}
use Rattle.std.proofs.lemmas.List.{get_or_past}
use Rattle.base_core.specs.declared.ids.AttrNo.{AttrNo}
use Rattle.base_core.specs.declared.ids.ClassId.{ClassId}
use Rattle.base_core.specs.declared.value.Value.{Value}
use Rattle.class_types.specs.declared.mapped.Attribute.{Attribute}
use Rattle.class_mapping.specs.Mapped.{Mapped, attribute_of, attributes_of, is_key_attribute}
use Rattle.schema_core.specs.Tables.{Tables}
use Rattle.object_arena.specs.declared.object.Cell.{Cell}
use Rattle.object_arena.specs.declared.object.Object.{Object}
use Rattle.object_arena.specs.declared.object.State.{State}
use Rattle.object_arena.specs.declared.object.State.TheVariants.{Transient, Pending, Persistent, Deleted, Detached}
use Rattle.object_arena.specs.Graph.{Graph, cell_in, expired_cell, has_identity, is_persistent, no_object}
use Rattle.object_arena.specs.Identity.{is_identified}
use Rattle.load_filling.specs.Loaded.{loaded_object}
use Rattle.load_rows.specs.Loading.{Loading}
use Rattle.session_calls.specs.Parts.{World}
use Rattle.session_laws.specs.Scopes.{object_in}
use Rattle.session_laws.specs.Sound.{EachObject, IsFresh, IsMarkedRight, in_row, row_for}
use Rattle.session_laws.specs.Health.Health.{HoldsItsKey, is_named}
use Rattle.session_laws.specs.Held.{KeepsItsKey}
use Rattle.session_laws.proofs.Health.Objects.{IsEven}
use Rattle.load_steps.specs.Loaded.{IsReadCell}
use Rattle.preparing_laws.specs.Reread.{IsRereadCell}
use Rattle.session_laws.specs.Loads.{IsLoadOf, IsLoadedBy, IsMadeBy, IsReadBy, IsRereadOf, row_value}

-- ---- expired cells

-- each cell of an object that was just made is expired
none_known : {A : Type 0} (xs : List A) (i : ℕ) → get_or (map (λ (x : A). expired_cell) xs) i expired_cell ≡ expired_cell
none_known [] i = refl
none_known (x ∷ xs) zero = refl
none_known (x ∷ xs) (suc i) = none_known xs i

loaded_cell : (mapped : Mapped) (class : ClassId) (key : List Value) (attr : AttrNo) → cell_in (loaded_object mapped class key) attr ≡ expired_cell
loaded_cell mapped class key attr = none_known (attributes_of mapped class) attr.0

-- ---- one cell

even_read : (found : Option Value) (was now : Cell) → IsReadCell found was now → IsEven was → IsEven now
even_read found was now (inl same) even = ap (λ (c : Cell). c.value) same ∙ even ∙ sym (ap (λ (c : Cell). c.base) same)
even_read found was now (inr filled) even = ap (λ (c : Cell). c.value) filled.even ∙ sym (ap (λ (c : Cell). c.base) filled.even)

-- its base is what was found, where that of the cell before was
base_read : (found : Option Value) (was now : Cell) (base : Value) → IsReadCell found was now → (was.base ≡ Some base → found ≡ Some base) → now.base ≡ Some base → found ≡ Some base
base_read found was now base (inl same) fresh is = fresh (sym (ap (λ (c : Cell). c.base) same) ∙ is)
base_read found was now base (inr filled) fresh is = filled.is ∙ (sym (ap (λ (c : Cell). c.base) filled.even) ∙ is)

-- so it is of a cell that is read anew
even_anew : (found : Option Value) (was now : Cell) → IsRereadCell found was now → IsEven was → IsEven now
even_anew found was now (inl read) even = even_read found was now read even
even_anew found was now (inr lost) even = even_read found expired_cell now lost.left refl

base_anew : (found : Option Value) (was now : Cell) (base : Value) → IsRereadCell found was now → (was.base ≡ Some base → found ≡ Some base) → now.base ≡ Some base → found ≡ Some base
base_anew found was now base (inl read) fresh is = base_read found was now base read fresh is
base_anew found was now base (inr lost) fresh is = base_read found expired_cell now base lost.left (λ never. absurd cc) is

-- a persistent object has a key
persistent_keyed : (state : State) (identity : Option (List Value)) → is_persistent state ≡ true → (if has_identity state then is_some identity else not (is_some identity)) ≡ true → is_some identity ≡ true
persistent_keyed Transient identity persists identified = absurd cc
persistent_keyed Pending identity persists identified = absurd cc
persistent_keyed Persistent identity persists identified = identified
persistent_keyed Deleted identity persists identified = absurd cc
persistent_keyed Detached identity persists identified = absurd cc

under_key : (tables : Tables) (attribute : Attribute) (identity : Option (List Value)) → is_some identity ≡ true → in_row attribute (row_for tables attribute identity) ≡ in_row attribute (row_for tables attribute (Some (unwrap_or identity [])))
under_key tables attribute None some = absurd cc
under_key tables attribute (Some key) some = refl

module _ (mapped : Mapped) (tables : Tables) where
  module _ (was now : Object) (read : IsReadBy IsRereadCell mapped tables was now) where
    -- past the last cell too
    cell_read : (attr : AttrNo) → IsRereadCell (row_value mapped tables now attr) (cell_in was attr) (cell_in now attr)
    cell_read attr =
        ⊎_elim
        (λ (inside : attr.0 < length now.cells). read.cells attr inside)
        (λ (past : length now.cells ≤ attr.0). inl (inl (get_or_past now.cells attr.0 expired_cell past ∙ sym (get_or_past was.cells attr.0 expired_cell (omega (arith, past, read.long))))))
        (cases_lt attr.0 (length now.cells))

    same_row : (attr : AttrNo) → row_value mapped tables now attr ≡ row_value mapped tables was attr
    same_row attr = ap (λ (o : Object). row_value mapped tables o attr) read.rest

    pub read_fresh : is_identified now ≡ true → IsFresh mapped tables was → IsFresh mapped tables now
    read_fresh identified fresh persists attr less base is =
        let persistent : is_persistent was.state ≡ true = sym (ap (λ (o : Object). is_persistent o.state) read.rest) ∙ persists in
        let keyed : is_some now.identity ≡ true = persistent_keyed now.state now.identity persists identified in
        let before : is_some was.identity ≡ true = sym (ap (λ (o : Object). is_some o.identity) read.rest) ∙ keyed in
        let inside : attr.0 < length was.cells = omega (arith, less, read.long) in
        under_key tables (attribute_of mapped now.class attr) now.identity keyed
        ∙ base_anew (row_value mapped tables now attr) (cell_in was attr) (cell_in now attr) base (cell_read attr)
        (λ known. same_row attr ∙ sym (under_key tables (attribute_of mapped was.class attr) was.identity before) ∙ fresh persistent attr inside base known) is

    pub read_marked : IsMarkedRight was → IsMarkedRight now
    read_marked right is = ap (λ (o : Object). is_persistent o.state) read.rest ∙ right (sym (ap (λ (o : Object). o.marked) read.rest) ∙ is)

    pub read_named : is_named was.state was.identity ≡ true → is_named now.state now.identity ≡ true
    read_named named = ap (λ (o : Object). is_named o.state o.identity) read.rest ∙ named

    pub read_even : (attr : AttrNo) → IsEven (cell_in was attr) → IsEven (cell_in now attr)
    read_even attr even = even_anew (row_value mapped tables now attr) (cell_in was attr) (cell_in now attr) (cell_read attr) even

    pub read_keyed : HoldsItsKey mapped was → HoldsItsKey mapped now
    read_keyed keyed = λ named attr key.
        read_even attr (keyed (sym (ap (λ (o : Object). is_named o.state o.identity) read.rest) ∙ named) attr (sym (ap (λ (o : Object). is_key_attribute mapped o.class attr) read.rest) ∙ key))

    -- so it is where no cell of its key was changed
    pub read_keeps : (is_persistent was.state ≡ true → KeepsItsKey mapped was) → is_persistent now.state ≡ true → KeepsItsKey mapped now
    read_keeps keeps persists = λ attr key.
        read_even attr (keeps (sym (ap (λ (o : Object). is_persistent o.state) read.rest) ∙ persists) attr (sym (ap (λ (o : Object). is_key_attribute mapped o.class attr) read.rest) ∙ key))

  -- ---- an object that was made

  loaded_fresh : (class : ClassId) (key : List Value) → IsFresh mapped tables (loaded_object mapped class key)
  loaded_fresh class key persists attr less base is = absurd (let h : ◌≡◌ {A = Option Value} None (Some base) = sym (ap (λ (c : Cell). c.base) (loaded_cell mapped class key attr)) ∙ is in cc)

  loaded_even : (class : ClassId) (key : List Value) (attr : AttrNo) → IsEven (cell_in (loaded_object mapped class key) attr)
  loaded_even class key attr = ap (λ (c : Cell). c.value) (loaded_cell mapped class key attr) ∙ sym (ap (λ (c : Cell). c.base) (loaded_cell mapped class key attr))

  module _ (now : Object) (made : IsMadeBy IsRereadCell mapped tables now) where
    pub made_fresh : is_identified now ≡ true → IsFresh mapped tables now
    made_fresh identified = read_fresh (loaded_object mapped now.class made.0) now made.1 identified (loaded_fresh now.class made.0)

    pub made_marked : IsMarkedRight now
    made_marked is = ap (λ (o : Object). is_persistent o.state) made.1.rest

    pub made_keyed : HoldsItsKey mapped now
    made_keyed = read_keyed (loaded_object mapped now.class made.0) now made.1 (λ named attr is. loaded_even now.class made.0 attr)

    pub made_keeps : is_persistent now.state ≡ true → KeepsItsKey mapped now
    made_keeps = read_keeps (loaded_object mapped now.class made.0) now made.1 (λ persists attr is. loaded_even now.class made.0 attr)

  -- ---- each object

  pub each_loaded : (P : Object → Type 0) (old : Graph) (own : Loading) → ((was now : Object) → IsReadBy IsRereadCell mapped tables was now → is_identified now ≡ true → P was → P now) → ((now : Object) → IsMadeBy IsRereadCell mapped tables now → is_identified now ≡ true → P now)
      → IsLoadedBy IsRereadCell mapped tables old own
      → EachObject P old → EachObject P own.graph
  each_loaded P old own stays makes loaded all place less =
      let identified : is_identified (object_in own.graph place) ≡ true = loaded.graph.identified place no_object less in
      ⊎_elim
      (λ (there : place < length old.objects). stays (object_in old place) (object_in own.graph place) (loaded.read place there) identified (all place there))
      (λ (past : length old.objects ≤ place). makes (object_in own.graph place) (loaded.made place past less) identified)
      (cases_lt place (length old.objects))

-- ---- what loads leave

module _ (mapped : Mapped) (tables : Tables) where
  read_anew : (was now : Object) → IsReadBy IsReadCell mapped tables was now → IsReadBy IsRereadCell mapped tables was now
  read_anew was now read = record { rest = read.rest; long = read.long; linked = read.linked; cells = λ attr less. inl (read.cells attr less) }

-- is left of loads that read anew
pub loaded_anew : (world : World) (own : Loading) → IsLoadOf world own → IsRereadOf world own
loaded_anew world own loads = record {
  fit = loads.fit;
  graph = loads.graph;
  grows = loads.grows;
  read = λ place less. read_anew world.own.mapping world.store.tables (object_in world.own.graph place) (object_in own.graph place) (loads.read place less);
  made = λ place past less. let made = loads.made place past less in (made.0, read_anew world.own.mapping world.store.tables (loaded_object world.own.mapping (object_in own.graph place).class made.0) (object_in own.graph place) made.1);
  noted = loads.noted;
}
