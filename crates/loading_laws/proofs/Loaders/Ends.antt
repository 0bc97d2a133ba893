-- A many-to-one link that leads to what its owner's foreign key says holds the row to which the owner refers.
use Rattle.std.proofs.Common.{◌≡◌, Bool, true, false, not, ◌&&◌, ◌||◌, List, [], ◌∷◌, filter, length, map, slice_get, Option, None, Some, is_some, refl, sym, ap, subst, ◌∙◌, inl, inr}
use Rattle.std.specs.List.{list_any}
use Rattle.std.specs.Option.{option_map}
use Rattle.std.proofs.lemmas.List.Elements.{All-from_recursion}
use Rattle.base_core.specs.declared.ids.ClassId.{ClassId}
use Rattle.base_core.specs.declared.ids.ObjId.{ObjId}
use Rattle.base_core.specs.declared.value.Value.{Value}
use Rattle.schema_core.specs.Tables.{has_null, same_values}
use Rattle.sql_semantics.specs.Eval.{Row}
use Rattle.class_types.specs.declared.mapped.Relation.{Relation}
use Rattle.class_mapping.specs.Mapped.{Mapped, root_of}
use Rattle.class_mapping.proofs.Having.{Has, any_has, from_filter, from_map, has_filter, has_map, some_of, true_false}
use Rattle.mapping_laws.proofs.Ties.{class_tables}
use Rattle.object_arena.specs.declared.object.Link.{Link}
use Rattle.object_arena.specs.declared.object.Link.TheVariants.{Unset, Unloaded, One, Many}
use Rattle.object_arena.specs.Graph.{Graph}
use Rattle.object_arena.specs.Identity.{find_identity}
use Rattle.load_columns.specs.Placing.{from_root, root_key}
use Rattle.load_filling.specs.Rows.{row_key}
use Rattle.load_rows.specs.Reading.{identity_key}
use Rattle.load_rows.specs.Links.{end_of}
use Rattle.load_batches.specs.Batches.{is_unloaded}
use Rattle.loading_laws.specs.Answers.Equal.{equals_key}
use Rattle.loading_laws.proofs.Answers.Values.{equals_known}
use Rattle.loading_laws.proofs.Members.Ranks.{equal_both}
use Rattle.loading_laws.proofs.Members.RootKeys.{tells_keys}
use Rattle.loading_laws.specs.Strategies.Ends.{IsLed, IsManyToOne, LeadAlike, StandsIfAny, leads_by, leads_to_one}
use Rattle.loading_laws.specs.Strategies.Filled.{keys_in_order}
use Rattle.loading_laws.specs.Strategies.Standing.{Stands}
use Rattle.loading_laws.proofs.Strategies.KeyOrder.{key_of_stand}
use Rattle.loading_laws.proofs.Strategies.SameKeys.{same_in_order}
use Rattle.loading_laws.specs.Loaders.Linked.{HoldAlike, HoldsRows, IsOfItsRow, link_with, referred_rows}

-- ---- tests of the rows of a list

any_same : {A : Type 0} (p q : A → Bool) (xs : List A) → ((x : A) → p x ≡ q x) → list_any p xs ≡ list_any q xs
any_same p q [] same = refl
any_same p q (x ∷ xs) same = ap (λ (b : Bool). b || list_any p xs) (same x) ∙ ap (λ (b : Bool). q x || b) (any_same p q xs same)

none_any : {A : Type 0} (p : A → Bool) (xs : List A) → ((x : A) → p x ≡ true → ⊥) → list_any p xs ≡ false
none_any p [] none = refl
none_any p (x ∷ xs) none = by (p x) refl (none_any p xs none)
  where
    by : (b : Bool) → p x ≡ b → list_any p xs ≡ false → (p x || list_any p xs) ≡ false
    by true is rest = absurd (none x is)
    by false is rest = ap (λ (b : Bool). b || list_any p xs) is ∙ rest

none_left : {A : Type 0} (p : A → Bool) (xs : List A) → list_any p xs ≡ false → filter p xs ≡ []
none_left {A = A} p xs none = by (filter p xs) refl
  where
    by : (ys : List A) → filter p xs ≡ ys → ys ≡ []
    by [] is = refl
    by (y ∷ ys) is =
        let there = from_filter p xs y (subst (λ zs. Has zs y) (sym is) (inl refl)) in
        absurd (true_false (list_any p xs) (any_has p xs y there.0 there.1) none)

-- ---- an unloaded link that is given an end

end_put : (end : Option ObjId) (old : Link) → is_unloaded old ≡ true → end_of end old ≡ Some (One end false)
end_put end Unset h = absurd cc
end_put end (Unloaded added removed) h = refl
end_put end (One other changed) h = absurd cc
end_put end (Many members base) h = absurd cc

abbrev in_list : Option ObjId → List ObjId
in_list None = []
in_list (Some object) = object ∷ []

first_in : (end : Option ObjId) → slice_get (in_list end) 0 ≡ end
first_in None = refl
first_in (Some object) = refl

end_link : (many : Bool) (end : Option ObjId) (old now : Link) → many ≡ false → is_unloaded old ≡ true → now ≡ One end false → Some now ≡ link_with many (in_list end) old
end_link many end old now single unloaded is =
    ap Some is ∙ sym (end_put end old unloaded) ∙ ap (λ (e : Option ObjId). end_of e old) (sym (first_in end)) ∙ ap (λ (m : Bool). link_with m (in_list end) old) (sym single)

-- ---- the row under a foreign key

module _ (mapped : Mapped) (relation : Relation) (all : List Row) (key : List Value) (one : IsManyToOne mapped relation) (long : length (root_key mapped relation.target (from_root 0)) ≡ length key) where
  abbrev class : ClassId
  class = relation.target

  abbrev refers : Row → Bool
  refers row = equals_key (row_key mapped class row) key

  as_long : (row : Row) → length (row_key mapped class row) ≡ length key
  as_long row = (tells_keys mapped class one.has (class_tables mapped class one.has one.related.target)).long row ∙ long

  -- an object of the map that is of its row leads just where the key refers to a row
  leads_is : (held : Option ObjId) (graph : Graph) (null : Bool) → has_null key ≡ null → IsOfItsRow mapped class all graph key held → (not null && leads_by mapped relation all graph key held) ≡ list_any refers all
  leads_is held graph true is of = sym (none_any refers all (λ row same. true_false (has_null key) is (equal_both (row_key mapped class row) key (as_long row) same).known))
  leads_is None graph false is of = any_same (λ row. same_values (row_key mapped class row) key) refers all (λ row. sym (equals_known (row_key mapped class row) key (as_long row) is))
  leads_is (Some object) graph false is of = of ∙ any_same (λ row. same_values (row_key mapped class row) key) refers all (λ row. sym (equals_known (row_key mapped class row) key (as_long row) is))

  refers_to : (row : Row) → refers row ≡ true → row_key mapped class row ≡ key
  refers_to row same = (equal_both (row_key mapped class row) key (as_long row) same).same

  -- the rows to which it refers have the one key
  one_key : list_any refers all ≡ true → keys_in_order (map (row_key mapped class) (filter refers all)) ≡ key ∷ []
  unfolding keys_in_order
  one_key some = same_in_order (map (row_key mapped class) (filter refers all)) (key ∷ []) there back
    where
      there : (k : List Value) → Has (map (row_key mapped class) (filter refers all)) k → Has (key ∷ []) k
      there k h =
          let from = from_map (row_key mapped class) (filter refers all) k h in
          inl (sym (refers_to from.0 (from_filter refers all from.0 from.1).1) ∙ from.2)

      back : (k : List Value) → Has (key ∷ []) k → Has (map (row_key mapped class) (filter refers all)) k
      back k (inl e) =
          let found = some_of refers all some in
          subst (Has (map (row_key mapped class) (filter refers all))) (refers_to found.0 found.2 ∙ e) (has_map (row_key mapped class) (filter refers all) found.0 (has_filter refers all found.0 found.1 found.2))
      back k (inr h) = absurd h

  no_key : list_any refers all ≡ false → keys_in_order (map (row_key mapped class) (filter refers all)) ≡ []
  unfolding keys_in_order
  no_key none = ap (λ rows. keys_in_order (map (row_key mapped class) rows)) (none_left refers all none)

  held_by : (end : Option ObjId) (old now : Link) (graph : Graph) → is_unloaded old ≡ true → now ≡ One end false → is_some end ≡ list_any refers all → StandsIfAny (root_of mapped class) graph key end
      → HoldsRows mapped relation (referred_rows mapped relation all key) old graph now
  held_by None old now graph unloaded is some stands = record {
    objects = [];
    keys = sym (no_key (sym some));
    stand = All-from_recursion (λ object. Stands (root_of mapped class) graph (identity_key graph object) object) [] tt;
    link = end_link relation.many None old now one.one unloaded is;
  }
  held_by (Some object) old now graph unloaded is some stands =
      let same : identity_key graph object ≡ key = key_of_stand (root_of mapped class) graph key object stands in
      record {
        objects = object ∷ [];
        keys = ap (λ (k : List Value). k ∷ []) same ∙ sym (one_key (sym some));
        stand =
            All-from_recursion (λ object. Stands (root_of mapped class) graph (identity_key graph object) object) (object ∷ [])
            (subst (λ (k : List Value). Stands (root_of mapped class) graph k object) (sym same) stands, tt);
        link = end_link relation.many (Some object) old now one.one unloaded is;
      }

  pub led_holds : (start graph : Graph) (old now : Link) → is_unloaded old ≡ true → IsOfItsRow mapped class all start key (find_identity start (root_of mapped class) key) → IsLed mapped relation (leads_to_one mapped relation all start key) key graph now
      → HoldsRows mapped relation (referred_rows mapped relation all key) old graph now
  led_holds start graph old now unloaded of led =
      held_by led.end old now graph unloaded led.link (led.some ∙ leads_is (find_identity start (root_of mapped class) key) start (has_null key) refl of) led.stands

-- ---- two links that lead alike

pub alike_holds : (mapped : Mapped) (relation : Relation) (first second : Graph) (old one other : Link) → relation.many ≡ false → is_unloaded old ≡ true → LeadAlike first second one other → HoldAlike first second relation.many old one other
alike_holds mapped relation first second old one other single unloaded alike = record {
  objects = in_list alike.end;
  same = in_list alike.same;
  one_link = end_link relation.many alike.end old one single unloaded alike.one_link;
  other_link = end_link relation.many alike.same old other single unloaded alike.other_link;
  alike = listed alike.end alike.same alike.alike;
}
  where
    listed : (end same : Option ObjId) → option_map (identity_key first) end ≡ option_map (identity_key second) same → map (identity_key first) (in_list end) ≡ map (identity_key second) (in_list same)
    listed None None e = refl
    listed None (Some object) e = absurd cc
    listed (Some object) None e = absurd cc
    listed (Some object) (Some other) e = cc
