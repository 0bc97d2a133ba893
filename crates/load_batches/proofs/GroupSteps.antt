-- One more member among those of an owner's key.
use Rattle.std.proofs.Common.{◌≡◌, Bool, true, false, List, [], ◌∷◌, ◌++◌, cond, refl, ap, sym, ◌∙◌, Some, None, append-nil}
use Rattle.std.specs.HashMap.Eq.{lookup_congr}
use Rattle.std.specs.Option.{unwrap_or}
use Rattle.std.specs.BTreeMap.{BTreeMap, get}
use Rattle.base_core.specs.Order.{values_cmp}
use Rattle.base_core.specs.declared.ids.ObjId.{ObjId}
use Rattle.base_core.specs.declared.value.Value.{Value}
use Rattle.schema_core.specs.Tables.{same_values}
use Rattle.join_keys.proofs.KeyedRows.{same_row_equiv}
use Rattle.load_batches.specs.Batches.{members_under, objects_at}
use Rattle.load_batches.specs.declared.members.Member.{Member}

abbrev Map : Type 0
Map = BTreeMap (List Value) (List ObjId)

one_under : (member : Member) (key : List Value) (b : Bool) → same_values member.owner key ≡ b → members_under (member ∷ []) key ≡ cond b (member.object ∷ []) []
one_under member key true e = rw e refl
one_under member key false e = rw e refl

more_by : (groups taken new : Map) (member : Member) (more : List ObjId) (key : List Value) (b : Bool) → same_values member.owner key ≡ b → get values_cmp taken key ≡ cond b None (get values_cmp groups key)
    → get values_cmp new key ≡ cond b (Some more) (get values_cmp taken key) → more ≡ objects_at groups member.owner ++ member.object ∷ [] → objects_at new key ≡ objects_at groups key ++ members_under (member ∷ []) key
more_by groups taken new member more key true s t n e =
    ap (λ o. unwrap_or o []) n ∙ e ∙ ap (λ o. unwrap_or o [] ++ member.object ∷ []) (lookup_congr same_values same_row_equiv.congr groups.entries member.owner key s)
    ∙ ap (λ objects. objects_at groups key ++ objects) (sym (one_under member key true s))
more_by groups taken new member more key false s t n e =
    ap (λ o. unwrap_or o []) (n ∙ t) ∙ sym (append-nil (objects_at groups key)) ∙ ap (λ objects. objects_at groups key ++ objects) (sym (one_under member key false s))

-- a member goes behind those of its owner's key
pub member_more : (groups taken new : Map) (member : Member) (owner : List Value) (more : List ObjId) → owner ≡ member.owner → ((key : List Value) → get values_cmp taken key ≡ cond (same_values member.owner key) None (get values_cmp groups key))
    → ((key : List Value) → get values_cmp new key ≡ cond (same_values owner key) (Some more) (get values_cmp taken key)) → more ≡ objects_at groups member.owner ++ member.object ∷ [] → (key : List Value)
    → objects_at new key ≡ objects_at groups key ++ members_under (member ∷ []) key
member_more groups taken new member owner more is t n e key =
    more_by groups taken new member more key (same_values member.owner key) refl (t key) (n key ∙ ap (λ x. cond (same_values x key) (Some more) (get values_cmp taken key)) is) e
