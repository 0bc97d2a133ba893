-- Objects that are expired, one after another.
use Rattle.std.proofs.Common.{◌≡◌, ℕ, ◌+◌, ◌<◌, ◌≤◌, List, length, drop, get_or, sym, ap, ◌∙◌}
use Rattle.std.proofs.lemmas.List.{drop_all, drop_more}
use Rattle.base_core.specs.declared.ids.ObjId.{ObjId}
use Rattle.session_scopes.specs.SessionState.{SessionState}
use Rattle.session_loads.specs.Expiring.{all_expired, with_expired}

-- one more is expired
pub expired_more : (objects : List ObjId) (place : ℕ) (none : ObjId) (own now end : SessionState) → place < length objects → now ≡ with_expired (get_or objects place none) own → all_expired (drop place objects) own ≡ end → all_expired (drop (place + 1) objects) now ≡ end
expired_more objects place none own now end less is all =
    ap (all_expired (drop (place + 1) objects)) is ∙ sym (ap (λ (os : List ObjId). all_expired os own) (drop_more objects place none less)) ∙ all

-- all are
pub expired_last : (objects : List ObjId) (place : ℕ) (own end : SessionState) → length objects ≤ place → all_expired (drop place objects) own ≡ end → own ≡ end
expired_last objects place own end over all = sym (ap (λ (os : List ObjId). all_expired os own) (drop_all place objects over)) ∙ all
