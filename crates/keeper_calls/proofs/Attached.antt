-- Calls leave a keeper attached.
use Rattle.std.proofs.Common.{◌≡◌, ◌∙◌, ℕ, true, Result}
use Rattle.base_core.specs.declared.refusal.Refusal.{Refusal}
use Rattle.keeper_core.specs.declared.sent.Sent.{Sent}
use Rattle.keeper_core.specs.Moment.{Moment, parts}
use Rattle.keeper_core.specs.Programs.{Run}
use Rattle.keeper_core.specs.Store.{Store}
use Rattle.keeper_core.specs.Keeping.{IsCall, IsStatement}

pub called_attached : {A K : Type 0} {moment : K → Moment Store} {m : Store → Run Store A} {scopes : ℕ} {old new : K} {result : Result A Refusal} → IsCall moment m scopes old result new
    → (moment old).attached ≡ true → (moment new).attached ≡ true
called_attached call attached = (parts call.step).keeps.attached ∙ attached

pub stated_attached : {A K : Type 0} {moment : K → Moment Store} {m : Store → Run Store A} {statement : Sent} {MayRefuse : Refusal → Type 0} {old new : K} {result : Result A Refusal}
    → IsStatement moment m statement MayRefuse old result new → (moment old).attached ≡ true → (moment new).attached ≡ true
stated_attached call attached = (parts call.step).keeps.attached ∙ attached
