-- What a keeper tells of its tables stays so after each call whose program keeps it, whatever the call answers.
use Rattle.keeper_core.specs.declared.target.Target.{Target}
use Rattle.table_laws.proofs.Dropped.{no_tables_ascend}
use Rattle.std.proofs.Common.{◌≡◌, ℕ, Bool, true, false, cond, List, [], ◌∷◌, length, Option, None, Some, MatchBool, Result, Ok, Err, refl, sym, ap, ◌∙◌, subst, arith, IfErr, IfSome}
use Rattle.std.specs.List.{AllByRecursion}
use Rattle.base_core.specs.declared.refusal.Refusal.{Refusal}
use Rattle.schema_core.specs.Tables.{AreAscending, Tables}
use Rattle.keeper_core.specs.declared.sent.Sent.{Sent}
use Rattle.keeper_core.specs.declared.target.Target.TheVariants as targets
use Rattle.keeper_core.specs.Programs.{Run, ends_early}
use Rattle.keeper_core.specs.Moment.{AsTold, IsCutOff, IsRun, Moment, Runs, Told, parts}
use Rattle.keeper_core.specs.Store.{Store, committed_of, outermost}
use Rattle.base_core.specs.Counts.{Rose}
use Rattle.keeper_core.specs.Keeping.{IsAttached, IsCall, IsCoherent, IsCoherentTold, IsStatement, IsToldAnew, IsUndone, IsUnseen, new_store}
use Rattle.keeper_core.proofs.Telling.{holds_answered, holds_refused}
use Rattle.table_laws.specs.Legality.{IfTold, IsAscendingStore, Keeps, Throughout}
use Rattle.table_laws.proofs.EachCall.{committed_has}

-- a store without scopes, whose tables are those that were committed last
alone : (P : Tables → Type 0) (w : Store) (scopes : List Tables) → w.scopes ≡ scopes → length scopes ≡ 0 → P (committed_of w) → Throughout P w
alone P w [] none size now = record {
  tables = subst P (ap (outermost w.tables) none) now;
  scopes = subst (AllByRecursion P) (sym none) tt;
}
alone P w (s ∷ scopes) none size now = absurd (omega arith)

-- a call was ended early: what was committed last is left
ended : (P : Tables → Type 0) (told now : Option (Told Store)) (tells tells_now : Bool) (before after : ℕ) → IsCoherentTold tells before told → IsCoherentTold tells_now after now → tells_now ≡ tells → after ≡ 0
    → IsUnseen told now → IfTold (Throughout P) told → IfTold (Throughout P) now
ended P told None tells tells_now before after was is same none unseen held = tt
ended P None (Some n) tells tells_now before after was is same none unseen held = absurd (cc (was, same, is.0))
ended P (Some t) (Some n) tells tells_now before after was is same none unseen held =
    alone P n.world n.world.scopes refl (sym is.1 ∙ none)
    (subst P (sym was.2 ∙ ap (λ log. log.committed) (sym unseen) ∙ is.2) (committed_has P t.world held))

-- what is left of a call that was ended early
undone : {K : Type 0} (P : Tables → Type 0) (moment : K → Moment Store) (old new : K) → IsCoherent (moment old) → IsCoherent (moment new) → (moment new).tells ≡ (moment old).tells → (moment new).depth ≡ 0 → IsUndone (moment old) (moment new)
    → IfTold (Throughout P) (moment old).told → IfTold (Throughout P) (moment new).told
undone P moment old new was is same none left held =
    ended P (moment old).told (moment new).told (moment old).tells (moment new).tells (moment old).depth (moment new).depth was is same none left.1 held

-- a call that nothing refuses
pub told_called : {K A : Type 0} (P : Tables → Type 0) (moment : K → Moment Store) (m : Store → Run Store A) (scopes : ℕ) (old new : K) (result : Result A Refusal) → Keeps (Throughout P) m → IsCoherent (moment old) → IsCoherent (moment new)
    → IfTold (Throughout P) (moment old).told → IsCall moment m scopes old result new → IfTold (Throughout P) (moment new).told
told_called P moment m scopes old new (Ok x) keeps was is held call = holds_answered moment (Throughout P) keeps.kept was is held call.step
told_called P moment m scopes old new (Err e) keeps was is held call =
    undone P moment old new was is (parts call.step).keeps.tells (call.depth ∙ ap (λ b. cond b 0 scopes) call.stops) call.undone held

-- a statement, which may be refused
pub told_stated : {K A : Type 0} (P : Tables → Type 0) (moment : K → Moment Store) (m : Store → Run Store A) (statement : Sent) (MayRefuse : Refusal → Type 0) (old new : K) (result : Result A Refusal) → Keeps (Throughout P) m
    → IsCoherent (moment old) → IsCoherent (moment new) → IfTold (Throughout P) (moment old).told → IsStatement moment m statement MayRefuse old result new → IfTold (Throughout P) (moment new).told
told_stated P moment m statement MayRefuse old new (Ok x) keeps was is held call = holds_answered moment (Throughout P) keeps.kept was is held call.step
told_stated P moment m statement MayRefuse old new (Err e) keeps was is held call = by (ends_early e) refl
  where
    by : (b : Bool) → ends_early e ≡ b → IfTold (Throughout P) (moment new).told
    by true early =
        undone P moment old new was is (parts call.step).keeps.tells (call.depth ∙ ap (λ b. cond b 0 (moment old).depth) early)
        (subst (λ b. MatchBool b (IsUndone (moment old) (moment new)) (Rose (moment old).refusals (moment new).refusals × ((moment new).last ≡ Some (record { statement = statement; refusal = e })))) early call.left) held
    by false own = holds_refused moment (Throughout P) own keeps.kept was is held call.step

-- a keeper that took memory as its target tells no tables and no scopes
pub told_attached : (P : Tables → Type 0) (old new : Moment Store) → P [] → IsAttached old targets.Memory (Ok tt) new → IfTold (Throughout P) new.told
told_attached P old new none attached = by old.told new.told attached.told
  where
    fresh : (n : Told Store) → n ≡ new_store → Throughout P n.world
    fresh n is = subst (λ (t : Told Store). Throughout P t.world) (sym is) (record { tables = none; scopes = tt })

    by : (told now : Option (Told Store)) → IsToldAnew targets.Memory told (Ok tt) now → IfTold (Throughout P) now
    by (Some told) (Some n) is = fresh n (let same : n ≡ new_store = cc in same)
    by (Some told) None is = tt
    by None (Some n) is = fresh n is
    by None None is = tt

-- what a file has is told in order
opened_ascends : (name : List ℕ) (told now : Option (Told Store)) → IsToldAnew (targets.File name) told (Ok tt) now → IfTold IsAscendingStore now
opened_ascends name told None is = tt
opened_ascends name told (Some n) is = record { tables = is.2; scopes = subst (AllByRecursion AreAscending) (sym is.1) tt }

-- a keeper that took its target tells ascending tables
pub attached_ascends : (target : Target) (old new : Moment Store) → IsAttached old target (Ok tt) new → IfTold IsAscendingStore new.told
attached_ascends targets.Memory old new attached = told_attached AreAscending old new no_tables_ascend attached
attached_ascends (targets.File name) old new attached = opened_ascends name old.told new.told attached.told

-- ---- any call and its program

ran : {W A X : Type 0} (P : W → Type 0) (view : X → A) (m : W → Run W A) (told : Told W) (result : Result X Refusal) (now : Option (Told W)) → Keeps P m → P told.world → IfErr result (λ e. ends_early e ≡ false)
    → AsTold view m (Some told) result now → IfSome now (λ n. P n.world)
ran P view m told result None keeps held own did = tt
ran P view m told (Ok x) (Some n) keeps held own did = subst P (sym did.world) (keeps.kept told.world held)
ran P view m told (Err e) (Some n) keeps held own did =
    let run : IsRun (m told.world) told.log (Err e) n = subst (λ b. MatchBool b (IsCutOff (m told.world) told.log n) (IsRun (m told.world) told.log (Err e) n)) own did in
    subst P (sym run.world) (keeps.kept told.world held)

-- a call that did not end early leaves what its program keeps, of a world that was told
pub ran_kept : {W A X S : Type 0} (P : W → Type 0) (tell : S → Moment W) (view : X → A) (m : W → Run W A) (old new : S) (told : Told W) (result : Result X Refusal) → Keeps P m → (tell old).told ≡ Some told → P told.world
    → IfErr result (λ e. ends_early e ≡ false) → Runs tell view m old result new → IfSome (tell new).told (λ n. P n.world)
ran_kept {W = W} P tell view m old new told result keeps is held own did =
    ran P view m told result (tell new).told keeps held own (subst (λ (o : Option (Told W)). AsTold view m o result (tell new).told) is (parts did).told)
