-- A run over a keeper that took its target, or did not.
use Rattle.std.proofs.Common.{◌≡◌, ◌⊎◌, inl, inr, Bool, true, false, List, ℕ, Option, None, Some, Result, Ok, Err, refl, sym, ap, ◌∙◌, subst}
use Rattle.base_core.specs.declared.refusal.Refusal.{Refusal}
use Rattle.class_types.specs.Rules.{Rules}
use Rattle.keeper_core.specs.declared.keeper.KeeperStop.{KeeperStop}
use Rattle.keeper_core.specs.declared.keeper.KeeperStop.TheVariants as stops
use Rattle.keeper_core.specs.declared.target.Target.{Target}
use Rattle.keeper_core.specs.declared.target.Target.TheVariants as targets
use Rattle.keeper_core.specs.Calls.{stop_refusal}
use Rattle.keeper_core.specs.Keeping.{IsAttached, IsCoherent, IsCoherentTold, IsOpened, IsToldAnew, IsToldFrom}
use Rattle.keeper_core.specs.Moment.{Moment, Told}
use Rattle.keeper_core.specs.Store.{Store}
use Rattle.schema_core.specs.Tables.{Tables}
use Rattle.shell_replies.specs.declared.notes.PrintOptions.{PrintOptions}
use Rattle.sqla_shell.specs.Outcome.{IsDone, IsDoneOf, IsReference, IsReferenceWhere, IsTakenRun}
use Rattle.sqla_shell.specs.Seen.{KeepsKeeper, Seen, moment_seen}
use Rattle.sqla_shell.specs.Words.{untaken_status}
use Rattle.sqla_shell.specs.declared.status.Status.{Status}
use Rattle.sqla_shell.specs.declared.status.Status.TheVariants as status

-- ---- a keeper that took its target

none≢some : {A : Type 0} {x : A} → None ≡ Some x → ⊥
none≢some is = cc

-- what is told then was there when the target was given
opened : (target : Target) (before : Option (Told Store)) (now : Told Store) → IsToldAnew target before (Ok tt) (Some now) → IsOpened target now
opened targets.Memory None now anew = anew
opened targets.Memory (Some told) now anew = cc
opened (targets.File name) before now anew = anew

-- a keeper that tells nothing then goes on telling nothing
silent_on : (tells now : Bool) (depth later : ℕ) (told : Told Store) → tells ≡ false → now ≡ tells → IsCoherentTold now later (Some told) → ⊥
silent_on tells now depth later told none same coherent = cc

module _ (options : PrintOptions) (rules : Rules) (target : Target) (opening : Option Tables) (end : Status) where
  taken_told : (bytes before : List ℕ) (old mid new : Option (Told Store)) (written : Option (List ℕ)) → IsToldAnew target old (Ok tt) mid → IsToldFrom opening mid → (mid ≡ None → new ≡ None)
      → IsDoneOf options rules (Some bytes) (Some before) mid end written new → IsTakenRun options rules target opening (Some bytes) (Some before) old end written new
  taken_told bytes before old None None written anew from silent done = told_before old target anew
    where
      told_before : (old : Option (Told Store)) (target : Target) → IsToldAnew target old (Ok tt) None → IsTakenRun options rules target opening (Some bytes) (Some before) old end written None
      told_before None targets.Memory anew = refl
      told_before (Some told) targets.Memory anew = absurd (none≢some anew)
      told_before old (targets.File name) anew = tt
  taken_told bytes before old None (Some now) written anew from silent done = absurd (none≢some (sym (silent refl)))
  taken_told bytes before old (Some mid) None None anew from silent done = absurd done
  taken_told bytes before old (Some mid) (Some now) None anew from silent done = absurd done
  taken_told bytes before old (Some mid) None (Some written) anew from silent done = absurd done
  taken_told bytes before old (Some mid) (Some now) (Some written) anew from silent done = (mid, opened target old mid anew, from, done)

  taken_by : (left before : Option (List ℕ)) (old mid new : Option (Told Store)) (written : Option (List ℕ)) → IsToldAnew target old (Ok tt) mid → IsToldFrom opening mid → (mid ≡ None → new ≡ None)
      → IsDoneOf options rules left before mid end written new → IsTakenRun options rules target opening left before old end written new
  taken_by None before old mid new written anew from silent done = tt
  taken_by (Some bytes) None old mid new written anew from silent done = tt
  taken_by (Some bytes) (Some before) old mid new written anew from silent done = taken_told bytes before old mid new written anew from silent done

silent_by : (tells now : Bool) (depth later : ℕ) (mid new : Option (Told Store)) → IsCoherentTold tells depth mid → now ≡ tells → IsCoherentTold now later new → mid ≡ None → new ≡ None
silent_by tells now depth later None None coherent same also is = refl
silent_by tells now depth later None (Some told) coherent same also is = absurd (silent_on tells now depth later told coherent same also)
silent_by tells now depth later (Some mid) new coherent same also is = absurd (none≢some (sym is))

-- the script was done over a keeper that took its target
pub taken : (options : PrintOptions) (rules : Rules) (target : Target) (opening : Option Tables) (old : Seen) (mid : Moment Store) (end : Status) (new : Seen) → IsAttached old.keeper target (Ok tt) mid → IsToldFrom opening mid.told
    → IsCoherent mid → KeepsKeeper mid new.keeper → IsCoherent new.keeper → IsDone options rules (moment_seen old.left old.reads old.written old.writes mid) end new → IsReference options rules target opening old end new
taken options rules target opening old mid end new attached from coherent keeps also done =
    subst (λ (took : Bool). IsReferenceWhere took options rules target opening old end new) (sym (keeps.attached ∙ attached.attached))
    (taken_by options rules target opening end old.left old.written old.keeper.told mid.told new.keeper.told new.written attached.told from
    (silent_by mid.tells new.keeper.tells mid.depth new.keeper.depth mid.told new.keeper.told coherent keeps.tells also) done)

-- ---- a keeper that did not

told_left : (target : Target) (e : Refusal) (before now : Option (Told Store)) → IsToldAnew target before (Err e) now → now ≡ before
told_left targets.Memory e None now left = left
told_left targets.Memory e (Some told) now left = left
told_left (targets.File name) e before now left = left

untaken_end : (stop : KeeperStop) → (untaken_status stop ≡ status.KeeperFault) ⊎ (untaken_status stop ≡ status.Memory)
untaken_end stops.Fault = inl refl
untaken_end stops.Memory = inr refl

pub untaken : (options : PrintOptions) (rules : Rules) (target : Target) (opening : Option Tables) (stop : KeeperStop) (old : Seen) (mid : Moment Store) (end : Status) → IsAttached old.keeper target (Err (stop_refusal stop)) mid
    → end ≡ untaken_status stop → IsReference options rules target opening old end (moment_seen old.left old.reads old.written old.writes mid)
untaken options rules target opening stop old mid end attached is =
    subst (λ (took : Bool). IsReferenceWhere took options rules target opening old end (moment_seen old.left old.reads old.written old.writes mid)) (sym attached.attached)
    (refl, refl, told_left target (stop_refusal stop) old.keeper.told mid.told attached.told, subst (λ (s : Status). (s ≡ status.KeeperFault) ⊎ (s ≡ status.Memory)) (sym is) (untaken_end stop))
