-- What the keeper behind it does, the whole does.
use Rattle.std.proofs.Common.{◌≡◌, ℕ, [], true, Option, None, Some, Result, Ok, sym, ◌∙◌, subst}
use Rattle.base_core.specs.declared.refusal.Refusal.{Refusal}
use Rattle.keeper_core.specs.declared.sent.Sent.{Sent}
use Rattle.keeper_core.specs.declared.target.Target.{Target}
use Rattle.keeper_core.specs.declared.target.Target.TheVariants as targets
use Rattle.keeper_core.specs.Moment.{Moment, Ran, parts}
use Rattle.keeper_core.specs.Programs.{Run}
use Rattle.keeper_core.specs.Store.{Store}
use Rattle.schema_core.specs.Tables.{Tables}
use Rattle.keeper_core.specs.Keeping.{IsAttached, IsCall, IsStatement, IsToldFrom}
use Rattle.keeper_mem.specs.declared.keeper.Attachment.{Attachment}
use Rattle.keeper_mem.specs.declared.keeper.Attachment.TheVariants.{Fresh, Taken, Untaken}
use Rattle.keeper_mem.specs.Kept as mem
use Rattle.keeper_sqlite.specs.Counted as sqlite
use Rattle.keeper_shelf.specs.Shelved.{IsMade, IsOverFile, Shelved, moment_by, moment_of}

-- ---- calls, by what is seen of a keeper

abbrev itself : Moment Store → Moment Store
itself moment = moment

seen_call : {K A : Type 0} {moment : K → Moment Store} {m : Store → Run Store A} {n : ℕ} {r : Result A Refusal} {old new : K} → IsCall moment m n old r new → IsCall itself m n (moment old) r (moment new)
seen_call c = let p = parts c.step in record { step = Ran (record { told = p.told; keeps = p.keeps }); depth = c.depth; stops = c.stops; undone = c.undone }

call_of_seen : {K A : Type 0} {moment : K → Moment Store} {m : Store → Run Store A} {n : ℕ} {r : Result A Refusal} {old new : K} → IsCall itself m n (moment old) r (moment new) → IsCall moment m n old r new
call_of_seen c = let p = parts c.step in record { step = Ran (record { told = p.told; keeps = p.keeps }); depth = c.depth; stops = c.stops; undone = c.undone }

seen_statement : {K A : Type 0} {moment : K → Moment Store} {m : Store → Run Store A} {s : Sent} {May : Refusal → Type 0} {r : Result A Refusal} {old new : K} → IsStatement moment m s May old r new
    → IsStatement itself m s May (moment old) r (moment new)
seen_statement c = let p = parts c.step in record { step = Ran (record { told = p.told; keeps = p.keeps }); depth = c.depth; refuses = c.refuses; left = c.left }

statement_of_seen : {K A : Type 0} {moment : K → Moment Store} {m : Store → Run Store A} {s : Sent} {May : Refusal → Type 0} {r : Result A Refusal} {old new : K} → IsStatement itself m s May (moment old) r (moment new)
    → IsStatement moment m s May old r new
statement_of_seen c = let p = parts c.step in record { step = Ran (record { told = p.told; keeps = p.keeps }); depth = c.depth; refuses = c.refuses; left = c.left }

pub in_memory : {A : Type 0} {m : Store → Run Store A} {n : ℕ} {r : Result A Refusal} {old new : Shelved} → old.file ≡ None → new.file ≡ None → IsCall mem.moment_of m n old.memory r new.memory
    → IsCall moment_of m n old r new
in_memory {m = m} {n = n} {r = r} {old = old} {new = new} before after c =
    call_of_seen (subst (λ f. IsCall itself m n (moment_by f old.memory) r (moment_of new)) (sym before)
    (subst (λ f. IsCall itself m n (mem.moment_of old.memory) r (moment_by f new.memory)) (sym after) (seen_call c)))

pub in_file : {A : Type 0} {m : Store → Run Store A} {n : ℕ} {r : Result A Refusal} {old new : Shelved} {a b : sqlite.Counted} → old.file ≡ Some a → new.file ≡ Some b → IsCall sqlite.moment_of m n a r b
    → IsCall moment_of m n old r new
in_file {m = m} {n = n} {r = r} {old = old} {new = new} {a = a} before after c =
    call_of_seen (subst (λ f. IsCall itself m n (moment_by f old.memory) r (moment_of new)) (sym before)
    (subst (λ f. IsCall itself m n (sqlite.moment_of a) r (moment_by f new.memory)) (sym after) (seen_call c)))

pub stated_in_memory : {A : Type 0} {m : Store → Run Store A} {s : Sent} {May : Refusal → Type 0} {r : Result A Refusal} {old new : Shelved} → old.file ≡ None → new.file ≡ None
    → IsStatement mem.moment_of m s May old.memory r new.memory → IsStatement moment_of m s May old r new
stated_in_memory {m = m} {s = s} {May = May} {r = r} {old = old} {new = new} before after c =
    statement_of_seen (subst (λ f. IsStatement itself m s May (moment_by f old.memory) r (moment_of new)) (sym before)
    (subst (λ f. IsStatement itself m s May (mem.moment_of old.memory) r (moment_by f new.memory)) (sym after) (seen_statement c)))

pub stated_in_file : {A : Type 0} {m : Store → Run Store A} {s : Sent} {May : Refusal → Type 0} {r : Result A Refusal} {old new : Shelved} {a b : sqlite.Counted} → old.file ≡ Some a → new.file ≡ Some b
    → IsStatement sqlite.moment_of m s May a r b → IsStatement moment_of m s May old r new
stated_in_file {m = m} {s = s} {May = May} {r = r} {old = old} {new = new} {a = a} before after c =
    statement_of_seen (subst (λ f. IsStatement itself m s May (moment_by f old.memory) r (moment_of new)) (sym before)
    (subst (λ f. IsStatement itself m s May (sqlite.moment_of a) r (moment_by f new.memory)) (sym after) (seen_statement c)))

-- ---- a keeper that took its target is not as it was made

no_target : (a : Attachment) → mem.is_taken a ≡ true → mem.target_of a ≡ None → ⊥
no_target Fresh taken none = cc
no_target (Taken target) taken none = cc
no_target (Untaken target) taken none = cc

pub still_made : {A : Type 0} {m : Store → Run Store A} {n : ℕ} {r : Result A Refusal} {old new : mem.Kept} → (mem.moment_of old).attached ≡ true → IsCall mem.moment_of m n old r new → IsMade new
still_made {old = old} attached c = λ none. absurd (no_target old.attachment attached (sym (parts c.step).keeps.target ∙ none))

pub still_made_by : {A : Type 0} {m : Store → Run Store A} {s : Sent} {May : Refusal → Type 0} {r : Result A Refusal} {old new : mem.Kept} → (mem.moment_of old).attached ≡ true
    → IsStatement mem.moment_of m s May old r new → IsMade new
still_made_by {old = old} attached c = λ none. absurd (no_target old.attachment attached (sym (parts c.step).keeps.target ∙ none))

pub ruleset ending = (in_memory, in_file, still_made)

pub ruleset stating = (stated_in_memory, stated_in_file, still_made_by)

-- ---- a target is given

file_taken : (target : Target) (counted : sqlite.Counted) → IsOverFile target counted → IsAttached (mem.moment_of (mem.new_keeper [])) target (Ok tt) (sqlite.moment_of counted)
file_taken targets.Memory counted t = absurd t
file_taken (targets.File name) counted t = record { told = tt; faults = t.faults; calm = t.calm; depth = t.depth; given = t.given; attached = t.attached }

-- a file takes the place of a keeper that is new
pub placed_in_file : {target : Target} {counted : sqlite.Counted} {old : mem.Kept} (new : Shelved) → IsMade old → (mem.moment_of old).target ≡ None → IsOverFile target counted → new.file ≡ Some counted
    → IsAttached (mem.moment_of old) target (Ok tt) (moment_of new)
placed_in_file {target = target} {counted = counted} {old = old} new made none t is =
    subst (λ f. IsAttached (mem.moment_of old) target (Ok tt) (moment_by f new.memory)) (sym is)
    (subst (λ k. IsAttached (mem.moment_of k) target (Ok tt) (sqlite.moment_of counted)) (sym (made none)) (file_taken target counted t))

-- a keeper over a file tells nothing
pub file_untold : {counted : sqlite.Counted} (new : Shelved) (tables : Option Tables) → new.file ≡ Some counted → IsToldFrom tables (moment_of new).told
file_untold new tables is = subst (λ f. IsToldFrom tables (moment_by f new.memory).told) (sym is) tt

some_is_not_none : {A : Type 0} {x : A} → ◌≡◌ {A = Option A} (Some x) None → ⊥
some_is_not_none e = cc

-- a keeper that was given its target is not as it was made
pub made_by : {target : Target} {r : Result (Unit {0}) Refusal} (old : mem.Kept) {new : mem.Kept} → IsAttached (mem.moment_of old) target r (mem.moment_of new) → IsMade new
made_by old a = λ none. absurd (some_is_not_none (sym a.given ∙ none))

pub ruleset placing = (placed_in_file, file_untold, made_by)
