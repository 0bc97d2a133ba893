-- What becomes of a shell's stage by declarations and by the opening of the session.
use Rattle.std.proofs.Common.{◌≡◌, ℕ, Option, None, Some, List, [], Result, Ok, Err, IfErr, refl, sym, ap, ◌∙◌, subst, ◌++◌, OnOk}
use Rattle.base_core.specs.Answers.{Refuses, Takes}
use Rattle.base_core.specs.declared.refusal.ArgumentKind.{ArgumentKind}
use Rattle.base_core.specs.declared.refusal.Refusal.{Refusal}
use Rattle.base_core.specs.declared.refusal.Refusal.TheVariants.{ArgumentError, Memory}
use Rattle.class_types.specs.Rules.{Rules}
use Rattle.class_mapping.specs.Mapped.{Mapped, fault_of}
use Rattle.class_mapping.specs.Declaring.{configured_unless, configure}
use Rattle.keeper_core.specs.Alone.{IsOwn, Turned, Turns}
use Rattle.session_scopes.specs.SessionState.{SessionState, new_session}
use Rattle.shell_parts.specs.declared.block.Block.{Block}
use Rattle.shell_parts.specs.Blocks.{IsOfDeclaring, declare}
use Rattle.shell_stage.specs.declared.stage.Stage.{Stage}
use Rattle.shell_stage.specs.declared.stage.Stage.TheVariants.{Declaring, Configured}
use Rattle.shell_stage.specs.Calls.{IsStageTurn}
use Rattle.shell_stage.specs.Stages.{IsKept, IsReady}
use Rattle.shell_stage.specs.Step.{declared_stage, opened_stage, session_stage, stage_over, without_notes}
use Rattle.shell_stage.proofs.Bindings.{none_bound_in}
use Rattle.object_arena.specs.Graph.{Graph}
use Rattle.keeper_core.specs.declared.notes.Note.{Note}
use Rattle.shell_replies.specs.declared.notes.PrintOptions.{PrintOptions}
use Rattle.shell_replies.specs.Notes.{notes_text}

-- ---- what is kept

pub kept_itself : (stage : Stage) → IsKept stage stage
kept_itself stage = record { bound = λ names bound. bound; ready = λ moment ready. ready }

pub kept_same : {old new : Stage} → new ≡ old → IsKept old new
kept_same {old = old} is = subst (IsKept old) (sym is) (kept_itself old)

kept_over : (mapping now : Mapped) → IsKept (Declaring mapping) (Declaring now)
kept_over mapping now = record { bound = λ names bound. bound; ready = λ moment ready. ready }

-- declarations go on
pub kept_declared : {stage after : Stage} {mapping now : Mapped} → stage ≡ Declaring mapping → after ≡ Declaring now → IsKept stage after
kept_declared {stage = stage} {after = after} {mapping = mapping} {now = now} is next =
    subst (λ (s : Stage). IsKept s after) (sym is) (subst (λ (s : Stage). IsKept (Declaring mapping) s) (sym next) (kept_over mapping now))

kept_open : (mapping : Mapped) (session : SessionState) (now : Mapped) → session ≡ new_session now → IsKept (Declaring mapping) (Configured session)
kept_open mapping session now is = record {
  bound = λ names bound. none_bound_in session names bound;
  ready = λ moment ready. subst (λ (s : SessionState). IsReady (Configured s) moment) (sym is) ready;
}

-- a session opens, without objects and scopes
pub kept_opened : {stage after : Stage} {mapping now : Mapped} {session : SessionState} → stage ≡ Declaring mapping → after ≡ Configured session → session ≡ new_session now → IsKept stage after
kept_opened {stage = stage} {after = after} {mapping = mapping} {now = now} {session = session} is next new =
    subst (λ (s : Stage). IsKept s after) (sym is) (subst (λ (s : Stage). IsKept (Declaring mapping) s) (sym next) (kept_open mapping session now new))

-- ---- declarations

-- the mapping took the declaration of a block, or refused it
declares_at : (rules : Rules) (block : Block) (mapping now : Mapped) (r : Result (Unit {0}) Refusal)
    → Takes (λ (u : Unit {0}). tt) (declare rules block.declared mapping) mapping r now → IfErr r IsOfDeclaring → Turns (stage_over (declare rules block.declared mapping)) (Declaring mapping) r (Declaring now)
declares_at rules block mapping now (Ok u) p cause = Turned (ap stage_over p)
declares_at rules block mapping now (Err Memory) p cause = Turned tt
declares_at rules block mapping now (Err (ArgumentError kind)) p cause = Turned (ap stage_over p.1, ap Declaring p.0, (refl, refl))
declares_at rules block mapping now (Err e) p cause = absurd cause

pub declares : (rules : Rules) (block : Block) {stage after : Stage} {mapping now : Mapped} {r : Result (Unit {0}) Refusal}
    → stage ≡ Declaring mapping → after ≡ Declaring now
    → Takes (λ (u : Unit {0}). tt) (declare rules block.declared mapping) mapping r now → IfErr r IsOfDeclaring → Turns (declared_stage rules block stage) stage r after
unfolding declared_stage
declares rules block {stage = stage} {after = after} {mapping = mapping} {now = now} {r = r} is next p cause =
    subst (λ (s : Stage). Turns (declared_stage rules block stage) stage r s) (sym next)
    (subst (λ (s : Stage). Turns (declared_stage rules block s) s r (Declaring now)) (sym is) (declares_at rules block mapping now r p cause))

pub ruleset declaring = (kept_same, kept_declared, declares)

-- ---- the opening

-- declarations are refused for a fault of theirs
closing_refusal : (fault : Option ArgumentKind) (mapping : Mapped) (e : Refusal) → configured_unless fault mapping ≡ Err e → IsOwn e
closing_refusal (Some kind) mapping e is = let same : ArgumentError kind ≡ e = cc in subst IsOwn same (refl, refl)
closing_refusal None mapping e is = absurd (cc)

stays_open : (mapping now : Mapped) (e : Refusal) → now ≡ mapping → Refuses e (configure mapping) → Turns {X = Unit {0}} (opened_stage (Declaring mapping)) (Declaring mapping) (Err e) (Declaring now)
unfolding opened_stage configure
stays_open mapping now Memory back p = Turned tt
stays_open mapping now e back p = Turned (ap session_stage p, ap Declaring back, closing_refusal (fault_of mapping) mapping e p)

-- the declarations were refused, or memory ran out: they are as before
pub not_opened : {stage after : Stage} {mapping now : Mapped} {e : Refusal} → stage ≡ Declaring mapping → after ≡ Declaring now
    → now ≡ mapping → Refuses e (configure mapping) → IsStageTurn {X = Unit {0}} opened_stage stage (Err e) after
not_opened {stage = stage} {after = after} {mapping = mapping} {now = now} {e = e} is next back p =
    subst (λ (s : Stage). IsStageTurn {X = Unit {0}} opened_stage stage (Err e) s) (sym next)
    (subst (λ (s : Stage). IsStageTurn {X = Unit {0}} opened_stage s (Err e) (Declaring now)) (sym is)
    (record { step = stays_open mapping now e back p; kept = kept_over mapping now }))

opens_at : (mapping now : Mapped) → configure mapping ≡ Ok now → Turns {X = Unit {0}} (opened_stage (Declaring mapping)) (Declaring mapping) (Ok tt) (Configured (new_session now))
unfolding opened_stage
opens_at mapping now p = Turned (ap session_stage p)

-- all was checked, and the session is open
pub is_opened : {stage after : Stage} {mapping now : Mapped} {session : SessionState} → stage ≡ Declaring mapping → after ≡ Configured session → session ≡ new_session now
    → configure mapping ≡ Ok now → IsStageTurn {X = Unit {0}} opened_stage stage (Ok tt) after
is_opened {stage = stage} {after = after} {mapping = mapping} {now = now} {session = session} is next new p =
    subst (λ (s : Stage). IsStageTurn {X = Unit {0}} opened_stage stage (Ok tt) s) (sym next)
    (subst (λ (s : Stage). IsStageTurn {X = Unit {0}} opened_stage s (Ok tt) (Configured session)) (sym is)
    (record {
      step = subst (λ (s : SessionState). Turns {X = Unit {0}} (opened_stage (Declaring mapping)) (Declaring mapping) (Ok tt) (Configured s)) (sym new) (opens_at mapping now p);
      kept = kept_open mapping session now new;
    }))

pub ruleset opening = (kept_same, not_opened, is_opened)

-- ---- what was noted is told, and forgotten

-- what the session noted was told
pub notes_put : {E : Type 0} (r : Result (Unit {0}) E) (options : PrintOptions) (line : ℕ) (old new : List ℕ) (mapped own : Mapped) (graph here : Graph) (notes mine : List Note)
    → mapped ≡ own → graph ≡ here → notes ≡ mine → OnOk r (new ≡ old ++ notes_text options line mapped graph notes) → OnOk r (new ≡ old ++ notes_text options line own here mine)
notes_put r options line old new mapped own graph here notes mine same objects noted p =
    subst (λ (m : Mapped). OnOk r (new ≡ old ++ notes_text options line m here mine)) same
    (subst (λ (g : Graph). OnOk r (new ≡ old ++ notes_text options line mapped g mine)) objects
    (subst (λ (n : List Note). OnOk r (new ≡ old ++ notes_text options line mapped graph n)) noted p))

pub forgets : {old new : Stage} {session now : SessionState} → old ≡ Configured session → new ≡ Configured now → now ≡ record session { notes = [] } → new ≡ without_notes old
forgets is next empty = next ∙ ap Configured empty ∙ sym (ap without_notes is)

pub forgets_none : {old new : Stage} {mapping : Mapped} → old ≡ Declaring mapping → new ≡ old → new ≡ without_notes old
forgets_none is next = next ∙ is ∙ sym (ap without_notes is)

kept_by : (stage : Stage) → IsKept stage (without_notes stage)
kept_by (Declaring mapping) = kept_itself (Declaring mapping)
kept_by (Configured session) = record { bound = λ names bound. bound; ready = λ moment ready. ready }

pub kept_without : {old new : Stage} → new ≡ without_notes old → IsKept old new
kept_without {old = old} is = subst (IsKept old) (sym is) (kept_by old)

pub ruleset forgetting = (forgets, forgets_none, kept_without)
