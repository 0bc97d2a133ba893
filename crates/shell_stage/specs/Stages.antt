-- What a stage keeps, and how a keeper stands beside it.
use Rattle.std.specs.Prelude.{◌≡◌, true, []}
use Rattle.class_mapping.specs.Mapped.{Mapped}
use Rattle.keeper_core.specs.Moment.{Moment}
use Rattle.keeper_core.specs.Store.{Store}
use Rattle.session_scopes.specs.SessionState.{IsInStep}
use Rattle.command_resolve.specs.declared.answer.Answer.{Answer}
use Rattle.command_names.specs.Standing.{AreOfDeclared, AreThere}
use Rattle.command_resolve.specs.Standing.{IsAnswer}
use Rattle.command_names.specs.Terms.{Bindings}
use Rattle.shell_stage.specs.declared.stage.Stage.{Stage}
use Rattle.shell_stage.specs.declared.stage.Stage.TheVariants.{Declaring, Configured}

-- the mapping that is declared, or that of the session
abbrev pub mapping_of : Stage → Mapped
mapping_of (Declaring mapping) = mapping
mapping_of (Configured session) = session.mapping

-- What every shell keeps. Before there is a session no name is bound. From then on what names stand for is there in the session, and
-- their objects are of declared classes.
abbrev pub AreBound : Stage → Bindings → Type 0
AreBound (Declaring mapping) names = names ≡ []
AreBound (Configured session) names = AreThere session.graph session.drawn.drawn names × AreOfDeclared session.mapping names

-- what is to be bound or shown is there in the session
abbrev pub IsAnswerAt : Stage → Answer → Type 0
IsAnswerAt (Declaring mapping) answer = ⊥
IsAnswerAt (Configured session) answer = IsAnswer session.mapping session.graph session.drawn.drawn answer

-- the keeper took its target and is in step with the session; before there is a session it has no scope
abbrev pub IsReady : {W : Type 0} → Stage → Moment W → Type 0
IsReady (Declaring mapping) moment = (moment.attached ≡ true) × (moment.depth ≡ 0)
IsReady (Configured session) moment = IsInStep session moment

-- What the declarations of a shell keep, and the opening of its session: what was bound is bound still, and a keeper that was
-- ready is so still.
pub record IsKept (old new : Stage) : Type 0 where
  pub bound : (names : Bindings) → AreBound old names → AreBound new names
  pub ready : (moment : Moment Store) → IsReady old moment → IsReady new moment
