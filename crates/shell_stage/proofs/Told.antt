-- What is told of an answer of the session.
use Rattle.std.proofs.Common.{ℕ, ◌≡◌, sym, subst}
use Rattle.class_mapping.specs.Mapped.{Mapped}
use Rattle.object_arena.specs.Graph.{Graph}
use Rattle.session_scopes.specs.SessionState.{SessionState}
use Rattle.command_resolve.specs.declared.answer.Answer.{Answer}
use Rattle.command_resolve.specs.declared.answer.Answer.TheVariants as answer
use Rattle.command_resolve.specs.Standing.{IsAnswer}
use Rattle.shell_replies.specs.Answers.{CanBeTold}
use Rattle.shell_stage.specs.declared.stage.Stage.{Stage}
use Rattle.shell_stage.specs.declared.stage.Stage.TheVariants.{Declaring, Configured}
use Rattle.shell_stage.specs.Stages.{IsAnswerAt}

pub can_be_told : (mapped : Mapped) (graph : Graph) (drawn : ℕ) (it : Answer) → IsAnswer mapped graph drawn it → CanBeTold mapped it
can_be_told mapped graph drawn (answer.Tables tables) is = is
can_be_told mapped graph drawn other is = tt

-- the session can tell it
pub tellable : {stage : Stage} {session : SessionState} (mapped : Mapped) (it : Answer) → stage ≡ Configured session → mapped ≡ session.mapping → IsAnswerAt stage it → CanBeTold mapped it
tellable {session = session} mapped it at same is =
    subst (λ (m : Mapped). CanBeTold m it) (sym same) (can_be_told session.mapping session.graph session.drawn.drawn it (subst (λ (s : Stage). IsAnswerAt s it) at is))

-- before there is one, there is no answer
pub untold : {stage : Stage} {mapping : Mapped} {A : Type 0} (it : Answer) → stage ≡ Declaring mapping → IsAnswerAt stage it → A
untold it at is = absurd (subst (λ (s : Stage). IsAnswerAt s it) at is)
