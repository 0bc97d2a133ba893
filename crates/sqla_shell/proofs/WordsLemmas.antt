-- What words make of a run.
use Rattle.std.proofs.Common.{◌≡◌, Option, Some, inr, refl, ap, ◌∙◌, subst}
use Rattle.schema_core.specs.Tables.{Tables}
use Rattle.class_types.specs.Rules.{Rules}
use Rattle.program_words.specs.declared.options.Options.{Options}
use Rattle.keeper_core.specs.declared.target.Target.{Target}
use Rattle.keeper_core.specs.Moment.{Moment}
use Rattle.keeper_core.specs.Store.{Store}
use Rattle.sqla_shell.specs.Outcome.{IsReference}
use Rattle.sqla_shell.specs.Seen.{Seen}
use Rattle.sqla_shell.specs.Words.{IsGiven, IsRun, print_options}
use Rattle.sqla_shell.specs.declared.status.Status.{Status}

one_asked : (told : Option Options) (one other : Options) → told ≡ Some one → told ≡ Some other → one ≡ other
one_asked told one other is also = cc

-- the run is that of what the words ask for
pub run_as_asked : (rules : Rules) (opening : Target → Option Tables) (told : Option Options) (one : Options) (old : Seen) (end : Status) (new : Seen) → told ≡ Some one
    → IsReference (print_options one) rules one.target (opening one.target) old end new → (options : Options) → told ≡ Some options → IsRun options rules opening old end new
run_as_asked rules opening told one old end new is run options also =
    inr (subst (λ (o : Options). IsReference (print_options o) rules o.target (opening o.target) old end new) (one_asked told one options is also) run)

-- the keeper was given the target that they name
pub given_as_asked : (told : Option Options) (one : Options) (old : Moment Store) (end : Status) (new : Moment Store) → told ≡ Some one → new.target ≡ Some one.target
    → (options : Options) → told ≡ Some options → IsGiven old options.target end new
given_as_asked told one old end new is given options also = inr (given ∙ ap (λ (o : Options). Some o.target) (one_asked told one options is also))
