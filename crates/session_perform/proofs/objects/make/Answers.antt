use Rattle.std.proofs.Common.{None, Err}
use Rattle.session_calls.specs.Refusals.{IsRefused, fault_in}
use Rattle.session_calls.proofs.Refusing.{passed_on}
use Rattle.session_perform.proofs.Refusing.{made_refused}
use Rattle.class_types.specs.Shown.{rules_of}
use Rattle.session_objects.specs.ValueSteps.{valid_made}
use Rattle.session_perform.proofs.Performed.{makes, makes_not, passed}
use Rattle.session_perform.proofs.objects.make.Goals as goal

pub returns-in_err-object-clause-performed : goal.returns-in_err-object-clause-performed
returns-in_err-object-clause-performed g c =
    passed g.K.Keeper.moment c.from_residual.ensures.1
    (makes_not g.K.Keeper.moment c.args.name c.args.class (valid_made (rules_of c.args.hooks.now) c.args.class c.args.cells.now) c.in_err-object.ensures.step c.in_err-object.ensures.rest c.in_err-object.ensures.stay c.requires.in_step)

pub returns-clause-performed : goal.returns-clause-performed
returns-clause-performed g c =
    makes g.K.Keeper.moment c.args.name c.args.class (valid_made (rules_of c.args.hooks.now) c.args.class c.args.cells.now) c.in_ok-object.ensures.step c.in_ok-object.ensures.rest c.in_ok-object.ensures.made c.in_ok-object.ensures.stay c.requires.class c.requires.in_step

pub returns-in_err-object-clause-refused : goal.returns-in_err-object-clause-refused
returns-in_err-object-clause-refused g c =
    let run = valid_made (rules_of c.args.hooks.now) c.args.class c.args.cells.now c.args.session.now in
    passed_on (λ e. IsRefused (fault_in run.answer) None c.args.session.now e c.make_valid.new.session) c.from_residual.result c.from_residual.ensures.1
    (made_refused run c.args.session.now c.make_valid.new.session (Err c.in_err-object.field-0.0) c.in_err-object.ensures.step c.in_err-object.ensures.err)
