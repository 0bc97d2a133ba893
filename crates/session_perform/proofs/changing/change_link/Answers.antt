use Rattle.std.proofs.Common.{subst}
use Rattle.keeper_core.specs.Programs.{Run}
use Rattle.session_calls.specs.Calling.{IsSessionCall}
use Rattle.session_calls.specs.Parts.{World}
use Rattle.session_perform.proofs.LinkCalls.{append_is, append_why, remove_is, remove_why, set_is, set_why}
use Rattle.session_perform.proofs.changing.change_link.Goals as goal

pub returns-in-Set-clause-call : goal.returns-in-Set-clause-call
returns-in-Set-clause-call g c =
    subst (λ (m : World → Run World (Unit {0})). IsSessionCall g.K.Keeper.moment (λ (u : Unit {0}). u) m (c.args.session.now, c.args.keeper.now) c.change_link.result (c.change_link.new.session, c.change_link.new.keeper))
    (set_is c.args.owner c.args.relation c.args.call _ c.in-Set.is) c.change_link.ensures.call

pub returns-in-Set-clause-refused : goal.returns-in-Set-clause-refused
returns-in-Set-clause-refused g c = λ rules.
    set_why c.args.owner c.args.relation rules c.args.session.now c.change_link.new.session (g.K.Keeper.moment c.args.keeper.now) (g.K.Keeper.moment c.change_link.new.keeper) c.change_link.result c.args.call _ c.in-Set.is c.change_link.ensures.refused

pub returns-in-Append-clause-call : goal.returns-in-Append-clause-call
returns-in-Append-clause-call g c =
    subst (λ (m : World → Run World (Unit {0})). IsSessionCall g.K.Keeper.moment (λ (u : Unit {0}). u) m (c.args.session.now, c.args.keeper.now) c.change_collection.result (c.change_collection.new.session, c.change_collection.new.keeper))
    (append_is c.args.owner c.args.relation c.args.call _ c.in-Append.is) c.change_collection.ensures.call

pub returns-in-Append-clause-refused : goal.returns-in-Append-clause-refused
returns-in-Append-clause-refused g c = λ rules.
    append_why c.args.owner c.args.relation rules c.args.session.now c.change_collection.new.session (g.K.Keeper.moment c.args.keeper.now) (g.K.Keeper.moment c.change_collection.new.keeper) c.change_collection.result c.args.call _ c.in-Append.is c.change_collection.ensures.refused

pub returns-in-Remove-clause-call : goal.returns-in-Remove-clause-call
returns-in-Remove-clause-call g c =
    subst (λ (m : World → Run World (Unit {0})). IsSessionCall g.K.Keeper.moment (λ (u : Unit {0}). u) m (c.args.session.now, c.args.keeper.now) c.change_collection-in-Remove.result (c.change_collection-in-Remove.new.session, c.change_collection-in-Remove.new.keeper))
    (remove_is c.args.owner c.args.relation c.args.call _ c.in-Remove.is) c.change_collection-in-Remove.ensures.call

pub returns-in-Remove-clause-refused : goal.returns-in-Remove-clause-refused
returns-in-Remove-clause-refused g c = λ rules.
    remove_why c.args.owner c.args.relation rules c.args.session.now c.change_collection-in-Remove.new.session (g.K.Keeper.moment c.args.keeper.now) (g.K.Keeper.moment c.change_collection-in-Remove.new.keeper) c.change_collection-in-Remove.result c.args.call _ c.in-Remove.is c.change_collection-in-Remove.ensures.refused
