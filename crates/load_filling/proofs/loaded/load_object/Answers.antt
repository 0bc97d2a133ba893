use Rattle.load_filling.proofs.LoadedLemmas.{grows_loaded, grows_same, load_is, loaded_rooted, made_free, made_loaded}
use Rattle.load_filling.proofs.loaded.load_object.Goals as goal

pub settle-requires-clause-free : goal.settle-requires-clause-free
settle-requires-clause-free c =
    made_free c.args.mapping.now c.args.class c.args.key c.args.arena.now c.make.new.self c.in_ok-object.object c.count-count.ensures.graph.rooted c.requires.free
    c.in_ok-object.ensures.step c.in_ok-object.ensures.made

pub returns-clause-made : goal.returns-clause-made
returns-clause-made c =
    made_loaded c.args.mapping.now c.args.class c.args.key c.args.arena.now c.make.new.self c.settle.new.arena c.expire.new.self c.in_ok-object.object
    c.in_ok-object.ensures.step c.in_ok-object.ensures.made c.settle.ensures.settled c.expire.ensures.expired

pub returns-clause-step : goal.returns-clause-step
returns-clause-step c =
    load_is c.args.mapping.now c.args.class c.args.key c.args.arena.now c.make.new.self c.expire.new.self c.in_ok-object.object c.in_ok-object.ensures.room c.in_ok-object.ensures.step
    (made_loaded c.args.mapping.now c.args.class c.args.key c.args.arena.now c.make.new.self c.settle.new.arena c.expire.new.self c.in_ok-object.object
    c.in_ok-object.ensures.step c.in_ok-object.ensures.made c.settle.ensures.settled c.expire.ensures.expired)

pub returns-clause-rooted : goal.returns-clause-rooted
returns-clause-rooted c =
    loaded_rooted c.args.mapping.now c.args.class c.args.key c.args.arena.now c.make.new.self c.expire.new.self c.in_ok-object.object c.count-count.ensures.graph.rooted c.in_ok-object.ensures.step
    (returns-clause-made c)

pub returns-clause-grows : goal.returns-clause-grows
returns-clause-grows c = grows_loaded c.args.mapping.now c.args.class c.args.key c.args.arena.now c.expire.new.self (returns-clause-made c)

pub returns-in_err-object-clause-grows : goal.returns-in_err-object-clause-grows
returns-in_err-object-clause-grows c = grows_same c.args.arena.now c.make.new.self c.in_err-object.ensures.step.0
