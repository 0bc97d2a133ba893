use Rattle.std.proofs.Common.{◌∙◌, List, refl, rules}
use Rattle.std.specs.List.{All}
use Rattle.std.proofs.lemmas.List.{drop_all}
use Rattle.base_core.specs.declared.ids.ClassId.{ClassId}
use Rattle.load_rows.specs.Loading.{loading}
use Rattle.joined_rows.specs.Taking.{IsTaken}
use Rattle.load_queries.proofs.FillSteps.{option_done, options_done, options_start, owners_stay, still_said, taken_give}
use Rattle.load_queries.proofs.filling.fill_options.Goals as goal

pub loop-number-init : goal.loop-number-init
loop-number-init c = record {
  step = options_start c.args.mapping.now c.args.class c.args.parts.now c.args.taken.now c.args.owners.now (loading c.args.arena.now c.args.notes.now);
  fits = c.requires.fit;
  classes = refl;
}

pub fill_option-requires-clause-of : goal.fill_option-requires-clause-of
fill_option-requires-clause-of c =
    taken_give c.args.mapping.now c.loop-number.arena.roots c.args.class c.args.parts.now c.args.taken.now c.loop-number.number _
    (still_said (λ (roots : List ClassId). All (IsTaken c.args.mapping.now roots c.args.class c.args.parts.now) c.args.taken.now) c.args.arena.now c.loop-number.arena c.loop-number.invariant.classes c.requires.taken) c.loop-number-test.true (search rules)

pub fill_option-requires-clause-owners : goal.fill_option-requires-clause-owners
fill_option-requires-clause-owners c = owners_stay c.args.mapping.now c.args.arena.now c.loop-number.arena c.args.class c.args.owners.now c.loop-number.invariant.classes c.requires.owners

pub returns-in_err-fill_option-clause-classes : goal.returns-in_err-fill_option-clause-classes
returns-in_err-fill_option-clause-classes c = c.in_err-fill_option.ensures.classes ∙ c.loop-number.invariant.classes

pub loop-number-preserved : goal.loop-number-preserved
loop-number-preserved c = record {
  step =
      option_done c.args.mapping.now c.args.class c.args.parts.now c.args.taken.now c.args.owners.now (loading c.args.arena.now c.args.notes.now) (loading c.loop-number.arena c.loop-number.notes) (loading c.fill_option.new.arena c.fill_option.new.notes)
      c.loop-number.number _ c.loop-number.invariant.step c.loop-number-test.true (search rules) c.in_ok-fill_option.ensures.step;
  fits = c.in_ok-fill_option.ensures.fits;
  classes = c.in_ok-fill_option.ensures.classes ∙ c.loop-number.invariant.classes;
}

pub returns-clause-step : goal.returns-clause-step
returns-clause-step c =
    options_done c.args.mapping.now c.args.class c.args.parts.now c.args.taken.now c.args.owners.now (loading c.args.arena.now c.args.notes.now) (loading c.loop-number.arena c.loop-number.notes) c.loop-number.number c.loop-number.invariant.step
    (drop_all c.loop-number.number c.args.parts.now c.loop-number-test.false)
