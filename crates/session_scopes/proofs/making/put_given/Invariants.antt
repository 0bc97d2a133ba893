use Rattle.std.proofs.Common.{◌≡◌, None}
use Rattle.std.specs.List.{All}
use Rattle.std.specs.Vec.Iter.{into_iter_items}
use Rattle.class_mapping.specs.Mapped.{IsAttribute}
use Rattle.object_arena.specs.Every.{classes_of}
use Rattle.object_arena.specs.Fit.{IsFit}
use Rattle.object_arena.specs.Graph.{IsObject, object_at}
use Rattle.session_scopes.specs.Making.{first_given_fault, with_given}
use Rattle.session_scopes.proofs.making.put_given.Given as goal

abbrev pub invariant-loop-attr : goal.invariant-loop-attr
invariant-loop-attr l =
    (goal.iterator-loop-attr).can_next l.attr-iterator × (goal.iterator-loop-attr).is_finite l.attr-iterator
    × (with_given l.arena l.object (into_iter_items l.attr-iterator) ≡ with_given l.fn.arena l.object l.fn.given.items)
    × IsObject l.arena l.object
    × IsFit l.mapping l.arena
    × (classes_of l.arena ≡ classes_of l.fn.arena)
    × All (λ one. IsAttribute l.mapping (object_at l.fn.arena l.object).class one.0) (into_iter_items l.attr-iterator)
    × (first_given_fault l.mapping (object_at l.fn.arena l.object).class (into_iter_items l.attr-iterator) ≡ None)
