use Rattle.bits.specs.Bit.{has}
use Rattle.model.specs.Reading.{among}
use Rattle.model.specs.Meaning.{records}
use Rattle.filtering.specs.Filters.{NamesSome}
use Rattle.filtering.proofs.filter.naming_some.Given as goal

abbrev pub invariant-loop-x : goal.invariant-loop-x
invariant-loop-x l = NamesSome (records l.model) (λ x. among x l.yielded) (has l.found.word)
