use Rattle.tree.proofs.Examples.{two_apart-lawful, apart_bounded, two_in_order-lawful, order_bounded}
use Rattle.tree.proofs.examples_are_lawful.Goals as goal

pub returns : goal.returns
returns c = record { apart = two_apart-lawful; apart_bounded = apart_bounded; order = two_in_order-lawful; order_bounded = order_bounded }
