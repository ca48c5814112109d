use Rattle.tree.proofs.Plans.{sound, complete, apart, ordered}
use Rattle.tree.proofs.plans_are_all.Goals as goal

pub returns : goal.returns
returns c = λ P R D t laws picks b h. record {
  sound = λ a l. sound P R laws picks t D a b h l;
  complete = λ a s. complete P R laws picks t D a b h s;
  apart = apart P R laws picks t D b h;
  ordered = ordered P R laws picks t D b h;
}
