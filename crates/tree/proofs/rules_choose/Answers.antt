use Rattle.tree.proofs.Rules.{first_law, first-is, small_law, small_is}
use Rattle.tree.proofs.rules_choose.Goals as goal

pub returns : goal.returns
returns c = record {
  first_picks = first_law;
  first-is = λ P T x v b. first-is P T b x v;
  small_picks = small_law;
  small_is = λ P T x v b. small_is P T b x v;
}
