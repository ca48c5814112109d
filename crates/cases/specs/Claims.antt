-- What a case claims, with its slices as lists. Assumes nothing.
use Rattle.std.specs.Prelude.{ℕ, List}
use Rattle.model.specs.declared.values.Window.{Window}
use Rattle.search.specs.declared.search.Answer.{Answer}
use Rattle.cases.specs.declared.Claim.{Claim}
use Rattle.cases.specs.declared.Claim.TheVariants.{Trail, Copies, Refused, Tree, Calls}

pub data Claimed : Type 0 where
  -- a trail of so many cells and entries has this depth; with as many marks standing the next is refused with this number
  trail : (cells entries depth number : ℕ) → Claimed
  -- a store of copies of so many cells and words has this depth
  copies : (cells words depth : ℕ) → Claimed
  -- these bytes are refused with this number at this place
  refused : (bytes : List ℕ) (number place : ℕ) → Claimed
  -- the tree of the model of these bytes has this root, these plans (one after another) and so many nodes
  tree : (bytes : List ℕ) (root : List Window) (plans : List ℕ) (nodes : ℕ) → Claimed
  -- calls with this budget, one after another, answer this
  calls : (bytes : List ℕ) (budget : ℕ) (answers : List Answer) → Claimed

abbrev pub claimed : Claim → Claimed
claimed (Trail cells entries depth number) = trail cells entries depth number
claimed (Copies cells words depth) = copies cells words depth
claimed (Refused bytes number place) = refused bytes.now number place
claimed (Tree bytes root plans nodes) = tree bytes.now root.now plans.now nodes
claimed (Calls bytes budget answers) = calls bytes.now budget answers.now
