-- What the moves of a space do to what is still to visit.
use Rattle.std.proofs.Common.{◌≡◌, ℕ, true, List, [], ◌∷◌, ◌++◌, Some, Option, sym, ap, ◌∙◌}
use Rattle.std.proofs.lemmas.List.{append_assoc, append-nil}
use Rattle.tree.specs.Tables.{Table, kept, dropped}
use Rattle.tree.specs.Filter.{Problem, Lawful, Bounded, Node, table, NodeOf}
use Rattle.tree.specs.Search.{Rule, Picks, Visit, nodes}
use Rattle.tree.specs.Find.{node, tree, visit, under, parts}
use Rattle.tree.proofs.Exists.{node-is}
use Rattle.tree.proofs.Filter.{node_unique}
use Rattle.tree.proofs.Trees.{nodes-under}
use Rattle.search.specs.Remaining.{rights, later, remaining}

module _ (P : Problem) (R : Rule) (laws : Lawful P) (picks : Picks P R) where
  -- the nodes of a tree whose root is N
  pub nodes-from : (D : Table) (N : Node) → Bounded P D → NodeOf P D N → nodes (tree P R D) ≡ visit P R N ∷ under P R N
  nodes-from D N b h = nodes-under P R laws picks D b ∙ ap (λ (M : Node). visit P R M ∷ under P R M) (node_unique P D (node P D) N (node-is P laws D b) h)

  pub entered : (D : Table) (N : Node) → Bounded P D → NodeOf P D N → remaining P R true (N ∷ []) [] ≡ nodes (tree P R D)
  entered D N b h = ap (λ (vs : List Visit). visit P R N ∷ vs) (append-nil (under P R N)) ∙ sym (nodes-from D N b h)

  -- a take by the rule goes to the first node under the top
  pub took : (T : Table) (N : Node) (p : List Node) (cs : List (ℕ × ℕ)) (c : ℕ × ℕ) → Bounded P (kept c.0 c.1 T) → R T ≡ Some c → NodeOf P (kept c.0 c.1 T) N → later P R (table T ∷ p) cs ≡ visit P R N ∷ later P R (N ∷ table T ∷ p) (c ∷ cs)
  took T N p cs c b e h =
      let right = nodes (tree P R (dropped c.0 c.1 T)) in
      ap (λ (o : Option (ℕ × ℕ)). parts P R T o ++ rights P R p cs) e
      ∙ ap (λ (vs : List Visit). (vs ++ right) ++ rights P R p cs) (nodes-from (kept c.0 c.1 T) N b h)
      ∙ ap (λ (vs : List Visit). visit P R N ∷ vs) (append_assoc (under P R N) right (rights P R p cs))

  -- a turn goes to the part to the right of the newest take
  pub turned : (M N : Node) (T : Table) (p : List Node) (c : ℕ × ℕ) (cs : List (ℕ × ℕ)) → under P R M ≡ [] → Bounded P (dropped c.0 c.1 T) → NodeOf P (dropped c.0 c.1 T) N → later P R (M ∷ table T ∷ p) (c ∷ cs) ≡ visit P R N ∷ later P R (N ∷ p) cs
  turned M N T p c cs e b h =
      ap (λ (vs : List Visit). vs ++ (nodes (tree P R (dropped c.0 c.1 T)) ++ rights P R p cs)) e
      ∙ ap (λ (vs : List Visit). vs ++ rights P R p cs) (nodes-from (dropped c.0 c.1 T) N b h)
