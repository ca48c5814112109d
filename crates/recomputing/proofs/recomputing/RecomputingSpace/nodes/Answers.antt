use Rattle.std.proofs.Common.{◌≡◌, ◌+◌, reverse, sym, ap, ◌∙◌, arith}
use Rattle.std.specs.Option.{is_some}
use Rattle.model.specs.Meaning.{means as model-means}
use Rattle.recomputing.proofs.Recomputes.{nodes-counted}
use Rattle.recomputing.proofs.recomputing.RecomputingSpace.nodes.Goals as goal

pub returns-in-Some : goal.returns-in-Some
returns-in-Some g c = λ sd.
    let s = c.args.self.now in
    let e : c.saturating_add.result ≡ s.takes + 1 = let h = c.saturating_add.ensures in let f = sd.most in omega arith in
    e ∙ sym (nodes-counted g.K.Kinds.demands (model-means s.base.model.now) (g.T.DomainTable.sound s.base.table) (g.T.DomainTable.means s.base.table) s.takes (reverse s.path) s.base.top (ap is_some c.in-Some.is) sd.counted)
