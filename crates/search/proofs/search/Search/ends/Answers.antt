use Rattle.std.proofs.Common.{ℕ, leb, sym, ap, ◌∙◌}
use Rattle.search.proofs.Steps.{open_left, closed_left}
use Rattle.search.proofs.search.Search.ends.Goals as goal

pub returns-in-Open : goal.returns-in-Open
returns-in-Open g c = λ o se.
    let s = c.args.self.now in
    let means = g.P.Space.means in
    sym (open_left means g.P.Space.sound g.R.Rule.picks s se o (g.P.Space.laws s.space o.part).lawful (g.R.Rule.lawful s.rule (means s.space).problem) (sym c.is_fresh.ensures ∙ c.if-is_fresh.false) (c.in-Open.ensures o.part))

pub returns-in_default : goal.returns-in_default
returns-in_default g c = λ o se.
    let s = c.args.self.now in
    let means = g.P.Space.means in
    ap (λ (n : ℕ). leb n 1) (c.nodes.ensures o.part) ∙ closed_left means g.P.Space.sound g.R.Rule.picks s se o (g.P.Space.laws s.space o.part).lawful (g.R.Rule.lawful s.rule (means s.space).problem) c.state.result (sym c.is_fresh.ensures ∙ c.if-is_fresh.false) (c.state.ensures o.part) c.in_default.not-Open
