use Rattle.std.proofs.Common.{◌≡◌, ℕ, true, false, length, nat_eq, Some, Option, sym, ◌∙◌, subst}
use Rattle.std.specs.Option.{option_eq}
use Rattle.std.proofs.lemmas.Bool.{eq-eqb, ne_eqb}
use Rattle.model.specs.Meaning.{windows, records}
use Rattle.std.specs.List.{slice_get}
use Rattle.kinds.specs.Demands.{Demand}
use Rattle.kinds.specs.Passes.{Passes}
use Rattle.bank.specs.Banks.{by_kind, by_others}
use Rattle.bank.proofs.bank.BankKinds.pass.Goals as goal

pub returns-then-number-NUMBER : goal.returns-then-number-NUMBER
returns-then-number-NUMBER g c = λ sd.
    let m = c.args.model.now in
    let s = g.T.DomainTable.means c.args.table.now in
    let k = g.K.Kind.NUMBER in
    let did = c.pass.ensures sd in
    let o = slice_get (records m) c.args.item in
    let is = subst (λ (n : Option ℕ). option_eq nat_eq n (Some k) ≡ true) c.in-Some.ensures (eq-eqb c.in-Some.number k (c.if-number-NUMBER.true ∙ c.NUMBER.ensures)) in
    (subst (λ (A : Demand). Passes (length (windows m)) A s (g.T.DomainTable.means c.pass.new.table) c.pass.result) (by_kind k g.K.Kind.stable g.K.Kind.meets g.R.Kinds.demands s.width o is) did.0, did.1)

pub returns-else-number-NUMBER : goal.returns-else-number-NUMBER
returns-else-number-NUMBER g c = λ sd.
    let m = c.args.model.now in
    let s = g.T.DomainTable.means c.args.table.now in
    let k = g.K.Kind.NUMBER in
    let did = c.pass-else-number-NUMBER.ensures sd in
    let o = slice_get (records m) c.args.item in
    let is = subst (λ (n : Option ℕ). option_eq nat_eq n (Some k) ≡ false) c.in-Some.ensures (ne_eqb c.in-Some.number k (λ e. c.if-number-NUMBER.false (e ∙ sym c.NUMBER.ensures))) in
    (subst (λ (A : Demand). Passes (length (windows m)) A s (g.T.DomainTable.means c.pass-else-number-NUMBER.new.table) c.pass-else-number-NUMBER.result) (by_others k g.K.Kind.stable g.K.Kind.meets g.R.Kinds.demands s.width o is) did.0, did.1)
