use Rattle.std.proofs.Common.{◌^◌, ◌<◌, eqb, sym, ap, ◌∙◌, rules}
use Rattle.std.proofs.lemmas.Bool.{le-ltb}
use Rattle.bits.proofs.Digits.{shifted_bit, has-past}
use Rattle.bits.proofs.Set.has.Goals as goal

pub returns-then-v-lt64 : goal.returns-then-v-lt64
returns-then-v-lt64 c = ap (λ d. eqb d 1) (shifted_bit c.args.v c.args.self.word)

pub returns-else-v-lt64 : goal.returns-else-v-lt64
returns-else-v-lt64 c =
    let fits : c.args.self.word < 2 ^ 64 = search rules in
    le-ltb c.args.v 64 c.if-v-lt64.false ∙ sym (has-past 64 c.args.self.word c.args.v fits c.if-v-lt64.false)
