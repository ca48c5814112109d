use Rattle.std.proofs.Common.{eqb, sym, ap, ◌∙◌}
use lib.Bits.{bit_and}
use Rattle.std.proofs.lemmas.Bool.{eqb-true, eqb-false, not-true, not-false, and_parts}
use Rattle.bits.specs.Bit.{has}
use Rattle.bits.proofs.Digits.{has-zero, has-and, some_member}
use Rattle.bits.proofs.Set.meets.Goals as goal

pub returns : goal.returns
returns c =
    let a = c.args.self.word in
    let b = c.args.other.word in
    record {
      common = λ e.
          let p = some_member (bit_and a b) (eqb-false (bit_and a b) 0 (not-true (eqb (bit_and a b) 0) e)) in
          let q = and_parts (has a p.0) (has b p.0) (sym (has-and a b p.0) ∙ p.1) in
          (p.0, q.0, q.1);
      apart = λ e u. sym (has-and a b u) ∙ ap (λ m. has m u) (eqb-true (bit_and a b) 0 (not-false (eqb (bit_and a b) 0) e)) ∙ has-zero u;
    }
