use Rattle.std.proofs.Common.{◌≡◌, ℕ, ◌&&◌, List, get_or, sym, ap, ◌∙◌, arith, rules}
use Rattle.std.specs.Slice.Iter.{chunks_exact_rest}
use Rattle.bits.specs.Bit.{has}
use Rattle.model.specs.Reading.{variables_in, is_named_once}
use Rattle.model.proofs.Fronts.{next_variable, none}
use Rattle.model.proofs.Scanning.{is_fresh, named-next, named_beyond, named_again, named_start}
use Rattle.model.proofs.scan.named_once.Goals as goal
use Rattle.model.proofs.scan.named_once.Goals.{then-x-variables-via-then-x-variables, then-x-variables-via-else-x-variables+then-has}

pub loop-entry-init : goal.loop-entry-init
loop-entry-init c =
    let e = c.args.entries.now in
    let r : chunks_exact_rest c.into_iter-entry-iterator.result ≡ e.bytes.now = search rules in
    record {
      size = search rules;
      left = e.count;
      whole = search rules;
      named = named_start c.args.variables (has c.empty-seen.result.word) _ _ c.empty-seen.ensures (ap (variables_in e.each e.count) r);
    }

pub returns-then-x-variables : goal.returns-then-x-variables
returns-then-x-variables c =
    let e = c.args.entries.now in
    let i = c.loop-entry.invariant in
    let s = c.in-Some.ensures.steps.1 in
    let q = next_variable e.each e.some i.left _ _ _ i.whole s.0 (s.1 ∙ i.size) in
    let n = c.args.variables in
    let seen = has c.loop-entry.seen.word in
    let x = get_or c.in-Some.entry.now 0 0 in
    let rest = variables_in e.each q.left (chunks_exact_rest c.next.new.self) in
    let m = ap (λ (xs : List ℕ). is_fresh seen xs && is_named_once n xs) q.reads in
    elim c.then-x-variables.branch [
      | then-x-variables-via-then-x-variables w ↦ sym (m ∙ named_beyond n seen x rest w.if-x-variables.true) ∙ i.named
      | then-x-variables-via-else-x-variables+then-has w ↦ sym (m ∙ named_again n seen x rest (sym w.has.ensures ∙ w.if-has.true)) ∙ i.named
    ]

pub loop-entry-preserved : goal.loop-entry-preserved
loop-entry-preserved c =
    let e = c.args.entries.now in
    let i = c.loop-entry.invariant in
    let s = c.in-Some.ensures.steps.1 in
    let q = next_variable e.each e.some i.left _ _ _ i.whole s.0 (s.1 ∙ i.size) in
    let n = c.args.variables in
    let seen = has c.loop-entry.seen.word in
    let x = get_or c.in-Some.entry.now 0 0 in
    let rest = variables_in e.each q.left (chunks_exact_rest c.next.new.self) in
    let m = ap (λ (xs : List ℕ). is_fresh seen xs && is_named_once n xs) q.reads in
    record {
      size = c.in-Some.ensures.steps.0 ∙ i.size;
      left = q.left;
      whole = q.whole;
      named = sym (m ∙ named-next n seen x rest (has c.with-seen.result.word) (c.with-seen.ensures.within (omega arith)) c.if-x-variables.false (sym c.has.ensures ∙ c.if-has.false)) ∙ i.named;
    }

pub returns : goal.returns
returns c =
    let e = c.args.entries.now in
    let i = c.loop-entry.invariant in
    let z = none e.each e.some i.left _ i.whole (omega (arith, c.in-None.ensures.steps.1.0, i.size)) in
    let all = λ (k : ℕ). variables_in e.each k (chunks_exact_rest c.loop-entry.entry-iterator) in
    sym (ap (λ (k : ℕ). is_fresh (has c.loop-entry.seen.word) (all k) && is_named_once c.args.variables (all k)) z) ∙ i.named
