use Rattle.std.proofs.Common.{ℕ, [], ◌∷◌, ◌++◌, sym, ap, ◌∙◌, arith}
use Rattle.std.proofs.lemmas.List.{append-nil, append_assoc}
use Rattle.std.specs.Slice.Iter.{chunks_exact_rest}
use Rattle.model.specs.Reading.{entries_in}
use Rattle.model.specs.Fronts.{ReadsFront}
use Rattle.model.proofs.Fronts.{next, none}
use Rattle.model.proofs.fill.fill.Goals as goal

pub push-requires : goal.push-requires
push-requires g c =
    let e = c.args.entries.now in
    let i = c.loop-entry.invariant in
    let s = c.in-Some.ensures.steps.1 in
    let front : ReadsFront e.each g.E.Entry.read = λ xs ys l. g.E.Entry.front xs ys (l ∙ c.requires.0) in
    let q = next g.E.Entry.read e.each e.some front i.left _ _ _ i.whole s.0 (s.1 ∙ i.size) in
    omega (arith, i.room, q.is)

pub loop-entry-preserved : goal.loop-entry-preserved
loop-entry-preserved g c =
    let e = c.args.entries.now in
    let i = c.loop-entry.invariant in
    let s = c.in-Some.ensures.steps.1 in
    let front : ReadsFront e.each g.E.Entry.read = λ xs ys l. g.E.Entry.front xs ys (l ∙ c.requires.0) in
    let q = next g.E.Entry.read e.each e.some front i.left _ _ _ i.whole s.0 (s.1 ∙ i.size) in
    let old = c.loop-entry.items.items in
    let rest = entries_in g.E.Entry.read e.each q.left (chunks_exact_rest c.next.new.self) in
    record {
      size = c.in-Some.ensures.steps.0 ∙ i.size;
      left = q.left;
      whole = q.whole;
      room = omega (arith, i.room, q.is, c.push.ensures.len);
      read =
          ap (λ xs. xs ++ rest) c.push.ensures.items
          ∙ append_assoc old (c.read.result ∷ []) rest
          ∙ ap (λ x. old ++ (x ∷ rest)) c.read.ensures
          ∙ ap (λ xs. old ++ xs) (sym q.reads)
          ∙ i.read;
    }

pub returns : goal.returns
returns g c =
    let e = c.args.entries.now in
    let i = c.loop-entry.invariant in
    let z = none e.each e.some i.left _ i.whole (omega (arith, c.in-None.ensures.steps.1.0, i.size)) in
    let items = c.loop-entry.items.items in
    sym (ap (λ (k : ℕ). items ++ entries_in g.E.Entry.read e.each k (chunks_exact_rest c.loop-entry.entry-iterator)) z ∙ append-nil items) ∙ i.read
