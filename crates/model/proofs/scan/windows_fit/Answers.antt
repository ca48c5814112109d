use Rattle.std.proofs.Common.{ℕ, ◌<◌, ◌≤◌, ◌⊎◌, sym, ap, ◌∙◌, ⊎_elim, arith, rules}
use Rattle.std.specs.Slice.Iter.{chunks_exact_rest}
use Rattle.model.specs.Fronts.{window_front}
use Rattle.model.specs.Reading.{entries_in, window_at, windows_in, do_windows_fit}
use Rattle.model.proofs.Fronts.{next}
use Rattle.model.proofs.Scanning.{window_passes, window_empty, window_beyond}
use Rattle.model.proofs.scan.windows_fit.Goals as goal

pub loop-window-preserved : goal.loop-window-preserved
loop-window-preserved c =
    let i = c.loop-window.invariant in
    let s = c.in-Some.ensures.steps.1 in
    let q = next window_at 2 (omega arith) window_front i.left _ _ _ i.whole s.0 (s.1 ∙ i.size) in
    let ws = windows_in q.left (chunks_exact_rest c.next.new.self) in
    record {
      size = c.in-Some.ensures.steps.0 ∙ i.size;
      left = q.left;
      whole = q.whole;
      fit = sym (ap do_windows_fit q.reads ∙ window_passes (window_at c.in-Some.window.now) ws c.if-low-high.false (omega arith)) ∙ i.fit;
    }

pub returns-then-low-high : goal.returns-then-low-high
returns-then-low-high c =
    let i = c.loop-window.invariant in
    let s = c.in-Some.ensures.steps.1 in
    let q = next window_at 2 (omega arith) window_front i.left _ _ _ i.whole s.0 (s.1 ∙ i.size) in
    let w = window_at c.in-Some.window.now in
    let ws = windows_in q.left (chunks_exact_rest c.next.new.self) in
    let all = c.args.windows.now in
    let f = i.fit ∙ ap (λ (k : ℕ). do_windows_fit (entries_in window_at k all.count all.bytes.now)) (sym c.requires) in
    let which : (w.high ≤ w.low) ⊎ (64 < w.high) = search rules in
    ⊎_elim
    (λ e. sym (ap do_windows_fit q.reads ∙ window_empty w ws e) ∙ f)
    (λ e. sym (ap do_windows_fit q.reads ∙ window_beyond w ws e) ∙ f)
    which
