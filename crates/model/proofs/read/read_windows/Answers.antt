use Rattle.std.proofs.Common.{◌≡◌, true, [], ◌++◌, List, length, sym, refl, ap, ◌∙◌, arith}
use Rattle.std.proofs.lemmas.List.{length-append}
use Rattle.model.specs.declared.values.Window.{Window}
use Rattle.model.specs.declared.form.RecordKind.TheVariants.{Windows}
use Rattle.model.specs.Reading.{more, window_at, windows_in, count, entry_bytes, do_windows_fit}
use Rattle.model.specs.Drafted.{drafted}
use Rattle.model.specs.Scans.{read_by}
use Rattle.model.proofs.EntryBytes.{length-entries}
use Rattle.model.proofs.Steps.{windows_are, windows-whole, windows-step, window_step, whole-size}
use Rattle.model.proofs.read.read_windows.Goals as goal

pub returns-then-not-windows_fit-clause-reads : goal.returns-then-not-windows_fit-clause-reads
returns-then-not-windows_fit-clause-reads c =
    let d = c.args.draft.now in
    let bs = c.args.bytes.now in
    let o = c.in_ok-kind.ensures.opens in
    (refl, window_step bs (drafted d) (windows-whole bs (drafted d) _ o) (sym (c.if-not-windows_fit.ensures ∙ ap do_windows_fit (windows_are bs _ _ o c.of-windows.ensures))))

pub invariant_of-draft : goal.invariant_of-draft
invariant_of-draft c =
    let d = c.args.draft.now in
    let bs = c.args.bytes.now in
    let o = c.in_ok-kind.ensures.opens in
    let none : d.windows.items ≡ [] = ap (λ m. m.windows) c.requires in
    let e = c.of-windows.result in
    record {
      long = d.long;
      variables = omega (arith, ap length c.fill.ensures, length-append d.windows.items (read_by window_at e), ap length none, length-entries window_at e.each e.count e.bytes.now, c.of-windows.ensures.number, (whole-size true bs _ o).1);
      few = d.few;
      entries = d.entries;
      most = d.most;
      placed = d.placed;
      noted = d.noted;
    }

pub returns-clause-reads : goal.returns-clause-reads
returns-clause-reads c =
    let d = c.args.draft.now in
    let bs = c.args.bytes.now in
    let o = c.in_ok-kind.ensures.opens in
    let e = c.of-windows.result in
    let are = windows_are bs _ e o c.of-windows.ensures in
    let none : d.windows.items ≡ [] = ap (λ m. m.windows) c.requires in
    let ws : windows_in (count bs) (entry_bytes Windows bs) ≡ c.fill.new.items.items = sym (c.fill.ensures ∙ ap (λ (old : List Window). old ++ read_by window_at e) none ∙ are) in
    record {
      step = windows-step bs (drafted d) (windows-whole bs (drafted d) _ o) (sym (c.if-not-windows_fit.ensures ∙ ap do_windows_fit are)) ∙ ap (λ (xs : List Window). more (record { windows = xs; records = (drafted d).records })) ws;
      is = omega (arith, c.word.ensures);
      within = omega (arith, o.ended, c.word.ensures);
    }
