use Rattle.std.proofs.Common.{◌≡◌, min, length, ◌∙◌, ap₂, arith}
use Rattle.model.specs.Meaning.{means}
use Rattle.tables.proofs.Windows.{opening, windows_fit}
use Rattle.tables.proofs.words.WordTable.open.Goals as goal

pub returns-clause-opens : goal.returns-clause-opens
returns-clause-opens g c = λ sound.
    let m = c.args.model.now in
    let ws = (means m).windows in
    let n = c.min-variables.result in
    let s = g.S.Store.rows c.args.store in
    let r = g.S.Store.rows c.rewind.new.store in
    let t = g.S.Store.rows c.fill.new.store in
    let rewound = c.rewind.ensures sound in
    let is : n ≡ min (length ws) (length s.row) = c.min-variables.ensures ∙ ap₂ min c.variables.ensures (c.size.ensures rewound.1 ∙ rewound.0.long) in
    let filled = c.fill.ensures (omega arith) (omega (arith, rewound.0.long)) rewound.1 in
    opening ws (windows_fit (means m) m.valid) s r t n is rewound.0 filled.0
