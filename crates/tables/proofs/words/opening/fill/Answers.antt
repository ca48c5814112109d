use Rattle.std.proofs.Common.{◌≡◌, ℕ, min, ◌&&◌, ltb, leb, ◌∙◌, ap₂}
use Rattle.bits.specs.Bit.{has}
use Rattle.model.specs.Meaning.{means}
use Rattle.tables.proofs.Windows.{filled_more, spanned, windows_fit}
use Rattle.tables.proofs.words.opening.fill.Goals as goal

pub loop-x-preserved : goal.loop-x-preserved
loop-x-preserved g c = λ few cells sound.
    let before = c.loop-x.invariant few cells sound in
    let did = c.in-Ok.ensures.does before.1 in
    let m = c.args.model.now in
    let x = c.loop-x.x in
    let w = c.in-Some.window in
    let word = c.span-domain.result.word in
    let spans : (v : ℕ) → has word v ≡ (leb w.low v && ltb v (min w.high 64)) =
    λ v. c.span-domain.ensures v ∙ ap₂ (λ (low high : ℕ). leb low v && ltb v (min high 64)) c.from.ensures c.from-in-loop-x.ensures in (
      filled_more (means m).windows (g.S.Store.rows c.args.store.now) (g.S.Store.rows c.loop-x.store) (g.S.Store.rows c.write.new.self) x word before.0 did.0
          (spanned (means m).windows (windows_fit (means m) m.valid) x word w c.in-Some.ensures spans),
      did.1,
    )
