use Rattle.std.proofs.Common.{◌≡◌, ℕ, true, List, Some, Ok, Err, Result, sym, refl, ap, ◌∙◌, arith}
use Rattle.std.specs.Prelude.{MatchResult}
use Rattle.std.specs.Result.{is_ok}
use Rattle.std.proofs.lemmas.Bool.{true≢false}
use Rattle.std.proofs.lemmas.List.{take_rest}
use Rattle.model.specs.declared.fault.ModelFault.{ModelFault}
use Rattle.model.specs.declared.form.RecordKind.{RecordKind}
use Rattle.model.specs.declared.form.UnknownKind.{UnknownKind}
use Rattle.model.specs.Kinds.{kind_of, IsKind}
use Rattle.model.specs.Reading.{word}
use Rattle.model.proofs.Heads.{word-later, cut_step, misfit_step}
use Rattle.model.proofs.scan.record_at.Goals as goal

-- the kind that was found is that of the number
found : (n : ℕ) (k : RecordKind) (r : Result RecordKind UnknownKind) (E : UnknownKind → Type 0) → IsKind n r → MatchResult r (λ x. ◌≡◌ {A = Result RecordKind ModelFault} (Ok k) (Ok x)) E → true ≡ is_ok r → kind_of n ≡ Some k
found n k (Ok x) E i h v = let e : k ≡ x = cc in i ∙ ap Some (sym e)
found n k (Err e) E i h v = absurd (true≢false v)

pub returns-then-left-length-clause-opens : goal.returns-then-left-length-clause-opens
returns-then-left-length-clause-opens c =
    let left = c.args.left.now in
    let k = found c.word.result c.in_ok-kind.kind _ _ c.try_from.ensures c.in_ok-kind.ensures.cases c.in_ok-kind.ensures.variant in
    let w = c.word.ensures ∙ ap (λ (bs : List ℕ). word bs 0) (take_rest left 2) ∙ word-later left 2 0 in
    (refl, λ m. cut_step c.args.first left m c.in_ok-kind.kind c.if-left-lt4.false (ap kind_of (sym w) ∙ k) (sym c.if-misplaced.ensures) (omega arith))

pub returns-then-misfits-clause-opens : goal.returns-then-misfits-clause-opens
returns-then-misfits-clause-opens c =
    let left = c.args.left.now in
    let k = found c.word.result c.in_ok-kind.kind _ _ c.try_from.ensures c.in_ok-kind.ensures.cases c.in_ok-kind.ensures.variant in
    let w = c.word.ensures ∙ ap (λ (bs : List ℕ). word bs 0) (take_rest left 2) ∙ word-later left 2 0 in
    (refl, λ m. misfit_step c.args.first left m c.in_ok-kind.kind c.if-left-lt4.false (ap kind_of (sym w) ∙ k) (sym c.if-misplaced.ensures) (omega arith) (sym c.if-misfits.ensures))
