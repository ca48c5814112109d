use Rattle.std.proofs.Common.{◌≡◌, ℕ, sym, refl, ap, ◌∙◌, arith}
use Rattle.std.proofs.lemmas.Result.{err_from_is_err_and}
use Rattle.model.specs.Drafted.{drafted}
use Rattle.model.specs.Reading.{read_model, accepted, refused}
use Rattle.model.specs.Values.{Value}
use Rattle.model.proofs.Layouts.{accepted_is_laid_out, laid_out_is_accepted}
use Rattle.model.proofs.Models.{valid-passes}
use Rattle.model.proofs.model.Model.read.Goals as goal

never : (m : Value) (n at : ℕ) → accepted m ≡ refused n at → ⊥
never m n at e = let z : ◌≡◌ {A = ℕ} 0 1 = cc in omega arith

same : (m k : Value) → accepted m ≡ accepted k → m ≡ k
same m k e = cc

pub returns-in_err-draft : goal.returns-in_err-draft
returns-in_err-draft c =
    let p = err_from_is_err_and c.from_residual.result c.from_residual.ensures.1 in
    let b = c.in_err-draft.ensures in
    rw (p.1, p.2) (refl, record { fault = b; none = λ k v e. never k _ _ (sym (laid_out_is_accepted k v) ∙ ap read_model e ∙ b) })

pub invariant_of-self : goal.invariant_of-self
invariant_of-self c =
    let r = c.in_ok-draft.ensures in
    let d = c.in_ok-draft.draft in
    record { valid = valid-passes (drafted d) (accepted_is_laid_out c.args.bytes.now (drafted d) r.1 r.0).0 }

pub returns : goal.returns
returns c =
    let r = c.in_ok-draft.ensures in
    let d = c.in_ok-draft.draft in
    let l = accepted_is_laid_out c.args.bytes.now (drafted d) r.1 r.0 in
    record {
      read = r.0;
      valid = l.0;
      bytes = l.1;
      only = λ k v e. same k (drafted d) (sym (laid_out_is_accepted k v) ∙ ap read_model e ∙ r.0);
    }
