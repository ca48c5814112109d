-- A lawful kind in front of lawful kinds. Assumes nothing.
use Rattle.std.specs.Prelude.{◌≡◌, ℕ, true, false, Some, None, Option, ◌==◌, ◌≢◌, refl, nat_eq}
use Rattle.std.specs.Option.{option_eq}
use Rattle.std.proofs.Common.{sym, ap, ◌∙◌, subst, ⊎_elim}
use Rattle.std.proofs.lemmas.Bool.{both_ways, cond-true, cond-false, eq-eqb, ne_eqb, cases_eq}
use Rattle.model.specs.Values.{Record}
use Rattle.kinds.specs.Demands.{Demand, Demands, Stable, Meets, kind_of_record, demand_of, with_kind, no_demands, demanded}
use Rattle.kinds.specs.Laws.{Joins, Rests, Singles, KeepsLaws, LawfulKinds}
use Rattle.bank.specs.Numbers.{numbered}

-- Where there is no kind nothing is asked.
pub none-lawful : LawfulKinds no_demands
none-lawful = record {
  keeps = λ n w q named. record { joins = λ S T s t f g a b. refl; rests = λ S T same. refl; singles = λ a s f. refl };
  names = λ w q x h. absurd (both_ways false refl h);
}

module _ (k : ℕ) (stable : Stable) (meets : Meets) where
  -- a record of the number is the kind's
  own : (others : Demands) (w : ℕ) (q : Record) → kind_of_record q ≡ k → with_kind k stable meets others w q ≡ demand_of stable meets w q
  own others w q e = cond-true (kind_of_record q == k) (demand_of stable meets w q) (others w q) (eq-eqb (kind_of_record q) k e)

  -- any other record is for the others
  other : (others : Demands) (w : ℕ) (q : Record) → (kind_of_record q ≢ k) → with_kind k stable meets others w q ≡ others w q
  other others w q d = cond-false (kind_of_record q == k) (demand_of stable meets w q) (others w q) (ne_eqb (kind_of_record q) k d)

  -- where the number of the record is k, the kind alone has it
  pub by_kind : (others : Demands) (w : ℕ) (o : Option Record) → option_eq nat_eq (numbered o) (Some k) ≡ true → demanded (with_kind k stable meets no_demands) w o ≡ demanded (with_kind k stable meets others) w o
  by_kind others w None e = refl
  by_kind others w (Some q) e = cond-true (kind_of_record q == k) (demand_of stable meets w q) (no_demands w q) e ∙ sym (cond-true (kind_of_record q == k) (demand_of stable meets w q) (others w q) e)

  -- where it is not, the others have it
  pub by_others : (others : Demands) (w : ℕ) (o : Option Record) → option_eq nat_eq (numbered o) (Some k) ≡ false → demanded others w o ≡ demanded (with_kind k stable meets others) w o
  by_others others w None e = refl
  by_others others w (Some q) e = sym (cond-false (kind_of_record q == k) (demand_of stable meets w q) (others w q) e)

  pub lawful : (others : Demands) → Joins k stable → Rests k stable → Singles k stable meets → LawfulKinds others → LawfulKinds (with_kind k stable meets others)
  lawful others joins rests singles laws = record {
    keeps = λ n w q named. ⊎_elim
        (λ e. subst (KeepsLaws n w) (sym (own others w q e)) (record {
          joins = joins n w q e named;
          rests = rests w q e;
          singles = singles n w q e named;
        }))
        (λ d. subst (KeepsLaws n w) (sym (other others w q d)) (laws.keeps n w q named))
        (cases_eq (kind_of_record q) k);
    names = λ w q x h. ⊎_elim
        (λ e. ap (λ (A : Demand). A.names x) (sym (own others w q e)) ∙ h)
        (λ d. laws.names w q x (ap (λ (A : Demand). A.names x) (sym (other others w q d)) ∙ h))
        (cases_eq (kind_of_record q) k);
  }
