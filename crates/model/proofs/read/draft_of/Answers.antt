use Rattle.std.proofs.Common.{◌≡◌, ℕ, zero, suc, ◌+◌, ◌<◌, ◌≤◌, false, true, List, [], length, drop, sym, ap, ◌∙◌, ap₂, arith}
use Rattle.std.proofs.lemmas.List.{drop-drop, drop_all, length-drop, take_rest}
use Rattle.std.proofs.ByRecursion.{All-from_get_or}
use Rattle.model.specs.Values.{Value}
use Rattle.model.specs.Reading.{extent, nothing, step, more, follow, read_rest, read_model}
use Rattle.model.specs.Drafted.{drafted}
use Rattle.model.proofs.Layouts.{unroll}
use Rattle.model.proofs.read.draft_of.Goals as goal

-- one more record, for a fuel of at least one
followed : (bs : List ℕ) (m : Value) (at : ℕ) → at < length bs → (fuel : ℕ) → length bs ≤ fuel + at → read_model bs ≡ read_rest fuel m at (drop at bs) → (more : ℕ) × (length bs ≤ suc more + at) × (read_model bs ≡ follow (read_rest more) at (drop at bs) (step false m (drop at bs)))
followed bs m at lt zero h e = absurd (omega arith)
followed bs m at lt (suc fuel) h e = (fuel, h, e ∙ unroll fuel m at (drop at bs) (omega (arith, length-drop at bs)))

pub loop-at-init : goal.loop-at-init
loop-at-init c =
    let bs = c.args.bytes.now in
    let t = c.in_ok-at.ensures.reads in
    let e = drafted c.read_windows.new.draft in
    let first : step true nothing bs ≡ more e = ap (λ (m : Value). step true m bs) (sym c.empty-draft.ensures) ∙ t.step in
    let o : 0 + extent bs ≡ c.in_ok-at.at = omega (arith, t.is) in
    let p : extent bs ≡ c.in_ok-at.at = sym t.is in
    record {
      within = t.within;
      bytes = c.in_ok-at.ensures.bytes;
      fuel = length bs;
      enough = omega arith;
      same = ap (follow (read_rest (length bs)) 0 bs) first ∙ ap₂ (λ (a b : ℕ). read_rest (length bs) e a (drop b bs)) o p;
    }

pub loop-at-preserved : goal.loop-at-preserved
loop-at-preserved c =
    let bs = c.args.bytes.now in
    let at = c.loop-at.at in
    let m = drafted c.loop-at.draft in
    let i = c.loop-at.invariant in
    let f = followed bs m at c.loop-at-test.true i.fuel i.enough i.same in
    let t = c.in_ok-at-2.ensures in
    let e = drafted c.read_constraint.new.draft in
    let left = ap (step false m) (take_rest bs at) in
    let size : c.in_ok-at-2.field-0 ≡ extent (drop at bs) = t.is ∙ ap extent (take_rest bs at) in
    record {
      within = omega (arith, t.within, ap length (take_rest bs at), length-drop at bs);
      bytes = i.bytes;
      fuel = f.0;
      enough = omega (arith, f.1, size);
      same = f.2 ∙ ap (follow (read_rest f.0) at (drop at bs)) (sym left ∙ t.step) ∙ ap₂ (λ (a : ℕ) (xs : List ℕ). read_rest f.0 e a xs) (ap (λ (k : ℕ). at + k) (sym size)) (drop-drop (extent (drop at bs)) at bs ∙ ap (λ (k : ℕ). drop (at + k) bs) (sym size));
    }

pub returns : goal.returns
returns c =
    let bs = c.args.bytes.now in
    let i = c.loop-at.invariant in
    let m = drafted c.loop-at.draft in
    let n : drop c.loop-at.at bs ≡ [] = drop_all c.loop-at.at bs c.loop-at-test.false in
    (i.same ∙ ap (read_rest i.fuel m c.loop-at.at) n, All-from_get_or (λ b. b < 256) bs 0 (λ k l. i.bytes k))
