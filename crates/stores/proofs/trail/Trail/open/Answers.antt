use Rattle.std.proofs.Common.{◌≡◌, ℕ, ◌≤◌, List, [], ◌++◌, length, take, drop, replicate, ap, ◌∙◌, arith}
use lib.LanesLaws.{map-replicate}
use Rattle.std.proofs.lemmas.List.{take_at, length-replicate, length-take-le}
use Rattle.stores.specs.declared.trail.Cell.{Cell}
use Rattle.stores.specs.Rows.{fresh, size_for}
use Rattle.stores.specs.Entries.{blank, values, saved_rows, spans}
use Rattle.stores.specs.Trails.{trail_depth}
use Rattle.stores.proofs.trail.Trail.open.Goals as goal

pub returns-clause-rows : goal.returns-clause-rows
returns-clause-rows c =
    let n = c.row_size-size.result in
    let old = c.args.cells.now in
    let few : n ≤ length old = omega (arith, c.row_size-size.ensures) in
    let filled : c.fill.new.self ≡ replicate n blank = c.fill.ensures.after (λ y q. q) ∙ ap (λ (k : ℕ). replicate k blank) (length-take-le n old few) in
    let front : take n (c.fill.new.self ++ drop n old) ≡ replicate n blank = ap (λ (xs : List Cell). take n (xs ++ drop n old)) filled ∙ take_at (replicate n blank) (drop n old) n (length-replicate n blank) in
    let row : values (take n (c.fill.new.self ++ drop n old)) ≡ replicate n 0 = ap values front ∙ map-replicate (λ (x : Cell). x.value) n blank in
    let size : n ≡ size_for c.args.wanted (length old) = c.row_size-size.ensures in
    let depth : c.min-depth.result ≡ trail_depth (length c.args.entries.now) n = omega arith in
    let saved : saved_rows (spans c.args.entries.now c.new.result.items (length c.new.result.items) 0) (take n (c.fill.new.self ++ drop n old)) ≡ [] = ap (λ (xs : List ℕ). saved_rows (spans c.args.entries.now xs (length xs) 0) (take n (c.fill.new.self ++ drop n old))) c.new.ensures in
    let all : record { row = values (take n (c.fill.new.self ++ drop n old)); saved = saved_rows (spans c.args.entries.now c.new.result.items (length c.new.result.items) 0) (take n (c.fill.new.self ++ drop n old)); depth = c.min-depth.result } ≡ fresh n (trail_depth (length c.args.entries.now) n) = λ j. record { row = row j; saved = saved j; depth = depth j } in
    all ∙ ap (λ (k : ℕ). fresh k (trail_depth (length c.args.entries.now) k)) size
