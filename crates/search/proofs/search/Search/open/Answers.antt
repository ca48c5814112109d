use Rattle.std.proofs.Common.{refl}
use Rattle.search.specs.Sessions.{view, Sound}
use Rattle.search.proofs.Beginning.{fresh_sound, no_choices}
use Rattle.search.proofs.Whole.{law as whole}
use Rattle.search.proofs.search.Search.open.Goals as goal

pub returns : goal.returns
returns g c =
    let means = g.P.Space.means in
    let sound = g.P.Space.sound in
    let picks = g.R.Rule.picks in
    let x = c.args.space in
    record {
      opened = refl;
      sound = fresh_sound means sound picks x c.args.rule;
      law = λ o es b run. whole (view means picks) (Sound means sound picks) _ (g.P.Space.laws x o).lawful (g.R.Rule.lawful c.args.rule (means x).problem) (g.P.Space.laws x o).base (no_choices (means x) (g.P.Space.laws x o).standing) refl (fresh_sound means sound picks x c.args.rule o) es b run;
    }
