-- A code of which nothing falls is legal.
use Rattle.std.proofs.Common.{ℕ, eqb, ap, ◌∙◌}
use Rattle.hackenbush.specs.Pictures.{edges_of}
use Rattle.hackenbush.proofs.Moves.{legal_test}
use Rattle.hackenbush.proofs.picture.rules.PictureRuleset.is_legal.Goals as goal

pub returns : goal.returns
returns c = ap (λ (n : ℕ). eqb n c.args.code) c.fall.ensures.value ∙ legal_test (edges_of c.args.self.now) c.args.code
