-- The bit at an index is the edge that is cut.
use Rattle.std.proofs.Common.{sym, ◌∙◌}
use Rattle.hackenbush.specs.Pictures.{edges_of}
use Rattle.hackenbush.specs.Reading.{few}
use Rattle.hackenbush.proofs.Moves.{nth_set, successor_found, successor_none}
use Rattle.hackenbush.proofs.picture.rules.PictureRuleset.successor.Goals as goal

pub returns-in_err-place : goal.returns-in_err-place
returns-in_err-place c =
    c.from_residual.ensures
    ∙ successor_none (edges_of c.args.self.now) (few c.args.self.now) c.args.code c.args.side _ c.coloured.ensures c.args.index (sym c.in_err-place.was ∙ c.nth_bit.ensures)

pub cut-requires : goal.cut-requires
cut-requires c = nth_set c.args.code c.coloured.result c.args.index _ (sym c.in_ok-place.was ∙ c.nth_bit.ensures)

pub returns : goal.returns
returns c =
    successor_found (edges_of c.args.self.now) (few c.args.self.now) c.args.code c.args.side _ c.coloured.ensures c.args.index _ _ (sym c.in_ok-place.was ∙ c.nth_bit.ensures) c.cut.ensures
