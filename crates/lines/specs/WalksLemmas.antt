-- Something is to come at each place of the items and of a text.
-- Assumes nothing.
use Rattle.std.specs.Prelude.{◌≡◌, List, [], ◌∷◌, map, reverse, length, refl}
use Rattle.std.proofs.Common.{arith}
use Rattle.std.proofs.lemmas.List.{length-reverse}
use Rattle.games.specs.declared.side.Side.TheVariants.{Left, Right}
use Rattle.games.specs.Reader.{Bracket, in_left, in_right, State, wants, fresh, after, done, wrong}
use Rattle.calls.specs.Nests.{behind, outer_of}
use Rattle.calls.specs.TextSpots.{open_at}
use Rattle.calls.specs.declared.nest.Nest.{Nest}
use Rattle.calls.specs.declared.nest.TextSpot.{TextSpot}
use Rattle.calls.specs.declared.nest.TextSpot.TheVariants.{Form, Start, After}
use Rattle.calls.proofs.Nesting.{somewhere}
use Rattle.lines.specs.Machine.{weight, depth}
use Rattle.lines.specs.Spots.{symbols}
use Rattle.lines.specs.Nests.{symbol, stack}
use Rattle.lines.specs.Walks.{Ongoing}
use Rattle.lines.specs.declared.spot.Spot.{Spot}
use Rattle.lines.specs.declared.spot.Spot.TheVariants.{Square, MoreSquares, Cell, MoreCells, Edge}
use Rattle.lines.specs.declared.spot.EdgeSpot.TheVariants.{From, Dash, FromDigits, To, Colour, ToDigits, MoreEdges}

pub spot_ongoing : (spot : Spot) → Ongoing (symbols spot)
spot_ongoing Square = record { first = _; under = _; is = refl; few = omega arith }
spot_ongoing MoreSquares = record { first = _; under = _; is = refl; few = omega arith }
spot_ongoing Cell = record { first = _; under = _; is = refl; few = omega arith }
spot_ongoing MoreCells = record { first = _; under = _; is = refl; few = omega arith }
spot_ongoing (Edge From) = record { first = _; under = _; is = refl; few = omega arith }
spot_ongoing (Edge Dash) = record { first = _; under = _; is = refl; few = omega arith }
spot_ongoing (Edge FromDigits) = record { first = _; under = _; is = refl; few = omega arith }
spot_ongoing (Edge To) = record { first = _; under = _; is = refl; few = omega arith }
spot_ongoing (Edge Colour) = record { first = _; under = _; is = refl; few = omega arith }
spot_ongoing (Edge ToDigits) = record { first = _; under = _; is = refl; few = omega arith }
spot_ongoing (Edge MoreEdges) = record { first = _; under = _; is = refl; few = omega arith }

-- each bracket outside is open
behind_depth : (bs : List Bracket) → depth (map symbol (map behind bs)) ≡ length (map behind bs)
behind_depth [] = refl
behind_depth (in_left ls ∷ bs) = let e = behind_depth bs in omega arith
behind_depth (in_right ls rs ∷ bs) = let e = behind_depth bs in omega arith

pub outer_depth : (q : State) → depth (map symbol (outer_of q)) ≡ length (outer_of q)
outer_depth (wants bs) = behind_depth bs
outer_depth (fresh b bs) = behind_depth bs
outer_depth (after b bs) = behind_depth bs
outer_depth (done g) = refl
outer_depth wrong = refl

pub weight_is : (spot : TextSpot) → weight (symbol spot) ≡ open_at spot
weight_is Form = refl
weight_is (Start Left) = refl
weight_is (Start Right) = refl
weight_is (After Left) = refl
weight_is (After Right) = refl

pub nest_ongoing : (nest : Nest) → Ongoing (stack nest)
nest_ongoing nest =
    let (q, s) = somewhere nest in
    let d : depth (map symbol (reverse nest.outside.items)) ≡ length (reverse nest.outside.items) = rw s.outside (outer_depth q) in
    let l = length-reverse nest.outside.items in
    let w = weight_is nest.spot in
    let f = nest.few in
    record { first = _; under = _; is = refl; few = omega arith }
