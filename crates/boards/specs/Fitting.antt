-- A board of any kind is a lawful ruleset, and small enough that any two can be added.
-- Assumes nothing.
use Rattle.std.specs.Prelude.{◌+◌, ◌*◌, ◌^◌, ◌≤◌, length, nat_le}
use Rattle.std.proofs.Common.{arith}
use Rattle.std.proofs.Math.Nat.{pow-le-pow_right}
use Rattle.std.proofs.lemmas.Nat.{mul-le}
use Rattle.std.proofs.lemmas.Bool.{and_from, le-leb}
use Rattle.rulesets.specs.Rules.{Rules, Lawful}
use Rattle.domineering.specs.Size.{cells_high}
use Rattle.domineering.specs.Lawful.{domineering_lawful}
use Rattle.toads.specs.LawsLemmas.{toads_lawful}
use Rattle.hackenbush.specs.Pictures.{edges_of}
use Rattle.hackenbush.specs.Reading.{fits_length}
use Rattle.hackenbush.specs.Lawful.{lawful}
use Rattle.boards.specs.declared.board.AnyBoard.{AnyBoard}
use Rattle.boards.specs.declared.board.AnyBoard.TheVariants.{Domineering, Toads, Hackenbush}
use Rattle.boards.specs.AnyBoards.{any_rules}
use Rattle.boards.specs.Laws.{BoardsFit}

pub any_lawful : (b : AnyBoard) → Lawful (any_rules b)
any_lawful (Domineering b) = domineering_lawful b.rows b.columns b.small
any_lawful (Toads s) = toads_lawful s.cells s.few
any_lawful (Hackenbush p) = lawful (edges_of p) p.sized

-- half of what a sum may have
record Half (R : Rules) : Type 0 where
  limit_half : R.limit ≤ 2 ^ 30
  width_half : R.width ≤ 128
  depth_half : R.depth ≤ 48

any_half : (b : AnyBoard) → Half (any_rules b)
any_half (Domineering b) = record {
  limit_half = pow-le-pow_right {n = 2} (omega arith) {i = b.rows * b.columns} {j = 30} (cells_high b.rows b.columns b.small);
  width_half = omega arith;
  depth_half = omega arith;
}
any_half (Toads s) = record {
  limit_half = let most = pow-le-pow_right {n = 4} (omega arith) {i = s.cells} {j = 12} s.few in omega arith;
  width_half = omega arith;
  depth_half = omega arith;
}
any_half (Hackenbush p) = record {
  limit_half = pow-le-pow_right {n = 2} (omega arith) {i = length (edges_of p)} {j = 30} (omega (arith, (fits_length (edges_of p) p.sized).1));
  width_half = omega arith;
  depth_half = omega arith;
}

pub boards_fit : BoardsFit
boards_fit a b =
    let A = any_rules a in
    let B = any_rules b in
    let h = any_half a in
    let k = any_half b in
    and_from (nat_le (A.limit * B.limit) (2 ^ 60)) _ (le-leb _ _ (mul-le A.limit B.limit (2 ^ 30) (2 ^ 30) h.limit_half k.limit_half))
    (and_from (nat_le (A.width + B.width) 256) _ (le-leb _ _ (omega arith)) (le-leb _ _ (omega arith)))
