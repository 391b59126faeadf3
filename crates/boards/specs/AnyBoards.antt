-- A board of any kind, and setting one up.
-- Assumes nothing.
use Rattle.std.specs.Prelude.{◌≡◌, ℕ, List, Some, None, Ok, Err, Result}
use Rattle.rulesets.specs.Rules.{Rules}
use Rattle.rulesets.specs.declared.fault.BoardFault.{BoardFault}
use Rattle.rulesets.specs.declared.fault.BoardFault.TheVariants.{Size}
use Rattle.domineering.specs.Making.{board_rules}
use Rattle.toads.specs.Making.{strip_rules}
use Rattle.hackenbush.specs.Hackenbush.{hackenbush}
use Rattle.hackenbush.specs.Pictures.{edges_of}
use Rattle.lines.specs.Syntax.{Board, items_of}
use Rattle.boards.specs.declared.board.AnyBoard.{AnyBoard}
use Rattle.boards.specs.declared.board.AnyBoard.TheVariants.{Domineering, Toads, Hackenbush}
use Rattle.boards.specs.declared.setup.Setup.{Setup}
use Rattle.boards.specs.Boards.{meaning, Position}

-- the rules of the board inside
abbrev pub any_rules : AnyBoard → Rules
any_rules (Domineering b) = board_rules b
any_rules (Toads s) = strip_rules s
any_rules (Hackenbush p) = hackenbush (edges_of p)

-- the position that was set up
abbrev pub position : Setup → Position
position s = record { rules = any_rules s.board; code = s.code }

-- A written board is set up as the position that it stands for, and refused where its size is beyond the rules.
abbrev pub SetUp : Board → Result Setup BoardFault → Type 0
SetUp b (Ok s) = meaning b ≡ Some (position s)
SetUp b (Err e) = (meaning b ≡ None) × (e ≡ Size)

-- The bytes spell no board of this kind.
abbrev pub SpellsNone : {A : Type 0} → (A → Board) → List ℕ → Type 0
SpellsNone {A = A} kind items = (written : A) → ¬ (items ≡ items_of (kind written))
