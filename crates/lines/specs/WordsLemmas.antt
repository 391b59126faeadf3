-- Each word is told by its first letter.
-- Assumes nothing.
use Rattle.std.specs.Prelude.{[], refl}
use Rattle.std.proofs.Common.{arith}
use Rattle.games.specs.declared.side.Side.{Side}
use Rattle.games.specs.declared.side.Side.TheVariants.{Left, Right}
use Rattle.lines.specs.Machine.{line_word, subject_word, board_word, side}
use Rattle.lines.specs.Spots.{symbols}
use Rattle.lines.specs.Syntax.{spell_side}
use Rattle.lines.specs.Words.{kind_word, kind_spot, heading_word, heading_rest, ask_word, ask_rest, Word}
use Rattle.lines.specs.declared.question.Kind.{Kind}
use Rattle.lines.specs.declared.question.Kind.TheVariants.{Domineering, Toads, Hackenbush}
use Rattle.lines.specs.declared.words.Ask.{Ask}
use Rattle.lines.specs.declared.words.Ask.TheVariants.{Value, Compare, Move}
use Rattle.lines.specs.declared.words.Heading.{Heading}
use Rattle.lines.specs.declared.words.Heading.TheVariants.{Minus, Sum, Form, Board}

pub side_leads : (s : Side) → Word side (spell_side s) []
side_leads Left = record { lettered = omega arith; leads = refl; quiet = refl }
side_leads Right = record { lettered = omega arith; leads = refl; quiet = refl }

pub kind_leads : (kind : Kind) → Word board_word (kind_word kind) (symbols (kind_spot kind))
kind_leads Domineering = record { lettered = omega arith; leads = refl; quiet = refl }
kind_leads Toads = record { lettered = omega arith; leads = refl; quiet = refl }
kind_leads Hackenbush = record { lettered = omega arith; leads = refl; quiet = refl }

pub heading_leads : (heading : Heading) → Word subject_word (heading_word heading) (heading_rest heading)
heading_leads Minus = record { lettered = omega arith; leads = refl; quiet = refl }
heading_leads Sum = record { lettered = omega arith; leads = refl; quiet = refl }
heading_leads Form = record { lettered = omega arith; leads = refl; quiet = refl }
heading_leads (Board Domineering) = record { lettered = omega arith; leads = refl; quiet = refl }
heading_leads (Board Toads) = record { lettered = omega arith; leads = refl; quiet = refl }
heading_leads (Board Hackenbush) = record { lettered = omega arith; leads = refl; quiet = refl }

pub ask_leads : (ask : Ask) → Word line_word (ask_word ask) (ask_rest ask)
ask_leads Value = record { lettered = omega arith; leads = refl; quiet = refl }
ask_leads Compare = record { lettered = omega arith; leads = refl; quiet = refl }
ask_leads Move = record { lettered = omega arith; leads = refl; quiet = refl }
