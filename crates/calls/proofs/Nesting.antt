-- Where a reader stands in a text: how many brackets are open there, and what becomes of them where one closes.
-- Assumes nothing.
use Rattle.std.proofs.Common.{◌≡◌, ℕ, ◌+◌, true, List, [], ◌∷◌, ◌++◌, map, reverse, length, Some, None, Option, sym, refl, ap, ◌∙◌, subst, arith}
use mathlib.Core.List.{reverse_aux}
use mathlib.Core.Option.{none}
use Rattle.std.specs.List.{list_all}
use Rattle.std.proofs.lemmas.List.{reverse-append, length-map}
use Rattle.games.specs.Form.{Form as Game, form, ∅}
use Rattle.games.specs.Text.{close_mark}
use Rattle.games.specs.declared.side.Side.{Side}
use Rattle.games.specs.declared.side.Side.TheVariants.{Left, Right}
use Rattle.games.specs.Reader.{Bracket, in_left, in_right, State, wants, fresh, after, done, wrong, put, finish, next, brackets, Alive}
use Rattle.games.proofs.Reader.{result}
use Rattle.calls.specs.Nests.{Stands, StandsAt, behind, outer_of, spot_of}
use Rattle.calls.specs.TextSpots.{is_after, open_at, side_at, side_of}
use Rattle.calls.specs.declared.nest.Nest.{Nest}
use Rattle.calls.specs.declared.nest.TextSpot.{TextSpot}
use Rattle.calls.specs.declared.nest.TextSpot.TheVariants.{Form, Start, After}

-- a form goes on from there, and none has ended
pub going : (q : State) (spot : TextSpot) → spot_of q ≡ Some spot → Alive q × (result q ≡ none)
going (wants bs) spot e = (tt, refl)
going (fresh b bs) spot e = (tt, refl)
going (after b bs) spot e = (tt, refl)
going (done g) spot e = let z : ◌≡◌ {A = ℕ} 0 1 = cc in absurd (omega arith)
going wrong spot e = let z : ◌≡◌ {A = ℕ} 0 1 = cc in absurd (omega arith)

-- how many brackets are open
pub open_here : (q : State) (spot : TextSpot) → spot_of q ≡ Some spot → length (brackets q) ≡ open_at spot + length (outer_of q)
open_here (wants bs) spot e = let l = length-map bs behind in let k : spot ≡ Form = cc in rw k (omega arith)
open_here (fresh b bs) spot e = let l = length-map bs behind in let k : spot ≡ Start (side_of b) = cc in rw k (omega arith)
open_here (after b bs) spot e = let l = length-map bs behind in let k : spot ≡ After (side_of b) = cc in rw k (omega arith)
open_here (done g) spot e = let z : ◌≡◌ {A = ℕ} 0 1 = cc in absurd (omega arith)
open_here wrong spot e = let z : ◌≡◌ {A = ℕ} 0 1 = cc in absurd (omega arith)

-- the side whose options are being read, if any are
abbrev side : Option TextSpot → Option Side
side (Some spot) = side_at spot
side None = None

-- a form ends, above the brackets outside
ends : (spot : TextSpot) (outer : List TextSpot) (q : State) → side_at spot ≡ Some Right → StandsAt spot outer q → (g : Game) × (bs : List Bracket) × (next q close_mark ≡ finish g bs) × (outer ≡ map behind bs)
ends spot outer (wants bs) w s = let h = ap side s.at_spot ∙ w in let z : ◌≡◌ {A = ℕ} 0 1 = cc in absurd (omega arith)
ends spot outer (fresh (in_left ls) bs) w s = let h = ap side s.at_spot ∙ w in let z : ◌≡◌ {A = ℕ} 0 1 = cc in absurd (omega arith)
ends spot outer (fresh (in_right ls rs) bs) w s = (form ls rs, bs, refl, s.outside)
ends spot outer (after (in_left ls) bs) w s = let h = ap side s.at_spot ∙ w in let z : ◌≡◌ {A = ℕ} 0 1 = cc in absurd (omega arith)
ends spot outer (after (in_right ls rs) bs) w s = (form ls rs, bs, refl, s.outside)
ends spot outer (done g) w s = let h = s.at_spot in let z : ◌≡◌ {A = ℕ} 0 1 = cc in absurd (omega arith)
ends spot outer wrong w s = let h = s.at_spot in let z : ◌≡◌ {A = ℕ} 0 1 = cc in absurd (omega arith)

-- no bracket is outside
pub closes_last : (spot : TextSpot) (us : List TextSpot) (q : State) → side_at spot ≡ Some Right → StandsAt spot (reverse us) q → us ≡ [] → (g : Game) × (next q close_mark ≡ done g)
closes_last spot us q w s last = let (g, bs, e, o) = ends spot (reverse us) q w s in (g, e ∙ alone g bs (sym o ∙ ap reverse last))
  where
    alone : (g : Game) (bs : List Bracket) → map behind bs ≡ [] → finish g bs ≡ done g
    alone g [] e = refl
    alone g (b ∷ bs) e = let z : ◌≡◌ {A = ℕ} 0 1 = cc in absurd (omega arith)

-- one is, and goes on
pub closes_inside : (spot later : TextSpot) (us rest : List TextSpot) (q : State) → side_at spot ≡ Some Right → StandsAt spot (reverse us) q → us ≡ rest ++ later ∷ [] → StandsAt later (reverse rest) (next q close_mark)
closes_inside spot later us rest q w s e =
    let (g, bs, n, o) = ends spot (reverse us) q w s in
    subst (StandsAt later (reverse rest)) (sym n) (on g bs (sym (ap reverse e ∙ reverse-append rest (later ∷ [])) ∙ o))
  where
    same_side : (g : Game) (b : Bracket) → side_of (put g b) ≡ side_of b
    same_side g (in_left ls) = refl
    same_side g (in_right ls rs) = refl

    on : (g : Game) (bs : List Bracket) → later ∷ reverse rest ≡ map behind bs → StandsAt later (reverse rest) (finish g bs)
    on g [] f = let z : ◌≡◌ {A = ℕ} 0 1 = cc in absurd (omega arith)
    on g (b ∷ bs) f = let k : behind b ≡ later = cc in record { at_spot = ap (λ x. Some (After x)) (same_side g b) ∙ ap Some k; outside = cc }

-- each place that a reader can have is one of the machine's
pub somewhere : (nest : Nest) → (q : State) × Stands nest q
somewhere nest = let (bs, e) = brackets_at nest.outside.items [] [] nest.waits refl in place nest.spot bs (sym e)
  where
    brackets_at : (us vs : List TextSpot) (cs : List Bracket) → list_all is_after us ≡ true → map behind cs ≡ vs → (bs : List Bracket) × (map behind bs ≡ reverse_aux us vs)
    brackets_at [] vs cs w e = (cs, e)
    brackets_at (Form ∷ us) vs cs w e = let z : ◌≡◌ {A = ℕ} 0 1 = cc in absurd (omega arith)
    brackets_at (Start s ∷ us) vs cs w e = let z : ◌≡◌ {A = ℕ} 0 1 = cc in absurd (omega arith)
    brackets_at (After Left ∷ us) vs cs w e = brackets_at us (After Left ∷ vs) (in_left ∅ ∷ cs) w (ap (λ l. After Left ∷ l) e)
    brackets_at (After Right ∷ us) vs cs w e = brackets_at us (After Right ∷ vs) (in_right ∅ ∅ ∷ cs) w (ap (λ l. After Right ∷ l) e)

    place : (spot : TextSpot) {outer : List TextSpot} (bs : List Bracket) → outer ≡ map behind bs → (q : State) × StandsAt spot outer q
    place Form bs e = (wants bs, record { at_spot = refl; outside = e })
    place (Start Left) bs e = (fresh (in_left ∅) bs, record { at_spot = refl; outside = e })
    place (Start Right) bs e = (fresh (in_right ∅ ∅) bs, record { at_spot = refl; outside = e })
    place (After Left) bs e = (after (in_left ∅) bs, record { at_spot = refl; outside = e })
    place (After Right) bs e = (after (in_right ∅ ∅) bs, record { at_spot = refl; outside = e })
