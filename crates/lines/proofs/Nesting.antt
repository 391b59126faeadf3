-- Over the bytes of a text the machine of a line goes where the one of texts does.
-- Assumes nothing.
use Rattle.std.proofs.Common.{◌≡◌, ℕ, false, eqb, List, [], ◌∷◌, map, Some, None, Ok, Err, Option, Result, ControlFlow, Continue, Break, sym, refl, ap, ◌∙◌, ap₂, inl, inr, arith}
use mathlib.Core.Option.{none, some}
use mathlib.Core.Option as Math
use Rattle.std.proofs.lemmas.Bool.{ne_eqb}
use Rattle.games.specs.Form.{Form as Game, form}
use Rattle.games.specs.Text.{Mark, open_mark, bar, close_mark, comma, byte}
use Rattle.games.specs.declared.side.Side.TheVariants.{Left, Right}
use Rattle.games.specs.Reader.{Bracket, in_left, in_right, State, wants, fresh, after, done, wrong, put, finish}
use Rattle.games.specs.Reader
use Rattle.calls.specs.Nests.{Stands, Stepped, Refused, behind, outer_of, spot_of}
use Rattle.calls.specs.declared.fault.TextFault.{TextFault}
use Rattle.calls.specs.declared.fault.TextFault.TheVariants.{WrongByte, EarlyEnd, TooDeep}
use Rattle.calls.specs.declared.nest.Nest.{Nest}
use Rattle.calls.specs.declared.nest.TextSpot.{TextSpot}
use Rattle.calls.specs.declared.nest.TextSpot.TheVariants.{Form, Start, After}
use Rattle.calls.proofs.Texts.{is_mark}
use Rattle.lines.specs.Machine.{Symbol, text, next}
use Rattle.lines.specs.Nests.{symbol, stack}
use Rattle.lines.specs.Walks.{Stepped as Walks, Refused as WalkRefused}
use Rattle.lines.specs.WalksLemmas.{outer_depth}

-- what is to come where the machine of texts stands; nothing where it is wrong
abbrev at_place : Option TextSpot → List TextSpot → List Symbol
at_place (Some spot) outer = symbol spot ∷ map symbol outer
at_place None outer = []

abbrev to_come : State → Math.Option (List Symbol)
to_come wrong = none
to_come (wants bs) = some (at_place (spot_of (wants bs)) (outer_of (wants bs)))
to_come (fresh b bs) = some (at_place (spot_of (fresh b bs)) (outer_of (fresh b bs)))
to_come (after b bs) = some (at_place (spot_of (after b bs)) (outer_of (after b bs)))
to_come (done g) = some []

-- a form ends
ended : (g : Game) (bs : List Bracket) → some (map symbol (map behind bs)) ≡ to_come (finish g bs)
ended g [] = refl
ended g (in_left ls ∷ bs) = refl
ended g (in_right ls rs ∷ bs) = refl

-- a mark
marked : (q : State) (spot : TextSpot) (m : Mark) → spot_of q ≡ Some spot → next (at_place (spot_of q) (outer_of q)) (byte m) ≡ to_come (Reader.next q m)
marked (wants bs) spot open_mark e = refl
marked (wants bs) spot bar e = refl
marked (wants bs) spot close_mark e = refl
marked (wants bs) spot comma e = refl
marked (fresh (in_left ls) bs) spot open_mark e = refl
marked (fresh (in_left ls) bs) spot bar e = refl
marked (fresh (in_left ls) bs) spot close_mark e = refl
marked (fresh (in_left ls) bs) spot comma e = refl
marked (fresh (in_right ls rs) bs) spot open_mark e = refl
marked (fresh (in_right ls rs) bs) spot bar e = refl
marked (fresh (in_right ls rs) bs) spot close_mark e = ended (form ls rs) bs
marked (fresh (in_right ls rs) bs) spot comma e = refl
marked (after (in_left ls) bs) spot open_mark e = refl
marked (after (in_left ls) bs) spot bar e = refl
marked (after (in_left ls) bs) spot close_mark e = refl
marked (after (in_left ls) bs) spot comma e = refl
marked (after (in_right ls rs) bs) spot open_mark e = refl
marked (after (in_right ls rs) bs) spot bar e = refl
marked (after (in_right ls rs) bs) spot close_mark e = ended (form ls rs) bs
marked (after (in_right ls rs) bs) spot comma e = refl
marked (done g) spot m e = let z : ◌≡◌ {A = ℕ} 0 1 = cc in absurd (omega arith)
marked wrong spot m e = let z : ◌≡◌ {A = ℕ} 0 1 = cc in absurd (omega arith)

-- any other byte
no_rule : (b : ℕ) (k : List Symbol) → eqb b 123 ≡ false → eqb b 124 ≡ false → eqb b 125 ≡ false → eqb b 44 ≡ false → (spot : TextSpot) → next (symbol spot ∷ k) b ≡ none
no_rule b k o r c s Form = simp o
no_rule b k o r c s (Start Left) = simp (o, r)
no_rule b k o r c s (Start Right) = simp (o, c)
no_rule b k o r c s (After Left) = simp (r, s)
no_rule b k o r c s (After Right) = simp (c, s)

unmarked : (spot : TextSpot) (k : List Symbol) (b : ℕ) → ((m : Mark) → ¬ (byte m ≡ b)) → next (symbol spot ∷ k) b ≡ none
unmarked spot k b n =
    no_rule b k (ne_eqb b 123 (λ e. n open_mark (sym e))) (ne_eqb b 124 (λ e. n bar (sym e))) (ne_eqb b 125 (λ e. n close_mark (sym e))) (ne_eqb b 44 (λ e. n comma (sym e))) spot

-- a place in a text
placed : (q : State) (spot : TextSpot) → spot_of q ≡ Some spot → to_come q ≡ some (symbol spot ∷ map symbol (outer_of q))
placed (wants bs) spot e = ap (λ o. some (at_place o (outer_of (wants bs)))) e
placed (fresh b bs) spot e = ap (λ o. some (at_place o (outer_of (fresh b bs)))) e
placed (after b bs) spot e = ap (λ o. some (at_place o (outer_of (after b bs)))) e
placed (done g) spot e = let z : ◌≡◌ {A = ℕ} 0 1 = cc in absurd (omega arith)
placed wrong spot e = let z : ◌≡◌ {A = ℕ} 0 1 = cc in absurd (omega arith)

module _ (nest : Nest) (b place : ℕ) (q : State) (s : Stands nest q) where
  here : stack nest ≡ at_place (spot_of q) (outer_of q)
  here = ap₂ at_place (sym s.at_spot) s.outside

  takes : (m : Mark) → byte m ≡ b → next (stack nest) b ≡ to_come (Reader.next q m)
  takes m e = ap₂ next here (sym e) ∙ marked q nest.spot m s.at_spot

  refused : (f : TextFault) → Refused q b place f → WalkRefused (stack nest) b place f
  refused (WrongByte i) (e, w) = (e, elim (is_mark b) [ inl (m, h) ↦ takes m h ∙ ap to_come (w m h) | inr n ↦ unmarked nest.spot _ b n ])
  refused (EarlyEnd i) w = w
  refused (TooDeep i) (e, h, p, l) =
      let q' = Reader.next q open_mark in
      let d = outer_depth q' in
      (e, (symbol (Start Left) ∷ map symbol (outer_of q'), takes open_mark h ∙ placed q' (Start Left) p, omega arith))

  pub stepped : (on : Nest) (r : Result (ControlFlow (Unit {0}) (Unit {0})) TextFault) → Stepped q on b place r → Walks 125 (stack nest) (stack on) b place r
  stepped on (Ok (Continue u)) (m, e, h) = takes m e ∙ (placed (Reader.next q m) on.spot h.at_spot ∙ ap (λ o. some (symbol on.spot ∷ map symbol o)) (sym h.outside))
  stepped on (Ok (Break u)) (e, g, d) = (takes close_mark e ∙ ap to_come d, sym e)
  stepped on (Err f) h = refused f h

pub begins : (nest : Nest) → Stands nest (wants []) → stack nest ≡ text ∷ []
begins nest s = here nest 0 0 (wants []) s
