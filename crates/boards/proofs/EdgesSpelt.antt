-- Bytes that are read as edges spell them.
-- Assumes nothing.
use Rattle.std.proofs.Common.{◌≡◌, ℕ, zero, suc, ◌+◌, ◌-◌, ◌*◌, ◌<◌, ◌≤◌, cond, ◌&&◌, eqb, leb, ltb, List, [], ◌∷◌, ◌++◌, length, Some, None, Option, sym, refl, ap, ◌∙◌, subst, ap₂, arith}
use Rattle.std.specs.Option.{option_map}
use Rattle.std.proofs.lemmas.List.{append_assoc}
use Rattle.std.proofs.lemmas.Bool.{cond_both, ltb-true, leb-true, eqb-true, and_parts}
use Rattle.hackenbush.specs.declared.edge.Colour.TheVariants.{Left, Right, Both}
use Rattle.lines.specs.Syntax.{Items, Edge, Colour, for_left, for_right, for_both, hackenbush, numeral, spell_colour, spell_edge, items_of}
use Rattle.lines.proofs.Numerals.{ascii, numeral_zero, numeral_one, numeral_more}
use Rattle.boards.specs.declared.setup.edges.Edges.{Edges}
use Rattle.boards.specs.declared.setup.edges.Part.{Part}
use Rattle.boards.specs.declared.setup.edges.Part.TheVariants.{Nothing, First, Dash, Second, Whole}
use Rattle.boards.specs.Boards.{paint}
use Rattle.boards.specs.Stepping.{run}
use Rattle.boards.specs.EdgesRead.{no_edges, with_part, longer, part_read, digit_read, dashed, dash_read, drawn, colour_read, followed, comma_read, edge_step, if_whole, last_closed, edges_read}
use Rattle.boards.proofs.Running.{run_none}
use Rattle.boards.proofs.EdgeByEdge.{rest_of}

-- the bytes spell an edge and those after it, or only those after one
record AnEdge (bytes : List ℕ) : Type 0 where
  edge : Edge
  more : List Edge
  spells : bytes ≡ spell_edge edge ++ rest_of more

record After (bytes : List ℕ) : Type 0 where
  more : List Edge
  spells : bytes ≡ rest_of more

-- behind what was read of an edge
abbrev Spelt : Part → List ℕ → Type 0
Spelt Nothing t = AnEdge t
Spelt (First v) t = AnEdge (numeral v ++ t)
Spelt (Dash v) t = AnEdge (numeral v ++ 45 ∷ t)
Spelt (Second v w) t = AnEdge (numeral v ++ 45 ∷ (numeral w ++ t))
Spelt Whole t = After t

-- the first digit of a numeral, and one digit more
a_digit : (d : ℕ) (t : List ℕ) → d < 10 → numeral d ++ t ≡ ascii d ∷ t
a_digit zero t h = ap (λ ds. ds ++ t) numeral_zero
a_digit (suc d) t h = ap (λ ds. ds ++ t) (numeral_one (suc d) (omega arith) h)

more_digits : (v d : ℕ) (t : List ℕ) → 0 < v → d < 10 → numeral (v * 10 + d) ++ t ≡ numeral v ++ ascii d ∷ t
more_digits v d t p h = ap (λ ds. ds ++ t) (numeral_more v d p h) ∙ append_assoc (numeral v) (ascii d ∷ []) t

at_end : (s : Edges) (r : Edges) (p : Part) → if_whole s p ≡ Some r → Spelt p []
at_end s r Whole g = record { more = []; spells = refl }
at_end s r Nothing g = let z : ◌≡◌ {A = ℕ} 0 1 = cc in absurd (omega arith)
at_end s r (First v) g = let z : ◌≡◌ {A = ℕ} 0 1 = cc in absurd (omega arith)
at_end s r (Dash v) g = let z : ◌≡◌ {A = ℕ} 0 1 = cc in absurd (omega arith)
at_end s r (Second v w) g = let z : ◌≡◌ {A = ℕ} 0 1 = cc in absurd (omega arith)

-- the bytes that are no digits
abbrev from_comma : Edges → ℕ → Option Edges
from_comma s b = cond (eqb b 44) (comma_read s) None

abbrev from_both : Edges → ℕ → Option Edges
from_both s b = cond (eqb b 66) (colour_read s Both) (from_comma s b)

abbrev from_right : Edges → ℕ → Option Edges
from_right s b = cond (eqb b 82) (colour_read s Right) (from_both s b)

abbrev from_left : Edges → ℕ → Option Edges
from_left s b = cond (eqb b 76) (colour_read s Left) (from_right s b)

abbrev signs : Edges → ℕ → Option Edges
signs s b = cond (eqb b 45) (dash_read s) (from_left s b)

-- a byte in front of bytes that, from any state, spell what they are read as
module _ (s : Edges) (b : ℕ) (t : List ℕ) (r : Edges) (goes_on : (s : Edges) → last_closed (run edge_step (Some s) t) ≡ Some r → Spelt s.part t) where
  abbrev Reads : Part → Option Edges → Type 0
  Reads p o = last_closed (run edge_step o t) ≡ Some r → Spelt p (b ∷ t)

  stops : (p : Part) → Reads p None
  stops p g =
      let n : None ≡ Some r = sym (ap last_closed (run_none edge_step t)) ∙ g in
      let z : ◌≡◌ {A = ℕ} 0 1 = cc in
      absurd (omega arith)

  module _ (d : ℕ) (e : ascii d ≡ b) (h : d < 10) where
    lengthened : (p : Part) (holding : ℕ → Part) (v : ℕ) → (0 < v → Spelt (holding (v * 10 + d)) t → Spelt p (b ∷ t)) → Reads p (option_map (with_part s) (option_map holding (longer v d)))
    lengthened p holding v grows =
        cond_both (ltb 0 v && ltb (v * 10 + d) 16) (Some (v * 10 + d)) None (λ o. Reads p (option_map (with_part s) (option_map holding o)))
        (λ k g. grows (ltb-true 0 v (and_parts (ltb 0 v) (ltb (v * 10 + d) 16) k).0) (goes_on _ g))
        (λ k. stops p)

    digit : (p : Part) → Reads p (option_map (with_part s) (part_read p d))
    digit Nothing = λ g. subst AnEdge (a_digit d t h ∙ ap (λ c. c ∷ t) e) (goes_on _ g)
    digit (First v) = lengthened (First v) First v (λ p. subst AnEdge (more_digits v d t p h ∙ ap (λ c. numeral v ++ c ∷ t) e))
    digit (Dash v) = λ g. subst (λ u. AnEdge (numeral v ++ 45 ∷ u)) (a_digit d t h ∙ ap (λ c. c ∷ t) e) (goes_on _ g)
    digit (Second v w) = lengthened (Second v w) (Second v) w (λ p. subst (λ u. AnEdge (numeral v ++ 45 ∷ u)) (more_digits w d t p h ∙ ap (λ c. numeral w ++ c ∷ t) e))
    digit Whole = stops Whole

  dash : b ≡ 45 → (p : Part) → Reads p (option_map (with_part s) (dashed p))
  dash e (First v) = λ g. subst (λ c. AnEdge (numeral v ++ c ∷ t)) (sym e) (goes_on _ g)
  dash e Nothing = stops Nothing
  dash e (Dash v) = stops (Dash v)
  dash e (Second v w) = stops (Second v w)
  dash e Whole = stops Whole

  colour : (c : Colour) → b ∷ [] ≡ spell_colour c → (p : Part) → Reads p (drawn s p (paint c))
  colour c e (Second v w) =
      cond_both (ltb (length s.edges.items) 24) (Some (record { part = Whole; edges = record { items = s.edges.items ++ record { from = v; to = w; colour = paint c } ∷ [] } })) None (Reads (Second v w))
      (λ h g.
      let k = goes_on _ g in
      record {
        edge = record { from = v; to = w; colour = c };
        more = k.more;
        spells =
            ap (λ u. numeral v ++ 45 ∷ (numeral w ++ u)) (ap₂ ◌++◌ e k.spells)
            ∙ sym (append_assoc (numeral v) (45 ∷ (numeral w ++ spell_colour c)) (rest_of k.more) ∙ ap (λ u. numeral v ++ 45 ∷ u) (append_assoc (numeral w) (spell_colour c) (rest_of k.more)));
      })
      (λ h. stops (Second v w))
  colour c e Nothing = stops Nothing
  colour c e (First v) = stops (First v)
  colour c e (Dash v) = stops (Dash v)
  colour c e Whole = stops Whole

  comma : b ≡ 44 → (p : Part) → Reads p (option_map (with_part s) (followed p))
  comma e Whole = λ g. let k = goes_on _ g in record { more = k.edge ∷ k.more; spells = ap₂ ◌∷◌ e k.spells }
  comma e Nothing = stops Nothing
  comma e (First v) = stops (First v)
  comma e (Dash v) = stops (Dash v)
  comma e (Second v w) = stops (Second v w)

  one_sign : Reads s.part (signs s b)
  one_sign =
      cond_both (eqb b 45) (dash_read s) (from_left s b) (Reads s.part)
      (λ h. dash (eqb-true b 45 h) s.part)
      (λ _. cond_both (eqb b 76) (colour_read s Left) (from_right s b) (Reads s.part)
      (λ h. colour for_left (ap (λ c. c ∷ []) (eqb-true b 76 h)) s.part)
      (λ _. cond_both (eqb b 82) (colour_read s Right) (from_both s b) (Reads s.part)
      (λ h. colour for_right (ap (λ c. c ∷ []) (eqb-true b 82 h)) s.part)
      (λ _. cond_both (eqb b 66) (colour_read s Both) (from_comma s b) (Reads s.part)
      (λ h. colour for_both (ap (λ c. c ∷ []) (eqb-true b 66 h)) s.part)
      (λ _. cond_both (eqb b 44) (comma_read s) None (Reads s.part)
      (λ h. comma (eqb-true b 44 h) s.part)
      (λ _. stops s.part)))))

  one_byte : Reads s.part (edge_step s b)
  one_byte =
      cond_both (leb 48 b && leb b 57) (digit_read s (b - 48)) (signs s b) (Reads s.part)
      (λ h.
      let p = and_parts (leb 48 b) (leb b 57) h in
      let l : 48 ≤ b = leb-true 48 b p.0 in
      let m : b ≤ 57 = leb-true b 57 p.1 in
      digit (b - 48) (omega arith) (omega arith) s.part)
      (λ _. one_sign)

spelt_on : (t : List ℕ) (r : Edges) (s : Edges) → last_closed (run edge_step (Some s) t) ≡ Some r → Spelt s.part t
spelt_on [] r s g = at_end s r s.part g
spelt_on (b ∷ t) r s g = one_byte s b t r (spelt_on t r) g

-- all the edges
pub edges_spelt : (t : List ℕ) (r : Edges) → edges_read t ≡ Some r → (edges : Items Edge) × (t ≡ items_of (hackenbush edges))
edges_spelt t r g =
    let w = spelt_on t r no_edges g in
    (record { first = w.edge; more = w.more }, w.spells)
