-- Written edges, read edge by edge: what is left after the last, or that they do not fit a picture.
-- Assumes nothing.
use Rattle.std.proofs.Common.{◌≡◌, ℕ, ◌+◌, ◌<◌, ◌≤◌, true, ◌&&◌, ltb, ◌⊎◌, List, [], ◌∷◌, ◌++◌, map, length, Some, None, Option, sym, refl, ap, ◌∙◌, subst, inl, inr, ⊎_elim, arith}
use Rattle.std.proofs.lemmas.List.{append-nil, append_assoc, length-append}
use Rattle.std.proofs.lemmas.Bool.{cond-true, cond-false, lt-ltb, le-ltb, ltb-true, and_from, and_parts, cases_lt}
use Rattle.hackenbush.specs.declared.edge.Edge.{Edge as Joint}
use Rattle.hackenbush.specs.Hackenbush.{near}
use Rattle.lines.specs.Syntax.{Items, Edge, for_left, for_right, for_both, Colour, hackenbush, numeral, spell_colour, spell_edge, spell_more, items_of}
use Rattle.boards.specs.declared.setup.edges.Edges.{Edges}
use Rattle.boards.specs.declared.setup.edges.Part.TheVariants.{Nothing, First, Dash, Second, Whole}
use Rattle.boards.specs.Boards.{all, paint, joint}
use Rattle.boards.specs.Stepping.{run}
use Rattle.boards.specs.EdgesRead.{edge_step, last_closed, edges_read}
use Rattle.boards.proofs.Running.{run_none, run_append}
use Rattle.boards.proofs.Vertices.{state, vertex_low, vertex_high}

-- the two vertices of an edge
module _ (xs : List Joint) (n : ℕ) where
  from_low : n < 16 → run edge_step (Some (state Nothing xs)) (numeral n) ≡ Some (state (First n) xs)
  from_low h = vertex_low Nothing First (λ d. refl) (λ v d. refl) xs n h

  from_high : 16 ≤ n → run edge_step (Some (state Nothing xs)) (numeral n) ≡ None
  from_high h = vertex_high Nothing First (λ d. refl) (λ v d. refl) xs n h

  to_low : (m : ℕ) → n < 16 → run edge_step (Some (state (Dash m) xs)) (numeral n) ≡ Some (state (Second m n) xs)
  to_low m h = vertex_low (Dash m) (Second m) (λ d. refl) (λ v d. refl) xs n h

  to_high : (m : ℕ) → 16 ≤ n → run edge_step (Some (state (Dash m) xs)) (numeral n) ≡ None
  to_high m h = vertex_high (Dash m) (Second m) (λ d. refl) (λ v d. refl) xs n h

-- one edge more
abbrev push : List Joint → Joint → List Joint
push xs e = xs ++ e ∷ []

one_more : (xs : List Joint) (e : Joint) → length (push xs e) ≡ length xs + 1
one_more xs e = length-append xs (e ∷ [])

module _ (xs : List Joint) (v w : ℕ) where
  abbrev drawn : Colour → Joint
  drawn c = record { from = v; to = w; colour = paint c }

  colour_low : (c : Colour) → length xs < 24 → run edge_step (Some (state (Second v w) xs)) (spell_colour c) ≡ Some (state Whole (push xs (drawn c)))
  colour_low for_left h = cond-true (ltb (length xs) 24) (Some (state Whole (push xs (drawn for_left)))) None (lt-ltb _ _ h)
  colour_low for_right h = cond-true (ltb (length xs) 24) (Some (state Whole (push xs (drawn for_right)))) None (lt-ltb _ _ h)
  colour_low for_both h = cond-true (ltb (length xs) 24) (Some (state Whole (push xs (drawn for_both)))) None (lt-ltb _ _ h)

  colour_none : (c : Colour) → 24 ≤ length xs → run edge_step (Some (state (Second v w) xs)) (spell_colour c) ≡ None
  colour_none for_left h = cond-false (ltb (length xs) 24) (Some (state Whole (push xs (drawn for_left)))) None (le-ltb _ _ h)
  colour_none for_right h = cond-false (ltb (length xs) 24) (Some (state Whole (push xs (drawn for_right)))) None (le-ltb _ _ h)
  colour_none for_both h = cond-false (ltb (length xs) 24) (Some (state Whole (push xs (drawn for_both)))) None (le-ltb _ _ h)

module _ (xs : List Joint) (e : Edge) where
  -- the bytes after the first vertex
  abbrev tail : List ℕ
  tail = numeral e.to ++ spell_colour e.colour

  abbrev edge_run : Option Edges
  edge_run = run edge_step (Some (state Nothing xs)) (spell_edge e)

  -- up to the second vertex, and up to the colour
  to_second : e.from < 16 → edge_run ≡ run edge_step (Some (state (Dash e.from) xs)) tail
  to_second f = run_append edge_step (Some (state Nothing xs)) (numeral e.from) (45 ∷ tail) ∙ ap (λ q. run edge_step q (45 ∷ tail)) (from_low xs e.from f)

  to_colour : e.from < 16 → e.to < 16 → edge_run ≡ run edge_step (Some (state (Second e.from e.to) xs)) (spell_colour e.colour)
  to_colour f t =
      to_second f
      ∙ run_append edge_step (Some (state (Dash e.from) xs)) (numeral e.to) (spell_colour e.colour)
      ∙ ap (λ q. run edge_step q (spell_colour e.colour)) (to_low xs e.to e.from t)

  edge_low : e.from < 16 → e.to < 16 → length xs < 24 → edge_run ≡ Some (state Whole (push xs (joint e)))
  edge_low f t h = to_colour f t ∙ colour_low xs e.from e.to e.colour h

  edge_full : e.from < 16 → e.to < 16 → 24 ≤ length xs → edge_run ≡ None
  edge_full f t h = to_colour f t ∙ colour_none xs e.from e.to e.colour h

  edge_to_high : e.from < 16 → 16 ≤ e.to → edge_run ≡ None
  edge_to_high f t =
      to_second f
      ∙ run_append edge_step (Some (state (Dash e.from) xs)) (numeral e.to) (spell_colour e.colour)
      ∙ ap (λ q. run edge_step q (spell_colour e.colour)) (to_high xs e.to e.from t)
      ∙ run_none edge_step (spell_colour e.colour)

  edge_from_high : 16 ≤ e.from → edge_run ≡ None
  edge_from_high f =
      run_append edge_step (Some (state Nothing xs)) (numeral e.from) (45 ∷ tail)
      ∙ ap (λ q. run edge_step q (45 ∷ tail)) (from_high xs e.from f)
      ∙ run_none edge_step (45 ∷ tail)

-- what reading edges after others leads to
pub record Drawn (xs : List Joint) (es : List Edge) (t : Edges) : Type 0 where
  pub are_near : near (map joint es) ≡ true
  pub taken : t.edges.items ≡ xs ++ map joint es

-- where nothing is left, edges between near vertices would be too many
abbrev pub Outcome : List Joint → List Edge → Option Edges → Type 0
Outcome xs es None = near (map joint es) ≡ true → 24 < length xs + length es
Outcome xs es (Some t) = Drawn xs es t

-- one edge in front
outcome_more : (xs : List Joint) (e : Edge) (es : List Edge) (o : Option Edges) → e.from < 16 → e.to < 16 → Outcome (push xs (joint e)) es o → Outcome xs (e ∷ es) o
outcome_more xs e es None f t out = λ n.
    let k = out (and_parts (ltb e.from 16 && ltb e.to 16) (near (map joint es)) n).1 in
    let m = one_more xs (joint e) in
    omega arith
outcome_more xs e es (Some x) f t out = record {
  are_near = and_from (ltb e.from 16 && ltb e.to 16) _ (and_from (ltb e.from 16) _ (lt-ltb _ _ f) (lt-ltb _ _ t)) out.are_near;
  taken = out.taken ∙ append_assoc xs (joint e ∷ []) (map joint es);
}

outcome_none : (xs : List Joint) → Outcome xs [] (Some (state Whole xs))
outcome_none xs = record { are_near = refl; taken = sym (append-nil xs) }

-- an edge that is refused
module _ (xs : List Joint) (e : Edge) (es : List Edge) where
  far : (16 ≤ e.from) ⊎ (16 ≤ e.to) → Outcome xs (e ∷ es) None
  far u n =
      let p = and_parts (ltb e.from 16) (ltb e.to 16) (and_parts (ltb e.from 16 && ltb e.to 16) (near (map joint es)) n).0 in
      let f = ltb-true e.from 16 p.0 in
      let t = ltb-true e.to 16 p.1 in
      ⊎_elim (λ h. absurd (omega arith)) (λ h. absurd (omega arith)) u

  full : 24 ≤ length xs → Outcome xs (e ∷ es) None
  full h n = omega arith

-- the bytes after the first edge
abbrev pub rest_of : List Edge → List ℕ
rest_of es = spell_more (44 ∷ []) spell_edge es

-- what is left when the bytes are read to their end
abbrev left_by : Option Edges → List ℕ → Option Edges
left_by q t = last_closed (run edge_step q t)

module _ (xs : List Joint) (e : Edge) (es : List Edge) (rest : List ℕ) where
  abbrev Follows : Option Edges → Type 0
  Follows q = Outcome xs (e ∷ es) (left_by q rest)

  after_edge : (q : Option Edges) → edge_run xs e ≡ q → Follows q → Outcome xs (e ∷ es) (left_by (Some (state Nothing xs)) (spell_edge e ++ rest))
  after_edge q r out = subst (λ q. Outcome xs (e ∷ es) (last_closed q)) (sym (run_append edge_step (Some (state Nothing xs)) (spell_edge e) rest ∙ ap (λ q. run edge_step q rest) r)) out

  refused : edge_run xs e ≡ None → Outcome xs (e ∷ es) None → Outcome xs (e ∷ es) (left_by (Some (state Nothing xs)) (spell_edge e ++ rest))
  refused r out = after_edge None r (subst (λ q. Outcome xs (e ∷ es) (last_closed q)) (sym (run_none edge_step rest)) out)

  -- the first edge is taken, or refused
  first_edge : Outcome (push xs (joint e)) es (left_by (Some (state Whole (push xs (joint e)))) rest) → Outcome xs (e ∷ es) (left_by (Some (state Nothing xs)) (spell_edge e ++ rest))
  first_edge goes_on = ⊎_elim
      (λ f. ⊎_elim
      (λ t. ⊎_elim
      (λ h. after_edge (Some (state Whole (push xs (joint e)))) (edge_low xs e f t h) (outcome_more xs e es _ f t goes_on))
      (λ h. refused (edge_full xs e f t h) (full xs e es h))
      (cases_lt (length xs) 24))
      (λ t. refused (edge_to_high xs e f t) (far xs e es (inr t)))
      (cases_lt e.to 16))
      (λ f. refused (edge_from_high xs e f) (far xs e es (inl f)))
      (cases_lt e.from 16)

edges_run : (xs : List Joint) (e : Edge) (es : List Edge) → Outcome xs (e ∷ es) (left_by (Some (state Nothing xs)) (spell_edge e ++ rest_of es))
edges_run xs e [] = first_edge xs e [] [] (outcome_none (push xs (joint e)))
edges_run xs e (second ∷ es) = first_edge xs e (second ∷ es) (rest_of (second ∷ es)) (edges_run (push xs (joint e)) second es)

-- all the edges of a picture
pub edges_outcome : (edges : Items Edge) → Outcome [] (all edges) (edges_read (items_of (hackenbush edges)))
edges_outcome edges = edges_run [] edges.first edges.more
