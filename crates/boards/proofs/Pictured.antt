-- A Hackenbush picture set up from its written edges.
-- Assumes nothing.
use Rattle.std.proofs.Common.{◌≡◌, ℕ, ◌-◌, ◌*◌, ◌%◌, ◌^◌, true, false, ◌&&◌, leb, List, [], length, Some, None, Option, sym, ap, ◌∙◌, subst, ⊎_elim, arith}
use Rattle.std.proofs.lemmas.List.{length-map}
use Rattle.std.proofs.lemmas.Bool.{cond-true, cond-false, cases_Bool, and_parts}
use Rattle.rulesets.specs.Rules.{Rules}
use Rattle.bits.proofs.Words.{one_shl_64}
use Rattle.hackenbush.specs.declared.edge.Edge.{Edge as Joint}
use Rattle.hackenbush.specs.Hackenbush.{hackenbush as hackenbush_rules, fits, near}
use Rattle.hackenbush.specs.Reading.{fits_length}
use Rattle.lines.specs.Syntax.{Items, Edge, hackenbush, items_of}
use Rattle.boards.specs.declared.setup.edges.Edges.{Edges}
use Rattle.boards.specs.Boards.{all, joint, joints, edges_position, meaning}
use Rattle.boards.specs.EdgesRead.{edges_read}
use Rattle.boards.proofs.Same.{at_code, same_position}
use Rattle.boards.proofs.EdgeByEdge.{Outcome, edges_outcome}

module _ (text : List ℕ) (edges : Items Edge) (e : text ≡ items_of (hackenbush edges)) where
  outcome : (o : Option Edges) → o ≡ edges_read text → Outcome [] (all edges) o
  outcome o r = subst (Outcome [] (all edges)) (sym (r ∙ ap edges_read e)) (edges_outcome edges)

  -- too many edges, or a vertex that is too high
  pub edges_refused : None ≡ edges_read text → meaning (hackenbush edges) ≡ None
  edges_refused r = ⊎_elim
      (λ h.
      let n = (fits_length (joints edges) h).1 in
      let k = outcome None r (and_parts (leb 1 (length (joints edges)) && leb (length (joints edges)) 24) (near (joints edges)) h).1 in
      let m = length-map (all edges) joint in
      absurd (omega arith))
      (λ h. cond-false (fits (joints edges)) (Some (edges_position edges)) None h)
      (cases_Bool (fits (joints edges)))

  -- the edges that were read, as the slice that is asked for a picture
  module _ (t : Edges) (r : Some t ≡ edges_read text) (xs : List Joint) (q : xs ≡ t.edges.items) where
    joints_are : xs ≡ joints edges
    joints_are = q ∙ (outcome (Some t) r).taken

    pub picture_set : (R : Rules) (n : ℕ) → fits xs ≡ true → R ≡ hackenbush_rules xs → n ≡ length t.edges.items → meaning (hackenbush edges) ≡ at_code R (1 * 2 ^ n % 18446744073709551616 - 1)
    picture_set R n f p k =
        let few = (fits_length xs f).1 in
        let as_many = ap length q in
        let code_is : 1 * 2 ^ n % 18446744073709551616 - 1 ≡ 2 ^ length (joints edges) - 1 = ap (λ m. m - 1) (one_shl_64 n (omega arith)) ∙ ap (λ m. 2 ^ m - 1) (k ∙ sym as_many ∙ ap length joints_are) in
        cond-true (fits (joints edges)) (Some (edges_position edges)) None (ap fits (sym joints_are) ∙ f)
        ∙ same_position (sym (p ∙ ap hackenbush_rules joints_are)) (sym code_is)

    pub picture_refused : fits xs ≡ false → meaning (hackenbush edges) ≡ None
    picture_refused f = cond-false (fits (joints edges)) (Some (edges_position edges)) None (ap fits (sym joints_are) ∙ f)
