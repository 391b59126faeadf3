-- What an evaluator's proof needs: successors valued one after the other, and then their position sealed by the numbers answered.
-- Assumes nothing.
use Rattle.std.proofs.Common.{◌≡◌, ℕ, ◌+◌, ◌<◌, List, [], ◌∷◌, ◌++◌, length, get_or, Some, None, sym, refl, ap, ◌∙◌, subst, ap₂, subst₂, append_assoc, append-nil, arith}
use Rattle.std.specs.List.{flat_map}
use Rattle.std.proofs.lemmas.List.{length-append, length-map, get_or_append_left, get_or-append-add, get_or_at}
use Rattle.games.specs.declared.side.Side.TheVariants.{Left, Right}
use Rattle.games.specs.Form.{Form, Forms, ∅, ◌&◌, ◌⧺◌}
use Rattle.games.specs.Order.{◌≈◌}
use Rattle.games.specs.Numbered.{each, form_by}
use Rattle.rulesets.specs.Rules.{Rules, Lawful, successors, game}
use Rattle.rulesets.proofs.Positions.{game_law}
use Rattle.calls.specs.Rows.{Rows, node, first}
use Rattle.calls.specs.Positions.{order}
use Rattle.calls.specs.Answers.{Answer, told, refused, refused_at}
use Rattle.calls.specs.Sealing.{Seals, too_wide, no_place, SealsNumbers}
use Rattle.calls.specs.Entering.{Entry, entry, parts, parts_of_all, place_after, SealsInTurn, done, next, stop, Enters, accepted, ended}
use Rattle.calls.specs.Laws.{Equal, none_left, equal_next}
use Rattle.calls.specs.Valuing.{Valuing}
use Rattle.calls.proofs.Sealing.{Extends, extends_known}
use Rattle.calls.proofs.Entering.{turn_grows, turn_snoc}
use Rattle.calls.proofs.Turns.{turn_then, turn_stop}
use Rattle.calls.proofs.Ones.{sealing_goes_by_numbers}
use Rattle.calls.proofs.Positions.{order_law, order_unfolds}

pub turn_length : {c : ℕ} {a b : Rows} {gs : List Form} {es : List Entry} → SealsInTurn c a gs None b es → length es ≡ length gs
turn_length done = refl
turn_length (next {g = g} {n = n} {es = es} s t) = let k = turn_length t in let l = length-append es (entry n g ∷ []) in omega arith

turn_short : {c k : ℕ} {a b : Rows} {gs : List Form} {es : List Entry} → SealsInTurn c a gs (Some k) b es → length es < length gs
turn_short (next {g = g} {n = n} {es = es} s t) = let k = turn_short t in let l = length-append es (entry n g ∷ []) in omega arith
turn_short (stop s) = omega arith

pub refused_same : {c k : ℕ} {a b : Rows} {g : Form} → Seals c a g (refused k) b → b ≡ a
refused_same (too_wide n h f w) = refl
refused_same (no_place n h f w l) = refl

pub each_++ : (f : ℕ → Form) (ms ns : List ℕ) → each f (ms ++ ns) ≡ each f ms ⧺ each f ns
each_++ f [] ns = refl
each_++ f (m ∷ ms) ns = ap (λ l. f m & l) (each_++ f ms ns)

pub parts_⧺ : (xs ys : Forms) → parts_of_all (xs ⧺ ys) ≡ parts_of_all xs ++ parts_of_all ys
parts_⧺ ∅ ys = refl
parts_⧺ (x & xs) ys = ap (λ l. parts x ++ l) (parts_⧺ xs ys) ∙ sym (append_assoc (parts x) (parts_of_all xs) (parts_of_all ys))

pub equal_extends : {a b : Rows} {ns : List ℕ} {gs : Forms} → Extends a b → Equal a ns gs → Equal b ns gs
equal_extends x none_left = none_left
equal_extends x (equal_next {n = n} k e r) = let y = extends_known x (record { at = n; inside = k; equals = e }) in equal_next y.inside y.equals (equal_extends x r)

pub equal_push : {a : Rows} {ns : List ℕ} {gs : Forms} {n : ℕ} {g : Form} → Equal a ns gs → n < length a → node a n ≈ g → Equal a (ns ++ n ∷ []) (gs ⧺ (g & ∅))
equal_push none_left k e = equal_next k e none_left
equal_push (equal_next i d r) k e = equal_next i d (equal_push r k e)

module _ (R : Rules) (lawful : Lawful R) (c : ℕ) where
  pub valuing_none : (a : Rows) → Valuing R c a [] [] a []
  valuing_none a = record { turn = done; equal = none_left }

  parts_snoc : (ms rest : List ℕ) (m : ℕ) → parts_of_all (each (game R) (ms ++ m ∷ rest)) ≡ parts_of_all (each (game R) ms) ++ (parts (game R m) ++ parts_of_all (each (game R) rest))
  parts_snoc ms rest m = ap parts_of_all (each_++ (game R) ms (m ∷ rest)) ∙ parts_⧺ (each (game R) ms) (each (game R) (m ∷ rest))

  pub valuing_more : (ms : List ℕ) (m : ℕ) {a b d : Rows} {ns ps : List ℕ} {n : ℕ} {es fs : List Entry} → Valuing R c a ms ns b es → Enters c b (game R m) ps (told n) d fs → Valuing R c a (ms ++ m ∷ []) (ns ++ n ∷ []) d (fs ++ es)
  valuing_more ms m v (accepted t) =
      let z = (turn_grows t).right _ first in
      record {
        turn = rw (parts_snoc ms [] m, append-nil (parts (game R m))) (turn_then v.turn t);
        equal = rw (each_++ (game R) ms (m ∷ [])) (equal_push (equal_extends (turn_grows t).extends v.equal) z.inside z.equals);
      }

  joined_parts : (ms : List ℕ) → length (flat_map (order R) ms) ≡ length (parts_of_all (each (game R) ms))
  joined_parts [] = refl
  joined_parts (m ∷ ms) =
      let k = joined_parts ms in
      let l = length-append (order R m) (flat_map (order R) ms) in
      let p = length-append (parts (game R m)) (parts_of_all (each (game R) ms)) in
      let q = ap length (order_law R lawful m) in
      let r = length-map (order R m) (game R) in
      omega arith

  joined_++ : (ms ns : List ℕ) → flat_map (order R) (ms ++ ns) ≡ flat_map (order R) ms ++ flat_map (order R) ns
  joined_++ [] ns = refl
  joined_++ (m ∷ ms) ns = ap (λ l. order R m ++ l) (joined_++ ms ns) ∙ sym (append_assoc (order R m) (flat_map (order R) ms) (flat_map (order R) ns))

  -- a refusal met while a successor is valued
  pub valuing_stops : (ms rest : List ℕ) (m : ℕ) {a b d : Rows} {ns : List ℕ} {k : ℕ} {es fs : List Entry} {at : ℕ}
      → Valuing R c a ms ns b es → Enters c b (game R m) (order R m) (refused_at k at) d fs
      → SealsInTurn c a (parts_of_all (each (game R) (ms ++ m ∷ rest))) (Some k) d (fs ++ es) × (at ≡ place_after (fs ++ es) (flat_map (order R) (ms ++ m ∷ rest)))
  valuing_stops ms rest m {es = es} {fs = fs} v (ended t) =
      let j = flat_map (order R) ms in
      let x = flat_map (order R) rest in
      let o = order R m in
      let ll = joined_parts ms in
      let le = turn_length v.turn in
      let lf = turn_short t in
      let lo = ap length (order_law R lawful m) in
      let lm = length-map (order R m) (game R) in
      let la = length-append fs es in
      let e₁ : length (fs ++ es) ≡ length j + length fs = omega arith in
      let e₂ : place_after (fs ++ es) (flat_map (order R) (ms ++ m ∷ rest)) ≡ get_or (j ++ (o ++ x)) (length j + length fs) 0 = ap₂ (λ l n. get_or l n 0) (joined_++ ms (m ∷ rest)) e₁ in
      let e₃ = get_or-append-add j (o ++ x) (length fs) 0 in
      let e₄ = get_or_append_left o x 0 (length fs) (omega arith) in
      (rw (parts_snoc ms rest m) (turn_then v.turn (turn_stop (parts_of_all (each (game R) rest)) t)), sym (e₂ ∙ (e₃ ∙ e₄)))

  -- the numbers answered are what is sealed
  sealed_form : {b d after : Rows} {ls rs : List ℕ} {x : Answer ℕ} {a : Rows} {es fs : List Entry} (code : ℕ)
      → Valuing R c a (R.moves Left code) ls b es → Valuing R c b (R.moves Right code) rs d fs → SealsNumbers c d (record { left = ls; right = rs }) x after → Seals c d (form_by (game R) (successors R code)) x after
  sealed_form {d = d} {after} {ls} {rs} {x} code v w s =
      (sealing_goes_by_numbers c d after x (record { left = ls; right = rs }) (form_by (game R) (successors R code)) (equal_extends (turn_grows w.turn).extends v.equal) w.equal).0 s

  -- the position itself
  pub position_sealed : {a b d after : Rows} {ls rs : List ℕ} {n : ℕ} {es fs : List Entry} (code : ℕ)
      → Valuing R c a (R.moves Left code) ls b es → Valuing R c b (R.moves Right code) rs d fs → SealsNumbers c d (record { left = ls; right = rs }) (told n) after
      → Enters c a (game R code) (order R code) (told n) after (entry n (game R code) ∷ (fs ++ es))
  position_sealed {a} {after = after} {n = n} {es = es} {fs = fs} code v w s =
      accepted (subst (λ g. SealsInTurn c a (parts g) None after (entry n g ∷ (fs ++ es))) (sym (game_law R lawful code)) (turn_then v.turn (turn_snoc w.turn (sealed_form code v w s))))

  pub position_refused : {a b d after : Rows} {ls rs : List ℕ} {k : ℕ} {es fs : List Entry} (code : ℕ)
      → Valuing R c a (R.moves Left code) ls b es → Valuing R c b (R.moves Right code) rs d fs → SealsNumbers c d (record { left = ls; right = rs }) (refused k) after
      → Enters c a (game R code) (order R code) (refused_at k code) after (fs ++ es)
  position_refused {a} {d = d} {after = after} {k = k} {es = es} {fs = fs} code v w s =
      let j = flat_map (order R) (R.moves Left code) in
      let i = flat_map (order R) (R.moves Right code) in
      let f = form_by (game R) (successors R code) in
      let x : Seals c d f (refused k) after = sealed_form code v w s in
      let same : after ≡ d = refused_same x in
      let y : Seals c d f (refused k) d = subst (λ z. Seals c d f (refused k) z) same x in
      let t : SealsInTurn c a (parts f) (Some k) d (fs ++ es) = turn_then v.turn (turn_then w.turn (stop y)) in
      let u : SealsInTurn c a (parts (game R code)) (Some k) after (fs ++ es) = subst₂ (λ g z. SealsInTurn c a (parts g) (Some k) z (fs ++ es)) (sym (game_law R lawful code)) (sym same) t in
      let le = turn_length v.turn in
      let lf = turn_length w.turn in
      let lj = joined_parts (R.moves Left code) in
      let li = joined_parts (R.moves Right code) in
      let la = length-append fs es in
      let lb = length-append j i in
      let e₁ : order R code ≡ (j ++ i) ++ code ∷ [] = order_unfolds R lawful code ∙ sym (append_assoc j i (code ∷ [])) in
      let e₂ : place_after (fs ++ es) (order R code) ≡ code = ap (λ l. get_or l (length (fs ++ es)) 0) e₁ ∙ get_or_at (j ++ i) code [] 0 (length (fs ++ es)) (omega arith) in
      subst (λ p. Enters c a (game R code) (order R code) (refused_at k p) after (fs ++ es)) e₂ (ended u)

  stops_whole : (code k : ℕ) (a d : Rows) (es : List Entry) (p : ℕ) → SealsInTurn c a (parts (form_by (game R) (successors R code))) (Some k) d es
      → p ≡ place_after es (flat_map (order R) (R.moves Left code) ++ (flat_map (order R) (R.moves Right code) ++ code ∷ [])) → Enters c a (game R code) (order R code) (refused_at k p) d es
  stops_whole code k a d es p t e =
      let u = subst (λ g. SealsInTurn c a (parts g) (Some k) d es) (sym (game_law R lawful code)) t in
      subst (λ q. Enters c a (game R code) (order R code) (refused_at k q) d es) (sym (e ∙ ap (place_after es) (sym (order_unfolds R lawful code)))) (ended u)

  -- a refusal in a Left successor
  pub stops_left : (code : ℕ) (ms rest : List ℕ) (m : ℕ) {a b d : Rows} {ns : List ℕ} {k : ℕ} {es fs : List Entry} {at : ℕ} → R.moves Left code ≡ ms ++ m ∷ rest
      → Valuing R c a ms ns b es → Enters c b (game R m) (order R m) (refused_at k at) d fs → Enters c a (game R code) (order R code) (refused_at k at) d (fs ++ es)
  stops_left code ms rest m {a = a} {d = d} {k = k} {es = es} {fs = fs} {at = at} e v x =
      let lm = R.moves Left code in
      let (t, p) = valuing_stops ms rest m v x in
      let t' : SealsInTurn c a (parts_of_all (each (game R) lm)) (Some k) d (fs ++ es) = rw e t in
      let p' : at ≡ place_after (fs ++ es) (flat_map (order R) lm) = rw e p in
      let short = turn_short t' in
      let same = joined_parts lm in
      let tail = flat_map (order R) (R.moves Right code) ++ code ∷ [] in
      stops_whole code k a d (fs ++ es) at (turn_stop (parts_of_all (each (game R) (R.moves Right code)) ++ form_by (game R) (successors R code) ∷ []) t')
      (p' ∙ sym (get_or_append_left (flat_map (order R) lm) tail 0 (length (fs ++ es)) (omega arith)))

  -- a refusal in a Right successor, the Left ones being valued
  pub stops_right : (code : ℕ) (ms rest : List ℕ) (m : ℕ) {a b₀ b d : Rows} {ls ns : List ℕ} {k : ℕ} {gs es fs : List Entry} {at : ℕ} → R.moves Right code ≡ ms ++ m ∷ rest
      → Valuing R c a (R.moves Left code) ls b₀ gs → Valuing R c b₀ ms ns b es → Enters c b (game R m) (order R m) (refused_at k at) d fs
      → Enters c a (game R code) (order R code) (refused_at k at) d ((fs ++ es) ++ gs)
  stops_right code ms rest m {a = a} {b₀ = b₀} {d = d} {k = k} {gs = gs} {es = es} {fs = fs} {at = at} e l v x =
      let rm = R.moves Right code in
      let lm = R.moves Left code in
      let (t, p) = valuing_stops ms rest m v x in
      let t' : SealsInTurn c b₀ (parts_of_all (each (game R) rm)) (Some k) d (fs ++ es) = rw e t in
      let p' : at ≡ place_after (fs ++ es) (flat_map (order R) rm) = rw e p in
      let short = turn_short t' in
      let same = joined_parts rm in
      let lj = joined_parts lm in
      let lg = turn_length l.turn in
      let la = length-append (fs ++ es) gs in
      let j = flat_map (order R) lm in
      let i = flat_map (order R) rm in
      let e₁ : length ((fs ++ es) ++ gs) ≡ length j + length (fs ++ es) = omega arith in
      let e₂ : place_after ((fs ++ es) ++ gs) (j ++ (i ++ code ∷ [])) ≡ get_or (j ++ (i ++ code ∷ [])) (length j + length (fs ++ es)) 0 = ap (λ n. get_or (j ++ (i ++ code ∷ [])) n 0) e₁ in
      let e₃ = get_or-append-add j (i ++ code ∷ []) (length (fs ++ es)) 0 in
      let e₄ = get_or_append_left i (code ∷ []) 0 (length (fs ++ es)) (omega arith) in
      stops_whole code k a d ((fs ++ es) ++ gs) at (turn_then l.turn (turn_stop (form_by (game R) (successors R code) ∷ []) t')) (p' ∙ sym (e₂ ∙ (e₃ ∙ e₄)))
