-- What a walk through the listed nodes says of the listing order of forms.
-- Assumes nothing.
use Rattle.std.proofs.Common.{◌≡◌, ℕ, ◌<◌, ◌≤◌, Bool, true, false, cond, ◌||◌, eqb, List, [], ◌∷◌, length, get_or, filter, Less, Greater, sym, refl, ap, ◌∙◌, subst, ap₂, inl, inr, arith}
use Rattle.std.proofs.lemmas.Bool.{or_left, or_right, or_cases, or_parts, eqb-true, eq-eqb, false≢true}
use Rattle.games.specs.declared.side.Side.{Side}
use Rattle.games.specs.declared.side.Side.TheVariants.{Left, Right}
use Rattle.games.specs.Form.{Form, Forms, form, ∅, ◌&◌, ◌∈◌, here, there}
use Rattle.games.specs.Sides.{options}
use Rattle.games.specs.Numbered.{each}
use Rattle.games.specs.Listing.{listing, listings, or_else, Rising}
use Rattle.games.proofs.Form.{∈_cases}
use Rattle.games.proofs.Sides.{same_options}
use Rattle.games.proofs.Sort.{rising_cons}
use Rattle.games.proofs.Listing.{listing_self, listing_turn, rising_tail, rising_first, rising_same}
use Rattle.nodesets.specs.Pairs.{Sets}
use Rattle.sealing.specs.Forms.{none, node, game}
use Rattle.sealing.specs.Invariants.{Lower}
use Rattle.sealing.specs.Walks.{any_of, walk_step, walk_order, pair_order, Complete}
use Rattle.sealing.proofs.Forming.{game_back, game_into, game_rises, node_back, node_into, node_rises}

-- the forms of the listed nodes that are in the set
abbrev pub walked : (ℕ → Form) → (ℕ → Bool) → List ℕ → Forms
walked f p [] = ∅
walked f p (k ∷ ks) = cond (p k) (f k & walked f p ks) (walked f p ks)

pub walked_each : (f : ℕ → Form) (p : ℕ → Bool) (ks : List ℕ) → walked f p ks ≡ each f (filter p ks)
walked_each f p [] = refl
walked_each f p (k ∷ ks) = go (p k) (walked_each f p ks)
  where
    go : (b : Bool) → walked f p ks ≡ each f (filter p ks) → cond b (f k & walked f p ks) (walked f p ks) ≡ each f (cond b (k ∷ filter p ks) (filter p ks))
    go true e = ap (λ xs. f k & xs) e
    go false e = e

abbrev pub everyone : ℕ → Bool
everyone k = true

pub walked_all : (f : ℕ → Form) (ks : List ℕ) → walked f everyone ks ≡ each f ks
walked_all f [] = refl
walked_all f (k ∷ ks) = ap (λ xs. f k & xs) (walked_all f ks)

-- the members of a walk
pub walked_back : (f : ℕ → Form) (p : ℕ → Bool) (ks : List ℕ) (x : Form) → x ∈ walked f p ks → (k : ℕ) × (p k ≡ true) × (x ≡ f k) × (any_of (λ j. eqb j k) ks ≡ true)
walked_back f p [] x m = elim m [ ]
walked_back f p (k ∷ ks) x m = go (p k) refl (λ w n. walked_back f p ks w n) m
  where
    At : Form → List ℕ → Type 0
    At w js = (j : ℕ) × (p j ≡ true) × (w ≡ f j) × (any_of (λ i. eqb i j) js ≡ true)

    up : (w : Form) → At w ks → At w (k ∷ ks)
    up w (j, a, b, c) = (j, a, b, or_right (eqb k j) _ c)

    go : (b : Bool) → p k ≡ b → ((w : Form) → w ∈ walked f p ks → At w ks) → x ∈ cond b (f k & walked f p ks) (walked f p ks) → At x (k ∷ ks)
    go true e rec n = ∈_cases (λ w. At w (k ∷ ks)) (k, e, refl, or_left (eqb k k) _ (eq-eqb k k refl)) (λ w o. up w (rec w o)) x n
    go false e rec n = up x (rec x n)

pub walked_into : (f : ℕ → Form) (p : ℕ → Bool) (ks : List ℕ) (k : ℕ) → any_of (λ j. eqb j k) ks ≡ true → p k ≡ true → f k ∈ walked f p ks
walked_into f p [] k t u = absurd (false≢true t)
walked_into f p (j ∷ ks) k t u = elim (or_cases (eqb j k) (any_of (λ i. eqb i k) ks) t) [
  | inl e ↦ first (eqb-true j k e)
  | inr e ↦ later (p j) refl (walked_into f p ks k e u)
]
  where
    first : j ≡ k → f k ∈ cond (p j) (f j & walked f p ks) (walked f p ks)
    first e = subst (λ i. f k ∈ cond (p i) (f i & walked f p ks) (walked f p ks)) (sym e) (rw u here)

    later : (b : Bool) → p j ≡ b → f k ∈ walked f p ks → f k ∈ cond (p j) (f j & walked f p ks) (walked f p ks)
    later true e m = rw e (there m)
    later false e m = rw e m

-- a walk through a rising list rises
pub walked_rises : (f : ℕ → Form) (p : ℕ → Bool) (ks : List ℕ) → Rising (walked f everyone ks) → Rising (walked f p ks)
walked_rises f p [] r = tt
walked_rises f p (k ∷ ks) r = go (p k) (walked_rises f p ks (rising_tail (f k) (walked f everyone ks) r))
  where
    go : (b : Bool) → Rising (walked f p ks) → Rising (cond b (f k & walked f p ks) (walked f p ks))
    go true s = rising_cons (walked f p ks) (λ z m. let (j, a, e, i) = walked_back f p ks z m in rising_first (walked f everyone ks) r (rw e (walked_into f everyone ks j i refl))) s
    go false s = s

walked_none : (f : ℕ → Form) (p : ℕ → Bool) (ks : List ℕ) → any_of p ks ≡ false → walked f p ks ≡ ∅
walked_none f p [] e = refl
walked_none f p (k ∷ ks) e = let (a, b) = or_parts (p k) (any_of p ks) e in rw a (walked_none f p ks b)

data First (xs : Forms) : Type 0 where
  first_of : (x : Form) (ys : Forms) → xs ≡ (x & ys) → First xs

walked_some : (f : ℕ → Form) (p : ℕ → Bool) (ks : List ℕ) → any_of p ks ≡ true → First (walked f p ks)
walked_some f p [] e = absurd (false≢true e)
walked_some f p (k ∷ ks) e = go (p k) refl (λ t. walked_some f p ks t)
  where
    go : (b : Bool) → p k ≡ b → (any_of p ks ≡ true → First (walked f p ks)) → First (cond (p k) (f k & walked f p ks) (walked f p ks))
    go true t rec = first_of (f k) (walked f p ks) (rw t)
    go false t rec = elim (rec (sym (ap (λ b. b || any_of p ks) t) ∙ e)) [ first_of x ys q ↦ first_of x ys (rw t q) ]

-- the walk compares as the lists do
pub walk_listings : (f : ℕ → Form) (p q : ℕ → Bool) (ks : List ℕ) → Rising (walked f everyone ks) → listings (walked f p ks) (walked f q ks) ≡ walk_order p q ks
walk_listings f p q [] r = refl
walk_listings f p q (k ∷ ks) r = go (p k) (q k) (walk_listings f p q ks (rising_tail (f k) (walked f everyone ks) r))
  where
    over : (s : ℕ → Bool) (x : Form) (xs : Forms) → walked f s ks ≡ (x & xs) → listing (f k) x ≡ Less
    over s x xs e =
        let m : x ∈ walked f s ks = rw e here in
        let (j, a, g, i) = walked_back f s ks x m in
        (rising_first (walked f everyone ks) r (rw g (walked_into f everyone ks j i refl))).less

    left : (b : Bool) → any_of q ks ≡ b → listings (f k & walked f p ks) (walked f q ks) ≡ cond b Less Greater
    left true e = elim (walked_some f q ks e) [ first_of x xs g ↦ rw (g, over q x xs g) ]
    left false e = rw (walked_none f q ks e)

    right : (b : Bool) → any_of p ks ≡ b → listings (walked f p ks) (f k & walked f q ks) ≡ cond b Greater Less
    right true e = elim (walked_some f p ks e) [ first_of x xs g ↦ rw (g, listing_turn (f k) x, over p x xs g) ]
    right false e = rw (walked_none f p ks e)

    go : (a b : Bool) → listings (walked f p ks) (walked f q ks) ≡ walk_order p q ks
        → listings (cond a (f k & walked f p ks) (walked f p ks)) (cond b (f k & walked f q ks) (walked f q ks)) ≡ walk_step a b (any_of p ks) (any_of q ks) (walk_order p q ks)
    go true true e = rw (listing_self (f k)) e
    go true false e = left (any_of q ks) refl
    go false true e = right (any_of p ks) refl
    go false false e = e

-- the options of a game are a walk
module _ (os : List Sets) (n : ℕ) (ks : List ℕ) (few : n ≤ length os) (complete : Complete n ks) (below : (k : ℕ) → any_of (λ j. eqb j k) ks ≡ true → k < n) (rises : Rising (walked (node os) everyone ks)) where
  pub game_walk : (o : Sets) (s : Side) → ((k : ℕ) → o s k ≡ true → k < n) → options s (game os o) ≡ walked (node os) (o s) ks
  game_walk o s within =
      rising_same (options s (game os o)) (walked (node os) (o s) ks) (game_rises os o s) (walked_rises (node os) (o s) ks rises)
      (λ z m. let (k, l, t, e) = game_back os o s z m in rw e (walked_into (node os) (o s) ks k (complete k (within k t)) t))
      (λ z m. let (k, t, e, i) = walked_back (node os) (o s) ks z m in let b = below k i in rw e (game_into os o s k (omega arith) t))

  pub order_is : (o q : Sets) → ((s : Side) (k : ℕ) → o s k ≡ true → k < n) → ((s : Side) (k : ℕ) → q s k ≡ true → k < n) → listing (game os o) (game os q) ≡ pair_order o q ks
  order_is o q a b =
      by_sides (game os o) (game os q)
      ∙ ap₂ or_else
      (ap₂ listings (game_walk o Left (a Left)) (game_walk q Left (b Left)) ∙ walk_listings (node os) (o Left) (q Left) ks rises)
      (ap₂ listings (game_walk o Right (a Right)) (game_walk q Right (b Right)) ∙ walk_listings (node os) (o Right) (q Right) ks rises)
    where
      by_sides : (g h : Form) → listing g h ≡ or_else (listings (options Left g) (options Left h)) (listings (options Right g) (options Right h))
      by_sides (form gl gr) (form hl hr) = refl

-- a node is the game of its own options
pub game_node : (os : List Sets) → Lower os → (i : ℕ) → i < length os → game os (get_or os i none) ≡ node os i
game_node os lower i h = same_options (game os (get_or os i none)) (node os i) (λ s.
    rising_same (options s (game os (get_or os i none))) (options s (node os i)) (game_rises os (get_or os i none) s) (node_rises os i h s)
    (λ z m. let (k, l, t, e) = game_back os (get_or os i none) s z m in rw e (node_into os i h s k (lower i s k t) t))
    (λ z m. let (k, l, t, e) = node_back os i h s z m in rw e (game_into os (get_or os i none) s k (omega arith) t)))
