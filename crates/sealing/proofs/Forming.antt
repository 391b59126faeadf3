-- The forms of nodes: their options, and what one more node leaves.
-- Assumes nothing.
use Rattle.std.proofs.Common.{◌≡◌, ℕ, zero, suc, ◌+◌, ◌<◌, ◌≤◌, Bool, true, List, [], ◌∷◌, ◌++◌, length, get_or, take, sym, refl, ap, ◌∙◌, inl, inr, add-zero, zero-add, arith}
use Rattle.std.proofs.lemmas.List.{length_push, get_or_append_left, get_or_push, take_at, take_all, take-take, get_or-take, length-take-le}
use Rattle.std.proofs.lemmas.Bool.{cases_Bool, cond-true, cond-false}
use Rattle.games.specs.declared.side.Side.{Side}
use Rattle.games.specs.declared.side.Side.TheVariants.{Left, Right}
use Rattle.games.specs.Form.{Form, Forms, ◌&◌, 𝟎, ◌∈◌, here, there}
use Rattle.games.specs.Sides.{options}
use Rattle.games.specs.Listing.{Rising}
use Rattle.sealing.specs.Arranged.{arranged}
use Rattle.nodesets.specs.Pairs.{Sets}
use Rattle.sealing.specs.Forms.{none, picked, made, grown, forms, node, game}
use Rattle.sealing.proofs.Arranging.{arranged_into, arranged_back, arranged_rises}

-- a picked form: its number
pub record Pick (p : ℕ → Bool) (i : ℕ) (fs : List Form) (x : Form) : Type 0 where
  pub place : ℕ
  pub within : place < length fs
  pub chosen : p (i + place) ≡ true
  pub is : x ≡ get_or fs place 𝟎

pick_next : {p : ℕ → Bool} {i : ℕ} {fs : List Form} {x : Form} (f : Form) → Pick p (suc i) fs x → Pick p i (f ∷ fs) x
pick_next {p} {i} f k = record { place = suc k.place; within = omega (arith, k.within); chosen = ap p (omega arith) ∙ k.chosen; is = k.is }

pick_first : (p : ℕ → Bool) (i : ℕ) (f : Form) (fs : List Form) (xs : Forms) (x : Form) → p i ≡ true → (x ∈ xs → Pick p (suc i) fs x) → x ∈ (f & xs) → Pick p i (f ∷ fs) x
pick_first p i f fs xs x t rec here = record { place = 0; within = omega arith; chosen = ap p (omega arith) ∙ t; is = refl }
pick_first p i f fs xs x t rec (there n) = pick_next f (rec n)

pub picked_back : (p : ℕ → Bool) (i : ℕ) (fs : List Form) (x : Form) → x ∈ picked p i fs → Pick p i fs x
picked_back p i [] x m = elim m [ ]
picked_back p i (f ∷ fs) x m = elim (cases_Bool (p i)) [
  | inl t ↦ pick_first p i f fs (picked p (suc i) fs) x t (λ n. picked_back p (suc i) fs x n) (rw (cond-true (p i) (f & picked p (suc i) fs) (picked p (suc i) fs) t) at m)
  | inr t ↦ pick_next f (picked_back p (suc i) fs x (rw (cond-false (p i) (f & picked p (suc i) fs) (picked p (suc i) fs) t) at m))
]

pub picked_into : (p : ℕ → Bool) (i : ℕ) (fs : List Form) (k : ℕ) → k < length fs → p (i + k) ≡ true → get_or fs k 𝟎 ∈ picked p i fs
picked_into p i [] k h t = absurd (omega arith)
picked_into p i (f ∷ fs) zero h t = rw (cond-true (p i) (f & picked p (suc i) fs) (picked p (suc i) fs) (ap p (omega arith) ∙ t)) here
picked_into p i (f ∷ fs) (suc k) h t =
    let m = picked_into p (suc i) fs k (omega arith) (ap p (omega arith) ∙ t) in
    elim (cases_Bool (p i)) [
      | inl b ↦ rw (cond-true (p i) (f & picked p (suc i) fs) (picked p (suc i) fs) b) (there m)
      | inr b ↦ rw (cond-false (p i) (f & picked p (suc i) fs) (picked p (suc i) fs) b) m
    ]

-- the options of a form that is made of others
pub made_options : (o : Sets) (fs : List Form) (s : Side) → options s (made o fs) ≡ arranged (picked (o s) 0 fs)
unfolding made
made_options o fs Left = refl
made_options o fs Right = refl

pub made_back : (o : Sets) (fs : List Form) (s : Side) (x : Form) → x ∈ options s (made o fs) → (k : ℕ) × (k < length fs) × (o s k ≡ true) × (x ≡ get_or fs k 𝟎)
made_back o fs s x m =
    let n = picked_back (o s) 0 fs x (arranged_back (picked (o s) 0 fs) x (rw (made_options o fs s) at m)) in
    (n.place, n.within, ap (o s) (omega arith) ∙ n.chosen, n.is)

pub made_into : (o : Sets) (fs : List Form) (s : Side) (k : ℕ) → k < length fs → o s k ≡ true → get_or fs k 𝟎 ∈ options s (made o fs)
made_into o fs s k h t = rw (made_options o fs s) (arranged_into (picked (o s) 0 fs) (get_or fs k 𝟎) (picked_into (o s) 0 fs k h (ap (o s) (omega arith) ∙ t)))

pub made_rises : (o : Sets) (fs : List Form) (s : Side) → Rising (options s (made o fs))
made_rises o fs s = rw (made_options o fs s) (arranged_rises (picked (o s) 0 fs))

-- growing
grown_length : (fs : List Form) (os : List Sets) → length (grown fs os) ≡ length fs + length os
grown_length fs [] = omega arith
grown_length fs (o ∷ os) = grown_length (fs ++ (made o fs ∷ [])) os ∙ rw (length_push fs (made o fs)) (omega arith)

grown_front : (fs : List Form) (os : List Sets) → take (length fs) (grown fs os) ≡ fs
grown_front fs [] = take_all (length fs) fs (omega arith)
grown_front fs (o ∷ os) =
    let h : length fs ≤ length (fs ++ (made o fs ∷ [])) = rw (length_push fs (made o fs)) (omega arith) in
    sym (take-take (length fs) (length (fs ++ (made o fs ∷ []))) (grown (fs ++ (made o fs ∷ [])) os) h)
    ∙ ap (take (length fs)) (grown_front (fs ++ (made o fs ∷ [])) os) ∙ take_at fs (made o fs ∷ []) (length fs) refl

grown_more : (fs : List Form) (os : List Sets) (o : Sets) → grown fs (os ++ (o ∷ [])) ≡ grown fs os ++ (made o (grown fs os) ∷ [])
grown_more fs [] o = refl
grown_more fs (p ∷ os) o = grown_more (fs ++ (made p fs ∷ [])) os o

-- the node at i is made of those before it
grown_at : (fs : List Form) (os : List Sets) (i : ℕ) → i < length os → get_or (grown fs os) (length fs + i) 𝟎 ≡ made (get_or os i none) (take (length fs + i) (grown fs os))
grown_at fs [] i h = absurd (omega arith)
grown_at fs (o ∷ os) zero h =
    let new : List Form = fs ++ (made o fs ∷ []) in
    let front : take (length new) (grown new os) ≡ new = grown_front new os in
    let more : length new ≡ length fs + 1 = length_push fs (made o fs) in
    let at : get_or (grown new os) (length fs) 𝟎 ≡ made o fs =
    sym (get_or-take (length new) (grown new os) (length fs) 𝟎 (omega arith)) ∙ ap (λ l. get_or l (length fs) 𝟎) front ∙ get_or_push fs (made o fs) 𝟎 (length fs) refl in
    let rest : take (length fs) (grown new os) ≡ fs = grown_front fs (o ∷ os) in
    rw (add-zero (length fs), at, rest)
grown_at fs (o ∷ os) (suc i) h =
    let more : length (fs ++ (made o fs ∷ [])) ≡ length fs + 1 = length_push fs (made o fs) in
    let e : length fs + suc i ≡ length (fs ++ (made o fs ∷ [])) + i = omega arith in
    rw e (grown_at (fs ++ (made o fs ∷ [])) os i (omega arith))

pub forms_length : (os : List Sets) → length (forms os) ≡ length os
unfolding forms
forms_length os = grown_length [] os ∙ omega arith

pub forms_more : (os : List Sets) (o : Sets) → forms (os ++ (o ∷ [])) ≡ forms os ++ (game os o ∷ [])
unfolding forms game
forms_more os o = grown_more [] os o

-- one more node leaves the others as they are
pub node_old : (os : List Sets) (o : Sets) (k : ℕ) → k < length os → node (os ++ (o ∷ [])) k ≡ node os k
unfolding node
node_old os o k h = rw (forms_more os o) (get_or_append_left (forms os) (game os o ∷ []) 𝟎 k (rw (forms_length os) h))

pub node_new : (os : List Sets) (o : Sets) → node (os ++ (o ∷ [])) (length os) ≡ game os o
unfolding node
node_new os o = rw (forms_more os o) (get_or_push (forms os) (game os o) 𝟎 (length os) (forms_length os))

-- a game's options
pub game_back : (os : List Sets) (o : Sets) (s : Side) (x : Form) → x ∈ options s (game os o) → (k : ℕ) × (k < length os) × (o s k ≡ true) × (x ≡ node os k)
unfolding game node
game_back os o s x m = let (k, h, t, e) = made_back o (forms os) s x m in (k, rw (forms_length os) at h, t, e)

pub game_into : (os : List Sets) (o : Sets) (s : Side) (k : ℕ) → k < length os → o s k ≡ true → node os k ∈ options s (game os o)
unfolding game node
game_into os o s k h t = made_into o (forms os) s k (rw (forms_length os) h) t

pub game_rises : (os : List Sets) (o : Sets) (s : Side) → Rising (options s (game os o))
unfolding game
game_rises os o s = made_rises o (forms os) s

-- a node's options
node_is : (os : List Sets) (i : ℕ) → i < length os → node os i ≡ made (get_or os i none) (take i (forms os))
unfolding node forms
node_is os i h = rw (zero-add i) at (grown_at [] os i h)

pub node_back : (os : List Sets) (i : ℕ) → i < length os → (s : Side) (x : Form) → x ∈ options s (node os i) → (k : ℕ) × (k < i) × (get_or os i none s k ≡ true) × (x ≡ node os k)
unfolding node
node_back os i h s x m =
    let (k, l, t, e) = made_back (get_or os i none) (take i (forms os)) s x (rw (node_is os i h) at m) in
    let n : length (take i (forms os)) ≡ i = length-take-le i (forms os) (rw (forms_length os) (omega arith)) in
    (k, omega arith, t, e ∙ get_or-take i (forms os) k 𝟎 (omega arith))

pub node_into : (os : List Sets) (i : ℕ) → i < length os → (s : Side) (k : ℕ) → k < i → get_or os i none s k ≡ true → node os k ∈ options s (node os i)
unfolding node
node_into os i h s k l t =
    let n : length (take i (forms os)) ≡ i = length-take-le i (forms os) (rw (forms_length os) (omega arith)) in
    let m = made_into (get_or os i none) (take i (forms os)) s k (omega arith) t in
    rw (node_is os i h) (rw (get_or-take i (forms os) k 𝟎 l) at m)

pub node_rises : (os : List Sets) (i : ℕ) → i < length os → (s : Side) → Rising (options s (node os i))
node_rises os i h s = rw (node_is os i h) (made_rises (get_or os i none) (take i (forms os)) s)
