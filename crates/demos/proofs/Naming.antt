-- A list of nodes that is put into a set, one after the other.
use Rattle.std.proofs.Common.{◌≡◌, ℕ, ◌+◌, ◌<◌, ◌≤◌, Bool, true, false, ◌&&◌, ◌||◌, List, length, get_or, drop, sym, refl, ap, ◌∙◌, ltb, eqb}
use Rattle.std.proofs.lemmas.List.{at_drop_more, at_drop_all}
use Rattle.std.proofs.Math.Bool.{or-false}
use Rattle.demos.specs.Samples.{named}

-- the set and the nodes behind it name together what the list names
abbrev pub Together : List ℕ → ℕ → (ℕ → Bool) → Type 0
Together nodes i set = (k : ℕ) → (set k || named (drop i nodes) k) ≡ named nodes k

turned : (a b c : Bool) → ((a || b) || c) ≡ (b || (a || c))
turned true true c = refl
turned true false c = refl
turned false true c = refl
turned false false c = refl

pub one_more : (nodes : List ℕ) (i d : ℕ) (set set' : ℕ → Bool) → Together nodes i set → i < length nodes
    → ((k : ℕ) → set' k ≡ ((eqb k (get_or nodes i d) && ltb k 384) || set k)) → Together nodes (i + 1) set'
one_more nodes i d set set' so_far h goes k =
    rw (goes k) (turned _ (set k) _ ∙ ap (λ b. set k || b) (sym (at_drop_more (λ xs. named xs k) nodes i d h)) ∙ so_far k)

pub all_named : (nodes : List ℕ) (i : ℕ) (set : ℕ → Bool) → Together nodes i set → length nodes ≤ i → (k : ℕ) → set k ≡ named nodes k
all_named nodes i set so_far h k = sym (ap (λ b. set k || b) (at_drop_all (λ xs. named xs k) nodes i h) ∙ or-false (set k)) ∙ so_far k
