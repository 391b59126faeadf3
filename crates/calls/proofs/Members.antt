-- Of two lists of numbers that are sealed only the members matter.
-- Assumes nothing.
use Rattle.std.proofs.Common.{ℕ, ◌<◌, List, [], ◌∷◌}
use Rattle.std.specs.List.{AllByRecursion}
use Rattle.games.specs.declared.side.Side.{Side}
use Rattle.games.specs.declared.side.Side.TheVariants.{Left, Right}
use Rattle.games.specs.Form.{Form, ◌∈◌, here, there}
use Rattle.games.specs.Sides.{options}
use Rattle.games.specs.Numbered.{Lists, each, form_by}
use Rattle.games.proofs.Form.{◌⊆◌}
use Rattle.games.proofs.Value.{same_≈}
use Rattle.calls.specs.Rows.{Rows, node, Below, ◌among◌, first, later}
use Rattle.calls.specs.Answers.{Answer}
use Rattle.calls.specs.Sealing.{SealsNumbers, unknown, known}
use Rattle.calls.specs.Laws.{SameMembers, SealingGoesByMembers}
use Rattle.calls.proofs.Sealing.{seals_≈}

all_among : (P : ℕ → Type 0) (ns : List ℕ) → AllByRecursion P ns → (n : ℕ) → n among ns → P n
all_among P [] a n i = elim i [ ]
all_among P (m ∷ ns) a n first = a.0
all_among P (m ∷ ns) a n (later i) = all_among P ns a.1 n i

among_all : (P : ℕ → Type 0) (ns : List ℕ) → ((n : ℕ) → n among ns → P n) → AllByRecursion P ns
among_all P [] f = tt
among_all P (n ∷ ns) f = (f n first, among_all P ns (λ m i. f m (later i)))

each_in : (f : ℕ → Form) {n : ℕ} {ns : List ℕ} → n among ns → f n ∈ each f ns
each_in f first = here
each_in f (later i) = there (each_in f i)

each_sub : (f : ℕ → Form) (ns ms : List ℕ) → ((n : ℕ) → n among ns → n among ms) → each f ns ⊆ each f ms
each_sub f [] ms h x m = elim m [ ]
each_sub f (n ∷ ns) ms h x here = each_in f (h n first)
each_sub f (n ∷ ns) ms h x (there m) = each_sub f ns ms (λ k i. h k (later i)) x m

below_same : {k : ℕ} {d e : Lists} → SameMembers d.left e.left → SameMembers d.right e.right → Below k d → Below k e
below_same {k} {d} {e} l r b = record {
  on_left = among_all (λ m. m < k) e.left (λ n i. all_among (λ m. m < k) d.left b.on_left n ((l n).1 i));
  on_right = among_all (λ m. m < k) e.right (λ n i. all_among (λ m. m < k) d.right b.on_right n ((r n).1 i));
}

turned : {ns ms : List ℕ} → SameMembers ns ms → SameMembers ms ns
turned h n = ((h n).1, (h n).0)

sealed : {c : ℕ} {rows after : Rows} {a : Answer ℕ} (d e : Lists) → SameMembers d.left e.left → SameMembers d.right e.right → SealsNumbers c rows d a after → SealsNumbers c rows e a after
sealed d e l r (unknown f) = unknown (λ b. f (below_same (turned l) (turned r) b))
sealed {rows = rows} d e l r (known b s) = known (below_same l r b) (seals_≈ (same_≈ (form_by (node rows) d) (form_by (node rows) e) (into d e l r) (into e d (turned l) (turned r))) s)
  where
    into : (d e : Lists) → SameMembers d.left e.left → SameMembers d.right e.right → (z : Side) → options z (form_by (node rows) d) ⊆ options z (form_by (node rows) e)
    into d e l r Left = each_sub (node rows) d.left e.left (λ n. (l n).0)
    into d e l r Right = each_sub (node rows) d.right e.right (λ n. (r n).0)

pub sealing_goes_by_members : SealingGoesByMembers
sealing_goes_by_members c rows after a d e l r s = sealed d e l r s
