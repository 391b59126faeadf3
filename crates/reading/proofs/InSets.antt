-- The options of a bracket as two sets of nodes.
-- Assumes nothing.
use Rattle.std.proofs.Common.{◌≡◌, ℕ, ◌<◌, Bool, ◌&&◌, ◌||◌, eqb, ltb, List, sym, ◌∙◌}
use Rattle.games.specs.Numbered.{Lists}
use Rattle.games.specs.Sides.{other}
use Rattle.games.specs.declared.side.Side.{Side}
use Rattle.games.specs.declared.side.Side.TheVariants.{Left, Right}
use Rattle.nodesets.specs.declared.pair.Pair.{Pair}
use Rattle.nodesets.specs.Pairs.{by}
use Rattle.dictionary.specs.Kept.{ListsOf}
use Rattle.dictionary.proofs.Told.{Are, are_more}
use Rattle.reading.specs.Sided.{with_number}

like : (a b : ℕ → Bool) → ((k : ℕ) → a k ≡ b k) → (ns : List ℕ) → Are ns b → Are ns a
like a b e ns x k = (λ i. e k ∙ (x k).0 i, λ h. (x k).1 (sym (e k) ∙ h))

pub put_lists : (p r : Pair) (n : ℕ) → n < 384 → (s : Side) → ((k : ℕ) → by r s k ≡ ((eqb k n && ltb k 384) || by p s k)) → ((k : ℕ) → by r (other s) k ≡ by p (other s) k)
    → (l : Lists) → ListsOf (by p) l → ListsOf (by r) (with_number s n l)
put_lists p r n small Left own theirs l h = elim [
  | Left ↦ are_more l.left (by p Left) (by r Left) n small own (h Left)
  | Right ↦ like (by r Right) (by p Right) theirs l.right (h Right)
]
put_lists p r n small Right own theirs l h = elim [
  | Left ↦ like (by r Left) (by p Left) theirs l.left (h Left)
  | Right ↦ are_more l.right (by p Right) (by r Right) n small own (h Right)
]
