-- The options of a canonical form are nodes, if it equals a form whose options equal nodes.
-- Assumes nothing.
use Rattle.std.proofs.Common.{◌≡◌, ℕ, zero, suc, ◌<◌, ◌≤◌, ◌⊎◌, List, [], ◌∷◌, length, get_or, sym, refl, ◌∙◌, subst, ap₂, inl, inr, arith}
use Rattle.std.specs.List.{AllByRecursion}
use Rattle.games.specs.declared.side.Side.{Side}
use Rattle.games.specs.declared.side.Side.TheVariants.{Left, Right}
use Rattle.games.specs.Form.{Form, Forms, ∅, ◌&◌, ◌∈◌, here, there, size}
use Rattle.games.specs.Order.{◌≈◌}
use Rattle.games.specs.Sides.{other, options}
use Rattle.games.specs.Canon.{AsGood, Clean, Canonical}
use Rattle.games.specs.Numbered.{each, form_by}
use Rattle.games.proofs.Form.{size_pos}
use Rattle.games.proofs.Order.{≈_sym}
use Rattle.games.proofs.Canon.{clean_of, options_of}
use Rattle.games.proofs.Listing.{form_dec}
use Rattle.games.proofs.Sides.{option_size, good_fail, good_reply, good_option, good_trans, good_≈, ≈_good, option_never}
use Rattle.games.proofs.Unique.{unique}
use Rattle.calls.specs.Rows.{Rows, no_numbers, node}
use Rattle.calls.specs.Sound.{Sound}
use Rattle.calls.proofs.Rows.{node_law}
use Rattle.calls.proofs.Sealing.{Node}

-- x is the form of a node
pub record Is (rows : Rows) (x : Form) : Type 0 where
  pub at : ℕ
  pub inside : at < length rows
  pub is : node rows at ≡ x

member : (rows : Rows) (n : ℕ) (ns : List ℕ) (x : Form) → n < length rows → AllByRecursion (λ m. m < n) ns → x ∈ each (node rows) ns → Is rows x
member rows n [] x k a i = elim i [ ]
member rows n (m ∷ ns) x k a here = record { at = m; inside = let l = a.0 in omega arith; is = refl }
member rows n (m ∷ ns) x k a (there i) = member rows n ns x k a.1 i

module _ (rows : Rows) (sound : Sound rows) where
  -- an option of a node is a node
  pub option_is : (s : Side) (x o : Form) → Is rows x → o ∈ options s x → Is rows o
  option_is s x o i m =
      let n = i.at in
      let b = sound.lower n i.inside in
      side s (subst (λ y. o ∈ options s y) (sym i.is ∙ node_law rows n i.inside b) m)
    where
      side : (s : Side) → o ∈ options s (form_by (node rows) (get_or rows i.at no_numbers)) → Is rows o
      side Left = member rows i.at _ o i.inside (sound.lower i.at i.inside).on_left
      side Right = member rows i.at _ o i.inside (sound.lower i.at i.inside).on_right

  module _ (s : Side) (c a : Form) (clean : Clean c) (m : a ∈ options s c) (can : Canonical a) where
    step : (n : ℕ) → ((l : Form) → size l ≤ n → Is rows l → AsGood s l a → ¬ AsGood s l c → Is rows a)
        → (l : Form) → size l ≤ suc n → Is rows l → AsGood s l a → ¬ AsGood s l c → Is rows a
    step n rec l k i p q = go (good_fail s l c q)
      where
        reply : (o : Form) → o ∈ options (other s) l → AsGood s c o
            → ((b : Form) × (b ∈ options (other s) a) × AsGood s o b) ⊎ ((b : Form) × (b ∈ options s o) × AsGood s b a) → Is rows a
        reply o mo co (inl (b, mb, x)) = absurd (clean.irreversible s a m (record { reply = b; is_reply = mb; as_good = good_trans co x }))
        reply o mo co (inr (b, mb, x)) =
            let u = option_size (other s) l mo in
            let v = option_size s o mb in
            rec b (omega arith) (option_is s o b (option_is (other s) l o i mo) mb) x (good_option s co mb)

        same : (b : Form) → b ∈ options s c → AsGood s b l → Dec (b ≡ a) → Is rows a
        same b mb x (yes e) = subst (λ z. Is rows z) (unique (subst Canonical i.is (sound.canonical i.at i.inside)) can (good_≈ p (subst (λ z. AsGood s z l) e x))) i
        same b mb x (no d) = absurd (clean.undominated s a m (record { other_one = b; is_option = mb; is_another = d; as_good = good_trans x p }))

        go : ((o : Form) × (o ∈ options (other s) l) × AsGood s c o) ⊎ ((b : Form) × (b ∈ options s c) × AsGood s b l) → Is rows a
        go (inl (o, mo, co)) = reply o mo co (good_fail s a o (good_reply s p mo))
        go (inr (b, mb, x)) = same b mb x (form_dec b a)

    descend : (n : ℕ) (l : Form) → size l ≤ n → Is rows l → AsGood s l a → ¬ AsGood s l c → Is rows a
    descend zero l k i p q = let z = size_pos l in absurd (omega arith)
    descend (suc n) l k i p q = step n (descend n) l k i p q

  pub inside : (c g : Form) → Canonical c → c ≈ g → ((s : Side) (b : Form) → b ∈ options s g → Node rows b) → (s : Side) (a : Form) → a ∈ options s c → Is rows a
  inside c g can e known s a m = go (good_fail s a g (good_option s (≈_good s (≈_sym e)) m))
    where
      start : (b : Form) → b ∈ options s g → AsGood s b a → Node rows b → Is rows a
      start b mb p k =
          let l = node rows k.at in
          descend s c a (clean_of can) m (options_of can s a m) (size l) l (omega arith) (record { at = k.at; inside = k.inside; is = refl })
          (good_trans (≈_good s k.equals) p)
          (λ q. option_never s mb (good_trans (≈_good s (≈_sym k.equals)) (good_trans q (≈_good s e))))

      go : ((o : Form) × (o ∈ options (other s) a) × AsGood s g o) ⊎ ((b : Form) × (b ∈ options s g) × AsGood s b a) → Is rows a
      go (inl (o, mo, x)) = absurd ((clean_of can).irreversible s a m (record { reply = o; is_reply = mo; as_good = good_trans (≈_good s e) x }))
      go (inr (b, mb, x)) = start b mb x (known s b mb)

-- the numbers of a list of nodes
pub record Numbers (rows : Rows) (xs : Forms) : Type 0 where
  pub list : List ℕ
  pub below : AllByRecursion (λ m. m < length rows) list
  pub stand_for : each (node rows) list ≡ xs

pub numbers : (rows : Rows) (xs : Forms) → ((x : Form) → x ∈ xs → Is rows x) → Numbers rows xs
numbers rows ∅ f = record { list = []; below = tt; stand_for = refl }
numbers rows (x & xs) f =
    let i = f x here in
    let r = numbers rows xs (λ y m. f y (there m)) in
    record { list = i.at ∷ r.list; below = (i.inside, r.below); stand_for = ap₂ ◌&◌ i.is r.stand_for }
