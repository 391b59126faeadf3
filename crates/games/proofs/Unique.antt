-- The central theorem: two canonical forms of one value are the same form.
-- Assumes nothing.
use Rattle.std.proofs.Common.{◌≡◌, ℕ, zero, suc, ◌+◌, ◌≤◌, ◌⊎◌, inl, inr, arith}
use Rattle.games.specs.Form.{Form, ◌∈◌, size}
use Rattle.games.specs.Order.{◌≈◌}
use Rattle.games.specs.Sides.{Side, options, other}
use Rattle.games.specs.Canon.{AsGood, Clean, Canonical}
use Rattle.games.proofs.Form.{size_pos}
use Rattle.games.proofs.Canon.{clean_of, options_of}
use Rattle.games.proofs.Listing.{form_dec, rising_same}
use Rattle.games.proofs.Order.{≈_sym}
use Rattle.games.proofs.Sides.{option_size, same_options, good_option, good_trans, good_fail, ≈_good, good_≈}

-- an option of a clean form is bettered by some option of any form of the same value
covered : (s : Side) (g h a : Form) → Clean g → g ≈ h → a ∈ options s g → (b : Form) × (b ∈ options s h) × AsGood s b a
covered s g h a c e m = go (good_fail s a h (good_option s (≈_good s (≈_sym e)) m))
  where
    go : ((o : Form) × (o ∈ options (other s) a) × AsGood s h o) ⊎ ((o : Form) × (o ∈ options s h) × AsGood s o a) → (b : Form) × (b ∈ options s h) × AsGood s b a
    go (inl (o, n, p)) = absurd (c.irreversible s a m (record { reply = o; is_reply = n; as_good = good_trans (≈_good s e) p }))
    go (inr h) = h

-- an option of a clean form that is as good as another is that one
undominated : (s : Side) (g a b : Form) → Clean g → a ∈ options s g → b ∈ options s g → AsGood s b a → b ≡ a
undominated s g a b c m n p = elim (form_dec b a) [
  | yes e ↦ e
  | no d ↦ absurd (c.undominated s a m (record { other_one = b; is_option = n; is_another = d; as_good = p }))
]

-- two clean forms of one value have the same options, up to value
pub same_values : (s : Side) (g h a : Form) → Clean g → Clean h → g ≈ h → a ∈ options s g → (b : Form) × (b ∈ options s h) × (a ≈ b)
same_values s g h a c d e m =
    let (b, n, p) = covered s g h a c e m in
    let (a', m', q) = covered s h g b d (≈_sym e) n in
    let same : a' ≡ a = undominated s g a a' c m m' (good_trans q p) in
    (b, n, good_≈ (rw same at q) p)

unique_in : (n : ℕ) (g h : Form) → size g + size h ≤ n → Canonical g → Canonical h → g ≈ h → g ≡ h
unique_in zero g h a c d e = let k = size_pos g in absurd (omega arith)
unique_in (suc n) g h a c d e = same_options g h (λ s.
    rising_same (options s g) (options s h) ((clean_of c).rising s) ((clean_of d).rising s)
    (λ z m.
    let (b, i, v) = same_values s g h z (clean_of c) (clean_of d) e m in
    let k = option_size s g m in
    let l = option_size s h i in
    let same : z ≡ b = unique_in n z b (omega arith) (options_of c s z m) (options_of d s b i) v in
    rw same i)
    (λ z m.
    let (b, i, v) = same_values s h g z (clean_of d) (clean_of c) (≈_sym e) m in
    let k = option_size s h m in
    let l = option_size s g i in
    let same : z ≡ b = unique_in n z b (omega arith) (options_of d s z m) (options_of c s b i) v in
    rw same i))

pub unique : {g h : Form} → Canonical g → Canonical h → g ≈ h → g ≡ h
unique {g} {h} c d e = unique_in (size g + size h) g h (omega arith) c d e
