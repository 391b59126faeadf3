-- Canonical forms.
-- Assumes nothing.
use Rattle.std.specs.Prelude.{◌≡◌}
use Rattle.games.specs.Form.{Form, Forms, ◌∈◌, ◌⧺◌}
use Rattle.games.specs.Sides.{Side, Left, Right, other, options, with_options}
use Rattle.games.specs.Order.{◌≥◌}
use Rattle.games.specs.Listing.{Rising}

-- x is as good as y for the side: x ≥ y for Left, x ≤ y for Right
pub data AsGood : Side → Form → Form → Type 0 where
  for_left : {x y : Form} → x ≥ y → AsGood Left x y
  for_right : {x y : Form} → y ≥ x → AsGood Right x y

-- The side's option a of g is dominated: another one, b, is as good for the side.
pub record Dominated (s : Side) (g a : Form) : Type 0 where
  pub other_one : Form
  pub is_option : other_one ∈ options s g
  pub is_another : ¬ (other_one ≡ a)
  pub as_good : AsGood s other_one a

-- The side's option a of g is reversible: an option b of a, of the other side, is such that g is as good for the side as b.
-- (Left: B ≤ G, a Right option B of A. Right: B ≥ G, a Left option B of A.)
pub record Reversible (s : Side) (g a : Form) : Type 0 where
  pub reply : Form
  pub is_reply : reply ∈ options (other s) a
  pub as_good : AsGood s g reply

-- Bypassing: the side's option that stands after pre and before post gives place to all the side's options of b.
abbrev pub bypassed : Side → Form → Forms → Form → Forms → Form
bypassed s g pre b post = with_options s (pre ⧺ (options s b ⧺ post)) g

-- No option of g is dominated or reversible, and both lists rise in the listing order: so a set of options is written in one way.
pub record Clean (g : Form) : Type 0 where
  pub rising : (s : Side) → Rising (options s g)
  pub undominated : (s : Side) (a : Form) → a ∈ options s g → ¬ Dominated s g a
  pub irreversible : (s : Side) (a : Form) → a ∈ options s g → ¬ Reversible s g a

-- g is canonical: it is clean, and so are its options, theirs, and so on.
pub data Canonical : Form → Type 0 where
  canonical : {g : Form} → Clean g → ((s : Side) (a : Form) → a ∈ options s g → Canonical a) → Canonical g
