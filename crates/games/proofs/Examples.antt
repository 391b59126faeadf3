-- Small positions, by computation: an order or a test by `refl` or `tt`, a canonical form by running the proof that it exists.
-- `ge` and the play are shut, so each example names them on its `unfolding` line.
-- Assumes nothing.
use Rattle.std.proofs.Common.{◌≡◌, true, false, [], ◌∷◌, refl}
use mathlib.Core.Option.{some}
use Rattle.games.specs.Form.{Form, form, ∅, ◌&◌, 𝟎, 𝟏, ⋆}
use Rattle.games.specs.Order.{ge, ◌≈◌}
use Rattle.games.specs.Sides.{Left, Right}
use Rattle.games.specs.Play.{wins}
use Rattle.games.specs.Canon.{Canonical}
use Rattle.games.specs.Tests.{is_canonical}
use Rattle.games.specs.Text.{open_mark, bar, close_mark, bytes}
use Rattle.games.proofs.Reader.{read}
use Rattle.games.proofs.Tests.{canonical_is}
use Rattle.games.proofs.Exists.{canon}

-- 2 = {1|}, 1/2 = {0|1}, 1/4 = {0|1/2}, up = {0|*}, *2 = {0,*|0,*}, *3
abbrev 𝟐 : Form
𝟐 = form (𝟏 & ∅) ∅

abbrev half : Form
half = form (𝟎 & ∅) (𝟏 & ∅)

abbrev quarter : Form
quarter = form (𝟎 & ∅) (half & ∅)

abbrev up : Form
up = form (𝟎 & ∅) (⋆ & ∅)

abbrev ⋆2 : Form
⋆2 = form (𝟎 & ⋆ & ∅) (𝟎 & ⋆ & ∅)

abbrev ⋆3 : Form
⋆3 = form (𝟎 & ⋆ & ⋆2 & ∅) (𝟎 & ⋆ & ⋆2 & ∅)

-- 0 ≥ 0; * and 0 are confused, and whoever starts * wins
zero_zero : ge 𝟎 𝟎 ≡ true
unfolding ge
zero_zero = refl

star_not_above : ge ⋆ 𝟎 ≡ false
unfolding ge
star_not_above = refl

star_not_below : ge 𝟎 ⋆ ≡ false
unfolding ge
star_not_below = refl

star_left : wins Left ⋆ 𝟎 ≡ true
unfolding wins
star_left = refl

star_right : wins Right ⋆ 𝟎 ≡ true
unfolding wins
star_right = refl

-- {0|0}, 1/4 and up are canonical, and {0,1|} is not: 0 is dominated
star_canonical : Canonical ⋆
unfolding ge
star_canonical = canonical_is ⋆ tt

quarter_canonical : Canonical quarter
unfolding ge
quarter_canonical = canonical_is quarter tt

up_canonical : Canonical up
unfolding ge
up_canonical = canonical_is up tt

two_not : is_canonical (form (𝟎 & 𝟏 & ∅) ∅) ≡ false
unfolding ge
two_not = refl

-- {0,1|} equals {1|}, and that is its canonical form
two_equal : form (𝟎 & 𝟏 & ∅) ∅ ≈ 𝟐
unfolding ge
two_equal = record { above = record { holds = tt }; below = record { holds = tt } }

two_canon : canon (form (𝟎 & 𝟏 & ∅) ∅) ≡ 𝟐
unfolding ge
two_canon = refl

-- {*|*} is 0: both options are reversible
stars_canon : canon (form (⋆ & ∅) (⋆ & ∅)) ≡ 𝟎
unfolding ge
stars_canon = refl

-- an unsorted list with an option twice
three_canon : canon (form (⋆2 & 𝟎 & ⋆ & ∅) (⋆ & ⋆2 & 𝟎 & ⋆ & ∅)) ≡ ⋆3
unfolding ge
three_canon = refl

-- {{|}|{|}}
star_bytes : bytes ⋆ ≡ 123 ∷ 123 ∷ 124 ∷ 125 ∷ 124 ∷ 123 ∷ 124 ∷ 125 ∷ 125 ∷ []
star_bytes = refl

star_read : read (open_mark ∷ open_mark ∷ bar ∷ close_mark ∷ bar ∷ open_mark ∷ bar ∷ close_mark ∷ close_mark ∷ []) ≡ some ⋆
unfolding read
star_read = refl
