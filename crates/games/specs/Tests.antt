-- The tests that a program can run: dominated, reversible, canonical. Each decides the statement of its name in Canon (`CanonicalDecided` in Laws).
-- Assumes nothing.
use Rattle.std.specs.Prelude.{Bool, true, false, not, ◌&&◌}
use Rattle.std.specs.declared.cmp.Ordering.TheVariants.{Less, Equal, Greater}
use Rattle.std.specs.declared.cmp.Ordering.{Ordering}
use Rattle.games.specs.Form.{Form, Forms, form, ∅, ◌&◌, any}
use Rattle.games.specs.Order.{ge}
use Rattle.games.specs.Listing.{listing}
use Rattle.games.specs.Sides.{Side, Left, Right, other, options}

abbrev pub is_less : Ordering → Bool
is_less Less = true
is_less Equal = false
is_less Greater = false

abbrev pub is_equal : Ordering → Bool
is_equal Less = false
is_equal Equal = true
is_equal Greater = false

-- x is as good as y for the side
abbrev pub as_good : Side → Form → Form → Bool
as_good Left x y = ge x y
as_good Right x y = ge y x

abbrev pub dominated : Side → Form → Form → Bool
dominated s g a = any (λ b. not (is_equal (listing b a)) && as_good s b a) (options s g)

abbrev pub reversible : Side → Form → Form → Bool
reversible s g a = any (λ b. as_good s g b) (options (other s) a)

abbrev pub rising : Forms → Bool
rising ∅ = true
rising (x & ∅) = true
rising (x & (y & ys)) = is_less (listing x y) && rising (y & ys)

abbrev pub clean_side : Side → Form → Bool
clean_side s g = rising (options s g) && (not (any (λ a. dominated s g a) (options s g)) && not (any (λ a. reversible s g a) (options s g)))

abbrev mutual
  pub is_canonical : Form → Bool
  is_canonical (form ls rs) = (clean_side Left (form ls rs) && clean_side Right (form ls rs)) && (are_canonical ls && are_canonical rs)

  pub are_canonical : Forms → Bool
  are_canonical ∅ = true
  are_canonical (g & gs) = is_canonical g && are_canonical gs
