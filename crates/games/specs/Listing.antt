-- The listing order of forms: by the Left lists, item by item in this same order, a list that ends first coming earlier; then by the Right lists.
-- Assumes nothing.
use Rattle.std.specs.Prelude.{◌≡◌}
use Rattle.std.specs.declared.cmp.Ordering.TheVariants.{Less, Equal, Greater}
use Rattle.std.specs.declared.cmp.Ordering.{Ordering}
use Rattle.games.specs.Form.{Form, Forms, form, ∅, ◌&◌}

infix 40 ◌≺◌
-- the first answer, unless that is Equal: then the second
abbrev pub or_else : Ordering → Ordering → Ordering
or_else Less o = Less
or_else Equal o = o
or_else Greater o = Greater

abbrev mutual
  pub listing : Form → Form → Ordering
  listing (form gl gr) (form hl hr) = or_else (listings gl hl) (listings gr hr)

  pub listings : Forms → Forms → Ordering
  listings ∅ ∅ = Equal
  listings ∅ (h & hs) = Less
  listings (g & gs) ∅ = Greater
  listings (g & gs) (h & hs) = or_else (listing g h) (listings gs hs)

-- g comes before h
pub record ◌≺◌ (g h : Form) : Type 0 where
  pub less : listing g h ≡ Less

-- a list in strictly rising order: each form comes before the next
abbrev pub Rising : Forms → Type 0
Rising ∅ = Unit {0}
Rising (x & ∅) = Unit {0}
Rising (x & (y & ys)) = (x ≺ y) × Rising (y & ys)
