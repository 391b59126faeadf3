-- A list of forms put into rising listing order, each form once.
-- Assumes nothing.
use Rattle.std.specs.declared.cmp.Ordering.TheVariants.{Less, Equal, Greater}
use Rattle.std.specs.declared.cmp.Ordering.{Ordering}
use Rattle.games.specs.Form.{Form, Forms, ∅, ◌&◌}
use Rattle.games.specs.Listing.{listing}

-- x at its place before y and ys, by how x and y compare; the last is x put into ys
abbrev pub placed : Ordering → Form → Form → Forms → Forms → Forms
placed Less x y ys rest = x & (y & ys)
placed Equal x y ys rest = y & ys
placed Greater x y ys rest = y & rest

abbrev pub put : Form → Forms → Forms
put x ∅ = x & ∅
put x (y & ys) = placed (listing x y) x y ys (put x ys)

abbrev pub arranged : Forms → Forms
arranged ∅ = ∅
arranged (x & xs) = put x (arranged xs)
