-- Reading the edges of a picture.
use Rattle.std.specs.Prelude.{◌≡◌, ℕ, zero, suc, ◌-◌, ◌*◌, ◌%◌, ◌^◌, ◌<◌, ◌≤◌, Bool, true, false, ◌&&◌, List, [], ◌∷◌, length, get_or, Some, nat_le, nat_lt, slice_index_or, refl}
use Rattle.std.proofs.Common.{sym, ◌∙◌, ap, arith}
use Rattle.std.specs.Int.Bits.{bit_and}
use Rattle.std.specs.List.{slice_get}
use Rattle.std.proofs.lemmas.Nat.{and_le_r, pow_pos}
use Rattle.std.proofs.lemmas.List.{length-take-le, get_or-take}
use Rattle.std.proofs.lemmas.Option.{slice_get-get_or}
use Rattle.std.proofs.lemmas.Bool.{and_parts, ltb-true, leb-true}
use Rattle.bits.specs.Bits.{bit}
use Rattle.bits.proofs.Words.{bit_and_lem, bit_mask, one_shl_64}
use Rattle.hackenbush.specs.declared.edge.Edge.{Edge}
use Rattle.hackenbush.specs.declared.edge.Colour.TheVariants.{Left as L}
use Rattle.hackenbush.specs.declared.picture.Picture.{Picture}
use Rattle.hackenbush.specs.Hackenbush.{near_edge, near, fits}
use Rattle.hackenbush.specs.Pictures.{edges_of}

-- what a read past the end would give
abbrev pub blank : Edge
blank = record { from = 0; to = 0; colour = L }

pub edge_low : (e : Edge) → near_edge e ≡ true → (e.from < 16) × (e.to < 16)
edge_low e n = let a = and_parts (nat_lt e.from 16) (nat_lt e.to 16) n in (ltb-true e.from 16 a.0, ltb-true e.to 16 a.1)

pub near_at : (es : List Edge) (i : ℕ) (e : Edge) → near es ≡ true → slice_get es i ≡ Some e → near_edge e ≡ true
near_at [] i e n at = absurd (let z : ◌≡◌ {A = ℕ} 0 1 = cc in omega arith)
near_at (x ∷ es) zero e n at = let q : x ≡ e = cc in rw (← q) (and_parts (near_edge x) (near es) n).0
near_at (x ∷ es) (suc i) e n at = near_at es i e (and_parts (near_edge x) (near es) n).1 at

pub fits_length : (es : List Edge) → fits es ≡ true → (1 ≤ length es) × (length es ≤ 24)
fits_length es f =
    let a = and_parts (nat_le 1 (length es)) (nat_le (length es) 24) (and_parts _ (near es) f).0 in
    (leb-true 1 (length es) a.0, leb-true (length es) 24 a.1)

module _ (p : Picture) where
  pub count_is : length (edges_of p) ≡ p.count
  count_is = length-take-le p.count p.edges (omega (arith, p.long, p.within))

  pub few : length (edges_of p) ≤ 64
  few = omega (arith, count_is, p.within)

  pub edge_at : (i : ℕ) → i < p.count → slice_get (edges_of p) i ≡ Some (slice_index_or (edges_of p) i blank)
  edge_at i h = slice_get-get_or (edges_of p) i blank (omega (arith, count_is))

  pub ends_near : (i : ℕ) → i < p.count → near_edge (slice_index_or (edges_of p) i blank) ≡ true
  ends_near i h = near_at (edges_of p) i (slice_index_or (edges_of p) i blank) (and_parts (nat_le 1 (length (edges_of p)) && nat_le (length (edges_of p)) 24) _ p.sized).1 (edge_at i h)

  -- the same of the array that the edges are the first items of
  pub edge_in_array : (i : ℕ) → i < p.count → slice_get (edges_of p) i ≡ Some (slice_index_or p.edges i blank)
  edge_in_array i h = edge_at i h ∙ ap Some (get_or-take p.count p.edges i blank h)

  pub ends_in_array : (i : ℕ) → i < p.count → ((get_or p.edges i blank).from < 16) × ((get_or p.edges i blank).to < 16)
  ends_in_array i h = edge_low (slice_index_or p.edges i blank) (near_at (edges_of p) i (slice_index_or p.edges i blank) (and_parts (nat_le 1 (length (edges_of p)) && nat_le (length (edges_of p)) 24) _ p.sized).1 (edge_in_array i h))

  -- the code cut down to the edges that there are
  low : (1 * 2 ^ p.count) % 18446744073709551616 ≡ 2 ^ p.count
  low = one_shl_64 p.count (omega (arith, p.within))

  pub limit_is : (1 * 2 ^ p.count) % 18446744073709551616 ≡ 2 ^ length (edges_of p)
  limit_is = low ∙ ap (λ (n : ℕ). 2 ^ n) (sym count_is)

  pub standing_is : (code i : ℕ) → bit (bit_and code ((1 * 2 ^ p.count) % 18446744073709551616 - 1)) i ≡ (nat_lt i (length (edges_of p)) && bit code i)
  standing_is code i = bit_and_lem code _ i ∙ rw (low, bit_mask p.count i, count_is) (swap (bit code i) (nat_lt i p.count))
    where
      swap : (a b : Bool) → (a && b) ≡ (b && a)
      swap true true = refl
      swap true false = refl
      swap false true = refl
      swap false false = refl

  pub standing_below : (code : ℕ) → bit_and code ((1 * 2 ^ p.count) % 18446744073709551616 - 1) < 2 ^ length (edges_of p)
  standing_below code = rw (low, count_is) (omega (arith, and_le_r code (2 ^ p.count - 1), pow_pos p.count))
