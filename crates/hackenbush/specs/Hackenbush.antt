-- The rules of Hackenbush: the edges of a picture, numbered from 0; bit i of a code is 1 while edge i stands.
-- Assumes nothing.
use Rattle.std.specs.Prelude.{ℕ, zero, suc, ◌+◌, ◌^◌, Bool, true, false, cond, not, ◌&&◌, ◌||◌, List, [], map, length, ◌==◌, nat_le, nat_lt}
use Rattle.std.specs.List.{list_all, list_any, slice_get}
use Rattle.bits.specs.Bits.{bit, places}
use Rattle.games.specs.declared.side.Side.{Side}
use Rattle.games.specs.declared.side.Side.TheVariants.{Left, Right}
use Rattle.rulesets.specs.Rules.{Rules}
use Rattle.hackenbush.specs.declared.edge.Edge.{Edge}
use Rattle.hackenbush.specs.declared.edge.Colour.{Colour}
use Rattle.hackenbush.specs.declared.edge.Colour.TheVariants.{Left as L, Right as R, Both as B}
use Rattle.hackenbush.specs.Joined.{joined, holds}

-- both ends of the edge are from 0 to 15
abbrev pub near_edge : Edge → Bool
near_edge e = nat_lt e.from 16 && nat_lt e.to 16

-- every vertex is from 0 to 15
abbrev pub near : List Edge → Bool
near es = list_all near_edge es

-- the size of a picture: 1 to 24 edges between vertices 0 to 15
abbrev pub fits : List Edge → Bool
fits es = (nat_le 1 (length es) && nat_le (length es) 24) && near es

-- v is an end of an edge
abbrev pub touched : List Edge → ℕ → Bool
touched es v = list_any (λ e. v == e.from || v == e.to) es

-- the side may cut an edge of this colour
abbrev pub cuts : Side → Colour → Bool
cuts Left L = true
cuts Left R = false
cuts Left B = true
cuts Right L = false
cuts Right R = true
cuts Right B = true

-- edge i is of a colour that the side may cut
unfoldable pub painted : Side → List Edge → ℕ → Bool
painted s es i = holds (λ e. cuts s e.colour) (slice_get es i)

-- edge i stands and is joined to the ground: one of its ends is
abbrev pub held : List Edge → (ℕ → Bool) → ℕ → Bool
held es up i = up i && holds (λ e. joined es up e.from || joined es up e.to) (slice_get es i)

-- the code of the edges below n that pass the test
abbrev pub code_of : ℕ → (ℕ → Bool) → ℕ
code_of zero p = 0
code_of (suc n) p = code_of n p + cond (p n) (2 ^ n) 0

-- the code that is left when every edge that is not joined to the ground has fallen
unfoldable pub fall : List Edge → (ℕ → Bool) → ℕ
fall es up = code_of (length es) (held es up)

-- a code is legal when it is below the limit and nothing falls: each standing edge is joined to the ground
unfoldable pub legal : List Edge → ℕ → Bool
legal es n = nat_lt n (2 ^ length es) && fall es (bit n) == n

-- the edges that stand once edge i is cut
abbrev pub without : ℕ → ℕ → ℕ → Bool
without n i j = bit n j && not (j == i)

-- the code after a side cut edge i: what is no longer joined to the ground falls
abbrev pub cut : List Edge → ℕ → ℕ → ℕ
cut es n i = fall es (without n i)

-- Hackenbush on these edges: a side cuts a standing edge of their colour, by rising number.
abbrev pub hackenbush : List Edge → Rules
hackenbush es = record {
  limit = 2 ^ length es;
  width = 24;
  depth = 24;
  legal = legal es;
  rank = λ n. cond (legal es n) (length (places (length es) (bit n))) 0;
  moves = λ s n. cond (legal es n) (map (cut es n) (places (length es) (λ i. bit n i && painted s es i))) [];
}
