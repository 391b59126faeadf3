-- Edges read byte by byte: the contracts of the inner methods speak of it, and what setting up promises does not.
-- Assumes nothing.
use Rattle.std.specs.Prelude.{ℕ, ◌+◌, ◌-◌, ◌*◌, cond, ◌&&◌, List, [], ◌∷◌, ◌++◌, length, Some, None, Option, ◌==◌, nat_le, nat_lt}
use Rattle.std.specs.Option.{option_map}
use Rattle.hackenbush.specs.declared.edge.Colour.{Colour}
use Rattle.hackenbush.specs.declared.edge.Colour.TheVariants.{Left, Right, Both}
use Rattle.boards.specs.declared.setup.edges.Edges.{Edges}
use Rattle.boards.specs.declared.setup.edges.Part.{Part}
use Rattle.boards.specs.declared.setup.edges.Part.TheVariants.{Nothing, First, Dash, Second, Whole}
use Rattle.boards.specs.Stepping.{run}

-- nothing is read yet
abbrev pub no_edges : Edges
no_edges = record { part = Nothing; edges = record { items = [] } }

abbrev pub with_part : Edges → Part → Edges
with_part s p = record { part = p; edges = s.edges }

-- a vertex with one digit more: none follows a zero, and a vertex is at most 15
abbrev pub longer : ℕ → ℕ → Option ℕ
longer v d = cond (nat_lt 0 v && nat_lt (v * 10 + d) 16) (Some (v * 10 + d)) None

-- one digit more of the first vertex or of the second
abbrev pub part_read : Part → ℕ → Option Part
part_read Nothing d = Some (First d)
part_read (First v) d = option_map First (longer v d)
part_read (Dash v) d = Some (Second v d)
part_read (Second v w) d = option_map (Second v) (longer w d)
part_read Whole d = None

abbrev pub digit_read : Edges → ℕ → Option Edges
digit_read s d = option_map (with_part s) (part_read s.part d)

-- the first vertex ends
abbrev pub dashed : Part → Option Part
dashed (First v) = Some (Dash v)
dashed _ = None

abbrev pub dash_read : Edges → Option Edges
dash_read s = option_map (with_part s) (dashed s.part)

-- the colour ends an edge, of at most 24
abbrev pub drawn : Edges → Part → Colour → Option Edges
drawn s (Second v w) c = cond (nat_lt (length s.edges.items) 24) (Some (record { part = Whole; edges = record { items = s.edges.items ++ record { from = v; to = w; colour = c } ∷ [] } })) None
drawn s _ c = None

abbrev pub colour_read : Edges → Colour → Option Edges
colour_read s c = drawn s s.part c

-- another edge follows one that ended
abbrev pub followed : Part → Option Part
followed Whole = Some Nothing
followed _ = None

abbrev pub comma_read : Edges → Option Edges
comma_read s = option_map (with_part s) (followed s.part)

-- one byte: a digit, `-`, `L`, `R`, `B` or `,`
abbrev pub edge_step : Edges → ℕ → Option Edges
edge_step s b =
    cond (nat_le 48 b && nat_le b 57) (digit_read s (b - 48))
    (cond (b == 45) (dash_read s)
    (cond (b == 76) (colour_read s Left)
    (cond (b == 82) (colour_read s Right)
    (cond (b == 66) (colour_read s Both)
    (cond (b == 44) (comma_read s) None)))))

-- the last edge ended
abbrev pub if_whole : Edges → Part → Option Edges
if_whole s Whole = Some s
if_whole s _ = None

abbrev pub closed : Edges → Option Edges
closed s = if_whole s s.part

abbrev pub last_closed : Option Edges → Option Edges
last_closed None = None
last_closed (Some s) = closed s

-- all the bytes, and the end of the last edge
abbrev pub edges_read : List ℕ → Option Edges
edges_read t = last_closed (run edge_step (Some no_edges) t)
