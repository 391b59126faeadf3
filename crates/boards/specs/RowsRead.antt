-- Rows read byte by byte: the contracts of the inner methods speak of it, and what setting up promises does not.
-- Assumes nothing.
use Rattle.std.specs.Prelude.{ℕ, ◌+◌, ◌-◌, ◌*◌, ◌^◌, Bool, true, cond, ◌&&◌, List, Some, None, Option, ◌==◌, bit_or, nat_lt}
use Rattle.std.specs.Option.{option_map}
use Rattle.boards.specs.declared.setup.rows.Begun.{Begun}
use Rattle.boards.specs.declared.setup.rows.Rows.{Rows}
use Rattle.boards.specs.Stepping.{run}

-- nothing is read yet
abbrev pub no_rows : Begun
no_rows = record { columns = None; start = 0; squares = 0; code = 0 }

-- one square more, of at most 30
abbrev pub put : Begun → ℕ → Option Begun
put s b = cond (nat_lt s.squares 30) (Some (record { columns = s.columns; start = s.start; squares = s.squares + 1; code = bit_or s.code (b * 2 ^ s.squares) })) None

-- a row is as long as the one before it, if there is one
abbrev pub as_long : Option ℕ → ℕ → Bool
as_long None n = true
as_long (Some columns) n = n == columns

-- the squares of a row that ends: it has some, as many as the row before it, if there is one
abbrev pub row_length : Begun → Option ℕ
row_length s = cond (nat_lt s.start s.squares && as_long s.columns (s.squares - s.start)) (Some (s.squares - s.start)) None

-- the end of a row that another follows, and of the last one
abbrev pub ended : Begun → Option Begun
ended s = option_map (λ n. record { columns = Some n; start = s.squares; squares = s.squares; code = s.code }) (row_length s)

abbrev pub closed : Begun → Option Rows
closed s = option_map (λ n. record { columns = n; squares = s.squares; code = s.code }) (row_length s)

-- one byte: `.`, `#` or `/`
abbrev pub row_step : Begun → ℕ → Option Begun
row_step s b = cond (b == 46) (put s 0) (cond (b == 35) (put s 1) (cond (b == 47) (ended s) None))

abbrev pub last_closed : Option Begun → Option Rows
last_closed None = None
last_closed (Some s) = closed s

-- all the bytes, and the end of the last row
abbrev pub rows_read : List ℕ → Option Rows
rows_read t = last_closed (run row_step (Some no_rows) t)
