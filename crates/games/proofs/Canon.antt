-- The two parts of being canonical.
-- Assumes nothing.
use Rattle.games.specs.Form.{Form, ◌∈◌}
use Rattle.games.specs.Sides.{Side, options}
use Rattle.games.specs.Canon.{Clean, Canonical, canonical}

pub clean_of : {g : Form} → Canonical g → Clean g
clean_of (canonical c f) = c

pub options_of : {g : Form} → Canonical g → (s : Side) (a : Form) → a ∈ options s g → Canonical a
options_of (canonical c f) = f
