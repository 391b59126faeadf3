-- What a writer leaves in its buffer.
-- Assumes nothing.
use Rattle.std.specs.Prelude.{◌≡◌, ℕ, ◌+◌, List, length}
use Rattle.dictionary.specs.Printing.{over}
use Rattle.dictionary.specs.declared.writer.Writer.{Writer}

-- the text stands in the same buffer from the writer's place on, and the writer behind it
pub record Wrote (before after : Writer) (text : List ℕ) : Type 0 where
  pub same_buffer : after.out.ghost_name ≡ before.out.ghost_name
  pub written : after.out.now ≡ over before.out.now before.place text
  pub behind : after.place ≡ before.place + length text
