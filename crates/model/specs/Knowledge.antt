-- What is settled in a set stays in every larger one: its height, ancestors, line and soundness. And every grant on an effective
-- event's line is effective.
-- The laws on these words stand in proofs/Knowledge.
use Rattle.std.specs.Prelude.{◌≡◌}
use mathlib.Core.List.{List}
use Rattle.model.specs.Events.{Id, Event}
use Rattle.model.specs.Heights.{view, height, ancestor}
use Rattle.model.specs.Verdicts.{line, sound}

-- what a larger set keeps of the event with the id i
pub record Kept (s t : List Event) (i : Id) : Type 0 where
  pub same_height : height (view t) i ≡ height (view s) i
  pub same_ancestors : (a : Id) → ancestor (view t) i a ≡ ancestor (view s) i a
  pub same_line : line (view t) i ≡ line (view s) i
  pub same_soundness : sound (view t) i ≡ sound (view s) i
