-- Laws over the words of specs/Examples.
-- The drawn examples 1 to 9, with given strings for ids: one list of tests and one proof, by computation. Each negative example
-- stands beside a positive one, and beside them stand tests of what the nine leave open.
use Rattle.std.specs.Prelude.{ℕ, zero, suc, ◌≡◌, refl, true}
use Rattle.std.proofs.Math.Option.{some}
use mathlib.Core.List.{List, [], ◌∷◌, flatten}
use Rattle.lists.specs.Tests.{all_of}
use Rattle.cords.specs.Cords.{entry_of, cord_limit}
use Rattle.event.specs.declared.Body.TheVariants.{Create as create}
use Rattle.event.specs.Examples.{fields_computed}
use Rattle.event.specs.Checks.{cord_good, refusal}
use Rattle.model.specs.Numbers.{bytes16, bytes32}
use Rattle.model.specs.Events.{Event}
use Rattle.model.specs.Bundle.{trailer, packed, bundle_good, unpacked}
use Rattle.model.specs.Heights.{view, height, order, waiting, written}
use Rattle.model.specs.Verdicts.{void, verdict, asked_verdict}
use Rattle.model.specs.Rows.{order_row, order_bytes, map_row, map_bytes, written_bytes}
use Rattle.model.specs.Examples.{map_computed, event, unplugs, checks}

pub examples : all_of (λ passed. passed) checks ≡ true
unfolding checks fields_computed map_computed flatten bytes16 bytes32 entry_of cord_limit cord_good refusal order void verdict asked_verdict
    order_row order_bytes map_row map_bytes trailer packed bundle_good unpacked waiting written written_bytes
examples = refl

-- a chain: each event names the one before it as its only parent
abbrev chain : ℕ → List Event
chain zero = event 0 0 [] [] create ∷ []
chain (suc n) = unplugs (suc n) (n ∷ []) 3 ∷ chain n

-- the last of 256 events in a chain has the height 255, and no event of a store has a greater one
pub chain-height : height (view (chain 255)) (255 ∷ []) ≡ some 255
unfolding map_computed
chain-height = refl
