-- What is held after a list of calls, and what the calls of a list are refused by.
-- The laws on these words stand in proofs/CallLaws.
use Rattle.std.specs.Prelude.{◌≡◌, cond, ltb, length, drop}
use mathlib.Core.List.{List, [], ◌∷◌, ◌++◌, map}
use Rattle.lists.specs.Bytes.{Bytes}
use Rattle.lists.specs.Tests.{member_of}
use Rattle.octets.specs.Octets.{part}
use Rattle.sha256.specs.Sha256.{sha256}
use Rattle.event.specs.Answers.{value}
use Rattle.takes.specs.declared.Placed.TheVariants.{Stored}
use Rattle.takes.specs.Takes.{start_of}
use Rattle.takes.specs.TakeLaws.{Good}
use Rattle.call_lists.specs.Calls.{Call, single, Lent, held_by, started, after_calls}

-- ── on lists ────────────────────────────────────────────────────────────────────────────────────────────────────────────

-- an event that passes goes behind those held where its id is new and fewer than 256 are held
abbrev pub joined : List Bytes → Bytes → List Bytes
joined held e = cond (member_of (sha256 e) (map sha256 held)) held (cond (ltb (length held) 256) (held ++ (e ∷ [])) held)

unfoldable pub accepted : List Bytes → List Bytes → List Bytes
accepted held [] = held
accepted held (e ∷ es) = accepted (joined held e) es

-- ── one call ────────────────────────────────────────────────────────────────────────────────────────────────────────────

-- what a list of calls keeps: check 2 passes, and the creator stands first
pub record Kept (table creator : Bytes) (m : Lent) : Type 0 where
  pub good : Good table m.store m.count
  pub creator_first : part m.store 0 192 ≡ creator

-- ── check 2 passes what lists of calls leave, and nothing else ──────────────────────────────────────────────────────────

-- the held places and the count are those that a list of calls leaves
pub record LeftBy (table : Bytes) (m : Lent) (buffer creator : Bytes) (calls : List Call) : Type 0 where
  pub starts : (start_of table buffer creator).answer ≡ value Stored
  pub same_held : held_by (after_calls table (started table buffer creator) calls) ≡ held_by m
  pub same_count : (after_calls table (started table buffer creator) calls).count ≡ m.count

-- the takes of the places behind the creator, one by one, from a start with it
abbrev pub takes_of : Lent → List Call
takes_of m = map single (drop 1 (held_by m))
