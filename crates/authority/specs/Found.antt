-- The ancestors that events name: P, which an event presents, with what P gives, and the target of a revoke. P is the table of named
-- places, M holds the rows of ancestors.
use Rattle.std.specs.Prelude.{ℕ, ◌+◌, ◌*◌, ◌≡◌, refl, cond, ltb, get_or, Option, Some, None, unwrap_or}
use Rattle.std.proofs.Math.Option.{Option as ModelOption, none, some}
use mathlib.Core.List.{List, Memᴰ}
use Rattle.lists.specs.Bytes.{Bytes}
use Rattle.event.specs.declared.Grant.{Grant}
use Rattle.event.specs.Fields.{author_of, event_at}
use Rattle.event.specs.Contents.{body_of}
use Rattle.model.specs.Events.{grants}
use Rattle.model.specs.Verdicts.{given_by}
use Rattle.tables.specs.declared.BitRow.{BitRow}
use Rattle.tables.specs.Bits.{bit_at}
use Rattle.ordering.specs.Named.{missing}
use Rattle.authority.specs.declared.Given.{Given}

-- the place p, where it is an ancestor of place k
abbrev pub ancestor_in : List BitRow → ℕ → ℕ → Option ℕ
ancestor_in M k p = cond (bit_at M k p) (Some p) None

-- where the id j stands that the event at place k names, as an ancestor
abbrev pub ancestor_by : List ℕ → List BitRow → ℕ → ℕ → Option ℕ
ancestor_by P M k j = ancestor_in M k (get_or P (k * 5 + j) 0)

-- the number of a place, and that of a missing one for none
abbrev pub place_number : Option ℕ → ℕ
place_number a = unwrap_or a missing

-- "a revoke's target is an ancestor of kind grant"
abbrev pub if_grant : Bytes → Option ℕ → Option ℕ
if_grant store (Some t) = cond (grants (body_of (event_at store t))) (Some t) None
if_grant store None = None

abbrev pub target_by : Bytes → List ℕ → List BitRow → ℕ → Option ℕ
target_by store P M k = if_grant store (ancestor_by P M k 4)

-- the tables of presented places and of targets, an entry for each listed place
pub record NamedAncestors (store : Bytes) (P : List ℕ) (M : List BitRow) (l Q G : List ℕ) : Type 0 where
  pub presents : (k : ℕ) → Memᴰ k l → get_or Q k 0 ≡ place_number (ancestor_by P M k 3)
  pub names : (k : ℕ) → Memᴰ k l → get_or G k 0 ≡ place_number (target_by store P M k)

-- what the ancestor at place p gives, with its place
abbrev pub given_from : ℕ → ModelOption Grant → Option Given
given_from p (some g) = Some (record { place = p; grant = g })
given_from p none = None

-- "an ancestor P, a grant or the creator", at place p
unfoldable pub given_at : Bytes → ℕ → Option Given
given_at store p = cond (ltb p missing) (given_from p (given_by (author_of (event_at store p)) (body_of (event_at store p)))) None

abbrev pub grant_in : Option Given → ModelOption Grant
grant_in (Some x) = some x.grant
grant_in None = none

pub given_grant : (p : ℕ) (o : ModelOption Grant) → grant_in (given_from p o) ≡ o
given_grant p (some g) = refl
given_grant p none = refl
