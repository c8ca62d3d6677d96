-- Void and effective: the sentence that defines them, as conditions on any test; the test `effective` meets them, and nothing
-- else does.
-- The laws on these words stand in proofs/VoidLaws.
use Rattle.std.specs.Prelude.{◌≡◌, Bool, true, false}
use mathlib.Core.List.{List, Memᴰ}
use Rattle.model.specs.Events.{Id, Event, is_revoke}
use Rattle.model.specs.Heights.{View, view, ancestor}
use Rattle.model.specs.Verdicts.{line, sound}

-- "some effective revoke has its target on the event's line and does not have the event as an ancestor", by a test for effective
pub record Struck (s : List Event) (effective : Id → Bool) (i : Id) : Type 0 where
  pub revoker : Event
  pub held : Memᴰ revoker s
  pub is_revoke_lem : is_revoke revoker ≡ true
  pub is_effective : effective revoker.ident ≡ true
  pub target_on_line : Memᴰ revoker.target (line (view s) i)
  pub not-ancestor : ancestor (view s) revoker.ident i ≡ false

-- an event is effective exactly when it is sound and not void, "A sound event is void exactly when some effective revoke .."
pub record EffectiveBy (s : List Event) (effective : Id → Bool) : Type 0 where
  pub only-sound : (i : Id) → effective i ≡ true → sound (view s) i ≡ true
  pub not_struck : (i : Id) → effective i ≡ true → Struck s effective i → ⊥
  pub all_others : (i : Id) → sound (view s) i ≡ true → (Struck s effective i → ⊥) → effective i ≡ true

-- ── one step ────────────────────────────────────────────────────────────────────────────────────────────────────────────

pub record Strike (v : View) (r : Event) (i : Id) : Type 0 where
  pub is_revoke_lem : is_revoke r ≡ true
  pub target_on_line : Memᴰ r.target (line v i)
  pub not-ancestor : ancestor v r.ident i ≡ false
