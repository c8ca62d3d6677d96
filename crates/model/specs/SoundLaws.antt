-- Soundness: exactly the five conditions; and the lines of sound events, which lead to the creator.
-- The laws on these words stand in proofs/SoundLaws.
use Rattle.std.specs.Prelude.{ℕ, ◌≡◌}
use Rattle.std.proofs.Math.Bool.{true, false}
use Rattle.std.proofs.Math.Option.{some}
use mathlib.Core.List.{List, [], ◌∷◌, Memᴰ}
use Rattle.event.specs.declared.Grant.{Grant}
use Rattle.event.specs.declared.Body.TheVariants.{Grant as grant}
use Rattle.model.specs.Events.{Id, Event, is_create, is_grant, is_revoke}
use Rattle.model.specs.Heights.{View, view, ancestor}
use Rattle.model.specs.Verdicts.{grant_of, has, line, right_for, sound}

-- "a revoke's target is an ancestor of kind grant, and P is on the target's line"
pub record TargetBy (v : View) (e : Event) : Type 0 where
  pub target_ancestor : ancestor v e.ident e.target ≡ true
  pub target_event : Event
  pub target_found : v.find e.target ≡ some target_event
  pub target_grants : is_grant target_event ≡ true
  pub presents_above : Memᴰ e.presented (line v e.target)

-- the five conditions of an event other than the creator
pub record SoundBy (v : View) (e : Event) : Type 0 where
  -- "its parents are sound"
  pub parents_sound_lem : (p : Id) → Memᴰ p e.parents → sound v p ≡ true
  -- "the presented id is that of an ancestor P, a grant or the creator, whose subject is the author"
  pub presents_ancestor : ancestor v e.ident e.presented ≡ true
  pub giver : Event
  pub giver_found : v.find e.presented ≡ some giver
  pub given : Grant
  pub giver_gives : grant_of giver ≡ some given
  pub to_author_lem : given.subject ≡ e.author
  -- "P has right 2 for a grant, 4 for a revoke, 1 for join and unplug"
  pub has_right_lem : has given.rights (right_for e.body) ≡ true
  -- "a grant's rights lie within P's"
  pub rights_within : (f : Grant) (q : ℕ) → e.body ≡ grant f → Memᴰ q (1 ∷ 2 ∷ 4 ∷ []) → has f.rights q ≡ true
      → has given.rights q ≡ true
  -- a revoke's target
  pub target_suits_lem : is_revoke e ≡ true → TargetBy v e

-- ── the lines of sound events ─────────────────────────────────────────────────────────────────────────────────────────

-- "The line of an event is P, then the line of P, up to the creator"
pub record LinesBy (s : List Event) (line : Id → List Id) : Type 0 where
  pub of_creator : (e : Event) → Memᴰ e s → is_create e ≡ true → line e.ident ≡ []
  pub of_others : (e : Event) → Memᴰ e s → sound (view s) e.ident ≡ true → is_create e ≡ false
      → line e.ident ≡ (e.presented ∷ line e.presented)
