-- "Verdicts": sound, the line, void and effective.
use Rattle.std.specs.Prelude.{ℕ, zero, suc, ◌/◌, ◌%◌, Bool, true, false, not, ◌&&◌, ◌||◌, cond, List, [], ◌∷◌, eqb, length}
use Rattle.std.proofs.Math.Option.{Option, none, some}
use Rattle.lists.specs.Cases.{maybe}
use Rattle.lists.specs.Tests.{any_of, all_of, member_of}
use Rattle.event.specs.declared.Grant.{Grant}
use Rattle.event.specs.declared.Body.{Body}
use Rattle.event.specs.declared.Body.TheVariants.{Create as create, Grant as grant, Revoke as revoke, Join as join, Unplug as unplug}
use Rattle.model.specs.Events.{Id, Event, is_create, is_grant, is_revoke}
use Rattle.model.specs.Heights.{View, height, settled, ancestor}

-- what an event gives, of author m. "The creator .. counts as a grant of rights 7 to its author."
abbrev pub given_by : ℕ → Body → Option Grant
given_by m create = some (record { rights = 7; subject = m })
given_by m (grant g) = some g
given_by m revoke = none
given_by m (join c) = none
given_by m (unplug a) = none

abbrev pub grant_of : Event → Option Grant
grant_of e = given_by e.author e.body

-- "rights, 1 to 7 ..: the sum of 1 patch, 2 grant, 4 revoke": the three rights, and whether r has the right q
abbrev pub all_rights : List ℕ
all_rights = 1 ∷ 2 ∷ 4 ∷ []

abbrev pub has : ℕ → ℕ → Bool
has r q = eqb (r / q % 2) 1

-- the rights f lie within the rights g: each that f has, g has
unfoldable pub within : ℕ → ℕ → Bool
within f g = all_of (λ q. not (has f q) || has g q) all_rights

-- all that the grant f gives, the grant g gives
unfoldable pub covers : Grant → Grant → Bool
covers g f = within f.rights g.rights

-- "The line of an event is P, then the line of P, up to the creator": P is the ancestor whose id is presented. In at most k steps
unfoldable pub line_in : View → ℕ → Id → List Id
line_in v zero i = []
line_in v (suc k) i =
    maybe [] (λ e. cond (ancestor v i e.presented) (e.presented ∷ line_in v k e.presented) []) (v.find i)

-- document 01's term line, as ids. No rule asks for the line of an event that is not sound: it ends where no ancestor is presented.
unfoldable pub line : View → Id → List Id
line v i = maybe [] (λ h. line_in v h i) (height v i)

-- "Any other settled event is sound when", 1: "its parents are sound"; `sound` says which ids are
unfoldable pub parents_sound : (Id → Bool) → Event → Bool
parents_sound sound e = all_of sound e.parents

-- 2: "the presented id is that of an ancestor P, a grant or the creator": what P gives
unfoldable pub presented_grant : View → Event → Option Grant
presented_grant v e = cond (ancestor v e.ident e.presented) (maybe none grant_of (v.find e.presented)) none

-- ".. whose subject is the author"
unfoldable pub to_author : Event → Grant → Bool
to_author e g = eqb g.subject e.author

-- 3: "P has right 2 for a grant, 4 for a revoke, 1 for join and unplug"
abbrev pub right_for : Body → ℕ
right_for create = 0
right_for (grant f) = 2
right_for revoke = 4
right_for (join c) = 1
right_for (unplug a) = 1

unfoldable pub has_right : Event → Grant → Bool
has_right e g = has g.rights (right_for e.body)

-- 4: "a grant's rights lie within P's"
unfoldable pub covers_body : Grant → Body → Bool
covers_body g create = true
covers_body g (grant f) = covers g f
covers_body g revoke = true
covers_body g (join c) = true
covers_body g (unplug a) = true

-- 5: "a revoke's target is an ancestor of kind grant, and P is on the target's line"
unfoldable pub target_suits : View → Event → Bool
target_suits v e =
    not (is_revoke e)
    || (ancestor v e.ident e.target
    && maybe false is_grant (v.find e.target)
    && member_of e.presented (line v e.target))

-- 2 to 4, of what P gives
unfoldable pub permits : Event → Grant → Bool
permits e g = to_author e g && has_right e g && covers_body g e.body

-- all five, from the parents' soundness
unfoldable pub sound_from : View → (Id → Bool) → Event → Bool
sound_from v sound e =
    is_create e || (parents_sound sound e && maybe false (permits e) (presented_grant v e) && target_suits v e)

unfoldable pub sound_in : View → ℕ → Id → Bool
sound_in v zero i = false
sound_in v (suc k) i = maybe false (sound_from v (λ p. sound_in v k p)) (v.find i)

-- document 01's term sound. The creator is; a waiting event is not.
unfoldable pub sound : View → Id → Bool
sound v i = maybe false (λ h. sound_in v (suc h) i) (height v i)

-- the revoke r "has its target on the event's line and does not have the event as an ancestor"
unfoldable pub strikes : View → Event → Id → Bool
strikes v r i = is_revoke r && member_of r.target (line v i) && not (ancestor v r.ident i)

-- "A sound event is void exactly when some effective revoke has its target on the event's line and does not have the event as
-- an ancestor. Presented grants get nearer the creator at each such step, so this definition ends": in at most k steps
unfoldable pub effective_in : View → ℕ → Id → Bool
effective_in v zero i = false
effective_in v (suc k) i = sound v i && not (any_of (λ r. strikes v r i && effective_in v k r.ident) v.by_id)

-- document 01's terms effective and void
unfoldable pub effective : View → Id → Bool
effective v i = effective_in v (suc (length (line v i))) i

unfoldable pub void : View → Id → Bool
void v i = sound v i && not (effective v i)

-- "0 waiting, 1 unsound, 2 void, 3 effective"
unfoldable pub verdict : View → Id → ℕ
verdict v i = cond (settled v i) (cond (sound v i) (cond (void v i) 2 3) 1) 0

-- the verdict of an asked id: "9 where no event of the set has that id"
unfoldable pub asked_verdict : View → Id → ℕ
asked_verdict v i = maybe 9 (λ e. verdict v i) (v.find i)
