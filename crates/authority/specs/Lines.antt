-- Lines by places, and what the tables say. Q is the table of presented places, G that of targets, S says which places are sound.
use Rattle.std.specs.Prelude.{ℕ, zero, suc, ◌<◌, ◌≡◌, Bool, true, false, cond, List, [], ◌∷◌, ltb, get_or}
use Rattle.lists.specs.Bytes.{Bytes}
use Rattle.model.specs.Events.{is_revoke}
use Rattle.model.specs.Heights.{view}
use Rattle.model.specs.Verdicts.{sound}
use Rattle.model.specs.Store.{held_in}
use Rattle.ordering.specs.Named.{missing}
use Rattle.ordering.specs.Placed.{held_at, id_of}

-- the places above k, in at most f steps: the presented one, then the one that it presents, up to the creator; Q has an entry for
-- every place of the line
unfoldable pub line_from : List ℕ → ℕ → ℕ → List ℕ
line_from Q zero k = []
line_from Q (suc f) k = cond (ltb (get_or Q k 0) missing) (get_or Q k 0 ∷ line_from Q f (get_or Q k 0)) []

-- the tables say what the model says of the events held
pub record Authority (store : Bytes) (n : ℕ) (Q G : List ℕ) (S : List Bool) : Type 0 where
  pub sound_is : (k : ℕ) → k < n → get_or S k false ≡ sound (view (held_in store n)) (id_of store k)
  pub presents : (k : ℕ) → k < n → (k ≡ 0 → ⊥) → sound (view (held_in store n)) (id_of store k) ≡ true
      → (get_or Q k 0 < n) × ((held_at store k).presented ≡ id_of store (get_or Q k 0))
  pub names : (k : ℕ) → k < n → is_revoke (held_at store k) ≡ true → sound (view (held_in store n)) (id_of store k) ≡ true
      → (get_or G k 0 < n) × ((held_at store k).target ≡ id_of store (get_or G k 0))
  pub no_target : (k : ℕ) → k < n → is_revoke (held_at store k) ≡ false → sound (view (held_in store n)) (id_of store k) ≡ true
      → get_or G k 0 ≡ missing
