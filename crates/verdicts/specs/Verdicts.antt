-- Ranks and verdicts by places. T is the table of levels, Q that of presented places; S and E say where a place is sound and where
-- it is effective, Z has the verdicts.
use Rattle.std.specs.Prelude.{ℕ, ◌<◌, ◌≤◌, ◌≡◌, Bool, false, cond, List, eqb, ltb, length, get_or}
use Rattle.lists.specs.Bytes.{Bytes}
use Rattle.model.specs.Heights.{view}
use Rattle.model.specs.Verdicts.{verdict}
use Rattle.model.specs.Store.{held_in}
use Rattle.ordering.specs.Named.{missing}
use Rattle.ordering.specs.Order.{of_rank}
use Rattle.ordering.specs.Placed.{id_of}
use Rattle.verdicts.specs.declared.Verdict.{Verdict}
use Rattle.verdicts.specs.declared.Verdict.TheVariants.{Waiting, Unsound, Void, Effective}

-- the rank of a sound place is the level of the presented one; the creator and what is not sound have none
unfoldable pub rank_of : List ℕ → List ℕ → List Bool → ℕ → ℕ
rank_of T Q S k =
    cond (eqb k 0) 0 (cond (get_or S k false) (cond (ltb (get_or Q k 0) missing) (get_or T (get_or Q k 0) 0) 0) 0)

-- "0 waiting, 1 unsound, 2 void, 3 effective"
unfoldable pub verdict_of : List ℕ → List Bool → List Bool → ℕ → Verdict
verdict_of T S E k = cond (eqb (get_or T k 0) 0) Waiting (cond (get_or S k false) (cond (get_or E k false) Effective Void) Unsound)

-- the table has the verdict of each event held
pub record Judged (store : Bytes) (n : ℕ) (Z : List ℕ) : Type 0 where
  pub entry : (k : ℕ) → k < n → get_or Z k 0 ≡ verdict (view (held_in store n)) (id_of store k)

-- the verdicts, and the places that the plain machine runs, in order
pub record JudgedPlaces (store : Bytes) (n : ℕ) (order Z run : List ℕ) : Type 0 where
  pub judged : Judged store n Z
  pub long : length Z ≡ 256
  pub few : length run ≤ 256
  pub runs : run ≡ of_rank Z order 3
