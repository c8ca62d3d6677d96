-- A table of numbers, each read as a place.
use Rattle.std.specs.Prelude.{ℕ, ◌<◌, ◌≡◌, List, map, length, get_or, Option, None}
use Rattle.std.proofs.Common.{arith, sym, ◌∙◌}
use Rattle.std.proofs.lemmas.List.{length-map, get_or-map, ext_get_or}
use Rattle.ordering.specs.Named.{held_place}

pub read_all : (Q : List ℕ) (R : List (Option ℕ)) (n : ℕ) → length Q ≡ n → length R ≡ n
    → ((k : ℕ) → k < n → get_or R k None ≡ held_place (get_or Q k 0)) → R ≡ map held_place Q
read_all Q R n long size each =
    ext_get_or None R (map held_place Q)
    (size ∙ sym (length-map Q held_place ∙ long))
    (λ k h. each k (omega (arith, size)) ∙ sym (get_or-map held_place Q k 0 None (omega (arith, long, size))))
