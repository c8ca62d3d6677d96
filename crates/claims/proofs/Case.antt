-- The case of specs/Witness: its premises by computation, and what the third demand says of it.
use Prim.Native.Nat.{ℕ}
use native.Mathlib.Omega.{arith}
use mathlib.Core.Path.{◌≡◌, refl, ap, ◌∙◌}
use mathlib.Core.Bool.{false}
use mathlib.Core.Logic.{⊎_elim}
use mathlib.Core.List.Memᴰ
use mathlib.Core.List.{[], ◌∷◌, flatten, Memᴰ}
use lib.ListN.{length, replicate, length-replicate}
use borrow.Author.Tests.{le-leb}
use Rattle.lists.specs.Cases.{clash}
use Rattle.lists.specs.Bytes.{Bytes, same_bytes}
use Rattle.lists.proofs.Bytes.{same←}
use Rattle.lists.specs.Tests.{SameMembers}
use Rattle.sha256.specs.Sha256.{sha256}
use Rattle.sha256.specs.Vectors.{sha256_computed}
use Rattle.cords.specs.Cords.{entry_of}
use Rattle.cords.specs.Lent.{lent_entry}
use Rattle.cords.specs.DocumentTable.{length_bytes, ruled_lengths, document_table, document_good}
use Rattle.event.specs.Answers.{value}
use Rattle.event.specs.Examples.{fields_computed}
use Rattle.event.specs.Contents.{body_of, cord_at}
use Rattle.event.specs.Checks.{cord_good, refusal}
use Rattle.model.specs.Numbers.{bytes16, bytes32}
use Rattle.model.specs.Bundle.{trailer, packed, bundle_good}
use Rattle.model.specs.Map.{machine, map_rows}
use Rattle.model.specs.Examples.{map_computed}
use Rattle.model.specs.Rows.{map_row, map_bytes}
use Rattle.takes.specs.declared.Placed.TheVariants.{Stored}
use Rattle.takes.specs.Takes.{start_of}
use Rattle.takes.proofs.TakeLaws.{starts←}
use Rattle.call_lists.specs.Calls.{Lent, offers_of, offers, counted_events}
use Rattle.reports.specs.Reports.{figures_of}
use Rattle.claims.specs.Told.{set_view, Tells}
use Rattle.claims.specs.ThirdDemand.{Premises, Agree, counts}
use Rattle.claims.specs.Witness.{creator, joining, both, singly, bundled, ShowsCord, Witness}
use Rattle.claims.proofs.Third.{third_demand}

-- ── the premises ────────────────────────────────────────────────────────────────────────────────────────────────────────

starts : (buffer : Bytes) → length buffer ≡ 49152 → (start_of document_table buffer creator).answer ≡ value Stored
unfolding creator fields_computed
starts buffer h = ap (λ x. x.answer) (starts← document_table buffer creator (record { size = h; long = refl; lent = document_good; fields = refl; create = refl }))

-- the two ids differ
apart : same_bytes (sha256 joining) (sha256 creator) ≡ false
unfolding creator joining same_bytes sha256_computed
apart = refl

singly-counts : counts document_table creator singly ≡ both
unfolding creator joining counted_events offers offers_of bundle_good refusal fields_computed same_bytes body_of cord_good lent_entry
    document_table length_bytes ruled_lengths entry_of
singly-counts = refl

bundled-counts : counts document_table creator bundled ≡ creator ∷ joining ∷ creator ∷ []
unfolding creator joining counted_events offers offers_of bundle_good refusal fields_computed same_bytes body_of cord_good lent_entry
    document_table length_bytes ruled_lengths entry_of packed trailer bytes16 bytes32 flatten
bundled-counts = refl

-- a member that comes twice is a member
with_repeat : (a b : Bytes) → SameMembers (a ∷ b ∷ []) (a ∷ b ∷ a ∷ [])
with_repeat a b = (there, back)
  where
    there : (y : Bytes) → Memᴰ y (a ∷ b ∷ []) → Memᴰ y (a ∷ b ∷ a ∷ [])
    there y m =
        ⊎_elim
        (λ (q : y ≡ a). Memᴰ.head q)
        (λ n. ⊎_elim
        (λ (q : y ≡ b). Memᴰ.tail (Memᴰ.head q))
        (λ k. absurd (Memᴰ.not-nil k))
        (Memᴰ.cases_cons n))
        (Memᴰ.cases_cons m)

    back : (y : Bytes) → Memᴰ y (a ∷ b ∷ a ∷ []) → Memᴰ y (a ∷ b ∷ [])
    back y m =
        ⊎_elim
        (λ (q : y ≡ a). Memᴰ.head q)
        (λ n. ⊎_elim
        (λ (q : y ≡ b). Memᴰ.tail (Memᴰ.head q))
        (λ k. ⊎_elim
        (λ (q : y ≡ a). Memᴰ.head q)
        (λ l. absurd (Memᴰ.not-nil l))
        (Memᴰ.cases_cons k))
        (Memᴰ.cases_cons n))
        (Memᴰ.cases_cons m)

pub met : Premises document_table creator both singly bundled
met =
    record {
      at_most = omega arith;
      distinct = (
        (λ y m e. ⊎_elim
            (λ (q : y ≡ joining). clash _ (same← _ _ (rw q at e)) apart)
            (λ n. absurd (Memᴰ.not-nil n))
            (Memᴰ.cases_cons m)),
        ((λ y m e. absurd (Memᴰ.not-nil m)), tt),
      );
      first = record {
        starts = starts (replicate 49152 7) (length-replicate {A = ℕ} 49152 7);
        same_set = rw singly-counts ((λ y m. m), (λ y m. m));
      };
      second = record {
        starts = starts (replicate 49152 1) (length-replicate {A = ℕ} 49152 1);
        same_set = rw bundled-counts (with_repeat creator joining);
      };
    }

-- ── what follows ────────────────────────────────────────────────────────────────────────────────────────────────────────

agree : Agree document_table creator both singly bundled
agree = third_demand document_table creator both singly bundled met

figures : figures_of (machine (set_view both)) ≡ record { rows = 1; ended = 0; joins = 1 }
unfolding creator joining map_computed sha256_computed
figures = refl

rows : map_rows (set_view both) ≡ cord_at 3 7 4 5 12 ∷ []
unfolding creator joining map_computed sha256_computed
rows = refl

bytes : map_bytes (set_view both) ≡ 0 ∷ 3 ∷ 0 ∷ 7 ∷ 4 ∷ 5 ∷ 0 ∷ 12 ∷ []
unfolding map_bytes map_row bytes16 flatten
bytes = rw rows

shows : (m : Lent) → Tells document_table both m → ShowsCord m
shows m tells out h = tells.map_told out ∙ rw (figures, bytes, le-leb 8 (length out) h)

pub witness : Witness
witness =
    record {
      premises = met;
      first_map = shows _ agree.first_tells;
      second_map = shows _ agree.second_tells;
      each_cord = agree.each_cord (cord_at 3 7 4 5 12) (rw rows (Memᴰ.head refl));
    }
