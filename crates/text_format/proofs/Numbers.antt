-- What `itoa` writes of a number: its digits, and behind zeros its last five.
use Prim.Native.Nat.{ℕ, zero, suc, ◌+◌, ◌-◌, ◌/◌, ◌%◌, ◌≤◌, ◌<◌}
use native.Mathlib.Omega.{arith}
use native.Mathlib.Numerals.{add-one}
use mathlib.Core.Path.{◌≡◌, refl, sym, ap, ◌∙◌}
use mathlib.Core.List.{[], ◌∷◌, ◌++◌, append_assoc, append-nil}
use lib.Dec.{ltb}
use lib.ListN.{length, replicate, take, drop, length-append, take-append-drop}
use borrow.Author.Tests.{lt-ltb, le-ltb, ltb-true, ltb-false}
use Rattle.std.specs.Fmt.{decimal as written}
use Rattle.std.proofs.lemmas.Fmt.{AppendsLastDigit, decimal_from_appends, length-decimal-le_succ}
use Rattle.std.proofs.lemmas.List.{replicate_more, take-replicate}
use Rattle.lists.specs.Cases.{by_bool}
use Rattle.lists.specs.Bytes.{Bytes}
use Rattle.text_format.specs.Text.{last_digit, decimal_in, decimal, digits}
use Rattle.text_format.specs.TextLaws.{decimal_one, decimal_step}

by_digits : AppendsLastDigit decimal_in
unfolding decimal_in
by_digits = record {
  one = λ k n h. let e : n % 10 ≡ n = omega arith in rw (lt-ltb n 10 h, e);
  more = λ k n h. rw (le-ltb n 10 h);
}

pub same_decimal : (n : ℕ) → n < 65536 → written n ≡ decimal n
unfolding decimal
same_decimal n h =
    let small : n < 18446744073709551616 = omega arith in
    sym (decimal_from_appends decimal_in by_digits (suc n) n small (omega (arith, length-decimal-le_succ n small)))

zeros : (k : ℕ) → digits k 0 ≡ replicate k 48
unfolding digits
zeros zero = refl
zeros (suc k) = ap (λ (b : Bytes). b ++ 48 ∷ []) (zeros k) ∙ (rw add-one at (replicate_more {X = ℕ} k 48))

-- zeros, and behind them the digits of a number, are its last digits
filled : (k n z : ℕ) → z + length (decimal n) ≡ k → replicate z 48 ++ decimal n ≡ digits k n
unfolding digits
filled zero n z e = absurd (by_bool (ltb n 10)
    (λ t. omega (arith, ap length (decimal_one n (ltb-true n 10 t))))
    (λ f. omega (arith, ap length (decimal_step n (ltb-false n 10 f)), length-append (decimal (n / 10)) (last_digit n ∷ []))))
filled (suc k) n z e =
    by_bool (ltb n 10)
    (λ t.
    let low = ltb-true n 10 t in
    let one = decimal_one n low in
    let none : n / 10 ≡ 0 = omega arith in
    let all : z ≡ k = omega (arith, ap length one) in
    let same : n % 10 ≡ n = omega arith in
    rw (one, none, zeros k, all, same))
    (λ f.
    let high = ltb-false n 10 f in
    let step = decimal_step n high in
    let rest = filled k (n / 10) z (omega (arith, ap length step, length-append (decimal (n / 10)) (last_digit n ∷ []))) in
    ap (λ (b : Bytes). replicate z 48 ++ b) step
    ∙ sym (append_assoc (replicate z 48) (decimal (n / 10)) (last_digit n ∷ []))
    ∙ ap (λ (b : Bytes). b ++ last_digit n ∷ []) rest)

-- what `write_digits` leaves of five zeros
pub five_digits : (n start : ℕ) (text : Bytes) → n < 65536 → start + length (written n) ≡ 5 → drop start text ≡ written n ++ []
    → take start text ≡ take start (replicate 5 48) → (text ≡ digits 5 n) × ((drop start text ≡ decimal n) × (start ≤ 5))
five_digits n start text h size number front =
    let same = same_decimal n h in
    let behind : drop start text ≡ decimal n = number ∙ append-nil (written n) ∙ same in
    let before : take start text ≡ replicate start 48 = front ∙ take-replicate start 5 48 (omega arith) in (
      sym (take-append-drop start text) ∙ rw (before, behind) (filled 5 n start (omega (arith, ap length same))),
      (behind, omega arith),
    )

pub last_digits : (k n : ℕ) → k ≤ 5 → take (5 - (5 - k)) (drop (5 - k) (digits 5 n)) ≡ digits k n
unfolding digits
last_digits zero n h = refl
last_digits (suc zero) n h = refl
last_digits (suc (suc zero)) n h = refl
last_digits (suc (suc (suc zero))) n h = refl
last_digits (suc (suc (suc (suc zero)))) n h = refl
last_digits (suc (suc (suc (suc (suc zero))))) n h = refl
last_digits (suc (suc (suc (suc (suc (suc k)))))) n h = absurd (omega arith)
