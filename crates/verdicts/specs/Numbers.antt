-- A verdict as a number: "0 waiting, 1 unsound, 2 void, 3 effective".
use Rattle.std.specs.Prelude.{ℕ, zero, suc, ◌≡◌}
use Rattle.std.proofs.Common.{◌∙◌}
use Rattle.std.proofs.Math.Path.{refl, sym, ap}
use Rattle.verdicts.specs.declared.Verdict.{Verdict}
use Rattle.verdicts.specs.declared.Verdict.TheVariants.{Waiting, Unsound, Void, Effective}

abbrev pub verdict_number : Verdict → ℕ
verdict_number Waiting = 0
verdict_number Unsound = 1
verdict_number Void = 2
verdict_number Effective = 3

-- the verdict of a number
abbrev verdict_numbered : ℕ → Verdict
verdict_numbered zero = Waiting
verdict_numbered (suc zero) = Unsound
verdict_numbered (suc (suc zero)) = Void
verdict_numbered (suc (suc (suc n))) = Effective

numbered_back : (v : Verdict) → verdict_numbered (verdict_number v) ≡ v
numbered_back Waiting = refl
numbered_back Unsound = refl
numbered_back Void = refl
numbered_back Effective = refl

-- no two verdicts have one number
pub verdict_number_injective : (a b : Verdict) → verdict_number a ≡ verdict_number b → a ≡ b
verdict_number_injective a b p = sym (numbered_back a) ∙ ap verdict_numbered p ∙ numbered_back b
