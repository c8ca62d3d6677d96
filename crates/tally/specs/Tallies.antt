-- What a take leaves that counts in a lent tally: as the take without it, and the tally.
use Rattle.std.specs.Prelude.{ℕ, ◌+◌, cond, ltb}
use Rattle.lists.specs.Bytes.{Bytes}
use Rattle.event.specs.Answers.{Answer, value, refused}
use Rattle.takes.specs.declared.Tally.{Tally}
use Rattle.takes.specs.declared.Placed.{Placed}
use Rattle.takes.specs.Takes.{Left, take_of, counted, bundle_of}

-- a figure after k answers more: "a figure at 4,294,967,295 stays there"
abbrev pub raised_by : ℕ → ℕ → ℕ
raised_by figure k = cond (ltb (figure + k) 4294967295) (figure + k) 4294967295

abbrev pub add_figures : Tally → Tally → Tally
add_figures t f =
    record {
      new = raised_by t.new f.new;
      repeats = raised_by t.repeats f.repeats;
      refused = raised_by t.refused f.refused;
    }

-- "Taking adds 1 to new, repeats or refused in one tally record that the caller lends", so a bundle adds its three figures
-- (TallyLaws: this is its events' answers counted one by one). "Refused takes alter the tally's refused figure alone; a refused
-- bundle does not."
unfoldable pub tallied : Tally → Answer Tally → Tally
tallied t (value figures) = add_figures t figures
tallied t (refused n) = t

-- what a call that counts leaves
pub record Tallied (A : Type 0) : Type 0 where
  pub left : Left A
  pub tally : Tally

-- by what the call leaves without it, and how its answer is counted
abbrev pub tallied_by : {A : Type 0} → (Bytes → Bytes → ℕ → Bytes → Left A) → (Tally → Answer A → Tally)
    → Bytes → Bytes → ℕ → Bytes → Tally → Tallied A
tallied_by left_of count table store n offered t =
    let left = left_of table store n offered in
    record { left = left; tally = count t left.answer }

abbrev pub take_tallied : Bytes → Bytes → ℕ → Bytes → Tally → Tallied Placed
take_tallied = tallied_by take_of counted

abbrev pub bundle_tallied : Bytes → Bytes → ℕ → Bytes → Tally → Tallied Tally
bundle_tallied = tallied_by bundle_of tallied
