-- The figures that a bundle adds are its events' answers, counted in the lent tally one by one.
-- The laws on these words stand in proofs/TallyLaws.
use Rattle.std.specs.Prelude.{ℕ, ◌≤◌}
use Rattle.lists.specs.Bytes.{Bytes}
use Rattle.takes.specs.declared.Tally.{Tally}
use Rattle.takes.specs.Takes.{Run}
use Rattle.tally.specs.Tallies.{add_figures}

-- a run over a tally that others have counted in
abbrev pub over : Tally → Run → Run
over t r = record { figures = add_figures t r.figures; count = r.count; store = r.store }

-- what every tally of three u32 satisfies
pub record Fits (t : Tally) : Type 0 where
  pub new_fits : t.new ≤ 4294967295
  pub repeats_fit : t.repeats ≤ 4294967295
  pub refused_fit : t.refused ≤ 4294967295

-- the run of a bundle's events that counts in the lent tally
abbrev pub lent_run : Tally → Bytes → ℕ → Run
lent_run t s n = record { figures = t; count = n; store = s }
