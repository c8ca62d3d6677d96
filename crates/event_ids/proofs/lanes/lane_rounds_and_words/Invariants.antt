use mathlib.Core.Path.{◌≡◌}
use Rattle.event_ids.specs.Lanes.{Lane, schedule_at, lane_at, steps, OtherSchedules}
use Rattle.event_ids.proofs.lanes.lane_rounds_and_words.Given as goal

abbrev pub invariant-loop-j : goal.invariant-loop-j
invariant-loop-j here =
    record {
      lane : ◌≡◌ {A = Lane} (record { words = schedule_at here.l here.w.words; state = here.s })
          (steps here.t here.j (lane_at here.l here.initial.w.words here.st.words));
      others : OtherSchedules here.l here.initial.w.words here.w.words;
    }
