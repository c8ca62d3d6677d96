-- Laws over the words of specs/Agreement.
-- Two lists with the same members and no shared ids have one view, so every answer agrees on them.
use Rattle.std.specs.Prelude.{◌≡◌, List, length}
use Rattle.std.proofs.Common.{sym, ap, ◌∙◌}
use Rattle.std.proofs.Math.Path.{fun_ext}
use Rattle.std.proofs.Math.Option.{none, some}
use Rattle.lists.specs.Cases.{by_option, clash_option}
use Rattle.lists.specs.Tests.{SameMembers}
use Rattle.lists.proofs.Sorting.{sort_same, sort_length}
use Rattle.model.specs.Events.{Id, Event}
use Rattle.model.specs.Heights.{find_in, View, view, written}
use Rattle.model.specs.Verdicts.{asked_verdict}
use Rattle.model.specs.Map.{machine, map_rows}
use Rattle.model.specs.Rows.{order_bytes, map_bytes, written_bytes}
use Rattle.model.specs.SetLaws.{DistinctIds}
use Rattle.model.proofs.SetLaws.{find→, find←}
use Rattle.model.specs.Agreement.{SameAnswers}

module _ (s t : List Event) (d : DistinctIds s) (c : DistinctIds t) (h : SameMembers s t) where
  find_same : (i : Id) → find_in s i ≡ find_in t i
  find_same i = by_option (find_in s i) missing found
    where
      missing : find_in s i ≡ none → find_in s i ≡ find_in t i
      missing n =
          by_option (find_in t i) (λ m. n ∙ sym m)
          (λ e m.
          let g = find→ t i e m in
          clash_option (find_in s i) e n (ap (find_in s) (sym g.1) ∙ find← s d e (h.1 e g.0)))

      found : (e : Event) → find_in s i ≡ some e → find_in s i ≡ find_in t i
      found e m = let g = find→ s i e m in m ∙ sym (ap (find_in t) (sym g.1) ∙ find← t c e (h.0 e g.0))

  by_id_same : (view s).by_id ≡ (view t).by_id
  by_id_same = sort_same (λ e. e.ident) s t d c h

  size_same : length s ≡ length t
  size_same = sym (sort_length (λ e. e.ident) s) ∙ ap length by_id_same ∙ sort_length (λ e. e.ident) t

  -- the one fact that agreement rests on
  pub view_same : view s ≡ view t
  view_same = λ i. record { find = fun_ext find_same i; size = size_same i; by_id = by_id_same i }

pub agreement : (s t : List Event) → DistinctIds s → DistinctIds t → SameMembers s t → SameAnswers s t
agreement s t d c h =
    let same = view_same s t d c h in
    record {
      rows = ap order_bytes same;
      verdicts = λ i. ap (λ (v : View). asked_verdict v i) same;
      map_rows_lem = ap map_rows same;
      map-bytes = ap map_bytes same;
      ended = ap (λ (v : View). (machine v).ended) same;
      joins-run = ap (λ (v : View). (machine v).joins) same;
      written-events = ap written same;
      written-bytes = ap written_bytes same;
    }
