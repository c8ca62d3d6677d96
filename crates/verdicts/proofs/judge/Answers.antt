use Rattle.std.proofs.Common.{rules, map, ap, ◌∙◌}
use Rattle.std.proofs.Math.ListN.{get_or-map}
use Rattle.std.proofs.lemmas.List.{length-map}
use Rattle.authority.specs.Found.{place_number}
use Rattle.verdicts.specs.Numbers.{verdict_number}
use Rattle.verdicts.specs.declared.Verdict.TheVariants.{Waiting}
use borrow.Author.Tests.{tests}
use Rattle.ordering.proofs.OrderLaws.{rank_few}
use Rattle.tables.specs.Filling.{Filled}
use Rattle.verdicts.specs.Verdicts.{rank_of, verdict_of}
use Rattle.verdicts.proofs.Made.{made}
use Rattle.verdicts.proofs.Steps.{behind_parents, places_apart, few_places, lent_on, rank_low, fits, judged}
use Rattle.verdicts.proofs.judge.Goals as goal
use Rattle.verdicts.proofs.judge.Goals.{After-from_fn-ranks}

pub ancestors-rows-requires : goal.ancestors-rows-requires
ancestors-rows-requires c = behind_parents c.requires

pub find-lines-requires : goal.find-lines-requires
find-lines-requires c = (behind_parents c.requires).low

pub authorize-sound-requires : goal.authorize-sound-requires
authorize-sound-requires c = rw c.find-lines.ensures.lent.1 (behind_parents c.requires)

-- the ranks follow their rule
ranks : (c : After-from_fn-ranks)
    → Filled (rank_of c.args.levels.now (map place_number c.find-lines.result.presented) c.authorize-sound.result) 256 c.from_fn-ranks.result
ranks c = record { entry = made _ _ _ (λ i y q k. search (rules, tests)) _ 0 c.from_fn-ranks.ensures.items }

pub by_rank-count-requires : goal.by_rank-count-requires
by_rank-count-requires c = (
  places_apart c.requires,
  few_places c.requires,
  rank_low c.requires c.ancestors-rows.ensures c.find-lines.ensures.found (lent_on c.find-lines.ensures.lent c.authorize-sound.ensures)
      c.from_fn-ranks.ensures.items.long (ranks (goal.at.by_rank-count-requires c).After-from_fn-ranks),
)

pub find_effects-effective-requires : goal.find_effects-effective-requires
find_effects-effective-requires c =
    fits c.requires c.ancestors-rows.ensures c.find-lines.ensures.found (lent_on c.find-lines.ensures.lent c.authorize-sound.ensures)
    c.from_fn-ranks.ensures.items.long (ranks (goal.at.find_effects-effective-requires c).After-from_fn-ranks) c.by_rank-count.new.out.items _ c.by_rank-count.result
    c.by_rank-count.ensures.value c.by_rank-count.ensures.written (c.as_slice.ensures.value ∙ c.truncate.ensures.items)

pub put_effective-requires : goal.put_effective-requires
put_effective-requires c = few_places c.requires

pub returns : goal.returns
returns c =
    let verdicts = made _ (verdict_of c.args.levels.now c.authorize-sound.result c.find_effects-effective.result) _ (λ i y q k. search (rules, tests)) _ Waiting
    c.from_fn.ensures.items in
    let long = c.from_fn.ensures.items.long in
    let numbers : Filled (λ k. verdict_number (verdict_of c.args.levels.now c.authorize-sound.result c.find_effects-effective.result k)) 256
    (map verdict_number c.from_fn.result) =
    record { entry = λ k h. get_or-map verdict_number c.from_fn.result k Waiting ∙ ap verdict_number (verdicts k h) } in
    record {
      judged =
          judged c.requires c.ancestors-rows.ensures c.find-lines.ensures.found (lent_on c.find-lines.ensures.lent c.authorize-sound.ensures)
          c.from_fn-ranks.ensures.items.long (ranks (goal.at.returns c).After-from_fn-ranks) c.by_rank-count.new.out.items _ c.by_rank-count.result
          c.by_rank-count.ensures.value c.by_rank-count.ensures.written (c.as_slice.ensures.value ∙ c.truncate.ensures.items) c.find_effects-effective.ensures numbers;
      long = length-map c.from_fn.result verdict_number ∙ long;
      few = rw c.put_effective.ensures (rank_few (map verdict_number c.from_fn.result) c.args.order.now 3 (few_places c.requires));
      runs = c.put_effective.ensures;
    }
