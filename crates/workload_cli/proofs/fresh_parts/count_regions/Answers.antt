use Rattle.std.proofs.Common.{◌∙◌, ◌++◌, ◌+◌, ◌/◌, [], ◌∷◌, append-nil, append_assoc, length, map, sym, ap, subst, arith}
use Rattle.std.specs.Prelude.{slice_get}
use Rattle.std.proofs.lemmas.List.{map-append}
use Rattle.world_files.proofs.recovery_lemmas.OpenedSeats.{none_left}
use Rattle.workload_cli.specs.Rests.{beneath}
use Rattle.workload_cli.proofs.Pushed.{each_pushed, none_is_some}
use Rattle.workload_cli.proofs.fresh_parts.count_regions.Goals as goal

pub loop-medium-init : goal.loop-medium-init
loop-medium-init g c = record {
  named = λ k m is. absurd (none_is_some m (ap (λ xs. slice_get xs k) (sym c.new-counted.ensures.items) ∙ is));
  counted = ap (map beneath) c.new-counted.ensures.items;
  split = c.into_iter-medium-iterator.ensures.into_iter_gives.0;
  long = c.into_iter-medium-iterator.result.rest.ok.0;
}

pub loop-medium-preserved : goal.loop-medium-preserved
loop-medium-preserved g c =
    let i = c.loop-medium.invariant in
    let done = c.loop-medium.yielded in
    let one = c.in-Some.medium in
    let next = c.in-Some.ensures.steps in
    let fewer = ap length next.0 in
    let counts = g.C.Counting.counts c.args.counting.now in
    let counted = c.in_ok-count in
    let pushed = c.in_ok-push.ensures.pushed in
    record {
      named = λ k m is. each_pushed (λ j x. counts (j / 2 + 1) x) c.loop-medium.counted.items counted.field-0 i.named (subst (λ n. counts (n / 2 + 1) counted.field-0) (c.len.ensures ∙ c.loop-medium.counted.ok.0) counted.ensures.counts) k m (ap (λ xs. slice_get xs k) (sym pushed) ∙ is);
      counted = ap (map beneath) pushed ∙ map-append beneath c.loop-medium.counted.items (counted.field-0 ∷ []) ∙ (λ k. i.counted k ++ counted.ensures.beneath k ∷ []);
      split = append_assoc done (one ∷ []) c.next.new.self.rest.items ∙ ap (λ ms. done ++ ms) (sym next.0) ∙ i.split;
      long = omega (arith, next.1, fewer, i.long);
    }

pub returns-clause-counted : goal.returns-clause-counted
returns-clause-counted g c =
    let i = c.loop-medium.invariant in
    let done = c.loop-medium.yielded in
    i.counted ∙ sym (append-nil done) ∙ ap (λ ms. done ++ ms) (sym (none_left _ (sym i.long ∙ c.in-None.ensures.steps.0))) ∙ i.split
