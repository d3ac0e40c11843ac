use Rattle.std.proofs.Common.{◌∙◌, ◌++◌, ◌∷◌, [], ℕ, List, length, append_assoc, append-nil, sym, subst, ap, arith}
use Rattle.std.specs.Prelude.{IsSome}
use Rattle.std.proofs.lemmas.List.{length-append}
use Rattle.area_reader.specs.batch_journal.Images.{image_for, Rises, next_of}
use Rattle.area_commit.proofs.ByNumber.{rise_from, rises_low}
use Rattle.area_commit.proofs.nodes.NodeImages.push_all.Goals as goal

pub loop-number-init : goal.loop-number-init
loop-number-init c =
    let given = c.into_iter-number-iterator.ensures.into_iter_gives ∙ c.iter-number-items.ensures.rest in
    let entries = c.self.inside.images.entries in
    let batch = c.args.batch.now in
    record {
      pushed = ap (λ (es : List (ℕ × List ℕ)). batch ++ es) (given ∙ c.self.view_is);
      rises = subst (Rises (next_of batch)) (sym given) (rises_low 292 (next_of batch) entries c.requires.rises (rise_from 292 entries c.iter-number-items.ensures.ordered (λ k some. c.requires.nodes k (subst (λ (es : List (ℕ × List ℕ)). IsSome (image_for k es)) c.self.view_is some))));
    }

pub push-requires-clause-room : goal.push-requires-clause-room
push-requires-clause-room c =
    omega (arith, ap length c.loop-number.invariant.pushed, length-append c.loop-number.batch c.loop-number.number-iterator, length-append c.args.batch.now c.args.self.now, ap length c.in-Some.ensures.steps, c.requires.room)

pub push-requires-clause-rises : goal.push-requires-clause-rises
push-requires-clause-rises c = (subst (Rises (next_of c.loop-number.batch)) c.in-Some.ensures.steps c.loop-number.invariant.rises).0

pub loop-number-preserved : goal.loop-number-preserved
loop-number-preserved c =
    let batch = c.loop-number.batch in
    let n = c.in-Some.number.now in
    let image = c.in-Some.image.now in
    let rest = c.next.new.self in
    record {
      pushed = ap (λ (b : List (ℕ × List ℕ)). b ++ rest) (c.in_ok-push.ensures.pushed ∙ ap (λ (bytes : List ℕ). batch ++ (n, bytes) ∷ []) c.as_slice.ensures.bytes)
          ∙ append_assoc batch ((n, image) ∷ []) rest ∙ ap (λ (es : List (ℕ × List ℕ)). batch ++ es) (sym c.in-Some.ensures.steps) ∙ c.loop-number.invariant.pushed;
      rises = subst (λ (low : ℕ). Rises low rest) (sym c.in_ok-push.ensures.next) (subst (Rises (next_of batch)) c.in-Some.ensures.steps c.loop-number.invariant.rises).1;
    }

pub returns : goal.returns
returns c =
    let batch = c.loop-number.batch in
    record { pushed = sym (append-nil batch) ∙ ap (λ (es : List (ℕ × List ℕ)). batch ++ es) (sym c.in-None.ensures.steps.0) ∙ c.loop-number.invariant.pushed }
