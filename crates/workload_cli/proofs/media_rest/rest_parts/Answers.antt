use Rattle.std.proofs.Common.{◌≡◌, ◌∙◌, ℕ, List, ◌++◌, length, take, drop, ap, sym, subst}
use Rattle.std.proofs.Math.Seq.{take-append_seam}
use Rattle.std.specs.Prelude.{Result, Ok, Err, OnErr, OnOk, slice_get}
use Rattle.world_files.specs.area_recovery.Parts.{PartsView, part_medium}
use Rattle.workload_cli.specs.Fills.{AreRestBy}
use Rattle.workload_cli.specs.Rests.{LeaveNoMore}
use Rattle.workload_cli.specs.Trips.{PartsCount}
use Rattle.workload_cli.proofs.RestingMedia.{each_leaves_no_more, each_rests}
use Rattle.workload_cli.proofs.media_rest.rest_parts.Goals as goal

-- a row that was lent whole
lent_back : {X : Type 0} (n : ℕ) (new old : List X) → n ≡ length new → take n (new ++ drop (length new) old) ≡ new
lent_back n new old long = ap (λ k. take k (new ++ drop (length new) old)) long ∙ take-append_seam new (drop (length new) old)

on_ok : {A E : Type 0} (X : Type 0) (r : Result A E) (x : A) → r ≡ Ok x → OnOk r X → X
on_ok {A = A} {E = E} X r x is h = subst (λ (s : Result A E). OnOk s X) is h

on_err : {A E : Type 0} (X : Type 0) (r : Result A E) (e : E) → r ≡ Err e → OnErr r X → X
on_err {A = A} {E = E} X r e is h = subst (λ (s : Result A E). OnErr s X) is h

pub returns-in-Ok-Ok-clause-rest : goal.returns-in-Ok-Ok-clause-rest
returns-in-Ok-Ok-clause-rest g c =
    let m = g.M.Media in
    let rested = c.rest_all-end in
    let value = c.deref_mut.ensures.value in
    let given : PartsView _ = record { shared = c.into_media-shared.result.0; regions = c.into_media-shared.result.1.items } in
    let parts : given ≡ c.args.parts = λ i. record { shared = c.into_media-shared.ensures.shared i; regions = c.into_media-shared.ensures.regions i } in
    let after : PartsView _ = record { shared = rested.new.shared; regions = rested.new.regions } in
    let long = rested.ensures.len ∙ ap length value in
    let back : c.in-Ok-Ok.parts ≡ after = c.in-Ok-Ok.ensures.parts ∙ ap (λ rs. record { shared = rested.new.shared; regions = rs }) (lent_back _ rested.new.regions c.into_media-shared.result.1.items (sym (rested.ensures.len ∙ c.deref_mut.ensures.len))) in
    subst (λ (v : PartsView _). AreRestBy m g.M.Resting.holds c.args.fills.now (part_medium v) (part_medium c.in-Ok-Ok.parts)) parts
    (subst (λ (w : PartsView _). AreRestBy m g.M.Resting.holds c.args.fills.now (part_medium given) (part_medium w)) (sym back)
    (each_rests m given after c.into_media-shared.ensures.sixteen long g.M.Resting.holds c.args.fills.now (on_ok _ rested.result c.in-Ok-Ok.field-0-1 c.in-Ok-Ok.is-1 rested.ensures.shared)
    (λ k v w is_v is_w. on_ok _ rested.result c.in-Ok-Ok.field-0-1 c.in-Ok-Ok.is-1 rested.ensures.regions k v w (ap (λ vs. slice_get vs k) value ∙ is_v) is_w)))

pub returns-in-Ok-Err-clause-refused : goal.returns-in-Ok-Err-clause-refused
returns-in-Ok-Err-clause-refused g c =
    let m = g.M.Media in
    let rested = c.rest_all-end in
    let value = c.deref_mut.ensures.value in
    let given : PartsView _ = record { shared = c.into_media-shared.result.0; regions = c.into_media-shared.result.1.items } in
    let parts : given ≡ c.args.parts = λ i. record { shared = c.into_media-shared.ensures.shared i; regions = c.into_media-shared.ensures.regions i } in
    let after : PartsView _ = record { shared = rested.new.shared; regions = rested.new.regions } in
    let long = rested.ensures.len ∙ ap length value in
    let back : c.in-Ok-Err.parts ≡ after = c.in-Ok-Err.ensures.parts ∙ ap (λ rs. record { shared = rested.new.shared; regions = rs }) (lent_back _ rested.new.regions c.into_media-shared.result.1.items (sym (rested.ensures.len ∙ c.deref_mut.ensures.len))) in
    subst (λ (v : PartsView _). LeaveNoMore m (part_medium v) (part_medium c.in-Ok-Err.parts)) parts
    (subst (λ (w : PartsView _). LeaveNoMore m (part_medium given) (part_medium w)) (sym back)
    (each_leaves_no_more m given after c.into_media-shared.ensures.sixteen long (on_err _ rested.result c.in-Ok-Err.error c.in-Ok-Err.is-1 rested.ensures.shared_refused)
    (λ k v w is_v is_w. on_err _ rested.result c.in-Ok-Err.error c.in-Ok-Err.is-1 rested.ensures.regions_refused k v w (ap (λ vs. slice_get vs k) value ∙ is_v) is_w)))

pub returns-in-Ok-Ok-clause-counted : goal.returns-in-Ok-Ok-clause-counted
returns-in-Ok-Ok-clause-counted g c =
    let rested = c.rest_all-end in
    let counts = g.M.Resting.counts c.args.trips.now in
    let after : PartsView _ = record { shared = rested.new.shared; regions = rested.new.regions } in
    let back : c.in-Ok-Ok.parts ≡ after = c.in-Ok-Ok.ensures.parts ∙ ap (λ rs. record { shared = rested.new.shared; regions = rs }) (lent_back _ rested.new.regions c.into_media-shared.result.1.items (sym (rested.ensures.len ∙ c.deref_mut.ensures.len))) in
    let all : PartsCount counts after = (on_ok _ rested.result c.in-Ok-Ok.field-0-1 c.in-Ok-Ok.is-1 rested.ensures.shared_counted, on_ok _ rested.result c.in-Ok-Ok.field-0-1 c.in-Ok-Ok.is-1 rested.ensures.regions_counted) in
    subst (λ (v : PartsView _). PartsCount counts v) (sym back) all
