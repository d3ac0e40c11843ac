use Rattle.std.proofs.Common.{◌≡◌, ◌∙◌, ◌+◌, ◌*◌, ℕ, List, true, length, sym, ap, subst, arith}
use Rattle.std.proofs.lemmas.Result.{err_from_is_err_and}
use Rattle.tier_device.specs.declared.media.Tier.TheVariants.{Fast}
use Rattle.tier_device.specs.Media.{Rose}
use Rattle.batch_journal.specs.Images.{slice, image_count, images_of}
use Rattle.batch_journal.specs.Blocks.{area_of, is_gate_open, Fit}
use Rattle.batch_journal.proofs.Courses.{unmoved_on, left_before}
use Rattle.batch_journal.proofs.Opens.{tells_ok, tells_fault, tells_as, tells_on, opens_err, opens_failed, opens_replayed, few_images, batch_there, run_names, run_fits}
use Rattle.batch_journal.proofs.journal_open.open_replayed.Goals as goal

pub returns-in_err-geometry : goal.returns-in_err-geometry
returns-in_err-geometry g c =
    let m = g.M.Media in
    let f = m.faults c.args.media.now in
    let f' = m.faults c.read_volume.new.media in
    let e = c.in_err-geometry.field-0.0 in
    let read = c.in_err-geometry.ensures in
    let p = err_from_is_err_and c.from_residual.result c.from_residual.ensures.1 in
    rw (p.1, p.2) (opens_err f f' c.read_volume.ensures.unmoved c.requires.rest e (tells_as f f' e read.faults) read.named (λ is. absurd (read.only.1 is)) read.only.0)

pub overflow_mul-count : goal.overflow_mul-count
overflow_mul-count g c =
    let few = few_images c.in_ok-geometry.geometry (g.M.Media.seen c.args.media.now) c.in_ok-geometry.count c.in_ok-geometry.ensures.is c.requires.opened c.in_ok-geometry.ensures.count in
    omega (arith, few)

pub overflow_add-count : goal.overflow_add-count
overflow_add-count g c =
    let few = few_images c.in_ok-geometry.geometry (g.M.Media.seen c.args.media.now) c.in_ok-geometry.count c.in_ok-geometry.ensures.is c.requires.opened c.in_ok-geometry.ensures.count in
    omega (arith, few)

pub read_run-requires : goal.read_run-requires
read_run-requires g c =
    let few = few_images c.in_ok-geometry.geometry (g.M.Media.seen c.args.media.now) c.in_ok-geometry.count c.in_ok-geometry.ensures.is c.requires.opened c.in_ok-geometry.ensures.count in
    let same = ap length (c.read_volume.ensures.unmoved.reads Fast) in
    omega (arith, few, same, c.requires.size)

pub returns-in_err-bytes : goal.returns-in_err-bytes
returns-in_err-bytes g c =
    let m = g.M.Media in
    let f = m.faults c.args.media.now in
    let k = m.faults c.read_volume.new.media in
    let f' = m.faults c.read_run.new.media in
    let e = c.in_err-bytes.field-0.0 in
    let un = unmoved_on c.read_volume.ensures.unmoved c.read_run.ensures.unmoved in
    let told = tells_on f k f' _ c.in_ok-geometry.ensures.faults.quiet (tells_as k f' e c.in_err-bytes.ensures.faults) in
    let only = c.in_err-bytes.ensures.only in
    let p = err_from_is_err_and c.from_residual-in_err-bytes.result c.from_residual-in_err-bytes.ensures.1 in
    rw (p.1, p.2) (opens_err f f' un c.requires.rest e told (run_names e _ only) (λ is. (c.requires.opened, (c.in_ok-geometry.geometry, c.in_ok-geometry.ensures.is))) (run_fits e only))

pub replay-requires-clause-count : goal.replay-requires-clause-count
replay-requires-clause-count g c =
    let m = g.M.Media in
    let s = m.seen c.args.media.now in
    let n = c.in_ok-geometry.count in
    let items = c.in_ok-bytes.bytes.items in
    let is : items ≡ slice 143360 (4096 * n + 4096) (s Fast) = c.in_ok-bytes.ensures.bytes ∙ ap (slice 143360 (4096 * n + 4096)) (c.read_volume.ensures.unmoved.reads Fast) in
    let there = batch_there c.in_ok-geometry.geometry s n items c.in_ok-geometry.ensures.is c.requires.opened c.in_ok-geometry.ensures.count is in
    let value : c.deref.result.now ≡ items = c.deref.ensures.value in
    there.count ∙ ap image_count (sym value)

pub replay-requires-clause-few : goal.replay-requires-clause-few
replay-requires-clause-few g c = (few_images c.in_ok-geometry.geometry (g.M.Media.seen c.args.media.now) c.in_ok-geometry.count c.in_ok-geometry.ensures.is c.requires.opened c.in_ok-geometry.ensures.count).1

pub replay-requires-clause-long : goal.replay-requires-clause-long
replay-requires-clause-long g c =
    let m = g.M.Media in
    let s = m.seen c.args.media.now in
    let n = c.in_ok-geometry.count in
    let items = c.in_ok-bytes.bytes.items in
    let is : items ≡ slice 143360 (4096 * n + 4096) (s Fast) = c.in_ok-bytes.ensures.bytes ∙ ap (slice 143360 (4096 * n + 4096)) (c.read_volume.ensures.unmoved.reads Fast) in
    let there = batch_there c.in_ok-geometry.geometry s n items c.in_ok-geometry.ensures.is c.requires.opened c.in_ok-geometry.ensures.count is in
    let value : c.deref.result.now ≡ items = c.deref.ensures.value in
    omega (arith, there.long, ap length value)

pub replay-requires-clause-fit : goal.replay-requires-clause-fit
replay-requires-clause-fit g c =
    let m = g.M.Media in
    let s = m.seen c.args.media.now in
    let n = c.in_ok-geometry.count in
    let items = c.in_ok-bytes.bytes.items in
    let is : items ≡ slice 143360 (4096 * n + 4096) (s Fast) = c.in_ok-bytes.ensures.bytes ∙ ap (slice 143360 (4096 * n + 4096)) (c.read_volume.ensures.unmoved.reads Fast) in
    let there = batch_there c.in_ok-geometry.geometry s n items c.in_ok-geometry.ensures.is c.requires.opened c.in_ok-geometry.ensures.count is in
    let value : c.deref.result.now ≡ items = c.deref.ensures.value in
    let un = unmoved_on c.read_volume.ensures.unmoved c.read_run.ensures.unmoved in
    let now = m.seen c.read_run.new.media Fast in
    subst (λ (b : List ℕ). Fit (length now) (images_of b)) (sym value) (there.fit now (un.reads Fast))

pub replay-requires-clause-size : goal.replay-requires-clause-size
replay-requires-clause-size g c =
    let un = unmoved_on c.read_volume.ensures.unmoved c.read_run.ensures.unmoved in
    omega (arith, c.requires.size, ap length (un.reads Fast))

pub replay-requires-clause-rest : goal.replay-requires-clause-rest
replay-requires-clause-rest g c x l =
    let un = unmoved_on c.read_volume.ensures.unmoved c.read_run.ensures.unmoved in
    c.requires.rest x (left_before un Fast x l) ∙ sym (un.reads Fast)

pub replay-requires-clause-opened : goal.replay-requires-clause-opened
replay-requires-clause-opened g c =
    let un = unmoved_on c.read_volume.ensures.unmoved c.read_run.ensures.unmoved in
    subst (λ (x : List ℕ). is_gate_open x ≡ true) (sym (un.reads Fast)) c.requires.opened

pub replay-requires-clause-staged : goal.replay-requires-clause-staged
replay-requires-clause-staged g c =
    let m = g.M.Media in
    let s = m.seen c.args.media.now in
    let n = c.in_ok-geometry.count in
    let items = c.in_ok-bytes.bytes.items in
    let is : items ≡ slice 143360 (4096 * n + 4096) (s Fast) = c.in_ok-bytes.ensures.bytes ∙ ap (slice 143360 (4096 * n + 4096)) (c.read_volume.ensures.unmoved.reads Fast) in
    let there = batch_there c.in_ok-geometry.geometry s n items c.in_ok-geometry.ensures.is c.requires.opened c.in_ok-geometry.ensures.count is in
    let value : c.deref.result.now ≡ items = c.deref.ensures.value in
    let un = unmoved_on c.read_volume.ensures.unmoved c.read_run.ensures.unmoved in
    ap (λ (x : List ℕ). images_of (area_of x)) (un.reads Fast) ∙ there.read.staged ∙ ap images_of (sym value)

pub returns : goal.returns
returns g c =
    let m = g.M.Media in
    let f = m.faults c.args.media.now in
    let f' = m.faults c.replay.new.media in
    let un = unmoved_on c.read_volume.ensures.unmoved c.read_run.ensures.unmoved in
    let quiet : f' ≡ f = c.in_ok-replay.ensures.quiet ∙ c.in_ok-bytes.ensures.faults.quiet ∙ c.in_ok-geometry.ensures.faults.quiet in
    let r = c.in_ok-replay.ensures in
    opens_replayed f f' c.in_ok-geometry.count un c.requires.rest c.requires.opened c.in_ok-geometry.ensures.count r.course (m.seen c.replay.new.media) r.lengths c.in_ok-geometry.geometry r.calls (tells_ok f f' c.in_ok-geometry.geometry quiet) c.in_ok-geometry.ensures.is r.rest r.closed r.others r.gate_byte

pub returns-in_err-replay : goal.returns-in_err-replay
returns-in_err-replay g c =
    let m = g.M.Media in
    let f = m.faults c.args.media.now in
    let k = m.faults c.read_run.new.media in
    let f' = m.faults c.replay.new.media in
    let un = unmoved_on c.read_volume.ensures.unmoved c.read_run.ensures.unmoved in
    let same : k ≡ f = c.in_ok-bytes.ensures.faults.quiet ∙ c.in_ok-geometry.ensures.faults.quiet in
    let r = c.in_err-replay.ensures in
    let told = tells_fault f f' (omega (arith, same, r.faults)) (omega (arith, same, r.one_fault)) (subst (λ (j : ℕ). Rose j f') same r.cause) in
    let p = err_from_is_err_and c.from_residual-in_err-replay.result c.from_residual-in_err-replay.ensures.1 in
    rw (p.1, p.2) (opens_failed f f' c.in_ok-geometry.count un c.requires.rest c.requires.opened c.in_ok-geometry.ensures.count r.course (m.seen c.replay.new.media) r.lengths r.at_most told)
