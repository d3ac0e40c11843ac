use Rattle.std.proofs.Common.{◌≢◌, ◌≤◌, ◌<◌, ◌+◌, ◌*◌, ◌⊎◌, ℕ, List, [], length, ap, sym, ◌∙◌, arith}
use Rattle.std.specs.List.{flat_map}
use Rattle.std.proofs.lemmas.List.Elements.{Contains-append_left}
use Rattle.tier_device.specs.declared.media.Tier.{Tier}
use Rattle.tier_device.specs.Media.{overwritten, Puts}
use Rattle.tier_device.specs.AfterStop.{AtRest}
use Rattle.block_alloc.specs.Runs.{run_blocks}
use Rattle.area_reader.specs.batch_journal.Blocks.{block_of}
use Rattle.area_reader.proofs.batch_journal_lemmas.Courses.{on_ok, weaker}
use Rattle.area_reader.specs.Reads.{IsFreeRun}
use Rattle.area_commit.proofs.Courses.{loose_write}
use Rattle.area_commit.proofs.Held.{in_range, put_holds, put_keeps}
use Rattle.area_commit.proofs.data_write.write_run.Goals as goal

pub returns-clause-loose : goal.returns-clause-loose
returns-clause-loose g c s free =
    let m = g.M.Media in
    let old = c.args.journal.now in
    let new = c.write.new.self in
    let tier = c.args.tier in
    let run = c.args.run in
    let n = length c.args.bytes.now in
    let clear : IsFreeRun old.geometry s tier run.first n = λ k low high. free k (Contains-append_left (run_blocks run) [] k (in_range run.first run.count k low (omega (arith, high, c.requires.size)))) in
    loose_write old.geometry s tier run.first n (m.moment old.media) (m.moment new.media) (m.left old.media) (m.left new.media) (c.write.ensures.any_moment c.requires.going) (c.write.ensures.blocks_stay c.requires.going) clear

pub returns-clause-written : goal.returns-clause-written
returns-clause-written g c =
    let m = g.M.Media in
    let old = c.args.journal.now in
    let new = c.write.new.self in
    let tier = c.args.tier in
    let run = c.args.run in
    let bytes = c.args.bytes.now in
    let place : 4096 * run.first ≤ length (m.seen old.media tier) = omega (arith, c.requires.last, c.left_now.ensures.sizes c.requires.going tier) in
    on_ok c.write.result (λ (put : Puts tier (overwritten (m.seen old.media tier) (4096 * run.first) bytes) (m.seen old.media) (m.seen new.media)).
    ap (λ x. flat_map (block_of x) (run_blocks run)) put.here ∙ put_holds (m.seen old.media tier) bytes run.first run.count c.requires.size place) c.write.ensures.written

pub returns-clause-kept : goal.returns-clause-kept
returns-clause-kept g c =
    let m = g.M.Media in
    let old = c.args.journal.now in
    let new = c.write.new.self in
    let tier = c.args.tier in
    let run = c.args.run in
    let bytes = c.args.bytes.now in
    let place : 4096 * run.first + length bytes ≤ length (m.seen old.media tier) = omega (arith, c.requires.last, c.requires.size, c.left_now.ensures.sizes c.requires.going tier) in
    on_ok c.write.result (λ (put : Puts tier (overwritten (m.seen old.media tier) (4096 * run.first) bytes) (m.seen old.media) (m.seen new.media)).
    λ (k : ℕ) (apart : (k < run.first) ⊎ (run.first + run.count ≤ k)). ap (λ x. block_of x k) put.here ∙ put_keeps (m.seen old.media tier) bytes run.first run.count c.requires.size place k apart) c.write.ensures.written

pub returns-clause-keeps_rest : goal.returns-clause-keeps_rest
returns-clause-keeps_rest g c =
    let m = g.M.Media in
    let old = c.args.journal.now in
    let new = c.write.new.self in
    let tier = c.args.tier in
    let since = c.write.ensures.any_moment c.requires.going in
    on_ok c.write.result (λ (put : Puts tier (overwritten (m.seen old.media tier) (4096 * c.args.run.first) c.args.bytes.now) (m.seen old.media) (m.seen new.media)) (t : Tier) (other : t ≢ tier) (rest : AtRest (m.seen old.media) (m.left old.media (m.moment old.media)) t) (x : List ℕ) (l : m.left new.media (m.moment new.media) t x).
    rest x (since.others (m.moment new.media) t x other since.later (omega arith) l) ∙ sym (put.others t other)) c.write.ensures.written

pub returns-clause-turn : goal.returns-clause-turn
returns-clause-turn g c = weaker (c.write.ensures.any_moment c.requires.going) (λ x l. tt)
