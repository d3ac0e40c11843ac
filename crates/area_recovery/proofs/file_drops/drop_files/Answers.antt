use Rattle.std.proofs.Common.{◌≡◌, ℕ, ◌+◌, [], ◌∷◌, ◌++◌, List, take, get_or, refl, ap, sym, ◌∙◌, subst, add-one}
use Rattle.std.proofs.Math.Seq.{take-suc}
use Rattle.std.proofs.lemmas.List.{take_all}
use Rattle.std.proofs.lemmas.Result.{err_from_is_err_and}
use Rattle.recovery_laws.specs.area_reader.Store.{disk, graph, marks}
use Rattle.graph_check.specs.file_graph.Graph.{Graph}
use Rattle.graph_check.specs.call_effects.ClosedGraph.{nobody}
use Rattle.graph_check.specs.call_effects.Wholes.{IsSound, state_of}
use Rattle.area_recovery.specs.GraphTests.{without_nameless}
use Rattle.area_recovery.specs.Recovers.{CountNone}
use Rattle.area_recovery.proofs.Staying.{stays_on}
use Rattle.area_recovery.proofs.Changing.{answers_on, dropped_next, dropped_sounds, still_stays}
use Rattle.area_recovery.proofs.file_drops.drop_files.Goals as goal

pub loop-inode-init : goal.loop-inode-init
loop-inode-init g c =
    let m = g.M.Media in
    let old = c.args.area.now in
    record {
      going = c.requires.going;
      stays = still_stays m g.met.M.Media.seen_now old old (c.left_now.ensures.same c.requires.going) (λ regions. CountNone regions (marks (disk m old)));
      dropped = refl;
      marked = refl;
      geometry = refl;
      quiet = refl;
    }

pub loop-inode-preserved : goal.loop-inode-preserved
loop-inode-preserved g c =
    let m = g.M.Media in
    let is = c.args.inodes.now in
    let k = c.loop-inode.inode-index in
    let x = get_or is k 0 in
    let old = c.args.area.now in
    let mid = c.loop-inode.area in
    let new = c.drop_file.new.area in
    let before = c.loop-inode.invariant in
    let fact = c.in_ok-drop_file.ensures in
    let G = graph old.geometry (disk m old) in
    let next : take (k + 1) is ≡ take k is ++ (x ∷ []) = ap (λ (j : ℕ). take j is) (add-one k) ∙ take-suc is k 0 c.loop-inode-test.true in
    record {
      going = fact.answers.quiet.1;
      stays = stays_on m g.met.M.Media.seen_now (λ regions. CountNone regions (marks (disk m old))) (λ regions. CountNone regions (marks (disk m mid))) old.media mid.media new.media (λ regions none. subst (CountNone regions) (sym before.marked) none) before.stays fact.any_moment;
      dropped = fact.dropped ∙ ap (without_nameless (x ∷ [])) before.dropped ∙ sym (ap (λ (xs : List ℕ). without_nameless xs G) next ∙ dropped_next (take k is) x G);
      marked = fact.marks ∙ before.marked;
      geometry = fact.answers.geometry ∙ before.geometry;
      quiet = fact.answers.quiet.0 ∙ before.quiet;
    }

pub returns-in_err-drop_file-clause-any_moment : goal.returns-in_err-drop_file-clause-any_moment
returns-in_err-drop_file-clause-any_moment g c =
    let m = g.M.Media in
    let old = c.args.area.now in
    let mid = c.loop-inode.area in
    let before = c.loop-inode.invariant in
    stays_on m g.met.M.Media.seen_now (λ regions. CountNone regions (marks (disk m old))) (λ regions. CountNone regions (marks (disk m mid))) old.media mid.media c.drop_file.new.area.media (λ regions none. subst (CountNone regions) (sym before.marked) none) before.stays c.in_err-drop_file.ensures.any_moment

pub returns-in_err-drop_file-clause-answers : goal.returns-in_err-drop_file-clause-answers
returns-in_err-drop_file-clause-answers g c =
    let p = err_from_is_err_and c.from_residual.result c.from_residual.ensures.1 in
    let before = c.loop-inode.invariant in
    rw (p.1, p.2)
    (answers_on g.M.Media c.args.area.now c.loop-inode.area c.drop_file.new.area _ before.geometry before.quiet c.in_err-drop_file.ensures.answers)

pub returns-clause-dropped : goal.returns-clause-dropped
returns-clause-dropped g c =
    let old = c.args.area.now in
    c.loop-inode.invariant.dropped ∙ ap (λ (xs : List ℕ). without_nameless xs (graph old.geometry (disk g.M.Media old))) (take_all c.loop-inode.inode-index c.args.inodes.now c.loop-inode-test.false)

pub returns-clause-sound : goal.returns-clause-sound
returns-clause-sound g c =
    let old = c.args.area.now in
    let G = graph old.geometry (disk g.M.Media old) in
    let all = c.loop-inode.invariant.dropped ∙ ap (λ (xs : List ℕ). without_nameless xs G) (take_all c.loop-inode.inode-index c.args.inodes.now c.loop-inode-test.false) in
    λ sound. subst (λ (h : Graph). IsSound h nobody) (sym all) (dropped_sounds c.args.inodes.now G sound).0

pub returns-clause-state : goal.returns-clause-state
returns-clause-state g c =
    let old = c.args.area.now in
    let G = graph old.geometry (disk g.M.Media old) in
    let all = c.loop-inode.invariant.dropped ∙ ap (λ (xs : List ℕ). without_nameless xs G) (take_all c.loop-inode.inode-index c.args.inodes.now c.loop-inode-test.false) in
    λ sound. ap (λ (h : Graph). state_of h nobody) all ∙ (dropped_sounds c.args.inodes.now G sound).1
