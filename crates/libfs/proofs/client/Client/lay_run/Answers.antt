use Rattle.std.proofs.Common.{List, ℕ, Option, length, ap, sym, ◌∙◌, subst, arith}
use Rattle.client_view.specs.After.{bytes_at}
use Rattle.client_view.specs.RecordReach.{AreShort}
use Rattle.libfs.specs.NeedService.{IsRunBehind, IsRunOf, shared_by}
use Rattle.libfs.proofs.FetchedRuns.{lent_back, read_is_short, run_behind}
use Rattle.libfs.proofs.client.Client.lay_run.Goals as goal

pub lay_marked-requires-clause-short : goal.lay_marked-requires-clause-short
lay_marked-requires-clause-short g c =
    subst (λ (xs : List (Option (List ℕ))). AreShort xs) (sym c.deref_mut.ensures.value)
    (read_is_short (bytes_at (shared_by g.S.Media c.args.kernel.now) c.args.inode) c.args.first c.args.count c.read_run.new.run.items c.in_ok-mark.ensures.run)

pub returns-clause-laid : goal.returns-clause-laid
returns-clause-laid g c =
    let k = c.args.kernel.now in
    let bytes = bytes_at (shared_by g.S.Media k) c.args.inode in
    let run = c.read_run.new.run in
    let read = subst (λ (xs : List (Option (List ℕ))). IsRunOf bytes c.args.first c.args.count xs) (sym c.deref_mut.ensures.value) c.in_ok-mark.ensures.run in
    let long = c.lay_marked.auto.run ∙ ap (λ (xs : List (Option (List ℕ))). length xs) c.deref_mut.ensures.value in
    subst (λ (xs : List (Option (List ℕ))). IsRunBehind g.M.Media g.S.Media k c.args.self.now c.args.inode c.args.first c.args.count xs) (sym (lent_back run.len c.lay_marked.new.run run.items (omega (arith, run.ok.0, long))))
    (run_behind g.M.Media g.S.Media k c.args.self.now c.args.inode c.args.first c.args.count c.in_ok-mark.mark c.deref_mut.result.now c.lay_marked.new.run read c.in_ok-mark.ensures.mark c.lay_marked.ensures.laid c.lay_marked.ensures.none)
