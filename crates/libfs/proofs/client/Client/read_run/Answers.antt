use Rattle.std.proofs.Common.{◌+◌, ◌∙◌, Some, ap, refl, subst}
use Rattle.client_view.specs.After.{bytes_at}
use Rattle.client_log.specs.call_effects.Blocks.{block_of}
use Rattle.lease_manager.specs.file_graph.Graph.{Graph}
use Rattle.lease_manager.specs.Passes.{client_of}
use Rattle.kernel_fs.specs.area_reader.Looks.{call_answer}
use Rattle.kernel_fs.specs.area_reader.Store.{Store}
use Rattle.kernel_fs.specs.MachineState.{IsMarkIn}
use Rattle.kernel_fs.proofs.area_reader_lemmas.Looked.{looks_on, store_same}
use Rattle.libfs.specs.NeedService.{shared_by}
use Rattle.libfs.proofs.FetchedRuns.{read_more, shared_same}
use Rattle.libfs.proofs.client.Client.read_run.Goals as goal

pub loop-place-preserved : goal.loop-place-preserved
loop-place-preserved g c =
    let m = g.S.Media in
    let k = c.args.kernel.now in
    let inv = c.loop-place.invariant in
    let then' = c.loop-place.kernel in
    let stores = store_same m k.area then'.area call_answer inv.looks in
    let graphs = shared_same g.M.Media m k then' stores inv.looks.geometry in
    record {
      looks = looks_on m k.area then'.area c.read_block.new.kernel.area tt call_answer inv.looks (c.in_ok-block.ensures.looks.looks inv.looks.going.1);
      book = c.read_block.ensures.looks.book ∙ inv.book;
      opening = c.read_block.ensures.looks.opening ∙ inv.opening;
      run =
          read_more (bytes_at (shared_by m k) c.args.inode) c.args.first c.loop-place.place c.loop-place.run.items c.push_block.new.run.items c.in_ok-block.block inv.run c.in_ok-push_block.ensures.pushed
          (c.in_ok-block.ensures.block ∙ ap (λ (s : Graph). Some (block_of (c.args.first + c.loop-place.place) (bytes_at s c.args.inode))) graphs);
      mark = λ some. (c.in_ok-block.found, refl, subst (λ (s : Store). IsMarkIn s (client_of c.args.self.now.pass) c.in_ok-block.found) stores c.in_ok-block.ensures.mark);
    }
