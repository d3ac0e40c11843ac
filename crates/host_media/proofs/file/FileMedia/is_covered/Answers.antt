use Rattle.std.proofs.Math.Logic.{∥∥₁_map}
use Rattle.host_media.specs.HistoryLaws.{at_now}
use Rattle.host_media.proofs.file.FileMedia.is_covered.Goals as goal

pub returns : goal.returns
returns c t d left =
    let m = c.args.self.now.inner in
    ∥∥₁_map m.covered (λ covers. at_now m.past.history t d (covers t d left))
