use Rattle.std.proofs.Common.{◌∙◌, ◌+◌, ◌*◌, ◌-◌, ap}
use Rattle.layout.specs.Bytes.{u32, zeros, with_text}
use Rattle.layout.proofs.DirChanges.{entry_removed}
use Rattle.layout.proofs.dir_changes.drop_last.Goals as goal

pub returns : goal.returns
returns c v count each spelled =
    c.put_u32.ensures
    ∙ ap (with_text 4 (u32 (c.args.count - 1))) (c.clear_place.ensures ∙ ap (with_text (64 + 72 * (c.args.count - 1)) (zeros 72)) spelled)
    ∙ entry_removed v c.args.count count each c.requires.some c.requires.few
