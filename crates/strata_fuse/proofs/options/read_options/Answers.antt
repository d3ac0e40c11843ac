use Rattle.command_line.proofs.Asking.{asks_taken}
use Rattle.strata_fuse.specs.MountOptions.{AreMountOptions, HasBadValue, mount}
use Rattle.strata_fuse.proofs.options.read_options.Goals as goal

pub returns : goal.returns
returns c =
    asks_taken mount c.args.words.now AreMountOptions HasBadValue c.in_ok-matches.matches c.options_in.result c.in_ok-matches.ensures
    c.options_in.ensures.read c.options_in.ensures.refused
