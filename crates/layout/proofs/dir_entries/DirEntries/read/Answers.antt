use Rattle.std.proofs.Common.{ap, sym}
use Rattle.layout.specs.Answers.{or_damaged}
use Rattle.layout.specs.declared.error.What.TheVariants as what
use Rattle.layout.specs.Directory.{block_entries}
use Rattle.layout.proofs.DirectoryLaws.{entries_of_takes}
use Rattle.layout.proofs.DirPlaces.{names_differ}
use Rattle.layout.proofs.dir_entries.DirEntries.read.Goals as goal

pub returns-in-Some-clause-read : goal.returns-in-Some-clause-read
returns-in-Some-clause-read c = ap (or_damaged what.DirBlock c.args.number) (sym (names_differ c.args.block.now c.in-Some.ensures.read.list c.in-Some.ensures.read.distinct))

pub returns-in-Some-clause-entries : goal.returns-in-Some-clause-entries
returns-in-Some-clause-entries c =
    let are = names_differ c.args.block.now c.in-Some.ensures.read.list c.in-Some.ensures.read.distinct in
    let is = entries_of_takes c.args.block.now (block_entries c.args.block.now) (λ i. (c.type_inv.block i).fits) are in
    record { fit = is.0; spelled = is.1 }
