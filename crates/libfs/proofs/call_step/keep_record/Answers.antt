use Rattle.libfs.proofs.call_step.keep_record.Goals as goal

pub commit-requires : goal.commit-requires
commit-requires c = c.requires.prepared c.in-Some.begun c.in-Some.is
