use Rattle.world_files.proofs.image_file.ImageFile.read.Goals as goal

pub returns-clause-held : goal.returns-clause-held
returns-clause-held c = let read = c.in_ok-bytes.ensures in (c.in-Some.disk, c.in-Some.is, read.len, (c.in_ok-bytes._known, read.begin, read.bytes))
