use Rattle.fuse_server.proofs.server.Server.write_entries.Goals as goal

pub returns-in-Some-clause-carries : goal.returns-in-Some-clause-carries
returns-in-Some-clause-carries c = rw (← c.in-Some.ensures) c.write_listing.ensures.carries

pub returns-in-None-clause-carries : goal.returns-in-None-clause-carries
returns-in-None-clause-carries c = rw (← c.in-None.ensures) c.write_refusal.ensures.refused
