use Rattle.fuse_server.proofs.server.Server.release_dir.Goals as goal

pub returns-clause-closes : goal.returns-clause-closes
returns-clause-closes c = record { closed = c.close_listing.ensures.closed; others = c.close_listing.ensures.others }
