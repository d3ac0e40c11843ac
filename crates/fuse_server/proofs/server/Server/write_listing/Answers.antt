use Rattle.std.proofs.Common.{◌∙◌, ap, map}
use Rattle.fuse_server.specs.Listings.{dir_entry}
use Rattle.fuse_server.proofs.server.Server.write_listing.Goals as goal

pub returns-clause-carries : goal.returns-clause-carries
returns-clause-carries c =
    (c.deref.result.now, ap (map dir_entry) c.deref.ensures.value ∙ c.in_ok-entries.ensures, c.in_ok-write_dirents.field-0, c.in_ok-write_dirents.ensures.most, c.in_ok-write_dirents.ensures.written)
