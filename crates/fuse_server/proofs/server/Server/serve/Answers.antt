use Rattle.std.proofs.Common.{ap, refl}
use Rattle.fuse_server.proofs.TimeLemmas.{same_goes, served_goes}
use Rattle.mount_nodes.specs.declared.tables.Tables.{Tables}
use Rattle.mount_nodes.proofs.TimeLemmas.{goes_none}
use Rattle.fuse_server.proofs.ServedLemmas.{serves_other}
use Rattle.fuse_server.proofs.server.Server.serve.Goals as goal

pub returns-in-OpenDir-clause-serves : goal.returns-in-OpenDir-clause-serves
returns-in-OpenDir-clause-serves g c = rw c.in-OpenDir.is (c.open_dir.ensures.tables, (c.open_dir.result, c.open_dir.ensures.opens, c.opened_answer.ensures))

pub returns-in-ReadDir-clause-serves : goal.returns-in-ReadDir-clause-serves
returns-in-ReadDir-clause-serves g c = rw c.in-ReadDir.is (refl, refl, refl)

pub returns-in-ReleaseDir-clause-serves : goal.returns-in-ReleaseDir-clause-serves
returns-in-ReleaseDir-clause-serves g c = rw c.in-ReleaseDir.is (c.release_dir.ensures.tables, c.release_dir.ensures.closes, refl, refl)

pub returns-in_default-clause-serves : goal.returns-in_default-clause-serves
returns-in_default-clause-serves g c = serves_other g.T.Tree _ _ _ _ _ _ _ c.in_default.not-OpenDir c.in_default.not-ReadDir c.in_default.not-ReleaseDir refl c.serve_nodes.ensures.serves c.serve_nodes.ensures.times

pub returns-in-OpenDir-clause-times : goal.returns-in-OpenDir-clause-times
returns-in-OpenDir-clause-times g c = same_goes _ _ (ap (λ (x : Tables). x.times) c.open_dir.ensures.tables)

pub returns-in-ReadDir-clause-times : goal.returns-in-ReadDir-clause-times
returns-in-ReadDir-clause-times g c = goes_none _

pub returns-in-ReleaseDir-clause-times : goal.returns-in-ReleaseDir-clause-times
returns-in-ReleaseDir-clause-times g c = same_goes _ _ (ap (λ (x : Tables). x.times) c.release_dir.ensures.tables)

pub returns-in_default-clause-times : goal.returns-in_default-clause-times
returns-in_default-clause-times g c = served_goes _ _ _ _ _ c.serve_nodes.ensures.times
