use Rattle.std.proofs.Common.{refl}
use Rattle.std.proofs.lemmas.Result.{err_from_is_err_and}
use Rattle.fuse_server.proofs.ListingLemmas.{dir_opens, dir_opens_not}
use Rattle.fuse_server.proofs.server.Server.open_dir.Goals as goal

pub returns-in_err-put_listing-clause-opens : goal.returns-in_err-put_listing-clause-opens
returns-in_err-put_listing-clause-opens g c =
    let listed = rw c.deref.ensures.value at c.in_ok-names.ensures in
    let p = err_from_is_err_and c.from_residual-in_err-put_listing.result c.from_residual-in_err-put_listing.ensures.1 in
    rw (p.1, p.2) (dir_opens_not g.T.Tree _ _ _ _ _ _ _ _ _ c.in_ok-path.ensures.path listed refl c.in_err-put_listing.ensures.refused)

pub returns-clause-opens : goal.returns-clause-opens
returns-clause-opens g c =
    let listed = rw c.deref.ensures.value at c.in_ok-names.ensures in
    dir_opens g.T.Tree _ _ _ _ _ _ _ _ c.free_handle-handle.result c.in_ok-path.ensures.path listed (record { free = c.free_handle-handle.ensures.free; lowest = c.free_handle-handle.ensures.lowest; opened = c.in_ok-put_listing.ensures.put; others = c.in_ok-put_listing.ensures.others })
