use Rattle.std.proofs.Common.{◌≡◌, ◌+◌, ◌-◌, ◌<◌, ap, arith, length, refl}
use Rattle.fuse_server.proofs.ListingLemmas.{entry_above, entry_itself, entry_of_name}
use Rattle.fuse_server.proofs.listings.entry_at.Goals as goal

pub returns-then-at-eq0 : goal.returns-then-at-eq0
returns-then-at-eq0 c = entry_itself _ _ _ _ _ c.if-at-eq0.true refl c.folder_entry.ensures

pub returns-then-at-eq1 : goal.returns-then-at-eq1
returns-then-at-eq1 c = entry_above _ _ _ _ _ _ c.if-at-eq1.true refl c.folder_above.ensures c.folder_entry-then-at-eq1.ensures

pub returns : goal.returns
returns c =
    let same = c.as_slice-names.ensures in
    let long = ap length same in
    let behind : c.args.at ≡ c.args.at - 2 + 2 = omega arith in
    let inside : c.args.at - 2 < length c.as_slice-names.result.now = omega (arith, long) in
    entry_of_name _ _ _ _ _ _ _ _ same behind refl inside c.index-names-place.is c.named_entry.ensures
