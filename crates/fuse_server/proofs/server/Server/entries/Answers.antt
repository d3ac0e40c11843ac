use Rattle.std.proofs.Common.{◌≡◌, ◌+◌, ◌-◌, ◌/◌, ◌∙◌, ap, arith, length, map, min}
use Rattle.std.proofs.lemmas.List.{map_push}
use Rattle.fuse_server.specs.Listings.{all_entries, dir_entry}
use Rattle.fuse_server.proofs.ListingLemmas.{entries_all, entries_more}
use Rattle.fuse_server.proofs.server.Server.entries.Goals as goal

pub loop-place-preserved : goal.loop-place-preserved
loop-place-preserved c =
    let all = all_entries c.args.self.now.tables.nodes c.args.listing.now in
    ap (map dir_entry) c.in_ok-push.ensures.items
    ∙ (map_push dir_entry c.loop-place.entries.items c.entry_at.result
    ∙ entries_more all (map dir_entry c.loop-place.entries.items) c.args.at c.loop-place.place (dir_entry c.entry_at.result) c.loop-place.invariant c.entry_at.ensures)

pub returns : goal.returns
returns c =
    let long = ap length c.as_slice-names.ensures in
    let few : c.loop-place.place ≡ min (length c.args.listing.now.names + 2 - c.args.at) (c.args.size / 32) = omega (arith, long) in
    entries_all c.args.self.now.tables.nodes c.args.listing.now (map dir_entry c.loop-place.entries.items) c.args.at (c.args.size / 32) c.loop-place.place c.loop-place.invariant few
