-- No part of the invariant follows from the others: each has its small world.
use Rattle.std.proofs.Common.{◌≡◌, ℕ, ◌+◌, ◌<◌, length, arith}
use Rattle.std.proofs.lemmas.List.{length-replicate}
use Rattle.posix_calls.specs.declared.limits.TheConstants.{MAX_FILE}
use Rattle.world_invariant.specs.Parts.{BookPart, NumbersFree, NumbersInRange, NumbersInOneHand, NodesWithin, UnitsFit, ClientPart, OwnNumber, MarkNotBefore, MarkNotPast, AwayHasRecords, BackHasNone, UnwipedHasNone, UnwipedIsIdle, RecordsLeased, RecordsPaid, RecordsNameNone, RecordsKeepLimits, UnitsBooked, MadeBooked, MadeOnce, GrantedBooked, GrantedUnused, CopiesLeased, BlocksLeased, OpenPinned, PinsBooked, BegunPlanned, BegunHasEffects, BegunPinned, SettledClosed, SettledIdle, WorldPart, Book, Each, LeasesLegal, WholeSound, WholeKnown, BreaksAlone}
use Rattle.world_invariant.specs.BrokenParts.{broken_book, broken_client, broken_world}
use Rattle.world_invariant.specs.BrokenWorlds.{zeros}
use Rattle.world_invariant.proofs.AloneBooks as books
use Rattle.world_invariant.proofs.AloneCalls as calls
use Rattle.world_invariant.proofs.AloneCopies as copies
use Rattle.world_invariant.proofs.AloneNumbers as numbers
use Rattle.world_invariant.proofs.AloneReading as reads
use Rattle.world_invariant.proofs.AloneRecords as records
use Rattle.world_invariant.proofs.AloneRegions as regions
use Rattle.world_invariant.proofs.AloneStores as stores

so_many : (n : ℕ) → length (zeros n) ≡ n
unfolding zeros
so_many n = length-replicate n 0

many : MAX_FILE < length (zeros (MAX_FILE + 1))
many = let long : length (zeros (MAX_FILE + 1)) ≡ MAX_FILE + 1 = so_many (MAX_FILE + 1) in omega (arith, long)

book_alone : (q : BookPart) → BreaksAlone (Book q) (broken_book q)
book_alone NumbersFree = numbers.taken_alone
book_alone NumbersInRange = numbers.far_alone
book_alone NumbersInOneHand = books.twice_alone
book_alone NodesWithin = stores.large_alone (zeros (MAX_FILE + 1)) many
book_alone UnitsFit = stores.overfull_alone

client_alone : (q : ClientPart) → BreaksAlone (Each q) (broken_client q)
client_alone OwnNumber = calls.another_alone
client_alone MarkNotBefore = regions.before_alone
client_alone MarkNotPast = regions.past_alone
client_alone AwayHasRecords = regions.empty_alone
client_alone BackHasNone = regions.behind_alone
client_alone UnwipedHasNone = regions.unwiped_alone
client_alone UnwipedIsIdle = regions.begun_alone
client_alone RecordsLeased = records.fewer_alone
client_alone RecordsPaid = records.unpaid_alone
client_alone RecordsNameNone = records.naming_alone
client_alone RecordsKeepLimits = records.past_alone
client_alone UnitsBooked = records.unbooked_alone
client_alone MadeBooked = books.node_alone
client_alone MadeOnce = numbers.twice_alone
client_alone GrantedBooked = books.number_alone
client_alone GrantedUnused = numbers.used_alone
client_alone CopiesLeased = copies.unleased_alone
client_alone BlocksLeased = copies.block_alone
client_alone OpenPinned = books.open_alone
client_alone PinsBooked = books.pin_alone
client_alone BegunPlanned = calls.half_alone
client_alone BegunHasEffects = reads.reading_alone
client_alone BegunPinned = calls.unpinned_alone
client_alone SettledClosed = calls.left_alone
client_alone SettledIdle = calls.settled_alone

pub all_alone : (part : WorldPart) → BreaksAlone part (broken_world part)
all_alone (Book q) = book_alone q
all_alone (Each q) = client_alone q
all_alone LeasesLegal = copies.beside_alone
all_alone WholeSound = stores.rootless_alone
all_alone WholeKnown = copies.stale_alone
