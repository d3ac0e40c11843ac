-- For each part of the invariant, a small world that breaks this part alone.
use Rattle.std.specs.Prelude.{◌+◌, false}
use Rattle.posix_calls.specs.declared.limits.TheConstants.{MAX_FILE}
use Rattle.world_invariant.specs.World.{World}
use Rattle.world_invariant.specs.Parts.{BookPart, NumbersFree, NumbersInRange, NumbersInOneHand, NodesWithin, UnitsFit, ClientPart, OwnNumber, MarkNotBefore, MarkNotPast, AwayHasRecords, BackHasNone, UnwipedHasNone, UnwipedIsIdle, RecordsLeased, RecordsPaid, RecordsNameNone, RecordsKeepLimits, UnitsBooked, MadeBooked, MadeOnce, GrantedBooked, GrantedUnused, CopiesLeased, BlocksLeased, OpenPinned, PinsBooked, BegunPlanned, BegunHasEffects, BegunPinned, SettledClosed, SettledIdle, WorldPart, Book, Each, LeasesLegal, WholeSound, WholeKnown}
use Rattle.world_invariant.specs.BrokenWorlds as broken

abbrev pub broken_book : BookPart → World
broken_book NumbersFree = broken.taken_number
broken_book NumbersInRange = broken.far_number
broken_book NumbersInOneHand = broken.granted_twice
broken_book NodesWithin = broken.large_file (broken.zeros (MAX_FILE + 1))
broken_book UnitsFit = broken.overfull

abbrev pub broken_client : ClientPart → World
broken_client OwnNumber = broken.misnumbered_world
broken_client MarkNotBefore = broken.marked_before
broken_client MarkNotPast = broken.marked_past
broken_client AwayHasRecords = broken.away_empty
broken_client BackHasNone = broken.left_behind
broken_client UnwipedHasNone = broken.unwiped_world
broken_client UnwipedIsIdle = broken.begun_unwiped
broken_client RecordsLeased = broken.unleased_world
broken_client RecordsPaid = broken.overdrawn broken.unpaid_record
broken_client RecordsNameNone = broken.to_be_named
broken_client RecordsKeepLimits = broken.past_limit
broken_client UnitsBooked = broken.overdrawn broken.make_record
broken_client MadeBooked = broken.unbooked_node
broken_client MadeOnce = broken.made_twice
broken_client GrantedBooked = broken.unbooked_number
broken_client GrantedUnused = broken.used_number
broken_client CopiesLeased = broken.watch_world (λ i. false)
broken_client BlocksLeased = broken.block_watching
broken_client OpenPinned = broken.unpinned_client
broken_client PinsBooked = broken.unpinned_file
broken_client BegunPlanned = broken.misbegun
broken_client BegunHasEffects = broken.begun_reading
broken_client BegunPinned = broken.unpinned_open
broken_client SettledClosed = broken.still_open
broken_client SettledIdle = broken.settled_opening

abbrev pub broken_world : WorldPart → World
broken_world (Book q) = broken_book q
broken_world (Each q) = broken_client q
broken_world LeasesLegal = broken.watch_world broken.root_alone
broken_world WholeSound = broken.rootless
broken_world WholeKnown = broken.stale
