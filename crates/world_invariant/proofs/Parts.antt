-- The invariant is all of its parts.
use Rattle.std.proofs.Common.{ℕ}
use Rattle.call_effects.specs.file_graph.Graph.{Graph}
use Rattle.world_invariant.specs.World.{Account, Client, Kernel, World}
use Rattle.world_invariant.specs.ClientParts.{IsBooked, IsSoundPart}
use Rattle.world_invariant.specs.Invariant.{IsCoherent}
use Rattle.world_invariant.specs.Parts.{BookPart, NumbersFree, NumbersInRange, NumbersInOneHand, NodesWithin, UnitsFit, HoldsIn, ClientPart, OwnNumber, MarkNotBefore, MarkNotPast, AwayHasRecords, BackHasNone, UnwipedHasNone, UnwipedIsIdle, RecordsLeased, RecordsPaid, RecordsNameNone, RecordsKeepLimits, UnitsBooked, MadeBooked, MadeOnce, GrantedBooked, GrantedUnused, CopiesLeased, BlocksLeased, OpenPinned, PinsBooked, BegunPlanned, BegunHasEffects, BegunPinned, SettledClosed, SettledIdle, HoldsOf, WorldPart, Book, Each, LeasesLegal, WholeSound, WholeKnown, HoldsOfWorld}

pub book_parts : (k : Kernel) → IsBooked k → (q : BookPart) → HoldsIn q k
book_parts k b NumbersFree = b.free
book_parts k b NumbersInRange = b.range
book_parts k b NumbersInOneHand = b.alone
book_parts k b NodesWithin = b.limits
book_parts k b UnitsFit = b.fits

pub client_parts : (g : Graph) (a : Account) (c : ℕ) (p : Client) → IsSoundPart g a c p → (q : ClientPart) → HoldsOf q g a c p
client_parts g a c p s OwnNumber = s.number
client_parts g a c p s MarkNotBefore = s.marked.low
client_parts g a c p s MarkNotPast = s.marked.high
client_parts g a c p s AwayHasRecords = s.marked.some
client_parts g a c p s BackHasNone = s.marked.none
client_parts g a c p s UnwipedHasNone = s.starts.records
client_parts g a c p s UnwipedIsIdle = s.starts.idle
client_parts g a c p s RecordsLeased = s.logged.leased
client_parts g a c p s RecordsPaid = s.logged.paid
client_parts g a c p s RecordsNameNone = s.logged.unnamed
client_parts g a c p s RecordsKeepLimits = s.logged.limits
client_parts g a c p s UnitsBooked = s.units
client_parts g a c p s MadeBooked = s.numbered.made
client_parts g a c p s MadeOnce = s.numbered.once
client_parts g a c p s GrantedBooked = s.numbered.granted
client_parts g a c p s GrantedUnused = s.numbered.unused
client_parts g a c p s CopiesLeased = s.leased.copies
client_parts g a c p s BlocksLeased = s.leased.blocks
client_parts g a c p s OpenPinned = s.pinned.opened
client_parts g a c p s PinsBooked = s.pinned.booked
client_parts g a c p s BegunPlanned = λ b e. (s.pending b e).planned
client_parts g a c p s BegunHasEffects = λ b e. (s.pending b e).some
client_parts g a c p s BegunPinned = λ b e. (s.pending b e).pinned
client_parts g a c p s SettledClosed = s.rests.closed
client_parts g a c p s SettledIdle = s.rests.idle

pub parts_of : (w : World) → IsCoherent w → (q : WorldPart) → HoldsOfWorld q w
parts_of w h (Book q) = book_parts w.kernel h.booked q
parts_of w h (Each q) = λ c is_c. client_parts w.kernel.shared (w.kernel.accounts c) c (w.clients c) (h.stands c is_c) q
parts_of w h LeasesLegal = h.beside
parts_of w h WholeSound = h.sound
parts_of w h WholeKnown = h.agrees

pub all_parts : (w : World) → ((q : WorldPart) → HoldsOfWorld q w) → IsCoherent w
all_parts w has = record {
  booked = record { free = has (Book NumbersFree); range = has (Book NumbersInRange); alone = has (Book NumbersInOneHand); limits = has (Book NodesWithin); fits = has (Book UnitsFit) };
  stands = λ c is_c. record {
    number = has (Each OwnNumber) c is_c;
    marked = record { low = has (Each MarkNotBefore) c is_c; high = has (Each MarkNotPast) c is_c; some = has (Each AwayHasRecords) c is_c; none = has (Each BackHasNone) c is_c };
    starts = record { records = has (Each UnwipedHasNone) c is_c; idle = has (Each UnwipedIsIdle) c is_c };
    logged = record { leased = has (Each RecordsLeased) c is_c; paid = has (Each RecordsPaid) c is_c; unnamed = has (Each RecordsNameNone) c is_c; limits = has (Each RecordsKeepLimits) c is_c };
    units = has (Each UnitsBooked) c is_c;
    numbered = record { made = has (Each MadeBooked) c is_c; once = has (Each MadeOnce) c is_c; granted = has (Each GrantedBooked) c is_c; unused = has (Each GrantedUnused) c is_c };
    leased = record { copies = has (Each CopiesLeased) c is_c; blocks = has (Each BlocksLeased) c is_c };
    pinned = record { opened = has (Each OpenPinned) c is_c; booked = has (Each PinsBooked) c is_c };
    pending = λ b e. record { planned = has (Each BegunPlanned) c is_c b e; some = has (Each BegunHasEffects) c is_c b e; pinned = has (Each BegunPinned) c is_c b e };
    rests = record { closed = has (Each SettledClosed) c is_c; idle = has (Each SettledIdle) c is_c };
  };
  beside = has LeasesLegal;
  sound = has WholeSound;
  agrees = has WholeKnown;
}
