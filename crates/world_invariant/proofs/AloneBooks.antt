-- Small worlds that break a part of the invariant on the kernel's book, or on what a client has of it, and no other part.
use Rattle.std.proofs.Common.{◌≡◌, ◌≢◌, ◌<◌, ◌≤◌, ◌==◌, ◌||◌, Bool, true, false, refl, None, ap, sym, arith}
use Rattle.std.specs.Prelude.{◌&&◌, not}
use Rattle.std.proofs.lemmas.Bool.{false≢true}
use Rattle.posix_calls.specs.Operations.{is_client}
use Rattle.call_effects.specs.Fits.{IsNew}
use Rattle.call_effects.proofs.Served.{granted_agrees}
use Rattle.world_invariant.specs.Logs.{after_clients}
use Rattle.world_invariant.specs.World.{Account, Client, whole_graph, held_descriptors}
use Rattle.world_invariant.specs.LeaseSteps.{also}
use Rattle.world_invariant.specs.Walk.{make_world, made_world}
use Rattle.world_invariant.specs.UnlinkWalk.{kept_world}
use Rattle.world_invariant.specs.BrokenWorlds.{granted_twice, unbooked_number, unbooked_node, unpinned_file, unpinned_client}
use Rattle.world_invariant.specs.Parts.{BookPart, NumbersFree, NumbersInRange, NumbersInOneHand, NodesWithin, UnitsFit, HoldsIn, ClientPart, MadeBooked, GrantedBooked, GrantedUnused, OpenPinned, PinsBooked, BegunPlanned, BegunPinned, HoldsOf, Book, Each, BreaksAlone}
use Rattle.world_invariant.proofs.Idle.{none_some}
use Rattle.world_invariant.proofs.Kernels.{each}
use Rattle.world_invariant.proofs.Books.{of_also, fits_same}
use Rattle.world_invariant.proofs.Alone.{IsLess, less_others, quiet_others}
use Rattle.world_invariant.proofs.Parts.{client_parts}
use Rattle.world_invariant.proofs.Walks.{making_holds, made_holds}
use Rattle.world_invariant.proofs.UnlinkWalks.{kept_holds}

-- ---- a number in two hands

abbrev second_account : Account
second_account = record (make_world.kernel.accounts 2) { numbers = also (make_world.kernel.accounts 2).numbers 2 }

abbrev second : Client
second = record (make_world.clients 2) { knows = record (make_world.clients 2).knows { granted = also (make_world.clients 2).knows.granted 2 } }

second_book : (q : BookPart) → Book q ≢ Book NumbersInOneHand → HoldsIn q granted_twice.kernel
second_book NumbersInOneHand off = absurd (off refl)
second_book NumbersFree off = λ c i is_c. each make_world.kernel.accounts 2 second_account (λ d (a : Account). is_client d ≡ true → a.numbers i ≡ true → make_world.kernel.shared i ≡ None) (λ is e. of_also (λ j. make_world.kernel.shared j ≡ None) (make_world.kernel.accounts 2).numbers 2 i e refl (λ has. making_holds.booked.free 2 i refl has)) (λ d other is e. making_holds.booked.free d i is e) c is_c
second_book NumbersInRange off = λ c i is_c. each make_world.kernel.accounts 2 second_account (λ d (a : Account). is_client d ≡ true → a.numbers i ≡ true → (1 < i) × (i ≤ 1024)) (λ is e. of_also (λ j. (1 < j) × (j ≤ 1024)) (make_world.kernel.accounts 2).numbers 2 i e (omega arith, omega arith) (λ has. making_holds.booked.range 2 i refl has)) (λ d other is e. making_holds.booked.range d i is e) c is_c
second_book NodesWithin off = making_holds.booked.limits
second_book UnitsFit off = fits_same make_world 2 second_account making_holds refl refl

second_own : (q : ClientPart) → Each q ≢ Book NumbersInOneHand → HoldsOf q make_world.kernel.shared second_account 2 second
second_own MadeBooked off = λ i e. absurd (false≢true e)
second_own GrantedBooked off = λ i e. e
second_own GrantedUnused off = λ i e. refl
second_own BegunPlanned off = λ b e. none_some b e
second_own q off = client_parts make_world.kernel.shared (make_world.kernel.accounts 2) 2 (make_world.clients 2) (making_holds.stands 2 refl) q

second_new : IsNew (whole_graph make_world) 2
unfolding after_clients
second_new = record { low = omega arith; high = omega arith; none = refl }

pub twice_alone : BreaksAlone (Book NumbersInOneHand) granted_twice
twice_alone = record {
  broken = λ is. false≢true (sym (is 1 2 2 refl refl (λ e. false≢true (ap (λ n. n == 1) e)) refl));
  others = quiet_others (Book NumbersInOneHand) make_world 2 second_account second making_holds refl refl refl second_book second_own
      (λ off d is_d other. (λ i e. making_holds.beside 2 d refl is_d other i e, λ i e. making_holds.beside d 2 is_d refl (λ same. other (sym same)) i e))
      (λ off. granted_agrees (make_world.clients 2).knows (whole_graph make_world) (held_descriptors make_world) (making_holds.agrees 2 refl) 2 second_new);
}

-- ---- a number that isn't in the book

abbrev no_number : Account
no_number = record (make_world.kernel.accounts 1) { numbers = λ i. false }

no_number_less : IsLess make_world 1 no_number (make_world.clients 1)
no_number_less = record { log = refl; own = refl; numbers = λ i e. absurd (false≢true e); units = omega arith; writes = λ i e. e; leases = λ i e. e }

no_number_own : (q : ClientPart) → Each q ≢ Each GrantedBooked → HoldsOf q make_world.kernel.shared no_number 1 (make_world.clients 1)
no_number_own GrantedBooked off = absurd (off refl)
no_number_own MadeBooked off = λ i e. absurd (false≢true e)
no_number_own q off = client_parts make_world.kernel.shared (make_world.kernel.accounts 1) 1 (make_world.clients 1) (making_holds.stands 1 refl) q

pub number_alone : BreaksAlone (Each GrantedBooked) unbooked_number
number_alone = record {
  broken = λ is. false≢true (is 1 refl 2 refl);
  others = less_others (Each GrantedBooked) make_world 1 no_number (make_world.clients 1) making_holds refl no_number_less no_number_own (λ off. making_holds.agrees 1 refl);
}

-- ---- a node of a number that isn't in the book

abbrev no_node : Account
no_node = record (made_world.kernel.accounts 1) { numbers = λ i. false }

no_node_less : IsLess made_world 1 no_node (made_world.clients 1)
no_node_less = record { log = refl; own = refl; numbers = λ i e. absurd (false≢true e); units = omega arith; writes = λ i e. e; leases = λ i e. e }

used_up : (b : Bool) → ((b || false) && not (true && b)) ≡ true → ⊥
used_up true e = false≢true e
used_up false e = false≢true e

no_node_own : (q : ClientPart) → Each q ≢ Each MadeBooked → HoldsOf q made_world.kernel.shared no_node 1 (made_world.clients 1)
no_node_own MadeBooked off = absurd (off refl)
no_node_own GrantedBooked off = λ i e. absurd (used_up (i == 2) e)
no_node_own q off = client_parts made_world.kernel.shared (made_world.kernel.accounts 1) 1 (made_world.clients 1) (made_holds.stands 1 refl) q

pub node_alone : BreaksAlone (Each MadeBooked) unbooked_node
node_alone = record {
  broken = λ is. false≢true (is 1 refl 2 refl);
  others = less_others (Each MadeBooked) made_world 1 no_node (made_world.clients 1) made_holds refl no_node_less no_node_own (λ off. made_holds.agrees 1 refl);
}

-- ---- a pin that isn't in the book

abbrev no_pin : Account
no_pin = record (kept_world.kernel.accounts 1) { pins = λ i. false }

no_pin_less : IsLess kept_world 1 no_pin (kept_world.clients 1)
no_pin_less = record { log = refl; own = refl; numbers = λ i e. e; units = omega arith; writes = λ i e. e; leases = λ i e. e }

no_pin_own : (q : ClientPart) → Each q ≢ Each PinsBooked → HoldsOf q kept_world.kernel.shared no_pin 1 (kept_world.clients 1)
no_pin_own PinsBooked off = absurd (off refl)
no_pin_own q off = client_parts kept_world.kernel.shared (kept_world.kernel.accounts 1) 1 (kept_world.clients 1) (kept_holds.stands 1 refl) q

pub pin_alone : BreaksAlone (Each PinsBooked) unpinned_file
pin_alone = record {
  broken = λ is. false≢true (is 1 refl 2 refl);
  others = less_others (Each PinsBooked) kept_world 1 no_pin (kept_world.clients 1) kept_holds refl no_pin_less no_pin_own (λ off. kept_holds.agrees 1 refl);
}

-- ---- an open file that nobody has pinned

abbrev loose : Client
loose = record (kept_world.clients 1) { pins = λ i. false }

loose_less : IsLess kept_world 1 no_pin loose
loose_less = record { log = refl; own = refl; numbers = λ i e. e; units = omega arith; writes = λ i e. e; leases = λ i e. e }

loose_own : (q : ClientPart) → Each q ≢ Each OpenPinned → HoldsOf q kept_world.kernel.shared no_pin 1 loose
loose_own OpenPinned off = absurd (off refl)
loose_own PinsBooked off = λ i e. e
loose_own BegunPinned off = λ b e. none_some b e
loose_own q off = client_parts kept_world.kernel.shared (kept_world.kernel.accounts 1) 1 (kept_world.clients 1) (kept_holds.stands 1 refl) q

pub open_alone : BreaksAlone (Each OpenPinned) unpinned_client
open_alone = record {
  broken = λ is. false≢true (is 1 refl 0 (record { inode = 2; reads = true; writes = true }) refl);
  others = less_others (Each OpenPinned) kept_world 1 no_pin loose kept_holds refl loose_less loose_own (λ off. kept_holds.agrees 1 refl);
}
