-- Small worlds that break a part of the invariant on a client's begun call, or on one that is settled, and no other part.
use Rattle.std.proofs.Common.{◌≡◌, ◌≢◌, ◌==◌, ◌||◌, [], true, false, refl, Some, ap, sym, ◌∙◌, arith}
use Rattle.std.specs.Prelude.{is_some}
use Rattle.std.proofs.lemmas.Bool.{false≢true}
use Rattle.posix_calls.specs.Kinds.{opens}
use Rattle.call_effects.specs.Knowledge.{Agrees}
use Rattle.world_invariant.specs.World.{Alive, Failed, Settled, Begun, Client, whole_graph, held_descriptors}
use Rattle.world_invariant.specs.ClientSteps.{IsBegun, after_reply}
use Rattle.world_invariant.specs.Invariant.{IsCoherent}
use Rattle.world_invariant.specs.RegionSteps.{taken_back}
use Rattle.world_invariant.specs.Walk.{ready}
use Rattle.world_invariant.specs.UnlinkWalk.{open_a, initial_world, kept_world}
use Rattle.world_invariant.specs.BrokenWorlds.{half, misbegun, unpinned_open, settled_opening, still_open, misnumbered_world}
use Rattle.world_invariant.specs.Parts.{ClientPart, OwnNumber, RecordsLeased, RecordsPaid, RecordsNameNone, RecordsKeepLimits, UnitsBooked, UnwipedIsIdle, OpenPinned, PinsBooked, BegunPlanned, BegunHasEffects, BegunPinned, SettledClosed, SettledIdle, HoldsOf, Each, BreaksAlone}
use Rattle.world_invariant.proofs.Idle.{none_some}
use Rattle.world_invariant.proofs.Alone.{less_others, same_less}
use Rattle.world_invariant.proofs.Parts.{client_parts}
use Rattle.world_invariant.proofs.Regions.{taken_back_holds}
use Rattle.world_invariant.proofs.Walks.{ready_holds, planned, held_both}
use Rattle.world_invariant.proofs.NewNodes.{new_paid, new_names_none, new_keeps_limits}
use Rattle.call_effects.specs.file_graph.declared.effect.Kind.TheVariants as kind
use Rattle.world_invariant.proofs.UnlinkWalks.{opening_holds, kept_holds}

opening_parts : (q : ClientPart) → HoldsOf q initial_world.kernel.shared (initial_world.kernel.accounts 1) 1 (initial_world.clients 1)
opening_parts q = client_parts initial_world.kernel.shared (initial_world.kernel.accounts 1) 1 (initial_world.clients 1) (opening_holds.stands 1 refl) q

-- ---- a file that is opened without a pin

abbrev bare : Client
bare = record (ready.clients 1) { begun = Some open_a; spare = 8 }

bare_own : (q : ClientPart) → Each q ≢ Each BegunPinned → HoldsOf q ready.kernel.shared (ready.kernel.accounts 1) 1 bare
bare_own BegunPinned off = absurd (off refl)
bare_own OpenPinned off = λ n o e. none_some o e
bare_own PinsBooked off = λ i e. e
bare_own q off = opening_parts q

pub unpinned_alone : BreaksAlone (Each BegunPinned) unpinned_open
unpinned_alone = record {
  broken = λ is. false≢true (is 1 refl open_a refl (λ e. absurd (cc)) (0, record { inode = 2; reads = true; writes = true }) refl);
  others = less_others (Each BegunPinned) ready 1 (ready.kernel.accounts 1) bare ready_holds refl (same_less ready 1 bare refl refl refl refl) bare_own (λ off. ready_holds.agrees 1 refl);
}

-- ---- a call that is begun where its client is settled

abbrev settled : Client
settled = record (initial_world.clients 1) { status = Settled }

settled_own : (q : ClientPart) → Each q ≢ Each SettledIdle → HoldsOf q initial_world.kernel.shared (initial_world.kernel.accounts 1) 1 settled
settled_own SettledIdle off = absurd (off refl)
settled_own SettledClosed off = λ e n. refl
settled_own BegunPinned off = λ b e other. opening_parts BegunPinned b e (λ (is : Alive ≡ Failed). absurd (cc))
settled_own q off = opening_parts q

pub settled_alone : BreaksAlone (Each SettledIdle) settled_opening
settled_alone = record {
  broken = λ is. none_some open_a (sym (is 1 refl refl));
  others = less_others (Each SettledIdle) initial_world 1 (initial_world.kernel.accounts 1) settled opening_holds refl (same_less initial_world 1 settled refl refl refl refl) settled_own (λ off. opening_holds.agrees 1 refl);
}

-- ---- a client that is settled with a file open

abbrev left : Client
left = record ((taken_back kept_world 1).clients 1) { status = Settled }

back_holds : IsCoherent (taken_back kept_world 1)
back_holds = taken_back_holds kept_world 1 kept_holds (record { client = refl; away = refl; digested = refl })

left_own : (q : ClientPart) → Each q ≢ Each SettledClosed → HoldsOf q (taken_back kept_world 1).kernel.shared ((taken_back kept_world 1).kernel.accounts 1) 1 left
left_own SettledClosed off = absurd (off refl)
left_own SettledIdle off = λ e. refl
left_own BegunPinned off = λ b e. none_some b e
left_own q off = client_parts (taken_back kept_world 1).kernel.shared ((taken_back kept_world 1).kernel.accounts 1) 1 ((taken_back kept_world 1).clients 1) (back_holds.stands 1 refl) q

pub left_alone : BreaksAlone (Each SettledClosed) still_open
left_alone = record {
  broken = λ is. false≢true (sym (ap is_some (is 1 refl refl 0)));
  others = less_others (Each SettledClosed) (taken_back kept_world 1) 1 ((taken_back kept_world 1).kernel.accounts 1) left back_holds refl (same_less (taken_back kept_world 1) 1 left refl refl refl refl) left_own (λ off. back_holds.agrees 1 refl);
}

-- ---- a client that takes itself for another one

abbrev another : Client
another = record (initial_world.clients 1) { knows = record (initial_world.clients 1).knows { client = 2 } }

another_own : (q : ClientPart) → Each q ≢ Each OwnNumber → HoldsOf q initial_world.kernel.shared (initial_world.kernel.accounts 1) 1 another
another_own OwnNumber off = absurd (off refl)
another_own BegunPlanned off = λ b e. let is = opening_parts BegunPlanned b e in record { comes = is.comes; effects = is.effects; number = is.number }
another_own q off = opening_parts q

another_known : Agrees another.knows (whole_graph initial_world) (held_descriptors initial_world)
another_known = let is = opening_holds.agrees 1 refl in record { client = refl; own = λ n. refl; back = is.back; put_back = is.put_back; copies = is.copies; blocks = is.blocks; granted = is.granted }

pub another_alone : BreaksAlone (Each OwnNumber) misnumbered_world
another_alone = record {
  broken = λ is. let two : 2 ≡ 1 = is 1 refl in absurd (omega (arith, two));
  others = less_others (Each OwnNumber) initial_world 1 (initial_world.kernel.accounts 1) another opening_holds refl (same_less initial_world 1 another refl refl refl refl) another_own (λ off. another_known);
}

pub another_begun : IsBegun misnumbered_world 1 open_a
another_begun = record { client = refl; there = refl; known = λ e. absurd (cc) }

pub another_wrong : Agrees ((after_reply misnumbered_world 1 open_a).clients 1).knows (whole_graph (after_reply misnumbered_world 1 open_a)) (held_descriptors (after_reply misnumbered_world 1 open_a)) → ⊥
another_wrong agrees = false≢true (ap is_some (agrees.own 0))

-- ---- a record that is not that of its call

abbrev halved : Client
halved = record (ready.clients 1) { begun = Some half; spare = 8 }

ready_parts : (q : ClientPart) → HoldsOf q ready.kernel.shared (ready.kernel.accounts 1) 1 (ready.clients 1)
ready_parts q = client_parts ready.kernel.shared (ready.kernel.accounts 1) 1 (ready.clients 1) (ready_holds.stands 1 refl) q

half_is : (b : Begun) → Some half ≡ Some b → half ≡ b
half_is b e = cc

halved_own : (q : ClientPart) → Each q ≢ Each BegunPlanned → HoldsOf q ready.kernel.shared (ready.kernel.accounts 1) 1 halved
halved_own BegunPlanned off = absurd (off refl)
halved_own UnwipedIsIdle off = λ e. absurd (false≢true (sym e))
halved_own RecordsLeased off = λ i e. held_both i (elim (2 == i) as (λ b. ((b || false) || false) ≡ true → (b || (1 == i || (b || false))) ≡ true) [ true ↦ λ e. refl | false ↦ λ e. absurd (false≢true e) ] e)
halved_own RecordsPaid off = (new_paid kind.Directory 2 (omega arith), tt)
halved_own RecordsNameNone off = (new_names_none kind.Directory 2, tt)
halved_own RecordsKeepLimits off = (new_keeps_limits kind.Directory 2, tt)
halved_own UnitsBooked off = omega arith
halved_own BegunHasEffects off = λ b e none. no_effect (ap (λ (b : Begun). b.change.effects) (half_is b e) ∙ none)
  where
    no_effect : half.change.effects ≡ [] → ⊥
    no_effect none = absurd (cc)
halved_own BegunPinned off = λ b e other what is. none_some what (ap (λ (b : Begun). opens b.new b.operation) (half_is b e) ∙ is)
halved_own SettledIdle off = λ e. absurd (false≢true e)
halved_own q off = ready_parts q

pub half_alone : BreaksAlone (Each BegunPlanned) misbegun
half_alone = record {
  broken = λ is. let clash = sym planned.effects ∙ (is 1 refl half refl).effects in absurd (cc);
  others = less_others (Each BegunPlanned) ready 1 (ready.kernel.accounts 1) halved ready_holds refl (same_less ready 1 halved refl refl refl refl) halved_own (λ off. ready_holds.agrees 1 refl);
}
