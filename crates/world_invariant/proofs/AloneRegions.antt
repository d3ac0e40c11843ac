-- Small worlds that break a part of the invariant on a client's regions, and no other part.
use Rattle.std.proofs.Common.{◌≡◌, ◌≢◌, ℕ, ◌≤◌, [], ◌∷◌, false, refl, sym, arith}
use Rattle.call_effects.specs.log_record.declared.format.Record.{Record}
use Rattle.world_invariant.specs.World.{Account, Away, Back, Client}
use Rattle.world_invariant.specs.Machine.{CanAccept, sealed_of}
use Rattle.world_invariant.specs.Walk.{mkdir_a, make_world, made_world, handed_world, back}
use Rattle.world_invariant.specs.BrokenWorlds.{marked_past, marked_before, left_behind, unwiped_world, begun_unwiped, away_empty}
use Rattle.world_invariant.specs.Parts.{ClientPart, MarkNotBefore, MarkNotPast, AwayHasRecords, BackHasNone, UnwipedHasNone, UnwipedIsIdle, HoldsOf, Each, BreaksAlone}
use Rattle.world_invariant.proofs.Idle.{none_some}
use Rattle.world_invariant.proofs.Alone.{IsLess, less_others, same_less}
use Rattle.world_invariant.proofs.Parts.{client_parts}
use Rattle.world_invariant.proofs.Walks.{making_holds, made_holds, handed_holds, back_holds}

no_record : (r : Record) → r ∷ [] ≢ []
no_record r e = absurd (cc)

-- ---- a mark past its records

abbrev past_account : Account
past_account = record (made_world.kernel.accounts 1) { mark = 1 }

past_less : IsLess made_world 1 past_account (made_world.clients 1)
past_less = record { log = refl; own = refl; numbers = λ i e. e; units = omega arith; writes = λ i e. e; leases = λ i e. e }

past_own : (q : ClientPart) → Each q ≢ Each MarkNotPast → HoldsOf q made_world.kernel.shared past_account 1 (made_world.clients 1)
past_own MarkNotPast off = absurd (off refl)
past_own MarkNotBefore off = omega arith
past_own q off = client_parts made_world.kernel.shared (made_world.kernel.accounts 1) 1 (made_world.clients 1) (made_holds.stands 1 refl) q

pub past_alone : BreaksAlone (Each MarkNotPast) marked_past
past_alone = record {
  broken = λ is. let high : 1 ≤ 0 = is 1 refl in absurd (omega (arith, high));
  others = less_others (Each MarkNotPast) made_world 1 past_account (made_world.clients 1) made_holds refl past_less past_own (λ off. made_holds.agrees 1 refl);
}

-- ---- a mark before the region that is away

abbrev late : Client
late = record (handed_world.clients 1) { past = 1 }

late_own : (q : ClientPart) → Each q ≢ Each MarkNotBefore → HoldsOf q handed_world.kernel.shared (handed_world.kernel.accounts 1) 1 late
late_own MarkNotBefore off = absurd (off refl)
late_own MarkNotPast off = omega arith
late_own q off = client_parts handed_world.kernel.shared (handed_world.kernel.accounts 1) 1 (handed_world.clients 1) (handed_holds.stands 1 refl) q

pub before_alone : BreaksAlone (Each MarkNotBefore) marked_before
before_alone = record {
  broken = λ is. let low : 1 ≤ 0 = is 1 refl in absurd (omega (arith, low));
  others = less_others (Each MarkNotBefore) handed_world 1 (handed_world.kernel.accounts 1) late handed_holds refl (same_less handed_world 1 late refl refl refl refl) late_own (λ off. handed_holds.agrees 1 refl);
}

-- ---- a region that is back and has a record

abbrev behind : Client
behind = record (made_world.clients 1) { sealed = mkdir_a.change ∷ []; current = []; other = Back }

behind_own : (q : ClientPart) → Each q ≢ Each BackHasNone → HoldsOf q made_world.kernel.shared (made_world.kernel.accounts 1) 1 behind
behind_own BackHasNone off = absurd (off refl)
behind_own MarkNotPast off = omega arith
behind_own AwayHasRecords off = λ away. absurd (let clash : Back ≡ Away = away in cc)
behind_own UnwipedHasNone off = λ e. refl
behind_own q off = client_parts made_world.kernel.shared (made_world.kernel.accounts 1) 1 (made_world.clients 1) (made_holds.stands 1 refl) q

pub behind_alone : BreaksAlone (Each BackHasNone) left_behind
behind_alone = record {
  broken = λ is. no_record mkdir_a.change (is 1 refl (λ e. let clash : Back ≡ Away = e in absurd (cc)));
  others = less_others (Each BackHasNone) made_world 1 (made_world.kernel.accounts 1) behind made_holds refl (same_less made_world 1 behind refl refl refl refl) behind_own (λ off. made_holds.agrees 1 refl);
}

-- ---- a region that is away and has no record

abbrev without : Client
without = record (back.clients 1) { other = Away }

without_own : (q : ClientPart) → Each q ≢ Each AwayHasRecords → HoldsOf q back.kernel.shared (back.kernel.accounts 1) 1 without
without_own AwayHasRecords off = absurd (off refl)
without_own BackHasNone off = λ e. refl
without_own q off = client_parts back.kernel.shared (back.kernel.accounts 1) 1 (back.clients 1) (back_holds.stands 1 refl) q

pub empty_alone : BreaksAlone (Each AwayHasRecords) away_empty
empty_alone = record {
  broken = λ is. is 1 refl refl refl;
  others = less_others (Each AwayHasRecords) back 1 (back.kernel.accounts 1) without back_holds refl (same_less back 1 without refl refl refl refl) without_own (λ off. back_holds.agrees 1 refl);
}

pub empty_stuck : (accepted : ℕ → ℕ) → CanAccept (record { kernel = away_empty.kernel; accepted = accepted }) 1 (sealed_of (away_empty.clients 1)) → ⊥
empty_stuck accepted can = can.some refl

-- ---- a region that is not wiped and has a record

abbrev stale : Client
stale = record (made_world.clients 1) { ready = false }

stale_own : (q : ClientPart) → Each q ≢ Each UnwipedHasNone → HoldsOf q made_world.kernel.shared (made_world.kernel.accounts 1) 1 stale
stale_own UnwipedHasNone off = absurd (off refl)
stale_own UnwipedIsIdle off = λ e. refl
stale_own q off = client_parts made_world.kernel.shared (made_world.kernel.accounts 1) 1 (made_world.clients 1) (made_holds.stands 1 refl) q

pub unwiped_alone : BreaksAlone (Each UnwipedHasNone) unwiped_world
unwiped_alone = record {
  broken = λ is. no_record mkdir_a.change (is 1 refl refl);
  others = less_others (Each UnwipedHasNone) made_world 1 (made_world.kernel.accounts 1) stale made_holds refl (same_less made_world 1 stale refl refl refl refl) stale_own (λ off. made_holds.agrees 1 refl);
}

-- ---- a call that is begun where the region is not wiped

abbrev begun : Client
begun = record (make_world.clients 1) { ready = false }

begun_own : (q : ClientPart) → Each q ≢ Each UnwipedIsIdle → HoldsOf q make_world.kernel.shared (make_world.kernel.accounts 1) 1 begun
begun_own UnwipedIsIdle off = absurd (off refl)
begun_own UnwipedHasNone off = λ e. refl
begun_own q off = client_parts make_world.kernel.shared (make_world.kernel.accounts 1) 1 (make_world.clients 1) (making_holds.stands 1 refl) q

pub begun_alone : BreaksAlone (Each UnwipedIsIdle) begun_unwiped
begun_alone = record {
  broken = λ is. none_some mkdir_a (sym (is 1 refl refl));
  others = less_others (Each UnwipedIsIdle) make_world 1 (make_world.kernel.accounts 1) begun making_holds refl (same_less make_world 1 begun refl refl refl refl) begun_own (λ off. making_holds.agrees 1 refl);
}
