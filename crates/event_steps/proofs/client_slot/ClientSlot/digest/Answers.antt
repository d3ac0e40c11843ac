use Rattle.std.proofs.Common.{◌≡◌, Option, None, Some, true, false, arith, inl, refl, subst, sym}
use Rattle.std.specs.Prelude.{is_some}
use Rattle.event_steps.specs.Effects.{Carries}
use Rattle.event_steps.specs.Regions.{IsDigestedOn}
use Rattle.event_steps.specs.Sound.{IsAwayFrom, IsSeated}
use Rattle.libfs.specs.SealedRegion.{SealedRegionView}
use Rattle.event_steps.specs.View.{SeatView}
use Rattle.event_steps.specs.declared.outcome.Outcome.TheVariants as outcomes
use Rattle.event_steps.proofs.Carried.{done}
use Rattle.event_steps.proofs.Chunks.{accepted_some, away_some, chunk_done, chunk_goes, chunk_stays, may_take_back, next_from}
use Rattle.event_steps.proofs.Handing.{refused_is_done}
use Rattle.event_steps.proofs.client_slot.ClientSlot.digest.Goals as goal

pub returns-in-Err-clause-carries : goal.returns-in-Err-clause-carries
returns-in-Err-clause-carries g c =
    let device = g.M.Media in
    let s = c.self.inside in
    let k = c.args.kernel.now in
    let why = c.in-Err.refusal in
    let e = c.in-Err.ensures in
    let was : s.away ≡ Some c.in-Some.away = grind arith in
    let is = subst (λ (o : Option (SealedRegionView _)). record { client = s.client; away = o; refused = s.refused; life = s.life } ≡ c.args.self.now) was c.self.view_is in
    let unfailed : s.client.log.failed ≡ false = grind arith in
    let of : Option (SealedRegionView _) → SeatView _ = λ o. record { client = s.client; away = o; refused = s.refused; life = s.life } in
    subst (λ (o : Option (SealedRegionView _)). Carries ((c.args.self.now.client.log.failed ≡ false) × (is_some c.args.self.now.away ≡ true)) (IsDigestedOn device k c.args.self.now (outcomes.Refused why) (of o) c.accept_region.new.kernel) ((of o ≡ c.args.self.now) × (c.accept_region.new.kernel ≡ k)) (outcomes.Refused why)) (sym c.put.ensures)
    (subst (λ (v : SeatView _). Carries ((v.client.log.failed ≡ false) × (is_some v.away ≡ true)) (IsDigestedOn device k v (outcomes.Refused why) (of (Some c.accept_region.new.region)) c.accept_region.new.kernel) ((of (Some c.accept_region.new.region) ≡ v) × (c.accept_region.new.kernel ≡ k)) (outcomes.Refused why)) is
    (done (outcomes.Refused why) (refused_is_done why) (unfailed, refl) (record {
      away = c.in-Some.away;
      was_away = refl;
      came = inl (record {
        unaccepted = e.unaccepted;
        why = why;
        told = refl;
        only = e.only;
        away = c.accept_region.new.region;
        read = e.read;
        none = e.refused.0;
        rest = refl;
        kernel = e.refused.1;
      });
    })))

pub invariant_of-self-else-is_digested : goal.invariant_of-self-else-is_digested
invariant_of-self-else-is_digested g c =
    let device = g.M.Media in
    let s = c.self.inside in
    let a = c.in-Some.away in
    let was : s.away ≡ Some a = grind arith in
    let from : IsAwayFrom device s.client a = subst (λ (o : Option (SealedRegionView _)). IsSeated device s.client o) was c.self.invariant in
    let no : c.is_digested.result ≡ false = cc in
    subst (λ (o : Option (SealedRegionView _)). IsSeated device s.client o) (sym c.put-else-is_digested.ensures)
    (next_from device c.args.kernel.now c.accept_region.new.kernel c.digest_next-outcome.new.kernel s.client s.life s.refused a c.accept_region.new.region c.digest_next-outcome.new.region c.digest_next-outcome.result c.is_digested.result from c.in-Ok.ensures.accepted c.digest_next-outcome.ensures.rest c.digest_next-outcome.ensures.came c.is_digested.ensures.exact no)

pub returns-then-is_digested-clause-carries : goal.returns-then-is_digested-clause-carries
returns-then-is_digested-clause-carries g c =
    let device = g.M.Media in
    let s = c.self.inside in
    let k = c.args.kernel.now in
    let a = c.in-Some.away in
    let was : s.away ≡ Some a = grind arith in
    let from : IsAwayFrom device s.client a = subst (λ (o : Option (SealedRegionView _)). IsSeated device s.client o) was c.self.invariant in
    let is = subst (λ (o : Option (SealedRegionView _)). record { client = s.client; away = o; refused = s.refused; life = s.life } ≡ c.args.self.now) was c.self.view_is in
    let unfailed : s.client.log.failed ≡ false = grind arith in
    let yes : c.is_digested.result ≡ true = cc in
    let gone : c.take.new.self ≡ None = grind arith in
    let of : Option (SealedRegionView _) → SeatView _ = λ o. record { client = c.take_back.new.client; away = o; refused = s.refused; life = s.life } in
    let o = c.digest_next-outcome.result in
    let after = c.digest_next-outcome.new.kernel in
    subst (λ (z : Option (SealedRegionView _)). Carries ((c.args.self.now.client.log.failed ≡ false) × (is_some c.args.self.now.away ≡ true)) (IsDigestedOn device k c.args.self.now o (of z) after) ((of z ≡ c.args.self.now) × (after ≡ k)) o) (sym gone)
    (subst (λ (v : SeatView _). Carries ((v.client.log.failed ≡ false) × (is_some v.away ≡ true)) (IsDigestedOn device k v o (of None) after) ((of None ≡ v) × (after ≡ k)) o) is
    (done o (chunk_done device k c.accept_region.new.kernel after s.client s.life s.refused a c.accept_region.new.region c.digest_next-outcome.new.region o c.is_digested.result from c.in-Ok.ensures.accepted c.digest_next-outcome.ensures.rest c.digest_next-outcome.ensures.came c.is_digested.ensures.exact) (unfailed, refl)
    (chunk_goes device k c.accept_region.new.kernel after s.client s.life s.refused a c.accept_region.new.region c.digest_next-outcome.new.region o c.is_digested.result from c.in-Ok.ensures.accepted c.digest_next-outcome.ensures.rest c.digest_next-outcome.ensures.came c.is_digested.ensures.exact yes c.take_back.new.client c.take_back.ensures)))

pub returns-else-is_digested-clause-carries : goal.returns-else-is_digested-clause-carries
returns-else-is_digested-clause-carries g c =
    let device = g.M.Media in
    let s = c.self.inside in
    let k = c.args.kernel.now in
    let a = c.in-Some.away in
    let was : s.away ≡ Some a = grind arith in
    let from : IsAwayFrom device s.client a = subst (λ (o : Option (SealedRegionView _)). IsSeated device s.client o) was c.self.invariant in
    let is = subst (λ (o : Option (SealedRegionView _)). record { client = s.client; away = o; refused = s.refused; life = s.life } ≡ c.args.self.now) was c.self.view_is in
    let unfailed : s.client.log.failed ≡ false = grind arith in
    let no : c.is_digested.result ≡ false = cc in
    let of : Option (SealedRegionView _) → SeatView _ = λ o. record { client = s.client; away = o; refused = s.refused; life = s.life } in
    let o = c.digest_next-outcome.result in
    let after = c.digest_next-outcome.new.kernel in
    subst (λ (z : Option (SealedRegionView _)). Carries ((c.args.self.now.client.log.failed ≡ false) × (is_some c.args.self.now.away ≡ true)) (IsDigestedOn device k c.args.self.now o (of z) after) ((of z ≡ c.args.self.now) × (after ≡ k)) o) (sym c.put-else-is_digested.ensures)
    (subst (λ (v : SeatView _). Carries ((v.client.log.failed ≡ false) × (is_some v.away ≡ true)) (IsDigestedOn device k v o (of (Some c.digest_next-outcome.new.region)) after) ((of (Some c.digest_next-outcome.new.region) ≡ v) × (after ≡ k)) o) is
    (done o (chunk_done device k c.accept_region.new.kernel after s.client s.life s.refused a c.accept_region.new.region c.digest_next-outcome.new.region o c.is_digested.result from c.in-Ok.ensures.accepted c.digest_next-outcome.ensures.rest c.digest_next-outcome.ensures.came c.is_digested.ensures.exact) (unfailed, refl)
    (chunk_stays device k c.accept_region.new.kernel after s.client s.life s.refused a c.accept_region.new.region c.digest_next-outcome.new.region o c.is_digested.result from c.in-Ok.ensures.accepted c.digest_next-outcome.ensures.rest c.digest_next-outcome.ensures.came c.is_digested.ensures.exact no)))

pub accept_region-requires-clause-some : goal.accept_region-requires-clause-some
accept_region-requires-clause-some g c =
    let device = g.M.Media in
    let s = c.self.inside in
    let was : s.away ≡ Some c.in-Some.away = grind arith in
    away_some device s.client c.in-Some.away (subst (λ (o : Option (SealedRegionView _)). IsSeated device s.client o) was c.self.invariant)

pub accept_region-requires-clause-none : goal.accept_region-requires-clause-none
accept_region-requires-clause-none g c =
    let device = g.M.Media in
    let s = c.self.inside in
    let was : s.away ≡ Some c.in-Some.away = grind arith in
    let from : IsAwayFrom device s.client c.in-Some.away = subst (λ (o : Option (SealedRegionView _)). IsSeated device s.client o) was c.self.invariant in
    from.none

pub digest_next-outcome-requires-clause-some : goal.digest_next-outcome-requires-clause-some
digest_next-outcome-requires-clause-some g c =
    let device = g.M.Media in
    let s = c.self.inside in
    let a = c.in-Some.away in
    let was : s.away ≡ Some a = grind arith in
    let from : IsAwayFrom device s.client a = subst (λ (o : Option (SealedRegionView _)). IsSeated device s.client o) was c.self.invariant in
    accepted_some device c.args.kernel.now c.accept_region.new.kernel a c.accept_region.new.region c.in-Ok.ensures.accepted (away_some device s.client a from)

pub take_back-requires : goal.take_back-requires
take_back-requires g c =
    let device = g.M.Media in
    let s = c.self.inside in
    let a = c.in-Some.away in
    let was : s.away ≡ Some a = grind arith in
    let from : IsAwayFrom device s.client a = subst (λ (o : Option (SealedRegionView _)). IsSeated device s.client o) was c.self.invariant in
    let yes : c.is_digested.result ≡ true = cc in
    record { may = may_take_back device c.args.kernel.now c.accept_region.new.kernel c.digest_next-outcome.new.kernel s.client s.life s.refused a c.accept_region.new.region c.digest_next-outcome.new.region c.digest_next-outcome.result c.is_digested.result from c.in-Ok.ensures.accepted c.digest_next-outcome.ensures.rest c.digest_next-outcome.ensures.came c.is_digested.ensures.exact yes }
