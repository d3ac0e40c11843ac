use Rattle.std.proofs.Common.{sym, ◌∙◌, ap, arith}
use Rattle.std.proofs.Math.Logic.{∥∥₁_map}
use Rattle.host_media.specs.FileRange.{range_begin, range_told}
use Rattle.host_media.specs.History.{History}
use Rattle.host_media.specs.TierHistory.{shown_now}
use Rattle.host_media.proofs.Covering.{synced_left, synced_shows, cover_sync, same_left}
use Rattle.host_media.proofs.mirror.Mirrored.sync.Goals as goal

pub invariant_of-self : goal.invariant_of-self
invariant_of-self c =
    let m = c.args.self.now in
    let f = m.host.past.history in
    let g = c.sync.new.self.past.history in
    let is = c.in_err-sync.ensures.lost in
    record {
      shows = m.shows;
      mirrors = λ t. m.mirrors t ∙ sym (ap (λ (x : History). shown_now x t) is);
      covered = ∥∥₁_map m.covered (λ covers t d left. covers t d (same_left f g is t d left));
      settled = λ t clean d left. m.settled t clean d (same_left f g is t d left);
      fits = let same = ap range_begin c.sync.ensures.range in omega (arith, same, m.fits);
      stands = λ _. ap range_told c.sync.ensures.range ∙ m.stands c.requires.works;
    }

pub invariant_of-self-2 : goal.invariant_of-self-2
invariant_of-self-2 c =
    let m = c.args.self.now in
    let f = m.host.past.history in
    let g = c.sync.new.self.past.history in
    let is = c.in_ok-sync.ensures.kept in
    record {
      shows = m.shows;
      mirrors = λ t. m.mirrors t ∙ sym (synced_shows f g is t);
      covered = ∣ cover_sync f g m.past.history is (λ t. sym (m.mirrors t) ∙ m.shows t) ∣₁;
      settled = λ t _ d left. synced_left f g is t d left ∙ sym (m.mirrors t);
      fits = let same = ap range_begin c.sync.ensures.range in omega (arith, same, m.fits);
      stands = λ _. ap range_told c.sync.ensures.range ∙ m.stands c.requires.works;
    }
