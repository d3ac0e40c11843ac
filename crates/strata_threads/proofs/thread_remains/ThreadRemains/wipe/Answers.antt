use Rattle.std.proofs.Common.{◌≡◌, ◌⊎◌, ap, arith, inl, inr, ⊎_elim, refl, sym, subst, ◌∙◌, true, None}
use Rattle.libfs.specs.RemainsView.{RemainsView}
use Rattle.strata_threads.proofs.LastCalls.{none_made}
use Rattle.strata_threads.proofs.thread_remains.ThreadRemains.wipe.Goals as goal

pub returns-in-Ok-None-clause-sound : goal.returns-in-Ok-None-clause-sound
returns-in-Ok-None-clause-sound g c = ⊎_elim (λ first. ap (λ (r : RemainsView g.row.M.Denot). r.client.log.failed) (sym first.1) ∙ c.in-Ok-None.ensures.sound.0) (λ is. is) c.loop-look.invariant.sound

pub loop-look-preserved : goal.loop-look-preserved
loop-look-preserved g c =
    let i = c.loop-look.invariant in
    let e = c.in-Ok-Some.ensures in
    record {
      rest = e.rest ∙ ap (λ (r : RemainsView g.row.M.Denot). record r { client = record r.client { log = c.wipe_step.new.self.client.log } }) i.rest;
      ends = i.ends;
      sound = inr (⊎_elim (λ first. ap (λ (r : RemainsView g.row.M.Denot). r.client.log.failed) (sym first.1) ∙ e.sound.0) (λ is. is) i.sound);
      nothing = λ all.
          let same = (i.nothing all).1 in
          absurd (none_made c.in-Ok-Some.field-0 c.in-Ok-Some.field-0-0 c.in-Ok-Some.field-0-is (e.nothing
          (ap (λ (r : RemainsView g.row.M.Denot). r.client.log.failed) same ∙ all.0)
          (ap (λ (r : RemainsView g.row.M.Denot). r.client.log.ready) same ∙ all.1)
          (subst (λ (r : RemainsView g.row.M.Denot). (r.client.log.clean ≡ true) ⊎ (r.client.log.other ≡ None)) (sym same) all.2)).0);
    }

pub loop-look-init : goal.loop-look-init
loop-look-init g c = record { rest = refl; ends = refl; sound = inl (refl, refl); nothing = λ all. (refl, refl) }

pub returns-clause-sound : goal.returns-clause-sound
returns-clause-sound g c = ⊎_elim (λ first. absurd (omega (arith, first.0, c.loop-look-test.false))) (λ is. is) c.loop-look.invariant.sound

pub returns-clause-nothing : goal.returns-clause-nothing
returns-clause-nothing g c = λ all. absurd (omega (arith, (c.loop-look.invariant.nothing all).0, c.loop-look-test.false))
