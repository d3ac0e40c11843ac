use Rattle.std.proofs.Common.{ap, refl}
use Rattle.std.specs.Prelude.{Ok}
use Rattle.libfs.specs.kernel_fs.KernelView.{KernelView}
use Rattle.libfs.specs.kernel_fs.declared.chunk_digest.Digestion.{Digestion}
use Rattle.libfs.specs.kernel_fs.declared.chunk_digest.Digestion.TheVariants as digestion
use Rattle.libfs.specs.digester.declared.error.DigestError.TheVariants as digests
use Rattle.libfs.specs.kernel_fs.declared.error.KernelError.TheVariants as kernel
use Rattle.libfs.specs.SealedRegion.{log_of}
use Rattle.event_steps.proofs.Chunks.{next_run, ok_is_none, same_ok}
use Rattle.event_steps.proofs.digests.digest_prepared.Goals as goal

pub returns-in-Ok-clause-came : goal.returns-in-Ok-clause-came
returns-in-Ok-clause-came g c =
    let d = c.in-Ok.digestion in
    let e = c.in-Ok.ensures.digests in (
      Ok d,
      c.digestion_outcome.ensures,
      record {
        run = next_run (log_of g.M.Media c.args.region.now) c.args.chunk.now c.requires.chunk c.requires.next;
        any_moment = λ going at waiting. e.any_moment going (c.requires.next, at) waiting;
        digested = λ is. e.digested (same_ok d digestion.Digested is);
        done = λ is. e.done (same_ok d digestion.Digested is);
        at_mark = λ is. e.at_mark (same_ok d digestion.Digested is);
        waiting = λ is. ((e.next.0 (same_ok d digestion.Digested is)).1, e.accepted (same_ok d digestion.Digested is));
        step = λ is. e.step (same_ok d digestion.Digested is);
        stays = λ other.
            let same = e.not_digested (λ is. other (ap (λ (x : Digestion). Ok x) is)) in
            (same.1, ap (λ (k : KernelView _). k.book) same.0);
        law = λ _. e.law;
        unasked = λ other. (e.not_digested other).0;
        not_next = λ is at. (e.not_next.0 (same_ok d digestion.NotNext is)) (c.requires.next, at);
        not_accepted = λ is. let both = e.not_accepted.0 (same_ok d digestion.NotAccepted is) in (both.0.1, both.1);
        only_next = tt;
        bad = tt;
        never_bad = λ m s place is running region stands bad. absurd (ok_is_none d (kernel.Refused (digests.BadLog place)) bad);
        answers = e.answers;
        at_most = (c.args.chunk.now, c.requires.chunk, refl, e.at_most);
        opening = e.opening;
      },
    )
