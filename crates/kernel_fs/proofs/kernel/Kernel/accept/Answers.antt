use Rattle.std.proofs.Common.{◌≡◌, ◌∙◌, ℕ, ap, sym, subst, refl}
use Rattle.migrator.specs.area_reader.Store.{disk}
use Rattle.digester.specs.SealedLog.{StandsAtMark}
use Rattle.world_invariant.specs.Machine.{accept, Sealed}
use Rattle.kernel_fs.specs.Book.{IsBookOf, waiting_of}
use Rattle.kernel_fs.specs.declared.account.ClientAccount.{ClientAccount}
use Rattle.kernel_fs.specs.KernelView.{KernelView}
use Rattle.kernel_fs.specs.MachineState.{IsKernelOf}
use Rattle.kernel_fs.proofs.Digested.{accepted_kernel, its_region, may_accept, whole}
use Rattle.kernel_fs.proofs.Generations.{own_generation}
use Rattle.kernel_fs.proofs.Runs.{goes_on, region_of}
use Rattle.kernel_fs.specs.Run as entry
use Rattle.kernel_fs.proofs.kernel.Kernel.accept.Goals as goal

pub returns-clause-step : goal.returns-clause-step
returns-clause-step g c = λ m s is past records.
    let device = g.M.Media in
    let x = c.args.log.now in
    let area = c.self.inside.area in
    let book = c.self.inside.book in
    let own = subst (λ (v : KernelView _). IsKernelOf device v m) (sym c.self.view_is) is in
    let going : _ = sym c.has_failed.ensures ∙ c.if-has_failed.false in
    let at : StandsAtMark x (disk device area) = (c.marks.result, c.marks.ensures going, c.stands_at.ensures.exact.0 c.if-not-stands_at.false) in
    let client : c.client-client.result ≡ x.client = c.client-client.ensures in
    let none : waiting_of book x.client ≡ 0 = sym (ap (waiting_of book) client) ∙ sym (ap (λ (a : ClientAccount). a.waiting) c.account.ensures) ∙ c.if-account-ne0.false in
    accepted_kernel x c.invariant.ensures c.requires.some device area book m own none at c.accept.new.self s past records
    (subst (λ (k : ℕ). IsBookOf c.accept.new.self (accept m k s)) client
    (c.accept.ensures.step m s own.book (ap m.accepted client ∙ past) (whole x c.invariant.ensures c.requires.some device area book m own none at s records ∙ sym c.undigested_count.ensures)))

pub returns-clause-booked : goal.returns-clause-booked
returns-clause-booked g c = λ m s is past many.
    let client : c.client-client.result ≡ c.args.log.now.client = c.client-client.ensures in
    subst (λ (k : ℕ). IsBookOf c.accept.new.self (accept m k s)) client
    (c.accept.ensures.step m s (subst (λ (v : KernelView _). IsBookOf v.book m) (sym c.self.view_is) is) (ap m.accepted client ∙ past) (many ∙ sym c.undigested_count.ensures))

pub returns-clause-can : goal.returns-clause-can
returns-clause-can g c = λ m s is past records.
    let device = g.M.Media in
    let x = c.args.log.now in
    let area = c.self.inside.area in
    let book = c.self.inside.book in
    let own = subst (λ (v : KernelView _). IsKernelOf device v m) (sym c.self.view_is) is in
    let going : _ = sym c.has_failed.ensures ∙ c.if-has_failed.false in
    let at : StandsAtMark x (disk device area) = (c.marks.result, c.marks.ensures going, c.stands_at.ensures.exact.0 c.if-not-stands_at.false) in
    let client : c.client-client.result ≡ x.client = c.client-client.ensures in
    let none : waiting_of book x.client ≡ 0 = sym (ap (waiting_of book) client) ∙ sym (ap (λ (a : ClientAccount). a.waiting) c.account.ensures) ∙ c.if-account-ne0.false in
    may_accept x c.invariant.ensures c.requires.some device area book m own none at s past records

pub returns-clause-region : goal.returns-clause-region
returns-clause-region g c = λ m s is past records writes.
    let device = g.M.Media in
    let x = c.args.log.now in
    let area = c.self.inside.area in
    let book = c.self.inside.book in
    let own = subst (λ (v : KernelView _). IsKernelOf device v m) (sym c.self.view_is) is in
    let going : _ = sym c.has_failed.ensures ∙ c.if-has_failed.false in
    let at : StandsAtMark x (disk device area) = (c.marks.result, c.marks.ensures going, c.stands_at.ensures.exact.0 c.if-not-stands_at.false) in
    let client : c.client-client.result ≡ x.client = c.client-client.ensures in
    let none : waiting_of book x.client ≡ 0 = sym (ap (waiting_of book) client) ∙ sym (ap (λ (a : ClientAccount). a.waiting) c.account.ensures) ∙ c.if-account-ne0.false in
    its_region x c.invariant.ensures c.requires.some device area book m own none at s past records writes

pub invariant_of-self : goal.invariant_of-self
invariant_of-self g c = λ still.
    let going : _ = sym c.has_failed.ensures ∙ c.if-has_failed.false in
    let inside = c.self.invariant going in
    let device = g.M.Media in
    let x = c.args.log.now in
    let area = c.self.inside.area in
    let book = c.self.inside.book in
    let at : StandsAtMark x (disk device area) = (c.marks.result, c.marks.ensures going, c.stands_at.ensures.exact.0 c.if-not-stands_at.false) in
    let client : c.client-client.result ≡ x.client = c.client-client.ensures in
    let none : waiting_of book x.client ≡ 0 = sym (ap (waiting_of book) client) ∙ sym (ap (λ (a : ClientAccount). a.waiting) c.account.ensures) ∙ c.if-account-ne0.false in (
      inside.0,
      goes_on device c.self.inside.began area area book c.accept.new.self (λ r. entry.Accept x.client x.generation (region_of x (r.machine.accepted x.client))) (λ r is named.
          let m = r.machine in
          let s : Sealed = region_of x (m.accepted x.client) in (
            (may_accept x c.invariant.ensures c.requires.some device area book m is none at s refl refl, sym (named x.client c.invariant.ensures.client ∙ own_generation x c.requires.some (disk device area) at)),
            accepted_kernel x c.invariant.ensures c.requires.some device area book m is none at c.accept.new.self s refl refl
                (subst (λ (k : ℕ). IsBookOf c.accept.new.self (accept m k s)) client
                (c.accept.ensures.step m s is.book (ap m.accepted client) (whole x c.invariant.ensures c.requires.some device area book m is none at s refl ∙ sym c.undigested_count.ensures))),
            named,
          )) inside.1,
    )
