use Rattle.std.proofs.Common.{◌≡◌, ◌∙◌, set, min, ap, sym, subst, arith}
use Rattle.world_invariant.specs.Logs.{units_in}
use Rattle.kernel_fs.specs.declared.account.ClientAccount.{ClientAccount}
use Rattle.kernel_fs.specs.Book.{out_of, units_of, waiting_of, IsBookOf}
use Rattle.kernel_fs.specs.Account.{IsAccountOf}
use Rattle.kernel_fs.proofs.Accounts.{long_still, own_account, less_left, less_out, moved_account, read_own, within_out, still_fits}
use Rattle.kernel_fs.proofs.book.Book.digest.Goals as goal

pub overflow_sub-self : goal.overflow_sub-self
overflow_sub-self c =
    let within : _ = within_out c.self.inside.accounts c.args.client c.client_index.result c.index-self-client_index.result c.self.invariant.0 c.requires.client c.client_index.ensures.is in
    let less : _ = c.digest-given.ensures.units in
    omega (arith, within, less, c.self.invariant.1)

pub invariant_of-self : goal.invariant_of-self
invariant_of-self c = (long_still c.self.inside.accounts c.args.client c.client_index.result _ c.self.invariant.0 c.requires.client c.client_index.ensures.is, less_left c.self.inside.accounts c.args.client c.client_index.result _ c.self.invariant.0 c.requires.client c.client_index.ensures.is c.index-self-client_index.result c.self.inside.out c.digest-given.result c.self.invariant.1 c.digest-given.ensures.units)

pub returns-clause-out : goal.returns-clause-out
returns-clause-out c =
    let given : c.digest-given.result ≡ min (units_in c.args.records.now) (units_of c.args.self.now c.args.client) = c.digest-given.ensures.given ∙ ap (λ (x : ClientAccount). min (units_in c.args.records.now) x.units) (read_own c.self.inside.accounts c.args.client c.client_index.result c.index-self-client_index.result c.self.invariant.0 c.requires.client c.client_index.ensures.is) ∙ ap (λ b. min (units_in c.args.records.now) (units_of b c.args.client)) c.self.view_is in
    less_out c.self.inside.accounts c.args.client c.client_index.result _ c.self.invariant.0 c.requires.client c.client_index.ensures.is c.index-self-client_index.result c.digest-given.result _ c.digest-given.ensures.units (sym given) ∙ ap out_of c.self.view_is

pub returns-clause-law : goal.returns-clause-law
returns-clause-law c = λ before after capacity paid raised fits. still_fits _ (out_of c.args.self.now) (units_in c.args.records.now) (units_of c.args.self.now c.args.client) before after capacity (returns-clause-out c) paid raised fits

pub digest-given-requires : goal.digest-given-requires
digest-given-requires c =
    let own : _ = ap (λ (x : ClientAccount). x.waiting) (read_own c.self.inside.accounts c.args.client c.client_index.result c.index-self-client_index.result c.self.invariant.0 c.requires.client c.client_index.ensures.is) in
    let same : waiting_of c.self.inside.accounts c.args.client ≡ waiting_of c.args.self.now c.args.client = ap (λ b. waiting_of b c.args.client) c.self.view_is in
    let few : _ = c.requires.waiting in
    omega (arith, own, same, few)

pub returns-clause-step : goal.returns-clause-step
returns-clause-step c = λ m is.
    let own : IsBookOf c.self.inside.accounts m = subst (λ b. IsBookOf b m) (sym c.self.view_is) is in
    moved_account c.self.inside.accounts c.args.client c.client_index.result _ c.self.invariant.0 c.requires.client c.client_index.ensures.is m _ own
    (c.digest-given.ensures.step (m.kernel.accounts c.args.client) (m.accepted c.args.client) (subst (λ x. IsAccountOf x (m.kernel.accounts c.args.client) (m.accepted c.args.client)) (sym (read_own c.self.inside.accounts c.args.client c.client_index.result c.index-self-client_index.result c.self.invariant.0 c.requires.client c.client_index.ensures.is)) (own c.args.client c.requires.client)))

pub returns-clause-waiting : goal.returns-clause-waiting
returns-clause-waiting c =
    let a : ClientAccount = c.digest-given.new.self in
    let now : waiting_of (set c.self.inside.accounts c.client_index.result a) c.args.client ≡ a.waiting = ap (λ (x : ClientAccount). x.waiting) (own_account c.self.inside.accounts c.args.client c.client_index.result a c.self.invariant.0 c.requires.client c.client_index.ensures.is) in
    let own : _ = ap (λ (x : ClientAccount). x.waiting) (read_own c.self.inside.accounts c.args.client c.client_index.result c.index-self-client_index.result c.self.invariant.0 c.requires.client c.client_index.ensures.is) in
    let same : waiting_of c.self.inside.accounts c.args.client ≡ waiting_of c.args.self.now c.args.client = ap (λ b. waiting_of b c.args.client) c.self.view_is in
    let less : _ = c.digest-given.ensures.waiting in
    omega (arith, now, own, same, less)
