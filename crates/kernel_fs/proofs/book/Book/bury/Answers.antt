use Rattle.std.proofs.Common.{◌≡◌, ◌∙◌, ap, sym, subst, arith}
use Rattle.kernel_fs.specs.declared.account.ClientAccount.{ClientAccount}
use Rattle.kernel_fs.specs.Book.{out_of, units_of, IsBookOf}
use Rattle.kernel_fs.specs.Account.{IsAccountOf}
use Rattle.kernel_fs.proofs.Accounts.{long_still, less_left, less_out, moved_account, read_own, within_out}
use Rattle.kernel_fs.proofs.book.Book.bury.Goals as goal

pub overflow_sub-self : goal.overflow_sub-self
overflow_sub-self c =
    let within : _ = within_out c.self.inside.accounts c.args.client c.client_index.result c.index-self-client_index.result c.self.invariant.0 c.requires.client c.client_index.ensures.is in
    let less : _ = c.bury-given.ensures.given in
    omega (arith, within, less, c.self.invariant.1)

pub invariant_of-self : goal.invariant_of-self
invariant_of-self c = (long_still c.self.inside.accounts c.args.client c.client_index.result _ c.self.invariant.0 c.requires.client c.client_index.ensures.is, less_left c.self.inside.accounts c.args.client c.client_index.result _ c.self.invariant.0 c.requires.client c.client_index.ensures.is c.index-self-client_index.result c.self.inside.out c.bury-given.result c.self.invariant.1 (omega (arith, c.bury-given.ensures.units, c.bury-given.ensures.given)))

pub returns-clause-out : goal.returns-clause-out
returns-clause-out c =
    let given : c.bury-given.result ≡ units_of c.args.self.now c.args.client = c.bury-given.ensures.given ∙ ap (λ (x : ClientAccount). x.units) (read_own c.self.inside.accounts c.args.client c.client_index.result c.index-self-client_index.result c.self.invariant.0 c.requires.client c.client_index.ensures.is) ∙ ap (λ b. units_of b c.args.client) c.self.view_is in
    less_out c.self.inside.accounts c.args.client c.client_index.result _ c.self.invariant.0 c.requires.client c.client_index.ensures.is c.index-self-client_index.result c.bury-given.result _ (omega (arith, c.bury-given.ensures.units, c.bury-given.ensures.given)) (sym given) ∙ ap out_of c.self.view_is

pub returns-clause-step : goal.returns-clause-step
returns-clause-step c = λ m is.
    let own : IsBookOf c.self.inside.accounts m = subst (λ b. IsBookOf b m) (sym c.self.view_is) is in
    moved_account c.self.inside.accounts c.args.client c.client_index.result _ c.self.invariant.0 c.requires.client c.client_index.ensures.is m _ own
    (c.bury-given.ensures.step (m.kernel.accounts c.args.client) (m.accepted c.args.client) (subst (λ x. IsAccountOf x (m.kernel.accounts c.args.client) (m.accepted c.args.client)) (sym (read_own c.self.inside.accounts c.args.client c.client_index.result c.index-self-client_index.result c.self.invariant.0 c.requires.client c.client_index.ensures.is)) (own c.args.client c.requires.client)))
