use Rattle.std.proofs.Common.{◌≡◌, ◌∙◌, ◌+◌, ap, sym, subst, arith}
use Rattle.kernel_fs.specs.declared.account.ClientAccount.{ClientAccount}
use Rattle.kernel_fs.specs.Book.{out_of, waiting_of, IsBookOf}
use Rattle.kernel_fs.specs.Account.{IsAccountOf}
use Rattle.kernel_fs.proofs.Accounts.{long_still, own_account, same_out, moved_accepted, read_own}
use Rattle.kernel_fs.proofs.book.Book.accept.Goals as goal

pub invariant_of-self : goal.invariant_of-self
invariant_of-self c = (long_still c.self.inside.accounts c.args.client c.client_index.result _ c.self.invariant.0 c.requires.client c.client_index.ensures.is, c.self.invariant.1 ∙ sym (same_out c.self.inside.accounts c.args.client c.client_index.result _ c.self.invariant.0 c.requires.client c.client_index.ensures.is c.index-self-client_index.result c.accept.ensures.units))

pub returns-clause-waiting : goal.returns-clause-waiting
returns-clause-waiting c = ap (λ (x : ClientAccount). x.waiting) (own_account c.self.inside.accounts c.args.client c.client_index.result _ c.self.invariant.0 c.requires.client c.client_index.ensures.is) ∙ c.accept.ensures.waiting

pub returns-clause-out : goal.returns-clause-out
returns-clause-out c = same_out c.self.inside.accounts c.args.client c.client_index.result _ c.self.invariant.0 c.requires.client c.client_index.ensures.is c.index-self-client_index.result c.accept.ensures.units ∙ ap out_of c.self.view_is

pub returns-clause-step : goal.returns-clause-step
returns-clause-step c = λ m s is behind count.
    let own : IsBookOf c.self.inside.accounts m = subst (λ b. IsBookOf b m) (sym c.self.view_is) is in
    let all : m.accepted c.args.client ≡ (m.kernel.accounts c.args.client).mark + waiting_of c.self.inside.accounts c.args.client = (own c.args.client c.requires.client).waiting in
    let none : waiting_of c.self.inside.accounts c.args.client ≡ 0 = ap (λ b. waiting_of b c.args.client) c.self.view_is ∙ c.requires.before in
    moved_accepted c.self.inside.accounts c.args.client c.client_index.result _ c.self.invariant.0 c.requires.client c.client_index.ensures.is m _ _ own
    (c.accept.ensures.step (m.kernel.accounts c.args.client) (m.accepted c.args.client) (subst (λ x. IsAccountOf x (m.kernel.accounts c.args.client) (m.accepted c.args.client)) (sym (read_own c.self.inside.accounts c.args.client c.client_index.result c.index-self-client_index.result c.self.invariant.0 c.requires.client c.client_index.ensures.is)) (own c.args.client c.requires.client)))
    (omega (arith, all, none, behind, count))
