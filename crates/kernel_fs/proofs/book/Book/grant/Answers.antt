use Rattle.std.proofs.Common.{◌≡◌, ◌+◌, ◌∙◌, ap, sym, subst, arith}
use Rattle.kernel_fs.specs.Book.{out_of, IsBookOf}
use Rattle.kernel_fs.specs.Account.{IsAccountOf}
use Rattle.kernel_fs.proofs.Accounts.{long_still, more_out, moved_account, read_own, within_out}
use Rattle.kernel_fs.proofs.book.Book.grant.Goals as goal

pub grant-requires : goal.grant-requires
grant-requires c =
    let within : _ = within_out c.self.inside.accounts c.args.client c.client_index.result c.index-self-client_index.result c.self.invariant.0 c.requires.client c.client_index.ensures.is in
    let same : out_of c.self.inside.accounts ≡ out_of c.args.self.now = ap out_of c.self.view_is in
    let fits : _ = c.requires.fits in
    omega (arith, within, same, fits)

pub invariant_of-self : goal.invariant_of-self
invariant_of-self c = (long_still c.self.inside.accounts c.args.client c.client_index.result _ c.self.invariant.0 c.requires.client c.client_index.ensures.is, ap (λ n. n + c.args.units) c.self.invariant.1 ∙ sym (more_out c.self.inside.accounts c.args.client c.client_index.result _ c.self.invariant.0 c.requires.client c.client_index.ensures.is c.index-self-client_index.result c.args.units c.grant.ensures.units))

pub returns-clause-out : goal.returns-clause-out
returns-clause-out c = more_out c.self.inside.accounts c.args.client c.client_index.result _ c.self.invariant.0 c.requires.client c.client_index.ensures.is c.index-self-client_index.result c.args.units c.grant.ensures.units ∙ ap (λ b. out_of b + c.args.units) c.self.view_is

pub returns-clause-step : goal.returns-clause-step
returns-clause-step c = λ m is.
    let own : IsBookOf c.self.inside.accounts m = subst (λ b. IsBookOf b m) (sym c.self.view_is) is in
    moved_account c.self.inside.accounts c.args.client c.client_index.result _ c.self.invariant.0 c.requires.client c.client_index.ensures.is m _ own
    (c.grant.ensures.step (m.kernel.accounts c.args.client) (m.accepted c.args.client) (subst (λ x. IsAccountOf x (m.kernel.accounts c.args.client) (m.accepted c.args.client)) (sym (read_own c.self.inside.accounts c.args.client c.client_index.result c.index-self-client_index.result c.self.invariant.0 c.requires.client c.client_index.ensures.is)) (own c.args.client c.requires.client)))
