use Rattle.std.proofs.Common.{◌≡◌, ◌+◌, ◌∙◌, true, false, ap, sym, arith, add-one}
use Rattle.posix_calls.specs.Tree.{any_up_to}
use Rattle.posix_calls.proofs.Sums.{any_there}
use Rattle.kernel_fs.specs.declared.account.ClientAccount.{ClientAccount}
use Rattle.kernel_fs.specs.Inodes.{has}
use Rattle.kernel_fs.specs.Book.{is_pinned, pins_of}
use Rattle.kernel_fs.proofs.Accounts.{none_yet, not_found, item_of}
use Rattle.kernel_fs.proofs.book.Book.is_pinned.Goals as goal

pub clients-init : goal.clients-init
clients-init c = none_yet _

pub clients-preserved : goal.clients-preserved
clients-preserved c =
    let here : pins_of c.args.self.now (c.clients.account-index + 1) c.args.inode ≡ false =
    ap (λ (x : ClientAccount). has x.pins c.args.inode) (item_of c.self.inside.accounts c.args.self.now c.clients.account-index c.account-item.result c.self.view_is c.self.invariant.0 c.clients-test.true)
    ∙ sym c.contains.ensures ∙ c.if-contains.false in
    not_found c.clients.account-index (c.clients.account-index + 1) (λ d. pins_of c.args.self.now d c.args.inode) (add-one c.clients.account-index) here c.clients.invariant

pub returns-then-contains : goal.returns-then-contains
unfolding is_pinned
returns-then-contains c =
    let here : pins_of c.args.self.now (c.clients.account-index + 1) c.args.inode ≡ true =
    ap (λ (x : ClientAccount). has x.pins c.args.inode) (item_of c.self.inside.accounts c.args.self.now c.clients.account-index c.account-item.result c.self.view_is c.self.invariant.0 c.clients-test.true)
    ∙ sym c.contains.ensures ∙ c.if-contains.true in
    sym (any_there 8 (c.clients.account-index + 1) (λ d. pins_of c.args.self.now d c.args.inode) (omega arith) (omega (arith, c.clients-test.true)) here)

pub returns : goal.returns
unfolding is_pinned
returns c =
    let all : 8 ≡ c.clients.account-index = omega (arith, c.clients-test.false, c.clients.auto.account-index-end) in
    sym (ap (λ n. any_up_to n (λ d. pins_of c.args.self.now d c.args.inode)) all ∙ c.clients.invariant)
