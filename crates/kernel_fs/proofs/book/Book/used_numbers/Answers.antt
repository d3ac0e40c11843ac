use Rattle.std.proofs.Common.{◌≡◌, ◌+◌, ◌∙◌, ◌||◌, ◌==◌, ap, sym, arith, add-one, get_or}
use Rattle.posix_calls.specs.Tree.{any_up_to}
use Rattle.kernel_fs.specs.declared.account.ClientAccount.{ClientAccount}
use Rattle.kernel_fs.specs.Inodes.{has}
use Rattle.kernel_fs.specs.Book.{is_granted, numbers_of}
use Rattle.kernel_fs.proofs.Accounts.{none_yet, found_more, item_of, or_swap, free_absent}
use Rattle.kernel_fs.proofs.book.Book.used_numbers.Goals as goal

pub clients-init : goal.clients-init
clients-init c = λ i. c.new-taken.ensures i ∙ sym (none_yet _)

pub clients-preserved : goal.clients-preserved
clients-preserved c = λ i.
    c.insert_all.ensures i ∙ or_swap (has c.clients.taken i) (has (get_or c.self.inside.accounts c.clients.account-index c.account-item.result).numbers i)
    ∙ ap (λ b. b || has c.clients.taken i) (sym (ap (λ (x : ClientAccount). has x.numbers i) (item_of c.self.inside.accounts c.args.self.now c.clients.account-index c.account-item.result c.self.view_is c.self.invariant.0 c.clients-test.true)))
    ∙ ap (λ b. numbers_of c.args.self.now (c.clients.account-index + 1) i || b) (c.clients.invariant i)
    ∙ sym (found_more c.clients.account-index (c.clients.account-index + 1) (λ d. numbers_of c.args.self.now d i) (add-one c.clients.account-index))

pub returns : goal.returns
unfolding is_granted
returns c = λ i.
    let all : c.clients.account-index ≡ 8 = omega (arith, c.clients-test.false, c.clients.auto.account-index-end) in
    free_absent (has c.insert.new.self) (has c.args.nodes.now) (is_granted c.args.self.now i) i
    (c.insert.ensures i ∙ ap (λ b. i == 1 || b) (c.insert_all-2.ensures i)
    ∙ ap (λ b. i == 1 || (b || has c.args.nodes.now i)) (c.clients.invariant i ∙ ap (λ n. any_up_to n (λ d. numbers_of c.args.self.now d i)) all))
