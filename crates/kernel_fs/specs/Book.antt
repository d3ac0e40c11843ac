-- What the book has of each client, and the machine whose accounts it keeps.
use Rattle.std.specs.Prelude.{◌≡◌, ℕ, ◌-◌, ◌≤◌, List, [], get_or, Bool, true, ◌&&◌, ◌||◌, not, nat_le}
use Rattle.posix_calls.specs.Tree.{any_up_to, sum_up_to}
use Rattle.posix_calls.specs.Operations.{is_client}
use Rattle.posix_calls.specs.declared.limits.TheConstants.{MAX_INODE, MAX_CLIENTS}
use Rattle.world_invariant.specs.Machine.{Machine}
use Rattle.kernel_fs.specs.Account.{IsAccountOf}
use Rattle.kernel_fs.specs.Inodes.{has}
use Rattle.kernel_fs.specs.declared.account.ClientAccount.{ClientAccount}

-- the accounts of clients 1 to 8
abbrev pub Accounts : Type 0
Accounts = List ClientAccount

-- nothing is out
abbrev pub empty_account : ClientAccount
empty_account = record { units = 0; waiting = 0; numbers = []; pins = [] }

-- the account of a client
abbrev pub account_of : Accounts → ℕ → ClientAccount
account_of book c = get_or book (c - 1) empty_account

-- the units that a client was given and that are not digested
abbrev pub units_of : Accounts → ℕ → ℕ
units_of book c = (account_of book c).units

-- the numbers that it was given, until the record that makes the node is digested
abbrev pub numbers_of : Accounts → ℕ → ℕ → Bool
numbers_of book c i = has (account_of book c).numbers i

abbrev pub pins_of : Accounts → ℕ → ℕ → Bool
pins_of book c i = has (account_of book c).pins i

-- how many of the records that were accepted are not digested
abbrev pub waiting_of : Accounts → ℕ → ℕ
waiting_of book c = (account_of book c).waiting

-- a client's account has so many units, and these numbers
abbrev pub HasThese : Accounts → ℕ → ℕ → (ℕ → Bool) → Type 0
HasThese book c units numbers = (units ≤ units_of book c) × ((i : ℕ) → numbers i ≡ true → numbers_of book c i ≡ true)

-- ---- of all clients

-- the units that are out
unfoldable pub out_of : Accounts → ℕ
out_of book = sum_up_to MAX_CLIENTS (λ c. units_of book c)

-- whether a number is in some account
unfoldable pub is_granted : Accounts → ℕ → Bool
is_granted book i = any_up_to MAX_CLIENTS (λ c. numbers_of book c i)

-- whether some client has pinned an inode
unfoldable pub is_pinned : Accounts → ℕ → Bool
is_pinned book i = any_up_to MAX_CLIENTS (λ c. pins_of book c i)

-- a number is free that is past the root's, of no node, and in no account
abbrev pub is_free : Accounts → (ℕ → Bool) → ℕ → Bool
is_free book nodes i = (nat_le 2 i && nat_le i MAX_INODE) && not (nodes i || is_granted book i)

-- ---- the machine

-- the book has the accounts of the machine's clients
abbrev pub IsBookOf : Accounts → Machine → Type 0
IsBookOf book m = (c : ℕ) → is_client c ≡ true → IsAccountOf (account_of book c) (m.kernel.accounts c) (m.accepted c)
