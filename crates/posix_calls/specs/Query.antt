-- Trusted: headline
-- What a call asks of a file tree, one question after another, and who answers.
use Rattle.std.specs.Prelude.{ℕ, List, length, Bool, true, false, Option, Result, Ok, Err, option_map}
use Rattle.posix_calls.specs.Content.{Entries, range}
use Rattle.posix_calls.specs.Tree.{Tree, bytes_of, names_of}
use Rattle.posix_calls.specs.Tree as tree
use Rattle.posix_calls.specs.declared.errno.Errno.{Errno}

-- a node as a call sees it: a file with the number of its names and of its bytes
pub data Seen : Type 0 where
  File : (names size : ℕ) → Seen
  Dir : (entries : Entries ℕ) → Seen

-- a result, an error, or a question whose answer decides what comes next
pub data Query (A : Type 0) : Type 0 where
  Gives : (x : A) → Query A
  Refuses : (e : Errno) → Query A
  -- whether an inode is a directory, none where it is no node
  IsDir : (i : ℕ) → (next : Option Bool → Query A) → Query A
  -- the node at an inode, if there is one
  Look : (i : ℕ) → (next : Option Seen → Query A) → Query A
  -- `count` bytes of the file at an inode from an offset on, or those that there are
  Range : (i at count : ℕ) → (next : List ℕ → Query A) → Query A

-- first these questions, then those that their result leads to
infixl 10 ◌>>=◌
unfoldable pub ◌>>=◌ : {A B : Type 0} → Query A → (A → Query B) → Query B
(Gives x) >>= f = f x
(Refuses e) >>= f = Refuses e
(IsDir i next) >>= f = IsDir i (λ o. next o >>= f)
(Look i next) >>= f = Look i (λ o. next o >>= f)
(Range i at count next) >>= f = Range i at count (λ bytes. next bytes >>= f)

-- ---- the whole answers every question

-- the answer to each question
pub record View : Type 0 where
  pub is_dir : ℕ → Option Bool
  pub node : ℕ → Option Seen
  pub bytes : ℕ → ℕ → ℕ → List ℕ

-- what the questions give
unfoldable pub run : {A : Type 0} → View → Query A → Result A Errno
run v (Gives x) = Ok x
run v (Refuses e) = Err e
run v (IsDir i next) = run v (next (v.is_dir i))
run v (Look i next) = run v (next (v.node i))
run v (Range i at count next) = run v (next (v.bytes i at count))

-- whether a node is a directory
abbrev pub dir_test : tree.Node → Bool
dir_test (tree.File bytes) = false
dir_test (tree.Dir entries) = true

-- a node of `names` names as it is seen
abbrev pub seen_node : ℕ → tree.Node → Seen
seen_node names (tree.File bytes) = File names (length bytes)
seen_node names (tree.Dir entries) = Dir entries

-- the answers of a tree: by its nodes, whose names are counted
abbrev pub view_of : Tree → View
view_of t = record {
  is_dir = λ i. option_map dir_test (t i);
  node = λ i. option_map (seen_node (names_of t i)) (t i);
  bytes = λ i at count. range at count (bytes_of (t i));
}

-- ---- someone who knows a part answers what it can
