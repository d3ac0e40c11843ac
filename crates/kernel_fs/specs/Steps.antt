-- The kernel's machine as it is opened, and its steps that are made of several: units and numbers at once.
use Rattle.std.specs.Prelude.{ℕ, ◌+◌, ◌-◌, List, [], ◌∷◌, Bool, ◌&&◌, ◌||◌, not}
use Rattle.world_invariant.specs.file_graph.Graph.{Graph}
use Rattle.world_invariant.specs.Machine.{Machine, with_account, book_number, unbook_number}
use Rattle.world_invariant.specs.FormatWorld.{idle_account}

-- a machine that was just opened over a graph, where so many records of each client were ever digested: all that were accepted
abbrev pub opened_machine : Graph → ℕ → (ℕ → ℕ) → Machine
opened_machine g capacity marks = record { kernel = record { shared = g; capacity = capacity; accounts = λ c. idle_account (marks c) }; accepted = marks }

-- units and numbers are granted
abbrev pub grant : Machine → ℕ → ℕ → (ℕ → Bool) → Machine
grant m c units numbers = with_account m c (record (m.kernel.accounts c) { units = (m.kernel.accounts c).units + units; numbers = λ i. (m.kernel.accounts c).numbers i || numbers i })

-- they are given back
abbrev pub take_back : Machine → ℕ → ℕ → (ℕ → Bool) → Machine
take_back m c units numbers = with_account m c (record (m.kernel.accounts c) { units = (m.kernel.accounts c).units - units; numbers = λ i. (m.kernel.accounts c).numbers i && not (numbers i) })

-- ---- one after the other

abbrev pub book_numbers : Machine → ℕ → List ℕ → Machine
book_numbers m c [] = m
book_numbers m c (i ∷ is) = book_number (book_numbers m c is) c i

abbrev pub unbook_numbers : Machine → ℕ → List ℕ → Machine
unbook_numbers m c [] = m
unbook_numbers m c (i ∷ is) = unbook_number (unbook_numbers m c is) c i
