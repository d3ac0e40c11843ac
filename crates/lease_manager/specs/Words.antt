-- Where inodes and clients stand in the words.
use Rattle.std.specs.Prelude.{ℕ, ◌+◌, ◌-◌, ◌*◌, ◌%◌, ◌^◌, ◌≤◌, bit_or}

-- an inode has a lease word: they are numbered from 1 to 1,024
abbrev pub HasWord : ℕ → Type 0
HasWord ino = (1 ≤ ino) × (ino ≤ 1024)

-- clients are numbered from 1 to 8
abbrev pub IsClient : ℕ → Type 0
IsClient client = (1 ≤ client) × (client ≤ 8)

-- the place of an inode's lease word
abbrev pub lease_place : ℕ → ℕ
lease_place ino = ino - 1

-- the place of the word in which a client is asked for a row of inodes
abbrev pub asked_word : ℕ → ℕ → ℕ
asked_word client row = 1024 + 16 * (client - 1) + row

-- the number whose one bit is that of an inode in its row
abbrev pub asked_bit : ℕ → ℕ
asked_bit ino = 2 ^ ((ino - 1) % 64)

-- the number whose two bits are the marks of the client at place k in a lease word: to read, and 8 above it to write
abbrev pub both_marks : ℕ → ℕ
both_marks k = bit_or (2 ^ k) (2 ^ (8 + k))
