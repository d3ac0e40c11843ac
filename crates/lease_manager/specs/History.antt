-- The steps of all clients in one order, and what clients were asked and heard in it. The newest step stands first.
use Rattle.std.specs.Prelude.{◌≡◌, ◌≢◌, ℕ, ◌+◌, ◌*◌, ◌<◌, ◌≤◌, ◌==◌, if◌then◌else◌, List, [], ◌∷◌, ◌++◌, bit_or}
use Rattle.std.specs.Int.{bit_at}
use Rattle.lease_manager.specs.declared.view.Event.{Event}
use Rattle.lease_manager.specs.declared.view.Event.TheVariants.{Took, Refused, Gave, Looked, Asked, Heard}

-- a step, with the place of the client that made it
abbrev pub Entry : Type 0
Entry = ℕ × Event

-- the steps of the client at place c
abbrev pub steps_by : ℕ → List Entry → List Event
steps_by c [] = []
steps_by c (x ∷ older) = if x.0 == c then x.1 ∷ steps_by c older else steps_by c older

-- the number of an asked word after a step: a question comes in beside the others, and a hearing takes all of them out
abbrev pub asked_after : ℕ → Event → ℕ → ℕ
asked_after word (Took at mode) n = n
asked_after word (Refused at found) n = n
asked_after word (Gave at) n = n
asked_after word (Looked at found) n = n
asked_after word (Asked at bits) n = if at == word then bit_or n bits else n
asked_after word (Heard at found) n = if at == word then 0 else n

-- what was asked in that word since it was last heard
abbrev pub unheard : ℕ → List Entry → ℕ
unheard word [] = 0
unheard word (x ∷ older) = asked_after word x.1 (unheard word older)

-- the word is one of the 16 in which the client at place c is asked
abbrev pub IsAskedOf : ℕ → ℕ → Type 0
IsAskedOf c word = (1024 + 16 * c ≤ word) × (word < 1040 + 16 * c)

-- after these older steps the client at place c may make this one: it hears what was asked in a word of its own since that was last heard
abbrev pub MayFollow : List Entry → ℕ → Event → Type 0
MayFollow older c (Took at mode) = Unit {0}
MayFollow older c (Refused at found) = Unit {0}
MayFollow older c (Gave at) = Unit {0}
MayFollow older c (Looked at found) = Unit {0}
MayFollow older c (Asked at bits) = Unit {0}
MayFollow older c (Heard at found) = IsAskedOf c at × (found ≡ unheard at older)

-- each step may follow the steps before it
abbrev pub IsHistory : List Entry → Type 0
IsHistory [] = Unit {0}
IsHistory (x ∷ older) = MayFollow older x.0 x.1 × IsHistory older

-- no one of these steps hears that word
abbrev pub NoneHears : List Entry → ℕ → Type 0
NoneHears [] word = Unit {0}
NoneHears (x ∷ older) word = ((found : ℕ) → x.1 ≢ Heard word found) × NoneHears older word

-- in that word the inode of that bit was asked for
abbrev pub IsAsked : List Entry → ℕ → ℕ → Type 0
IsAsked steps word bit =
    (newer : List Entry) × (older : List Entry) × (c : ℕ) × (bits : ℕ) × (steps ≡ newer ++ (c, Asked word bits) ∷ older) × (bit_at bits bit ≡ 1)

-- it was asked for, and not heard since
abbrev pub IsWaiting : List Entry → ℕ → ℕ → Type 0
IsWaiting steps word bit =
    (newer : List Entry) × (older : List Entry) × (c : ℕ) × (bits : ℕ) × (steps ≡ newer ++ (c, Asked word bits) ∷ older) × (bit_at bits bit ≡ 1) × NoneHears newer word
